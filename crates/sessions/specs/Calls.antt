-- A call under an accepted policy: what code holds of the policy, the refusals that a call on a line and one on a
-- session can give first, and what a host gets.
-- Assumes nothing.
use Rattle.std.specs.Prelude.{◌≡◌, not, List, [], ℕ, ◌*◌, ◌^◌, ◌<◌, eqb, ltb, leb, get_or, length, take}
use Rattle.model.specs.declared.Head.{Head}
use Rattle.model.specs.declared.Exclusions.{Exclusions}
use Rattle.model.specs.declared.Line.{Line}
use Rattle.model.specs.Tests.{pick}
use Rattle.model.specs.Policy.{Policy, authorized, meaning}
use Rattle.model.specs.Line.{line_size, is_open, sound}
use Rattle.model.specs.Run.{line_of, Event, returned, answered}
use Rattle.exclusion_rows.specs.Table.{exclusions_of}
use Rattle.policy_tables.specs.declared.PolicyTables.{PolicyTables}

-- the head, the roles that each user may activate, a word a user, and the exclusions are those of the policy
pub record Known (head : Head) (own : List ℕ) (xs : Exclusions) (p : Policy) : Type 0 where
  pub head_is : p.head ≡ head
  pub own_is : (u : ℕ) → u < p.head.users → get_or own u 0 < 2 ^ 64 → get_or own u 0 ≡ authorized p u
  pub exclusions_are : take xs.count xs.list ≡ p.exclusions

-- what the tables of a policy hold so
abbrev pub KnownBy : PolicyTables → Policy → Type 0
KnownBy t p = Known t.head t.authorized (exclusions_of t.exclusions) p

-- a policy that has these parts: the roles assigned, and no senior word
unfoldable pub policy_by : Head → List ℕ → Exclusions → Policy
policy_by head own xs =
    record { head = head; assigned = own; granted = []; juniors = []; exclusions = take xs.count xs.list; limits = [] }

-- 9 for a ledger that does not fit, 10 for a user without a line, 11 for a line that is not sound, else 0
unfoldable pub first_refusal : ℕ → Policy → List ℕ → ℕ → ℕ
first_refusal W p ledger u =
    pick (not (eqb (length ledger) (line_size W * p.head.users))) 9
    (pick (not (ltb u p.head.users)) 10 (pick (not (sound W (meaning p u) (line_of W ledger u))) 11 0))

-- 12 for no such session of the line, 13 for a closed one, else 0
unfoldable pub session_refusal : ℕ → Line → ℕ → ℕ
session_refusal W l k = pick (leb W k) 12 (pick (not (is_open l k)) 13 0)

-- the number returned and the ledger after the call are the event's
pub record Gives (e : Event) (n : ℕ) (ledger : List ℕ) : Type 0 where
  pub number : n ≡ returned e.reply
  pub bytes : ledger ≡ e.ledger

-- the number returned and the answer buffer after the call are the event's; the room is the buffer before
pub record Shows (e : Event) (n : ℕ) (room answer : List ℕ) : Type 0 where
  pub number : n ≡ returned e.reply
  pub buffer : answer ≡ answered room e.reply
