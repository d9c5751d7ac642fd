-- The call that tells whom an image stops: the users whose line of a ledger is not sound under it.
-- Assumes nothing.
use Rattle.std.specs.Prelude.{◌≡◌, ◌↔◌, true, false, not, List, ℕ, ◌*◌, eqb, length, replicate}
use Rattle.model.specs.declared.Checked.{Checked}
use Rattle.model.specs.declared.Checked.TheVariants.{Accepted, Refused}
use Rattle.model.specs.Sets.{has, set_of, count_to, count}
use Rattle.model.specs.Bytes.{number, bytes_of}
use Rattle.model.specs.Judgement.{judge}
use Rattle.model.specs.Policy.{Policy, policy_of, has_limits, meaning}
use Rattle.model.specs.Line.{line_size, sound}
use Rattle.model.specs.Session.{Reply, refuse}
use Rattle.model.specs.Run.{line_at, line_of, open_by, step}
use Rattle.model.specs.Ranges.{Each}
use Rattle.model.specs.Independence.{Run, events_of, view_of, first_line}

-- the users whose line is not sound, user u as bit u
unfoldable pub stopped_set : ℕ → Policy → List ℕ → ℕ
stopped_set W p ledger = set_of (λ u. not (sound W (meaning p u) (line_of W ledger u))) p.head.users

-- done: the set as 8 bytes, and how many they are
unfoldable pub telling : ℕ → Reply
telling users = record { number = 0; extra = count 64 users; filled = bytes_of 8 users }

-- 9 for a ledger that does not fit, 19 where the buffer has not 8 bytes
unfoldable pub stopped_on : ℕ → Policy → List ℕ → ℕ → Reply
stopped_on W p ledger room =
    elim (eqb (length ledger) (line_size W * p.head.users)) [
      | true ↦ elim (eqb room 8) [ true ↦ telling (stopped_set W p ledger) | false ↦ refuse 19 0 ]
      | false ↦ refuse 9 0
    ]

-- a refused image ends the call
unfoldable pub stopped_by : ℕ → Checked → Policy → List ℕ → ℕ → Reply
stopped_by W (Refused n x) p ledger room = refuse n x
stopped_by W (Accepted h) p ledger room = stopped_on W p ledger room

-- the stopped call, given the bytes of an image and of a ledger, and the buffer's length
unfoldable pub stopped_call : ℕ → List ℕ → List ℕ → ℕ → Reply
stopped_call W image ledger room = stopped_by W (judge image) (policy_of image) ledger room

-- ---- the claim

-- the set that the call fills 8 bytes with
abbrev pub stopped_bits : ℕ → List ℕ → List ℕ → ℕ
stopped_bits W image ledger = number (stopped_call W image ledger 8).filled

-- it is done with 8 bytes, in which a user's bit is set exactly if that user's open on this ledger is refused by 11;
-- the extra is how many users that are; a user with a zero line is never among them
pub record StoppedIs (W : ℕ) (image ledger : List ℕ) : Type 0 where
  pub done : (stopped_call W image ledger 8).number ≡ 0
  pub bytes : length (stopped_call W image ledger 8).filled ≡ 8
  pub bit : (u : ℕ) → (has (stopped_bits W image ledger) u ≡ true) ↔ ((step W image ledger (open_by u)).reply.number ≡ 11)
  pub extra : (stopped_call W image ledger 8).extra ≡ count_to (λ u. eqb (step W image ledger (open_by u)).reply.number 11) 64
  pub zero : (u : ℕ) → line_at (line_size W) u ledger ≡ replicate (line_size W) 0 → has (stopped_bits W image ledger) u ≡ false

-- A user whom the call tells of the ledger that a run starts on is refused by 11 at every call of the run, and the line
-- stays; any other is refused by 11 at none, under a policy without limits; and where the call tells nobody, nobody is,
-- under any policy.
pub record StoppedStays (W : ℕ) (r : Run W) : Type 0 where
  pub stopped : (u : ℕ) → has (stopped_bits W r.image r.ledger) u ≡ true
      → Each (λ e. (e.reply.number ≡ 11) × (e.line ≡ first_line W u r)) (view_of W u r)
  pub going : (u : ℕ) → has (stopped_bits W r.image r.ledger) u ≡ false → has_limits (policy_of r.image) ≡ false
      → Each (λ e. ¬ (e.reply.number ≡ 11)) (view_of W u r)
  pub nobody : ((u : ℕ) → has (stopped_bits W r.image r.ledger) u ≡ false) → Each (λ e. ¬ (e.reply.number ≡ 11)) (events_of W r)
