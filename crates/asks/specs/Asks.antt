-- An ask under an accepted policy: what the search is given, and what a host gets.
-- Assumes nothing.
use Rattle.std.specs.Prelude.{◌≡◌, true, List, ℕ, take}
use Rattle.std.proofs.Math.Option.{Option}
use Rattle.model.specs.declared.Exclusions.{Exclusions}
use Rattle.model.specs.declared.Line.{Line}
use Rattle.model.specs.Policy.{Policy, Meaning, below_table, meaning}
use Rattle.model.specs.Limits.{Others, unbarred}
use Rattle.model.specs.Line.{SESSIONS, line_size, exclusions_met}
use Rattle.model.specs.Session.{asked}
use Rattle.model.specs.Run.{Event, line_at, with_line, returned, answered, line_of}
use Rattle.query.specs.Carry.{Carry}

-- what the policy means to user u for a choice for session k, given what is told of the other users: barred roles are
-- not u's
abbrev pub left_to : Policy → ℕ → Others → Line → ℕ → Meaning
left_to p u x l k = unbarred (meaning p u) x l k

-- the roles that user u may choose from, the exclusions, which the line meets, and what each of the roles carries are
-- those of the policy
pub record Asked (p : Policy) (u : ℕ) (x : Others) (l : Line) (k own : ℕ) (xs : Exclusions) (row : ℕ → ℕ) : Type 0 where
  pub own_is : (left_to p u x l k).authorized ≡ own
  pub exclusions_are : p.exclusions ≡ take xs.count xs.list
  pub met : exclusions_met (meaning p u) l ≡ true
  pub carry : Carry (meaning p u) own row

-- what the search is given is the policy's: what is granted, who is below whom, what the user may choose from and the
-- exclusions, which the line meets
pub record Searched (p : Policy) (u : ℕ) (x : Others) (ledger : List ℕ) (k : ℕ) (granted below : List ℕ) (own : ℕ) (xs : Exclusions) : Type 0 where
  pub granted_is : granted ≡ p.granted
  pub below_is : below ≡ below_table p
  pub own_is : (left_to p u x (line_of SESSIONS ledger u) k).authorized ≡ own
  pub exclusions_are : p.exclusions ≡ take xs.count xs.list
  pub met : exclusions_met (meaning p u) (line_of SESSIONS ledger u) ≡ true

-- a search's choice for session k, put into the user's line and answered
unfoldable pub asked_on : Policy → List ℕ → ℕ → ℕ → Option ℕ → Event
asked_on p ledger u k c =
    let x = asked (meaning p u) (line_of SESSIONS ledger u) (line_at (line_size SESSIONS) u ledger) k c in
    record { reply = x.reply; ledger = with_line (line_size SESSIONS) u x.line ledger }

-- the number returned, the ledger and the answer buffer after the call are the event's; the room is the buffer before
pub record Answers (e : Event) (n : ℕ) (ledger room answer : List ℕ) : Type 0 where
  pub number : n ≡ returned e.reply
  pub bytes : ledger ≡ e.ledger
  pub buffer : answer ≡ answered room e.reply
