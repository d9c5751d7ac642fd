-- Refusals by their reasons: the numbers that a host gets for them, and the calls that they refuse.
-- Assumes nothing.
use mathlib.Core.Path.{◌≡◌, refl, ap, ◌∙◌}
use mathlib.Core.Bool.{false}
use mathlib.Core.List.{List, ◌∷◌}
use Prim.Native.Nat.{ℕ}
use native.Mathlib.Omega.{arith}
use Rattle.std.specs.Prelude.{Result}
use Rattle.std.specs.Result.{IsErrAnd}
use Rattle.std.proofs.lemmas.Result.{err_from_is_err_and}
use Rattle.model.specs.declared.Line.{Line}
use Rattle.model.specs.Policy.{Policy}
use Rattle.model.specs.Line.{SESSIONS}
use Rattle.model.specs.Session.{is_ask, session_of, can_give, bad_line, bad_session, is_closed}
use Rattle.model.specs.Session.{Refusal as Rule}
use Rattle.model.specs.Run.{Call, Event, line_of, step_on}
use Rattle.reasons.specs.declared.Reason.{Reason}
use Rattle.reasons.specs.declared.Refusal.{Refusal}
use Rattle.reasons.specs.Numbers.{number_of, plainly, code_of, returned_by, refusal_of}
use Rattle.reasons.proofs.Small.{number_of-numbered, code_of-plain}
use Rattle.policy_tables.specs.declared.PolicyTables.{PolicyTables}
use Rattle.exclusion_rows.specs.Table.{exclusions_of}
use Rattle.sessions.specs.Calls.{Known, first_refusal, session_refusal, Gives, Shows}
use Rattle.sessions.proofs.FirstSteps.{refused_by, gives-refusal, shows-refusal, stopped_first, session_stopped, Ready, Passed, passed}

-- no reason has the number 0, and no refusal
pub numbered : (s : Reason) → number_of s ≡ 0 → ⊥
numbered s z = let h = number_of-numbered s in absurd (omega (arith, h, z))

pub coded : (r : Refusal) → code_of r ≡ 0 → ⊥
coded r z = let h = number_of-numbered r.reason in absurd (omega (arith, h, z))

-- ---- a refusal that names nothing
module _ (s : Reason) (r : Refusal) (h : plainly s r) where
  pub plain_code : code_of r ≡ number_of s
  plain_code = ap code_of h ∙ code_of-plain s

  module _ (e : Event) (ledger : List ℕ) (f : e ≡ refused_by (number_of s) ledger) where
    pub gives-reason : Gives e (code_of r) ledger
    gives-reason = rw plain_code (gives-refusal e (number_of s) ledger f)

    pub shows-reason : (room : List ℕ) → Shows e (code_of r) room room
    shows-reason room = rw plain_code (shows-refusal e (number_of s) ledger room f)

-- ---- the exit of a `?` at a reason
pub exit-refusal : {A : Type 0} (s : Reason) (r : Result A Refusal) → IsErrAnd r (plainly s) → refusal_of r ≡ number_of s
exit-refusal s r h = let p = err_from_is_err_and r h in rw p.1 (plain_code s p.0 p.2)

pub exit-returned : (s : Reason) (r : Result ℕ Refusal) → IsErrAnd r (plainly s) → returned_by r ≡ number_of s
exit-returned s r h = let p = err_from_is_err_and r h in rw p.1 (plain_code s p.0 p.2)

module _ (s : Reason) (e : Event) (ledger : List ℕ) (f : e ≡ refused_by (number_of s) ledger) where
  pub gives-exit : {A : Type 0} (r : Result A Refusal) → IsErrAnd r (plainly s) → Gives e (refusal_of r) ledger
  gives-exit r h = rw (exit-refusal s r h) (gives-refusal e (number_of s) ledger f)

  pub gives-exit_returned : (r : Result ℕ Refusal) → IsErrAnd r (plainly s) → Gives e (returned_by r) ledger
  gives-exit_returned r h = rw (exit-returned s r h) (gives-refusal e (number_of s) ledger f)

  pub shows-exit : {A : Type 0} (r : Result A Refusal) → IsErrAnd r (plainly s) → (room : List ℕ) → Shows e (refusal_of r) room room
  shows-exit r h room = rw (exit-refusal s r h) (shows-refusal e (number_of s) ledger room f)

-- ---- the calls that are refused
module _ (W : ℕ) (p : Policy) (ledger : List ℕ) (c : Call) (s : Reason) where
  -- by the first tests, where the call is no ask
  pub first_stops : is_ask c.operation ≡ false → number_of s ≡ first_refusal W p ledger c.user → step_on W p ledger c ≡ refused_by (number_of s) ledger
  first_stops e h = stopped_first W p ledger c e (number_of s) h (numbered s)

  -- by the session's tests, where the call is on a session
  pub session_stops : Ready W p ledger c.user → (rest : List Rule) → can_give c.operation ≡ bad_line ∷ bad_session ∷ is_closed ∷ rest → (l : Line)
      → l ≡ line_of W ledger c.user → number_of s ≡ session_refusal W l (session_of c.operation) → step_on W p ledger c ≡ refused_by (number_of s) ledger
  session_stops r rest g l el h = session_stopped W p ledger c r rest g l el (number_of s) h (numbered s)

-- ---- the calls that the first tests pass, by a policy's tables
pub passed_by : (t : PolicyTables) (ledger : List ℕ) (u : ℕ)
    → ((p : Policy) → Known t.head t.authorized (exclusions_of t.exclusions) p → 0 ≡ first_refusal SESSIONS p ledger u)
    → Passed SESSIONS t.head t.authorized (exclusions_of t.exclusions) ledger u
passed_by t ledger u e = passed SESSIONS t.head t.authorized (exclusions_of t.exclusions) ledger u 0 e refl
