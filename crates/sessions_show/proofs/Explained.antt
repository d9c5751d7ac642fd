-- The cases of an explain of an open session of a sound line: no such permission, and a permission explained or not
-- carried.
-- Assumes nothing.
use mathlib.Core.Path.{◌≡◌, refl, sym, ap, ◌∙◌}
use mathlib.Core.Bool.{true, not}
use mathlib.Core.Option.{none, some}
use mathlib.Core.Option.{Option as Found}
use mathlib.Core.List.{List, [], ◌∷◌}
use Prim.Native.Nat.{ℕ, ◌+◌, ◌*◌, ◌≤◌, ◌<◌}
use native.Mathlib.Nat.{add-zero}
use native.Mathlib.Omega.{arith}
use lib.ListN.{get_or}
use Rattle.std.specs.Prelude.{Option, Some, None, Result, IfSome}
use Rattle.std.specs.Option.{ok_or}
use Rattle.std.specs.Result.{IsErrAnd}
use Rattle.hierarchy.specs.Names.{found_of}
use Rattle.reasons.specs.declared.Reason.TheVariants.{NoRoles}
use Rattle.reasons.specs.declared.Reason.{Reason}
use Rattle.reasons.specs.declared.Refusal.{Refusal as Refused}
use Rattle.reasons.specs.Numbers.{number_of, plainly, code_of, returned_by}
use Rattle.sessions.proofs.Reasons.{plain_code, exit-returned}
use borrow.Author.Tests.{lt-ltb, le-ltb}
use Rattle.model.specs.declared.Line.{Line}
use Rattle.model.specs.Sets.{has}
use Rattle.model.specs.Policy.{Policy, below_table, with_selves, reached, granter_by, granter, meaning}
use Rattle.model.specs.Line.{line_size, session_at, is_open}
use Rattle.model.specs.Session.{refuse, done, Refusal, not_below, not_carried, refusal_number, refusal_extra, can_give, is_none, explanation, applies, explained, perform, session_of, query_of}
use Rattle.model.specs.Run.{Event, line_at, step_on, explain_by, returned, line_of}
use Rattle.tables_rows.specs.Told.{told}
use Rattle.sessions.proofs.FirstSteps.{refused_by, Ready, refuses, performs, passes, holds, fails, ends}

-- the number of a refusal is returned as it is
returns-refusal : (e : Event) (n : ℕ) (ledger : List ℕ) → e ≡ refused_by n ledger → n ≡ returned e.reply
unfolding returned refuse
returns-refusal e n ledger h = sym (ap (λ (x : Event). returned x.reply) h ∙ add-zero n)

module _ (s : Reason) (e : Event) (ledger : List ℕ) (f : e ≡ refused_by (number_of s) ledger) where
  pub returns-exit : (r : Result ℕ Refused) → IsErrAnd r (plainly s) → returned_by r ≡ returned e.reply
  returns-exit r h = exit-returned s r h ∙ returns-refusal e (number_of s) ledger f

pub returns-reason : (s : Reason) (r : Refused) → plainly s r → (e : Event) (ledger : List ℕ) → e ≡ refused_by (number_of s) ledger
    → code_of r ≡ returned e.reply
returns-reason s r h e ledger f = plain_code s r h ∙ returns-refusal e (number_of s) ledger f

-- an explanation that there is goes into the extra, and 20 is returned where there is none
pub told_by : (o : Option ℕ) (r : Refused) → plainly NoRoles r → IfSome o (λ e. e < 4096) → returned_by (ok_or o r) ≡ told (found_of o)
unfolding told
told_by None r h s = plain_code NoRoles r h
told_by (Some x) r h s = omega (arith, s)

-- the explanation by the tables is that by the policy
set-explains : (p : Policy) (active n : ℕ) (granted below : List ℕ) → granted ≡ p.granted → below ≡ below_table p
    → explanation (granter_by (with_selves below) (λ g. has (get_or granted g 0) n)) active ≡ explanation (granter p n) active
unfolding granter reached
set-explains p active n granted below eg eb = λ i. explanation (λ r. granter_by (with_selves (eb i)) (λ g. has (get_or (eg i) g 0) n) r) active

module _ (W : ℕ) (p : Policy) (ledger : List ℕ) (u k n : ℕ) (r : Ready W p ledger u) (h : k < W) (o : is_open (line_of W ledger u) k ≡ true) where
  abbrev left : List Refusal
  left = not_below n ∷ not_carried n ∷ []

  pub explain16 : p.head.permissions ≤ n → step_on W p ledger (explain_by u k n) ≡ refused_by 16 ledger
  unfolding explain_by can_give applies refusal_number refusal_extra session_of query_of meaning
  explain16 b =
      refuses W p ledger (explain_by u k n) r (not_below n) refl
      (passes W p ledger (explain_by u k n) r left refl h o ∙ holds _ _ _ (ap not (le-ltb _ _ b)))

  -- the two roles are the extra, or 20 is returned
  explained0 : n < p.head.permissions
      → told (explanation (granter p n) (session_at (line_of W ledger u) k).active) ≡ returned (step_on W p ledger (explain_by u k n)).reply
  unfolding explain_by can_give applies refusal_number refusal_extra session_of query_of meaning perform explained done returned told is_none
  explained0 b = go (explanation (granter p n) (session_at (line_of W ledger u) k).active) refl
    where
      go : (x : Found ℕ) → explanation (granter p n) (session_at (line_of W ledger u) k).active ≡ x
          → told x ≡ returned (step_on W p ledger (explain_by u k n)).reply
      go none e =
          returns-refusal _ 20 ledger
          (refuses W p ledger (explain_by u k n) r (not_carried n) refl
          (passes W p ledger (explain_by u k n) r left refl h o ∙ fails _ _ _ (ap not (lt-ltb _ _ b)) ∙ holds _ _ _ (ap is_none e)))
      go (some x) e =
          let z : 0 + 256 * x ≡ 256 * x = omega arith in
          sym
          (ap (λ (y : Event). returned y.reply)
          (performs W p ledger (explain_by u k n) r
          (passes W p ledger (explain_by u k n) r left refl h o ∙ fails _ _ _ (ap not (lt-ltb _ _ b)) ∙ fails _ _ _ (ap is_none e) ∙ ends _))
          ∙ ap (λ (y : Found ℕ). returned (explained (line_at (line_size W) u ledger) y).reply) e ∙ z)

  -- as code has it, of the line that it holds and by the tables
  pub explain0 : n < p.head.permissions → (l : Line) (granted below : List ℕ) (m : ℕ) → l ≡ line_of W ledger u → granted ≡ p.granted
      → below ≡ below_table p → m ≡ told (explanation (granter_by (with_selves below) (λ g. has (get_or granted g 0) n)) (session_at l k).active)
      → m ≡ returned (step_on W p ledger (explain_by u k n)).reply
  explain0 b l granted below m el eg eb em = em ∙ ap told (set-explains p _ n granted below eg eb) ∙ rw el (explained0 b)
