-- A call that is refused as an ask is before the search: the first refusing test gives its number.
-- Assumes nothing.
use mathlib.Core.Path.{◌≡◌, refl, sym, ap, ◌∙◌}
use mathlib.Core.Bool.{Bool, true, not}
use mathlib.Core.Logic.{◌⊎◌, inl, inr, ⊎_elim}
use mathlib.Core.Option.{none, some}
use mathlib.Core.List.{List, [], ◌∷◌, ◌++◌}
use Prim.Native.Nat.{ℕ, zero, suc, ◌+◌, ◌*◌, ◌<◌}
use native.Mathlib.Nat.{add-zero}
use native.Mathlib.Omega.{arith}
use lib.Dec.{leb}
use lib.ListN.{length}
use borrow.Table.Steps.{cases}
use Rattle.model.specs.declared.Line.{Line}
use Rattle.model.specs.Tests.{pick, first}
use Rattle.model.specs.Policy.{Policy, meaning}
use Rattle.model.specs.Line.{line_size, is_open, sound}
use Rattle.model.specs.Limits.{Others}
use Rattle.model.specs.Session.{Refusal, bad_other, bad_line, refuse, refusal_number, refusal_extra, other_first, is_ask, can_give, applies, session_of, query_of}
use Rattle.model.specs.Run.{Call, step_on, line_of, told}
use Rattle.sessions.specs.Calls.{first_refusal, session_refusal}
use Rattle.sessions.proofs.FirstSteps.{Ready, ready, refused_by, stopped, refuses, holds, fails}
use Rattle.limits_lines.specs.Lines.{others_refusal}
use Rattle.limits_lines.proofs.Blaming.{others-refused, others-quiet}
use Rattle.asks_request.specs.Refusals.{or_else, query_refusal, ask_refusal, limited_refusal}

-- ---- the first refusing test

-- its number, else 0
unfoldable pub number_of : (Refusal → Bool) → List Refusal → ℕ
number_of f [] = 0
number_of f (x ∷ xs) = pick (f x) (refusal_number x) (number_of f xs)

-- the extras of refusals, added up
unfoldable pub extras : Others → List Refusal → ℕ
extras o [] = 0
extras o (x ∷ xs) = refusal_extra o x + extras o xs

-- where the number is n, it is there, whatever is tested behind it
first-refusing : (f : Refusal → Bool) (o : Others) (xs ys : List Refusal) (n : ℕ) → extras o xs ≡ 0 → n ≡ number_of f xs → (n ≡ 0 → ⊥)
    → (x : Refusal) × (first f (xs ++ ys) ≡ some x) × (refusal_number x ≡ n) × (refusal_extra o x ≡ 0)
unfolding number_of extras pick
first-refusing f o [] ys n e h z = absurd (z h)
first-refusing f o (x ∷ xs) ys n e h z =
    cases (f x) (λ t. (x, holds f x (xs ++ ys) t, sym (rw t at h), omega (arith, e)))
    (λ t. let r = first-refusing f o xs ys n (omega (arith, e)) (rw t at h) z in (r.0, fails f x (xs ++ ys) t ∙ r.1, r.2, r.3))

-- ---- one refusal before others

or_cases : (n a b : ℕ) → n ≡ or_else a b → (n ≡ a) ⊎ ((0 ≡ a) × (n ≡ b))
unfolding or_else
or_cases n zero b e = inr (refl, e)
or_cases n (suc a) b e = inl e

-- 12 and 13 are two more tests before others
pub or_session : (W : ℕ) (l : Line) (k q : ℕ) → or_else (session_refusal W l k) q ≡ pick (leb W k) 12 (pick (not (is_open l k)) 13 q)
unfolding or_else session_refusal pick
or_session W l k q = cases (leb W k) (λ e. rw e) (λ e. rw e (cases (is_open l k) (λ f. rw f) (λ f. rw f)))

-- ---- the call

-- it returns n, and the ledger stays
pub record Refused (W : ℕ) (p : Policy) (ledger : List ℕ) (c : Call) (n : ℕ) : Type 0 where
  pub number : ℕ
  pub extra : ℕ
  pub sum : n ≡ number + 256 * extra
  pub step : step_on W p ledger c ≡ record { reply = refuse number extra; ledger = ledger }

-- a call whose tests, behind those of the lines, begin with these
module _ (W : ℕ) (p : Policy) (ledger : List ℕ) (c : Call) (tests rest : List Refusal)
    (g : can_give c.operation ≡ bad_other ∷ bad_line ∷ (tests ++ rest)) where
  abbrev pub test : Refusal → Bool
  test = applies W (meaning p c.user) (told W p ledger c) (line_of W ledger c.user) (session_of c.operation) (query_of c.operation)

  -- told of no other line that is not sound, on a sound line it comes to them
  pub own_tests : Ready W p ledger c.user → (told W p ledger c).unsound ≡ none → first test (can_give c.operation) ≡ first test (tests ++ rest)
  unfolding applies other_first meaning
  own_tests r quiet =
      rw g (fails _ _ _ (ap (other_first (sound W (meaning p c.user) (line_of W ledger c.user)) c.user) quiet) ∙ fails _ _ _ (ap not r.sound-line))

  -- refused as an ask is, where the tests give what refuses an ask
  pub refused : is_ask c.operation ≡ true → extras (told W p ledger c) tests ≡ 0 → (k : ℕ) (sized : Bool) (lower upper a b room : ℕ)
      → or_else (session_refusal W (line_of W ledger c.user) k) (query_refusal p.head.permissions sized lower upper a b room) ≡ number_of test tests
      → (n : ℕ) → n ≡ limited_refusal W p ledger c.user k sized lower upper a b room → (n ≡ 0 → ⊥) → Refused W p ledger c n
  unfolding limited_refusal ask_refusal
  refused asks none-extra k sized lower upper a b room same n h z =
      ⊎_elim (λ e. let w = others-refused W p ledger c asks n e z in record { number = 11; extra = w.0; sum = w.1; step = w.2 })
      (λ e. let quiet = others-quiet W p ledger c asks e.0 in
      record {
        number = n;
        extra = 0;
        sum = sym (add-zero n);
        step = ⊎_elim (λ f. stopped W p ledger c quiet n f z) (λ f. later quiet f.0 f.1) (or_cases n (first_refusal W p ledger c.user) _ e.1);
      })
      (or_cases n (others_refusal W p ledger c.user) _ h)
    where
      later : (length ledger ≡ line_size W * p.head.users → c.user < p.head.users → (told W p ledger c).unsound ≡ none)
          → 0 ≡ first_refusal W p ledger c.user
          → n ≡ or_else (session_refusal W (line_of W ledger c.user) k) (query_refusal p.head.permissions sized lower upper a b room)
          → step_on W p ledger c ≡ refused_by n ledger
      later quiet f h =
          let r = ready W p ledger c.user f in
          let x = first-refusing test (told W p ledger c) tests rest n none-extra (h ∙ same) z in
          refuses W p ledger c r x.0 x.3 (own_tests r (quiet r.fits r.below) ∙ x.1) ∙ ap (λ (i : ℕ). refused_by i ledger) x.2
