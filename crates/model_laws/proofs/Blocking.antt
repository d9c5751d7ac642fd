-- Laws of the first exclusion with which a test fails, of the lowest number below a bound, of tests of some member, and
-- of either choice.
-- Assumes nothing.
use mathlib.Core.Path.{◌≡◌, refl, sym, ap, ◌∙◌, subst}
use mathlib.Core.Logic.{◌⊎◌, inl, inr, ◌↔◌}
use mathlib.Core.Bool.{Bool, true, false, true≢false}
use mathlib.Core.Option.{Option, none, some, some-injective, some-ne-none, none-ne-some}
use mathlib.Core.List.Memᴰ
use mathlib.Core.List.{List, [], ◌∷◌, ◌++◌, append_assoc, append-nil, Memᴰ}
use Prim.Native.Nat.{ℕ, suc, ◌≤◌, ◌<◌, zero-le}
use native.Mathlib.Decide.{dec_lt}
use native.Mathlib.Omega.{arith}
use lib.Dec.{ltb}
use lib.ListN.{length, get_or, take, drop}
use lib.Seq.{take-suc, split_at}
use borrow.Author.Tests.{ltb-true, ltb-false, lt-ltb, le-ltb}
use Rattle.model.specs.declared.Exclusion.{Exclusion}
use Rattle.model.specs.Tests.{any, or_else, lowest, if_below}
use Rattle.model.specs.Obstacle.{blocking}
use Rattle.model_laws.proofs.Bools.{or_l, or_r, or_cases, not_both}
use Rattle.model_laws.proofs.LowestLaws.{LowestIs, lowest_is, lowest_found}

-- ---- some member passes
module _ {A : Type 0} (f : A → Bool) where
  pub any_some : (xs : List A) → any f xs ≡ true → (x : A) × Memᴰ x xs × (f x ≡ true)
  unfolding any
  any_some [] e = absurd (true≢false (sym e))
  any_some (x ∷ xs) e =
      elim (or_cases (f x) (any f xs) e) [
        | inl h ↦ (x, Memᴰ.head refl, h)
        | inr h ↦ let w = any_some xs h in (w.0, Memᴰ.tail w.1, w.2)
      ]

  pub some_any : (xs : List A) (x : A) → Memᴰ x xs → f x ≡ true → any f xs ≡ true
  unfolding any
  some_any [] x m e = absurd (Memᴰ.not-nil m)
  some_any (y ∷ xs) x m e =
      elim (Memᴰ.cases_cons m) [
        | inl q ↦ or_l (f y) (any f xs) (ap f (sym q) ∙ e)
        | inr k ↦ or_r (f y) (any f xs) (some_any xs x k e)
      ]

-- ---- the first or else the second
module _ {A : Type 0} (a b : Option A) where
  pub or_else_none : or_else a b ≡ none → (a ≡ none) × (b ≡ none)
  unfolding or_else
  or_else_none = go a
    where
      go : (o : Option A) → or_else o b ≡ none → (o ≡ none) × (b ≡ none)
      go none e = (refl, e)
      go (some x) e = absurd (some-ne-none x e)

  pub or_else_some : (x : A) → or_else a b ≡ some x → (a ≡ some x) ⊎ ((a ≡ none) × (b ≡ some x))
  unfolding or_else
  or_else_some x = go a
    where
      go : (o : Option A) → or_else o b ≡ some x → (o ≡ some x) ⊎ ((o ≡ none) × (b ≡ some x))
      go none e = inr (refl, e)
      go (some y) e = inl e

  pub or_first : (x : A) → a ≡ some x → or_else a b ≡ some x
  unfolding or_else
  or_first x e = ap (λ (o : Option A). or_else o b) e

  pub or_second : a ≡ none → or_else a b ≡ b
  unfolding or_else
  or_second e = ap (λ (o : Option A). or_else o b) e

-- ---- the lowest number below d that passes, where there is one
pub record LowestBelow (f : ℕ → Bool) (d n : ℕ) : Type 0 where
  pub small : n < d
  pub passes : f n ≡ true
  pub least : (j : ℕ) → j < n → f j ≡ false

module _ (f : ℕ → Bool) (d : ℕ) where
  pub below_none : (if_below d (lowest f 0 d) ≡ none) ↔ ((j : ℕ) → j < d → f j ≡ false)
  unfolding if_below
  below_none = (λ e. go (ltb x d) refl e, λ h. ap (λ (b : Bool). let o : Option ℕ = elim b [ true ↦ some x | false ↦ none ] in o) (le-ltb x d (high h)))
    where
      x : ℕ
      x = lowest f 0 d

      w : LowestIs f 0 d x
      w = lowest_is f 0 d

      go : (b : Bool) → ltb x d ≡ b → ◌≡◌ {A = Option ℕ} (elim b [ true ↦ some x | false ↦ none ]) none → (j : ℕ) → j < d → f j ≡ false
      go true h e j i = absurd (some-ne-none x e)
      go false h e j i = let k = ltb-false x d h in w.before j zero-le (omega arith)

      high : ((j : ℕ) → j < d → f j ≡ false) → d ≤ x
      high h = elim (dec_lt x d) [ yes i ↦ not_both (f x) (w.passes (omega arith)) (h x i) | no i ↦ omega arith ]

  pub below_some : (n : ℕ) → (if_below d (lowest f 0 d) ≡ some n) ↔ LowestBelow f d n
  unfolding if_below
  below_some n = (λ e. go (ltb x d) refl e, λ q. back q)
    where
      x : ℕ
      x = lowest f 0 d

      w : LowestIs f 0 d x
      w = lowest_is f 0 d

      go : (b : Bool) → ltb x d ≡ b → ◌≡◌ {A = Option ℕ} (elim b [ true ↦ some x | false ↦ none ]) (some n) → LowestBelow f d n
      go true h e =
          let i = ltb-true x d h in
          subst (LowestBelow f d) (some-injective x n e) (record { small = i; passes = w.passes (omega arith); least = λ j k. w.before j zero-le k })
      go false h e = absurd (none-ne-some n e)

      back : LowestBelow f d n → ◌≡◌ {A = Option ℕ} (elim (ltb x d) [ true ↦ some x | false ↦ none ]) (some n)
      back q =
          let g = lowest_found f 0 d n zero-le (omega (arith, q.small)) q.passes in
          let same : x ≡ n = elim (dec_lt x n) [ yes i ↦ not_both (f x) g.0 (q.least x i) | no i ↦ omega (arith, g.1) ] in
          ap (λ (b : Bool). let o : Option ℕ = elim b [ true ↦ some x | false ↦ none ] in o) (lt-ltb x d (omega (arith, g.1, q.small))) ∙ ap some same

-- ---- the first exclusion with which a test of lists fails

-- the test holds before y, and fails with it
pub record BlocksAt (test : List Exclusion → Bool) (xs ys : List Exclusion) (y : Exclusion) : Type 0 where
  pub before : List Exclusion
  pub after : List Exclusion
  pub parts : ys ≡ before ++ (y ∷ after)
  pub holds : test (xs ++ before) ≡ true
  pub fails : test (xs ++ (before ++ (y ∷ []))) ≡ false

module _ (test : List Exclusion → Bool) where
  -- one exclusion more in front of the rest
  one_more : (xs : List Exclusion) (y : Exclusion) (ys : List Exclusion) → test ((xs ++ (y ∷ [])) ++ ys) ≡ test (xs ++ (y ∷ ys))
  one_more xs y ys = ap test (append_assoc xs (y ∷ []) ys)

  pub never_blocked : (xs ys : List Exclusion) → test xs ≡ true → blocking test xs ys ≡ none → test (xs ++ ys) ≡ true
  unfolding blocking
  never_blocked xs [] h e = ap test (append-nil xs) ∙ h
  never_blocked xs (y ∷ ys) h e = go (test (xs ++ (y ∷ []))) refl (never_blocked (xs ++ (y ∷ [])) ys) e
    where
      go : (b : Bool) → test (xs ++ (y ∷ [])) ≡ b
          → (test (xs ++ (y ∷ [])) ≡ true → blocking test (xs ++ (y ∷ [])) ys ≡ none → test ((xs ++ (y ∷ [])) ++ ys) ≡ true)
          → ◌≡◌ {A = Option Exclusion} (elim b [ true ↦ blocking test (xs ++ (y ∷ [])) ys | false ↦ some y ]) none → test (xs ++ (y ∷ ys)) ≡ true
      go true q ih e = sym (one_more xs y ys) ∙ ih q e
      go false q ih e = absurd (some-ne-none y e)

  pub blocked_at : (xs ys : List Exclusion) (z : Exclusion) → test xs ≡ true → blocking test xs ys ≡ some z → BlocksAt test xs ys z
  unfolding blocking
  blocked_at xs [] z h e = absurd (none-ne-some z e)
  blocked_at xs (y ∷ ys) z h e = go (test (xs ++ (y ∷ []))) refl (blocked_at (xs ++ (y ∷ [])) ys z) e
    where
      go : (b : Bool) → test (xs ++ (y ∷ [])) ≡ b
          → (test (xs ++ (y ∷ [])) ≡ true → blocking test (xs ++ (y ∷ [])) ys ≡ some z → BlocksAt test (xs ++ (y ∷ [])) ys z)
          → ◌≡◌ {A = Option Exclusion} (elim b [ true ↦ blocking test (xs ++ (y ∷ [])) ys | false ↦ some y ]) (some z) → BlocksAt test xs (y ∷ ys) z
      go true q ih e =
          let w = ih q e in
          record {
            before = y ∷ w.before;
            after = w.after;
            parts = ap (λ (l : List Exclusion). y ∷ l) w.parts;
            holds = sym (one_more xs y w.before) ∙ w.holds;
            fails = sym (one_more xs y (w.before ++ (z ∷ []))) ∙ w.fails;
          }
      go false q ih e =
          let s = some-injective y z e in
          record {
            before = [];
            after = ys;
            parts = ap (λ (v : Exclusion). v ∷ ys) s;
            holds = ap test (append-nil xs) ∙ h;
            fails = ap (λ (v : Exclusion). test (xs ++ (v ∷ []))) (sym s) ∙ q;
          }

  -- a test that holds of no more than it holds of the front
  module _ (front : (xs ys : List Exclusion) → test (xs ++ ys) ≡ true → test xs ≡ true) where
    pub not_blocked : (xs ys : List Exclusion) → test (xs ++ ys) ≡ true → blocking test xs ys ≡ none
    unfolding blocking
    not_blocked xs [] h = refl
    not_blocked xs (y ∷ ys) h =
        let a = one_more xs y ys ∙ h in
        ap (λ (b : Bool). let o : Option Exclusion = elim b [ true ↦ blocking test (xs ++ (y ∷ [])) ys | false ↦ some y ] in o)
        (front (xs ++ (y ∷ [])) ys a) ∙ not_blocked (xs ++ (y ∷ [])) ys a

    pub at_blocked : (xs before after : List Exclusion) (y : Exclusion) → test (xs ++ before) ≡ true → test (xs ++ (before ++ (y ∷ []))) ≡ false
        → blocking test xs (before ++ (y ∷ after)) ≡ some y
    unfolding blocking
    at_blocked xs [] after y h e =
        ap (λ (b : Bool). let o : Option Exclusion = elim b [ true ↦ blocking test (xs ++ (y ∷ [])) after | false ↦ some y ] in o) e
    at_blocked xs (z ∷ before) after y h e =
        let a = one_more xs z before ∙ h in
        ap (λ (b : Bool). let o : Option Exclusion = elim b [ true ↦ blocking test (xs ++ (z ∷ [])) (before ++ (y ∷ after)) | false ↦ some z ] in o)
        (front (xs ++ (z ∷ [])) before a) ∙ at_blocked (xs ++ (z ∷ [])) before after y a (one_more xs z (before ++ (y ∷ [])) ∙ e)

    -- the same by the number j of exclusions before the one that blocks
    pub blocked_behind : (ys : List Exclusion) (j : ℕ) (d : Exclusion) → j < length ys → test (take j ys) ≡ true → test (take (suc j) ys) ≡ false
        → blocking test [] ys ≡ some (get_or ys j d)
    blocked_behind ys j d i h e =
        ap (blocking test []) (split_at ys j d i)
        ∙ at_blocked [] (take j ys) (drop (suc j) ys) (get_or ys j d) h (ap test (sym (take-suc ys j d i)) ∙ e)
