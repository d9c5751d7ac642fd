-- The choice gives the best admissible set.
-- Assumes nothing.
use mathlib.Core.Path.{◌≡◌, refl, ap, ◌∙◌, subst}
use mathlib.Core.Logic.{inl, inr}
use mathlib.Core.Bool.{Bool, true, false}
use mathlib.Core.Option.{Option, none, some}
use mathlib.Core.List.Memᴰ
use mathlib.Core.List.{List, [], ◌∷◌, Memᴰ}
use Prim.Native.Nat.{ℕ, ◌^◌, ◌<◌}
use native.Mathlib.Omega.{arith}
use lib.Bits.{bit_and, and_le_l, and_comm}
use borrow.Author.Tests.{eqb-true}
use borrow.Table.Steps.{cases}
use Rattle.model.specs.declared.Line.{Line}
use Rattle.model.specs.Sets.{within, subsets}
use Rattle.model.specs.Policy.{Meaning}
use Rattle.model.specs.Choice.{admissible, better, best_of, best, choose}
use Rattle.model.specs.Chosen.{IsBest, ChoiceIs}
use Rattle.model_laws.proofs.Bools.{and_l, not_both, fails, elim_case}
use Rattle.model_laws.proofs.Ranks.{better_irrefl, better_trans, better_total}
use Rattle.model_laws.proofs.Subsets.{in-subsets}

-- ---- the best of a list

-- what `best` says of a list: none passes the test, or s does and none that passes comes before it
abbrev pub IsBestIn : (ℕ → Bool) → (ℕ → ℕ → Bool) → List ℕ → Option ℕ → Type 0
IsBestIn ok lt l none = (t : ℕ) → Memᴰ t l → ok t ≡ false
IsBestIn ok lt l (some s) = (ok s ≡ true) × ((t : ℕ) → Memᴰ t l → ok t ≡ true → lt t s ≡ false)

module _ (ok : ℕ → Bool) (lt : ℕ → ℕ → Bool)
    (irrefl : (s : ℕ) → lt s s ≡ false) (trans : (r s t : ℕ) → lt r s ≡ true → lt s t ≡ true → lt r t ≡ true) where
  -- one more that does not pass
  skip : (x : ℕ) (l : List ℕ) (o : Option ℕ) → ok x ≡ false → IsBestIn ok lt l o → IsBestIn ok lt (x ∷ l) o
  skip x l none e h = λ t m. elim (Memᴰ.cases_cons m) [ inl q ↦ ap ok q ∙ e | inr k ↦ h t k ]
  skip x l (some s) e h =
      (h.0, λ t m k. elim (Memᴰ.cases_cons m) [ inl q ↦ not_both (ok t) k (ap ok q ∙ e) | inr j ↦ h.1 t j k ])

  lt-false : (r s t : ℕ) → lt s t ≡ true → lt r t ≡ false → lt r s ≡ false
  lt-false r s t p q = fails (lt r s) (λ e. not_both (lt r t) (trans r s t e p) q)

  -- one more that passes
  keep : (x : ℕ) (l : List ℕ) (o : Option ℕ) → ok x ≡ true → IsBestIn ok lt l o → IsBestIn ok lt (x ∷ l) (best_of lt x o)
  unfolding best_of
  keep x l none e h =
      (e, λ t m k. elim (Memᴰ.cases_cons m) [ inl q ↦ ap (λ (y : ℕ). lt y x) q ∙ irrefl x | inr j ↦ not_both (ok t) k (h t j) ])
  keep x l (some s) e h =
      elim_case (IsBestIn ok lt (x ∷ l)) (lt x s) (some x) (some s)
      (λ q. (e, λ t m k. elim (Memᴰ.cases_cons m) [ inl p ↦ ap (λ (y : ℕ). lt y x) p ∙ irrefl x | inr j ↦ lt-false t x s q (h.1 t j k) ]))
      (λ q. (h.0, λ t m k. elim (Memᴰ.cases_cons m) [ inl p ↦ ap (λ (y : ℕ). lt y s) p ∙ q | inr j ↦ h.1 t j k ]))

  -- `best` gives the best of the list
  pub best_in : (l : List ℕ) → IsBestIn ok lt l (best ok lt l)
  unfolding best
  best_in [] = λ t m. absurd (Memᴰ.not-nil m)
  best_in (x ∷ l) =
      let o = best ok lt l in
      elim_case (IsBestIn ok lt (x ∷ l)) (ok x) (best_of lt x o) o (λ e. keep x l o e (best_in l)) (λ e. skip x l o e (best_in l))

-- a set within one of members below d has members below d
pub within_below : (s t d : ℕ) → t < 2 ^ d → within s t ≡ true → s < 2 ^ d
unfolding within
within_below s t d h e =
    let q = eqb-true (bit_and s t) s e in
    let w = and_le_l t s in
    omega (arith, and_comm s t)

-- ---- the choice, where the roles are numbered below 64
module _ (m : Meaning) (l : Line) (k lower upper a b : ℕ) where
  -- two best sets are equal
  pub best_unique : (s t : ℕ) → IsBest m l k lower upper a b s → IsBest m l k lower upper a b t → s ≡ t
  best_unique s t v w = better_total m a b s t (w.is_first s v.is_admissible) (v.is_first t w.is_admissible)

  -- what each value of a choice means
  abbrev Means : Option ℕ → Type 0
  Means none = (t : ℕ) → admissible m l k lower upper t ≡ false
  Means (some s) = IsBest m l k lower upper a b s

  is_it : (o : Option ℕ) → Means o → (s : ℕ) → IsBest m l k lower upper a b s → o ≡ some s
  is_it none h s w = not_both (admissible m l k lower upper s) w.is_admissible (h s)
  is_it (some t) h s w = ap {B = Option ℕ} some (best_unique t s h w)

  is_empty : (o : Option ℕ) → Means o → ((t : ℕ) → admissible m l k lower upper t ≡ false) → o ≡ none
  is_empty none h w = refl
  is_empty (some s) h w = not_both (admissible m l k lower upper s) h.is_admissible (w s)

  module _ (below : m.authorized < 2 ^ 64) where
    -- every admissible set is gone through
    pub listed : (t : ℕ) → admissible m l k lower upper t ≡ true → Memᴰ t (subsets 64 m.authorized)
    unfolding admissible
    listed t e =
        let w = and_l (within t m.authorized) _ (and_l _ _ (and_l _ _ e)) in
        in-subsets 64 m.authorized t (within_below t m.authorized 64 below w) w

    every : (o : Option ℕ) → IsBestIn (admissible m l k lower upper) (better m a b) (subsets 64 m.authorized) o → Means o
    every none h = λ t. cases (admissible m l k lower upper t) (λ e. h t (listed t e)) (λ e. e)
    every (some s) h = record { is_admissible = h.0; is_first = λ t e. h.1 t (listed t e) e }

    means : Means (choose m l k lower upper a b)
    unfolding choose
    means =
        every (choose m l k lower upper a b)
        (best_in (admissible m l k lower upper) (better m a b) (better_irrefl m a b) (better_trans m a b) (subsets 64 m.authorized))

    -- the choice gives exactly the best admissible set
    pub choice : ChoiceIs m l k lower upper a b
    choice =
        record {
          is_best = λ s. (λ e. subst Means e means, λ w. is_it (choose m l k lower upper a b) means s w);
          is-none = (λ e. subst Means e means, λ w. is_empty (choose m l k lower upper a b) means w);
          is_unique = best_unique;
        }
