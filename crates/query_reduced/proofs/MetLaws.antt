-- The reduced exclusions: what a set meets a smaller one meets.
-- Assumes nothing.
use mathlib.Core.Path.{◌≡◌, refl, sym, ◌∙◌}
use mathlib.Core.Bool.{true, ◌&&◌}
use mathlib.Core.List.{List, [], ◌∷◌}
use Prim.Native.Nat.{ℕ, ◌<◌}
use native.Mathlib.Nat.{lt_of_le_of_lt}
use borrow.Author.Tests.{ltb-true, lt-ltb}
use Rattle.model.specs.Tests.{all_below}
use Rattle.model.specs.Sets.{has, inter, count}
use Rattle.model_laws.proofs.Bools.{and_l, and_r, both}
use Rattle.model_laws.proofs.Every.{at_below}
use Rattle.model_laws.proofs.SetLaws.{has-inter}
use Rattle.query_reduced.specs.declared.reduced.ReducedExclusion.{ReducedExclusion}
use Rattle.query_reduced.specs.Met.{fits, reduced_met}
use Rattle.query.specs.Carry.{Sub}
use Rattle.query.proofs.Members.{sub_count}

module _ (mask n : ℕ) where
  pub fits_less : (a b : ℕ) → Sub a b → fits mask n b ≡ true → fits mask n a ≡ true
  unfolding fits
  fits_less a b h m =
      lt-ltb (count 64 (inter mask a)) n
      (lt_of_le_of_lt (sub_count 64 (inter mask a) (inter mask b) met) (ltb-true (count 64 (inter mask b)) n m))
    where
      met : Sub (inter mask a) (inter mask b)
      met i n =
          let e : (has mask i && has a i) ≡ true = sym (has-inter mask a i) ∙ n in
          has-inter mask b i ∙ both (has mask i) (has b i) (and_l (has mask i) (has a i) e) (h i (and_r (has mask i) (has a i) e))

-- exclusions pass to subsets
pub met_less : (xs : List ReducedExclusion) (a b : ℕ) → Sub a b → reduced_met xs b ≡ true → reduced_met xs a ≡ true
unfolding reduced_met
met_less [] a b h m = refl
met_less (x ∷ xs) a b h m =
    both (fits x.members x.n a) (reduced_met xs a) (fits_less x.members x.n a b h (and_l (fits x.members x.n b) (reduced_met xs b) m))
    (met_less xs a b h (and_r (fits x.members x.n b) (reduced_met xs b) m))

-- ---- the set of all roles
abbrev pub every : ℕ
every = 18446744073709551615

pub every_has : (r : ℕ) → r < 64 → has every r ≡ true
unfolding all_below has
every_has r h = at_below (has every) 64 refl r h
