-- Inclusion of sets by their members, and one member more or fewer, over any width.
-- Assumes nothing.
use mathlib.Core.Path.{◌≡◌, refl, sym, subst, ◌∙◌}
use mathlib.Core.Bool.{Bool, true, false, not}
use mathlib.Core.Logic.{◌⊎◌, inl, inr}
use Prim.Native.Nat.{ℕ, ◌≤◌}
use borrow.Author.Tests.{eqb-true}
use lib.Dec.{eqb}
use lib.Bits.{and_le_r}
use Rattle.model.specs.Sets.{has, union, inter, within, count}
use Rattle.model_laws.proofs.Bools.{and_l, or_l, or_r, not_both}
use Rattle.model_laws.proofs.AnyWidth.{within_iff}
use Rattle.model_laws.proofs.SetLaws.{has-union, count-within}
use Rattle.model_laws.proofs.UnionLaws.{has_none}
use Rattle.sets.specs.Members.{without}
use Rattle.sets.proofs.Taken.{has-without}
use Rattle.query.specs.Carry.{Sub}

pub sub_within : (a b : ℕ) → Sub a b → within a b ≡ true
sub_within a b h = (within_iff a b).1 h

pub within_sub : (a b : ℕ) → within a b ≡ true → Sub a b
within_sub a b w = (within_iff a b).0 w

-- a set within another is no larger as a number, and has no more members
pub sub-le : (a b : ℕ) → Sub a b → a ≤ b
unfolding within
sub-le a b h = subst (λ (x : ℕ). x ≤ b) (eqb-true (inter a b) a (sub_within a b h)) (and_le_r a b)

pub sub_count : (d a b : ℕ) → Sub a b → count d a ≤ count d b
sub_count d a b h = count-within d a b (sub_within a b h)

-- the empty set
pub no_member {ℓ} : {A : Type ℓ} (i : ℕ) → has 0 i ≡ true → A
no_member i m = not_both (has 0 i) m (has_none i)

pub none_sub : (a : ℕ) → Sub 0 a
none_sub a i m = no_member i m

-- a test's two cases
pub either : (b : Bool) → (b ≡ true) ⊎ (b ≡ false)
either true = inl refl
either false = inr refl

-- ---- two sets joined
module _ (a b : ℕ) where
  pub left_sub : Sub a (union a b)
  left_sub i m = has-union a b i ∙ or_l (has a i) (has b i) m

  pub right_sub : Sub b (union a b)
  right_sub i m = has-union a b i ∙ or_r (has a i) (has b i) m

-- ---- one member more or fewer
pub fewer_sub : (s r : ℕ) → has s r ≡ true → Sub (without s r) s
fewer_sub s r m i n = and_l (has s i) (not (eqb i r)) (sym (has-without s r i m) ∙ n)
