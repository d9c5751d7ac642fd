-- Sets by their tests.
-- Assumes nothing.
use mathlib.Core.Path.{◌≡◌, sym, ◌∙◌}
use mathlib.Core.Bool.{Bool}
use Prim.Native.Nat.{ℕ, ◌^◌, ◌<◌}
use Rattle.model.specs.Sets.{has, set_of}
use Rattle.model_laws.proofs.Bools.{bool_ext}
use Rattle.model_laws.proofs.SetLaws.{same_members}
use Rattle.model_laws.proofs.LowestLaws.{set_of-has, has-set_of, set_of_below}

-- ---- sets by a test
module _ (f : ℕ → Bool) where
  -- its members are the numbers below d that pass
  pub set_of_bit : (d k : ℕ) → k < d → has (set_of f d) k ≡ f k
  set_of_bit d k h = bool_ext (has (set_of f d) k) (f k) (λ e. (set_of-has f d k e).0) (λ e. has-set_of f d k h e)

-- a set is made of its members
pub set_of-members : (d s : ℕ) → s < 2 ^ d → (f : ℕ → Bool) → ((k : ℕ) → k < d → f k ≡ has s k) → set_of f d ≡ s
set_of-members d s h f e = same_members d (set_of f d) s (set_of_below f d) h (λ k i. set_of_bit f d k i ∙ e k i)

-- the same test, the same set
pub set_of_same : (f g : ℕ → Bool) (d : ℕ) → ((k : ℕ) → k < d → f k ≡ g k) → set_of f d ≡ set_of g d
set_of_same f g d h = set_of-members d (set_of g d) (set_of_below g d) f (λ k i. h k i ∙ sym (set_of_bit g d k i))
