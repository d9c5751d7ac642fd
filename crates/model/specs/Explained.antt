-- What an explain tells: through which role a set of roles carries a permission, and which role grants it.
-- Assumes nothing.
use Rattle.std.specs.Prelude.{◌≡◌, ◌↔◌, true, ℕ, ◌+◌, ◌*◌, ◌<◌}
use Rattle.std.proofs.Math.Option.{none, some}
use Rattle.model.specs.Sets.{has}
use Rattle.model.specs.Policy.{Policy, granter}
use Rattle.model.specs.Session.{explanation}
use Rattle.model.specs.Chains.{Carries, Provides, Granting}

-- role r is the lowest of the roles of s that carries the permission m, and role g is its granting role
pub record Explains (p : Policy) (s m r g : ℕ) : Type 0 where
  pub chosen : has s r ≡ true
  pub granting : Granting p r m g
  pub lowest : (j : ℕ) → j < r → has s j ≡ true → ¬ Carries p j m

-- the extra is 64 times the one plus the other, and there is none exactly if the set does not carry the permission
pub record ExplanationIs (p : Policy) (s m : ℕ) : Type 0 where
  pub told : (x : ℕ) → explanation (granter p m) s ≡ some x → (r : ℕ) × (g : ℕ) × (r < 64) × (g < 64) × (x ≡ 64 * r + g) × Explains p s m r g
  pub tells : (r g : ℕ) → Explains p s m r g → explanation (granter p m) s ≡ some (64 * r + g)
  pub none_there : (explanation (granter p m) s ≡ none) ↔ ¬ Provides p s m
