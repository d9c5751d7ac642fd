-- Seniority as chains of senior words, and what a role and a set of roles carry, in the terms of a policy's tables.
-- Assumes nothing.
use Rattle.std.specs.Prelude.{◌≡◌, ◌↔◌, Bool, true, List, [], ◌∷◌, ℕ, ◌<◌, get_or}
use Rattle.std.proofs.Math.Option.{none, some}
use Rattle.model.specs.Sets.{has}
use Rattle.model.specs.Policy.{Policy, granter}

-- role a stands directly over role b: a senior word says so
unfoldable pub over : Policy → ℕ → ℕ → Bool
over p a b = has (get_or p.juniors a 0) b

-- a grant gives the permission m to role r itself
unfoldable pub grants : Policy → ℕ → ℕ → Bool
grants p r m = has (get_or p.granted r 0) m

-- role c is reached from role a by a chain of senior words, of any length, none included
pub data Chain (p : Policy) : ℕ → ℕ → Type 0 where
  here : {a : ℕ} → Chain p a a
  step : {a b c : ℕ} → over p a b ≡ true → Chain p b c → Chain p a c

-- the roles of a chain, one for each senior word: those after the first
unfoldable pub roles_of : {p : Policy} {a c : ℕ} → Chain p a c → List ℕ
roles_of here = []
roles_of (step {b = b} e q) = b ∷ roles_of q

-- role c stands below role a: a chain of at least one senior word leads from a down to c
pub record Below (p : Policy) (a c : ℕ) : Type 0 where
  pub junior : ℕ
  pub word : over p a junior ≡ true
  pub chain : Chain p junior c

-- role r is on a loop, and no lower role is
pub record LowestOnLoop (p : Policy) (r : ℕ) : Type 0 where
  pub loop : Below p r r
  pub lowest : (a : ℕ) → a < r → ¬ Below p a a

-- user u may activate role r: a chain of senior words leads to it from a role assigned to the user (ANSI INCITS 359:
-- authorized)
pub record Authorized (p : Policy) (u r : ℕ) : Type 0 where
  pub senior : ℕ
  pub assigned : has (get_or p.assigned u 0) senior ≡ true
  pub chain : Chain p senior r

-- role r carries the permission m: a grant gives it to a role reached from r (001, conditions 4 and 5: π of a role)
pub record Carries (p : Policy) (r m : ℕ) : Type 0 where
  pub giver : ℕ
  pub chain : Chain p r giver
  pub grant : grants p giver m ≡ true

-- the role set s carries the permission m: some role of it does (001: π of a set)
pub record Provides (p : Policy) (s m : ℕ) : Type 0 where
  pub member : ℕ
  pub chosen : has s member ≡ true
  pub carries : Carries p member m

-- ---- through which role

-- role g is the granting role of the permission m for role r: it is reached from r and holds the grant, and no lower
-- role does both
pub record Granting (p : Policy) (r m g : ℕ) : Type 0 where
  pub chain : Chain p r g
  pub grant : grants p g m ≡ true
  pub lowest : (j : ℕ) → j < g → Chain p r j → ¬ (grants p j m ≡ true)

-- the name is there exactly if the role carries the permission, and then it is the granting role
pub record GranterIs (p : Policy) (r m : ℕ) : Type 0 where
  pub there : ((g : ℕ) × (granter p m r ≡ some g)) ↔ Carries p r m
  pub none_there : (granter p m r ≡ none) ↔ ¬ Carries p r m
  pub names : (g : ℕ) → (granter p m r ≡ some g) ↔ Granting p r m g
