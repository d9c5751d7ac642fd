-- What an accepted image says of its policy: every number is in its range, no user is assigned to more than 16 roles,
-- and there are at most 32 exclusions, each with an n that its members can reach; a role's limit is from 2 to 256.
-- Assumes nothing.
use Rattle.std.specs.Prelude.{◌≡◌, true, List, [], ◌∷◌, ℕ, ◌^◌, ◌≤◌, ◌<◌, get_or, length}
use Rattle.model.specs.declared.Exclusion.{Exclusion}
use Rattle.model.specs.Sets.{has, count}
use Rattle.model.specs.Policy.{Policy, limited}

-- every member of the list has the property
abbrev pub Each : {A : Type 0} → (A → Type 0) → List A → Type 0
Each P [] = Unit {0}
Each P (x ∷ xs) = P x × Each P xs

-- each member of the list comes before all that stand behind it, by R
abbrev pub Ascending : {A : Type 0} → (A → A → Type 0) → List A → Type 0
Ascending R [] = Unit {0}
Ascending R (x ∷ xs) = Each (R x) xs × Ascending R xs

-- n is one of the numbers from 1 to b
abbrev pub OneTo : ℕ → ℕ → Type 0
OneTo b n = (1 ≤ n) × (n ≤ b)

-- n is one of the numbers from 2 to b
abbrev pub TwoTo : ℕ → ℕ → Type 0
TwoTo b n = (2 ≤ n) × (n ≤ b)

-- the exclusion names roles alone, at least two, and its n is at least 2 and at most their number (01: m)
pub record ExclusionInRange (roles : ℕ) (x : Exclusion) : Type 0 where
  pub size : TwoTo roles (count 64 x.members)
  pub n : TwoTo (count 64 x.members) x.n
  pub members : x.members < 2 ^ roles

-- a table of sets by number: a row that is not empty is one of the first m, and its members are below n
abbrev pub TableInRange : ℕ → ℕ → List ℕ → Type 0
TableInRange m n rows = (i j : ℕ) → has (get_or rows i 0) j ≡ true → (i < m) × (j < n)

-- each row of a table is a set of numbers below n
abbrev pub RowsBelow : ℕ → List ℕ → Type 0
RowsBelow n rows = (i : ℕ) → get_or rows i 0 < 2 ^ n

-- a table of limits: what has one is below n, and it is from 2 to 256
abbrev pub LimitsInRange : ℕ → List ℕ → Type 0
LimitsInRange n rows = (r : ℕ) → limited rows r ≡ true → (r < n) × (2 ≤ get_or rows r 0) × (get_or rows r 0 ≤ 256)

pub record InRange (p : Policy) : Type 0 where
  -- 1 to 64 users, 1 to 64 roles, 1 to 256 permissions
  pub users : OneTo 64 p.head.users
  pub roles : OneTo 64 p.head.roles
  pub permissions : OneTo 256 p.head.permissions
  -- what is assigned is a role, to a user; what is granted a permission, to a role; what has juniors and what is one, a
  -- role
  pub assigned : TableInRange p.head.users p.head.roles p.assigned
  pub granted : TableInRange p.head.roles p.head.permissions p.granted
  pub juniors : TableInRange p.head.roles p.head.roles p.juniors
  -- the same of each row as a number
  pub assigned_rows : RowsBelow p.head.roles p.assigned
  pub granted_rows : RowsBelow p.head.permissions p.granted
  pub junior_rows : RowsBelow p.head.roles p.juniors
  -- at most 16 roles assigned to a user; what a user may activate is bounded by 23 (specs/Ordered.antt)
  pub few_roles : (u : ℕ) → count 64 (get_or p.assigned u 0) ≤ 16
  -- at most 32 exclusions, each in range
  pub few_exclusions : length p.exclusions ≤ 32
  pub exclusions : Each (ExclusionInRange p.head.roles) p.exclusions
  -- what has a limit is a role, and its limit is from 2 to 256
  pub limits : LimitsInRange p.head.roles p.limits
