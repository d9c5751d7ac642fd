-- What roles carry, and sets of roles and of permissions by their members.
-- Assumes nothing.
use Rattle.std.specs.Prelude.{◌≡◌, Bool, true, false, ◌&&◌, List, [], ℕ, ◌+◌, ◌*◌, ◌≤◌, ◌<◌, length, get_or, Option, Some, None}
use Rattle.std.proofs.Math.Option.{Option as Chosen, none, some}
use Rattle.model.specs.declared.Permission.{Permission}
use Rattle.model.specs.Tests.{pick, is_some}
use Rattle.model.specs.Sets.{has, with}
use Rattle.model.specs.Policy.{Policy, Meaning, granter}
use Rattle.sets.specs.Words.{value}

-- what role r carries, by rows of four words
abbrev pub rows_of : List (List ℕ) → ℕ → ℕ
rows_of rows r = value (get_or rows r [])

-- each of the roles carries what its row says
abbrev pub Carry : Meaning → ℕ → (ℕ → ℕ) → Type 0
Carry m s row = (r : ℕ) → has s r ≡ true → get_or m.carried r 0 ≡ row r

-- ---- the turned table: for each wanted permission the roles of a set that carry it

-- the set of a wanted permission has a role of s exactly if the role's row has the permission
abbrev pub Turned : (ℕ → ℕ) → List ℕ → ℕ → ℕ → Type 0
Turned row table wanted s = (i m : ℕ) → has s i ≡ true → has wanted m ≡ true → has (get_or table m 0) i ≡ has (row i) m

-- by a policy: exactly if the role has a granting role of the permission
abbrev pub Named : Policy → List ℕ → ℕ → ℕ → Type 0
Named p table wanted s = (i m : ℕ) → has s i ≡ true → has wanted m ≡ true → has (get_or table m 0) i ≡ is_some (granter p m i)

-- a table of 256 sets after role r joined those at the numbers 64 * q + k that pass the test
pub record Marked (test : ℕ → ℕ → Bool) (r : ℕ) (before after : List ℕ) : Type 0 where
  pub size : length after ≡ 256
  pub sets : (q k : ℕ) → k < 64 → get_or after (q * 64 + k) 0 ≡ pick (test q k) (with (get_or before (q * 64 + k) 0) r) (get_or before (q * 64 + k) 0)

-- ---- sets

-- every member of a is one of b
abbrev pub Sub : ℕ → ℕ → Type 0
Sub a b = (i : ℕ) → has a i ≡ true → has b i ≡ true

-- r has the members of s that pass the test
abbrev pub Keeps : (ℕ → Bool) → ℕ → ℕ → Type 0
Keeps test s r = (i : ℕ) → has r i ≡ (has s i && test i)

-- p is a member of a that b lacks
pub record Missing (a b p : ℕ) : Type 0 where
  pub wanted : has a p ≡ true
  pub lacking : has b p ≡ false

-- a permission, by its number
abbrev pub number_of : Option Permission → Chosen ℕ
number_of None = none
number_of (Some p) = some p.0

-- ---- what free roles carry

-- row r of a table has what each of the free roles from r on carries
pub record Reaches (row reach : ℕ → ℕ) (free : ℕ) : Type 0 where
  pub rows : (r i : ℕ) → r ≤ i → i < 64 → has free i ≡ true → Sub (row i) (reach r)
