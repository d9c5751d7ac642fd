-- The hard clauses, by the words that the code has: R roles, P permissions, what role r carries as `row r`.
-- Assumes nothing.
use Rattle.std.specs.Prelude.{◌≡◌, not, List, [], ◌∷◌, ◌++◌, ℕ, ◌+◌, ◌<◌, get_or}
use Rattle.model.specs.Sets.{has}
use Rattle.model.specs.Clauses.{Literal, holds, fails, Clause, list_to, when, must, must_not, gives, role_variable}
use Rattle.sets.specs.Words.{value}
use Rattle.clauses_counter.specs.Counters.{counters}

-- what role r carries, by rows of four words
abbrev pub rows_of : List (List ℕ) → ℕ → ℕ
rows_of rows r = value (get_or rows r [])

-- ---- own roles, what roles carry, the bounds

-- role r, where it is not authorized
unfoldable pub barred : ℕ → ℕ → List Clause
barred s r = when (not (has s r)) (must_not (role_variable r))

unfoldable pub barring_to : ℕ → ℕ → List Clause
barring_to R s = list_to R (λ r. barred s r)

-- permission q, where the set has it, by variable x
unfoldable pub carried_as : ℕ → ℕ → ℕ → ℕ → List Clause
carried_as R set x q = when (has set q) (gives x (R + q + 1))

unfoldable pub carrying_row : ℕ → ℕ → ℕ → ℕ → List Clause
carrying_row R P set x = list_to P (λ q. carried_as R set x q)

unfoldable pub carrying_to : ℕ → ℕ → (ℕ → ℕ) → List Clause
carrying_to R P row = list_to R (λ r. carrying_row R P (row r) (role_variable r))

-- role r, where it carries q
unfoldable pub carrier : (ℕ → ℕ) → ℕ → ℕ → List Literal
carrier row q r = when (has (row r) q) (holds (role_variable r))

unfoldable pub carriers_to : ℕ → (ℕ → ℕ) → ℕ → List Literal
carriers_to R row q = list_to R (λ r. carrier row q r)

-- the roles of a set below R
unfoldable pub roles_in : ℕ → ℕ → List Literal
roles_in R set = list_to R (λ r. when (has set r) (holds (role_variable r)))

-- for each permission the roles below R whose rows have it
pub record Columns (R : ℕ) (row : ℕ → ℕ) (table : List ℕ) : Type 0 where
  pub same : (r q : ℕ) → r < R → q < 256 → has (get_or table q 0) r ≡ has (row r) q

unfoldable pub carried_one : ℕ → (ℕ → ℕ) → ℕ → Clause
carried_one R row q = fails (R + q + 1) ∷ carriers_to R row q

unfoldable pub carried_to : ℕ → ℕ → (ℕ → ℕ) → List Clause
carried_to R P row = list_to P (λ q. carried_one R row q ∷ [])

unfoldable pub lower : ℕ → ℕ → ℕ → List Clause
lower R set q = when (has set q) (must (R + q + 1))

unfoldable pub lower_bound_to : ℕ → ℕ → ℕ → List Clause
lower_bound_to R P set = list_to P (λ q. lower R set q)

unfoldable pub upper : ℕ → ℕ → ℕ → List Clause
upper R set q = when (not (has set q)) (must_not (R + q + 1))

unfoldable pub upper_bound_to : ℕ → ℕ → ℕ → List Clause
upper_bound_to R P set = list_to P (λ q. upper R set q)

-- ---- all hard clauses

unfoldable pub hard_by : ℕ → ℕ → ℕ → (ℕ → ℕ) → ℕ → ℕ → List ℕ → List ℕ → ℕ → List Clause
hard_by R P s row lower upper masks ns k =
    barring_to R s
    ++ (carrying_to R P row ++ (carried_to R P row ++ ((lower_bound_to R P lower ++ upper_bound_to R P upper) ++ counters masks ns k 0 (R + P))))
