-- The soft clauses of the objectives: R roles, P permissions.
-- Assumes nothing.
use Rattle.std.specs.Prelude.{List, [], ◌∷◌, ◌++◌, ℕ, zero, suc, ◌+◌}
use Rattle.model.specs.Clauses.{Clause, Weighted, list_to, must, must_not, role_variable, wanting}

-- the clauses that an objective wants of a variable, without their weight
unfoldable pub wanted : ℕ → ℕ → List Clause
wanted zero x = []
wanted (suc zero) x = must_not x ∷ []
wanted (suc (suc a)) x = must x ∷ []

-- what the first objective wants of the permissions, and the second of the roles
unfoldable pub wanting_permissions : ℕ → ℕ → ℕ → List Weighted
wanting_permissions R P a = list_to P (λ q. wanting a (R + 1) (R + q + 1))

unfoldable pub wanting_roles : ℕ → ℕ → List Weighted
wanting_roles R b = list_to R (λ r. wanting b 1 (role_variable r))

unfoldable pub soft_by : ℕ → ℕ → ℕ → ℕ → List Weighted
soft_by R P a b = wanting_permissions R P a ++ wanting_roles R b

-- n, where there is an objective
unfoldable pub where_aimed : ℕ → ℕ → ℕ
where_aimed zero n = 0
where_aimed (suc a) n = n
