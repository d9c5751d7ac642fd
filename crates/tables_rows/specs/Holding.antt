-- The roles that hold the grant of a permission, as a set.
-- Assumes nothing.
use Rattle.std.specs.Prelude.{List, ℕ, get_or}
use Rattle.model.specs.Sets.{has, set_of}

-- the roles to which a grant gives the permission m
unfoldable pub holders_of : List ℕ → ℕ → ℕ
holders_of granted m = set_of (λ g. has (get_or granted g 0) m) 64
