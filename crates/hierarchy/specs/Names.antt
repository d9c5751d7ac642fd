-- The name of a role, and a number that is found, as the model has them.
-- Assumes nothing.
use Rattle.std.proofs.Math.Option.{Option as Found, none, some}
use Rattle.std.specs.Prelude.{ℕ, Option, Some, None}
use Rattle.model.specs.declared.Role.{Role}

-- the number of a role, none of none
abbrev pub name_of : Option Role → Found ℕ
name_of (Some r) = some r.0
name_of None = none

-- a number, none where there is none
abbrev pub found_of : Option ℕ → Found ℕ
found_of (Some n) = some n
found_of None = none
