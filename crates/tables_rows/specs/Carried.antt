-- What roles carry, by the table of grants and the closed table of juniors: all of them, or those of a set with empty
-- rows elsewhere.
-- Assumes nothing.
use Rattle.std.specs.Prelude.{List, map, ℕ, get_or, replicate}
use Rattle.model.specs.Tests.{pick}
use Rattle.model.specs.Sets.{has, union_at}
use Rattle.model.specs.Policy.{table_of, with_selves}

-- a table of 64 empty rows of four numbers
abbrev pub blank : List (List ℕ)
blank = replicate 64 (replicate 4 0)

-- row r, of a role r of `wanted`: the permissions that role r carries, by the closed table of juniors
unfoldable pub carried_rows : List ℕ → List ℕ → ℕ → List ℕ
carried_rows granted below wanted = table_of 64 (λ r. pick (has wanted r) (union_at granted (get_or (with_selves below) r 0)) 0)

-- row r: the permissions that role r carries
unfoldable pub carried_of : List ℕ → List ℕ → List ℕ
carried_of granted below = map (union_at granted) (with_selves below)
