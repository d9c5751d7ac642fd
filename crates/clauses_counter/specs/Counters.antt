-- The hard clauses of the exclusions, by the members that are not counted yet and what is left of n.
-- Assumes nothing.
use Rattle.std.specs.Prelude.{List, [], ◌++◌, ℕ, zero, suc, ◌+◌, ◌*◌, get_or, length}
use Rattle.model.specs.Clauses.{Clause, variables_in, counter}

-- k exclusions from i on, the helpers behind a
unfoldable pub counters : List ℕ → List ℕ → ℕ → ℕ → ℕ → List Clause
counters masks ns zero i a = []
counters masks ns (suc k) i a =
    counter (get_or ns i 0) a (variables_in (get_or masks i 0))
    ++ counters masks ns k (suc i) (a + length (variables_in (get_or masks i 0)) * get_or ns i 0)
