-- Counts kept in planes of bits.
-- Assumes nothing.
use Rattle.std.specs.Prelude.{List, [], ◌∷◌, ℕ, ◌+◌, ◌*◌}
use Rattle.model.specs.Sets.{has, one}
use Rattle.limits_counts.specs.declared.Counts.{Counts}

-- the number whose binary digits, the lowest first, are those of role r in the planes
unfoldable pub count_in : List ℕ → ℕ → ℕ
count_in [] r = 0
count_in (p ∷ ps) r = one (has p r) + 2 * count_in ps r

-- the count of role r
abbrev pub count_at : Counts → ℕ → ℕ
count_at c r = count_in c.planes r
