-- What is returned of an explanation.
-- Assumes nothing.
use Rattle.std.proofs.Math.Option.{Option, none, some}
use Rattle.std.specs.Prelude.{ℕ, ◌*◌}

-- 20 where there is none, else 256 times the extra
unfoldable pub told : Option ℕ → ℕ
told none = 20
told (some x) = 256 * x
