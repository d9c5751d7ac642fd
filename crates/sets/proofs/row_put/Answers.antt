-- `sets::row_put` meets its contract.
-- Assumes nothing.
use Prim.Native.Nat.{ℕ, ◌-◌, ◌*◌, ◌/◌, ◌^◌, ◌<◌}
use native.Mathlib.Omega.{arith}
use Rattle.sets_split.specs.Split.{Splits}
use Rattle.sets.proofs.Machine.{value_put}
use Rattle.sets.proofs.row_put.Goals as goal

splits : (p : ℕ) → p < 256 → Splits p (p / 2 ^ 6) (p - p / 2 ^ 6 * 64)
splits p l = record { whole = omega arith; inside = omega arith; small = omega arith }

pub returns : goal.returns
returns c = value_put _ _ _ _ c.four_words.ensures (splits c.args.p.0 (omega arith))
