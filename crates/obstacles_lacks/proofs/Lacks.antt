-- What roles lack that carry a set.
-- Assumes nothing.
use mathlib.Core.Path.{◌≡◌}
use mathlib.Core.Bool.{◌&&◌, not}
use mathlib.Core.Option.{Option}
use Prim.Native.Nat.{ℕ}
use Rattle.model.specs.Tests.{lowest, if_below}
use Rattle.model.specs.Sets.{has}
use Rattle.model.specs.Policy.{Meaning}
use Rattle.model.specs.Choice.{carried_by}
use Rattle.model.specs.Obstacle.{lacking as lacking_of}

pub lacking_by : (m : Meaning) (lower s c : ℕ) (o : Option ℕ) → c ≡ carried_by m s → o ≡ if_below 256 (lowest (λ q. has lower q && not (has c q)) 0 256)
    → o ≡ lacking_of m lower s
unfolding lacking_of
lacking_by m lower s c o e f = rw (f, e)
