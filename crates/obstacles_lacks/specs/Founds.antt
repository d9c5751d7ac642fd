-- What stands in the way, as code tells it.
-- Assumes nothing.
use Rattle.std.specs.Prelude.{true, ◌+◌, ◌*◌, ℕ, Option, Some, None}
use Rattle.std.proofs.Math.Option.{Option as Chosen, none, some}
use Rattle.model.specs.declared.Line.{Line}
use Rattle.model.specs.Sets.{has}
use Rattle.model.specs.Policy.{Meaning, kind_number}
use Rattle.model.specs.Limits.{Others, unbarred}
use Rattle.model.specs.Obstacle.{Obstacle as Told, lacking, carriers_of, fitting, lacks}
use Rattle.obstacles_lacks.specs.declared.found.Lack.{Lack}
use Rattle.obstacles_lacks.specs.declared.found.Blocking.{Blocking}
use Rattle.obstacles_lacks.specs.declared.found.Obstacle.{Obstacle}
use Rattle.obstacles_lacks.specs.declared.found.Obstacle.TheVariants.{Own, Upper, Limits, Exclusion}

-- ---- what stands in the way, as the model has it

abbrev pub lack_of : ℕ → Lack → Told
lack_of kind x = record { kind = kind; about = x.permission.0; first = x.roles; second = 0 }

abbrev pub blocking_of : Blocking → Told
blocking_of x =
    record {
      kind = 4;
      about = kind_number x.exclusion.kind + 4 * x.exclusion.n;
      first = x.counted;
      second = x.exclusion.members;
    }

abbrev pub told_of : Obstacle → Told
told_of (Own x) = lack_of 1 x
told_of (Upper x) = lack_of 2 x
told_of (Limits x) = lack_of 3 x
told_of (Exclusion x) = blocking_of x

unfoldable pub found_of : Option Obstacle → Chosen Told
found_of None = none
found_of (Some o) = some (told_of o)

-- what lacks, by the number of its kind
unfoldable pub lacks_of : ℕ → Option Lack → Chosen Told
lacks_of kind None = none
lacks_of kind (Some x) = some (lack_of kind x)

-- ---- the model's kinds 1 to 3

unfoldable pub own_lacks : Meaning → ℕ → Chosen Told
own_lacks m lower = lacks 1 (carriers_of m (λ r. true)) (lacking m lower m.authorized)

unfoldable pub upper_lacks : Meaning → ℕ → ℕ → Chosen Told
upper_lacks m lower upper = lacks 2 (carriers_of m (has m.authorized)) (lacking m lower (fitting m upper))

unfoldable pub limit_lacks : Meaning → Others → Line → ℕ → ℕ → ℕ → Chosen Told
limit_lacks m x l k lower upper = lacks 3 (carriers_of m (has (fitting m upper))) (lacking m lower (fitting (unbarred m x l k) upper))
