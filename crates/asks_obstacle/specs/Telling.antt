-- What a host gets of an obstacle.
-- Assumes nothing.
use Rattle.std.specs.Prelude.{◌≡◌, List, [], ℕ, ◌+◌, ◌*◌, ◌≤◌}
use Rattle.std.proofs.Math.Option.{Option}
use Rattle.model.specs.Obstacle.{Obstacle}
use Rattle.obstacles_lacks.specs.declared.found.Obstacle.{Obstacle as Found}
use Rattle.obstacles_lacks.specs.Founds.{told_of}
use Rattle.model.specs.Session.{Reply, obstructed}
use Rattle.model.specs.Run.{returned, answered}

-- what is replied of what stands in the way, or of nothing
unfoldable pub reply_of : Option Obstacle → Reply
reply_of o = (obstructed [] o).reply

-- the number returned and the buffer after the call are the reply's; the room is the buffer before
pub record Tells (o : Option Obstacle) (n : ℕ) (room out : List ℕ) : Type 0 where
  pub number : n ≡ returned (reply_of o)
  pub buffer : out ≡ answered room (reply_of o)

-- an obstacle as the numbers that a host gets: its kind plus 8 times what it is about, which is small, and both role
-- sets
pub record TellsOf (found : Found) (extra first second : ℕ) : Type 0 where
  pub extra-is : extra ≡ (told_of found).kind + 8 * (told_of found).about
  pub small : extra ≤ 16384
  pub first_is : first ≡ (told_of found).first
  pub second_is : second ≡ (told_of found).second
