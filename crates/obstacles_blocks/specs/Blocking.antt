-- Where exclusions begin to leave no set.
-- Assumes nothing.
use Rattle.std.specs.Prelude.{◌≡◌, true, false, ℕ, ◌+◌, ◌<◌, take, Option as Maybe, Some, None}
use Rattle.std.proofs.Math.Option.{Option, none, some}
use Rattle.model.specs.declared.Exclusion.{Exclusion}
use Rattle.model.specs.declared.Line.{Line}
use Rattle.model.specs.Policy.{Policy}
use Rattle.model.specs.Limits.{Others}
use Rattle.model.specs.Reduced.{stays, mask_of}
use Rattle.model.specs.Obstacle.{Obstacle, left}
use Rattle.query_reduced.specs.declared.reduced.ReducedExclusion.{ReducedExclusion}
use Rattle.obstacles_lacks.specs.declared.found.Blocking.{Blocking}
use Rattle.obstacles_lacks.specs.Founds.{blocking_of}
use Rattle.asks.specs.Asks.{left_to}

-- of the policy's n exclusions the first j leave a set, and the first j + 1 leave none
pub record Blocks (p : Policy) (u : ℕ) (x : Others) (l : Line) (k lower upper n j : ℕ) : Type 0 where
  pub inside : j < n
  pub leaves : left (left_to p u x l k) l k lower upper (take j p.exclusions) ≡ true
  pub stops : left (left_to p u x l k) l k lower upper (take (j + 1) p.exclusions) ≡ false

-- a reduced exclusion has the members of the exclusion that do not stay counted for session k
abbrev pub ReducedBy : Exclusion → ReducedExclusion → Line → ℕ → Type 0
ReducedBy x r l k = r.members ≡ mask_of x.members (stays l k x.kind)

-- an exclusion that blocks, as the model has it
unfoldable pub blocked_of : Maybe Blocking → Option Obstacle
blocked_of None = none
blocked_of (Some b) = some (blocking_of b)
