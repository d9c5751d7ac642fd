-- `image_usual::usual::members` meets its contract. The loop's invariant: the members up to here are joined.
-- Assumes nothing.
use Rattle.std.proofs.Common.{◌≡◌}
use Rattle.image_usual.specs.Usual.{Joined}
use Rattle.image_usual.proofs.usual.members.Given as goal

abbrev pub invariant-loop-place : goal.invariant-loop-place
invariant-loop-place l =
    (l.behind.run.place ≡ l.place)
    × Joined l.image.bytes.now l.roles l.image.count l.fn.at.place l.fn.at.sum l.fn.t l.behind.run.place l.behind.run.sum l.behind.scan
