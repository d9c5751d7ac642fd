-- `image_usual::usual::gather` meets its contract. The loop's invariant: the roles up to here are gathered.
-- Assumes nothing.
use Rattle.std.proofs.Common.{◌≡◌}
use Rattle.image_usual.specs.Usual.{Gathers}
use Rattle.image_usual.proofs.usual.gather.Given as goal

abbrev pub invariant-loop-place : goal.invariant-loop-place
invariant-loop-place l =
    (l.all.run.place ≡ l.place) × (Gathers l.image.bytes.now l.image.count l.fn.at.place l.roles l.u l.fn.at.sum l.own l.all.run.place l.all.run.sum l.all.row)
