-- `image_usual::usual::pass` meets its contract. The loop's invariant: the words up to here are passed.
-- Assumes nothing.
use Rattle.std.proofs.Common.{◌-◌}
use Rattle.image_usual.specs.Usual.{FilledBy}
use Rattle.image_usual.proofs.usual.pass.Given as goal

abbrev pub invariant-loop-here : goal.invariant-loop-here
invariant-loop-here g l =
    FilledBy g.G.TakesGrants.step l.image.bytes.now l.h l.image.count l.fn.due l.fn.at.place l.fn.at.sum l.initial.assigned
    (g.G.TakesGrants.rows l.initial.granted) l.initial.juniors l.here.place l.here.sum l.assigned (g.G.TakesGrants.rows l.granted) l.juniors

abbrev pub decreases-loop-here : goal.decreases-loop-here
decreases-loop-here g l = l.image.count - l.here.place
