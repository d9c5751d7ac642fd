-- `moves::lines::put_lines` meets its contract. The loop's invariant: the first u lines are in place.
-- Assumes nothing.
use mathlib.Core.Path.{◌≡◌}
use Rattle.model.specs.Moves.{resized_lines}
use Rattle.octets.specs.Splice.{splice}
use Rattle.moves.proofs.lines.put_lines.Given as goal

abbrev pub invariant-loop-u : goal.invariant-loop-u
invariant-loop-u l = l.new ≡ splice l.initial.new 0 (resized_lines l.old.sessions l.to l.old.bytes.now 0 l.u)
