-- `moves::lines::first_fault` meets its contract. The loop's invariant: the answer from user u on is that from user 0
-- on.
-- Assumes nothing.
use mathlib.Core.Path.{◌≡◌}
use Prim.Native.Nat.{◌-◌}
use Rattle.model.specs.Policy.{Policy}
use Rattle.model.specs.Moves.{move_answer}
use Rattle.exclusion_rows.specs.Table.{exclusions_of}
use Rattle.sessions.specs.Calls.{Known}
use Rattle.moves.proofs.lines.first_fault.Given as goal

abbrev pub invariant-loop-u : goal.invariant-loop-u
invariant-loop-u l =
    (p : Policy) → Known l.tables.head l.tables.authorized (exclusions_of l.tables.exclusions) p
    → move_answer l.old.sessions l.to p l.old.bytes.now l.u (l.u-end - l.u) ≡ move_answer l.old.sessions l.to p l.old.bytes.now 0 l.u-end
