-- `tables_exclusions::exclusions::members_in` meets its contract. The loop's invariant: the members of the rest, joined
-- to those so far, are those of the whole.
-- Assumes nothing.
use mathlib.Core.Path.{◌≡◌}
use Prim.Native.Nat.{◌-◌}
use Rattle.model.specs.Policy.{fold, joining, entries_from}
use Rattle.tables_exclusions.proofs.exclusions.members_in.Given as goal

abbrev pub invariant-loop-place : goal.invariant-loop-place
invariant-loop-place l =
    fold joining l.set (entries_from l.image (l.to - l.place) l.place) ≡ fold joining l.members (entries_from l.image (l.to - l.from) l.from)
