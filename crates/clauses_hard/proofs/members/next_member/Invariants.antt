-- `clauses_hard::members::next_member` meets its contract: none is between the number and the place so far. The
-- measure is what is left up to the end.
-- Assumes nothing.
use Prim.Native.Nat.{◌-◌, ◌≤◌}
use Rattle.sets.specs.Words.{value}
use Rattle.clauses_hard.proofs.MemberLaws.{Between}
use Rattle.clauses_hard.proofs.members.next_member.Given as goal

abbrev pub invariant-loop-at : goal.invariant-loop-at
invariant-loop-at l = (l.from ≤ l.at) × Between (value l.set) l.from l.at

abbrev pub decreases-loop-at : goal.decreases-loop-at
decreases-loop-at l = l.end - l.at
