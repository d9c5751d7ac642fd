-- `grant_table_words::transpose::Step::block` meets its contract. The loop's invariant: the rows below k, and those j
-- further, are exchanged.
-- Assumes nothing.
use Rattle.std.proofs.Common.{◌+◌, ◌≤◌}
use Rattle.grant_table_words.specs.Stages.{Blocked}
use Rattle.grant_table_words.proofs.transpose.Step.block.Given as goal

abbrev pub invariant-loop-k : goal.invariant-loop-k
invariant-loop-k l = (l.k ≤ l.from + l.self.distance) × (Blocked l.self.distance l.self.mask l.from l.k l.a l.initial.out l.out)
