-- `grant_table_words::transpose::Step::exchange` meets its contract. The loop's invariant: the rows before the next
-- block are exchanged, and its places are marked.
-- Assumes nothing.
use Rattle.std.proofs.Common.{◌≡◌, ℕ, ◌≤◌, ◌<◌, ◌-◌, length, get_or}
use Rattle.grant_table_words.specs.Stages.{exchanged, MarkedFrom}
use Rattle.grant_table_words.proofs.transpose.Step.exchange.Given as goal

abbrev pub invariant-loop-from : goal.invariant-loop-from
invariant-loop-from l =
    (l.from ≤ 64) × (length l.out ≡ 64) × (MarkedFrom l.self.distance l.self.mask l.from)
    × ((i : ℕ) → i < l.from → get_or l.out i 0 ≡ exchanged l.self.distance l.self.mask l.a i)

abbrev pub decreases-loop-from : goal.decreases-loop-from
decreases-loop-from l = 64 - l.from
