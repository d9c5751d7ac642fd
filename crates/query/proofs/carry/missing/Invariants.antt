-- `query::carry::missing` meets its contract: the words before the next one lack nothing.
-- Assumes nothing.
use Rattle.std.proofs.Common.{◌≡◌, ℕ, ◌<◌, get_or}
use Rattle.sets.proofs.Taken.{lacking}
use Rattle.query.proofs.carry.missing.Given as goal

abbrev pub invariant-loop-i : goal.invariant-loop-i
invariant-loop-i l = (j : ℕ) → j < l.i → lacking (get_or l.a j 0) (get_or l.b j 0) ≡ 0
