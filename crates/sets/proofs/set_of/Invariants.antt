-- `sets::set_of` meets its contract. The invariant: the set so far is made by the test of the numbers so far.
-- Assumes nothing.
use Rattle.std.proofs.Common.{◌≡◌, Bool, ℕ, ◌<◌}
use Rattle.model.specs.Sets.{set_of}
use Rattle.sets.proofs.set_of.Given as goal

abbrev pub invariant-loop-k : goal.invariant-loop-k
invariant-loop-k g l =
    (p : ℕ → Bool) → ((k : ℕ) (b : Bool) → k < l.n → goal.F-post g l.test k b → b ≡ p k) → l.found ≡ set_of p l.k
