-- `model_binomials::allowed` meets its contract. The loop's invariant: the sum so far is that of the terms below k.
-- Assumes nothing.
use Rattle.std.proofs.Common.{◌≡◌}
use Rattle.model_binomials.specs.Binomial.{binomial, sum_below}
use Rattle.model_binomials.proofs.allowed.Given as goal

abbrev pub invariant-loop-k : goal.invariant-loop-k
invariant-loop-k l = l.sum ≡ sum_below (binomial l.m) l.k
