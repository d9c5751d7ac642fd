-- `clauses_hard::sizes::counter_size` meets its contract.
-- Assumes nothing.
use mathlib.Core.Path.{ap, ◌∙◌}
use Prim.Native.Nat.{ℕ}
use native.Mathlib.Omega.{arith}
use Rattle.clauses_hard.specs.Sizes.{tallied, counter_size}
use Rattle.clauses_counter.proofs.CounterLaws.{count-le}
use Rattle.clauses_hard.proofs.sizes.counter_size.Goals as goal

pub tally-requires : goal.tally-requires
tally-requires c = omega (arith, c.size.ensures, count-le c.args.members)

pub returns : goal.returns
unfolding counter_size
returns c =
    (c.tally.ensures.0 ∙ ap (λ (m : ℕ). tallied m c.args.n) c.size.ensures, c.tally.ensures.1)
