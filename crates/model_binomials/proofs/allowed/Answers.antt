use borrow.Author.Rules.{rules}
use Rattle.model_binomials.specs.Binomial.{sum_below}
use Rattle.model_binomials.proofs.Sums.{turn-next, turn-fits, turn_last}
use Rattle.model_binomials.proofs.allowed.Goals as goal

pub loop-k-init : goal.loop-k-init
loop-k-init c = unfold sum_below in search rules

pub overflow_add-sum : goal.overflow_add-sum
overflow_add-sum c = search (rules, turn-fits)

pub loop-k-preserved : goal.loop-k-preserved
loop-k-preserved c = search (rules, turn-next)

pub returns : goal.returns
returns c = search (rules, turn_last)
