-- `query_reduced::met::reduced_met` meets its contract: each exclusion is tested.
-- Assumes nothing.
use Rattle.std.proofs.Common.{rules, tests}
use Rattle.std.proofs.lemmas.Iterator.{YieldsList-from_slice}
use Rattle.std.proofs.lemmas.Iterator.Search.{all_from_yields_List}
use Rattle.query_reduced.specs.Met.{fits, reduced_met}
use Rattle.query_reduced.proofs.met.reduced_met.Goals as goal

pub returns : goal.returns
unfolding fits reduced_met
returns c =
    all_from_yields_List (λ x. fits x.members x.n c.args.s) _ _ _ c.all.ensures.ran (YieldsList-from_slice c.args.exclusions.now cc)
    (λ x b q k. search (rules, tests))
