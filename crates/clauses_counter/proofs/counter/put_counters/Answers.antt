use mathlib.Core.Path.{refl}
use borrow.Author.Rules.{rules}
use native.Mathlib.Omega.{arith}
use Rattle.clauses_bytes.proofs.WritingLaws.{along_done}
use Rattle.clauses_counter.proofs.CounterLaws.{counters_none, counters-start, exclusion_goes}
use Rattle.clauses_counter.proofs.counter.put_counters.Goals as goal

pub loop-x-init : goal.loop-x-init
loop-x-init c = search (rules, counters-start)

pub loop-x-preserved : goal.loop-x-preserved
loop-x-preserved c =
    let i = c.loop-x.invariant in (
      omega (arith, c.helpers-behind.ensures.1, i.0),
      search rules,
      exclusion_goes _ _ _ _ _ _ _ _ c.list-x-items.ensures c.put_counter-next.ensures i.2 (search rules) refl c.helpers-behind.ensures.0,
    )

pub returns : goal.returns
returns c = along_done c.loop-x.invariant.2 (counters_none _ _ _ _ _ _ (search rules))
