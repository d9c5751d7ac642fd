use Rattle.tidy_words.proofs.Writing.{goes_room, goes_next, goes_end}
use Rattle.tidy_words.proofs.Turns.{listed_next, listed_end}
use Rattle.tidy_words.proofs.words.Writer.put_exclusions.Goals as goal

pub put_exclusion-requires : goal.put_exclusion-requires
put_exclusion-requires c = goes_room c.loop-x.invariant (listed_next c.listed-x-items.result.now c.loop-x.x-index c.loop-x-test.true _)

pub loop-x-preserved : goal.loop-x-preserved
loop-x-preserved c =
    goes_next c.loop-x.invariant (listed_next c.listed-x-items.result.now c.loop-x.x-index c.loop-x-test.true _) c.put_exclusion.ensures

pub returns : goal.returns
returns c =
    rw (← c.listed-x-items.ensures) (goes_end c.loop-x.invariant (listed_end c.listed-x-items.result.now c.loop-x.x-index c.loop-x-test.false))
