use Rattle.tidy_words.proofs.Writing.{goes_start, goes_room, goes_next, goes_end}
use Rattle.tidy_words.proofs.Members.{walk-next, walk_end}
use Rattle.tidy_words.proofs.words.Writer.put_set.Goals as goal

pub loop-k-init : goal.loop-k-init
loop-k-init c =
    rw (c.into_iter-k-iterator.ensures.into_iter_gives, c.members-k-items.ensures) (goes_start c.args.self.now _ c.requires.0)

pub put_word-requires : goal.put_word-requires
put_word-requires c =
    let t = c.in-Some.ensures.steps in
    goes_room c.loop-k.invariant (walk-next _ _ _ _ t.lowest _ t.rest)

pub loop-k-preserved : goal.loop-k-preserved
loop-k-preserved c =
    let t = c.in-Some.ensures.steps in
    goes_next c.loop-k.invariant (walk-next _ _ _ _ t.lowest _ t.rest) c.put_word.ensures

pub returns : goal.returns
returns c = goes_end c.loop-k.invariant (walk_end _ _ _ c.in-None.ensures.steps.0)
