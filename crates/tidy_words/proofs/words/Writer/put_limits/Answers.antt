use Rattle.std.proofs.Common.{arith}
use Rattle.tidy_words.proofs.Writing.{goes_start, goes_room, goes_next, goes_end}
use Rattle.tidy_words.proofs.Turns.{within_first, none_left}
use Rattle.tidy_words.proofs.Limiting.{limits_next, limits_end}
use Rattle.tidy_words.proofs.words.Writer.put_limits.Goals as goal

pub loop-r-init : goal.loop-r-init
loop-r-init c = goes_start c.args.self.now _ c.requires.2

pub put_limit-requires : goal.put_limit-requires
put_limit-requires c =
    let r = within_first c.args.limits.now c.args.n c.loop-r.r 0 c.loop-r-test.true in
    let i = r.inside in
    rw r.same (omega arith, c.requires.1.most c.loop-r.r, goes_room c.loop-r.invariant (limits_next c.args.limits.now c.loop-r.r r.inside))

pub loop-r-preserved : goal.loop-r-preserved
loop-r-preserved c =
    let r = within_first c.args.limits.now c.args.n c.loop-r.r 0 c.loop-r-test.true in
    goes_next c.loop-r.invariant (limits_next c.args.limits.now c.loop-r.r r.inside) (rw r.same at c.put_limit.ensures)

pub returns : goal.returns
returns c =
    goes_end c.loop-r.invariant (limits_end _ _ _ c.requires.1 (none_left c.args.limits.now _ _ (omega arith) c.loop-r-test.false))
