-- `moves_line::put_resized` meets its contract.
-- Assumes nothing.
use native.Mathlib.Omega.{arith}
use borrow.Author.Rules.{rules}
use Rattle.moves_line.proofs.OneLine.{at_room, longer_put, shorter_put}
use Rattle.moves_line.proofs.put_resized.Goals as goal

pub overflow_mul-at : goal.overflow_mul-at
overflow_mul-at c = omega (arith, at_room c.args.user _ c.line_size-size.ensures c.requires)

pub put-requires : goal.put-requires
put-requires c =
    omega (arith, at_room c.args.user _ c.line_size-size.ensures c.requires)

pub overflow_add-at : goal.overflow_add-at
overflow_add-at c =
    omega (arith, at_room c.args.user _ c.line_size-size.ensures c.requires)

pub put_zeros-requires : goal.put_zeros-requires
put_zeros-requires c =
    omega (arith, at_room c.args.user _ c.line_size-size.ensures c.requires)

pub returns-then-len-size : goal.returns-then-len-size
returns-then-len-size c =
    longer_put _ c.args.user _ _ _ _ c.line_size-size.ensures _ (at_room _ _ c.line_size-size.ensures c.requires) c.if-len-size.true c.put.ensures
    c.put_zeros.ensures

pub put-requires-2 : goal.put-requires-2
put-requires-2 c =
    let h = at_room c.args.user _ c.line_size-size.ensures c.requires in
    search rules

pub returns : goal.returns
returns c =
    shorter_put _ _ _ _ _ _ c.line_size-size.ensures c.if-len-size.false c.put-2.ensures
