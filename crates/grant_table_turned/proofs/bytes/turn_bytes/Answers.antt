-- `grant_table_turned::bytes::turn_bytes` meets its contract.
-- Assumes nothing.
use Rattle.std.proofs.Common.{ap, ◌∙◌}
use Rattle.std.proofs.lemmas.Result.{err_from_is_err_and}
use Rattle.grant_table_turned.specs.Turned.{turned}
use Rattle.grant_table_turned.proofs.CallProof.{fits, source_unfit, target_unfit, room_reason, turn_19, turn-done}
use Rattle.grant_table_turned.proofs.bytes.turn_bytes.Goals as goal

pub returns : goal.returns
returns c =
    let source = rw c.in_ok-rows.ensures.ok_part at c.as_array.ensures.cases in
    let target = rw c.in_ok-columns.ensures.ok_part at c.as_mut_array.ensures.cases in
    turn-done _ _ (fits _ _ source.long target.long) _ (c.turn.ensures ∙ ap turned source.same)

pub returns-in_err-rows : goal.returns-in_err-rows
returns-in_err-rows c =
    let e = err_from_is_err_and c.from_residual.result c.from_residual.ensures.1 in
    let unfit = rw c.in_err-rows.ensures.ok_part at c.as_array.ensures.cases in
    rw (e.1, e.2, room_reason _ _ c.in_err-rows.ensures.value) (turn_19 _ _ (source_unfit _ _ unfit))

pub returns-in_err-columns : goal.returns-in_err-columns
returns-in_err-columns c =
    let e = err_from_is_err_and c.from_residual-in_err-columns.result c.from_residual-in_err-columns.ensures.1 in
    let unfit = rw c.in_err-columns.ensures.ok_part at c.as_mut_array.ensures.cases in
    rw (e.1, e.2, room_reason _ _ c.in_err-columns.ensures.value) (turn_19 _ _ (target_unfit _ _ unfit))
