-- `grant_table::table::grant_table` meets its contract.
-- Assumes nothing.
use Rattle.std.proofs.Common.{refl}
use Rattle.std.proofs.lemmas.Result.{err_from_is_err_and}
use Rattle.grant_table_turned.proofs.CallProof.{room_reason}
use Rattle.grant_table.proofs.TableCallProof.{table_19, table_done}
use Rattle.grant_table.proofs.table.grant_table.Goals as goal

pub returns : goal.returns
returns c =
    let target = rw c.in_ok-whole.ensures.ok_part at c.as_mut_array.ensures.cases in
    λ p range eg eb er. table_done p _ range _ _ _ eg eb er target.long _ _ refl c.put_rows.ensures

pub returns-in_err-whole : goal.returns-in_err-whole
returns-in_err-whole c =
    let e = err_from_is_err_and c.from_residual.result c.from_residual.ensures.1 in
    let unfit = rw c.in_err-whole.ensures.ok_part at c.as_mut_array.ensures.cases in
    λ p range eg eb er. rw (e.1, e.2, room_reason _ _ c.in_err-whole.ensures.value) (table_19 p _ unfit)
