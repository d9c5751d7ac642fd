-- The listed answers of the table call, by computation from the bytes of images.
-- Assumes nothing.
use mathlib.Core.Path.{refl}
use Rattle.model.specs.Computing.{computing}
use Rattle.grant_table_turned.specs.Turned.{joined}
use Rattle.grant_table_turned.specs.Calls.{filling}
use Rattle.grant_table.specs.Table.{grant_table}
use Rattle.grant_table.specs.TableCalls.{table_on, table_by, table_call}
use Rattle.grant_table.specs.TableCases.{looped, over_others, reaching, two_rows, row_from, TableCases}

pub table_cases : TableCases
unfolding computing joined filling grant_table table_on table_by table_call looped over_others reaching two_rows row_from
table_cases = record { loop = refl; loop-room = refl; reach = refl; reach_room = refl; shorter = refl; longer = refl; table = refl }
