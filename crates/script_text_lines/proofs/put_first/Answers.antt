-- The digits of a number of 64 bits are at most 20.
-- Assumes nothing.
use borrow.Author.Rules.{rules}
use Rattle.script_text_lines.proofs.LineLaws.{decimal-room, decimal_end}
use Rattle.script_text_lines.proofs.put_first.Goals as goal

pub put_decimal-requires : goal.put_decimal-requires
put_decimal-requires c = search (rules, decimal-room)

pub returns : goal.returns
returns c = search (rules, decimal_end)
