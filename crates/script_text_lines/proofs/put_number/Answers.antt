-- A blank, then the digits.
-- Assumes nothing.
use borrow.Author.Rules.{rules}
use Rattle.script_text_lines.proofs.LineLaws.{blank_put}
use Rattle.script_text_lines.proofs.put_number.Goals as goal

pub returns : goal.returns
returns c = search (rules, blank_put)
