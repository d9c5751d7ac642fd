-- The parts of a line, one behind the other.
-- Assumes nothing.
use borrow.Author.Rules.{rules}
use Rattle.script_text_lines.proofs.LineLaws.{line_put}
use Rattle.script_text_lines.proofs.put_line.Goals as goal

pub returns : goal.returns
returns c = (
  line_put _ _ _ c.args.answer.now c.roles_of.ensures.0 c.permissions_of.ensures.0 c.put_first.ensures.0 c.put_number.ensures.0
      c.put_number-2.ensures.0 c.put_set.ensures.0 c.put_set-2.ensures.0 c.put.ensures,
  search rules,
)
