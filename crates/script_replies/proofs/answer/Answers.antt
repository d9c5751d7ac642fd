-- A line parsed and its call made.
-- Assumes nothing.
use borrow.Author.Rules.{rules}
use Rattle.script_replies.proofs.LineLaws.{number-answered, ledger_after}
use Rattle.script_replies.proofs.answer.Goals as goal

pub returns : goal.returns
returns c = (
  number-answered c.args.image.now c.args.ledger.now c.args.line.now _ 0 _ _ _ c.parse-parsed.ensures c.call-code.ensures,
  search rules,
  ledger_after c.args.image.now c.args.ledger.now c.args.line.now _ 0 _ _ _ c.parse-parsed.ensures c.call-code.ensures,
)
