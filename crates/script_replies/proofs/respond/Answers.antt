-- A line parsed, its call made and its answer written.
-- Assumes nothing.
use Rattle.script_replies.proofs.LineLaws.{line-written, ledger_after}
use Rattle.script_replies.proofs.respond.Goals as goal

pub returns : goal.returns
returns c = (
  line-written c.args.image.now c.args.ledger.now c.args.line.now _ c.args.n _ _ _ c.parse-parsed.ensures c.call-code.ensures _ _ c.put_returned.ensures.0,
  c.put_returned.ensures.1,
  ledger_after c.args.image.now c.args.ledger.now c.args.line.now _ c.args.n _ _ _ c.parse-parsed.ensures c.call-code.ensures,
)
