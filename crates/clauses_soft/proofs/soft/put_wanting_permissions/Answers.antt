use borrow.Author.Rules.{rules}
use Rattle.clauses_soft.specs.Soft.{wanting_permissions}
use Rattle.clauses_lines.proofs.LineLaws.{softs_none, softs_next, softs_done}
use Rattle.clauses_soft.proofs.WantLaws.{wanted_put, permissions_standing}
use Rattle.clauses_soft.proofs.soft.put_wanting_permissions.Goals as goal

pub loop-q-init : goal.loop-q-init
loop-q-init c = search (rules, softs_none)

pub loop-q-preserved : goal.loop-q-preserved
loop-q-preserved c = search (rules, softs_next, wanted_put)

pub returns : goal.returns
returns c a h = rw (← permissions_standing c.args.aim _ _ a h) (unfold wanting_permissions in search (rules, softs_done))
