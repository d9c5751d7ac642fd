use borrow.Author.Rules.{rules}
use Rattle.clauses_soft.specs.Soft.{wanting_roles}
use Rattle.clauses_lines.proofs.LineLaws.{softs_none, softs_next, softs_done}
use Rattle.clauses_soft.proofs.WantLaws.{wanted_put, roles_standing}
use Rattle.clauses_soft.proofs.soft.put_wanting_roles.Goals as goal

pub loop-r-init : goal.loop-r-init
loop-r-init c = search (rules, softs_none)

pub loop-r-preserved : goal.loop-r-preserved
loop-r-preserved c = search (rules, softs_next, wanted_put)

pub returns : goal.returns
returns c a h = rw (← roles_standing c.args.aim _ a h) (unfold wanting_roles in search (rules, softs_done))
