use Rattle.std.proofs.Common.{ap, ◌∙◌, rules}
use Rattle.model.specs.Sets.{union_at}
use Rattle.sets.specs.Words.{values}
use Rattle.grant_table.proofs.TableCallProof.{rows_start, rows_next, rows_last}
use Rattle.grant_table.proofs.table.put_rows.Goals as goal

pub loop-r-init : goal.loop-r-init
loop-r-init c = search (rules, rows_start)

pub loop-r-preserved : goal.loop-r-preserved
loop-r-preserved c =
    rows_next (values c.args.grants.now.granted.now) c.args.grants.now.below.now c.args.table.now c.loop-r.r c.perm_union_at-row.result c.loop-r.table
    c.put_numbers.new.s (search rules) (search rules)
    (c.perm_union_at-row.ensures ∙ ap (union_at (values c.args.grants.now.granted.now)) c.reach.ensures) c.loop-r.invariant
    c.put_numbers.ensures

pub returns : goal.returns
returns c = search (rules, rows_last)
