use Rattle.std.proofs.Common.{length, sym, ap, ◌∙◌, map, arith}
use lib.ListN.{length-map}
use Rattle.std.proofs.lemmas.List.{get_or-map}
use Rattle.model.specs.Sets.{count}
use Rattle.tidy_words.proofs.Turns.{within_first, none_left, table_count, table_end}
use Rattle.tidy_words.proofs.count.count_table.Goals as goal

pub loop-row-init : goal.loop-row-init
loop-row-init g c = (omega arith, omega arith, λ word. omega arith)

pub loop-row-preserved : goal.loop-row-preserved
loop-row-preserved g c =
    let rows = c.args.rows.now in
    let n = c.loop-row.row-index in
    let x = c.row-item.result in
    let r = within_first rows c.args.n n x c.loop-row-test.true in
    let l = length-map rows g.S.Counted.as_set in
    let v = get_or-map g.S.Counted.as_set rows n x 0 r.inside ∙ ap g.S.Counted.as_set (sym (c.row-item.is ∙ r.same)) in
    let e = c.size.ensures ∙ ap (count g.S.Counted.top) (sym v) in
    let s = c.requires.1.size in (
      omega arith,
      omega (arith, r.inside),
      λ word.
          let k = table_count word g.S.Counted.top (map g.S.Counted.as_set rows) n (omega (arith, r.inside)) in
          let q = c.loop-row.invariant.2 word in
          omega arith,
    )

pub returns : goal.returns
returns g c =
    let rows = c.args.rows.now in
    let l = length-map rows g.S.Counted.as_set in
    let s = c.requires.1.size in
    let t = none_left rows c.args.n c.loop-row.row-index (omega arith) c.loop-row-test.false in (
      omega arith,
      λ word.
          let k = ap length (table_end word g.S.Counted.top (map g.S.Counted.as_set rows) _ c.loop-row.row-index c.requires.1 t) in
          let q = c.loop-row.invariant.2 word in
          omega arith,
    )
