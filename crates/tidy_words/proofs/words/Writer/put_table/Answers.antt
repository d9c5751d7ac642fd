use Rattle.std.proofs.Common.{◌<◌, map, length, sym, ap, ◌∙◌, arith}
use lib.ListN.{length-map}
use Rattle.std.proofs.lemmas.List.{get_or-map}
use Rattle.tidy_words.proofs.Writing.{goes_start, goes_room, goes_next, goes_end}
use Rattle.tidy_words.proofs.Turns.{within_first, none_left, row_next, table_end}
use Rattle.tidy_words.proofs.words.Writer.put_table.Goals as goal

pub loop-i-init : goal.loop-i-init
loop-i-init g c = goes_start _ _ c.requires.4

pub overflow_add-first : goal.overflow_add-first
overflow_add-first g c =
    let r = within_first c.args.rows.now c.args.n c.loop-i.i c.row-item.result c.loop-i-test.true in
    let e = r.early in
    omega arith

pub put-requires : goal.put-requires
put-requires g c =
    let rows = c.args.rows.now in
    let r = within_first rows c.args.n c.loop-i.i c.row-item.result c.loop-i-test.true in
    let e = r.early in
    let v = get_or-map g.S.Counted.as_set rows c.loop-i.i c.row-item.result 0 r.inside ∙ ap g.S.Counted.as_set (sym (c.row-item.is ∙ r.same)) in
    let l : c.loop-i.i < length (map g.S.Counted.as_set rows) = omega (arith, length-map rows g.S.Counted.as_set, r.inside) in (
      omega arith,
      rw (← v) (goes_room c.loop-i.invariant (row_next c.args.first c.args.unit g.S.Counted.top (map g.S.Counted.as_set rows) c.loop-i.i l)),
    )

pub loop-i-preserved : goal.loop-i-preserved
loop-i-preserved g c =
    let rows = c.args.rows.now in
    let r = within_first rows c.args.n c.loop-i.i c.row-item.result c.loop-i-test.true in
    let v = get_or-map g.S.Counted.as_set rows c.loop-i.i c.row-item.result 0 r.inside ∙ ap g.S.Counted.as_set (sym (c.row-item.is ∙ r.same)) in
    let l : c.loop-i.i < length (map g.S.Counted.as_set rows) = omega (arith, length-map rows g.S.Counted.as_set, r.inside) in
    goes_next c.loop-i.invariant (row_next c.args.first c.args.unit g.S.Counted.top (map g.S.Counted.as_set rows) c.loop-i.i l)
    (rw (← v) at c.put.ensures)

pub returns : goal.returns
returns g c =
    let rows = c.args.rows.now in
    let s = c.requires.3.size in
    let t = none_left rows c.args.n c.loop-i.i (omega (arith, length-map rows g.S.Counted.as_set)) c.loop-i-test.false in
    goes_end c.loop-i.invariant (table_end _ g.S.Counted.top (map g.S.Counted.as_set rows) _ c.loop-i.i c.requires.3 t)
