use Rattle.std.proofs.Common.{◌≡◌, ◌<◌, arith, rules, refl, sym, ap, ◌∙◌, length, length-set, ℕ}
use mathlib.Core.List.{map}
use lib.ListN.{take}
use lib.Seq.{length-take-le}
use Rattle.std.proofs.lemmas.List.{length-take, take_all}
use Rattle.model.specs.Line.{SESSIONS, empty_session, session_at}
use Rattle.exclusion_rows.specs.Table.{exclusions_of, exclusion_list}
use Rattle.query_reduced.specs.Reduction.{reduced_by}
use Rattle.query_reduced.proofs.Reductions.{filled_next, reduces}
use Rattle.query_reduced.proofs.exclusions.reduce.Goals as goal

pub loop-i-init : goal.loop-i-init
loop-i-init c = (refl, refl)

pub loop-i-preserved : goal.loop-i-preserved
unfolding session_at empty_session
loop-i-preserved c =
    let l = length-take c.args.xs.now.count c.args.xs.now.rows in
    let h : c.loop-i.i < length (exclusion_list c.args.xs.now) = rw (← c.listed-x-items.ensures) c.loop-i-test.true in (
      length-set _ _ _ ∙ c.loop-i.invariant.0,
      filled_next _ _ _ _ _ _ c.loop-i.invariant.1 (omega (arith, c.loop-i.invariant.0, c.args.xs.now.few)) c.loop-i-test.true
          (c.reduced_by.ensures ∙ ap (reduced_by _ _) c.staying-base.ensures),
    )

pub returns : goal.returns
unfolding session_at empty_session
returns c =
    let xs = c.args.xs.now in
    let items : c.listed-x-items.result.now ≡ exclusion_list xs = c.listed-x-items.ensures in
    let n : length c.args.at.line.sessions ≡ SESSIONS = search rules in
    let l : length (exclusion_list xs) ≡ xs.count = length-take-le xs.count xs.rows (omega (arith, xs.few)) in
    let i : c.loop-i.i ≡ xs.count = omega (arith, ap length items, c.loop-i.auto.i-end) in (
      refl,
      reduces (exclusions_of xs) c.args.at.line c.args.at.session _ _ _ (omega (arith, c.args.at.there)) c.active_elsewhere-elsewhere.ensures refl
          (ap (λ (m : ℕ). take m c.loop-i.rows) (sym i) ∙ c.loop-i.invariant.1
          ∙ ap (map _) (take_all c.loop-i.i c.listed-x-items.result.now c.loop-i-test.false ∙ items)),
    )
