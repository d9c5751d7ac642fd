use mathlib.Core.Path.{refl, sym, ap, ◌∙◌}
use mathlib.Core.List.{◌∷◌, ◌++◌, append_assoc}
use native.Mathlib.Omega.{arith}
use lib.ListN.{get_or}
use Prim.Native.Nat.{◌+◌}
use lib.ListN.{drop}
use Rattle.model_script.specs.Script.{numeral}
use Rattle.script_text.proofs.TextLaws.{writes-joined, writes_as}
use Rattle.survey_figures.specs.Figures.{figures_behind, figures_from}
use Rattle.survey_figures.proofs.FigureLaws.{next_figure, no_figure}
use Rattle.survey_figures.proofs.figures.put_figures.Goals as goal

pub loop-figure-init : goal.loop-figure-init
unfolding figures_from
loop-figure-init c =
    (omega (arith, c.put_first.ensures.1), (numeral 10 c.args.first, refl, c.put_first.ensures.0))

pub loop-figure-preserved : goal.loop-figure-preserved
loop-figure-preserved c =
    let ns = c.args.others.now in
    let i = c.loop-figure.figure-index in
    let done = c.loop-figure.invariant.1.0 in
    let figure = 32 ∷ numeral 10 (get_or ns i 0) in (
      omega (arith, c.put_number.ensures.1),
      (
        done ++ figure,
        c.loop-figure.invariant.1.1 ∙ ap (λ x. done ++ x) (next_figure ns i c.loop-figure-test.true)
            ∙ sym (append_assoc done figure (figures_behind (drop (i + 1) ns))),
        writes-joined c.loop-figure.invariant.1.2 c.put_number.ensures.0,
      ),
    )

pub returns : goal.returns
returns c =
    let done = c.loop-figure.invariant.1.0 in (
      writes_as (sym (c.loop-figure.invariant.1.1 ∙ ap (λ x. done ++ x) (no_figure c.args.others.now c.loop-figure.figure-index c.loop-figure-test.false)))
          (writes-joined c.loop-figure.invariant.1.2 c.put.ensures),
      omega (arith, c.put.ensures.stores.next-is),
    )
