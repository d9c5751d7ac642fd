use native.Mathlib.Omega.{arith}
use Rattle.script_text.proofs.TextLaws.{writes_as}
use Rattle.survey_figures.proofs.FigureLaws.{four_from}
use Rattle.survey_figures.proofs.figures.put_four.Goals as goal

pub returns : goal.returns
returns c = (writes_as (four_from _ _ _ _) c.put_figures.ensures.0, omega (arith, c.put_figures.ensures.1))
