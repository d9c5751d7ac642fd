use native.Mathlib.Omega.{arith}
use Rattle.script_text.proofs.TextLaws.{writes_as}
use Rattle.survey_figures.proofs.FigureLaws.{two_from}
use Rattle.survey_figures.proofs.figures.put_two.Goals as goal

pub returns : goal.returns
returns c = (writes_as (two_from _ _) c.put_figures.ensures.0, omega (arith, c.put_figures.ensures.1))
