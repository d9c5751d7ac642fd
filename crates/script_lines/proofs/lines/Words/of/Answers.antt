use mathlib.Core.Path.{refl}
use Rattle.script_lines.specs.Cutting.{words_in}
use Rattle.script_lines.proofs.lines.Words.of.Goals as goal

pub returns : goal.returns
unfolding words_in
returns c = refl
