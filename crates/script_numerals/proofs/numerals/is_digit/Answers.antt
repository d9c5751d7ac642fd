use Rattle.model_script.specs.Script.{is_digit}
use Rattle.script_numerals.proofs.numerals.is_digit.Goals as goal

pub returns : goal.returns
unfolding is_digit
returns c = rw c.weight.ensures
