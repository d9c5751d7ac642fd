use Rattle.script_numerals.proofs.NumeralLaws.{weighed}
use Rattle.script_numerals.proofs.numerals.weight.Goals as goal

pub returns : goal.returns
returns c = cc (weighed c.args.c)
