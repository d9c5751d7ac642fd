-- A word that is a numeral has its number.
-- Assumes nothing.
use mathlib.Core.Path.{sym, ◌∙◌}
use Rattle.script_numerals.proofs.NumeralLaws.{numeral_short, number_right, number_wrong}
use Rattle.script_numerals.proofs.numerals.decimal.Goals as goal

pub value_of-requires : goal.value_of-requires
value_of-requires c = numeral_short 10 9 _ (sym c.is_numeral.ensures ∙ c.if-is_numeral.true)

pub returns-then-is_numeral : goal.returns-then-is_numeral
returns-then-is_numeral c = rw c.value_of.ensures (number_right _ (sym c.is_numeral.ensures ∙ c.if-is_numeral.true))

pub returns-else-is_numeral : goal.returns-else-is_numeral
returns-else-is_numeral c = number_wrong _ (sym c.is_numeral.ensures ∙ c.if-is_numeral.false)
