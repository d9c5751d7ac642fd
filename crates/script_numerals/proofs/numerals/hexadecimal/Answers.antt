-- A word that is a numeral has its bytes.
-- Assumes nothing.
use mathlib.Core.Path.{sym, ◌∙◌}
use Rattle.script_numerals.proofs.NumeralLaws.{numeral_short, numeral_digits, bound_right, bound_wrong}
use Rattle.script_numerals.proofs.numerals.hexadecimal.Goals as goal

pub bound_bytes-requires : goal.bound_bytes-requires
bound_bytes-requires c =
    let e = sym c.is_numeral.ensures ∙ c.if-is_numeral.true in (numeral_short 16 64 _ e, numeral_digits 16 64 _ e)

pub returns-then-is_numeral : goal.returns-then-is_numeral
returns-then-is_numeral c = rw c.bound_bytes.ensures (bound_right _ (sym c.is_numeral.ensures ∙ c.if-is_numeral.true))

pub returns-else-is_numeral : goal.returns-else-is_numeral
returns-else-is_numeral c = bound_wrong _ (sym c.is_numeral.ensures ∙ c.if-is_numeral.false)
