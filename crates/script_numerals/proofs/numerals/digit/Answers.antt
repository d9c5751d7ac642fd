-- The value of a digit, by the ranges of bytes.
-- Assumes nothing.
use native.Mathlib.Omega.{arith}
use Rattle.script_numerals.proofs.NumeralLaws.{digit_low, digit-figure, digit-between, digit_large, digit_amid, digit-small, digit_high}
use Rattle.script_numerals.proofs.numerals.digit.Goals as goal

pub returns-in-48-to-57 : goal.returns-in-48-to-57
returns-in-48-to-57 c = digit-figure _ (omega arith) (omega arith)

pub returns-in-65-to-70 : goal.returns-in-65-to-70
returns-in-65-to-70 c = digit_large _ (omega arith) (omega arith)

pub returns-in-97-to-102 : goal.returns-in-97-to-102
returns-in-97-to-102 c = digit-small _ (omega arith) (omega arith)

pub returns-in_default : goal.returns-in_default
returns-in_default c = digit_low _ (omega arith)

pub returns-in_default-2 : goal.returns-in_default-2
returns-in_default-2 c = digit-between _ (omega arith) (omega arith)

pub returns-in_default-3 : goal.returns-in_default-3
returns-in_default-3 c = digit_amid _ (omega arith) (omega arith)

pub returns-in_default-4 : goal.returns-in_default-4
returns-in_default-4 c = digit_high _ (omega arith)
