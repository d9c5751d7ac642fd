-- The length is tested, then the digits.
-- Assumes nothing.
use borrow.Author.Rules.{rules}
use Rattle.std.proofs.Common.{tests}
use mathlib.Core.Path.{◌∙◌}
use Rattle.script_numerals.proofs.NumeralLaws.{no_digit, too_many_digits, some_digits}
use Rattle.script_numerals.proofs.numerals.is_numeral.Goals as goal

pub returns-then-is_empty : goal.returns-then-is_empty
returns-then-is_empty c = no_digit _ _ _ (search (rules, tests))

pub returns-then-w-most : goal.returns-then-w-most
returns-then-w-most c = c.all_digits.ensures ∙ some_digits _ _ _ (search (rules, tests)) c.if-w-most.true

pub returns-else-w-most : goal.returns-else-w-most
returns-else-w-most c = search (rules, tests, too_many_digits)
