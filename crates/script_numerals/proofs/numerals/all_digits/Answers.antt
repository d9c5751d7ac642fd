use borrow.Author.Rules.{rules}
use mathlib.Core.Path.{◌∙◌}
use Rattle.std.proofs.Common.{tests}
use Rattle.std.proofs.lemmas.Iterator.{YieldsList-from_slice}
use Rattle.std.proofs.lemmas.Iterator.Search.{all_from_yields_List}
use Rattle.model_script.specs.Script.{is_digit}
use Rattle.script_numerals.proofs.NumeralLaws.{all_same}
use Rattle.script_numerals.proofs.numerals.all_digits.Goals as goal

pub returns : goal.returns
returns c =
    all_from_yields_List (is_digit c.args.base) _ _ _ c.all.ensures.ran (YieldsList-from_slice c.args.w.now cc) (λ x b q k. search (rules, tests))
    ∙ all_same _ _
