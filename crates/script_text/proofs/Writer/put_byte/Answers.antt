-- One digit, or two.
-- Assumes nothing.
use borrow.Author.Rules.{rules}
use mathlib.Core.Path.{sym, ap, ◌∙◌}
use mathlib.Core.List.{[], ◌∷◌}
use Rattle.script_text.proofs.TextLaws.{writes_as, numeral-one, two≤16, byte_pair}
use Rattle.script_text.proofs.Writer.put_byte.Goals as goal

pub returns-then-b-lt16 : goal.returns-then-b-lt16
returns-then-b-lt16 c =
    writes_as (ap (λ x. x ∷ []) c.glyph-d.ensures ∙ sym (numeral-one 16 two≤16 c.args.b (search rules))) c.put.ensures

pub returns : goal.returns
returns c =
    writes_as (byte_pair c.args.b (search rules) (search rules)) c.put_pair.ensures
