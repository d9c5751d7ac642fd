-- The digits before the last, then the last.
-- Assumes nothing.
use mathlib.Core.Path.{sym, ap, ◌∙◌}
use mathlib.Core.List.{[], ◌∷◌, ◌++◌}
use native.Mathlib.Omega.{arith}
use Prim.Native.Nat.{◌/◌}
use lib.ListN.{length}
use borrow.Author.Rules.{rules}
use Rattle.model_script.specs.Script.{numeral}
use Rattle.script_text.proofs.TextLaws.{writes-joined, writes_as, numeral-one, numeral_more, numeral_longer, two≤10}
use Rattle.script_text_lines.proofs.+put_decimal.Goals as goal

pub put-requires : goal.put-requires
put-requires t c = omega (arith, c.requires, ap length (numeral-one 10 two≤10 c.args.n (search rules)))

pub returns-then-n-lt10 : goal.returns-then-n-lt10
returns-then-n-lt10 t c =
    writes_as (ap (λ x. x ∷ []) c.glyph-d.ensures ∙ sym (numeral-one 10 two≤10 c.args.n (search rules))) c.put.ensures

pub put_decimal-requires : goal.put_decimal-requires
put_decimal-requires t c =
    (omega (arith, c.decreases), omega (arith, c.requires, numeral_longer 10 two≤10 c.args.n (search rules)))

pub put-requires-2 : goal.put-requires-2
put-requires-2 t c =
    omega
    (arith, c.requires, c.put_decimal.ensures.stores.next-is, c.put_decimal.ensures.size, numeral_longer 10 two≤10 c.args.n (search rules))

pub returns : goal.returns
returns t c =
    writes_as
    (ap (λ x. numeral 10 (c.args.n / 10) ++ (x ∷ [])) c.glyph-d-2.ensures
    ∙ sym (numeral_more 10 two≤10 c.args.n (search rules)))
    (writes-joined c.put_decimal.ensures c.put-2.ensures)
