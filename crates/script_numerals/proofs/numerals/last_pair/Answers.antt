-- One digit, or two, as the low byte of the number.
-- Assumes nothing.
use borrow.Author.Rules.{rules}
use mathlib.Core.Path.{◌∙◌}
use Prim.Native.Nat.{◌-◌}
use native.Mathlib.Omega.{arith}
use Rattle.script_numerals.proofs.NumeralLaws.{digit-of-all, pair_of_one, pair_of_two}
use Rattle.script_numerals.proofs.numerals.last_pair.Goals as goal

pub returns-then-m-lt2 : goal.returns-then-m-lt2
returns-then-m-lt2 c =
    c.weight-low.ensures ∙ pair_of_one c.args.w.now c.args.m c.requires.1 c.requires.2 (search rules) (search rules)

pub overflow_mul-result : goal.overflow_mul-result
overflow_mul-result c =
    omega (arith, c.weight.ensures, digit-of-all 16 c.args.w.now (c.args.m - 2) c.requires.2 (search rules))

pub overflow_add-result : goal.overflow_add-result
overflow_add-result c =
    let x = digit-of-all 16 c.args.w.now (c.args.m - 2) c.requires.2 (search rules) in
    let y = digit-of-all 16 c.args.w.now (c.args.m - 1) c.requires.2 (search rules) in
    omega (arith, c.weight.ensures, c.weight-low.ensures, x, y)

pub returns : goal.returns
returns c =
    rw (c.weight.ensures, c.weight-low.ensures) (pair_of_two c.args.w.now c.args.m c.requires.1 c.requires.2 (search rules))
