use borrow.Author.Rules.{rules}
use mathlib.Core.Path.{◌≡◌, ◌∙◌}
use native.Mathlib.Omega.{arith}
use lib.ListN.{get_or}
use Rattle.model_script.specs.Script.{digit, value}
use Rattle.script_numerals.proofs.NumeralLaws.{digit≤16, grows, few, value_goes_on, value_end}
use Rattle.script_numerals.proofs.numerals.value_of.Goals as goal

pub loop-c-init : goal.loop-c-init
unfolding value
loop-c-init c = (search rules, search rules, search rules)

pub overflow_mul-v : goal.overflow_mul-v
overflow_mul-v c =
    omega (arith, few c.loop-c.v c.loop-c.c-index c.loop-c.invariant.1 (omega arith))

pub overflow_add-v : goal.overflow_add-v
overflow_add-v c =
    let d = digit≤16 (get_or c.args.w.now c.loop-c.c-index 0) in
    omega (arith, d, few c.loop-c.v c.loop-c.c-index c.loop-c.invariant.1 (omega arith))

pub loop-c-preserved : goal.loop-c-preserved
loop-c-preserved c =
    let e : c.from.result ≡ digit (get_or c.args.w.now c.loop-c.c-index 0) = cc in (
      search rules,
      rw e (grows c.loop-c.v _ c.loop-c.c-index c.loop-c.invariant.1 (digit≤16 _)),
      rw e (value_goes_on 10 c.args.w.now c.loop-c.v c.loop-c.c-index (search rules) ∙ c.loop-c.invariant.2),
    )

pub returns : goal.returns
returns c = value_end 10 _ _ c.loop-c.c-index (search rules) ∙ c.loop-c.invariant.2
