use borrow.Author.Rules.{rules}
use mathlib.Core.Path.{◌≡◌, sym, subst, ap, ◌∙◌}
use lib.ListN.{length, take, replicate}
use lib.Seq.{take-length}
use native.Mathlib.Omega.{arith}
use Prim.Native.Nat.{◌+◌, ◌-◌, ◌*◌}
use Rattle.model_script.specs.Script.{value}
use Rattle.script_numerals.proofs.NumeralLaws.{value_none, before_pair}
use Rattle.script_numerals.proofs.FillLaws.{Filling, fill_begins, fill_goes_on, fill_ends}
use Rattle.script_numerals.proofs.numerals.bound_bytes.Goals as goal

pub loop-j-init : goal.loop-j-init
loop-j-init c =
    let w = c.args.w.now in
    let e : length w ≡ length w - 2 * 0 = omega arith in (
      search rules,
      search rules,
      search rules,
      search rules,
      subst (λ x. Filling (value 16 w) (replicate 32 0) 0 (value 16 x)) (sym (take-length w) ∙ ap (λ n. take n w) e) (fill_begins _),
    )

pub loop-j-preserved : goal.loop-j-preserved
loop-j-preserved c =
    let w = c.args.w.now in
    let m = length w - 2 * c.loop-j.j in
    let e : length w - 2 * (c.loop-j.j + 1) ≡ m - 2 = omega arith in (
      search rules,
      search rules,
      search rules,
      search rules,
      rw (c.last_pair.ensures, e, before_pair w m (omega arith) c.loop-j.invariant.3 (omega arith))
          (fill_goes_on (value 16 w) c.loop-j.bytes c.loop-j.j (value 16 (take m w)) (omega arith) c.loop-j.invariant.4),
    )

pub returns : goal.returns
returns c =
    let w = c.args.w.now in
    let z : length w - 2 * c.loop-j.j ≡ 0 = omega arith in
    fill_ends (value 16 w) _ c.loop-j.j _ (ap (λ x. value 16 (take x w)) z ∙ value_none 16 w) c.loop-j.invariant.4
