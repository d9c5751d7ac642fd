use mathlib.Core.Path.{◌≡◌, sym, ap, ◌∙◌}
use mathlib.Core.List.{[], ◌∷◌, ◌++◌, append_assoc, append-nil}
use Prim.Native.Nat.{◌-◌, ◌<◌}
use native.Mathlib.Omega.{arith}
use lib.ListN.{length}
use Rattle.std.proofs.lemmas.Iterator.Adapters.{YieldsList-from_rev_slice}
use Rattle.std.proofs.lemmas.Iterator.Consumers.{YieldsList-turn, YieldsList-end}
use Rattle.std.proofs.lemmas.List.{length_push, length-reverse}
use Rattle.script_text.specs.Writing.{pair_of}
use Rattle.script_text_lines.specs.Pairs.{pairs_of}
use Rattle.script_text.proofs.TextLaws.{writes-joined, writes_as}
use Rattle.script_text_lines.proofs.LineLaws.{pairs_turn}
use Rattle.script_text_lines.proofs.put_pairs.Goals as goal

pub loop-b-preserved : goal.loop-b-preserved
unfolding pair_of
loop-b-preserved c =
    let bs = c.args.bytes.now in
    let n = length c.loop-b.yielded in
    let t = YieldsList-turn (YieldsList-from_rev_slice bs cc) c.loop-b.yielded _ c.loop-b.yielded_by _ _ c.in-Some.b c.in-Some.is c.next.ensures.steps in
    let e = length_push c.loop-b.yielded c.in-Some.b in
    let h : n < length bs = omega (arith, t.0, length-reverse bs) in
    let done = c.loop-b.invariant.2.0 in (
      omega arith,
      omega (arith, c.put_pair.ensures.stores.next-is, c.put_pair.ensures.size),
      (
        done ++ pair_of c.in-Some.b.now,
        c.loop-b.invariant.2.1 ∙ ap (λ x. done ++ x) (pairs_turn bs n _ t.0 t.1 ∙ rw e)
            ∙ sym (append_assoc done (pair_of c.in-Some.b.now) (pairs_of (length bs - length (c.loop-b.yielded ++ c.in-Some.b ∷ [])) bs)),
        writes-joined c.loop-b.invariant.2.2 c.put_pair.ensures,
      ),
    )

pub returns : goal.returns
unfolding pairs_of
returns c =
    let bs = c.args.bytes.now in
    let t = YieldsList-end (YieldsList-from_rev_slice bs cc) c.loop-b.yielded _ c.loop-b.yielded_by _ _ c.in-None.is c.next.ensures.steps in
    let z : length bs - length c.loop-b.yielded ≡ 0 = omega (arith, t.1, length-reverse bs) in
    let done = c.loop-b.invariant.2.0 in
    writes_as (sym (c.loop-b.invariant.2.1 ∙ ap (λ x. done ++ pairs_of x bs) z ∙ append-nil done)) c.loop-b.invariant.2.2
