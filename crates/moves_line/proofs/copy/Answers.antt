use mathlib.Core.Path.{◌≡◌, refl, ap, ◌∙◌}
use mathlib.Core.List.{List}
use Prim.Native.Nat.{ℕ, ◌+◌, ◌<◌}
use native.Mathlib.Numerals.{add-one}
use native.Mathlib.Omega.{arith}
use lib.ListN.{length, get_or, set, length-set}
use lib.Seq.{paste, paste-zero, paste-suc}
use Rattle.octets.proofs.Splices.{splice_paste}
use Rattle.moves_line.proofs.copy.Goals as goal

pub loop-j-init : goal.loop-j-init
loop-j-init c = (omega arith, refl, paste-zero c.args.s.now c.args.at c.args.bytes.now, refl)

pub loop-j-preserved : goal.loop-j-preserved
loop-j-preserved c =
    let hd : c.args.at + c.loop-j.j < length c.args.s.now = omega arith in
    let hs : c.loop-j.j < length c.args.bytes.now = omega arith in (
      omega arith,
      c.loop-j.invariant.1,
      ap (λ (x : List ℕ). set x (c.args.at + c.loop-j.j) (get_or c.args.bytes.now c.loop-j.j 0)) c.loop-j.invariant.2
          ∙ rw (add-one c.loop-j.j) (paste-suc c.args.s.now c.args.at c.args.bytes.now c.loop-j.j 0 hd hs),
      simp length-set c.loop-j.invariant.3,
    )

pub shape_of-s : goal.shape_of-s
shape_of-s c = c.loop-j.invariant.3

pub returns : goal.returns
returns c =
    let e : c.loop-j.j ≡ length c.args.bytes.now = omega arith in
    c.loop-j.invariant.2 ∙ ap (paste c.args.s.now c.args.at c.args.bytes.now) e ∙ splice_paste c.args.s.now c.args.at c.args.bytes.now
