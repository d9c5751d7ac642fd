-- The highest byte, then the pairs of the others.
-- Assumes nothing.
use mathlib.Core.Path.{◌≡◌, ap, ◌∙◌}
use mathlib.Core.List.{◌++◌}
use Prim.Native.Nat.{◌<◌}
use native.Mathlib.Omega.{arith}
use lib.ListN.{length, get_or, take}
use lib.Seq.{length-take-le}
use Rattle.model_script.specs.Script.{numeral}
use Rattle.script_text.proofs.TextLaws.{writes-joined, writes_as}
use Rattle.script_text_lines.specs.Pairs.{pairs_of}
use Rattle.script_text_lines.proofs.LineLaws.{byte_length, numeral_none, numeral_some, pairs-taken, length_pairs}
use Rattle.script_text_lines.proofs.put_hexadecimal.Goals as goal

pub returns-in_default : goal.returns-in_default
returns-in_default c =
    (writes_as (numeral_none _ c.in_default.ensures) c.put.ensures, omega (arith, c.put.ensures.stores.next-is))

pub bounds-bytes-highest : goal.bounds-bytes-highest
bounds-bytes-highest c = c.in-Some.ensures.inside

pub put_pairs-requires : goal.put_pairs-requires
put_pairs-requires c =
    let bs = c.args.bytes.now in
    let k = c.in-Some.highest in
    let i = c.in-Some.ensures.inside in
    let b : get_or bs k 0 < 256 = omega (arith, c.type_inv.bytes k) in
    omega (arith, c.requires, c.put_byte.ensures.stores.next-is, c.put_byte.ensures.size, byte_length _ b, length-take-le k bs (omega (arith, i)))

pub returns : goal.returns
returns c =
    let bs = c.args.bytes.now in
    let k = c.in-Some.highest in
    let i = c.in-Some.ensures.inside in
    let b : get_or bs k 0 < 256 = omega (arith, c.type_inv.bytes k) in
    let l : length (take k bs) ≡ k = length-take-le k bs (omega (arith, i)) in
    let e : pairs_of (length (take k bs)) (take k bs) ≡ pairs_of k bs =
    ap (λ n. pairs_of n (take k bs)) l ∙ pairs-taken bs k k (omega arith) (omega (arith, i)) in (
      writes_as (ap (λ x. numeral 16 (get_or bs k 0) ++ x) e ∙ numeral_some bs k c.in-Some.ensures (λ j. omega (arith, c.type_inv.bytes j)))
          (writes-joined c.put_byte.ensures c.put_pairs.ensures),
      omega (
        arith,
        c.put_byte.ensures.stores.next-is,
        c.put_pairs.ensures.stores.next-is,
        byte_length _ b,
        length_pairs (take k bs) (length (take k bs)),
        i,
        l,
      ),
    )
