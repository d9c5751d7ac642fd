use Rattle.std.proofs.Common.{◌≡◌, ℕ, List, length, take, sym, ap, arith, ◌∙◌}
use lib.Seq.{take-length}
use Rattle.octets.specs.Splice.{splice, bytes_of_all}
use Rattle.octets.proofs.Splices.{splice_nil}
use Rattle.octets.proofs.Numbers.{put_more}
use Rattle.octets.proofs.put_numbers.Goals as goal

pub loop-k-init : goal.loop-k-init
unfolding bytes_of_all
loop-k-init c = sym (splice_nil c.args.s.now c.args.at)

pub loop-k-preserved : goal.loop-k-preserved
loop-k-preserved c =
    let h = put_more c.args.s.now c.args.at c.args.numbers.now c.loop-k.k (omega arith) (omega arith) in
    cc h

pub returns : goal.returns
returns c =
    let e : c.loop-k.k ≡ length c.args.numbers.now = omega arith in
    c.loop-k.invariant ∙ ap (λ (k : ℕ). splice c.args.s.now c.args.at (bytes_of_all (take k c.args.numbers.now))) e
    ∙ ap (λ (x : List ℕ). splice c.args.s.now c.args.at (bytes_of_all x)) (take-length c.args.numbers.now)
