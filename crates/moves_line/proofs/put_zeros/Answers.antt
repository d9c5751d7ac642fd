-- `moves_line::put_zeros` meets its contract.
-- Assumes nothing.
use mathlib.Core.Path.{◌≡◌, refl, ap, ◌∙◌}
use mathlib.Core.List.{List}
use Prim.Native.Nat.{ℕ, ◌+◌, ◌-◌}
use native.Mathlib.Omega.{arith}
use lib.ListN.{length, take, drop, replicate, length-take, length-drop, length-replicate}
use Rattle.std.proofs.lemmas.Slice.{put_mid-paste}
use Rattle.octets.proofs.Splices.{splice_paste}
use Rattle.moves_line.proofs.put_zeros.Goals as goal

pub returns : goal.returns
returns c =
    let at = c.args.at in
    let s = c.args.s.now in
    let zeros : List ℕ = replicate c.args.count 0 in
    let many : length zeros ≡ c.args.count = length-replicate {A = ℕ} c.args.count 0 in
    let k = at + c.args.count - at in
    let room : length (take k (drop at s)) ≡ c.args.count = omega (arith, length-take k (drop at s), length-drop at s) in
    put_mid-paste at _ s c.fill.new.self zeros (length zeros) (c.fill.ensures.after (λ y e. e) ∙ ap (λ (n : ℕ). replicate n 0) room)
    (omega (arith, many)) refl
    ∙ splice_paste s at zeros
