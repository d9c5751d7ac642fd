-- `image_usual::usual::turned` meets its contract.
-- Assumes nothing.
use Rattle.std.proofs.Common.{◌≡◌, ℕ, ◌+◌, ◌-◌, ◌*◌, ◌/◌, ◌%◌, ◌^◌, ◌<◌, bit_or, w32, ap, ◌∙◌, arith}
use Rattle.std.proofs.Math.Nat.{mod-eq_of_lt, mul-div_cancel, mul-mod_left}
use Rattle.std.proofs.Math.Pow.{pow_pos}
use Rattle.std.proofs.lemmas.Nat.{or_comm, or_shifted, mod-pow-add, shr_below}
use Rattle.std.specs.Int.{rotate_right}
use Rattle.image_usual.proofs.usual.turned.Goals as goal

-- the low bits of a word, moved up
raised : (w k m : ℕ) → 0 < 2 ^ m → (w * 2 ^ m) % 2 ^ (k + m) ≡ w % 2 ^ k * 2 ^ m
raised w k m some =
    let a : (w * 2 ^ m) % 2 ^ (k + m) ≡ (w * 2 ^ m / 2 ^ m % 2 ^ k) * 2 ^ m + (w * 2 ^ m) % 2 ^ m = mod-pow-add (w * 2 ^ m) k m in
    let b : w * 2 ^ m / 2 ^ m ≡ w = mul-div_cancel w some in
    let d : (w * 2 ^ m) % 2 ^ m ≡ 0 = mul-mod_left w (2 ^ m) in
    let e : (w * 2 ^ m) % 2 ^ (k + m) ≡ (w % 2 ^ k) * 2 ^ m + 0 = rw (b, d) at a in
    omega (arith, e)

joined : (w k m : ℕ) → 0 < 2 ^ m → w < 2 ^ (m + k) → bit_or (w / 2 ^ k) ((w * 2 ^ m) % 2 ^ (k + m)) ≡ w / 2 ^ k + w % 2 ^ k * 2 ^ m
joined w k m some l =
    let e = or_shifted (w % 2 ^ k) m (w / 2 ^ k) (shr_below w m k l) in
    ap (bit_or (w / 2 ^ k)) (raised w k m some) ∙ or_comm (w / 2 ^ k) (w % 2 ^ k * 2 ^ m) ∙ e ∙ omega arith

rotated : (w k : ℕ) → 0 < k → k < 32 → w < 2 ^ 32 → rotate_right w32 w k ≡ w / 2 ^ k + w % 2 ^ k * 2 ^ (32 - k)
rotated w k some l small =
    let ek : k % 32 ≡ k = mod-eq_of_lt l in
    let under : 32 - k < 32 = omega arith in
    let em : (32 - k) % 32 ≡ 32 - k = mod-eq_of_lt under in
    let ew : k + (32 - k) ≡ 32 = omega arith in
    let ev : (32 - k) + k ≡ 32 = omega arith in
    let j = joined w k (32 - k) (pow_pos (32 - k)) (rw ev small) in
    rw (ek, em) (rw ew at j)

pub returns : goal.returns
returns c = c.rotate_right.ensures ∙ rotated c.args.w c.args.by c.requires.0 c.requires.1 (omega arith)
