-- Laws of numbers in bytes: how they are read, how many bytes they have, and how a run of them is written.
-- Assumes nothing.
use mathlib.Core.Path.{◌≡◌, refl, sym, ap, ◌∙◌}
use mathlib.Core.List.{List, [], ◌∷◌, ◌++◌, append_assoc, append-nil}
use Prim.Native.Nat.{ℕ, zero, suc, ◌+◌, ◌*◌, ◌-◌, ◌≤◌, ◌<◌}
use native.Mathlib.Omega.{arith}
use native.Mathlib.Numerals.{add-one}
use lib.ListN.{length, take, drop, get_or, length-append}
use lib.Seq.{drop-cons, length-take-le, take-suc}
use Rattle.std.proofs.Math.Nat.{div-div-eq-div-mul}
use Rattle.std.specs.List.{slice_range}
use Rattle.std.specs.Int.{w32, w64, from_le_bytes, to_le_bytes}
use Rattle.model.specs.Bytes.{number, bytes_of}
use Rattle.model.specs.Image.{word_at}
use Rattle.model_laws.proofs.LineLaws.{length-bytes_of}
use Rattle.octets.specs.Splice.{splice, number_at, bytes_of_all}
use Rattle.octets.proofs.Splices.{splice-splice}

-- ---- reads

-- the n elements from index at, one by one, as straight-line code reads them
abbrev pub window : List ℕ → ℕ → ℕ → List ℕ
window s at zero = []
window s at (suc n) = get_or s at 0 ∷ window s (at + 1) n

pub window-is : (n : ℕ) (s : List ℕ) (at : ℕ) → at + n ≤ length s → take n (drop at s) ≡ window s at n
window-is zero s at h = refl
window-is (suc n) s at h =
    let k : at < length s = omega arith in
    let j : (at + 1) + n ≤ length s = omega arith in
    rw (drop-cons s at 0) (ap (λ (l : List ℕ). get_or s at 0 ∷ l) (rw (← add-one at) (window-is n s (at + 1) j)))

-- the library's number of eight bytes
pub number-le : (s : List ℕ) (at : ℕ) → at + 8 ≤ length s → from_le_bytes w64 (slice_range s at (at + 8)) ≡ number_at s at
unfolding number_at number
number-le s at h =
    let e : at + 8 - at ≡ 8 = omega arith in
    rw (e, window-is 8 s at h) (omega arith)

-- the library's number of four bytes
pub word-le : (s : List ℕ) (place : ℕ) → 4 * place + 4 ≤ length s → from_le_bytes w32 (slice_range s (4 * place) (4 * place + 4)) ≡ word_at s place
unfolding word_at
word-le s place h =
    let at : ℕ = 4 * place in
    let e : at + 4 - at ≡ 4 = omega arith in
    let two : at + 1 + 1 ≡ at + 2 = omega arith in
    let three : at + 2 + 1 ≡ at + 3 = omega arith in
    rw (e, window-is 4 s at h, two, three) (omega arith)

-- the library's bytes of a number
pub bytes_of-le : (v : ℕ) → to_le_bytes w64 v ≡ bytes_of 8 v
unfolding bytes_of
bytes_of-le v = simp div-div-eq-div-mul

-- ---- runs of numbers

pub length-bytes_of_all : (vs : List ℕ) → length (bytes_of_all vs) ≡ 8 * length vs
unfolding bytes_of_all
length-bytes_of_all [] = refl
length-bytes_of_all (v ∷ vs) =
    omega (arith, length-append (bytes_of 8 v) (bytes_of_all vs), length-bytes_of 8 v, length-bytes_of_all vs)

bytes_of_all_snoc : (vs : List ℕ) (v : ℕ) → bytes_of_all (vs ++ (v ∷ [])) ≡ bytes_of_all vs ++ bytes_of 8 v
unfolding bytes_of_all
bytes_of_all_snoc [] v = append-nil (bytes_of 8 v)
bytes_of_all_snoc (w ∷ vs) v =
    ap (λ (l : List ℕ). bytes_of 8 w ++ l) (bytes_of_all_snoc vs v) ∙ sym (append_assoc (bytes_of 8 w) (bytes_of_all vs) (bytes_of 8 v))

-- a turn of the loop that writes numbers
pub put_more : (s : List ℕ) (at : ℕ) (ws : List ℕ) (k : ℕ) → k < length ws → at + 8 * length ws ≤ length s
    → splice (splice s at (bytes_of_all (take k ws))) (at + 8 * k) (bytes_of 8 (get_or ws k 0)) ≡ splice s at (bytes_of_all (take (k + 1) ws))
put_more s at ws k h room =
    let t : length (take k ws) ≡ k = length-take-le k ws (omega arith) in
    let n : at + length (bytes_of_all (take k ws)) ≡ at + 8 * k = omega (arith, length-bytes_of_all (take k ws)) in
    let e : take (k + 1) ws ≡ take k ws ++ (get_or ws k 0 ∷ []) = rw (add-one k) (take-suc ws k 0 h) in
    ap (λ (x : ℕ). splice (splice s at (bytes_of_all (take k ws))) x (bytes_of 8 (get_or ws k 0))) (sym n)
    ∙ splice-splice s at (bytes_of_all (take k ws)) (bytes_of 8 (get_or ws k 0)) (omega (arith, length-bytes_of 8 (get_or ws k 0)))
    ∙ ap (splice s at) (sym (bytes_of_all_snoc (take k ws) (get_or ws k 0)) ∙ ap bytes_of_all (sym e))
