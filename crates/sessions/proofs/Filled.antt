-- The bytes of an answer: a set's 32 bytes are those of its four words, and the roles with these behind them fill the
-- buffer.
-- Assumes nothing.
use mathlib.Core.Path.{◌≡◌, refl, sym, ap, ap₂, subst, ◌∙◌}
use mathlib.Core.List.{List, [], ◌∷◌, ◌++◌, append_assoc, append-nil}
use Prim.Native.Nat.{ℕ, zero, suc, ◌+◌, ◌*◌, ◌/◌, ◌%◌, ◌^◌, ◌<◌}
use native.Mathlib.Nat.{zero-add, suc-add, add_comm, mul_comm, mul_assoc, pow-suc}
use native.Mathlib.Omega.{arith}
use lib.ListN.{length, get_or, length-append}
use lib.Pow.{pow-add}
use mir.Syntax.{w64}
use mir.Val.{Fits}
use Rattle.model.specs.Bytes.{bytes_of}
use Rattle.model_laws.proofs.LineLaws.{length-bytes_of}
use Rattle.octets.specs.Splice.{splice, bytes_of_all}
use Rattle.octets.proofs.Splices.{splice_all, splice-splice}
use Rattle.sets.specs.Words.{joined, value}
use Rattle.sets.proofs.Digits.{joined_lt}

-- m bytes of v and n of x are those of the number that has x above v
bytes_above : (m n v x : ℕ) → v < 256 ^ m → bytes_of (m + n) (v + 256 ^ m * x) ≡ bytes_of m v ++ bytes_of n x
unfolding bytes_of
bytes_above zero n v x h =
    let e : v + 1 * x ≡ x = omega arith in
    ap₂ bytes_of (zero-add n) e
bytes_above (suc m) n v x h =
    let k : v < 256 ^ m * 256 = rw pow-suc at h in
    let q : 256 ^ suc m * x ≡ 256 * (256 ^ m * x) = ap (λ (b : ℕ). b * x) (pow-suc 256 m ∙ mul_comm (256 ^ m) 256) ∙ mul_assoc 256 (256 ^ m) x in
    let lo : (v + 256 ^ suc m * x) % 256 ≡ v % 256 = omega arith in
    let hi : (v + 256 ^ suc m * x) / 256 ≡ v / 256 + 256 ^ m * x = omega arith in
    ap (λ (j : ℕ). bytes_of j (v + 256 ^ suc m * x)) (suc-add m n)
    ∙ ap₂ (λ (b : ℕ) (bs : List ℕ). b ∷ bs) lo (ap (bytes_of (m + n)) hi ∙ bytes_above m n (v / 256) x (omega arith))

-- a byte is eight binary digits
bytes_bits : (n : ℕ) → 256 ^ n ≡ 2 ^ (n * 8)
bytes_bits zero = refl
bytes_bits (suc n) =
    let e : suc n * 8 ≡ n * 8 + 8 = omega arith in
    pow-suc 256 n ∙ ap (λ (x : ℕ). x * 2 ^ 8) (bytes_bits n) ∙ sym (pow-add 2 (n * 8) 8) ∙ ap (λ (k : ℕ). 2 ^ k) (sym e)

-- the bytes of the words f 0, f 1, .., f (d - 1), one behind the other
word_bytes : (ℕ → ℕ) → ℕ → List ℕ
word_bytes f zero = []
word_bytes f (suc d) = word_bytes f d ++ bytes_of 8 (f d)

-- those of the number that the words make
joined_bytes : (f : ℕ → ℕ) → ((i : ℕ) → f i < 2 ^ 64) → (d : ℕ) → bytes_of (8 * d) (joined 64 f d) ≡ word_bytes f d
unfolding joined word_bytes bytes_of
joined_bytes f h zero = refl
joined_bytes f h (suc d) =
    let n : 8 * suc d ≡ 8 * d + 8 = omega arith in
    let k : d * 64 ≡ (8 * d) * 8 = omega arith in
    let p : 2 ^ (d * 64) ≡ 256 ^ (8 * d) = ap (λ (x : ℕ). 2 ^ x) k ∙ sym (bytes_bits (8 * d)) in
    let v = joined 64 f d in
    let q : f d * 2 ^ (d * 64) + v ≡ v + 256 ^ (8 * d) * f d
    = add_comm (f d * 2 ^ (d * 64)) v ∙ ap (λ (x : ℕ). v + x) (mul_comm (f d) (2 ^ (d * 64)) ∙ ap (λ (x : ℕ). x * f d) p) in
    ap₂ bytes_of n q ∙ bytes_above (8 * d) 8 v (f d) (subst (λ (x : ℕ). v < x) p (joined_lt 64 f h d))
    ∙ ap (λ (l : List ℕ). l ++ bytes_of 8 (f d)) (joined_bytes f h d)

-- the bytes of a set of four words
set_bytes_lem : (ws : List ℕ) → ((i : ℕ) → Fits w64 (get_or ws i 0))
    → bytes_of 32 (value ws)
    ≡ bytes_of 8 (get_or ws 0 0) ++ (bytes_of 8 (get_or ws 1 0) ++ (bytes_of 8 (get_or ws 2 0) ++ bytes_of 8 (get_or ws 3 0)))
unfolding value word_bytes
set_bytes_lem ws h =
    let f : ℕ → List ℕ = λ i. bytes_of 8 (get_or ws i 0) in
    joined_bytes (λ i. get_or ws i 0) (λ i. (h i).fits) 4 ∙ append_assoc (f 0 ++ f 1) (f 2) (f 3) ∙ append_assoc (f 0) (f 1) (f 2 ++ f 3)

-- four words, each as its bytes
four : (ws : List ℕ) → length ws ≡ 4
    → bytes_of_all ws ≡ bytes_of 8 (get_or ws 0 0) ++ (bytes_of 8 (get_or ws 1 0) ++ (bytes_of 8 (get_or ws 2 0) ++ bytes_of 8 (get_or ws 3 0)))
unfolding bytes_of_all
four [] h = absurd (omega arith)
four (a ∷ []) h = absurd (omega arith)
four (a ∷ b ∷ []) h = absurd (omega arith)
four (a ∷ b ∷ c ∷ []) h = absurd (omega arith)
four (a ∷ b ∷ c ∷ d ∷ []) h =
    ap (λ (l : List ℕ). bytes_of 8 a ++ (bytes_of 8 b ++ (bytes_of 8 c ++ l))) (append-nil (bytes_of 8 d))
four (a ∷ b ∷ c ∷ d ∷ e ∷ ws) h = absurd (omega arith)

-- the roles and the set behind them, as code puts them
pub filled : (s ws : List ℕ) (r : ℕ) (x0 x1 : List ℕ) → length s ≡ 40 → length ws ≡ 4 → ((i : ℕ) → Fits w64 (get_or ws i 0))
    → x0 ≡ splice s 0 (bytes_of 8 r) → x1 ≡ splice x0 8 (bytes_of_all ws) → x1 ≡ bytes_of 8 r ++ bytes_of 32 (value ws)
filled s ws r x0 x1 h n fit e0 e1 =
    let set = bytes_of 32 (value ws) in
    let e : bytes_of_all ws ≡ set = four ws n ∙ sym (set_bytes_lem ws fit) in
    let first = length-bytes_of 8 r in
    let l : length (bytes_of 8 r ++ set) ≡ length s =
    length-append (bytes_of 8 r) set ∙ omega (arith, first, length-bytes_of 32 (value ws), h) in
    e1 ∙ ap₂ (λ (x y : List ℕ). splice x 8 y) e0 e ∙ ap (λ (k : ℕ). splice (splice s 0 (bytes_of 8 r)) k set) (sym (zero-add _ ∙ first))
    ∙ splice-splice s 0 (bytes_of 8 r) set (omega (arith, first, length-bytes_of 32 (value ws), h)) ∙ splice_all s (bytes_of 8 r ++ set) l
