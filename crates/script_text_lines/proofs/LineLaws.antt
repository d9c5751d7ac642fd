-- The digits of a number by its bytes, how many digits a number has, and a whole line.
-- Assumes nothing.
use mathlib.Core.Path.{◌≡◌, refl, sym, ap, ◌∙◌}
use mathlib.Core.Bool.{Bool, true, false, not, cond, true≢false}
use mathlib.Core.List.{List, [], ◌∷◌, ◌++◌, append_assoc, append-nil}
use lib.Dec.{eqb, ltb}
use borrow.Table.Steps.{cases}
use borrow.Author.Tests.{eqb-true, eqb-false, ltb-true, ltb-false}
use Rattle.std.proofs.Common.{Some, None, reverse}
use Rattle.std.proofs.lemmas.Option.{cond_some, none-some}
use Rattle.std.specs.List.{position_or_len}
use Rattle.std.proofs.lemmas.List.Sums.{fails_before_first, passes_at_first}
use Rattle.std.proofs.lemmas.List.{get_or-reverse, length-reverse, get_or-take, get_or_default}
use Prim.Native.Nat.{ℕ, zero, suc, ◌+◌, ◌-◌, ◌*◌, ◌/◌, ◌%◌, ◌^◌, ◌≤◌, ◌<◌}
use native.Mathlib.Omega.{arith}
use lib.ListN.{length, get_or, take, drop, length-drop}
use lib.Seq.{drop-cons, drop-length, take_all}
use Rattle.model.specs.Tests.{pick}
use Rattle.model.specs.Bytes.{number}
use Rattle.model_script.specs.Script.{glyph, numeral, line_of}
use Rattle.script_text.specs.declared.Writer.{Writer}
use Rattle.script_text.specs.Writing.{Writes, pair_of}
use Rattle.script_text.proofs.TextLaws.{writes-joined, writes_as, numeral-one, numeral_more, numeral-length, two≤10, two≤16}
use Rattle.script_text_lines.specs.Pairs.{pairs_of, HighestAt}

-- ---- hexadecimal numerals by bytes

pub byte_length : (d : ℕ) → d < 256 → length (numeral 16 d) ≤ 2
byte_length d l = numeral-length 16 two≤16 1 d l

-- a byte more
numeral_pair : (d x : ℕ) → d < 256 → 0 < x → numeral 16 (d + 256 * x) ≡ numeral 16 x ++ pair_of d
unfolding pair_of
numeral_pair d x l h =
    let n : ℕ = d + 256 * x in
    let q : (d + 256 * x) / 16 ≡ d / 16 + 16 * x = omega arith in
    let r : (d + 256 * x) % 16 ≡ d % 16 = omega arith in
    let s : (d / 16 + 16 * x) / 16 ≡ x = omega arith in
    let t : (d / 16 + 16 * x) % 16 ≡ d / 16 = omega arith in
    numeral_more 16 two≤16 (d + 256 * x) (omega arith)
    ∙ rw (q, r, numeral_more 16 two≤16 (d / 16 + 16 * x) (omega arith), s, t) (append_assoc (numeral 16 x) (glyph (d / 16) ∷ []) (glyph (d % 16) ∷ []))

number-drop : (bs : List ℕ) (k : ℕ) → k < length bs → number (drop k bs) ≡ get_or bs k 0 + 256 * number (drop (suc k) bs)
unfolding number
number-drop bs k h = rw (drop-cons bs k 0 h)

-- the digits of the bytes from k on, and those of the k bytes before them
pub bytes_numeral :
    (bs : List ℕ) → ((i : ℕ) → get_or bs i 0 < 256) → (k : ℕ) → k ≤ length bs → 0 < number (drop k bs)
    → numeral 16 (number (drop k bs)) ++ pairs_of k bs ≡ numeral 16 (number bs)
unfolding pairs_of
bytes_numeral bs w zero h p = append-nil (numeral 16 (number bs))
bytes_numeral bs w (suc k) h p =
    let e = number-drop bs k (omega arith) in
    sym (append_assoc (numeral 16 (number (drop (suc k) bs))) (pair_of (get_or bs k 0)) (pairs_of k bs))
    ∙ ap (λ x. x ++ pairs_of k bs) (sym (numeral_pair (get_or bs k 0) (number (drop (suc k) bs)) (w k) p) ∙ ap (numeral 16) (sym e))
    ∙ bytes_numeral bs w k (omega arith) (omega (arith, e))

-- no byte but zeros
pub numeral_none : (bs : List ℕ) → number bs ≡ 0 → 48 ∷ [] ≡ numeral 16 (number bs)
unfolding glyph pick
numeral_none bs e = sym (ap (numeral 16) e ∙ numeral-one 16 two≤16 0 (omega arith))

-- the highest byte, and the pairs of the others
pub numeral_some :
    (bs : List ℕ) (k : ℕ) → HighestAt bs k → ((i : ℕ) → get_or bs i 0 < 256) → numeral 16 (get_or bs k 0) ++ pairs_of k bs ≡ numeral 16 (number bs)
numeral_some bs k h w =
    let e : number (drop k bs) ≡ get_or bs k 0 = number-drop bs k h.inside ∙ omega (arith, h.zeros) in
    let q : 0 < number (drop k bs) = rw e h.some_byte in
    rw e at (bytes_numeral bs w k (omega (arith, h.inside)) q)

-- ---- the search for the highest byte

-- n bytes from k on, all of them zero
zeros_from : (bs : List ℕ) (n k : ℕ) → k + n ≡ length bs → ((j : ℕ) → k ≤ j → j < length bs → get_or bs j 0 ≡ 0) → number (drop k bs) ≡ 0
unfolding number
zeros_from bs zero k e z = let f : k ≡ length bs = omega arith in rw (f, drop-length bs)
zeros_from bs (suc n) k e z =
    let r = zeros_from bs n (suc k) (omega arith) (λ j a b. z j (omega arith) b) in
    number-drop bs k (omega arith) ∙ omega (arith, r, z k (omega arith) (omega arith))

abbrev pub some_bit : ℕ → Bool
some_bit b = not (eqb b 0)

-- how many zeros there are behind the highest byte
abbrev pub zeros_behind : List ℕ → ℕ
zeros_behind bs = position_or_len some_bit (reverse bs)

no_bit : (b : ℕ) → some_bit b ≡ false → b ≡ 0
no_bit b e = cases (eqb b 0) (λ t. eqb-true b 0 t) (λ f. absurd (true≢false (rw f at e)))

a_bit : (b : ℕ) → some_bit b ≡ true → 0 < b
a_bit b e = cases (eqb b 0) (λ t. absurd (true≢false (sym (rw t at e)))) (λ f. let n = eqb-false b 0 f in omega arith)

module _ (bs : List ℕ) where
  zero_at : (j : ℕ) → length bs - zeros_behind bs ≤ j → j < length bs → get_or bs j 0 ≡ 0
  zero_at j a b =
      let k : ℕ = length bs - 1 - j in
      let f = fails_before_first some_bit (reverse bs) k 0 (omega arith) in
      let g : length bs - 1 - k ≡ j = omega arith in
      no_bit _ (rw (get_or-reverse bs k 0 (omega arith), g) at f)

  -- where the search from the end finds none, and where it finds the one behind which there are k zeros
  module _ (k : ℕ) where
    found_at : cond (ltb (zeros_behind bs) (length (reverse bs))) (Some (zeros_behind bs)) None ≡ Some k → (zeros_behind bs < length bs) × (zeros_behind bs ≡ k)
    found_at e =
        let p = cond_some (ltb (zeros_behind bs) (length (reverse bs))) (zeros_behind bs) k e in
        (omega (arith, ltb-true _ _ p.0, length-reverse bs), p.1)

    pub highest_some :
        cond (ltb (zeros_behind bs) (length (reverse bs))) (Some (zeros_behind bs)) None ≡ Some k → HighestAt bs (length bs - 1 - k)
    highest_some e =
        let p = found_at e in
        let l = length-reverse bs in
        let n : zeros_behind bs ≡ k = p.1 in
        let h : zeros_behind bs < length bs = p.0 in
        record {
          inside = omega arith;
          zeros = zeros_from bs k (suc (length bs - 1 - k)) (omega arith) (λ j a b. zero_at j (omega arith) b);
          some_byte = a_bit _ (rw (n, get_or-reverse bs k 0 (omega arith)) at (passes_at_first some_bit (reverse bs) 0 (omega arith)));
        }

  pub highest_none : cond (ltb (zeros_behind bs) (length (reverse bs))) (Some (zeros_behind bs)) None ≡ None → number bs ≡ 0
  highest_none e =
      cases (ltb (zeros_behind bs) (length (reverse bs))) (λ t. absurd (none-some (zeros_behind bs) (sym e ∙ rw t)))
      (λ f. zeros_from bs (length bs) 0 (omega arith) (λ j a b. zero_at j (omega (arith, ltb-false _ _ f, length-reverse bs)) b))

-- ---- pairs of digits, one behind the other

pub pairs_next : (bs : List ℕ) (i : ℕ) → 0 < i → pairs_of i bs ≡ pair_of (get_or bs (i - 1) 0) ++ pairs_of (i - 1) bs
unfolding pairs_of
pairs_next bs zero h = absurd (omega arith)
pairs_next bs (suc i) h = let e : suc i - 1 ≡ i = omega arith in rw e

-- the pairs of the bytes before place k
pub pairs-taken : (bs : List ℕ) (k j : ℕ) → j ≤ k → k ≤ length bs → pairs_of j (take k bs) ≡ pairs_of j bs
unfolding pairs_of
pairs-taken bs k zero h l = refl
pairs-taken bs k (suc j) h l = rw (get_or-take k bs j 0 (omega arith), pairs-taken bs k j (omega arith) l)

-- the next byte from the end
pub pairs_turn :
    (bs : List ℕ) (n b : ℕ) → n < length (reverse bs) → b ≡ get_or (reverse bs) n b
    → pairs_of (length bs - n) bs ≡ pair_of b ++ pairs_of (length bs - (n + 1)) bs
pairs_turn bs n b h e =
    let l = length-reverse bs in
    let g : get_or bs (length bs - n - 1) 0 ≡ b =
    ap (λ k. get_or bs k 0) {x = length bs - n - 1} {y = length bs - 1 - n} (omega arith)
    ∙ get_or_default bs (length bs - 1 - n) 0 b (omega arith)
    ∙ sym (e ∙ get_or-reverse bs n b (omega arith)) in
    let m : length bs - n - 1 ≡ length bs - (n + 1) = omega arith in
    pairs_next bs (length bs - n) (omega arith) ∙ rw (g, m)

pub length_pairs : (bs : List ℕ) (k : ℕ) → length (pairs_of k bs) ≡ 2 * k
unfolding pairs_of pair_of
length_pairs bs zero = refl
length_pairs bs (suc k) = let e = length_pairs bs k in omega arith

-- ---- a whole line

-- a number of 64 bits has at most 20 digits
pub decimal-length : (n : ℕ) → n < 2 ^ 64 → length (numeral 10 n) ≤ 20
decimal-length n h = numeral-length 10 two≤10 19 n (omega arith)

pub decimal-room : (at n size : ℕ) → n < 2 ^ 64 → at + 20 ≤ size → at + length (numeral 10 n) ≤ size
decimal-room at n size h k = omega (arith, decimal-length n h)

pub decimal_end : (n : ℕ) {u v : Writer} → n < 2 ^ 64 → Writes u v (numeral 10 n) → v.at ≤ u.at + 20
decimal_end n h p = omega (arith, p.stores.next-is, decimal-length n h)

pub permissions_part : (l : List ℕ) → length l ≡ 40 → take 32 (drop 8 l) ≡ drop 8 l
permissions_part l h = take_all 32 (drop 8 l) (rw (length-drop 8 l) (omega arith))

-- a blank in front
pub blank_put : {u v w : Writer} {ys : List ℕ} → Writes u v (32 ∷ []) → Writes v w ys → Writes u w (32 ∷ ys)
blank_put p q = writes-joined p q

-- the parts of a line, one behind the other
pub line_put :
    (n a x : ℕ) (answer : List ℕ) {w₀ w₁ w₂ w₃ w₄ w₅ w₆ : Writer} {roles permissions : List ℕ} → roles ≡ take 8 answer
    → permissions ≡ drop 8 answer → Writes w₀ w₁ (numeral 10 n) → Writes w₁ w₂ (32 ∷ numeral 10 a)
    → Writes w₂ w₃ (32 ∷ numeral 10 x) → Writes w₃ w₄ (32 ∷ numeral 16 (number roles))
    → Writes w₄ w₅ (32 ∷ numeral 16 (number permissions)) → Writes w₅ w₆ (10 ∷ [])
    → Writes w₀ w₆ (line_of n a x (number (take 8 answer)) (number (drop 8 answer)))
unfolding line_of
line_put n a x answer e f p q s u v z =
    writes_as (rw (e, f)) (writes-joined (writes-joined (writes-joined (writes-joined (writes-joined p q) s) u) v) z)
