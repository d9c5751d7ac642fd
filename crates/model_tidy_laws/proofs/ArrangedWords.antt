-- Words that are determined by what they say, and images by their words.
-- Assumes nothing.
use mathlib.Core.Path.{◌≡◌, sym, ap, ◌∙◌}
use mathlib.Core.Bool.{true, ◌&&◌}
use mathlib.Core.List.{List, [], ◌∷◌, ◌++◌}
use Prim.Native.Nat.{ℕ, zero, suc, ◌+◌, ◌*◌, ◌/◌, ◌%◌, ◌^◌, ◌<◌}
use native.Mathlib.Nat.{div-div-eq-div-mul, div-add-mod', add-zero}
use native.Mathlib.Omega.{arith}
use lib.Dec.{eqb, ltb}
use lib.Pow.{are_bytes}
use lib.ListN.{length}
use borrow.Author.Tests.{eqb-true}
use Rattle.model.specs.declared.Entry.{Entry}
use Rattle.model.specs.declared.Entry.TheVariants.{Assignment, Grant, Senior, Exclude, Member, End, Unknown, Limit}
use Rattle.model.specs.declared.Word.{Word}
use Rattle.model.specs.Tests.{between}
use Rattle.model.specs.Bytes.{bytes_of}
use Rattle.model.specs.Image.{word_at, field, is_kind, kind_of, decode, head_of, head_right}
use Rattle.model.specs.Words.{head_word, assign_word, grant_word, senior_word, exclusion_word, member_word, limit_word, image_bytes}
use Rattle.model.specs.Policy.{kind_number}
use Rattle.model.specs.OwnWords.{words_from}
use Rattle.model.specs.Ranges.{Each}
use Rattle.model_laws.proofs.Bools.{and_l, and_r, pick-case}
use Rattle.model_laws.proofs.Eachs.{nil_of}
use Rattle.model_laws.proofs.SortedLaws.{kind_number_lem}
use Rattle.model_register.proofs.EntriesProof.{word_low, byte_low}
use Rattle.model_tidy_laws.proofs.WordLaws.{words-next}

-- ---- what is written for an entry
abbrev pub WordFor : Entry → ℕ → Type 0
WordFor (Assignment u r) w = w ≡ assign_word u.0 r.0
WordFor (Grant r p) w = w ≡ grant_word r.0 p.0
WordFor (Senior a b) w = w ≡ senior_word a.0 b.0
WordFor (Exclude x m) w = w ≡ exclusion_word (kind_number x.kind) x.n m
WordFor (Member r) w = w ≡ member_word r.0
WordFor (Limit r t) w = w ≡ limit_word r.0 t
WordFor End w = w ≡ 15 * 2 ^ 28 + w % 2 ^ 28
WordFor Unknown w = Unit {0}

-- a quotient by its lowest digit
div_step : (w a b : ℕ) → w / a ≡ w / (a * b) * b + w / a % b
div_step w a b = sym (div-add-mod' (w / a) b) ∙ ap (λ (x : ℕ). x * b + w / a % b) (div-div-eq-div-mul w a b)

-- no digit below a
low_zero : (w a : ℕ) → w % a ≡ 0 → w ≡ w / a * a
low_zero w a e = sym (div-add-mod' w a) ∙ ap (λ (r : ℕ). w / a * a + r) e ∙ add-zero (w / a * a)

top_is : (w k : ℕ) → w < 2 ^ 32 → is_kind w k ≡ true → w / 2 ^ 28 ≡ k
top_is w k l e = let q = eqb-true (field w 28 4) k e in omega arith

-- digits put together
join_two : (w q r t k x y : ℕ) → w ≡ q * 2 ^ 16 → q ≡ r * 2 ^ 6 + y → r ≡ t * 2 ^ 6 + x → t ≡ k → w ≡ k * 2 ^ 28 + x * 2 ^ 22 + y * 2 ^ 16
join_two w q r t k x y a b c d = omega arith

join_grant : (w q r t x y : ℕ) → w ≡ q * 2 ^ 14 → q ≡ r * 2 ^ 8 + y → r ≡ t * 2 ^ 6 + x → t ≡ 3 → w ≡ 3 * 2 ^ 28 + x * 2 ^ 22 + y * 2 ^ 14
join_grant w q r t x y a b c d = omega arith

join_limit : (w q r t x y : ℕ) → w ≡ q * 2 ^ 13 → q ≡ r * 2 ^ 9 + y → r ≡ t * 2 ^ 6 + x → t ≡ 7 → w ≡ 7 * 2 ^ 28 + x * 2 ^ 22 + y * 2 ^ 13
join_limit w q r t x y a b c d = omega arith

join_member : (w r t x : ℕ) → w ≡ r * 2 ^ 22 → r ≡ t * 2 ^ 6 + x → t ≡ 6 → w ≡ 6 * 2 ^ 28 + x * 2 ^ 22
join_member w r t x a b c = omega arith

join_exclusion : (w o q r t x y z : ℕ) → w ≡ o * 2 ^ 12 → o ≡ q * 2 ^ 7 + z → q ≡ r * 2 ^ 7 + y → r ≡ t * 2 ^ 2 + x → t ≡ 5
    → w ≡ 5 * 2 ^ 28 + x * 2 ^ 26 + y * 2 ^ 19 + z * 2 ^ 12
join_exclusion w o q r t x y z a b c d e = omega arith

join_head : (w o q r t x y z : ℕ) → w ≡ o * 2 ^ 5 → o ≡ q * 2 ^ 9 + z → q ≡ r * 2 ^ 7 + y → r ≡ t * 2 ^ 7 + x → t ≡ 1
    → w ≡ 1 * 2 ^ 28 + x * 2 ^ 21 + y * 2 ^ 14 + z * 2 ^ 5
join_head w o q r t x y z a b c d e = omega arith

module _ (w : ℕ) (low : w < 2 ^ 32) where
  of_assignment : is_kind w 2 ≡ true → w % 2 ^ 16 ≡ 0 → w ≡ assign_word (field w 22 6) (field w 16 6)
  unfolding assign_word
  of_assignment e s =
      join_two w _ _ _ 2 (field w 22 6) (field w 16 6) (low_zero w (2 ^ 16) s) (div_step w (2 ^ 16) (2 ^ 6)) (div_step w (2 ^ 22) (2 ^ 6)) (top_is w 2 low e)

  of_grant : is_kind w 3 ≡ true → w % 2 ^ 14 ≡ 0 → w ≡ grant_word (field w 22 6) (field w 14 8)
  unfolding grant_word
  of_grant e s =
      join_grant w _ _ _ (field w 22 6) (field w 14 8) (low_zero w (2 ^ 14) s) (div_step w (2 ^ 14) (2 ^ 8)) (div_step w (2 ^ 22) (2 ^ 6)) (top_is w 3 low e)

  of_senior : is_kind w 4 ≡ true → w % 2 ^ 16 ≡ 0 → w ≡ senior_word (field w 22 6) (field w 16 6)
  unfolding senior_word
  of_senior e s =
      join_two w _ _ _ 4 (field w 22 6) (field w 16 6) (low_zero w (2 ^ 16) s) (div_step w (2 ^ 16) (2 ^ 6)) (div_step w (2 ^ 22) (2 ^ 6)) (top_is w 4 low e)

  of-exclusion : is_kind w 5 ≡ true → w % 2 ^ 12 ≡ 0 → w ≡ exclusion_word (kind_number (kind_of (field w 26 2))) (field w 19 7) (field w 12 7)
  unfolding exclusion_word
  of-exclusion e s =
      join_exclusion w _ _ _ _ (field w 26 2) (field w 19 7) (field w 12 7) (low_zero w (2 ^ 12) s) (div_step w (2 ^ 12) (2 ^ 7)) (div_step w (2 ^ 19) (2 ^ 7))
      (div_step w (2 ^ 26) (2 ^ 2)) (top_is w 5 low e)
      ∙ ap (λ (k : ℕ). 5 * 2 ^ 28 + k * 2 ^ 26 + field w 19 7 * 2 ^ 19 + field w 12 7 * 2 ^ 12) (sym (kind_number_lem (field w 26 2) (omega arith)))

  of_member : is_kind w 6 ≡ true → w % 2 ^ 22 ≡ 0 → w ≡ member_word (field w 22 6)
  unfolding member_word
  of_member e s = join_member w _ _ (field w 22 6) (low_zero w (2 ^ 22) s) (div_step w (2 ^ 22) (2 ^ 6)) (top_is w 6 low e)

  of_limit : is_kind w 7 ≡ true → w % 2 ^ 13 ≡ 0 → w ≡ limit_word (field w 22 6) (field w 13 9)
  unfolding limit_word
  of_limit e s =
      join_limit w _ _ _ (field w 22 6) (field w 13 9) (low_zero w (2 ^ 13) s) (div_step w (2 ^ 13) (2 ^ 9)) (div_step w (2 ^ 22) (2 ^ 6)) (top_is w 7 low e)

  of_end : is_kind w 15 ≡ true → w ≡ 15 * 2 ^ 28 + w % 2 ^ 28
  of_end e = let k = eqb-true (field w 28 4) 15 e in omega arith

  abbrev Written : Word → Type 0
  Written d = d.spare ≡ 0 → WordFor d.entry w

  -- a word behind the head with no spare bit is what is written for what it says
  pub word_for : (decode w).spare ≡ 0 → WordFor (decode w).entry w
  unfolding decode
  word_for =
      pick-case Written (is_kind w 2) _ _ of_assignment
      (λ _. pick-case Written (is_kind w 3) _ _ of_grant
      (λ _. pick-case Written (is_kind w 4) _ _ of_senior
      (λ _. pick-case Written (is_kind w 5) _ _ of-exclusion
      (λ _. pick-case Written (is_kind w 6) _ _ of_member
      (λ _. pick-case Written (is_kind w 7) _ _ of_limit
      (λ _. pick-case Written (is_kind w 15) _ _ (λ e s. of_end e) (λ _ s. tt)))))))

  -- so is a right head
  pub head_for : head_right w ≡ true → w ≡ head_word (head_of w).users (head_of w).roles (head_of w).permissions
  unfolding head_right head_of head_word
  head_for e =
      let a = is_kind w 1 && between 1 (field w 21 7) 64 && between 1 (field w 14 7) 64 && between 1 (field w 5 9) 256 in
      let s = eqb-true (w % 2 ^ 5) 0 (and_r a (eqb (w % 2 ^ 5) 0) e) in
      let b = and_l a (eqb (w % 2 ^ 5) 0) e in
      let c = and_l (is_kind w 1 && between 1 (field w 21 7) 64 && between 1 (field w 14 7) 64) (between 1 (field w 5 9) 256) b in
      let d = and_l (is_kind w 1 && between 1 (field w 21 7) 64) (between 1 (field w 14 7) 64) c in
      join_head w _ _ _ _ (field w 21 7) (field w 14 7) (field w 5 9) (low_zero w (2 ^ 5) s) (div_step w (2 ^ 5) (2 ^ 9)) (div_step w (2 ^ 14) (2 ^ 7))
      (div_step w (2 ^ 21) (2 ^ 7)) (top_is w 1 low (and_l (is_kind w 1) (between 1 (field w 21 7) 64) d))

-- ---- bytes

pub words_low : (s : List ℕ) → are_bytes s ≡ true → (n place : ℕ) → Each (λ w. w < 2 ^ 32) (words_from s n place)
unfolding words_from
words_low s e zero place = tt
words_low s e (suc n) place = (word_low s e place, words_low s e n (place + 1))

quotient : (a x : ℕ) → a < 256 → (a + 256 * x) / 256 ≡ x
quotient a x l = omega arith

remainder : (a x : ℕ) → a < 256 → (a + 256 * x) % 256 ≡ a
remainder a x l = omega arith

-- four bytes and their word
four : (a b c d : ℕ) (r : List ℕ) → a < 256 → b < 256 → c < 256 → d < 256
    → bytes_of 4 (word_at (a ∷ b ∷ c ∷ d ∷ r) 0) ++ r ≡ a ∷ b ∷ c ∷ d ∷ r
unfolding bytes_of word_at
four a b c d r ha hb hc hd =
    let w = a + 256 * (b + 256 * (c + 256 * d)) in
    let p : w / 256 ≡ b + 256 * (c + 256 * d) = quotient a (b + 256 * (c + 256 * d)) ha in
    let q : w / 256 / 256 ≡ c + 256 * d = ap (λ (x : ℕ). x / 256) p ∙ quotient b (c + 256 * d) hb in
    let v : w / 256 / 256 / 256 ≡ d = ap (λ (x : ℕ). x / 256) q ∙ quotient c d hc in
    let x : w % 256 ≡ a = remainder a (b + 256 * (c + 256 * d)) ha in
    let y : w / 256 % 256 ≡ b = ap (λ (x : ℕ). x % 256) p ∙ remainder b (c + 256 * d) hb in
    let z : w / 256 / 256 % 256 ≡ c = ap (λ (x : ℕ). x % 256) q ∙ remainder c d hc in
    let t : w / 256 / 256 / 256 % 256 ≡ d = ap (λ (x : ℕ). x % 256) v ∙ (let k : d % 256 ≡ d = omega arith in k) in
    λ i. x i ∷ y i ∷ z i ∷ t i ∷ r

-- whole words of bytes make the bytes
pub words_bytes : (n : ℕ) (s : List ℕ) → are_bytes s ≡ true → length s ≡ 4 * n → image_bytes (words_from s n 0) ≡ s
unfolding words_from image_bytes
words_bytes zero s e l = sym (nil_of s (omega arith))
words_bytes (suc n) [] e l = absurd (let z : ⊥ = omega arith in z)
words_bytes (suc n) (a ∷ []) e l = absurd (let z : ⊥ = omega arith in z)
words_bytes (suc n) (a ∷ b ∷ []) e l = absurd (let z : ⊥ = omega arith in z)
words_bytes (suc n) (a ∷ b ∷ c ∷ []) e l = absurd (let z : ⊥ = omega arith in z)
words_bytes (suc n) (a ∷ b ∷ c ∷ d ∷ r) e l =
    let s = a ∷ b ∷ c ∷ d ∷ r in
    let e1 = and_r (ltb a 256) (are_bytes (b ∷ c ∷ d ∷ r)) e in
    let e2 = and_r (ltb b 256) (are_bytes (c ∷ d ∷ r)) e1 in
    let e3 = and_r (ltb c 256) (are_bytes (d ∷ r)) e2 in
    let q = four a b c d r (byte_low s e 0) (byte_low s e 1) (byte_low s e 2) (byte_low s e 3) in
    ap (λ (ws : List ℕ). bytes_of 4 (word_at s 0) ++ image_bytes ws)
    (ap (λ (t : List ℕ). words_from t n 1) (sym q) ∙ words-next (word_at s 0) r n 0)
    ∙ ap (λ (t : List ℕ). bytes_of 4 (word_at s 0) ++ t) (words_bytes n r (and_r (ltb d 256) (are_bytes r) e3) (omega arith))
    ∙ q
