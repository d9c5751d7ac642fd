-- The judgement of an image, a law for each way that it goes.
-- Assumes nothing.
use Rattle.std.proofs.Common.{◌≡◌, ℕ, ◌-◌, ◌/◌, ◌%◌, ◌<◌, ◌≤◌, Bool, true, false, ◌&&◌, leb, List, length, sym, refl, ap, ◌∙◌, ap₂, arith, eq-eqb, ne_eqb, le-leb}
use borrow.Author.Tests.{lt-leb}
use Rattle.model.specs.declared.Checked.{Checked}
use Rattle.model.specs.declared.Checked.TheVariants.{Refused}
use Rattle.model.specs.Image.{word_at, behind_head, scan, head_of, head_right, length_right, empty_rows, start, judge_words}
use Rattle.image.specs.Front.{Front}

-- ---- the length
module _ (n : ℕ) where
  -- by the tests that make it up
  abbrev right : Bool → Bool → Bool → Bool
  right a b c = a && (b && c)

  odd : (n % 4 ≡ 0 → ⊥) → length_right n ≡ false
  unfolding length_right
  odd e = ap (λ (a : Bool). right a (leb 8 n) (leb n 16384)) (ne_eqb (n % 4) 0 e)

  short : n % 4 ≡ 0 → n < 8 → length_right n ≡ false
  unfolding length_right
  short e l = ap₂ (λ (a b : Bool). right a b (leb n 16384)) (eq-eqb (n % 4) 0 e) (lt-leb 8 n l)

  long : n % 4 ≡ 0 → 8 ≤ n → 16384 < n → length_right n ≡ false
  unfolding length_right
  long e l g =
      ap₂ (λ (a b : Bool). right a b (leb n 16384)) (eq-eqb (n % 4) 0 e) (le-leb 8 n l)
      ∙ ap (λ (c : Bool). right true true c) (lt-leb n 16384 g)

  fitting : n % 4 ≡ 0 → 8 ≤ n → n ≤ 16384 → length_right n ≡ true
  unfolding length_right
  fitting e l g =
      ap₂ (λ (a b : Bool). right a b (leb n 16384)) (eq-eqb (n % 4) 0 e) (le-leb 8 n l)
      ∙ ap (λ (c : Bool). right true true c) (le-leb n 16384 g)

-- ---- the judgement
module _ (s : List ℕ) where
  -- by its two tests
  abbrev judging : Bool → Bool → Checked
  judging b r =
      elim b [
        | false ↦ Refused 1 0
        | true ↦ elim r [
          | false ↦ Refused 2 0
          | true ↦ scan s (head_of (word_at s 0)) (behind_head s) 1 empty_rows start (word_at s 0)
        ]
      ]

  wrong_length : length_right (length s) ≡ false → judge_words s ≡ Refused 1 0
  unfolding judge_words
  wrong_length e = ap (λ (b : Bool). judging b (head_right (word_at s 0))) e

  pub odd_length : (length s % 4 ≡ 0 → ⊥) → judge_words s ≡ Refused 1 0
  odd_length e = wrong_length (odd (length s) e)

  pub short_length : length s % 4 ≡ 0 → length s < 8 → judge_words s ≡ Refused 1 0
  short_length e l = wrong_length (short (length s) e l)

  pub long_length : length s % 4 ≡ 0 → 8 ≤ length s → 16384 < length s → judge_words s ≡ Refused 1 0
  long_length e l g = wrong_length (long (length s) e l g)

  module _ (e : length s % 4 ≡ 0) (l : 8 ≤ length s) (g : length s ≤ 16384) where
    pub wrong_head : head_right (word_at s 0) ≡ false → judge_words s ≡ Refused 2 0
    unfolding judge_words
    wrong_head w = ap₂ judging (fitting (length s) e l g) w

    pub right_head : head_right (word_at s 0) ≡ true
        → judge_words s ≡ scan s (head_of (word_at s 0)) (length s / 4 - 1) 1 empty_rows start (word_at s 0)
    unfolding judge_words behind_head
    right_head w = ap₂ judging (fitting (length s) e l g) w

  -- the front of an image that is refused by its length or its head, and of one that is not
  pub front_refused : (n : ℕ) → (n ≡ 0 → ⊥) → judge_words s ≡ Refused n 0 → Front s n
  front_refused n k e =
      record { refused = λ z. sym e; whole = omega arith; least = λ z. absurd (k z); most = λ z. absurd (k z); scanned = λ z. absurd (k z) }

  pub front_right : length s % 4 ≡ 0 → 8 ≤ length s → length s ≤ 16384 → head_right (word_at s 0) ≡ true → Front s 0
  front_right e l g w =
      record {
        refused = λ k. absurd (k refl);
        whole = omega arith;
        least = λ z. omega arith;
        most = λ z. omega arith;
        scanned = λ z. sym (right_head e l g w);
      }

  -- the front of an image that is too short
  pub short_front : length s % 4 ≡ 0 → length s < 8 → Front s 1
  short_front e l = front_refused 1 (λ z. omega arith) (short_length e l)
