-- Digits and the numbers that they make.
-- Assumes nothing.
use mathlib.Core.Path.{◌≡◌, refl, ap, ◌∙◌}
use mathlib.Core.Bool.{Bool, true, false, ◌&&◌}
use mathlib.Core.List.{List, [], ◌∷◌, ◌++◌}
use Prim.Native.Nat.{ℕ, zero, suc, ◌+◌, ◌-◌, ◌*◌, ◌/◌, ◌%◌, ◌^◌, ◌≤◌, ◌<◌}
use native.Mathlib.Nat.{pow-suc, pow-le-pow_right}
use native.Mathlib.Numerals.{add-one}
use native.Mathlib.Omega.{arith}
use lib.Dec.{leb, ltb, lit<}
use lib.ListN.{length, get_or, take, drop, drop_of_length-le}
use lib.Seq.{drop-cons, take-suc}
use borrow.Table.Steps.{cases}
use borrow.Author.Tests.{lt-ltb, le-leb, lt-leb, ltb-true, ltb-false, leb-true}
use Rattle.model.specs.Tests.{pick, between, all}
use Rattle.model_laws.proofs.Bools.{and_l, and_r, pick-case}
use Rattle.model.specs.Bytes.{bytes_of}
use Rattle.std.proofs.Common.{Some, None}
use Rattle.std.specs.Option.{unwrap_or}
use Rattle.std.specs.List.{list_all}
use Rattle.script_numerals.specs.Numbers.{digit_value, number_of, bound_of}
use Rattle.model_script.specs.Script.{digit, is_digit, is_numeral, value_from, value}

-- ---- the value of a digit, by the ranges of bytes

pub digit≤16 : (c : ℕ) → digit c ≤ 16
unfolding digit
digit≤16 c =
    pick-case (λ x. x ≤ 16) (between 48 c 57) (c - 48) _ (λ e. omega (arith, leb-true c 57 (and_r (leb 48 c) _ e)))
    (λ f. pick-case (λ x. x ≤ 16) (between 65 c 70) (c - 55) _ (λ e. omega (arith, leb-true c 70 (and_r (leb 65 c) _ e)))
    (λ g. pick-case (λ x. x ≤ 16) (between 97 c 102) (c - 87) 16 (λ e. omega (arith, leb-true c 102 (and_r (leb 97 c) _ e))) (λ h. omega arith)))

module _ (c : ℕ) where
  found : (d : ℕ) → d < 16 → d ≡ digit c → Some d ≡ digit_value c
  unfolding digit_value is_digit pick
  found d h e = rw (← e) (simp (lt-ltb d 16 h))

  missed : 16 ≡ digit c → None ≡ digit_value c
  unfolding digit_value is_digit pick
  missed e = rw (← e)

  pub digit_low : c < 48 → None ≡ digit_value c
  unfolding digit pick
  digit_low h = missed (simp (lt-leb 48 c h, lt-leb 65 c (omega arith), lt-leb 97 c (omega arith)))

  pub digit-figure : 48 ≤ c → c ≤ 57 → Some (c - 48) ≡ digit_value c
  unfolding digit pick
  digit-figure h k = found (c - 48) (omega arith) (simp (le-leb 48 c h, le-leb c 57 k))

  pub digit-between : 57 < c → c < 65 → None ≡ digit_value c
  unfolding digit pick
  digit-between h k = missed (simp (le-leb 48 c (omega arith), lt-leb c 57 h, lt-leb 65 c k, lt-leb 97 c (omega arith)))

  pub digit_large : 65 ≤ c → c ≤ 70 → Some (c - 65 + 10) ≡ digit_value c
  unfolding digit pick
  digit_large h k =
      let e : c - 65 + 10 ≡ c - 55 = omega arith in
      found (c - 65 + 10) (omega arith) (e ∙ simp (le-leb 48 c (omega arith), lt-leb c 57 (omega arith), le-leb 65 c h, le-leb c 70 k))

  pub digit_amid : 70 < c → c < 97 → None ≡ digit_value c
  unfolding digit pick
  digit_amid h k =
      missed (simp (le-leb 48 c (omega arith), lt-leb c 57 (omega arith), le-leb 65 c (omega arith), lt-leb c 70 h, lt-leb 97 c k))

  pub digit-small : 97 ≤ c → c ≤ 102 → Some (c - 97 + 10) ≡ digit_value c
  unfolding digit pick
  digit-small h k =
      let e : c - 97 + 10 ≡ c - 87 = omega arith in
      found (c - 97 + 10) (omega arith)
      (e ∙ simp (le-leb 48 c (omega arith), lt-leb c 57 (omega arith), le-leb 65 c (omega arith), lt-leb c 70 (omega arith), le-leb 97 c h, le-leb c 102 k))

  pub digit_high : 102 < c → None ≡ digit_value c
  unfolding digit pick
  digit_high h =
      missed
      (simp
      (le-leb 48 c (omega arith), lt-leb c 57 (omega arith), le-leb 65 c (omega arith), lt-leb c 70 (omega arith), le-leb 97 c (omega arith), lt-leb c 102 h))

  -- where there is no value, the digit counts 16
  pub weighed : unwrap_or (digit_value c) 16 ≡ digit c
  unfolding digit_value is_digit pick
  weighed = cases (ltb (digit c) 16) (λ t. rw t) (λ f. rw f (omega (arith, ltb-false _ _ f, digit≤16 c)))

-- every member passes the test, as the library and as the model say it
pub all_same : (f : ℕ → Bool) (xs : List ℕ) → list_all f xs ≡ all f xs
unfolding all
all_same f [] = refl
all_same f (x ∷ xs) = ap (λ b. f x && b) (all_same f xs)

-- ---- numerals, by their length

module _ (b most : ℕ) (w : List ℕ) where
  pub no_digit : length w < 1 → false ≡ is_numeral b most w
  unfolding is_numeral
  no_digit h = simp (lt-leb 1 (length w) h)

  pub too_many_digits : 1 ≤ length w → most < length w → false ≡ is_numeral b most w
  unfolding is_numeral
  too_many_digits h k = simp (le-leb 1 (length w) h, lt-leb (length w) most k)

  pub some_digits : 1 ≤ length w → length w ≤ most → all (is_digit b) w ≡ is_numeral b most w
  unfolding is_numeral
  some_digits h k = simp (le-leb 1 (length w) h, le-leb (length w) most k)

  pub numeral_short : is_numeral b most w ≡ true → length w ≤ most
  unfolding is_numeral
  numeral_short e = leb-true _ _ (and_r (leb 1 (length w)) _ (and_l (between 1 (length w) most) _ e))

  pub numeral_digits : is_numeral b most w ≡ true → all (is_digit b) w ≡ true
  unfolding is_numeral
  numeral_digits e = and_r (between 1 (length w) most) _ e

-- ---- a word read

module _ (w : List ℕ) where
  pub number_right : is_numeral 10 9 w ≡ true → Some (value 10 w) ≡ number_of w
  unfolding number_of pick
  number_right e = rw e

  pub number_wrong : is_numeral 10 9 w ≡ false → None ≡ number_of w
  unfolding number_of pick
  number_wrong e = rw e

  pub bound_right : is_numeral 16 64 w ≡ true → Some (bytes_of 32 (value 16 w)) ≡ bound_of w
  unfolding bound_of pick
  bound_right e = rw e

  pub bound_wrong : is_numeral 16 64 w ≡ false → None ≡ bound_of w
  unfolding bound_of pick
  bound_wrong e = rw e

-- ---- the number so far, with a digit more

module _ (b : ℕ) (w : List ℕ) (v i : ℕ) where
  pub value_goes_on : i < length w → value_from b (b * v + digit (get_or w i 0)) (drop (i + 1) w) ≡ value_from b v (drop i w)
  unfolding value_from
  value_goes_on h = rw (drop-cons w i 0 h, add-one i)

  pub value_end : length w ≤ i → v ≡ value_from b v (drop i w)
  unfolding value_from
  value_end h = rw (drop_of_length-le w h)

-- i digits make a number below 2 times 10 to the power i, digit or not
pub grows : (v d i : ℕ) → v + 2 ≤ 2 * 10 ^ i → d ≤ 16 → 10 * v + d + 2 ≤ 2 * 10 ^ (i + 1)
grows v d i h k = let e : 10 ^ (i + 1) ≡ 10 ^ i * 10 = rw (add-one i) (pow-suc 10 i) in omega arith

pub few : (v i : ℕ) → v + 2 ≤ 2 * 10 ^ i → i ≤ 9 → v < 2000000000
few v i h k = let l : 10 ^ i ≤ 10 ^ 9 = pow-le-pow_right (lit< tt) k in omega arith

-- ---- a bound's bytes, two digits each, from the last digits on

value-joined : (b n : ℕ) (xs ys : List ℕ) → value_from b n (xs ++ ys) ≡ value_from b (value_from b n xs) ys
unfolding value_from
value-joined b n [] ys = refl
value-joined b n (x ∷ xs) ys = value-joined b (b * n + digit x) xs ys

-- the number of i + 1 digits, by that of i
value_last : (b : ℕ) (w : List ℕ) (i : ℕ) → i < length w → value b (take (suc i) w) ≡ b * value b (take i w) + digit (get_or w i 0)
unfolding value value_from
value_last b w i h = rw (take-suc w i 0 h) (value-joined b 0 (take i w) (get_or w i 0 ∷ []))

pub value_none : (b : ℕ) (w : List ℕ) → value b (take 0 w) ≡ 0
unfolding value value_from
value_none b w = refl

pub digit-of-all : (b : ℕ) (w : List ℕ) (i : ℕ) → all (is_digit b) w ≡ true → i < length w → digit (get_or w i 0) < b
unfolding all is_digit
digit-of-all b [] i a h = omega arith
digit-of-all b (c ∷ cs) zero a h = ltb-true _ _ (and_l (ltb (digit c) b) _ a)
digit-of-all b (c ∷ cs) (suc i) a h = digit-of-all b cs i (and_r (ltb (digit c) b) _ a) (omega arith)

-- the number of m digits, by that of one fewer; none make 0
value_by : (w : List ℕ) (m k : ℕ) → m ≡ suc k → k < length w → value 16 (take m w) ≡ 16 * value 16 (take k w) + digit (get_or w k 0)
value_by w m k e h = ap (λ x. value 16 (take x w)) e ∙ value_last 16 w k h

value_zero : (w : List ℕ) (k : ℕ) → k ≡ 0 → value 16 (take k w) ≡ 0
value_zero w k e = ap (λ x. value 16 (take x w)) e ∙ value_none 16 w

module _ (w : List ℕ) (m : ℕ) (l : m ≤ length w) (a : all (is_digit 16) w ≡ true) where
  -- one digit, and two
  pub pair_of_one : 0 < m → m < 2 → digit (get_or w (m - 1) 0) ≡ value 16 (take m w) % 256
  pair_of_one h k =
      let v = value_by w m (m - 1) (omega arith) (omega arith) in
      let n = value_zero w (m - 1) (omega arith) in
      omega (arith, v, n, digit-of-all 16 w (m - 1) a (omega arith))

  pub pair_of_two : 2 ≤ m → 16 * digit (get_or w (m - 2) 0) + digit (get_or w (m - 1) 0) ≡ value 16 (take m w) % 256
  pair_of_two h =
      let v = value_by w m (m - 1) (omega arith) (omega arith) in
      let u = value_by w (m - 1) (m - 2) (omega arith) (omega arith) in
      omega (arith, v, u, digit-of-all 16 w (m - 1) a (omega arith), digit-of-all 16 w (m - 2) a (omega arith))

  -- the digits before the last two
  pub before_pair : 0 < m → value 16 (take (m - 2) w) ≡ value 16 (take m w) / 256
  before_pair h = cases (ltb m 2) (λ t. one (ltb-true m 2 t)) (λ t. two (ltb-false m 2 t))
    where
      one : m < 2 → value 16 (take (m - 2) w) ≡ value 16 (take m w) / 256
      one k =
          let v = value_by w m (m - 1) (omega arith) (omega arith) in
          let n = value_zero w (m - 1) (omega arith) in
          let o = value_zero w (m - 2) (omega arith) in
          omega (arith, v, n, o, digit-of-all 16 w (m - 1) a (omega arith))

      two : 2 ≤ m → value 16 (take (m - 2) w) ≡ value 16 (take m w) / 256
      two k =
          let v = value_by w m (m - 1) (omega arith) (omega arith) in
          let u = value_by w (m - 1) (m - 2) (omega arith) (omega arith) in
          omega (arith, v, u, digit-of-all 16 w (m - 1) a (omega arith), digit-of-all 16 w (m - 2) a (omega arith))
