-- Packed texts: their bytes one by one, and numbers in decimal.
-- Assumes nothing.
use Rattle.std.proofs.Common.{◌≡◌, ℕ, zero, suc, ◌+◌, ◌-◌, ◌*◌, ◌/◌, ◌%◌, ◌<◌, ◌≤◌, List, [], ◌∷◌, ◌++◌, length, sym, refl, ap, ◌∙◌, arith, le-ltb, lt-ltb}
use Rattle.model.specs.Dimacs.{figure, decimal}
use Rattle.clauses_bytes.specs.Putting.{Puts, Sets, packed_to, packed_text}
use Rattle.clauses_bytes.proofs.WritingLaws.{puts_as, put2, decimal-one, decimal-two, decimal_three, decimal_thousand}

-- ---- the bytes of a number, by how many there are

packed_last : (k p : ℕ) → p < 256 → p % 256 ∷ [] ≡ packed_to k p
unfolding packed_to
packed_last zero p h = refl
packed_last (suc k) p h = rw (lt-ltb p 256 h, packed_to)

packed_more : (k p : ℕ) {t : List ℕ} → 256 ≤ p → t ≡ packed_to k (p / 256) → p % 256 ∷ t ≡ packed_to (suc k) p
unfolding packed_to
packed_more k p h e = rw (le-ltb p 256 h, e, packed_to)

module _ (p a : ℕ) (ea : a ≡ p % 256) where
  packed_one : p < 256 → a ∷ [] ≡ packed_text p
  packed_one h = rw ea (packed_last 4 p h)

  module _ (b : ℕ) (eb : b ≡ p / 256 % 256) where
    packed_two : 256 ≤ p → p < 65536 → a ∷ b ∷ [] ≡ packed_text p
    packed_two g h = rw (ea, eb) (packed_more 3 p g (packed_last 3 (p / 256) (omega arith)))

    module _ (c : ℕ) (ec : c ≡ p / 256 / 256 % 256) where
      packed_three : 65536 ≤ p → p < 16777216 → a ∷ b ∷ c ∷ [] ≡ packed_text p
      packed_three g h =
          rw (ea, eb, ec) (packed_more 3 p (omega arith) (packed_more 2 (p / 256) (omega arith) (packed_last 2 (p / 256 / 256) (omega arith))))

      module _ (d : ℕ) (ed : d ≡ p / 256 / 256 / 256 % 256) where
        packed_four : 16777216 ≤ p → p < 4294967296 → a ∷ b ∷ c ∷ d ∷ [] ≡ packed_text p
        packed_four g h =
            rw (ea, eb, ec, ed)
            (packed_more 3 p (omega arith) (packed_more 2 (p / 256) (omega arith)
            (packed_more 1 (p / 256 / 256) (omega arith) (packed_last 1 (p / 256 / 256 / 256) (omega arith)))))

        packed_five : (e : ℕ) → e ≡ p / 256 / 256 / 256 / 256 % 256 → 4294967296 ≤ p → a ∷ b ∷ c ∷ d ∷ e ∷ [] ≡ packed_text p
        unfolding packed_to
        packed_five e ee g =
            rw (ea, eb, ec, ed, ee)
            (packed_more 3 p (omega arith) (packed_more 2 (p / 256) (omega arith)
            (packed_more 1 (p / 256 / 256) (omega arith) (packed_more 0 (p / 256 / 256 / 256) (omega arith) refl))))

-- ---- set where there is room

sets_packed : {l m t u : List ℕ} {at k r : ℕ} → Sets l at k t m r → t ≡ u → k ≤ 5 → Sets l at 5 u m r
sets_packed s e h = record { puts = puts_as e s.puts; reached = omega (arith, s.reached); size = s.size }

module _ {l m : List ℕ} {at r p a : ℕ} where
  pub set_packed_one : Sets l at 1 (a ∷ []) m r → a ≡ p % 256 → p < 256 → Sets l at 5 (packed_text p) m r
  set_packed_one s ea h = sets_packed s (packed_one p a ea h) (omega arith)

  pub set_packed_two : {b : ℕ} → Sets l at 2 (a ∷ b ∷ []) m r → a ≡ p % 256 → b ≡ p / 256 % 256 → 256 ≤ p → p < 65536
      → Sets l at 5 (packed_text p) m r
  set_packed_two {b = b} s ea eb g h = sets_packed s (packed_two p a ea b eb g h) (omega arith)

  pub set_packed_three : {b c : ℕ} → Sets l at 3 (a ∷ b ∷ c ∷ []) m r → a ≡ p % 256 → b ≡ p / 256 % 256 → c ≡ p / 256 / 256 % 256 → 65536 ≤ p
      → p < 16777216 → Sets l at 5 (packed_text p) m r
  set_packed_three {b = b} {c = c} s ea eb ec g h = sets_packed s (packed_three p a ea b eb c ec g h) (omega arith)

  pub set_packed_four : {b c d : ℕ} → Sets l at 4 (a ∷ b ∷ c ∷ d ∷ []) m r → a ≡ p % 256 → b ≡ p / 256 % 256 → c ≡ p / 256 / 256 % 256
      → d ≡ p / 256 / 256 / 256 % 256 → 16777216 ≤ p → p < 4294967296 → Sets l at 5 (packed_text p) m r
  set_packed_four {b = b} {c = c} {d = d} s ea eb ec ed g h = sets_packed s (packed_four p a ea b eb c ec d ed g h) (omega arith)

  pub set_packed_five : {b c d e : ℕ} → Sets l at 5 (a ∷ b ∷ c ∷ d ∷ e ∷ []) m r → a ≡ p % 256 → b ≡ p / 256 % 256 → c ≡ p / 256 / 256 % 256
      → d ≡ p / 256 / 256 / 256 % 256 → e ≡ p / 256 / 256 / 256 / 256 % 256 → 4294967296 ≤ p → Sets l at 5 (packed_text p) m r
  set_packed_five {b = b} {c = c} {d = d} {e = e} s ea eb ec ed ee g = sets_packed s (packed_five p a ea b eb c ec d ed e ee g) (omega arith)

-- ---- put byte by byte

module _ {l m : List ℕ} {at r a : ℕ} (k p : ℕ) (q : Puts l at (a ∷ []) m r) (e : a ≡ p % 256) where
  pub each_only : k < 1 → Puts l at (packed_to k p) m r
  unfolding packed_to
  each_only h = let z : k ≡ 0 = omega arith in rw (z, packed_to) (puts_as (ap (λ (x : ℕ). x ∷ []) e) q)

  pub each_last : p < 256 → Puts l at (packed_to k p) m r
  each_last h = puts_as (ap (λ (x : ℕ). x ∷ []) e ∙ packed_last k p h) q

pub each_more : {l m b : List ℕ} {at n r k p a : ℕ} → Puts m n (packed_to (k - 1) (p / 256)) b r → Puts l at (a ∷ []) m n → a ≡ p % 256 → 1 ≤ k
    → 256 ≤ p → Puts l at (packed_to k p) b r
each_more {k = k} {p = p} q s e g h =
    let z : k ≡ suc (k - 1) = omega arith in
    rw z (put2 q s (rw e (packed_more (k - 1) p h refl)))

-- ---- how long they are

module _ (p : ℕ) where
  pub packed_width_one : p < 256 → 1 ≡ length (packed_text p)
  packed_width_one h = ap length (packed_one p _ refl h)

  pub packed_width_two : 256 ≤ p → p < 65536 → 2 ≡ length (packed_text p)
  packed_width_two g h = ap length (packed_two p _ refl _ refl g h)

  pub packed_width_three : 65536 ≤ p → p < 16777216 → 3 ≡ length (packed_text p)
  packed_width_three g h = ap length (packed_three p _ refl _ refl _ refl g h)

  pub packed_width_four : 16777216 ≤ p → p < 4294967296 → 4 ≡ length (packed_text p)
  packed_width_four g h = ap length (packed_four p _ refl _ refl _ refl _ refl g h)

  pub packed_width_five : 4294967296 ≤ p → 5 ≡ length (packed_text p)
  packed_width_five g = ap length (packed_five p _ refl _ refl _ refl _ refl _ refl g)

pub ruleset packed_widths = (packed_width_one, packed_width_two, packed_width_three, packed_width_four, packed_width_five)

-- ---- decimals, the last digit highest

packed_end : (k a : ℕ) → a < 256 → packed_to k a ≡ a ∷ []
packed_end k a h = let e : a % 256 ≡ a = omega arith in rw e at (sym (packed_last k a h))

packed_front : (k a q : ℕ) {t : List ℕ} → a < 256 → 1 ≤ q → packed_to k q ≡ t → packed_to (suc k) (a + q * 256) ≡ a ∷ t
packed_front k a q {t} h g e =
    let m : (a + q * 256) % 256 ≡ a = omega arith in
    let d : (a + q * 256) / 256 ≡ q = omega arith in
    rw m at (sym (packed_more k (a + q * 256) {t = t} (omega arith) (rw d (sym e))))

small : (n : ℕ) → figure n < 256
unfolding figure
small n = omega arith

some : (n : ℕ) → 1 ≤ figure n
unfolding figure
some n = omega arith

abbrev pub tens : ℕ → ℕ
tens n = figure (n / 10) + figure n * 256

abbrev pub hundreds : ℕ → ℕ
hundreds n = figure (n / 10 / 10) + tens n * 256

abbrev pub thousands : ℕ → ℕ
thousands n = figure (n / 10 / 10 / 10) + hundreds n * 256

module _ (n : ℕ) where
  one_byte : (k : ℕ) → packed_to k (figure n) ≡ figure n ∷ []
  one_byte k = packed_end k (figure n) (small n)

  two_bytes : (k : ℕ) → packed_to (suc k) (tens n) ≡ figure (n / 10) ∷ figure n ∷ []
  two_bytes k = packed_front k (figure (n / 10)) (figure n) (small (n / 10)) (some n) (one_byte k)

  three_bytes : (k : ℕ) → packed_to (suc (suc k)) (hundreds n) ≡ figure (n / 10 / 10) ∷ figure (n / 10) ∷ figure n ∷ []
  three_bytes k =
      packed_front (suc k) (figure (n / 10 / 10)) (tens n) (small (n / 10 / 10)) (omega (arith, some (n / 10))) (two_bytes k)

  four_bytes : (k : ℕ) → packed_to (suc (suc (suc k))) (thousands n) ≡ figure (n / 10 / 10 / 10) ∷ figure (n / 10 / 10) ∷ figure (n / 10) ∷ figure n ∷ []
  four_bytes k =
      packed_front (suc (suc k)) (figure (n / 10 / 10 / 10)) (hundreds n) (small (n / 10 / 10 / 10)) (omega (arith, some (n / 10 / 10))) (three_bytes k)

  -- a number from 1,000 on by the digits before the last three
  more : {t : List ℕ} → t ≡ decimal (n / 10 / 10 / 10) → 1000 ≤ n → t ++ (figure (n / 10 / 10) ∷ figure (n / 10) ∷ figure n ∷ []) ≡ decimal n
  more e h = rw e (decimal_thousand n (figure (n / 10 / 10)) (figure (n / 10)) (figure n) refl refl refl h)

  pub ones_packed : n < 10 → packed_text (figure n) ≡ decimal n
  ones_packed h = one_byte 4 ∙ decimal-one n (figure n) refl h

  pub tens_packed : 10 ≤ n → n < 100 → packed_text (tens n) ≡ decimal n
  tens_packed g h = two_bytes 3 ∙ decimal-two n (figure (n / 10)) (figure n) refl refl g h

  pub hundreds_packed : 100 ≤ n → n < 1000 → packed_text (hundreds n) ≡ decimal n
  hundreds_packed g h = three_bytes 2 ∙ decimal_three n (figure (n / 10 / 10)) (figure (n / 10)) (figure n) refl refl refl g h

  pub thousands_packed : 1000 ≤ n → n < 10000 → packed_text (thousands n) ≡ decimal n
  thousands_packed g h = four_bytes 1 ∙ more (decimal-one (n / 10 / 10 / 10) (figure (n / 10 / 10 / 10)) refl (omega arith)) g

  pub myriads_packed : 10000 ≤ n → n < 100000 → packed_text (figure (n / 10 / 10 / 10 / 10) + thousands n * 256) ≡ decimal n
  myriads_packed g h =
      packed_front 3 (figure (n / 10 / 10 / 10 / 10)) (thousands n) (small (n / 10 / 10 / 10 / 10)) (omega (arith, some (n / 10 / 10 / 10))) (four_bytes 0)
      ∙ more
      (decimal-two (n / 10 / 10 / 10) (figure (n / 10 / 10 / 10 / 10)) (figure (n / 10 / 10 / 10)) refl refl (omega arith) (omega arith))
      (omega arith)
