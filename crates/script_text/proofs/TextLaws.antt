-- Texts stored one behind the other, and the numerals of a number.
-- Assumes nothing.
use mathlib.Core.Path.{◌≡◌, refl, sym, ap, subst, ◌∙◌}
use mathlib.Core.Bool.{Bool, true, false}
use mathlib.Core.List.{List, [], ◌∷◌, ◌++◌}
use Prim.Native.Nat.{ℕ, zero, suc, ◌+◌, ◌-◌, ◌*◌, ◌/◌, ◌%◌, ◌^◌, ◌≤◌, ◌<◌}
use native.Mathlib.Nat.{add-zero, add-suc, suc-add, div-lt_self, div-lt_iff_lt-mul, pow-zero, pow-suc}
use native.Mathlib.Omega.{arith}
use lib.Dec.{ltb}
use lib.ListN.{length, set, take, drop, length-append}
use lib.Seq.{sets, sets-eq, take_at, length-take-le}
use borrow.Author.Tests.{lt-ltb, le-ltb, ltb-true, ltb-false}
use Rattle.model.specs.Tests.{pick}
use Rattle.model_script.specs.Script.{glyph, digits_of, numeral}
use Rattle.script_text.specs.declared.Writer.{Writer}
use Rattle.script_text.specs.Writing.{Stores, Writes, pair_of, written}

-- ---- texts one behind the other

sets_joined : (l xs ys : List ℕ) (at : ℕ) → sets l at (xs ++ ys) ≡ sets (sets l at xs) (at + length xs) ys
sets_joined l [] ys at = rw (add-zero at)
sets_joined l (x ∷ xs) ys at = sets_joined (set l at x) xs ys (suc at) ∙ rw (suc-add at (length xs), add-suc at (length xs))

put_nothing : (l : List ℕ) (at : ℕ) → Stores l at [] l at
put_nothing l at = record { next-is = sym (add-zero at); after_is = refl }

puts-joined :
    {l m a xs ys : List ℕ} {at n r : ℕ} → Stores l at xs m n → Stores m n ys a r → Stores l at (xs ++ ys) a r
puts-joined {l} {m} {a} {xs} {ys} {at} {n} {r} p q =
    record {
      next-is = q.next-is ∙ ap (λ x. x + length ys) p.next-is ∙ omega (arith, length-append xs ys);
      after_is = q.after_is ∙ rw (p.after_is, p.next-is) (sym (sets_joined l xs ys at));
    }

-- the text in the first bytes of a buffer, with the text that is stored behind it
text_put : {out behind text : List ℕ} {at r : ℕ} → at ≤ length out → r ≤ length out → Stores out at text behind r → take r behind ≡ take at out ++ text
text_put {out} {behind} {text} {at} {r} h k p =
    let n : length (take at out ++ text) ≡ r = length-append (take at out) text ∙ omega (arith, length-take-le at out h, p.next-is) in
    rw (p.after_is, sets-eq text out at (omega (arith, p.next-is))) (take_at (take at out ++ text) (drop (at + length text) out) r n)

-- ---- texts written one behind the other

pub writes-nothing : (w : Writer) → Writes w w []
writes-nothing w = record { same_buffer = refl; size = refl; stores = put_nothing w.out.now w.at }

pub writes-joined : {u v w : Writer} {xs ys : List ℕ} → Writes u v xs → Writes v w ys → Writes u w (xs ++ ys)
writes-joined p q =
    record {
      same_buffer = q.same_buffer ∙ p.same_buffer;
      size = q.size ∙ p.size;
      stores = puts-joined p.stores q.stores;
    }

-- the same, where the text is known by another name
pub writes_as : {u w : Writer} {xs ys : List ℕ} → xs ≡ ys → Writes u w xs → Writes u w ys
writes_as {u} {w} e p = subst (λ t. Writes u w t) e p

-- the text so far is the one before and what is written behind it
pub written-more : {u w : Writer} {xs : List ℕ} → u.at ≤ length u.out.now → w.at ≤ length u.out.now → Writes u w xs
    → written w ≡ written u ++ xs
written-more h k p = text_put h k p.stores

-- ---- digits

pub glyph-figure : (d : ℕ) → d < 10 → 48 + d ≡ glyph d
unfolding glyph pick
glyph-figure d h = rw (lt-ltb d 10 h)

pub glyph_letter : (d : ℕ) → 10 ≤ d → 97 + (d - 10) ≡ glyph d
unfolding glyph pick
glyph_letter d h = let e : 97 + (d - 10) ≡ 87 + d = omega arith in rw (e, le-ltb d 10 h)

-- ---- numerals in a base of at least 2

module _ (b : ℕ) (t : 2 ≤ b) where
  digits_one : (k n : ℕ) → n < b → digits_of b k n ≡ glyph n ∷ []
  unfolding digits_of
  digits_one zero n h = refl
  digits_one (suc k) n h = rw (lt-ltb n b h, digits_of)

  digits_more : (k n : ℕ) → b ≤ n → digits_of b (suc k) n ≡ digits_of b k (n / b) ++ (glyph (n % b) ∷ [])
  unfolding digits_of
  digits_more k n h = rw (le-ltb n b h, digits_of)

  -- enough digits are as good as more
  digits_same : (k j n : ℕ) → n ≤ k → n ≤ j → digits_of b k n ≡ digits_of b j n
  digits_same zero j n h g = digits_one zero n (omega arith) ∙ sym (digits_one j n (omega arith))
  digits_same (suc k) zero n h g = digits_one (suc k) n (omega arith) ∙ sym (digits_one zero n (omega arith))
  digits_same (suc k) (suc j) n h g = go (ltb n b) refl (λ l. digits_same k j (n / b) (omega arith) (omega arith))
    where
      go : (x : Bool) → ltb n b ≡ x → (n / b < n → digits_of b k (n / b) ≡ digits_of b j (n / b)) → digits_of b (suc k) n ≡ digits_of b (suc j) n
      go true e f = digits_one (suc k) n (ltb-true n b e) ∙ sym (digits_one (suc j) n (ltb-true n b e))
      go false e f =
          let l = ltb-false n b e in
          digits_more k n l ∙ ap (λ x. x ++ (glyph (n % b) ∷ [])) (f (div-lt_self {n = n} {k = b} (omega arith) (omega arith))) ∙ sym (digits_more j n l)

  pub numeral-one : (n : ℕ) → n < b → numeral b n ≡ glyph n ∷ []
  unfolding numeral
  numeral-one n h = digits_one n n h

  pub numeral_more : (n : ℕ) → b ≤ n → numeral b n ≡ numeral b (n / b) ++ (glyph (n % b) ∷ [])
  unfolding numeral
  numeral_more zero h = absurd (omega arith)
  numeral_more (suc m) h =
      let l : suc m / b < suc m = div-lt_self {n = suc m} {k = b} (omega arith) (omega arith) in
      digits_more m (suc m) h ∙ ap (λ x. x ++ (glyph (suc m % b) ∷ [])) (digits_same m (suc m / b) (suc m / b) (omega arith) (omega arith))

  pub numeral_longer : (n : ℕ) → b ≤ n → length (numeral b n) ≡ length (numeral b (n / b)) + 1
  numeral_longer n h = ap length (numeral_more n h) ∙ length-append (numeral b (n / b)) (glyph (n % b) ∷ [])

  -- a number below b to the power k + 1 has at most k + 1 digits
  pub numeral-length : (k n : ℕ) → n < b ^ suc k → length (numeral b n) ≤ suc k
  numeral-length zero n h =
      let g : n < 1 * b = rw (pow-suc b 0, pow-zero b) at h in
      rw (numeral-one n (omega arith)) (omega arith)
  numeral-length (suc k) n h = go (ltb n b) refl (λ l. numeral-length k (n / b) l)
    where
      go : (x : Bool) → ltb n b ≡ x → (n / b < b ^ suc k → length (numeral b (n / b)) ≤ suc k) → length (numeral b n) ≤ suc (suc k)
      go true e f = rw (numeral-one n (ltb-true n b e)) (omega arith)
      go false e f =
          let i = f ((div-lt_iff_lt-mul {k = b} {x = n} {y = b ^ suc k} (omega arith)).1 (rw (pow-suc b (suc k)) at h)) in
          rw (numeral_longer n (ltb-false n b e)) (omega arith)

-- ---- hexadecimal numerals by bytes

pub two≤10 : 2 ≤ 10
two≤10 = omega arith

pub two≤16 : 2 ≤ 16
two≤16 = omega arith

pub byte_pair : (d : ℕ) → 16 ≤ d → d < 256 → pair_of d ≡ numeral 16 d
unfolding pair_of
byte_pair d h l = sym (numeral_more 16 two≤16 d h ∙ rw (numeral-one 16 two≤16 (d / 16) (omega arith)))
