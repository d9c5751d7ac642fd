-- Rows of bytes as 64-bit words.
-- Assumes nothing.
use mathlib.Core.Path.{◌≡◌, refl, sym, ap, ap₂, ◌∙◌}
use mathlib.Core.Bool.{true}
use mathlib.Core.List.{List, [], ◌∷◌, ◌++◌, append-nil}
use Prim.Native.Nat.{ℕ, zero, suc, ◌+◌, ◌*◌, ◌/◌, ◌%◌, ◌^◌, ◌≤◌, ◌<◌}
use native.Mathlib.Nat.{mul-suc, div-one, mod-one, mod-eq_of_lt, div-eq_of_lt, zero-add, add-zero, add-suc, suc-add}
use native.Mathlib.Omega.{arith}
use lib.Dec.{ltb}
use lib.Pow.{are_bytes, pow_pos, shr-shr, mod-pow-add}
use lib.ListN.{length, get_or, take, drop, drop_of_length-le}
use lib.Seq.{drop-drop}
use borrow.Author.Tests.{ltb-true}
use Rattle.model.specs.Sets.{has}
use Rattle.model.specs.Bytes.{number, bytes_of}
use Rattle.model.specs.Run.{line_at}
use Rattle.model_laws.proofs.Bools.{and_l, and_r}
use Rattle.model_laws.proofs.SetLaws.{has_low, has_high}
use Rattle.model_laws.proofs.LineLaws.{length-bytes_of}
use Rattle.model_laws.proofs.RoundTrip.{bytes_drop}
use Rattle.octets.specs.Splice.{splice, number_at, bytes_of_all}
use Rattle.grant_table_turned.specs.Turned.{row_at, having, joined, turn, turned}
use Rattle.grant_table_words.specs.Stages.{column_of, Transposed}
use Rattle.grant_table_turned.specs.Columns.{Numbers, turned_bytes}
use Rattle.grant_table_words.proofs.SetTests.{set_of_same}
use Rattle.grant_table_turned.proofs.Rows.{joined_put}

-- ---- the first n bytes, and those behind
pub number-drop : (n : ℕ) (bs : List ℕ) → are_bytes bs ≡ true → number (drop n bs) ≡ number bs / 2 ^ (8 * n)
unfolding number
number-drop zero bs h = sym (div-one (number bs))
number-drop (suc n) [] h = sym (div-eq_of_lt (pow_pos (8 * suc n)))
number-drop (suc n) (b ∷ bs) h =
    let k = ltb-true b 256 (and_l (ltb b 256) (are_bytes bs) h) in
    let e : (b + 256 * number bs) / 256 ≡ number bs = omega arith in
    number-drop n bs (and_r (ltb b 256) (are_bytes bs) h)
    ∙ ap (λ (x : ℕ). x / 2 ^ (8 * n)) (sym e)
    ∙ shr-shr (b + 256 * number bs) 8 (8 * n)
    ∙ ap (λ (x : ℕ). (b + 256 * number bs) / 2 ^ x) (omega (arith, mul-suc 8 n))

pub number-take : (n : ℕ) (bs : List ℕ) → are_bytes bs ≡ true → number (take n bs) ≡ number bs % 2 ^ (8 * n)
unfolding number
number-take zero bs h = sym (mod-one (number bs))
number-take (suc n) [] h = sym (mod-eq_of_lt (pow_pos (8 * suc n)))
number-take (suc n) (b ∷ bs) h =
    let k = ltb-true b 256 (and_l (ltb b 256) (are_bytes bs) h) in
    let e : (b + 256 * number bs) / 256 ≡ number bs = omega arith in
    let f : (b + 256 * number bs) % 256 ≡ b = omega arith in
    let ih = number-take n bs (and_r (ltb b 256) (are_bytes bs) h) in
    let m : ℕ = b + 256 * number bs in
    let g : b + 256 * (m / 256 % 2 ^ (8 * n)) ≡ m % 2 ^ (8 * n + 8) = omega (arith, mod-pow-add m (8 * n) 8) in
    ap (λ (x : ℕ). b + 256 * x) (ih ∙ ap (λ (x : ℕ). x % 2 ^ (8 * n)) (sym e)) ∙ g ∙ ap (λ (x : ℕ). m % 2 ^ x) (sym (mul-suc 8 n))

-- word w of z bytes has their bits from 64 * w on
pub word_bit : (z w i : ℕ) (bs : List ℕ) → are_bytes bs ≡ true → i < 64 → 64 * w + i < 8 * z
    → has (number (take 8 (drop (8 * w) bs))) i ≡ has (number (take z bs)) (64 * w + i)
word_bit z w i bs h l k =
    ap (λ (x : ℕ). has x i) (number-take 8 (drop (8 * w) bs) (bytes_drop (8 * w) bs h))
    ∙ has_low (number (drop (8 * w) bs)) 64 i l
    ∙ ap (λ (x : ℕ). has x i) (number-drop (8 * w) bs h)
    ∙ sym (has_high (number bs) (8 * (8 * w)) i)
    ∙ ap (has (number bs)) (omega arith)
    ∙ sym (has_low (number bs) (8 * z) (64 * w + i) k)
    ∙ sym (ap (λ (x : ℕ). has x (64 * w + i)) (number-take z bs h))

-- ---- numbers written one behind another
pub all-joined : (vs : List ℕ) (v : ℕ → ℕ) (k : ℕ) → ((i : ℕ) → i < length vs → get_or vs i 0 ≡ v (k + i))
    → bytes_of_all vs ≡ joined (λ k. bytes_of 8 (v k)) k (length vs)
unfolding bytes_of_all joined
all-joined [] v k h = refl
all-joined (x ∷ vs) v k h =
    ap₂ {C = List ℕ} (λ (a b : List ℕ). a ++ b) (ap (bytes_of 8) (h 0 (omega arith) ∙ ap v (add-zero k)))
    (all-joined vs v (suc k) (λ i l. h (suc i) (omega arith) ∙ ap v (add-suc k i ∙ sym (suc-add k i))))

-- lists by number that are the same, one behind another
joined_same : (f g : ℕ → List ℕ) (k l n : ℕ) → ((i : ℕ) → i < n → f (k + i) ≡ g (l + i)) → joined f k n ≡ joined g l n
unfolding joined
joined_same f g k l zero h = refl
joined_same f g k l (suc n) h =
    ap₂ {C = List ℕ} (λ (a b : List ℕ). a ++ b) (ap f (sym (add-zero k)) ∙ h 0 (omega arith) ∙ ap g (add-zero l))
    (joined_same f g (suc k) (suc l) n
    (λ i x. ap f (suc-add k i ∙ sym (add-suc k i)) ∙ h (suc i) (omega arith) ∙ ap g (add-suc l i ∙ sym (suc-add l i))))

-- the rows of a column transposed, as they are written
pub column_bytes : (words rows s t : List ℕ) (at : ℕ) → t ≡ splice s at (bytes_of_all rows) → Transposed words rows → length rows ≡ 64
    → t ≡ splice s at (turned_bytes words)
unfolding turned_bytes
column_bytes words rows s t at e x n =
    e ∙ ap (splice s at) (all-joined rows (column_of words) 0 (λ i l. x i (omega arith) ∙ ap (column_of words) (sym (zero-add i)))
    ∙ ap (joined (λ k. bytes_of 8 (column_of words k)) 0) n)

-- ---- a table turned, 64 of its 256 rows at a time
module _ (src : List ℕ) (h : are_bytes src ≡ true) (w : ℕ) (l : w < 4) where
  -- the words w of the rows, transposed, are the turned rows from 64 * w on
  pub column_turned : (a : List ℕ) → Numbers src (8 * w) 32 a → (i : ℕ) → i < 64
      → column_of a i ≡ having 32 64 src (64 * w + i)
  unfolding column_of having row_at line_at number_at
  column_turned a e i k =
      set_of_same (λ r. has (get_or a r 0) i) (λ r. has (number (take 32 (drop (32 * r) src))) (64 * w + i)) 64
      (λ r m. let p : 8 * w + 32 * r ≡ 32 * r + 8 * w = omega arith in
      ap (λ (x : ℕ). has x i) (e r m ∙ ap (λ (x : ℕ). number (take 8 (drop x src))) p
      ∙ ap (λ (x : List ℕ). number (take 8 x)) (sym (drop-drop (8 * w) (32 * r) src)))
      ∙ word_bit 32 w i (drop (32 * r) src) (bytes_drop (32 * r) src h) k (omega arith))

-- ---- a target filled with 64 turned rows at a time
module _ (src room : List ℕ) where
  -- row k of the turned table
  turned_row : ℕ → List ℕ
  turned_row k = bytes_of 8 (having 32 64 src k)

  row_size_lem : (k : ℕ) → length (turned_row k) ≡ 8
  unfolding turned_row
  row_size_lem k = length-bytes_of 8 (having 32 64 src k)

  -- the first 64 * w rows are in place, and behind them the target is as it was
  pub turned_to : ℕ → List ℕ
  turned_to w = joined turned_row 0 (64 * w) ++ drop (512 * w) room

  pub turn-start : room ≡ turned_to 0
  unfolding turned_to joined
  turn-start = refl

  pub turn-next : are_bytes src ≡ true → (w : ℕ) → w < 4 → (words s t : List ℕ) → Numbers src (8 * w) 32 words
      → s ≡ turned_to w → t ≡ splice s (512 * w) (turned_bytes words) → t ≡ turned_to (w + 1)
  unfolding turned_to turned_row turned_bytes
  turn-next h w l words s t c e d =
      let p : 512 * w ≡ 8 * (64 * w) = omega arith in
      let q : 64 * w + 64 ≡ 64 * (w + 1) = omega arith in
      let o : 8 * (64 * w + 64) ≡ 512 * (w + 1) = omega arith in
      d ∙ ap₂ {C = List ℕ} (λ (x : ℕ) (y : List ℕ). splice s x y) p
      (joined_same (λ k. bytes_of 8 (column_of words k)) (λ k. bytes_of 8 (having 32 64 src k)) 0 (64 * w) 64
      (λ i k. ap (bytes_of 8) (ap (column_of words) (zero-add i) ∙ column_turned src h w l words c i k)))
      ∙ joined_put turned_row 8 row_size_lem room s (64 * w) 64 (e ∙ ap (λ (x : ℕ). joined turned_row 0 (64 * w) ++ drop x room) p)
      ∙ ap₂ {C = List ℕ} (λ (x y : ℕ). joined turned_row 0 x ++ drop y room) q o

  pub turn_last : length room ≡ 2048 → (w : ℕ) → w ≤ 4 → 4 ≤ w → (s : List ℕ) → s ≡ turned_to w → s ≡ turned src
  unfolding turned_to turned_row turn
  turn_last n w a b s e =
      let q : w ≡ 4 = omega arith in
      e ∙ ap (λ (x : ℕ). joined turned_row 0 (64 * x) ++ drop (512 * x) room) q
      ∙ ap (λ (x : List ℕ). joined turned_row 0 256 ++ x) (drop_of_length-le room {i = 2048} (omega arith)) ∙ append-nil (joined turned_row 0 256)
