-- A turned table has the bits of the table, and turned again is the table.
-- Assumes nothing.
use mathlib.Core.Path.{◌≡◌, refl, sym, ap, ◌∙◌, subst}
use mathlib.Core.Bool.{true}
use mathlib.Core.List.{List, [], ◌∷◌}
use Prim.Native.Nat.{ℕ, zero, suc, ◌*◌, ◌/◌, ◌%◌, ◌^◌, ◌<◌}
use native.Mathlib.Nat.{zero-add, mul-zero, mul-suc, mul_comm, mul_assoc, mod-lt, pow-suc}
use native.Mathlib.Omega.{arith}
use lib.Dec.{ltb, lit<}
use lib.Pow.{are_bytes, pow-add}
use lib.ListN.{length, drop}
use borrow.Author.Tests.{lt-ltb, ltb-true}
use Rattle.model.specs.Sets.{has}
use Rattle.model.specs.Bytes.{number, bytes_of}
use Rattle.model.specs.Run.{line_at}
use Rattle.model_laws.proofs.Bools.{and_l, and_r, both}
use Rattle.model_laws.proofs.LineLaws.{length-bytes_of}
use Rattle.model_laws.proofs.LedgerLaws.{line_at-length}
use Rattle.model_laws.proofs.RoundTrip.{bytes_number, number_bytes, bytes_take, bytes_drop}
use Rattle.model_laws.proofs.LowestLaws.{set_of_below}
use Rattle.grant_table_turned.specs.Turned.{row_at, having, turn, turned, unturned, Turns}
use Rattle.grant_table_words.proofs.SetTests.{set_of_bit, set_of-members}
use Rattle.grant_table_turned.proofs.Rows.{length-joined, line-joined, lines-joined, joined_bytes}

-- what is written of a number is bytes
pub bytes_of_bytes : (n v : ℕ) → are_bytes (bytes_of n v) ≡ true
unfolding bytes_of
bytes_of_bytes zero v = refl
bytes_of_bytes (suc n) v = both (ltb (v % 256) 256) (are_bytes (bytes_of n (v / 256))) (lt-ltb (v % 256) 256 (mod-lt v (lit< tt))) (bytes_of_bytes n (v / 256))

-- n bytes are 8 * n bits
power-next : (n : ℕ) → 2 ^ (8 * suc n) ≡ 2 ^ (8 * n) * 256
power-next n = ap (λ (x : ℕ). 2 ^ x) (mul-suc 8 n) ∙ pow-add 2 (8 * n) 8

pub powers : (n : ℕ) → 256 ^ n ≡ 2 ^ (8 * n)
powers zero = refl
powers (suc n) = pow-suc 256 n ∙ ap (λ (x : ℕ). x * 256) (powers n) ∙ sym (power-next n)

pub number_lt : (bs : List ℕ) → are_bytes bs ≡ true → number bs < 2 ^ (8 * length bs)
unfolding number
number_lt [] h = lit< tt
number_lt (b ∷ bs) h =
    omega (arith, ltb-true b 256 (and_l (ltb b 256) (are_bytes bs) h), number_lt bs (and_r (ltb b 256) (are_bytes bs) h), power-next (length bs))

-- as many bytes either way
pub same_size : (z w : ℕ) → w * (8 * z) ≡ z * (8 * w)
same_size z w = sym (mul_assoc w 8 z) ∙ mul_comm (w * 8) z ∙ ap (λ (x : ℕ). z * x) (mul_comm w 8)

-- row k of a turned table, in bytes
turned_row : ℕ → ℕ → List ℕ → ℕ → List ℕ
turned_row z w bs k = bytes_of w (having z (8 * w) bs k)

row_size_lem : (z w : ℕ) (bs : List ℕ) (k : ℕ) → length (turned_row z w bs k) ≡ w
unfolding turned_row
row_size_lem z w bs k = length-bytes_of w (having z (8 * w) bs k)

-- the size is that of the rows
pub turn-length : (z w : ℕ) (bs : List ℕ) → length (turn z w bs) ≡ w * (8 * z)
unfolding turn turned_row
turn-length z w bs = length-joined (turned_row z w bs) w (row_size_lem z w bs) 0 (8 * z)

module _ (z w : ℕ) (bs : List ℕ) (h : are_bytes bs ≡ true) (n : length bs ≡ z * (8 * w)) where
  -- the set of the rows that have k
  pub row-turned : (k : ℕ) → k < 8 * z → row_at w (turn z w bs) k ≡ having z (8 * w) bs k
  unfolding row_at turn turned_row
  row-turned k i =
      ap number (line-joined (turned_row z w bs) w (row_size_lem z w bs) 0 (8 * z) k i ∙ ap (turned_row z w bs) (zero-add k))
      ∙ number_bytes w (having z (8 * w) bs k)
      (subst (λ (x : ℕ). having z (8 * w) bs k < x) (sym (powers w)) (unfold having in (set_of_below (λ r. has (row_at z bs r) k) (8 * w))))

  bit : (r k : ℕ) → r < 8 * w → k < 8 * z → has (row_at w (turn z w bs) k) r ≡ has (row_at z bs r) k
  bit r k i j = ap (λ (x : ℕ). has x r) (row-turned k j) ∙ unfold having in (set_of_bit (λ r. has (row_at z bs r) k) (8 * w) r i)

  -- a row of the table, in bytes and as a set
  line_size_lem : (r : ℕ) → r < 8 * w → length (line_at z r bs) ≡ z
  line_size_lem r i = line_at-length z r (8 * w) bs n i

  line_bytes_lem : (r : ℕ) → are_bytes (line_at z r bs) ≡ true
  unfolding line_at
  line_bytes_lem r = bytes_take z (drop (z * r) bs) (bytes_drop (z * r) bs h)

  row_small : (r : ℕ) → r < 8 * w → row_at z bs r < 2 ^ (8 * z)
  unfolding row_at
  row_small r i = subst (λ (x : ℕ). number (line_at z r bs) < 2 ^ (8 * x)) (line_size_lem r i) (number_lt (line_at z r bs) (line_bytes_lem r))

  -- turned again
  row_back : (r : ℕ) → r < 8 * w → having w (8 * z) (turn z w bs) r ≡ row_at z bs r
  unfolding having
  row_back r i = set_of-members (8 * z) (row_at z bs r) (row_small r i) (λ k. has (row_at w (turn z w bs) k) r) (λ k j. bit r k i j)

  line_back : (r : ℕ) → r < 8 * w → bytes_of z (having w (8 * z) (turn z w bs) r) ≡ line_at z r bs
  unfolding row_at
  line_back r i =
      ap (bytes_of z) (row_back r i)
      ∙ subst (λ (x : ℕ). bytes_of x (number (line_at z r bs)) ≡ line_at z r bs) (line_size_lem r i) (bytes_number (line_at z r bs) (line_bytes_lem r))

  back : turn w z (turn z w bs) ≡ bs
  back =
      unfold turn in
      (lines-joined (λ r. bytes_of z (having w (8 * z) (turn z w bs) r)) z bs (8 * w) 0 (n ∙ ap (λ (x : ℕ). z * x) (sym (zero-add (8 * w))))
      (λ r l i. line_back r (omega (arith, zero-add (8 * w))))
      ∙ ap (λ (x : ℕ). drop x bs) (mul-zero z))

  pub turns : Turns z w bs
  turns =
      record {
        size = turn-length z w bs ∙ same_size z w ∙ sym n;
        are_bytes_lem = unfold turn in (joined_bytes (λ k. bytes_of w (having z (8 * w) bs k)) (λ k. bytes_of_bytes w (having z (8 * w) bs k)) 0 (8 * z));
        bit = bit;
        back = back;
      }

-- for every 2,048 bytes: turned and unturned, and unturned and turned
pub turned_back : (bs : List ℕ) → are_bytes bs ≡ true → length bs ≡ 2048 → unturned (turned bs) ≡ bs
turned_back bs h n = (turns 32 8 bs h n).back

pub unturned_back : (bs : List ℕ) → are_bytes bs ≡ true → length bs ≡ 2048 → turned (unturned bs) ≡ bs
unturned_back bs h n = (turns 8 32 bs h n).back
