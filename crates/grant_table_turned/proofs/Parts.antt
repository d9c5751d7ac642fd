-- A table turned back: each row of 256 bits from four words.
-- Assumes nothing.
use mathlib.Core.Path.{◌≡◌, refl, sym, ap, ap₂, ◌∙◌}
use mathlib.Core.Bool.{Bool}
use mathlib.Core.List.{List, [], ◌∷◌, ◌++◌, append-nil}
use Prim.Native.Nat.{ℕ, zero, suc, ◌+◌, ◌*◌, ◌/◌, ◌%◌, ◌^◌, ◌≤◌, ◌<◌}
use native.Mathlib.Nat.{mul-suc, mod-lt, div-one, zero-add, suc-add}
use native.Mathlib.Omega.{arith}
use lib.Pow.{pow_pos, shr-shr, mod-mod-pow, field}
use lib.ListN.{length, get_or, take, drop, drop_of_length-le}
use Rattle.model.specs.Sets.{has, set_of}
use Rattle.model.specs.Bytes.{number, bytes_of}
use Rattle.model.specs.Run.{line_at}
use Rattle.model_laws.proofs.SetLaws.{has_low, has_high, same_members}
use Rattle.model_laws.proofs.LineLaws.{length-bytes_of}
use mir.Syntax.{w64}
use mir.Val.{Fits}
use Rattle.sets.specs.Words.{value}
use Rattle.sets.proofs.Machine.{value-has}
use Rattle.octets.specs.Splice.{splice, number_at, bytes_of_all}
use Rattle.grant_table_turned.specs.Turned.{row_at, having, joined, turn, unturned}
use Rattle.grant_table_words.specs.Stages.{column_of, Transposed}
use Rattle.grant_table_turned.specs.Columns.{Numbers, Part}
use Rattle.grant_table_words.proofs.SetTests.{set_of_bit, set_of-members, set_of_same}
use Rattle.grant_table_turned.proofs.Rows.{joined_put}
use Rattle.grant_table_turned.proofs.Words.{all-joined}

-- ---- 64 of the rows, transposed
pub part_is : (src : List ℕ) (w : ℕ) (words rows : List ℕ) → Numbers src (512 * w) 8 words → Transposed words rows → Part src w rows
unfolding column_of row_at line_at number_at
part_is src w words rows g t r h =
    t r h
    ∙ set_of_same (λ i. has (get_or words i 0) r) (λ i. has (number (take 8 (drop (8 * (64 * w + i)) src))) r) 64
    (λ i k. let e : 512 * w + 8 * i ≡ 8 * (64 * w + i) = omega arith in
    ap (λ (x : ℕ). has x r) (g i k ∙ ap (λ (x : ℕ). number (take 8 (drop x src))) e))

-- ---- the bytes of a number, by its words

-- the first k bytes, and n more
bytes_of_more : (k n v : ℕ) → bytes_of (k + n) v ≡ bytes_of k v ++ bytes_of n (v / 2 ^ (8 * k))
unfolding bytes_of
bytes_of_more zero n v = ap₂ {C = List ℕ} (λ (x y : ℕ). bytes_of x y) (zero-add n) (sym (div-one v))
bytes_of_more (suc k) n v =
    let e : 8 + 8 * k ≡ 8 * suc k = omega (arith, mul-suc 8 k) in
    ap (λ (x : ℕ). bytes_of x v) (suc-add k n)
    ∙ ap (λ (x : List ℕ). v % 256 ∷ x)
    (bytes_of_more k n (v / 256) ∙ ap (λ (x : ℕ). bytes_of k (v / 256) ++ bytes_of n x) (shr-shr v 8 (8 * k) ∙ ap (λ (x : ℕ). v / 2 ^ x) e))

-- higher digits have no say in them
pub bytes_of_low : (k v : ℕ) → bytes_of k v ≡ bytes_of k (v % 2 ^ (8 * k))
unfolding bytes_of
bytes_of_low zero v = refl
bytes_of_low (suc k) v =
    let e : 8 * suc k ≡ 8 * k + 8 = mul-suc 8 k in
    ap₂ {C = List ℕ} (λ (x : ℕ) (xs : List ℕ). x ∷ xs)
    (sym (mod-mod-pow v (8 * k) 8) ∙ ap (λ (x : ℕ). v % 2 ^ x % 256) (sym e))
    (bytes_of_low k (v / 256) ∙ ap (bytes_of k) (sym (field v (8 * k) 8) ∙ ap (λ (x : ℕ). v % 2 ^ x / 256) (sym e)))

-- word w of a number
word_at : ℕ → ℕ → ℕ
word_at v w = v / 2 ^ (64 * w) % 2 ^ 64

bytes_of-words : (v n w : ℕ) → bytes_of (8 * n) (v / 2 ^ (64 * w)) ≡ joined (λ w. bytes_of 8 (word_at v w)) w n
unfolding joined word_at
bytes_of-words v zero w = unfold bytes_of in refl
bytes_of-words v (suc n) w =
    let e : 8 * suc n ≡ 8 + 8 * n = omega (arith, mul-suc 8 n) in
    let q : 64 * w + 64 ≡ 64 * suc w = omega (arith, mul-suc 64 w) in
    ap (λ (x : ℕ). bytes_of x (v / 2 ^ (64 * w))) e
    ∙ bytes_of_more 8 (8 * n) (v / 2 ^ (64 * w))
    ∙ ap₂ {C = List ℕ} (λ (x y : List ℕ). x ++ y) (bytes_of_low 8 (v / 2 ^ (64 * w)))
    (ap (bytes_of (8 * n)) (shr-shr v (64 * w) 64 ∙ ap (λ (x : ℕ). v / 2 ^ x) q) ∙ bytes_of-words v n (suc w))

-- word w of a set of 256
word_set : (f : ℕ → Bool) (w : ℕ) → w < 4 → word_at (set_of f 256) w ≡ set_of (λ i. f (64 * w + i)) 64
unfolding word_at
word_set f w l =
    let v = set_of f 256 in
    sym (set_of-members 64 (v / 2 ^ (64 * w) % 2 ^ 64) (mod-lt (v / 2 ^ (64 * w)) (pow_pos 64)) (λ i. f (64 * w + i))
    (λ i k. sym (has_low (v / 2 ^ (64 * w)) 64 i k ∙ sym (has_high v (64 * w) i) ∙ set_of_bit f 256 (64 * w + i) (omega arith))))

-- ---- a row of four words

-- word w of the set that the words hold
word_value : (ws : List ℕ) → ((i : ℕ) → Fits w64 (get_or ws i 0)) → (w : ℕ) → w < 4 → get_or ws w 0 ≡ word_at (value ws) w
unfolding word_at
word_value ws fit w l =
    let v = value ws in
    same_members 64 (get_or ws w 0) (v / 2 ^ (64 * w) % 2 ^ 64) (fit w).fits (mod-lt (v / 2 ^ (64 * w)) (pow_pos 64))
    (λ i k. value-has ws fit (64 * w + i) w i (record { whole = omega arith; inside = l; small = k })
    ∙ has_high v (64 * w) i ∙ sym (has_low (v / 2 ^ (64 * w)) 64 i k))

-- its bytes are those of the set
pub row_bytes_lem : (ws : List ℕ) → length ws ≡ 4 → ((i : ℕ) → Fits w64 (get_or ws i 0)) → bytes_of_all ws ≡ bytes_of 32 (value ws)
row_bytes_lem ws n fit =
    let v = value ws in
    all-joined ws (word_at v) 0 (λ i l. word_value ws fit i (omega arith) ∙ ap (word_at v) (sym (zero-add i)))
    ∙ ap (joined (λ w. bytes_of 8 (word_at v w)) 0) n
    ∙ sym (bytes_of-words v 4 0) ∙ ap (bytes_of 32) (div-one v)

-- ---- a target filled row by row
module _ (src room : List ℕ) where
  -- row r of the table turned back
  back_row : ℕ → List ℕ
  back_row r = bytes_of 32 (having 8 256 src r)

  back_size : (r : ℕ) → length (back_row r) ≡ 32
  unfolding back_row
  back_size r = length-bytes_of 32 (having 8 256 src r)

  -- its four words are those of the four parts
  four_words_lem : (a b c d : List ℕ) → Part src 0 a → Part src 1 b → Part src 2 c → Part src 3 d → (r : ℕ) → r < 64
      → bytes_of_all (get_or a r 0 ∷ get_or b r 0 ∷ get_or c r 0 ∷ get_or d r 0 ∷ []) ≡ back_row r
  unfolding back_row having
  four_words_lem a b c d pa pb pc pd r h =
      let f : ℕ → Bool = λ k. has (row_at 8 src k) r in
      let v : ℕ = set_of f 256 in
      all-joined (get_or a r 0 ∷ get_or b r 0 ∷ get_or c r 0 ∷ get_or d r 0 ∷ []) (word_at v) 0
      (words (λ w x. x ≡ word_at v w) (pa r h ∙ sym (word_set f 0 (omega arith))) (pb r h ∙ sym (word_set f 1 (omega arith)))
      (pc r h ∙ sym (word_set f 2 (omega arith))) (pd r h ∙ sym (word_set f 3 (omega arith))))
      ∙ sym (bytes_of-words v 4 0) ∙ ap (bytes_of 32) (div-one v)
    where
      words : (P : ℕ → ℕ → Type 0) → P 0 (get_or a r 0) → P 1 (get_or b r 0) → P 2 (get_or c r 0) → P 3 (get_or d r 0)
          → (i : ℕ) → i < 4 → P (0 + i) (get_or (get_or a r 0 ∷ get_or b r 0 ∷ get_or c r 0 ∷ get_or d r 0 ∷ []) i 0)
      words P p q s t zero l = p
      words P p q s t (suc zero) l = q
      words P p q s t (suc (suc zero)) l = s
      words P p q s t (suc (suc (suc zero))) l = t
      words P p q s t (suc (suc (suc (suc i)))) l = absurd (omega arith)

  -- the first r rows are in place, and behind them the target is as it was
  pub back_to : ℕ → List ℕ
  back_to r = joined back_row 0 r ++ drop (32 * r) room

  pub back_start : room ≡ back_to 0
  unfolding back_to joined
  back_start = refl

  pub back_next : (a b c d : List ℕ) → Part src 0 a → Part src 1 b → Part src 2 c → Part src 3 d → (r : ℕ) → r < 64 → (s t : List ℕ)
      → s ≡ back_to r → t ≡ splice s (32 * r) (bytes_of_all (get_or a r 0 ∷ get_or b r 0 ∷ get_or c r 0 ∷ get_or d r 0 ∷ [])) → t ≡ back_to (r + 1)
  unfolding back_to
  back_next a b c d pa pb pc pd r h s t e q =
      q ∙ ap (splice s (32 * r)) (four_words_lem a b c d pa pb pc pd r h ∙ sym (append-nil (back_row r)))
      ∙ unfold joined in (joined_put back_row 32 back_size room s r 1 e)

  pub back_last : length room ≡ 2048 → (r : ℕ) → r ≤ 64 → 64 ≤ r → (s : List ℕ) → s ≡ back_to r → s ≡ unturned src
  unfolding back_to back_row turn
  back_last n r a b s e =
      let q : r ≡ 64 = omega arith in
      e ∙ ap (λ (x : ℕ). joined back_row 0 x ++ drop (32 * x) room) q
      ∙ ap (λ (x : List ℕ). joined back_row 0 64 ++ x) (drop_of_length-le room {i = 2048} (omega arith)) ∙ append-nil (joined back_row 0 64)
