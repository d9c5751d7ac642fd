-- Lists of equal length one behind another.
-- Assumes nothing.
use mathlib.Core.Path.{◌≡◌, refl, sym, ap, ap₂, ◌∙◌}
use mathlib.Core.Bool.{true}
use mathlib.Core.List.{List, [], ◌∷◌, ◌++◌, append_assoc}
use Prim.Native.Nat.{ℕ, zero, suc, ◌+◌, ◌*◌, ◌≤◌, ◌<◌}
use native.Mathlib.Nat.{mul-suc, mul-add, mul-zero, add-zero, add-suc, suc-add, zero-add}
use native.Mathlib.Omega.{arith}
use lib.Dec.{ltb}
use lib.Pow.{are_bytes}
use lib.ListN.{length, take, drop, length-append, take-append-drop}
use lib.Seq.{take_at, drop-append-add, drop-drop, drop-length}
use Rattle.model.specs.Run.{line_at}
use Rattle.model_laws.proofs.Bools.{and_l, and_r, both}
use Rattle.octets.specs.Splice.{splice}
use Rattle.grant_table_turned.specs.Turned.{joined}

-- ---- lists of z elements one behind another
module _ (f : ℕ → List ℕ) (z : ℕ) (size : (k : ℕ) → length (f k) ≡ z) where
  pub length-joined : (k n : ℕ) → length (joined f k n) ≡ z * n
  unfolding joined
  length-joined k zero = sym (mul-zero z)
  length-joined k (suc n) = simp (length-append, length-joined (suc k) n) (omega (arith, mul-suc z n, size k))

  -- the i-th
  pub line-joined : (k n i : ℕ) → i < n → line_at z i (joined f k n) ≡ f (k + i)
  unfolding joined line_at
  line-joined k zero i h = absurd (omega arith)
  line-joined k (suc n) zero h =
      ap (λ (x : ℕ). take z (drop x (f k ++ joined f (suc k) n))) (mul-zero z)
      ∙ take_at (f k) (joined f (suc k) n) z (size k) ∙ ap f (sym (add-zero k))
  line-joined k (suc n) (suc i) h =
      let e : z * suc i ≡ length (f k) + z * i = omega (arith, mul-suc z i, size k) in
      ap (λ (x : ℕ). take z (drop x (f k ++ joined f (suc k) n))) e
      ∙ ap (take z) (drop-append-add (f k) (joined f (suc k) n) (z * i))
      ∙ line-joined (suc k) n i (omega arith) ∙ ap f (suc-add k i ∙ sym (add-suc k i))

-- the lines of a list from the k-th on make the rest of the list
pub lines-joined : (f : ℕ → List ℕ) (z : ℕ) (bs : List ℕ) (n k : ℕ) → length bs ≡ z * (k + n)
    → ((i : ℕ) → k ≤ i → i < k + n → f i ≡ line_at z i bs) → joined f k n ≡ drop (z * k) bs
unfolding joined
lines-joined f z bs zero k e h = sym (ap (λ (x : ℕ). drop x bs) (ap (λ (x : ℕ). z * x) (sym (add-zero k)) ∙ sym e) ∙ drop-length bs)
lines-joined f z bs (suc n) k e h =
    let s : k + suc n ≡ suc k + n = add-suc k n ∙ sym (suc-add k n) in
    ap₂ {C = List ℕ} (λ (x y : List ℕ). x ++ y) (h k (omega arith) (omega arith))
    (lines-joined f z bs n (suc k) (e ∙ ap (λ (x : ℕ). z * x) s) (λ i m l. h i (omega arith) (omega arith))
    ∙ ap (λ (x : ℕ). drop x bs) (mul-suc z k) ∙ sym (drop-drop z (z * k) bs))
    ∙ unfold line_at in (take-append-drop z (drop (z * k) bs))

-- the same lists make the same
pub joined_same : (f g : ℕ → List ℕ) → ((k : ℕ) → f k ≡ g k) → (k n : ℕ) → joined f k n ≡ joined g k n
unfolding joined
joined_same f g h k zero = refl
joined_same f g h k (suc n) = ap₂ {C = List ℕ} (λ (x y : List ℕ). x ++ y) (h k) (joined_same f g h (suc k) n)

-- k of them, and n more behind
pub joined-more : (f : ℕ → List ℕ) (u k n : ℕ) → joined f u (k + n) ≡ joined f u k ++ joined f (u + k) n
unfolding joined
joined-more f u zero n = ap (joined f u) (zero-add n) ∙ ap (λ (x : ℕ). joined f x n) (sym (add-zero u))
joined-more f u (suc k) n =
    ap (joined f u) (suc-add k n)
    ∙ ap (λ (x : List ℕ). f u ++ x) (joined-more f (suc u) k n ∙ ap (λ (x : ℕ). joined f (suc u) k ++ joined f x n) (suc-add u k ∙ sym (add-suc u k)))
    ∙ sym (append_assoc (f u) (joined f (suc u) k) (joined f (u + suc k) n))

-- put in place behind the first k, in a list of room for all
pub joined_put : (f : ℕ → List ℕ) (z : ℕ) → ((k : ℕ) → length (f k) ≡ z) → (room s : List ℕ) (k n : ℕ)
    → s ≡ joined f 0 k ++ drop (z * k) room → splice s (z * k) (joined f k n) ≡ joined f 0 (k + n) ++ drop (z * (k + n)) room
unfolding splice
joined_put f z size room s k n e =
    let first = joined f 0 k in
    let next = joined f k n in
    let a : length first ≡ z * k = length-joined f z size 0 k in
    let b : length next ≡ z * n = length-joined f z size k n in
    let i : z * k + length next ≡ length first + z * n = omega arith in
    ap₂ {C = List ℕ} (λ (x y : List ℕ). x ++ (next ++ y))
    (ap (take (z * k)) e ∙ take_at first (drop (z * k) room) (z * k) a)
    (ap₂ {C = List ℕ} (λ (x : ℕ) (y : List ℕ). drop x y) i e ∙ drop-append-add first (drop (z * k) room) (z * n) ∙ drop-drop (z * n) (z * k) room
    ∙ ap (λ (x : ℕ). drop x room) (sym (mul-add z k n)))
    ∙ sym (append_assoc first next (drop (z * (k + n)) room))
    ∙ ap (λ (x : List ℕ). x ++ drop (z * (k + n)) room)
    (sym (joined-more f 0 k n ∙ ap (λ (x : ℕ). first ++ joined f x n) (zero-add k)))

-- all of them bytes
pub joined_bytes : (f : ℕ → List ℕ) → ((k : ℕ) → are_bytes (f k) ≡ true) → (k n : ℕ) → are_bytes (joined f k n) ≡ true
unfolding joined
joined_bytes f h k zero = refl
joined_bytes f h k (suc n) = append_bytes (f k) (joined f (suc k) n) (h k) (joined_bytes f h (suc k) n)
  where
    append_bytes : (xs ys : List ℕ) → are_bytes xs ≡ true → are_bytes ys ≡ true → are_bytes (xs ++ ys) ≡ true
    append_bytes [] ys a b = b
    append_bytes (x ∷ xs) ys a b =
        both (ltb x 256) (are_bytes (xs ++ ys)) (and_l (ltb x 256) (are_bytes xs) a) (append_bytes xs ys (and_r (ltb x 256) (are_bytes xs) a) b)
