-- Laws of tables, lists of sets by number: a row changed, empty tables, entries taken in and rows filled one by one.
-- Assumes nothing.
use mathlib.Core.Path.{◌≡◌, refl, ap, ◌∙◌, sym}
use mathlib.Core.Logic.{inl, inr}
use mathlib.Core.Bool.{Bool, true}
use mathlib.Core.List.{List, [], ◌∷◌}
use Prim.Native.Nat.{ℕ, zero, suc, ◌+◌, ◌^◌, ◌<◌}
use native.Mathlib.Nat.{zero-add}
use lib.Pow.{pow-lt}
use lib.Bits.{or_lt}
use lib.ListN.{get_or, set, replicate, length}
use Rattle.model.specs.declared.Entry.{Entry}
use Rattle.model.specs.Sets.{has, with, one, count_to, count}
use Rattle.model.specs.Policy.{fold}
use Rattle.model.specs.Ranges.{Each, TableInRange, RowsBelow}
use Rattle.model_laws.proofs.SetLaws.{with_cases}
use Rattle.model_laws.proofs.UnionLaws.{has_none}
use lib.Seq.{get_or-set_same, get_or-set_other}
use native.Mathlib.Decide.{dec_lt}
use native.Mathlib.Omega.{arith}

-- at any place of a list with one element replaced: what holds of the new element and of the one that was there holds
-- of what is there
pub set-case : {A : Type 0} (P : ℕ → A → Type 0) (xs : List A) (d : A) (k : ℕ) (v : A) (j : ℕ) → P k v → P j (get_or xs j d)
    → P j (get_or (set xs k v) j d)
set-case P [] d k v j a b = b
set-case P (x ∷ xs) d zero v zero a b = a
set-case P (x ∷ xs) d zero v (suc j) a b = b
set-case P (x ∷ xs) d (suc k) v zero a b = b
set-case P (x ∷ xs) d (suc k) v (suc j) a b = set-case (λ i. P (suc i)) xs d k v j a b

-- what holds of every row, and of row i after the change, holds of every row after it
pub set_keeps : (P : ℕ → ℕ → Type 0) (rows : List ℕ) (i v : ℕ) → ((j : ℕ) → P j (get_or rows j 0)) → P i v
    → (j : ℕ) → P j (get_or (set rows i v) j 0)
set_keeps P rows i v h p j = set-case P rows 0 i v j p (h j)

-- ---- empty rows
pub get_d_filled : {A : Type 0} (a : A) (n i : ℕ) → get_or (replicate n a) i a ≡ a
get_d_filled a zero i = refl
get_d_filled a (suc n) zero = refl
get_d_filled a (suc n) (suc i) = get_d_filled a n i

-- the empty set counts none
pub count_empty : (d : ℕ) → count d 0 ≡ 0
unfolding count count_to
count_empty zero = refl
count_empty (suc d) = ap (λ (x : Bool). one x + count d 0) (has_none d) ∙ zero-add (count d 0) ∙ count_empty d

-- ---- a member put into a row
module _ (rows : List ℕ) (i k : ℕ) where
  -- both numbers in range: the table stays in range
  pub put_in_range : (m n : ℕ) → TableInRange m n rows → i < m → k < n → TableInRange m n (set rows i (with (get_or rows i 0) k))
  put_in_range m n h a b =
      set_keeps (λ (u s : ℕ). (j : ℕ) → has s j ≡ true → (u < m) × (j < n)) rows i (with (get_or rows i 0) k) h
      (λ j e. elim (with_cases (get_or rows i 0) k j e) [ inl q ↦ h i j q | inr q ↦ (a, rw q b) ])

  -- the member below n: every row stays a set of numbers below n
  pub put_below : (n : ℕ) → RowsBelow n rows → k < n → RowsBelow n (set rows i (with (get_or rows i 0) k))
  put_below n h b =
      set_keeps (λ (u s : ℕ). s < 2 ^ n) rows i (with (get_or rows i 0) k) h (or_lt n (get_or rows i 0) (2 ^ k) (h i) (pow-lt b))

-- ---- what every step keeps, the whole keeps
pub fold_keeps : (step : List ℕ → Entry → List ℕ) (Q : Entry → Type 0) (P : List ℕ → Type 0)
    → ((rows : List ℕ) (e : Entry) → Q e → P rows → P (step rows e)) → (es : List Entry) → Each Q es → (rows : List ℕ) → P rows
    → P (fold step rows es)
unfolding fold
fold_keeps step Q P f [] q rows p = p
fold_keeps step Q P f (e ∷ es) q rows p = fold_keeps step Q P f es q.1 (step rows e) (f rows e q.0 p)

-- ---- a list filled in order: one element more
pub fill_next : (f : ℕ → ℕ) (out : List ℕ) (k v : ℕ) → k < length out → ((i : ℕ) → i < k → get_or out i 0 ≡ f i) → v ≡ f k
    → (i : ℕ) → i < k + 1 → get_or (set out k v) i 0 ≡ f i
fill_next f out k v h e q i l =
    elim (dec_lt i k) [
      | yes j ↦ get_or-set_other out k i v 0 (λ s. omega arith) ∙ e i j
      | no j ↦ let s : i ≡ k = omega arith in
          ap (λ (x : ℕ). get_or (set out k v) x 0) s ∙ get_or-set_same out k v 0 h ∙ q ∙ ap f (sym s)
    ]
