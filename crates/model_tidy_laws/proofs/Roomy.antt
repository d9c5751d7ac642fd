-- The limits kept at the end are kept all the way: a table only grows, and so does the number of exclusions.
-- Assumes nothing.
use mathlib.Core.Path.{◌≡◌, refl, ap, ◌∙◌}
use mathlib.Core.Bool.{true, false, ◌&&◌, not}
use mathlib.Core.List.{List, [], ◌∷◌}
use Prim.Native.Nat.{ℕ, zero, suc, ◌+◌, ◌≤◌, ◌<◌, zero-le}
use native.Mathlib.Nat.{le_refl, le_trans, add-le-add, lt_of_lt_of_le}
use native.Mathlib.Omega.{arith}
use lib.Dec.{leb, ltb}
use lib.ListN.{length, get_or}
use lib.Seq.{get_or-set_same}
use borrow.Table.Steps.{cases}
use borrow.Author.Tests.{ltb-true, leb-true, lt-leb, not-true}
use Rattle.model.specs.declared.Head.{Head}
use Rattle.model.specs.declared.Entry.{Entry}
use Rattle.model.specs.declared.Entry.TheVariants.{Assignment, Grant, Senior, Exclude, Member, End, Unknown, Limit}
use Rattle.model.specs.declared.Scan.{Scan}
use Rattle.model.specs.Sets.{has, with, count_to, count}
use Rattle.model.specs.Image.{in_range, crowds, assigning, next}
use Rattle.model.specs.Policy.{fold, exclusions_of}
use Rattle.model.specs.Ranges.{Each}
use Rattle.model_laws.proofs.Bools.{and_l, and_r, or_l}
use Rattle.model_laws.proofs.SetLaws.{one-le, has-with, count-with}
use Rattle.model_laws.proofs.TableLaws.{set_keeps}
use Rattle.model_laws.proofs.Tables.{assigning-length}

-- ---- a set with more members counts no fewer
pub count-le : (d a b : ℕ) → ((k : ℕ) → has a k ≡ true → has b k ≡ true) → count d a ≤ count d b
unfolding count count_to
count-le zero a b h = zero-le
count-le (suc d) a b h = add-le-add (one-le (has a d) (has b d) (h d)) (count-le d a b h)

count_with_le : (d n k : ℕ) → count d n ≤ count d (with n k)
count_with_le d n k = count-le d n (with n k) (λ j e. has-with n k j ∙ or_l (has n j) _ e)

-- ---- a row only grows
row_grows : (rows : List ℕ) (e : Entry) (u : ℕ) → count 64 (get_or rows u 0) ≤ count 64 (get_or (assigning rows e) u 0)
unfolding assigning
row_grows rows (Assignment v r) u =
    set_keeps (λ (j s : ℕ). count 64 (get_or rows j 0) ≤ count 64 s) rows v.0 (with (get_or rows v.0 0) r.0)
    (λ j. le_refl (count 64 (get_or rows j 0))) (count_with_le 64 (get_or rows v.0 0) r.0) u
row_grows rows (Grant r p) u = le_refl _
row_grows rows (Senior a b) u = le_refl _
row_grows rows (Exclude x m) u = le_refl _
row_grows rows (Member r) u = le_refl _
row_grows rows (Limit r n) u = le_refl _
row_grows rows End u = le_refl _
row_grows rows Unknown u = le_refl _

rows_grow : (es : List Entry) (rows : List ℕ) (u : ℕ) → count 64 (get_or rows u 0) ≤ count 64 (get_or (fold assigning rows es) u 0)
unfolding fold
rows_grow [] rows u = le_refl _
rows_grow (e ∷ es) rows u = le_trans (row_grows rows e u) (rows_grow es (assigning rows e) u)

-- ---- no entry crowds
abbrev pub Room : List ℕ → Scan → List Entry → Type 0
Room rows t [] = Unit {0}
Room rows t (e ∷ es) = (crowds rows t e ≡ false) × Room (assigning rows e) (next t e) es

module _ (h : Head) (users : h.users ≤ 64) (roles : h.roles ≤ 64) where
  pub room_of : (es : List Entry) (rows : List ℕ) (t : Scan) → length rows ≡ 64 → Each (λ e. in_range h e ≡ true) es
      → ((u : ℕ) → count 64 (get_or (fold assigning rows es) u 0) ≤ 16) → t.exclusions + length (exclusions_of es) ≤ 32 → Room rows t es
  unfolding fold exclusions_of next crowds in_range
  room_of [] rows t n r f x = tt
  room_of (Assignment u q ∷ es) rows t n r f x = (
    cases (not (has row q.0) && leb 16 (count 64 row)) (λ e. absurd (crowded e)) (λ e. e),
    room_of es (assigning rows (Assignment u q)) t (assigning-length rows (Assignment u q) ∙ n) r.1 f x,
  )
    where
      row : ℕ
      row = get_or rows u.0 0

      crowded : (not (has row q.0) && leb 16 (count 64 row)) ≡ true → ⊥
      crowded e =
          let a = not-true (has row q.0) (and_l (not (has row q.0)) (leb 16 (count 64 row)) e) in
          let b = leb-true 16 (count 64 row) (and_r (not (has row q.0)) (leb 16 (count 64 row)) e) in
          let lu : u.0 < h.users = ltb-true u.0 h.users (and_l _ _ r.0) in
          let lq : q.0 < h.roles = ltb-true q.0 h.roles (and_r (ltb u.0 h.users) _ r.0) in
          let c : count 64 (get_or (assigning rows (Assignment u q)) u.0 0) ≡ suc (count 64 row) =
          unfold assigning in
          (ap (count 64) (get_or-set_same rows u.0 (with row q.0) 0 (omega arith)) ∙ count-with 64 row q.0 (lt_of_lt_of_le lq roles) a) in
          omega (arith, rows_grow es (assigning rows (Assignment u q)) u.0, f u.0)
  room_of (Grant a p ∷ es) rows t n r f x = (refl, room_of es (assigning rows (Grant a p)) t (assigning-length rows (Grant a p) ∙ n) r.1 f x)
  room_of (Senior a b ∷ es) rows t n r f x = (refl, room_of es (assigning rows (Senior a b)) t (assigning-length rows (Senior a b) ∙ n) r.1 f x)
  room_of (Exclude y m ∷ es) rows t n r f x = (
    lt-leb 32 t.exclusions (omega arith),
    room_of es (assigning rows (Exclude y m)) (next t (Exclude y m)) (assigning-length rows (Exclude y m) ∙ n) r.1 f (omega arith),
  )
  room_of (Member q ∷ es) rows t n r f x = (refl, room_of es (assigning rows (Member q)) (next t (Member q)) (assigning-length rows (Member q) ∙ n) r.1 f x)
  room_of (Limit q m ∷ es) rows t n r f x = (refl, room_of es (assigning rows (Limit q m)) t (assigning-length rows (Limit q m) ∙ n) r.1 f x)
  room_of (End ∷ es) rows t n r f x = (refl, room_of es (assigning rows End) t (assigning-length rows End ∙ n) r.1 f x)
  room_of (Unknown ∷ es) rows t n r f x = (refl, room_of es (assigning rows Unknown) t (assigning-length rows Unknown ∙ n) r.1 f x)
