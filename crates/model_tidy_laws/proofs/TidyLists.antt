-- The lists that a tidy image is made of: the members of a set, the words of a table, and their lengths.
-- Assumes nothing.
use mathlib.Core.Path.{◌≡◌, refl, sym, ap, ap₂, ◌∙◌, subst}
use mathlib.Core.Logic.{inl, inr}
use mathlib.Core.Bool.{Bool, true, false, ◌||◌, or-false}
use mathlib.Core.List.Memᴰ
use mathlib.Core.List.{List, [], ◌∷◌, ◌++◌, map, append_assoc, Memᴰ}
use Prim.Native.Nat.{ℕ, zero, suc, ◌+◌, ◌≤◌, ◌<◌}
use native.Mathlib.Nat.{zero-add, le_refl}
use native.Mathlib.Omega.{arith}
use lib.Dec.{eqb}
use lib.ListN.{length, get_or, set, length-append}
use borrow.Author.Tests.{eqb-true, ne_eqb}
use Rattle.model.specs.Tests.{pick}
use Rattle.model.specs.Sets.{has, with, one, count_to, count}
use Rattle.model.specs.Ranges.{Each}
use Rattle.model_tidy.specs.Groups.{Group, spread, Distinct}
use Rattle.model_tidy.specs.Tidy.{members_to, single, table_groups}
use Rattle.model_laws.proofs.Bools.{pick-case, not_both}
use Rattle.model_laws.proofs.SetLaws.{has-with, one-most}
use Rattle.model_laws.proofs.UnionLaws.{has_none, below_or_last}
use Rattle.model_laws.proofs.Eachs.{each_append, each_map}

-- ---- the members of a set, ascending
-- each of them is one
pub members_each : (P : ℕ → Type 0) (d s : ℕ) → ((j : ℕ) → j < d → has s j ≡ true → P j) → Each P (members_to d s)
unfolding members_to
members_each P zero s f = tt
members_each P (suc d) s f =
    each_append P (members_to d s) (pick (has s d) (d ∷ []) []) (members_each P d s (λ j l e. f j (omega arith) e))
    (pick-case (Each P) (has s d) (d ∷ []) [] (λ e. (f d (le_refl (suc d)) e, tt)) (λ _. tt))

-- and there is no other
pub members_mem : (d s j : ℕ) → j < d → has s j ≡ true → Memᴰ j (members_to d s)
unfolding members_to pick
members_mem zero s j l e = absurd (omega arith)
members_mem (suc d) s j l e =
    elim (below_or_last j d l) [
      | inl k ↦ Memᴰ.append_left (pick (has s d) (d ∷ []) []) (members_mem d s j k e)
      | inr q ↦
          Memᴰ.append_right (members_to d s)
          (subst (λ (b : Bool). Memᴰ j (pick b (d ∷ []) [])) (sym (ap (has s) (sym q) ∙ e)) (Memᴰ.head q))
    ]

-- they are as many as the set counts
pub members-length : (d s : ℕ) → length (members_to d s) ≡ count d s
unfolding members_to count count_to
members-length zero s = refl
members-length (suc d) s =
    let a = length-append (members_to d s) (pick (has s d) (d ∷ []) []) in
    let b : length (pick (has s d) (d ∷ []) []) ≡ one (has s d) = go (has s d) in
    let c = members-length d s in
    omega arith
  where
    go : (b : Bool) → length (pick b (d ∷ []) []) ≡ one b
    go true = unfold pick in refl
    go false = unfold pick in refl

-- and different
distinct_last : (d : ℕ) (xs : List ℕ) → Distinct xs → Each (λ x. ¬ (x ≡ d)) xs → Distinct (xs ++ (d ∷ []))
distinct_last d [] a e = (tt, tt)
distinct_last d (x ∷ xs) a e = (each_append (λ y. ¬ (x ≡ y)) xs (d ∷ []) a.0 (e.0, tt), distinct_last d xs a.1 e.1)

append_none : (xs : List ℕ) → Distinct xs → Distinct (xs ++ [])
append_none [] a = tt
append_none (x ∷ xs) a = (each_append (λ y. ¬ (x ≡ y)) xs [] a.0 tt, append_none xs a.1)

pub members_distinct : (d s : ℕ) → Distinct (members_to d s)
unfolding members_to
members_distinct zero s = tt
members_distinct (suc d) s =
    pick-case (λ (l : List ℕ). Distinct (members_to d s ++ l)) (has s d) (d ∷ []) []
    (λ _. distinct_last d (members_to d s) (members_distinct d s) (members_each (λ x. ¬ (x ≡ d)) d s (λ j l e q. omega arith)))
    (λ _. append_none (members_to d s) (members_distinct d s))

-- ---- the words of a table
module _ (word : ℕ → ℕ → ℕ) (d : ℕ) where
  pub table_each : (P : Group → Type 0) (rows : List ℕ) (i : ℕ)
      → ((k j : ℕ) → j < d → has (get_or rows k 0) j ≡ true → P (single (word (i + k) j))) → Each P (table_groups word d i rows)
  unfolding table_groups
  table_each P [] i f = tt
  table_each P (row ∷ rows) i f =
      let a : i + 0 ≡ i = omega arith in
      each_append P (map (λ j. single (word i j)) (members_to d row)) (table_groups word d (suc i) rows)
      (each_map P (λ j. single (word i j)) (members_to d row)
      (members_each (λ j. P (single (word i j))) d row (λ j l e. subst (λ (n : ℕ). P (single (word n j))) a (f 0 j l e))))
      (table_each P rows (suc i)
      (λ k j l e. let b : i + suc k ≡ suc i + k = omega arith in subst (λ (n : ℕ). P (single (word n j))) b (f (suc k) j l e)))

  pub table_mem : (rows : List ℕ) (i k j : ℕ) → j < d → has (get_or rows k 0) j ≡ true → Memᴰ (single (word (i + k) j)) (table_groups word d i rows)
  unfolding table_groups
  table_mem [] i k j l e = not_both (has 0 j) e (has_none j)
  table_mem (row ∷ rows) i zero j l e =
      let a : i + 0 ≡ i = omega arith in
      Memᴰ.append_left (table_groups word d (suc i) rows)
      (subst (λ (n : ℕ). Memᴰ (single (word n j)) (map (λ j. single (word i j)) (members_to d row))) (sym a)
      (Memᴰ.map (λ j. single (word i j)) (members_mem d row j l e)))
  table_mem (row ∷ rows) i (suc k) j l e =
      let b : suc i + k ≡ i + suc k = omega arith in
      Memᴰ.append_right (map (λ j. single (word i j)) (members_to d row))
      (subst (λ (n : ℕ). Memᴰ (single (word n j)) (table_groups word d (suc i) rows)) b (table_mem rows (suc i) k j l e))

-- ---- spread groups
pub spread_append : (gs ks : List Group) → spread (gs ++ ks) ≡ spread gs ++ spread ks
unfolding spread
spread_append [] ks = refl
spread_append (g ∷ gs) ks =
    ap (λ (l : List ℕ). g.word ∷ (g.members ++ l)) (spread_append gs ks)
    ∙ ap (λ (l : List ℕ). g.word ∷ l) (sym (append_assoc g.members (spread gs) (spread ks)))

-- those of a row, and those of the groups behind it
pub row_words_lem : (f : ℕ → ℕ) (js : List ℕ) (gs : List Group) → spread (map (λ j. single (f j)) js ++ gs) ≡ map f js ++ spread gs
unfolding spread
row_words_lem f [] gs = refl
row_words_lem f (j ∷ js) gs = ap (λ (l : List ℕ). f j ∷ l) (row_words_lem f js gs)

pub spread_mem : (g : Group) (gs : List Group) → Memᴰ g gs → Memᴰ g.word (spread gs)
unfolding spread
spread_mem g [] m = absurd (Memᴰ.not-nil m)
spread_mem g (k ∷ gs) m =
    elim (Memᴰ.cases_cons m) [
      | inl q ↦ Memᴰ.head (ap (λ (x : Group). x.word) q)
      | inr j ↦ Memᴰ.tail (Memᴰ.append_right k.members (spread_mem g gs j))
    ]

-- what each word of each group has
pub spread_each : (P : ℕ → Type 0) (gs : List Group) → Each (λ g. P g.word × Each P g.members) gs → Each P (spread gs)
unfolding spread
spread_each P [] e = tt
spread_each P (g ∷ gs) e = (e.0.0, each_append P g.members (spread gs) e.0.1 (spread_each P gs e.1))

-- ---- lengths
-- the members below d of all rows
unfoldable pub tally : ℕ → List ℕ → ℕ
tally d [] = 0
tally d (row ∷ rows) = count d row + tally d rows

singles_length : (f : ℕ → ℕ) (js : List ℕ) (gs : List Group) → length (spread (map (λ j. single (f j)) js ++ gs)) ≡ length js + length (spread gs)
unfolding spread
singles_length f [] gs = sym (zero-add (length (spread gs)))
singles_length f (j ∷ js) gs = let e = singles_length f js gs in omega arith

pub table_length : (word : ℕ → ℕ → ℕ) (d : ℕ) (rows : List ℕ) (i : ℕ) → length (spread (table_groups word d i rows)) ≡ tally d rows
unfolding table_groups tally spread
table_length word d [] i = refl
table_length word d (row ∷ rows) i =
    let a = singles_length (word i) (members_to d row) (table_groups word d (suc i) rows) in
    let b = members-length d row in
    let c = table_length word d rows (suc i) in
    omega arith

-- a member put in makes at most one more
count_past : (d n k : ℕ) → d ≤ k → count d (with n k) ≡ count d n
unfolding count count_to
count_past zero n k l = refl
count_past (suc d) n k l =
    ap₂ (λ (b : Bool) (c : ℕ). one b + c)
    (has-with n k d ∙ ap (λ (b : Bool). has n d || b) (ne_eqb d k (λ e. omega arith)) ∙ or-false (has n d)) (count_past d n k (omega arith))

pub count_up : (d n k : ℕ) → count d (with n k) ≤ suc (count d n)
unfolding count count_to
count_up zero n k = omega arith
count_up (suc d) n k = go (eqb d k) refl (count_up d n k)
  where
    go : (b : Bool) → eqb d k ≡ b → count_to (has (with n k)) d ≤ suc (count_to (has n) d)
        → one (has (with n k) d) + count_to (has (with n k)) d ≤ suc (one (has n d) + count_to (has n) d)
    go true e ih =
        let q : d ≡ k = eqb-true d k e in
        let p : count_to (has (with n k)) d ≡ count_to (has n) d = count_past d n k (omega arith) in
        let m = one-most (has (with n k) d) in
        omega arith
    go false e ih =
        let p : one (has (with n k) d) ≡ one (has n d) =
        ap one (has-with n k d ∙ ap (λ (b : Bool). has n d || b) e ∙ or-false (has n d)) in
        omega arith

pub tally_put : (d : ℕ) (rows : List ℕ) (i k : ℕ) → tally d (set rows i (with (get_or rows i 0) k)) ≤ suc (tally d rows)
unfolding tally
tally_put d [] i k = omega arith
tally_put d (row ∷ rows) zero k = let a = count_up d row k in omega arith
tally_put d (row ∷ rows) (suc i) k = let a = tally_put d rows i k in omega arith
