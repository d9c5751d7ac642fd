-- The words of a tidy image are ascending, each sort by its fields, and so are the member words of an exclusion.
-- Assumes nothing.
use mathlib.Core.Path.{◌≡◌, sym, subst}
use mathlib.Core.Bool.{true}
use mathlib.Core.List.{List, [], ◌∷◌, ◌++◌, map}
use Prim.Native.Nat.{ℕ, zero, suc, ◌+◌, ◌≤◌, ◌<◌}
use native.Mathlib.Omega.{arith}
use lib.ListN.{get_or}
use Rattle.model.specs.Tests.{pick}
use Rattle.model.specs.Sets.{has}
use Rattle.model.specs.Words.{assign_word, grant_word, senior_word, member_word, limit_word}
use Rattle.model.specs.Policy.{Policy}
use Rattle.model.specs.Ranges.{Each, Ascending}
use Rattle.model_tidy.specs.Groups.{spread}
use Rattle.model_tidy.specs.Tidy.{members_to, table_groups, exclusion_group, limited_rows, limit_groups, TidyOrder}
use Rattle.model_laws.proofs.Bools.{pick-case}
use Rattle.model_laws.proofs.Eachs.{each_append, each_map}
use Rattle.model_laws.proofs.SortedLaws.{ascending-sorted}
use Rattle.model_tidy_laws.proofs.TidyLists.{row_words_lem, members_each, table_each, spread_each}
use Rattle.model_tidy_laws.proofs.TidyLimits.{row-limited}

-- ---- ascending numbers
-- one list behind the other
ascending-append : (xs ys : List ℕ) → Ascending ◌<◌ xs → Ascending ◌<◌ ys → Each (λ x. Each (λ y. x < y) ys) xs → Ascending ◌<◌ (xs ++ ys)
ascending-append [] ys a b e = b
ascending-append (x ∷ xs) ys a b e = (each_append (λ y. x < y) xs ys a.0 e.0, ascending-append xs ys a.1 b e.1)

-- what a function makes of numbers below d, where it keeps the order
ascending-map : (d : ℕ) (f : ℕ → ℕ) → ((j k : ℕ) → j < k → k < d → f j < f k) → (js : List ℕ) → Each (λ j. j < d) js → Ascending ◌<◌ js
    → Ascending ◌<◌ (map f js)
ascending-map d f up [] b a = tt
ascending-map d f up (j ∷ js) b a = (each_map (λ y. f j < y) f js (over js b.1 a.0), ascending-map d f up js b.1 a.1)
  where
    over : (ks : List ℕ) → Each (λ k. k < d) ks → Each (λ k. j < k) ks → Each (λ k. f j < f k) ks
    over [] b e = tt
    over (k ∷ ks) b e = (up j k e.0 b.0, over ks b.1 e.1)

-- the members of a set
pub members-ascending : (d s : ℕ) → Ascending ◌<◌ (members_to d s)
unfolding members_to
members-ascending zero s = tt
members-ascending (suc d) s =
    ascending-append (members_to d s) (pick (has s d) (d ∷ []) []) (members-ascending d s)
    (pick-case (Ascending ◌<◌) (has s d) (d ∷ []) [] (λ _. (tt, tt)) (λ _. tt))
    (members_each (λ j. Each (λ y. j < y) (pick (has s d) (d ∷ []) [])) d s
    (λ j l _. pick-case (Each (λ y. j < y)) (has s d) (d ∷ []) [] (λ _. (l, tt)) (λ _. tt)))

-- they are below the width
members_below_lem : (d s : ℕ) → Each (λ j. j < d) (members_to d s)
members_below_lem d s = members_each (λ j. j < d) d s (λ j l _. l)

-- ---- the words of a table, by row and then by member; what a row's words are made of is in range
module _ (word : ℕ → ℕ → ℕ) (d : ℕ) (Fine : ℕ → Type 0) (along : (i j k : ℕ) → j < k → k < d → word i j < word i k)
    (across : (i j k l : ℕ) → Fine i → i < k → j < d → word i j < word k l) where
  -- a word of row i comes before those of later rows
  rows_behind : (i j : ℕ) → Fine i → j < d → (rows : List ℕ) → Each (λ w. word i j < w) (spread (table_groups word d (suc i) rows))
  rows_behind i j f l rows =
      spread_each (λ w. word i j < w) (table_groups word d (suc i) rows)
      (table_each word d (λ g. (word i j < g.word) × Each (λ w. word i j < w) g.members) rows (suc i)
      (λ k m _ _. (across i j (suc i + k) m f (omega arith) l, tt)))

  table_ascending : (rows : List ℕ) (i : ℕ) → ((k m : ℕ) → has (get_or rows k 0) m ≡ true → Fine (i + k))
      → Ascending ◌<◌ (spread (table_groups word d i rows))
  unfolding table_groups spread
  table_ascending [] i f = tt
  table_ascending (row ∷ rows) i f =
      subst (Ascending ◌<◌) (sym (row_words_lem (word i) (members_to d row) (table_groups word d (suc i) rows)))
      (ascending-append (map (word i) (members_to d row)) (spread (table_groups word d (suc i) rows))
      (ascending-map d (word i) (along i) (members_to d row) (members_below_lem d row) (members-ascending d row))
      (table_ascending rows (suc i) (λ k m h. subst Fine (omega arith) (f (suc k) m h)))
      (each_map (λ w. Each (λ y. w < y) (spread (table_groups word d (suc i) rows))) (word i) (members_to d row)
      (members_each (λ j. Each (λ y. word i j < y) (spread (table_groups word d (suc i) rows))) d row
      (λ j l h. rows_behind i j (subst Fine (omega arith) (f 0 j h)) l rows))))

-- a table whose words are made of the numbers of row and member alone
pair_ascending : (word : ℕ → ℕ → ℕ) (d : ℕ) → ((i j k : ℕ) → j < k → word i j < word i k)
    → ((i j k l : ℕ) → i < k → j < d → word i j < word k l) → (rows : List ℕ) → Ascending ◌<◌ (spread (table_groups word d 0 rows))
pair_ascending word d along across rows =
    table_ascending word d (λ _. Unit {0}) (λ i j k l _. along i j k l) (λ i j k m _ l n. across i j k m l n) rows 0 (λ _ _ _. tt)

pub tidy_order_lem : (p : Policy) → TidyOrder p
tidy_order_lem p =
    record {
      assignments =
          pair_ascending assign_word 64 (λ i j k l. unfold assign_word in omega arith) (λ i j k m l n. unfold assign_word in omega arith)
          p.assigned;
      grants =
          pair_ascending grant_word 256 (λ i j k l. unfold grant_word in omega arith) (λ i j k m l n. unfold grant_word in omega arith)
          p.granted;
      seniors =
          pair_ascending senior_word 64 (λ i j k l. unfold senior_word in omega arith) (λ i j k m l n. unfold senior_word in omega arith)
          p.juniors;
      exclusions = ascending-sorted p.exclusions;
      members =
          λ x. unfold exclusion_group in
          ascending-map 64 member_word (λ j k l _. unfold member_word in omega arith) (members_to 64 x.members) (members_below_lem 64 x.members)
          (members-ascending 64 x.members);
      limits =
          λ g. unfold limit_groups in
          table_ascending (λ r j. limit_word r (get_or p.limits r 0)) 1 (λ r. get_or p.limits r 0 ≤ 256) (λ i j k l m. absurd (omega arith))
          (λ i j k m f l n. unfold limit_word in omega (arith, f)) (limited_rows p.limits) 0
          (λ k m h. subst (λ (r : ℕ). get_or p.limits r 0 ≤ 256) (omega arith) (g k (row-limited p.limits k m h).1).2);
    }
