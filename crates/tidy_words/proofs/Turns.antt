-- The words of a table's rows and of exclusions, one after another, and how many they are.
-- Assumes nothing.
use Rattle.std.proofs.Common.{◌≡◌, ℕ, suc, ◌+◌, ◌*◌, ◌^◌, ◌<◌, ◌≤◌, true, List, [], ◌∷◌, ◌++◌, map, length, get_or, take, drop, sym, refl, ap, ◌∙◌, subst, ap₂, add-one, arith, length-append, drop_of_length-le, length-take-le, get_or-drop, drop-cons, get_or-take}
use lib.ListN.{length-map}
use Rattle.std.proofs.lemmas.List.{length-take}
use borrow.Table.Steps.{cases}
use Rattle.model.specs.declared.Kind.{Kind}
use Rattle.model.specs.declared.Exclusion.{Exclusion}
use Rattle.model.specs.Sets.{has, count}
use Rattle.model.specs.Words.{exclusion_word, member_word}
use Rattle.model.specs.Policy.{kind_number}
use Rattle.model_laws.proofs.Ranks.{count_most}
use Rattle.model_laws.proofs.SortedLaws.{kind_below}
use Rattle.model_tidy.specs.Groups.{spread}
use Rattle.model_tidy.specs.Tidy.{members_to, table_groups, exclusion_group}
use Rattle.model_tidy_laws.proofs.TidyLists.{members-length, row_words_lem}
use Rattle.tidy_words.specs.Buffers.{set_words}
use Rattle.tidy_words.specs.Tables.{word_by, row_words, table_words, Table, exclusion_words}
use Rattle.tidy_words.proofs.Writing.{Begins}
use Rattle.tidy_words.proofs.Members.{members_none, map_same}

-- ---- the first n rows of a table

-- row i of them
pub record Within {A : Type 0} (rows : List A) (n i : ℕ) (d : A) : Type 0 where
  pub inside : i < length rows
  pub early : i < n
  pub same : get_or (take n rows) i d ≡ get_or rows i d

pub within_first : {A : Type 0} (rows : List A) (n i : ℕ) (d : A) → i < length (take n rows) → Within rows n i d
within_first rows n i d h =
    let l = length-take n rows in
    let e : i < n = omega arith in
    record { inside = omega arith; early = e; same = get_or-take n rows i d e }

-- none of them is left
pub none_left : {A : Type 0} (rows : List A) (n i : ℕ) → n ≤ length rows → length (take n rows) ≤ i → n ≤ i
none_left rows n i f h = let l = length-take-le n rows f in omega arith

-- ---- tables

-- row i, and the rows behind it
pub table_next : (word : ℕ → ℕ → ℕ) (d : ℕ) (rows : List ℕ) (i : ℕ) → i < length rows
    → table_words word d rows i ≡ row_words word d i (get_or rows i 0) ++ table_words word d rows (i + 1)
unfolding table_words row_words table_groups
table_next word d rows i h =
    ap (λ (l : List ℕ). spread (table_groups word d i l)) (drop-cons rows i 0 h)
    ∙ row_words_lem (word i) (members_to d (get_or rows i 0)) (table_groups word d (suc i) (drop (suc i) rows))
    ∙ ap (λ (n : ℕ). map (word i) (members_to d (get_or rows i 0)) ++ spread (table_groups word d n (drop n rows))) (sym (add-one i))

none_words : (word : ℕ → ℕ → ℕ) (d i : ℕ) (rows : List ℕ) → ((k j : ℕ) → has (get_or rows k 0) j ≡ true → ⊥) → spread (table_groups word d i rows) ≡ []
unfolding spread table_groups
none_words word d i [] h = refl
none_words word d i (row ∷ rows) h =
    row_words_lem (word i) (members_to d row) (table_groups word d (suc i) rows)
    ∙ ap₂ (λ (a b : List ℕ). map (word i) a ++ b) (members_none d row (λ j l. cases (has row j) (λ e. absurd (h 0 j e)) (λ e. e)))
    (none_words word d (suc i) rows (λ k j e. h (suc k) j e))

-- behind the last row with a member there is no word
pub table_end : (word : ℕ → ℕ → ℕ) (d : ℕ) (rows : List ℕ) (n i : ℕ) → Table n rows → n ≤ i → table_words word d rows i ≡ []
unfolding table_words
table_end word d rows n i t h =
    none_words word d i (drop i rows)
    (λ k j e. let q = t.inside (i + k) j (ap (λ (x : ℕ). has x j) (sym (get_or-drop i rows k 0)) ∙ e) in omega arith)

-- the words of a row
words_of_row : (first unit d i row : ℕ) → row_words (word_by first unit) d i row ≡ set_words d (first + 4194304 * i) unit row
unfolding row_words word_by set_words
words_of_row first unit d i row =
    map_same (λ j. first + i * 2 ^ 22 + j * unit) (λ j. first + 4194304 * i + j * unit) (members_to d row) (λ j. omega arith)

pub row_next : (first unit d : ℕ) (rows : List ℕ) (i : ℕ) → i < length rows
    → Begins (table_words (word_by first unit) d rows i) (set_words d (first + 4194304 * i) unit (get_or rows i 0))
    (table_words (word_by first unit) d rows (i + 1))
row_next first unit d rows i h = record {
  is =
      table_next (word_by first unit) d rows i h
      ∙ ap (λ (l : List ℕ). l ++ table_words (word_by first unit) d rows (i + 1)) (words_of_row first unit d i (get_or rows i 0));
}

row-length : (word : ℕ → ℕ → ℕ) (d i row : ℕ) → length (row_words word d i row) ≡ count d row
unfolding row_words
row-length word d i row = length-map (members_to d row) (word i) ∙ members-length d row

-- the words are as many as the members
pub table_count : (word : ℕ → ℕ → ℕ) (d : ℕ) (rows : List ℕ) (i : ℕ) → i < length rows
    → length (table_words word d rows i) ≡ count d (get_or rows i 0) + length (table_words word d rows (i + 1))
table_count word d rows i h =
    ap length (table_next word d rows i h)
    ∙ length-append (row_words word d i (get_or rows i 0)) (table_words word d rows (i + 1))
    ∙ ap (λ (n : ℕ). n + length (table_words word d rows (i + 1))) (row-length word d i (get_or rows i 0))

-- ---- exclusions

pub size_most : (d m s : ℕ) → m ≡ count d s → m ≤ d
unfolding count
size_most d m s e = subst (λ (x : ℕ). x ≤ d) (sym e) (count_most (has s) d)

-- the word of an exclusion, and those of its members
pub exclusion-words : (x : Exclusion) (k m : ℕ) → k ≡ kind_number x.kind → m ≡ count 64 x.members
    → Begins (exclusion_words x) ((1342177280 + 67108864 * k + 524288 * x.n + 4096 * m) ∷ []) (set_words 64 1610612736 4194304 x.members)
unfolding exclusion_words exclusion_group exclusion_word member_word set_words
exclusion-words x k m ek e =
    let w : 5 * 2 ^ 28 + kind_number x.kind * 2 ^ 26 + x.n * 2 ^ 19 + count 64 x.members * 2 ^ 12
    ≡ 1342177280 + 67108864 * k + 524288 * x.n + 4096 * m = omega arith in
    record { is = ap (λ (v : ℕ). v ∷ map (λ j. 6 * 2 ^ 28 + j * 2 ^ 22) (members_to 64 x.members)) w }

-- the number of a kind is below 4
pub number_small : (n : ℕ) (k : Kind) → n ≡ kind_number k → n < 4
number_small n k e = let c = kind_below k in omega arith

-- the words of exclusions from exclusion i on
abbrev pub listed : List Exclusion → ℕ → List ℕ
listed xs i = spread (map exclusion_group (drop i xs))

-- exclusion i, and those behind it
module _ (xs : List Exclusion) (i : ℕ) (h : i < length xs) (d : Exclusion) where
  pub listed_next : Begins (listed xs i) (exclusion_words (get_or xs i d)) (listed xs (i + 1))
  unfolding spread exclusion_words
  listed_next =
      record {
        is = ap (λ (l : List Exclusion). spread (map exclusion_group l)) (drop-cons xs i d h)
            ∙ (λ j. exclusion_words (get_or xs i d) ++ listed xs (sym (add-one i) j));
      }

  pub listed_count : (m : ℕ) → m ≡ count 64 (get_or xs i d).members → length (listed xs i) ≡ 1 + m + length (listed xs (i + 1))
  unfolding exclusion_words exclusion_group
  listed_count m e =
      let x = get_or xs i d in
      let a = ap length listed_next.is in
      let b = length-append (exclusion_words x) (listed xs (i + 1)) in
      let c = length-map (members_to 64 x.members) member_word in
      let n = members-length 64 x.members in
      omega arith

-- behind the last none
pub listed_end : (xs : List Exclusion) (i : ℕ) → length xs ≤ i → listed xs i ≡ []
unfolding spread
listed_end xs i h = ap (λ (l : List Exclusion). spread (map exclusion_group l)) (drop_of_length-le xs h)
