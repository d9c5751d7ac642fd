-- The words of limits, one role after another, and how many they are.
-- Assumes nothing.
use Rattle.std.proofs.Common.{◌≡◌, ℕ, ◌+◌, ◌<◌, ◌≤◌, Bool, true, false, not, eqb, List, [], ◌∷◌, ◌++◌, map, length, get_or, refl, ap, ◌∙◌, arith, length-append, eq-eqb, ne_eqb}
use lib.ListN.{length-map}
use Rattle.model.specs.Tests.{pick}
use Rattle.model.specs.Sets.{has, one}
use Rattle.model.specs.Words.{limit_word}
use Rattle.model.specs.Policy.{limited}
use Rattle.model_tidy.specs.Tidy.{members_to, limited_rows}
use Rattle.model_tidy_laws.proofs.TidyLimits.{row_is, row-limited}
use Rattle.tidy_words.specs.Tables.{row_words, table_words, Table, limit_row, limit_words, Limited}
use Rattle.tidy_words.proofs.Writing.{Begins}
use Rattle.tidy_words.proofs.Turns.{table_next, table_end}

rows_size : (limits : List ℕ) → length (limited_rows limits) ≡ length limits
unfolding limited_rows
rows_size limits = length-map limits (λ t. one (not (eqb t 0)))

limits_table : (n : ℕ) (limits : List ℕ) → Limited n limits → Table n (limited_rows limits)
limits_table n limits f = record { size = rows_size limits ∙ f.size; inside = λ i j e. f.inside i (row-limited limits i j e).1 }

-- the words of one role
row_of : (limits : List ℕ) (r : ℕ)
    → row_words (λ i j. limit_word i (get_or limits i 0)) 1 r (get_or (limited_rows limits) r 0) ≡ limit_row r (get_or limits r 0)
unfolding row_words limit_row limited
row_of limits r =
    ap (λ (x : ℕ). map (λ j. limit_word r (get_or limits r 0)) (members_to 1 x)) (row_is limits r) ∙ go (eqb (get_or limits r 0) 0)
  where
    go : (b : Bool) → map (λ j. limit_word r (get_or limits r 0)) (members_to 1 (one (not b))) ≡ pick b [] (limit_word r (get_or limits r 0) ∷ [])
    go true = unfold members_to has pick in refl
    go false = unfold members_to has pick in refl

limits_words : (limits : List ℕ) (r : ℕ) → r < length limits → limit_words limits r ≡ limit_row r (get_or limits r 0) ++ limit_words limits (r + 1)
unfolding limit_words
limits_words limits r h =
    table_next (λ i j. limit_word i (get_or limits i 0)) 1 (limited_rows limits) r (omega (arith, rows_size limits))
    ∙ ap (λ (l : List ℕ). l ++ table_words (λ i j. limit_word i (get_or limits i 0)) 1 (limited_rows limits) (r + 1)) (row_of limits r)

pub limits_next : (limits : List ℕ) (r : ℕ) → r < length limits → Begins (limit_words limits r) (limit_row r (get_or limits r 0)) (limit_words limits (r + 1))
limits_next limits r h = record { is = limits_words limits r h }

pub limits_end : (n : ℕ) (limits : List ℕ) (i : ℕ) → Limited n limits → n ≤ i → limit_words limits i ≡ []
unfolding limit_words
limits_end n limits i f h = table_end _ 1 (limited_rows limits) n i (limits_table n limits f) h

row_count : (r t : ℕ) → length (limit_row r t) ≡ one (not (eqb t 0))
unfolding limit_row pick
row_count r t = go (eqb t 0)
  where
    go : (b : Bool) → length (pick b [] (limit_word r t ∷ [])) ≡ one (not b)
    go true = refl
    go false = refl

pub limits_count : (limits : List ℕ) (r : ℕ) → r < length limits
    → length (limit_words limits r) ≡ one (not (eqb (get_or limits r 0) 0)) + length (limit_words limits (r + 1))
limits_count limits r h =
    ap length (limits_words limits r h) ∙ length-append (limit_row r (get_or limits r 0)) (limit_words limits (r + 1))
    ∙ ap (λ (n : ℕ). n + length (limit_words limits (r + 1))) (row_count r (get_or limits r 0))

-- ---- the words of one role's limit
pub limit_none : (r t : ℕ) → t ≡ 0 → limit_row r t ≡ []
unfolding limit_row pick
limit_none r t e = simp (eq-eqb t 0 e)

pub limit_some : (r t : ℕ) → (t ≡ 0 → ⊥) → limit_row r t ≡ limit_word r t ∷ []
unfolding limit_row pick
limit_some r t z = simp (ne_eqb t 0 z)
