-- The words of the rows of tables and of exclusions.
-- Assumes nothing.
use Rattle.std.specs.Prelude.{◌≡◌, ℕ, ◌+◌, ◌*◌, ◌^◌, ◌<◌, ◌≤◌, true, List, [], ◌∷◌, map, length, drop, ◌==◌, slice_index}
use Rattle.model.specs.declared.Exclusion.{Exclusion}
use Rattle.model.specs.Tests.{pick}
use Rattle.model.specs.Sets.{has}
use Rattle.model.specs.Words.{limit_word}
use Rattle.model.specs.Policy.{limited}
use Rattle.model_tidy.specs.Groups.{spread}
use Rattle.model_tidy.specs.Tidy.{members_to, table_groups, exclusion_group, limited_rows}

-- the word of number i, a row, and number j, its member: a first word, a field of 6 bits for the row, and so many units
-- as the member's number says
unfoldable pub word_by : ℕ → ℕ → ℕ → ℕ → ℕ
word_by first unit i j = first + i * 2 ^ 22 + j * unit

-- the words of row i, with members below d
unfoldable pub row_words : (ℕ → ℕ → ℕ) → ℕ → ℕ → ℕ → List ℕ
row_words word d i row = map (word i) (members_to d row)

-- the words of a table's rows from row i on
unfoldable pub table_words : (ℕ → ℕ → ℕ) → ℕ → List ℕ → ℕ → List ℕ
table_words word d rows i = spread (table_groups word d i (drop i rows))

-- a table of 64 rows, of which only the first n have members
pub record Table (n : ℕ) (rows : List ℕ) : Type 0 where
  pub size : length rows ≡ 64
  pub inside : (i j : ℕ) → has (slice_index rows i) j ≡ true → i < n

-- an exclusion's word and its members
unfoldable pub exclusion_words : Exclusion → List ℕ
exclusion_words x = (exclusion_group x).word ∷ (exclusion_group x).members

-- the word for the limit t of role r, none where it has none
unfoldable pub limit_row : ℕ → ℕ → List ℕ
limit_row r t = pick (t == 0) [] (limit_word r t ∷ [])

-- the words of the limits of the roles from role i on
unfoldable pub limit_words : List ℕ → ℕ → List ℕ
limit_words limits i = table_words (λ r j. limit_word r (slice_index limits r)) 1 (limited_rows limits) i

-- a table of 64 limits, of which only the first n are there, none above 256
pub record Limited (n : ℕ) (limits : List ℕ) : Type 0 where
  pub size : length limits ≡ 64
  pub inside : (r : ℕ) → limited limits r ≡ true → r < n
  pub most : (r : ℕ) → slice_index limits r ≤ 256
