-- The words of the whole tidy image, by the tables of a policy.
-- Assumes nothing.
use Rattle.std.specs.Prelude.{ℕ, ◌≤◌, List, ◌∷◌, ◌++◌, map}
use Rattle.model.specs.declared.Head.{Head}
use Rattle.model.specs.declared.Exclusion.{Exclusion}
use Rattle.model.specs.Words.{head_word, assign_word, grant_word, senior_word}
use Rattle.model_tidy.specs.Groups.{spread}
use Rattle.model_tidy.specs.Tidy.{exclusion_group}
use Rattle.policy_tables.specs.declared.PolicyTables.{PolicyTables}
use Rattle.sets.specs.Words.{values}
use Rattle.tidy_words.specs.Tables.{table_words, Table, limit_words, Limited}

-- the words of exclusions in their order, and of limits
unfoldable pub rest_words : List Exclusion → List ℕ → List ℕ
rest_words xs limits = spread (map exclusion_group xs) ++ limit_words limits 0

-- behind those of the tables
unfoldable pub group_words : List ℕ → List ℕ → List ℕ → List Exclusion → List ℕ → List ℕ
group_words assigned granted juniors xs limits =
    table_words assign_word 64 assigned 0 ++ (table_words grant_word 256 granted 0 ++ (table_words senior_word 64 juniors 0 ++ rest_words xs limits))

-- behind the head
unfoldable pub words_by : Head → List ℕ → List ℕ → List ℕ → List Exclusion → List ℕ → List ℕ
words_by h assigned granted juniors xs limits =
    head_word h.users h.roles h.permissions ∷ group_words assigned granted juniors xs limits

-- the tables are those of so many users and roles
pub record Fitted (h : Head) (assigned granted juniors limits : List ℕ) : Type 0 where
  pub users : h.users ≤ 64
  pub roles : h.roles ≤ 64
  pub assigned_fits : Table h.users assigned
  pub granted_fits : Table h.roles granted
  pub juniors_fits : Table h.roles juniors
  pub limits_fit : Limited h.roles limits

-- the words from the head to the last before the end, by tables of which one has the roles assigned to each user and
-- one the direct juniors of each role
abbrev pub words_of : PolicyTables → List Exclusion → List ℕ
words_of t xs = words_by t.head t.authorized (values t.granted) t.below xs t.limits

abbrev pub FittedTables : PolicyTables → Type 0
FittedTables t = Fitted t.head t.authorized (values t.granted) t.below t.limits
