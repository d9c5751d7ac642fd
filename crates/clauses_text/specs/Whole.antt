-- The whole clause text, by the words that the code has.
-- Assumes nothing.
use Rattle.std.specs.Prelude.{List, ◌++◌, ℕ, ◌+◌, length}
use Rattle.model.specs.Clauses.{Clause, Weighted, top}
use Rattle.model.specs.Dimacs.{clauses_text, head_text, weighing}
use Rattle.sets.specs.Words.{value}
use Rattle.query_rank.specs.Objectives.{number_of}
use Rattle.query_reduced.specs.declared.reduced.ReducedExclusion.{ReducedExclusion}
use Rattle.query_reduced.specs.Met.{masks_of, ns_of}
use Rattle.clauses_hard.specs.declared.question.Question.{Question}
use Rattle.clauses_hard.specs.Sizes.{helpers_to}
use Rattle.clauses_hard.specs.Parts.{rows_of, hard_by}
use Rattle.clauses_soft.specs.Soft.{soft_by}

-- the hard clauses, heavier than all soft ones together, then the soft ones
unfoldable pub clauses_by : ℕ → ℕ → ℕ → (ℕ → ℕ) → ℕ → ℕ → List ℕ → List ℕ → ℕ → ℕ → ℕ → List Weighted
clauses_by R P s row lower upper masks ns k a b =
    weighing (top (soft_by R P a b)) (hard_by R P s row lower upper masks ns k) ++ soft_by R P a b

unfoldable pub text_by : ℕ → ℕ → ℕ → (ℕ → ℕ) → ℕ → ℕ → List ℕ → List ℕ → ℕ → ℕ → ℕ → List ℕ
text_by R P s row lower upper masks ns k a b =
    head_text (R + P + helpers_to masks ns k) (length (clauses_by R P s row lower upper masks ns k a b)) (top (soft_by R P a b))
    ++ clauses_text (clauses_by R P s row lower upper masks ns k a b)

-- the same of a question, by the rows of what roles carry and the reduced exclusions
abbrev pub hard_for : Question → List (List ℕ) → List ReducedExclusion → List Clause
hard_for q rows xs =
    hard_by q.variables.roles q.variables.permissions q.authorized (rows_of rows) (value q.lower) (value q.upper) (masks_of xs) (ns_of xs) (length xs)

-- the text, with these numbers for the objectives, and with the objectives' own
abbrev pub text_with : ℕ → ℕ → Question → List (List ℕ) → List ReducedExclusion → List ℕ
text_with a b q rows xs =
    text_by q.variables.roles q.variables.permissions q.authorized (rows_of rows) (value q.lower) (value q.upper) (masks_of xs) (ns_of xs) (length xs)
    a b

abbrev pub text_for : Question → List (List ℕ) → List ReducedExclusion → List ℕ
text_for q = text_with (number_of q.first) (number_of q.second) q
