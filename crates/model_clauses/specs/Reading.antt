-- A reader of the classic DIMACS form for weighted clauses, written from the form alone and not from the writer: bytes
-- to lines, lines to words at single blanks, words to numbers, and the numbers to a head and clauses. What does not
-- have the form is not read.
-- Assumes nothing.
use Rattle.std.specs.Prelude.{◌≡◌, refl, true, false, ◌&&◌, List, [], ◌∷◌, map, ℕ, zero, suc, ◌+◌, ◌-◌, ◌*◌, eqb, get_or, length}
use Rattle.std.proofs.Math.Option.{Option, none, some}
use Rattle.model.specs.Tests.{between, same_list}
use Rattle.model.specs.declared.Line.{Line}
use Rattle.model.specs.Policy.{Meaning}
use Rattle.model.specs.Clauses.{Literal, holds, fails, Clause, hard, Weighted, soft, top}
use Rattle.model.specs.Dimacs.{ascii, variables_of, text_of}
use Rattle.model.specs.Computing.{computing}

-- what is made of a thing that was read, nothing where none was
unfoldable pub and_then : {A B : Type 0} → Option A → (A → Option B) → Option B
and_then none f = none
and_then (some x) f = f x

-- the words `0`, `p` and `wcnf`, by the ASCII codes of their letters
unfoldable pub zero_word : List ℕ
zero_word = 48 ∷ []

unfoldable pub p_word : List ℕ
p_word = 112 ∷ []

unfoldable pub wcnf_word : List ℕ
wcnf_word = 119 ∷ 99 ∷ 110 ∷ 102 ∷ []

-- ---- lines and words

-- a byte in front of the first line; behind the last newline no byte may stand
unfoldable pub line_begun : ℕ → List (List ℕ) → Option (List (List ℕ))
line_begun c [] = none
line_begun c (l ∷ ls) = some ((c ∷ l) ∷ ls)

-- the lines of a text, each of which ends in a newline (10)
unfoldable pub lines_of : List ℕ → Option (List (List ℕ))
lines_of [] = some []
lines_of (c ∷ cs) = elim (eqb c 10) [ true ↦ and_then (lines_of cs) (λ ls. some ([] ∷ ls)) | false ↦ and_then (lines_of cs) (line_begun c) ]

-- a byte in front of the first word
unfoldable pub word_begun : ℕ → List (List ℕ) → List (List ℕ)
word_begun c [] = (c ∷ []) ∷ []
word_begun c (w ∷ ws) = (c ∷ w) ∷ ws

-- the words of a line, one blank (32) between two; a blank at either end or beside another makes an empty word
unfoldable pub words_of : List ℕ → List (List ℕ)
words_of [] = [] ∷ []
words_of (c ∷ cs) = elim (eqb c 32) [ true ↦ [] ∷ words_of cs | false ↦ word_begun c (words_of cs) ]

-- ---- numbers

-- the number whose digits so far make n, with the digits (48 to 57) that are left
unfoldable pub digits_from : ℕ → List ℕ → Option ℕ
digits_from n [] = some n
digits_from n (c ∷ cs) = elim (between 48 c 57) [ true ↦ digits_from (10 * n + (c - 48)) cs | false ↦ none ]

-- a number has at least one digit
unfoldable pub number_in : List ℕ → Option ℕ
number_in [] = none
number_in (c ∷ cs) = digits_from 0 (c ∷ cs)

-- ---- clauses

-- a variable's number is not 0
unfoldable pub variable_in : ℕ → Option ℕ
variable_in zero = none
variable_in (suc x) = some (suc x)

-- a variable is to be false where a minus sign (45) stands in front of its number, else true
unfoldable pub literal_in : List ℕ → Option Literal
literal_in [] = none
literal_in (c ∷ cs) =
    elim (eqb c 45) [
      | true ↦ and_then (and_then (number_in cs) variable_in) (λ x. some (fails x))
      | false ↦ and_then (and_then (number_in (c ∷ cs)) variable_in) (λ x. some (holds x))
    ]

-- the literals of a clause, up to the last word, which is 0
unfoldable pub clause_in : List (List ℕ) → Option Clause
clause_in [] = none
clause_in (w ∷ []) = elim (same_list w zero_word) [ true ↦ some [] | false ↦ none ]
clause_in (w ∷ v ∷ ws) = and_then (literal_in w) (λ t. and_then (clause_in (v ∷ ws)) (λ ts. some (t ∷ ts)))

-- the words of a line: the weight, and the clause
unfoldable pub weighted_in : List (List ℕ) → Option Weighted
weighted_in [] = none
weighted_in (w ∷ ws) = and_then (number_in w) (λ n. and_then (clause_in ws) (λ c. some (record { weight = n; clause = c })))

unfoldable pub all_weighted : List (List ℕ) → Option (List Weighted)
all_weighted [] = some []
all_weighted (l ∷ ls) = and_then (weighted_in (words_of l)) (λ c. and_then (all_weighted ls) (λ cs. some (c ∷ cs)))

-- ---- the whole text

-- the numbers of a head: of variables, of clauses, and the weight from which on a clause is hard
pub record Heading : Type 0 where
  pub variables : ℕ
  pub clauses : ℕ
  pub top : ℕ

-- `p wcnf` and three numbers
unfoldable pub heading_in : List (List ℕ) → Option Heading
heading_in ws =
    elim (eqb (length ws) 5 && same_list (get_or ws 0 []) p_word && same_list (get_or ws 1 []) wcnf_word) [
      | true ↦ and_then (number_in (get_or ws 2 [])) (λ v. and_then (number_in (get_or ws 3 [])) (λ c. and_then (number_in (get_or ws 4 [])) (λ t.
          some (record { variables = v; clauses = c; top = t }))))
      | false ↦ none
    ]

-- the clauses whose weight is the head's
unfoldable pub hard_in : ℕ → List Weighted → List Clause
hard_in t [] = []
hard_in t (c ∷ cs) = elim (eqb c.weight t) [ true ↦ c.clause ∷ hard_in t cs | false ↦ hard_in t cs ]

-- the others, with their weights
unfoldable pub soft_in : ℕ → List Weighted → List Weighted
soft_in t [] = []
soft_in t (c ∷ cs) = elim (eqb c.weight t) [ true ↦ soft_in t cs | false ↦ c ∷ soft_in t cs ]

-- what a text says: the head's numbers, the hard clauses, and the soft ones
pub record Problem : Type 0 where
  pub heading : Heading
  pub hard : List Clause
  pub soft : List Weighted

unfoldable pub problem_of : Heading → List Weighted → Problem
problem_of h cs = record { heading = h; hard = hard_in h.top cs; soft = soft_in h.top cs }

-- the first line is the head, each other line a clause
unfoldable pub problem_in : List (List ℕ) → Option Problem
problem_in [] = none
problem_in (l ∷ ls) = and_then (heading_in (words_of l)) (λ h. and_then (all_weighted ls) (λ cs. some (problem_of h cs)))

-- what a text is read as
unfoldable pub read_text : List ℕ → Option Problem
read_text text = and_then (lines_of text) problem_in

-- a hard clause of two literals and a soft one
pub small_text : read_text (ascii "p wcnf 2 2 4\n4 1 -2 0\n3 2 0\n")
    ≡ some
    (record {
      heading = record { variables = 2; clauses = 2; top = 4 };
      hard = (holds 1 ∷ fails 2 ∷ []) ∷ [];
      soft = record { weight = 3; clause = holds 2 ∷ [] } ∷ [];
    })
unfolding computing and_then zero_word p_word wcnf_word line_begun lines_of word_begun words_of digits_from number_in variable_in literal_in clause_in
    weighted_in all_weighted heading_in hard_in soft_in problem_of problem_in read_text
small_text = refl

-- texts that do not have the form: no newline at the end, two blanks, a blank behind the last word, a clause without
-- its 0, a variable 0
pub not_texts : map read_text (map ascii ("p wcnf 1 1 2\n2 1 0" ∷ "p wcnf 1 1 2\n2  1 0\n" ∷ "p wcnf 1 1 2\n2 1 0 \n" ∷ "p wcnf 1 1 2\n2 1\n"
    ∷ "p wcnf 1 1 2\n2 -0 0\n" ∷ []))
    ≡ none ∷ none ∷ none ∷ none ∷ none ∷ []
unfolding computing and_then zero_word p_word wcnf_word line_begun lines_of word_begun words_of digits_from number_in variable_in literal_in clause_in
    weighted_in all_weighted heading_in hard_in soft_in problem_of problem_in read_text
not_texts = refl

-- ---- what is claimed

-- the text of an ask is read as the number of its variables, the number of its clauses, the weight of a hard clause,
-- and exactly its hard and its soft clauses, in their order
abbrev pub ReadsBack : Meaning → Line → ℕ → ℕ → ℕ → ℕ → ℕ → Type 0
ReadsBack m l k lower upper a b =
    read_text (text_of m l k lower upper a b)
    ≡ some
    (record {
      heading = record {
        variables = variables_of m l k;
        clauses = length (hard m l k lower upper) + length (soft m a b);
        top = top (soft m a b);
      };
      hard = hard m l k lower upper;
      soft = soft m a b;
    })
