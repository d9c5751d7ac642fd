-- The text of an ask's clauses, in the classic DIMACS form for weighted clauses: a line `p wcnf`, with the numbers of
-- variables and clauses and the weight of a hard clause, then a line for each clause: its weight, its literals, and 0.
-- Numbers are decimal, one blank between two.
-- Assumes nothing.
use Rattle.std.specs.Prelude.{true, false, List, [], ◌∷◌, ◌++◌, map, ℕ, zero, suc, ◌+◌, ◌/◌, ◌%◌, ltb, length}
use Prim.Native.Char.{code}
use Prim.Native.String.{String}
use Prim.Native.String as text
use Rattle.model.specs.declared.Exclusion.{Exclusion}
use Rattle.model.specs.declared.Line.{Line}
use Rattle.model.specs.Policy.{Meaning}
use Rattle.model.specs.Clauses.{Literal, holds, fails, Clause, Weighted, last_plain, helpers, hard, soft, top}

-- a text of ASCII letters as bytes
unfoldable pub ascii : String → List ℕ
ascii text.[] = []
ascii (text.◌∷◌ c s) = code c ∷ ascii s

-- ---- numbers

-- the last digit
unfoldable pub figure : ℕ → ℕ
figure n = 48 + n % 10

-- the digits of n, at most k and one more, the highest first, without leading zeros
unfoldable pub digits_to : ℕ → ℕ → List ℕ
digits_to zero n = figure n ∷ []
digits_to (suc k) n = elim (ltb n 10) [ true ↦ figure n ∷ [] | false ↦ digits_to k (n / 10) ++ (figure n ∷ []) ]

-- n has at most n digits, or one
unfoldable pub decimal : ℕ → List ℕ
decimal n = digits_to n n

-- ---- lines

-- a literal behind a blank, with a minus sign where its variable is to be false
unfoldable pub literal_text : Literal → List ℕ
literal_text (holds x) = 32 ∷ decimal x
literal_text (fails x) = 32 ∷ 45 ∷ decimal x

unfoldable pub literals_text : Clause → List ℕ
literals_text [] = []
literals_text (t ∷ ts) = literal_text t ++ literals_text ts

unfoldable pub clause_text : Weighted → List ℕ
clause_text c = decimal c.weight ++ (literals_text c.clause ++ (32 ∷ 48 ∷ 10 ∷ []))

unfoldable pub clauses_text : List Weighted → List ℕ
clauses_text [] = []
clauses_text (c ∷ cs) = clause_text c ++ clauses_text cs

-- `p wcnf`, the number of variables, the number of clauses, the weight of a hard clause
unfoldable pub head_text : ℕ → ℕ → ℕ → List ℕ
head_text variables clauses weight =
    ascii "p wcnf " ++ (decimal variables ++ ((32 ∷ decimal clauses) ++ ((32 ∷ decimal weight) ++ (10 ∷ []))))

-- ---- the clauses of an ask

-- how many helpers the exclusions have
unfoldable pub helpers_of : Line → ℕ → List Exclusion → ℕ
helpers_of l k [] = 0
helpers_of l k (x ∷ xs) = helpers l k x + helpers_of l k xs

-- the last variable
unfoldable pub variables_of : Meaning → Line → ℕ → ℕ
variables_of m l k = last_plain m + helpers_of l k m.exclusions

-- clauses of one weight
unfoldable pub weighing : ℕ → List Clause → List Weighted
weighing w cs = map (λ c. record { weight = w; clause = c }) cs

-- the hard clauses, heavier than all soft ones together, then the soft ones
unfoldable pub clauses_of : Meaning → Line → ℕ → ℕ → ℕ → ℕ → ℕ → List Weighted
clauses_of m l k lower upper a b = weighing (top (soft m a b)) (hard m l k lower upper) ++ soft m a b

-- the text of an ask for session k of the line l
unfoldable pub text_of : Meaning → Line → ℕ → ℕ → ℕ → ℕ → ℕ → List ℕ
text_of m l k lower upper a b =
    let cs = clauses_of m l k lower upper a b in
    head_text (variables_of m l k) (length cs) (top (soft m a b)) ++ clauses_text cs
