-- What is claimed of the text of an ask's clauses: the numbers in its head, its lines and its length.
-- Assumes nothing.
use Rattle.std.specs.Prelude.{◌≡◌, Bool, true, false, List, [], ◌∷◌, ℕ, suc, ◌+◌, ◌≤◌, eqb, length}
use Rattle.model.specs.declared.Line.{Line}
use Rattle.model.specs.Tests.{between, all}
use Rattle.model.specs.Policy.{Meaning}
use Rattle.model.specs.Limits.{Others}
use Rattle.model.specs.Clauses.{Literal, holds, fails, Clause, hard, Weighted, soft, top}
use Rattle.model.specs.Dimacs.{variables_of, clauses_of, text_of}
use Rattle.model.specs.Session.{Query, clauses, rule}

unfoldable pub variable_of : Literal → ℕ
variable_of (holds x) = x
variable_of (fails x) = x

-- the clause's variables are among 1 to n
unfoldable pub numbered : ℕ → Clause → Bool
numbered n c = all (λ t. between 1 (variable_of t) n) c

-- how many lines a text has
unfoldable pub line_count : List ℕ → ℕ
line_count [] = 0
line_count (b ∷ bs) = elim (eqb b 10) [ true ↦ suc (line_count bs) | false ↦ line_count bs ]

-- the head's numbers are right: every variable of the clauses is one of those that it counts, and it counts the lines
-- that follow
pub record TextIs (m : Meaning) (l : Line) (k lower upper a b : ℕ) : Type 0 where
  pub variables : all (λ (c : Weighted). numbered (variables_of m l k) c.clause) (clauses_of m l k lower upper a b) ≡ true
  pub clauses : length (clauses_of m l k lower upper a b) ≡ length (hard m l k lower upper) + length (soft m a b)
  pub lines : line_count (text_of m l k lower upper a b) ≡ 1 + length (clauses_of m l k lower upper a b)

-- no text has more bytes
abbrev pub TEXT_ROOM : ℕ
TEXT_ROOM = 8388608

-- the head's numbers and the text's length are small
pub record TextSmall (m : Meaning) (l : Line) (k lower upper a b : ℕ) : Type 0 where
  pub variables : variables_of m l k ≤ 131392
  pub clauses : length (clauses_of m l k lower upper a b) ≤ 279680
  pub weight : top (soft m a b) ≤ 16705
  pub bytes : length (text_of m l k lower upper a b) ≤ TEXT_ROOM

-- so a buffer of that many bytes has room for every text: no clause text into it is refused by 19
abbrev pub RoomEnough : ℕ → Meaning → Type 0
RoomEnough W m = (x : Others) (bs : List ℕ) (k : ℕ) (q : Query) → TEXT_ROOM ≤ q.room → ¬ ((rule W m x bs (clauses k q)).reply.number ≡ 19)
