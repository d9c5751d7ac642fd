-- The literals and clauses of the code as the model has them.
-- Assumes nothing.
use Rattle.std.specs.Prelude.{List, map, ℕ, ◌<◌}
use Rattle.model.specs.Clauses.{Literal as ModelLiteral, holds, fails, Clause}
use Rattle.clauses_lines.specs.declared.lines.Literal.{Literal}
use Rattle.clauses_lines.specs.declared.lines.Literal.TheVariants.{Holds, Fails}

abbrev pub literal_of : Literal → ModelLiteral
literal_of (Holds x) = holds x
literal_of (Fails x) = fails x

abbrev pub clause_of : List Literal → Clause
clause_of ts = map literal_of ts

abbrev pub variable_of : Literal → ℕ
variable_of (Holds x) = x
variable_of (Fails x) = x

-- the variable has at most six digits
pub record Short (t : Literal) : Type 0 where
  pub six : variable_of t < 1000000
