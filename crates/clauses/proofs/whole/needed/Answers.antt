-- `clauses::whole::needed` meets its contract.
-- Assumes nothing.
use native.Mathlib.Omega.{arith}
use Rattle.clauses.proofs.WrittenLaws.{size_told, needs_size}
use Rattle.clauses.proofs.whole.needed.Goals as goal

pub returns : goal.returns
returns c a b h k = λ small. needs_size _ _ _ (size_told _ (omega (arith, small)) (c.put_text.ensures a b h k))
