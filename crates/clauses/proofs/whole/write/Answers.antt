-- `clauses::whole::write` meets its contract.
-- Assumes nothing.
use native.Mathlib.Omega.{arith}
use Rattle.clauses.proofs.WrittenLaws.{written, unwritten}
use Rattle.clauses.proofs.whole.write.Goals as goal

pub returns-then-out-size : goal.returns-then-out-size
returns-then-out-size c a b h k =
    λ small. unwritten _ _ (omega (arith, small)) ((c.needed-size.ensures a b h k small).too_long c.if-out-size.true) c.if-out-size.true

pub returns : goal.returns
returns c a b h k =
    λ small. written _ _ (omega (arith, small)) (c.put_text.ensures a b h k) ((c.needed-size.ensures a b h k small).fits c.if-out-size.false)
