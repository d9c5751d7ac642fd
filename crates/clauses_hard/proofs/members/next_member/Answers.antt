use native.Mathlib.Omega.{arith}
use borrow.Author.Rules.{rules}
use Rattle.clauses_hard.proofs.MemberLaws.{between_word, next_found}
use Rattle.clauses_hard.proofs.members.next_member.Goals as goal

pub returns-then-left-ne0 : goal.returns-then-left-ne0
returns-then-left-ne0 c =
    next_found _ _ _ _ c.loop-at.invariant.1 c.rest-left.ensures _ c.lowest_bit.result _
    c.loop-at.invariant.0 c.loop-at-test.true c.lowest_bit.ensures
    (record { first = omega arith; second = omega arith; reached = λ q. omega (arith, q) })

pub loop-at-preserved : goal.loop-at-preserved
loop-at-preserved c = search (rules, between_word)
