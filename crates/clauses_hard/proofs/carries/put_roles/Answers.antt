use borrow.Author.Rules.{rules}
use Rattle.clauses_bytes.proofs.WritingLaws.{along_done}
use Rattle.clauses_hard.proofs.CarrierLaws.{roles_within, roles_start, roles_small, roles_none, roles_goes}
use Rattle.clauses_hard.proofs.carries.put_roles.Goals as goal

pub loop-r-init : goal.loop-r-init
loop-r-init c =
    rw (c.into_iter-r-iterator.ensures.into_iter_gives, c.members-r-items.ensures) (search (rules, roles_within, roles_start))

pub loop-r-preserved : goal.loop-r-preserved
loop-r-preserved c =
    let t = c.in-Some.ensures.steps in
    let i = c.loop-r.invariant in (
      roles_small _ _ _ _ i.0 t.lowest t.rest,
      search rules,
      roles_goes _ _ _ _ i.0 t.lowest t.rest (rw c.role_variable.ensures at c.put_literal-next.ensures) i.2,
    )

pub returns : goal.returns
returns c = along_done c.loop-r.invariant.2 (roles_none _ _ c.in-None.ensures.steps.0)
