-- `obstacles_lacks::roles::lacked_by_any` meets its contract: none, or the first kind, or else the other two.
-- Assumes nothing.
use borrow.Author.Rules.{rules}
use Rattle.model.specs.Policy.{meaning}
use Rattle.sets.proofs.Machine.{value_lt}
use Rattle.obstacles_lacks.specs.Founds.{found_of}
use Rattle.obstacles_lacks.proofs.Within.{found_lack, or_told, or_clear, own_lacks_lem, clear_lacks}
use Rattle.obstacles_lacks.proofs.roles.lacked_by_any.Goals as goal

pub returns-in_err-lacking : goal.returns-in_err-lacking
returns-in_err-lacking c =
    let w = value_lt c.args.lower (search rules) in (
      c.ranges.own.fits,
      w,
      λ p u x l k g b o f h. rw c.from_residual.ensures
          (clear_lacks (meaning p u) x l k _ _ c.args.rows.now _ _ o f c.ranges.own.fits c.ranges.free.fits h w
          _ c.usable-least.ensures _ c.in_err-lacking.was (c.lacking.ensures (meaning p u))),
    )

pub returns-in-Some : goal.returns-in-Some
unfolding found_of
returns-in-Some c = (
  c.ranges.own.fits,
  value_lt _ (search rules),
  λ p u x l k g b o f h.
      or_told _ _ _ (found_lack 1 _ _ _ c.in-Some.is (own_lacks_lem (meaning p u) _ _ _ o (c.lacked_by_own.ensures p u g b h))),
)

pub returns-in-None : goal.returns-in-None
returns-in-None c = (
  c.ranges.own.fits,
  value_lt _ (search rules),
  λ p u x l k g b o f h.
      or_clear 1 _ _ _ _ c.in-None.is (own_lacks_lem (meaning p u) _ _ _ o (c.lacked_by_own.ensures p u g b h))
      (c.lacked_within.ensures (meaning p u) x l k o f h),
)
