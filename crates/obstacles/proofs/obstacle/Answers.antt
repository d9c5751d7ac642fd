-- `obstacles::obstacle` meets its contract: the kinds 1 to 3, or else the fourth.
-- Assumes nothing.
use Rattle.obstacles.proofs.FourKinds.{asked, told_three, told_fourth, found_blocking, found-nothing}
use Rattle.obstacles.proofs.obstacle.Goals as goal

pub returns-in-Some : goal.returns-in-Some
returns-in-Some c p u x g =
    told_three p u x _ _ _ _ _ _ _ _ g c.lacked_by_any.ensures.0 c.fill_carried.ensures _ _ _ c.lacked_by_any.ensures.2 _ c.in-Some.is

pub returns-in_err-exclusion-in-None : goal.returns-in_err-exclusion-in-None
returns-in_err-exclusion-in-None c p u x g =
    rw c.from_residual.ensures
    (told_fourth p u x _ _ _ _ _ _ _ _ g c.lacked_by_any.ensures.0 c.fill_carried.ensures _ _ _ c.lacked_by_any.ensures.2 c.in-None.is
    c.lacked_by_any.ensures.1 _
    (λ h. found-nothing _ _ c.in_err-exclusion-in-None.was
    (c.blocked.ensures p u x (asked p u x _ _ _ _ _ _ _ _ g c.lacked_by_any.ensures.0 c.fill_carried.ensures) h)))

pub returns-in_ok-exclusion-in-None : goal.returns-in_ok-exclusion-in-None
returns-in_ok-exclusion-in-None c p u x g =
    told_fourth p u x _ _ _ _ _ _ _ _ g c.lacked_by_any.ensures.0 c.fill_carried.ensures _ _ _ c.lacked_by_any.ensures.2 c.in-None.is
    c.lacked_by_any.ensures.1 _
    (λ h. found_blocking _ _ _ c.in_ok-exclusion-in-None.was
    (c.blocked.ensures p u x (asked p u x _ _ _ _ _ _ _ _ g c.lacked_by_any.ensures.0 c.fill_carried.ensures) h))
