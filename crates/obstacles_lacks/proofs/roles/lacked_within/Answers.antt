-- `obstacles_lacks::roles::lacked_within` meets its contract: the second kind, or else the third.
-- Assumes nothing.
use Rattle.obstacles_lacks.proofs.Within.{found_lack, found-nothing, or_told, or_clear, upper-lacks, limit_lacks_lem}
use Rattle.obstacles_lacks.specs.Founds.{found_of}
use Rattle.obstacles_lacks.proofs.roles.lacked_within.Goals as goal

pub returns-in-Some : goal.returns-in-Some
unfolding found_of
returns-in-Some c m x l k o f h =
    or_told _ _ _
    (found_lack 2 _ _ _ c.in-Some.is
    (upper-lacks m x l k _ _ c.args.rows.now _ _ o f c.ranges.own.fits c.ranges.free.fits h _ c.usable-fit.ensures _ (c.lacked.ensures m 2)))

pub returns-in_err-lack-in-None : goal.returns-in_err-lack-in-None
returns-in_err-lack-in-None c m x l k o f h =
    rw c.from_residual.ensures
    (or_clear 2 _ _ _ _ c.in-None.is
    (upper-lacks m x l k _ _ c.args.rows.now _ _ o f c.ranges.own.fits c.ranges.free.fits h _ c.usable-fit.ensures _ (c.lacked.ensures m 2))
    (found-nothing 3 _ _ c.in_err-lack-in-None.was
    (limit_lacks_lem m x l k _ _ c.args.rows.now _ _ o f c.ranges.own.fits c.ranges.free.fits h _ c.usable-fit.ensures _ c.usable-left.ensures _
    (c.lacked-in-None.ensures m 3))))

pub returns-in_ok-lack-in-None : goal.returns-in_ok-lack-in-None
unfolding found_of
returns-in_ok-lack-in-None c m x l k o f h =
    or_clear 2 _ _ _ _ c.in-None.is
    (upper-lacks m x l k _ _ c.args.rows.now _ _ o f c.ranges.own.fits c.ranges.free.fits h _ c.usable-fit.ensures _ (c.lacked.ensures m 2))
    (found_lack 3 _ _ _ c.in_ok-lack-in-None.was
    (limit_lacks_lem m x l k _ _ c.args.rows.now _ _ o f c.ranges.own.fits c.ranges.free.fits h _ c.usable-fit.ensures _ c.usable-left.ensures _
    (c.lacked-in-None.ensures m 3)))
