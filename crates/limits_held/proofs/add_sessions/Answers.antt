use mathlib.Core.Path.{◌≡◌, refl}
use native.Mathlib.Omega.{arith}
use lib.ListN.{length, get_or}
use Rattle.model.specs.Sets.{has}
use Rattle.model.specs.Line.{SESSIONS, empty_session}
use Rattle.model_laws.proofs.SetLaws.{one-most}
use Rattle.limits_held.proofs.Holding.{holding-next, holding_end}
use Rattle.limits_held.proofs.add_sessions.Goals as goal

pub loop-s-init : goal.loop-s-init
loop-s-init c r = (refl, omega arith)

pub loop-s-preserved : goal.loop-s-preserved
unfolding empty_session
loop-s-preserved c r =
    let n : length c.args.sessions ≡ SESSIONS = omega arith in
    let i = c.loop-s.invariant r in
    let q = c.with-all.ensures r (omega (arith, i.1, c.requires r)) in
    let h = holding-next r c.args.sessions empty_session c.loop-s.s-index (omega arith) in (
      omega (arith, q, h, i.0),
      omega (arith, q, i.1, one-most (has (get_or c.args.sessions c.loop-s.s-index empty_session).active r)),
    )

pub returns : goal.returns
returns c r =
    let n : length c.args.sessions ≡ SESSIONS = omega arith in
    let i = c.loop-s.invariant r in
    let e = holding_end r c.args.sessions c.loop-s.s-index (omega arith) in
    (omega (arith, i.0, e), omega (arith, i.1))
