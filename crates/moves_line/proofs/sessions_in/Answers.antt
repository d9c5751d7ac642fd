use mathlib.Core.Path.{◌≡◌, refl, ap, ◌∙◌}
use Prim.Native.Nat.{ℕ, ◌-◌}
use native.Mathlib.Omega.{arith}
use lib.ListN.{drop, replicate, length-set}
use Rattle.model.specs.Line.{SESSIONS, line_size, read_sessions, empty_session}
use Rattle.ledger.proofs.Places.{read_next}
use Rattle.moves_line.proofs.OneLine.{rest_next, filled_whole}
use Rattle.moves_line.proofs.sessions_in.Goals as goal

pub loop-k-init : goal.loop-k-init
unfolding read_sessions empty_session
loop-k-init c = (refl, refl, refl)

pub loop-k-preserved : goal.loop-k-preserved
loop-k-preserved c = (
  simp length-set c.loop-k.invariant.0,
  read_next c.args.line.now.bytes.now 16 c.loop-k.k c.loop-k.sessions c.session_at-next.result c.loop-k.invariant.1 (omega arith) c.session_at-next.ensures,
  rest_next SESSIONS c.loop-k.k c.loop-k.sessions c.session_at-next.result empty_session (omega arith) c.loop-k.invariant.2,
)

pub session_at-next-requires : goal.session_at-next-requires
unfolding line_size
session_at-next-requires c = omega (arith, c.args.line.now.whole)

pub returns : goal.returns
returns c =
    let e : c.loop-k.k ≡ c.args.line.now.sessions = omega arith in
    filled_whole c.loop-k.k c.loop-k.sessions _ _ (c.loop-k.invariant.1 ∙ ap (λ (k : ℕ). read_sessions k (drop 16 c.args.line.now.bytes.now)) e)
    (c.loop-k.invariant.2 ∙ ap (λ (k : ℕ). replicate (SESSIONS - k) empty_session) e)
