use mathlib.Core.Path.{◌≡◌, refl, sym, ap, ◌∙◌}
use Prim.Native.Nat.{ℕ}
use native.Mathlib.Omega.{arith}
use lib.ListN.{drop, length-set}
use lib.Seq.{take_all}
use Rattle.model.specs.Line.{SESSIONS, read_sessions}
use Rattle.ledger.proofs.Places.{read_next}
use Rattle.ledger.proofs.bytes.sessions_at.Goals as goal

pub loop-k-init : goal.loop-k-init
unfolding read_sessions
loop-k-init c = (refl, refl)

pub loop-k-preserved : goal.loop-k-preserved
loop-k-preserved c = (
  simp length-set c.loop-k.invariant.0,
  read_next c.args.s.now c.args.at c.loop-k.k _ c.session_at.result c.loop-k.invariant.1 (omega arith) c.session_at.ensures,
)

pub returns : goal.returns
returns c =
    let e : c.loop-k.k ≡ SESSIONS = omega arith in
    sym (take_all c.loop-k.k _ (omega arith)) ∙ c.loop-k.invariant.1 ∙ ap (λ (k : ℕ). read_sessions k (drop c.args.at c.args.s.now)) e
