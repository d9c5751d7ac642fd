use mathlib.Core.Path.{sym, ap, ◌∙◌}
use mathlib.Core.List.{List}
use native.Mathlib.Omega.{arith}
use lib.Seq.{take_all}
use Rattle.model.specs.declared.Session.{Session}
use Rattle.model.specs.Line.{empty_session, write_sessions}
use Rattle.octets.specs.Splice.{splice}
use Rattle.octets.proofs.Splices.{splice_nil}
use Rattle.ledger.proofs.Places.{write_next}
use Rattle.ledger.proofs.bytes.put_sessions.Goals as goal

pub loop-k-init : goal.loop-k-init
unfolding write_sessions
loop-k-init c = sym (splice_nil c.args.s.now c.args.at)

pub loop-k-preserved : goal.loop-k-preserved
unfolding empty_session
loop-k-preserved c =
    let h = write_next c.args.s.now c.args.at c.args.sessions empty_session c.loop-k.k (omega arith) (omega arith) in
    cc h

pub returns : goal.returns
returns c =
    c.loop-k.invariant ∙ ap (λ (x : List Session). splice c.args.s.now c.args.at (write_sessions x)) (take_all c.loop-k.k c.args.sessions (omega arith))
