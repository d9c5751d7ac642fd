-- `ledger::bytes::put_session` meets its contract.
-- Assumes nothing.
use borrow.Author.Rules.{rules}
use Rattle.ledger.specs.Places.{session_bytes}
use Rattle.ledger.proofs.Places.{put_two}
use Rattle.ledger.proofs.bytes.put_session.Statement.{statement}
use Rattle.ledger.proofs.bytes.put_session.Tie as tie

returns : tie.Need-returns
unfolding session_bytes
returns c =
    let p = c.before.before.before.before.before.before in
    let a = p.before.before.before.args in
    let h = put_two a.s.now a.at a.session.active a.session.history (search rules) in
    cc h

pub put_session_spec : {M : Type 1} → statement M
put_session_spec = tie.close (tie.spec (λ c κs. search rules) (λ c. search rules) (λ c κs. search rules) (λ c. search rules) returns)
