-- `ledger::bytes::session_at` meets its contract.
-- Assumes nothing.
use mathlib.Core.Path.{ap}
use mathlib.Core.List.{List}
use Prim.Native.Nat.{ℕ}
use lib.ListN.{take}
use lib.Seq.{drop-drop}
use borrow.Author.Rules.{rules}
use Rattle.model.specs.Bytes.{number}
use Rattle.octets.specs.Splice.{number_at}
use Rattle.ledger.specs.Places.{session_in}
use Rattle.ledger.proofs.bytes.session_at.Statement.{statement}
use Rattle.ledger.proofs.bytes.session_at.Tie as tie

returns : tie.Need-returns
unfolding session_in number_at
returns c =
    let a = c.before.before.before.args in
    let e = ap (λ (l : List ℕ). number (take 8 l)) (drop-drop 8 a.at a.s.now) in
    cc e

pub session_at_spec : {M : Type 1} → statement M
session_at_spec = tie.close (tie.spec (λ c κs. search rules) (λ c. search rules) (λ c κs. search rules) returns)
