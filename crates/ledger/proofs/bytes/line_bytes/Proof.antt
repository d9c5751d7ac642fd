-- `ledger::bytes::line_bytes` meets its contract.
-- Assumes nothing.
use mathlib.Core.Path.{◌≡◌, ap}
use Prim.Native.Nat.{ℕ, ◌+◌, ◌-◌, ◌*◌}
use native.Mathlib.Omega.{arith}
use lib.ListN.{take, drop}
use borrow.Author.Rules.{rules}
use Rattle.model.specs.Run.{line_at}
use Rattle.ledger.proofs.bytes.line_bytes.Statement.{statement}
use Rattle.ledger.proofs.bytes.line_bytes.Tie as tie

returns : tie.Need-returns
unfolding line_at
returns c =
    let a = c.before.args in
    let e : a.size * a.user + a.size - a.size * a.user ≡ a.size = omega arith in
    ap (λ (n : ℕ). take n (drop (a.size * a.user) a.ledger.now)) e

pub line_bytes_spec : {M : Type 1} → statement M
line_bytes_spec =
    tie.close (tie.spec (λ c. search rules) (λ c. search rules) (λ c. search rules) (λ c. search rules) (λ c. search rules) returns)
