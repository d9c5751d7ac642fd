-- `ledger::sound::named_in` meets its contract. The loop's invariant: with the roles named by the sessions to come,
-- `roles` are all.
-- Assumes nothing.
use mathlib.Core.Path.{◌≡◌}
use lib.Bits.{bit_or}
use lib.ListN.{drop}
use Rattle.ledger.specs.Held.{named_in}
use Rattle.ledger.proofs.sound.named_in.Given as goal

abbrev pub invariant-loop-s : goal.invariant-loop-s
invariant-loop-s l = bit_or l.roles (named_in (drop l.s-index l.fn.sessions)) ≡ named_in l.fn.sessions
