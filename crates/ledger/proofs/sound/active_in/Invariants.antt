-- `ledger::sound::active_in` meets its contract. The loop's invariant: with the roles active in the sessions to come,
-- `roles` are all.
-- Assumes nothing.
use mathlib.Core.Path.{◌≡◌}
use lib.Bits.{bit_or}
use lib.ListN.{drop}
use Rattle.model.specs.Line.{active_in}
use Rattle.ledger.proofs.sound.active_in.Given as goal

abbrev pub invariant-loop-s : goal.invariant-loop-s
invariant-loop-s l = bit_or l.roles (active_in (drop l.s-index l.fn.sessions)) ≡ active_in l.fn.sessions
