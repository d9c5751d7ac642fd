-- Each turn reads at most 65,536 bytes and answers no more calls than that, so that the calls stay within 64 bits.
-- Assumes nothing.
use Prim.Native.Nat.{◌*◌, ◌≤◌}
use Rattle.nutrameza_script.proofs.input.answer_each.Given as goal

abbrev pub invariant-loop-turn : goal.invariant-loop-turn
invariant-loop-turn g l =
    l.calls ≤ 65536 * l._turn
