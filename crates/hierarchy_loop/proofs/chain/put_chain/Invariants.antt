-- `hierarchy_loop::chain::put_chain` meets its contract. The invariant: so many bytes of the chain are written, and a
-- chain leads on from the last.
-- Assumes nothing.
use Rattle.hierarchy_loop.proofs.Looping.{Down}
use Rattle.hierarchy_loop.proofs.chain.put_chain.Given as goal

abbrev pub invariant-loop-i : goal.invariant-loop-i
invariant-loop-i l = Down l.juniors l.fn.r.0 l.n l.i l.a.0 l.byte-items
