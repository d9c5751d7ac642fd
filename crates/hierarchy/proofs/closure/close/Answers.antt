-- `hierarchy::closure::close` meets its contract.
-- Assumes nothing.
use native.Mathlib.Omega.{arith}
use Rattle.hierarchy.proofs.Closing.{empty_behind}
use Rattle.hierarchy.proofs.closure.close.Goals as goal

pub close_first-requires : goal.close_first-requires
close_first-requires c = (c.requires, omega arith, empty_behind 64 c.args.rows.now c.told-rows)
