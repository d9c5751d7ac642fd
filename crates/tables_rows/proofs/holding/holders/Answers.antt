-- `tables_rows::holding::holders` meets its contract.
-- Assumes nothing.
use Rattle.std.proofs.Common.{rules}
use Rattle.sets.proofs.Unions.{values_at}
use Rattle.tables_rows.specs.Holding.{holders_of}
use Rattle.tables_rows.proofs.holding.holders.Goals as goal

pub returns : goal.returns
unfolding holders_of
returns c = c.set_of.ensures _ (λ k b l e. rw (values_at c.args.granted.now k) (search rules))
