-- `asks_request::bounds::bound` meets its contract.
-- Assumes nothing.
use borrow.Author.Tests.{eq-eqb}
use Rattle.asks_request.proofs.PermissionSets.{bound_by}
use Rattle.asks_request.proofs.bounds.bound.Goals as goal

pub returns : goal.returns
returns c = (
  eq-eqb _ _ c.if-bytes-ne32.false,
  bound_by c.args.bytes.now _ _ _ _ c.if-bytes-ne32.false c.get_u64.ensures c.get_u64-2.ensures c.get_u64-3.ensures
      c.get_u64-4.ensures,
)
