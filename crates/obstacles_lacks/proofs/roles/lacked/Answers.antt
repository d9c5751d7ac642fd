-- `obstacles_lacks::roles::lacked` meets its contract.
-- Assumes nothing.
use Rattle.obstacles_lacks.proofs.Carriers.{carry_less, told-nothing, told-one}
use Rattle.obstacles_lacks.proofs.roles.lacked.Goals as goal

pub returns-in_err-permission : goal.returns-in_err-permission
returns-in_err-permission c m kind h w =
    rw c.from_residual.ensures (told-nothing kind _ _ _ c.in_err-permission.was (c.lacking.ensures m (carry_less m _ _ _ h w)))

pub returns : goal.returns
returns c m kind h w =
    told-one kind _ _ _ _ _ c.in_ok-permission.was (c.lacking.ensures m (carry_less m _ _ _ h w)) (c.carriers_in-roles.ensures m h)
