-- `obstacles_lacks::roles::lacked_by_own` meets its contract.
-- Assumes nothing.
use mathlib.Core.Path.{◌∙◌}
use Rattle.model.specs.Policy.{meaning}
use Rattle.obstacles_lacks.proofs.Carriers.{carry_all, every_carriers, told-nothing, told-one}
use Rattle.obstacles_lacks.proofs.roles.lacked_by_own.Goals as goal

pub returns-in_err-permission : goal.returns-in_err-permission
returns-in_err-permission c p u g b h =
    rw c.from_residual.ensures (told-nothing 1 _ _ _ c.in_err-permission.was (c.lacking.ensures (meaning p u) h))

pub returns : goal.returns
returns c p u g b h =
    told-one 1 _ _ _ _ _ c.in_ok-permission.was (c.lacking.ensures (meaning p u) h)
    (c.carriers_in-roles.ensures (meaning p u) (carry_all p u _ _ _ g b c.carried-table.ensures) ∙ every_carriers (meaning p u) _)
