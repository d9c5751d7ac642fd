-- `calls_image::check_image` meets its contract.
-- Assumes nothing.
use mathlib.Core.Path.{ap, sym, ◌∙◌}
use Rattle.model.specs.Image.{check_number}
use Rattle.calls_image.proofs.Images.{checked-number}
use Rattle.calls_image.proofs.check_image.Goals as goal

pub returns : goal.returns
returns c = c.refused.ensures ∙ sym (checked-number c.judge.result) ∙ ap check_number c.judge.ensures
