-- `image_reader::entry_after` meets its contract: what stands at the place after is what stands one further.
-- Assumes nothing.
use Rattle.std.proofs.Common.{ap, ◌∙◌}
use Rattle.image_reader.specs.Places.{found_at}
use Rattle.image_reader.proofs.PlaceLaws.{found_after}
use Rattle.image_reader.proofs.entry_after.Goals as goal

pub returns : goal.returns
returns c = c.next.ensures.steps.0 ∙ ap (found_at c.args.image.now) c.place_after.ensures ∙ found_after c.args.image.now c.args.place
