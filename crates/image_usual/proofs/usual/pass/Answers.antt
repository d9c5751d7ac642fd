use Rattle.image_usual.proofs.Runs.{filled_none}
use Rattle.image_usual.proofs.usual.pass.Goals as goal

pub returns-then-due-ne0 : goal.returns-then-due-ne0
returns-then-due-ne0 g c = filled_none

pub returns-then-h-gt64 : goal.returns-then-h-gt64
returns-then-h-gt64 g c = filled_none

pub loop-here-init : goal.loop-here-init
loop-here-init g c = filled_none
