-- Bytes are kept while there is room.
-- Assumes nothing.
use Rattle.std.proofs.Common.{rules}
use Rattle.script_input.proofs.Steps.{kept_all}
use Rattle.script_input.proofs.lines.BegunLine.keep_all.Goals as goal

pub returns : goal.returns
returns c =
    rw (← c.self.view_is) (kept_all c.self.inside.buffer c.self.inside.kept c.min-more.result c.args.bytes.now _
    (search rules) (search rules) (search rules) (search rules))
