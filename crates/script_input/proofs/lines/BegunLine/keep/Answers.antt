-- A byte is kept while there is room.
-- Assumes nothing.
use borrow.Author.Rules.{rules}
use Rattle.script_input.proofs.Steps.{kept_one, kept_none}
use Rattle.script_input.proofs.lines.BegunLine.keep.Goals as goal

pub returns-then-self-lt174 : goal.returns-then-self-lt174
returns-then-self-lt174 c =
    rw (← c.self.view_is) (kept_one c.self.inside.buffer c.self.inside.kept c.args.c (search rules) (search rules))

pub returns-else-self-lt174 : goal.returns-else-self-lt174
returns-else-self-lt174 c =
    rw (← c.self.view_is) (kept_none c.self.inside.buffer c.self.inside.kept c.args.c (search rules) (search rules) (search rules))
