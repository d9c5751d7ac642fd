-- `hierarchy_loop::chain::seniors_among` meets its contract: the rows that it doesn't look at are empty.
-- Assumes nothing.
use mathlib.Core.Path.{sym, ◌∙◌}
use Rattle.std.proofs.Common.{rules}
use Rattle.model.specs.Sets.{meets}
use Rattle.model.specs.Loop.{seniors_of}
use Rattle.hierarchy_loop.proofs.Looping.{set_of_rest}
use Rattle.hierarchy_loop.proofs.chain.seniors_among.Goals as goal

pub returns : goal.returns
unfolding seniors_of meets
returns c = c.set_of.ensures _ (λ a b l e. search rules) ∙ sym (set_of_rest _ _ 64 c.requires.0 (λ b h. rw (c.requires.1 b h)))
