-- `search_steps::first_step` meets its contract: the chosen roles are given up, carry the lower bound, or lack a
-- permission that is taken up.
-- Assumes nothing.
use mathlib.Core.Path.{sym, ◌∙◌}
use Rattle.query_rank.proofs.Numbers.{stands}
use Rattle.search_steps.proofs.Turns.{gives_up, reaches}
use Rattle.search_steps.proofs.first_step.Goals as goal

pub returns-then-no_worse : goal.returns-then-no_worse
returns-then-no_worse c =
    gives_up _ _ _ _ _ _ c.requires.ready (c.rank_of-better.ensures _ _ (stands _) (stands _)) c.no_worse.ensures _ c.requires.modest c.if-no_worse.true

pub returns-then-perm_within : goal.returns-then-perm_within
returns-then-perm_within c =
    reaches _ _ _ _ _ _ c.requires.ready (c.rank_of-better.ensures _ _ (stands _) (stands _)) c.no_worse.ensures _ c.requires.modest c.if-no_worse.false _
    c.perm_within.ensures c.if-perm_within.true

pub returns : goal.returns
returns c = c.permission_step.ensures (sym c.perm_within.ensures ∙ c.if-perm_within.false)
