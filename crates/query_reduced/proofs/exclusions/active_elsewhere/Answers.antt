-- `query_reduced::exclusions::active_elsewhere` meets its contract: session k is emptied first.
-- Assumes nothing.
use borrow.Author.Rules.{rules}
use native.Mathlib.Omega.{arith}
use mathlib.Core.Path.{◌≡◌, ◌∙◌}
use lib.ListN.{length}
use Rattle.model.specs.Line.{SESSIONS, empty_session}
use Rattle.query_reduced.proofs.Reductions.{active_emptied}
use Rattle.query_reduced.proofs.exclusions.active_elsewhere.Goals as goal

pub returns : goal.returns
unfolding empty_session
returns c =
    let n : length c.args.sessions ≡ SESSIONS = search rules in
    c.active_in.ensures ∙ active_emptied c.args.sessions c.args.k (omega arith)
