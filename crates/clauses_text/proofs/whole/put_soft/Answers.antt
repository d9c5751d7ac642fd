-- `clauses_text::whole::put_soft` meets its contract.
-- Assumes nothing.
use Rattle.clauses_text.proofs.WholeLaws.{soft_put}
use Rattle.clauses_text.proofs.whole.put_soft.Goals as goal

pub returns : goal.returns
returns c a b h k = soft_put _ _ a b (c.put_wanting_roles.ensures b k) (c.put_wanting_permissions-a.ensures a h)
