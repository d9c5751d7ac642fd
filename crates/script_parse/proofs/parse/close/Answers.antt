use mathlib.Core.Path.{sym, ◌∙◌}
use Rattle.script_parse.proofs.FormLaws.{close_is}
use Rattle.script_parse.proofs.parse.close.Goals as goal

pub returns-in_err-user : goal.returns-in_err-user
returns-in_err-user c = rw c.from_residual.ensures (sym (close_is _ ∙ rw (← c.in_err-user.ensures)))

pub returns : goal.returns
returns c = sym (close_is _ ∙ rw (← c.in_ok-user.ensures))
