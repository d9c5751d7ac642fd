-- Each word is read, and the first that is unreadable refuses the line.
-- Assumes nothing.
use mathlib.Core.Path.{sym, ◌∙◌}
use Rattle.script_parse.proofs.FormLaws.{ask_of_four}
use Rattle.script_parse.proofs.parse.short_ask.Goals as goal

pub returns-in_err-decimal : goal.returns-in_err-decimal
returns-in_err-decimal c =
    rw c.from_residual.ensures (sym (ask_of_four _ _ _ _ ∙ rw (← c.in_err-decimal.ensures)))

pub returns-in_err-decimal-2 : goal.returns-in_err-decimal-2
returns-in_err-decimal-2 c =
    rw c.from_residual-in_err-decimal-2.ensures (sym (ask_of_four _ _ _ _ ∙ rw (← c.in_ok-decimal.ensures, ← c.in_err-decimal-2.ensures)))

pub returns-in_err-hexadecimal : goal.returns-in_err-hexadecimal
returns-in_err-hexadecimal c =
    rw c.from_residual-in_err-hexadecimal.ensures
    (sym (ask_of_four _ _ _ _ ∙ rw (← c.in_ok-decimal.ensures, ← c.in_ok-decimal-2.ensures, ← c.in_err-hexadecimal.ensures)))

pub returns-in_err-hexadecimal-2 : goal.returns-in_err-hexadecimal-2
returns-in_err-hexadecimal-2 c =
    rw c.from_residual-in_err-hexadecimal-2.ensures
    (
    sym
    (
    ask_of_four _ _ _ _
    ∙ rw (
      ← c.in_ok-decimal.ensures,
      ← c.in_ok-decimal-2.ensures,
      ← c.in_ok-hexadecimal.ensures,
      ← c.in_err-hexadecimal-2.ensures,
    )
    )
    )

pub returns : goal.returns
returns c =
    sym (ask_of_four _ _ _ _ ∙ rw (← c.in_ok-decimal.ensures, ← c.in_ok-decimal-2.ensures, ← c.in_ok-hexadecimal.ensures, ← c.in_ok-hexadecimal-2.ensures))
