-- `limits_lines::lines::lines_refusal` meets its contract. The invariant: the lines from v on refuse as all do.
-- Assumes nothing.
use mathlib.Core.Path.{◌≡◌}
use Prim.Native.Nat.{◌-◌}
use Rattle.model.specs.Policy.{Policy}
use Rattle.model.specs.Line.{SESSIONS}
use Rattle.exclusion_rows.specs.Table.{exclusions_of}
use Rattle.sessions.specs.Calls.{Known}
use Rattle.limits_lines.specs.Lines.{lines_refusal}
use Rattle.limits_lines.proofs.lines.lines_refusal.Given as goal

abbrev pub invariant-loop-v : goal.invariant-loop-v
invariant-loop-v l =
    (p : Policy) → Known l.tables.head l.tables.authorized (exclusions_of l.tables.exclusions) p
    → lines_refusal SESSIONS p l.ledger l.user l.v (l.v-end - l.v) ≡ lines_refusal SESSIONS p l.ledger l.user 0 l.v-end
