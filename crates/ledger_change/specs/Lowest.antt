-- The lowest closed session of a line.
-- Assumes nothing.
use Rattle.std.specs.Prelude.{◌≡◌, ◌<◌, false, ℕ, Option, Some, None}
use Rattle.model.specs.declared.Line.{Line}
use Rattle.model.specs.Line.{SESSIONS, is_open, lowest_closed}

-- the lowest closed session is found, or all are open
abbrev pub IsLowestClosed : Line → Option ℕ → Type 0
IsLowestClosed l None = lowest_closed l 0 SESSIONS ≡ SESSIONS
IsLowestClosed l (Some k) = (k ≡ lowest_closed l 0 SESSIONS) × (k < SESSIONS) × (is_open l k ≡ false)
