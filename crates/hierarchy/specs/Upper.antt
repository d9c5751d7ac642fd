-- A table whose upper rows are empty.
-- Assumes nothing.
use Rattle.std.specs.Prelude.{◌≡◌, List, ℕ, ◌≤◌, get_or}

-- the rows from n on are empty
abbrev pub EmptyFrom : ℕ → List ℕ → Type 0
EmptyFrom n rows = (r : ℕ) → n ≤ r → get_or rows r 0 ≡ 0
