-- How a run ends: the ledger that it leaves, and the line that it leaves a user.
-- Assumes nothing.
use Rattle.std.specs.Prelude.{List, [], ◌∷◌, ℕ}
use Rattle.model.specs.Session.{Result}
use Rattle.model.specs.Run.{Event}
use Rattle.model.specs.Independence.{Run, events_of}

-- the ledger after the last of the answers, the first one where there is none
unfoldable pub last_ledger : List ℕ → List Event → List ℕ
last_ledger ledger [] = ledger
last_ledger ledger (e ∷ es) = last_ledger e.ledger es

-- the ledger that a run leaves
unfoldable pub left_by : (W : ℕ) → Run W → List ℕ
left_by W r = last_ledger r.ledger (events_of W r)

-- the line after the last of a user's answers, the first one where there is none
unfoldable pub last_line : List ℕ → List Result → List ℕ
last_line bs [] = bs
last_line bs (r ∷ rs) = last_line r.line rs
