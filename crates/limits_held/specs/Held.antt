-- In how many sessions a role is active beside one of them.
-- Assumes nothing.
use Rattle.std.specs.Prelude.{List, ℕ, eqb}
use Rattle.model.specs.Tests.{pick}
use Rattle.model.specs.Sets.{sum_to}
use Rattle.model.specs.Line.{SESSIONS, holding, others}
use Rattle.model.specs.Run.{line_of, holding_of}

-- in how many sessions of user v role r is active, session k of user u left out
unfoldable pub held_but : List ℕ → ℕ → ℕ → ℕ → ℕ → ℕ
held_but ledger u k r v = pick (eqb v u) (holding r (others k (line_of SESSIONS ledger u).sessions)) (holding_of SESSIONS ledger r v)

-- the same for all of n users
unfoldable pub held_by_all : List ℕ → ℕ → ℕ → ℕ → ℕ → ℕ
held_by_all ledger u k n r = sum_to (held_but ledger u k r) n
