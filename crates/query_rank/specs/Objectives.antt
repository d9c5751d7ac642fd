-- Objectives by their numbers.
-- Assumes nothing.
use Rattle.std.specs.Prelude.{◌≡◌, ◌<◌, ◌≤◌, ℕ, Result, MatchResult}
use Rattle.reasons.specs.declared.Reason.{Reason}
use Rattle.reasons.specs.declared.Reason.TheVariants.{Aim}
use Rattle.query_rank.specs.declared.objective.Objective.{Objective}
use Rattle.query_rank.specs.declared.objective.Objective.TheVariants.{Any, Fewest, Most}

-- the number of an objective
abbrev pub number_of : Objective → ℕ
number_of Any = 0
number_of Fewest = 1
number_of Most = 2

-- the number stands for the objective: 0 for any, 1 for the fewest, every number from 2 up for the most
abbrev pub Stands : Objective → ℕ → Type 0
Stands Any n = n ≡ 0
Stands Fewest n = n ≡ 1
Stands Most n = 2 ≤ n

-- the result is the objective with this number, or the reason that there is none
abbrev pub Reads : ℕ → Result Objective Reason → Type 0
Reads n r = MatchResult r (λ o. number_of o ≡ n) (λ e. (e ≡ Aim) × (2 < n))
