-- How role sets rank, and what no set between two can better.
-- Assumes nothing.
use Rattle.std.specs.Prelude.{◌≡◌, true, ◌⊎◌, ℕ, ◌+◌, ◌-◌, ◌*◌, ◌^◌, ◌≤◌}
use Rattle.model.specs.Sets.{has, within, count}
use Rattle.model.specs.Choice.{cost}
use Rattle.sets.specs.Words.{value}
use Rattle.query_rank.specs.declared.Best.{Best}
use Rattle.query_rank.specs.declared.Job.{Job}
use Rattle.query.specs.Carry.{Sub}
use Rattle.query_rank.specs.declared.objective.Objective.{Objective}
use Rattle.query_rank.specs.declared.objective.Objective.TheVariants.{Any, Fewest, Most}
use Rattle.query_rank.specs.Objectives.{number_of, Stands}

-- what an objective makes at least of counts from `few` to `many`
abbrev pub least_of : Objective → ℕ → ℕ → ℕ
least_of Any few many = 0
least_of Fewest few many = few
least_of Most few many = 256 - many

-- r is what an objective makes of a count of at most 256
pub record Costs (objective n r : ℕ) : Type 0 where
  pub same : r ≡ cost objective n
  pub small : r ≤ 256

-- the key of the roles s, which carry the permissions c, by the objectives a and b: the lower, the better
unfoldable pub key_by : ℕ → ℕ → ℕ → ℕ → ℕ
key_by a b c s = cost a (count 256 c) * 512 + cost b (count 64 s)

-- the same by a job's objectives
abbrev pub key_for : Job → ℕ → ℕ → ℕ
key_for job = key_by (number_of job.first) (number_of job.second)

-- a set's rank by its key and then by its number: the lower, the better
abbrev pub rank : ℕ → ℕ → ℕ
rank key s = key * 2 ^ 64 + s

abbrev pub rank_at : Best → ℕ
rank_at a = rank a.key a.roles

-- s has the chosen roles, and beside them only free ones
pub record Between (chosen free s : ℕ) : Type 0 where
  pub least : Sub chosen s
  pub most : (i : ℕ) → has s i ≡ true → (has chosen i ≡ true) ⊎ (has free i ≡ true)

-- ---- the chosen roles judged, which carry the permissions `carried`

-- r is a, or the chosen roles where they carry the lower bound: the better, with the key k of the chosen roles
pub record JudgedBy (k lower chosen carried : ℕ) (a r : Best) : Type 0 where
  pub old : rank_at r ≤ rank_at a
  pub new : (r ≡ a) ⊎ ((within lower carried ≡ true) × (r ≡ record { key = k; roles = chosen }))
  pub least : within lower carried ≡ true → rank_at r ≤ rank k chosen

-- by each two numbers that stand for the objectives
abbrev pub Judged : Job → ℕ → ℕ → Best → Best → Type 0
Judged job chosen carried a r =
    (m n : ℕ) → Stands job.first m → Stands job.second n → JudgedBy (key_by m n carried chosen) (value job.lower) chosen carried a r

-- r is the chosen roles with their key, by each two numbers that stand for the objectives
abbrev pub Ranked : Job → ℕ → ℕ → Best → Type 0
Ranked job chosen carried r =
    (m n : ℕ) → Stands job.first m → Stands job.second n → r ≡ record { key = key_by m n carried chosen; roles = chosen }

-- ---- what no set between can better

-- r is at most 256, and an objective makes no less of the count, below d, of any set with the members of a and none
-- outside b
pub record LeastCost (d objective a b r : ℕ) : Type 0 where
  pub small : r ≤ 256
  pub least : (s : ℕ) → Sub a s → Sub s b → r ≤ cost objective (count d s)

-- r is no more than the key of any set between that carries the permissions `carried` and none outside `top`
abbrev pub LeastKey : Job → ℕ → ℕ → ℕ → ℕ → ℕ → Type 0
LeastKey job chosen free carried top r = (s c : ℕ) → Between chosen free s → Sub carried c → Sub c top → r ≤ key_for job c s

-- by each two numbers that stand for the objectives: no set between that carries the lower bound, the permissions
-- `carried` and none outside `top` ranks before a
abbrev pub Settled : Job → ℕ → ℕ → ℕ → ℕ → Best → Type 0
Settled job chosen free carried top a =
    (m n : ℕ) → Stands job.first m → Stands job.second n
    → (s c : ℕ) → Between chosen free s → Sub carried c → Sub c top → within (value job.lower) c ≡ true
    → rank_at a ≤ rank (key_by m n c s) s
