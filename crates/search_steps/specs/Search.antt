-- What a search is given and what it finds, with sets as numbers.
-- Assumes nothing.
use Rattle.std.specs.Prelude.{◌≡◌, Bool, true, ◌&&◌, ◌⊎◌, List, ℕ, ◌≤◌, ◌<◌}
use Rattle.model.specs.Sets.{has, within, union_to}
use Rattle.sets.specs.Words.{value}
use Rattle.query_rank.specs.declared.Best.{Best}
use Rattle.query_reduced.specs.Met.{reduced_met}
use Rattle.query.specs.Carry.{rows_of, Turned}
use Rattle.query_rank.specs.Objectives.{number_of, Stands}
use Rattle.query_rank.specs.Ranks.{key_by, rank, rank_at, Between}
use Rattle.search_steps.specs.declared.Query.{Query}
use Rattle.query_rank.specs.declared.Node.{Node}

-- ---- the task

-- what is searched: what each role carries, the lower bound, the role sets that meet the exclusions, and the
-- objectives for permissions and for roles
pub record Task : Type 0 where
  pub row : ℕ → ℕ
  pub lower : ℕ
  pub met : ℕ → Bool
  pub first : ℕ
  pub second : ℕ

-- a query's task, with these numbers for its objectives
abbrev pub task_by : ℕ → ℕ → Query → Task
task_by a b q =
    record {
      row = rows_of q.rows.now;
      lower = value q.job.lower;
      met = reduced_met q.exclusions.now;
      first = a;
      second = b;
    }

-- the same with the objectives' own numbers
abbrev pub task_of : Query → Task
task_of q = task_by (number_of q.job.first) (number_of q.job.second) q

-- the permissions that the roles of s carry
unfoldable pub carries : Task → ℕ → ℕ
carries t s = union_to t.row s 64

-- the roles of s carry the lower bound and meet the exclusions
unfoldable pub serves : Task → ℕ → Bool
serves t s = within t.lower (carries t s) && t.met s

-- ---- ranks

-- the key and the rank of a role set, by what it carries
abbrev pub key_of : Task → ℕ → ℕ
key_of t s = key_by t.first t.second (carries t s) s

abbrev pub rank_of : Task → ℕ → ℕ
rank_of t s = rank (key_of t s) s

-- ---- a step of a search: what it is given, and what it hands back

-- the permissions that the chosen roles carry are these, and the roles meet the exclusions
pub record Ready (t : Task) (chosen carried : ℕ) : Type 0 where
  pub carry : carried ≡ carries t chosen
  pub met : t.met chosen ≡ true

-- neither objective is the most
pub record Modest (t : Task) : Type 0 where
  pub permissions : t.first < 2
  pub roles : t.second < 2

-- what Procedure 3 steps on from: a node, objectives of which neither is the most, and the turned table, right for the
-- free roles
pub record Steps (t : Task) (turned : List ℕ) (node : Node) : Type 0 where
  pub ready : Ready t node.chosen (value node.carried)
  pub modest : Modest t
  pub carriers : Turned t.row turned t.lower node.free

-- r is a set between that serves, with its key
pub record Served (t : Task) (chosen free : ℕ) (r : Best) : Type 0 where
  pub between : Between chosen free r.roles
  pub serving : serves t r.roles ≡ true
  pub keyed : r.key ≡ key_of t r.roles

-- r is the best of a and of the sets between that serve
pub record Found (t : Task) (chosen free : ℕ) (a r : Best) : Type 0 where
  pub old : rank_at r ≤ rank_at a
  pub new : (r ≡ a) ⊎ Served t chosen free r
  pub least : (s : ℕ) → Between chosen free s → serves t s ≡ true → rank_at r ≤ rank_of t s

-- r is the best of a and of sets between that serve, among them all those with a role of tries
pub record Tried (t : Task) (tries chosen free : ℕ) (a r : Best) : Type 0 where
  pub old : rank_at r ≤ rank_at a
  pub new : (r ≡ a) ⊎ Served t chosen free r
  pub least : (s i : ℕ) → Between chosen free s → serves t s ≡ true → has tries i ≡ true → has s i ≡ true → rank_at r ≤ rank_of t s

-- by each two numbers that stand for the objectives: r is the best of a and of the sets between that serve
abbrev pub FoundFor : Query → ℕ → ℕ → Best → Best → Type 0
FoundFor q chosen free a r = (m n : ℕ) → Stands q.job.first m → Stands q.job.second n → Found (task_by m n q) chosen free a r
