-- Numbers that stand for an objective: each ranks as the objective's own.
-- Assumes nothing.
use mathlib.Core.Path.{◌≡◌, refl, sym, ap}
use Prim.Native.Nat.{ℕ, zero, suc}
use native.Mathlib.Nat.{le_refl}
use native.Mathlib.Omega.{arith}
use Rattle.model.specs.Sets.{count}
use Rattle.model.specs.Choice.{cost}
use Rattle.query_rank.specs.declared.objective.Objective.{Objective}
use Rattle.query_rank.specs.declared.objective.Objective.TheVariants.{Any, Fewest, Most}
use Rattle.query_rank.specs.Objectives.{number_of, Stands}
use Rattle.query_rank.specs.Ranks.{key_by}

-- an objective's own number stands for it
pub stands : (o : Objective) → Stands o (number_of o)
stands Any = refl
stands Fewest = refl
stands Most = le_refl 2

-- numbers that stand for one objective cost alike
pub cost_standing : (o : Objective) (a n : ℕ) → Stands o a → cost (number_of o) n ≡ cost a n
unfolding cost
cost_standing Any a n h = ap (λ (x : ℕ). cost x n) (sym h)
cost_standing Fewest a n h = ap (λ (x : ℕ). cost x n) (sym h)
cost_standing Most zero n h = absurd (omega arith)
cost_standing Most (suc zero) n h = absurd (omega arith)
cost_standing Most (suc (suc a)) n h = refl

pub key_standing : (o q : Objective) (a b : ℕ) → Stands o a → Stands q b → (c s : ℕ) → key_by (number_of o) (number_of q) c s ≡ key_by a b c s
unfolding key_by
key_standing o q a b h k c s = rw (cost_standing o a (count 256 c) h, cost_standing q b (count 64 s) k) refl
