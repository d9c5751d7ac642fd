-- What objectives make of larger sets: with objectives below 2 more roles rank no better.
-- Assumes nothing.
use Prim.Native.Nat.{ℕ, zero, suc, ◌≤◌, ◌<◌, zero-le}
use native.Mathlib.Omega.{arith}
use Rattle.model.specs.Sets.{count}
use Rattle.model.specs.Choice.{cost}
use Rattle.query.specs.Carry.{Sub}
use Rattle.query_rank.specs.Ranks.{key_by}
use Rattle.query.proofs.Members.{sub-le, sub_count}
use Rattle.search_steps.specs.Search.{Task, carries, rank_of}
use Rattle.search_steps.proofs.Carried.{carried_sub}

-- a fewer count costs no more, unless the objective is the most
cost_le : (a m n : ℕ) → a < 2 → m ≤ n → cost a m ≤ cost a n
unfolding cost
cost_le zero m n h l = zero-le
cost_le (suc zero) m n h l = l
cost_le (suc (suc a)) m n h l = absurd (omega arith)

pub cost-top : (a n : ℕ) → n ≤ 256 → cost a n ≤ 256
unfolding cost
cost-top zero n h = zero-le
cost-top (suc zero) n h = h
cost-top (suc (suc a)) n h = omega arith

-- where neither objective is the most, a larger set ranks no better
pub rank_grows : (t : Task) (c s : ℕ) → t.first < 2 → t.second < 2 → Sub c s → rank_of t c ≤ rank_of t s
unfolding key_by carries
rank_grows t c s h g sub =
    omega (
      arith,
      cost_le t.first (count 256 (carries t c)) (count 256 (carries t s)) h (sub_count 256 (carries t c) (carries t s) (carried_sub t.row 64 c s sub)),
      cost_le t.second (count 64 c) (count 64 s) g (sub_count 64 c s sub),
      sub-le c s sub,
    )
