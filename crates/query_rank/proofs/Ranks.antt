-- Ranks: what an objective makes of a count, the key, two ranks compared, and the chosen roles judged.
-- Assumes nothing.
use mathlib.Core.Path.{◌≡◌, refl, sym, ap, subst, ◌∙◌}
use mathlib.Core.Bool.{Bool, true, false}
use mathlib.Core.Logic.{inl, inr}
use Prim.Native.Nat.{ℕ, ◌+◌, ◌-◌, ◌*◌, ◌≤◌, zero-le}
use native.Mathlib.Nat.{le_refl, le_of_lt}
use native.Mathlib.Omega.{arith}
use lib.Dec.{leb}
use borrow.Author.Tests.{leb-true, leb-false}
use Rattle.model.specs.Sets.{within, count}
use Rattle.model.specs.Choice.{cost}
use Rattle.model_laws.proofs.Bools.{not_both}
use Rattle.sets.specs.Words.{value}
use Rattle.query_rank.specs.declared.Best.{Best}
use Rattle.query_rank.specs.declared.Job.{Job}
use Rattle.query_rank.specs.declared.objective.Objective.{Objective}
use Rattle.query_rank.specs.declared.objective.Objective.TheVariants.{Any, Fewest, Most}
use Rattle.query_rank.specs.Objectives.{number_of, Stands}
use Rattle.query_rank.specs.Ranks.{least_of, Costs, key_by, rank, rank_at, Judged, Ranked}

-- ---- what an objective makes of a count
pub cost_least : (o : Objective) (few n : ℕ) → n ≤ 256 → (o ≡ Fewest → few ≡ n) → Costs (number_of o) n (least_of o few n)
unfolding cost
cost_least Any few n h f = record { same = refl; small = zero-le }
cost_least Fewest few n h f = record { same = f refl; small = rw (f refl) h }
cost_least Most few n h f = record { same = refl; small = omega arith }

-- ---- the key
pub key_joins : (a b c s x y : ℕ) → Costs a (count 256 c) x → Costs b (count 64 s) y → x * 512 + y ≡ key_by a b c s
unfolding key_by
key_joins a b c s x y p q = rw (p.same, q.same)

-- ---- the chosen roles judged
module _ (job : Job) (chosen carried : ℕ) (a : Best) where
  -- they lack some of the lower bound
  pub judged_short : (w : Bool) → w ≡ within (value job.lower) carried → w ≡ false → Judged job chosen carried a a
  judged_short w e f _ _ _ _ =
      record { old = le_refl (rank_at a); new = inl refl; least = λ m. not_both (within (value job.lower) carried) m (sym e ∙ f) }

  module _ (next : Best) (b : Bool) (ranked : Ranked job chosen carried next) (compared : b ≡ leb (rank_at a) (rank_at next)) where
    same : (m n : ℕ) → Stands job.first m → Stands job.second n → rank_at next ≡ rank (key_by m n carried chosen) chosen
    same m n h k = ap rank_at (ranked m n h k)

    -- the best so far is no worse
    pub judged_worse : b ≡ true → Judged job chosen carried a a
    judged_worse f m n h k =
        record {
          old = le_refl (rank_at a);
          new = inl refl;
          least = λ _. subst (λ (x : ℕ). rank_at a ≤ x) (same m n h k) (leb-true (rank_at a) (rank_at next) (sym compared ∙ f));
        }

    pub judged-best : b ≡ false → (w : Bool) → w ≡ within (value job.lower) carried → w ≡ true → Judged job chosen carried a next
    judged-best f w e g m n h k =
        record {
          old = le_of_lt (leb-false (rank_at a) (rank_at next) (sym compared ∙ f));
          new = inr (sym e ∙ g, ranked m n h k);
          least = λ _. subst (λ (x : ℕ). rank_at next ≤ x) (same m n h k) (le_refl (rank_at next));
        }
