-- Bounds of a search: the least that an objective makes of the sets between two, and that no set within these bounds is
-- better.
-- Assumes nothing.
use mathlib.Core.Path.{◌≡◌, refl, sym, ◌∙◌}
use mathlib.Core.Bool.{Bool, true, false}
use mathlib.Core.Logic.{◌⊎◌, inl, inr}
use Prim.Native.Nat.{ℕ, ◌+◌, ◌*◌, ◌≤◌, zero-le}
use native.Mathlib.Omega.{arith}
use lib.Dec.{leb}
use borrow.Author.Tests.{leb-true}
use Rattle.model.specs.Sets.{has, union, within, count}
use Rattle.model.specs.Choice.{cost}
use Rattle.model_laws.proofs.Bools.{not_both}
use Rattle.model_laws.proofs.Ranks.{count-le}
use Rattle.sets.specs.Words.{value}
use Rattle.query.specs.Carry.{Sub}
use Rattle.query.proofs.Members.{sub_within, within_sub, sub-le, sub_count, left_sub, right_sub}
use Rattle.query_rank.specs.declared.Best.{Best}
use Rattle.query_rank.specs.declared.Job.{Job}
use Rattle.query_rank.specs.declared.objective.Objective.{Objective}
use Rattle.query_rank.specs.declared.objective.Objective.TheVariants.{Any, Fewest, Most}
use Rattle.query_rank.specs.Objectives.{number_of}
use Rattle.query_rank.specs.Ranks.{least_of, key_by, rank, rank_at, Between, LeastCost, LeastKey, Settled}
use Rattle.query_rank.proofs.Numbers.{key_standing}

between_sub : (chosen free s : ℕ) → Between chosen free s → Sub s (union chosen free)
between_sub chosen free s b i m = go (b.most i m)
  where
    go : (has chosen i ≡ true) ⊎ (has free i ≡ true) → has (union chosen free) i ≡ true
    go (inl h) = left_sub chosen free i h
    go (inr h) = right_sub chosen free i h

-- ---- the least that an objective makes of a count: of the fewest members where it is the fewest, else of the most
pub least_cost : (o : Objective) (d a b few : ℕ) → d ≤ 256 → (o ≡ Fewest → few ≡ count d a)
    → LeastCost d (number_of o) a b (least_of o few (count d b))
unfolding cost
least_cost Any d a b few l f = record { small = zero-le; least = λ _ _ _. zero-le }
least_cost Fewest d a b few l f = record { small = omega (arith, f refl, count-le d a, l); least = λ s lo hi. rw (f refl) (sub_count d a s lo) }
least_cost Most d a b few l f = record { small = omega arith; least = λ s lo hi. omega (arith, sub_count d s b hi) }

-- ---- no set within the bounds is better
module _ (job : Job) (chosen free carried top : ℕ) where
  pub key_bound : (x y : ℕ) → LeastCost 256 (number_of job.first) carried top x → LeastCost 64 (number_of job.second) chosen (union chosen free) y
      → LeastKey job chosen free carried top (x * 512 + y)
  unfolding key_by
  key_bound x y p q s c b lo hi = omega (arith, p.least c lo hi, q.least s b.least (between_sub chosen free s b))

  -- the lower bound has a permission outside top
  pub settled_short : (a : Best) (w : Bool) → w ≡ within (value job.lower) top → w ≡ false → Settled job chosen free carried top a
  settled_short a w e f _ _ _ _ s c b lo hi m =
      not_both (within (value job.lower) top)
      (sub_within (value job.lower) top (λ i h. hi i (within_sub (value job.lower) c m i h))) (sym e ∙ f)

  -- the best so far is no worse than the least key with the lowest set number
  pub settled-rank : (a : Best) (key : ℕ) (w : Bool) → LeastKey job chosen free carried top key → w ≡ leb (rank_at a) (rank key chosen) → w ≡ true
      → Settled job chosen free carried top a
  settled-rank a key w least e f x y h k s c b lo hi m =
      omega (
        arith,
        leb-true (rank_at a) (rank key chosen) (sym e ∙ f),
        least s c b lo hi,
        sub-le chosen s b.least,
        key_standing job.first job.second x y h k c s,
      )
