-- The walk that finds the lowest role of a set that carries a permission, and what is told of it.
-- Assumes nothing.
use mathlib.Core.Path.{◌≡◌, refl, sym, ap, ◌∙◌}
use mathlib.Core.Bool.{Bool, true, false, ◌&&◌}
use mathlib.Core.Option.{Option, none, some}
use mathlib.Core.List.{List}
use lib.ListN.{get_or}
use Prim.Native.Nat.{ℕ, ◌+◌, ◌*◌, ◌^◌, ◌≤◌, ◌<◌}
use native.Mathlib.Omega.{arith}
use lib.Dec.{eqb}
use borrow.Author.Tests.{eqb-true, eqb-false}
use Rattle.model.specs.Tests.{is_some}
use Rattle.model.specs.Sets.{has, lowest_in}
use Rattle.model.specs.Session.{carrier, two_roles, with_granter, explanation}
use Rattle.model.specs.Policy.{granter_by}
use Rattle.model_laws.proofs.Bools.{not_both}
use Rattle.model_laws.proofs.UnionLaws.{has_none}
use Rattle.model_laws.proofs.LowestLaws.{lowest_some, lowest-named, unnamed_none, lowest_same}
use Rattle.sets.specs.Members.{without, Lowest}
use Rattle.sets.proofs.Taken.{without_other, without_lt, lowest_least}

-- ---- a walk up to the first member that passes a test

-- of the set s the members of left are still to come, and none before them passes
pub record Seeks (f : ℕ → Bool) (s left : ℕ) : Type 0 where
  pub small : left < 2 ^ 64
  pub same : lowest_in f left ≡ lowest_in f s

module _ (f : ℕ → Bool) (s : ℕ) where
  pub seeks_start : s < 2 ^ 64 → Seeks f s s
  seeks_start h = record { small = h; same = refl }

  -- the empty set has no member that passes
  pub seeks_end : (left : ℕ) → left ≡ 0 → Seeks f s left → lowest_in f s ≡ none
  seeks_end left e w =
      sym w.same ∙ ap (lowest_in f) e
      ∙ unnamed_none (lowest_in f 0)
      (λ q. let n = lowest-named f 0 q in not_both (has 0 n.0) ((lowest_some f 0 n.0).0 n.1).member (has_none n.0))

  module _ (left r : ℕ) (w : Seeks f s left) (l : Lowest left r) where
    -- the lowest member to come passes
    pub seeks_found : f r ≡ true → lowest_in f s ≡ some r
    seeks_found e =
        sym w.same
        ∙ (lowest_some f left r).1
        (record {
          small = l.small;
          member = l.member;
          passes = e;
          least = λ j b m q. let h : r ≤ j = lowest_least left r j l m in omega arith;
        })

    -- it does not, and is passed over
    pub seeks_next : f r ≡ false → (next : ℕ) → next ≡ without left r → Seeks f s next
    seeks_next e next n =
        rw n (record { small = without_lt 64 left r w.small l.small; same = lowest_same f f (without left r) left (λ j l. rest j) ∙ w.same })
      where
        passed : (j : ℕ) (b : Bool) → eqb j r ≡ b → (has (without left r) j && f j) ≡ (has left j && f j)
        passed j true q =
            let z : f j ≡ false = ap f (eqb-true j r q) ∙ e in
            both_false (has (without left r) j) (has left j) (f j) z
          where
            both_false : (a b x : Bool) → x ≡ false → (a && x) ≡ (b && x)
            both_false true true x h = refl
            both_false true false x h = h
            both_false false true x h = sym h
            both_false false false x h = refl
        passed j false q = ap (λ (b : Bool). b && f j) (without_other left r j l.member (eqb-false j r q))

        rest : (j : ℕ) → (has (without left r) j && f j) ≡ (has left j && f j)
        rest j = passed j (eqb j r) refl

-- ---- the walk ends at the lowest role that has a granting role, or at none
module _ (name : ℕ → Option ℕ) (s : ℕ) where
  pub explains_found : (r g : ℕ) → some g ≡ name r → (is_some (name r) ≡ true → lowest_in (λ k. is_some (name k)) s ≡ some r)
      → some (64 * r + g) ≡ explanation name s
  unfolding explanation carrier with_granter two_roles is_some
  explains_found r g e found =
      sym (ap (with_granter name) (found (ap is_some (sym e))) ∙ ap (two_roles r) (sym e))

  pub explains_none : lowest_in (λ k. is_some (name k)) s ≡ none → none ≡ explanation name s
  unfolding explanation carrier with_granter
  explains_none e = sym (ap (with_granter name) e)

-- a role that has no granting role
pub unnamed : (o : Option ℕ) → none ≡ o → is_some o ≡ false
unfolding is_some
unnamed o e = ap is_some (sym e)

-- a granting role is one of 64
pub granter_small : (reached : List ℕ) (holding : ℕ → Bool) (r g : ℕ) → some g ≡ granter_by reached holding r → g < 64
unfolding granter_by
granter_small reached holding r g e = ((lowest_some holding (get_or reached r 0) g).0 (sym e)).small
