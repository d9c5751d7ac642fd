-- One law for each way in which a step of a search returns: what it hands back is the best of the sets that it stands
-- for.
-- Assumes nothing.
use mathlib.Core.Path.{◌≡◌, refl, sym, ap, subst, ◌∙◌}
use mathlib.Core.Bool.{true, false}
use mathlib.Core.Logic.{◌⊎◌, inl, inr}
use Prim.Native.Nat.{ℕ, ◌≤◌, ◌<◌}
use native.Mathlib.Nat.{le_refl, le_trans}
use Rattle.model.specs.Sets.{has, with, within}
use Rattle.model_laws.proofs.Bools.{and_l, and_r, both, not_both}
use Rattle.sets.specs.Members.{without}
use Rattle.query_rank.specs.declared.Best.{Best}
use Rattle.query.specs.Carry.{Sub}
use Rattle.query_rank.specs.Ranks.{rank_at, Between}
use Rattle.query.proofs.Members.{within_sub, no_member, either}
use Rattle.search_steps.specs.Search.{Task, carries, serves, key_of, rank_of, Served, Found, Tried}
use Rattle.search_steps.proofs.Between.{with_sub, fewer-stays, between-with, between-without, between-old, between_new, between-chosen, between_none}
use Rattle.search_steps.proofs.Carried.{carried_by_lem, carried_in}
use Rattle.search_steps.proofs.Costs.{rank_grows}

-- the chosen roles as the best set
abbrev pub best_at : Task → ℕ → Best
best_at t s = record { key = key_of t s; roles = s }

served : (t : Task) (chosen free : ℕ) → within t.lower (carries t chosen) ≡ true → t.met chosen ≡ true → Served t chosen free (best_at t chosen)
unfolding serves
served t chosen free l m =
    record { between = between-chosen chosen free; serving = both (within t.lower (carries t chosen)) (t.met chosen) l m; keyed = refl }

-- ---- Procedure 3, where neither objective is the most: a permission is taken up
module _ (t : Task) (chosen free : ℕ) (a : Best) (one : t.first < 2) (two : t.second < 2) where
  -- the best so far is no worse than the chosen roles, and so than any set with them
  pub given_up : rank_at a ≤ rank_of t chosen → Found t chosen free a a
  given_up h =
      record { old = le_refl (rank_at a); new = inl refl; least = λ s b _. le_trans h (rank_grows t chosen s one two b.least) }

  -- the chosen roles carry the lower bound
  pub reached : rank_of t chosen ≤ rank_at a → within t.lower (carries t chosen) ≡ true → t.met chosen ≡ true → Found t chosen free a (best_at t chosen)
  reached h l m =
      record { old = h; new = inr (served t chosen free l m); least = λ s b _. rank_grows t chosen s one two b.least }

-- the permission p of the lower bound is not carried yet, and tries has the free roles that carry it
module _ (t : Task) (chosen free p tries : ℕ) (a r : Best) where
  pub taken_up : has t.lower p ≡ true → has (carries t chosen) p ≡ false → ((i : ℕ) → has free i ≡ true → has (t.row i) p ≡ true → has tries i ≡ true)
      → Tried t tries chosen free a r → Found t chosen free a r
  unfolding serves carries
  taken_up wanted lacking all f =
      record {
        old = f.old;
        new = f.new;
        least = λ s b m. go s b m
            (carried_by_lem t.row s p 64 (within_sub t.lower (carries t s) (and_l (within t.lower (carries t s)) (t.met s) m) p wanted));
      }
    where
      go : (s : ℕ) → Between chosen free s → serves t s ≡ true → (i : ℕ) × (i < 64) × (has s i ≡ true) × (has (t.row i) p ≡ true) → rank_at r ≤ rank_of t s
      go s b m x = f.least s x.0 b m (at (b.most x.0 x.2)) x.2
        where
          at : (has chosen x.0 ≡ true) ⊎ (has free x.0 ≡ true) → has tries x.0 ≡ true
          at (inl h) = not_both (has (carries t chosen) p) (carried_in t.row chosen p 64 x.0 x.1 h x.3) lacking
          at (inr h) = all x.0 h x.3

-- ---- the roles of tries, one after the other
-- none is left
pub tried_none : (t : Task) (chosen free : ℕ) (a : Best) → Tried t 0 chosen free a a
tried_none t chosen free a = record { old = le_refl (rank_at a); new = inl refl; least = λ s i _ _ h _. no_member i h }

module _ (t : Task) (less : (x y : ℕ) → Sub x y → t.met y ≡ true → t.met x ≡ true) (chosen free role : ℕ) (a next r : Best)
    (on : has free role ≡ true) where
  still : (r ≡ next) ⊎ Served t chosen (without free role) r → (next ≡ a) ⊎ Served t chosen free next → (r ≡ a) ⊎ Served t chosen free r
  still (inl e) (inl f) = inl (e ∙ f)
  still (inl e) (inr f) = inr (subst (Served t chosen free) (sym e) f)
  still (inr e) f = inr (record { between = between-old chosen free role r.roles on e.between; serving = e.serving; keyed = e.keyed })

  grown : (next ≡ a) ⊎ Served t (with chosen role) (without free role) next → (next ≡ a) ⊎ Served t chosen free next
  grown (inl e) = inl e
  grown (inr e) = inr (record { between = between_new chosen free role next.roles on e.between; serving = e.serving; keyed = e.keyed })

  -- the role was tried with what is chosen, and then the others without it
  pub tried_on : (tries : ℕ) → has tries role ≡ true → Found t (with chosen role) (without free role) a next
      → Tried t (without tries role) chosen (without free role) next r
      → Tried t tries chosen free a r
  tried_on tries here f g =
      record { old = le_trans g.old f.old; new = still g.new (grown f.new); least = λ s i b m h k. go s i b m h k (either (has s role)) }
    where
      rest : (s i : ℕ) → Between chosen free s → serves t s ≡ true → has s i ≡ true → has s role ≡ false
          → (i ≡ role) ⊎ (has (without tries role) i ≡ true) → rank_at r ≤ rank_of t s
      rest s i b m k off (inl e) = not_both (has s role) (ap (has s) (sym e) ∙ k) off
      rest s i b m k off (inr h) = g.least s i (between-without chosen free role s on b off) m h k

      go : (s i : ℕ) → Between chosen free s → serves t s ≡ true → has tries i ≡ true → has s i ≡ true → (has s role ≡ true) ⊎ (has s role ≡ false)
          → rank_at r ≤ rank_of t s
      go s i b m h k (inl with_it) = le_trans g.old (f.least s (between-with chosen free role s on b with_it) m)
      go s i b m h k (inr off) = rest s i b m k off (fewer-stays tries role here i h)

  not_met : t.met (with chosen role) ≡ false → (s : ℕ) → Between chosen free s → serves t s ≡ true → has s role ≡ true → ⊥
  unfolding serves
  not_met full s b m h =
      not_both (t.met (with chosen role))
      (less (with chosen role) s (with_sub chosen role s b.least h) (and_r (within t.lower (carries t s)) (t.met s) m)) full

  -- with the role beside what is chosen the exclusions are not met
  pub tried_off : (tries : ℕ) → has tries role ≡ true → t.met (with chosen role) ≡ false → Tried t (without tries role) chosen (without free role) a r
      → Tried t tries chosen free a r
  tried_off tries here full g =
      record { old = g.old; new = old_new g.new; least = λ s i b m h k. go s i b m h k (either (has s role)) }
    where
      old_new : (r ≡ a) ⊎ Served t chosen (without free role) r → (r ≡ a) ⊎ Served t chosen free r
      old_new (inl e) = inl e
      old_new (inr e) = inr (record { between = between-old chosen free role r.roles on e.between; serving = e.serving; keyed = e.keyed })

      rest : (s i : ℕ) → Between chosen free s → serves t s ≡ true → has s i ≡ true → has s role ≡ false
          → (i ≡ role) ⊎ (has (without tries role) i ≡ true) → rank_at r ≤ rank_of t s
      rest s i b m k off (inl e) = not_both (has s role) (ap (has s) (sym e) ∙ k) off
      rest s i b m k off (inr h) = g.least s i (between-without chosen free role s on b off) m h k

      go : (s i : ℕ) → Between chosen free s → serves t s ≡ true → has tries i ≡ true → has s i ≡ true → (has s role ≡ true) ⊎ (has s role ≡ false)
          → rank_at r ≤ rank_of t s
      go s i b m h k (inl with_it) = absurd (not_met full s b m with_it)
      go s i b m h k (inr off) = rest s i b m k off (fewer-stays tries role here i h)

  -- ---- all subsets: with the role, and then without it
  pub both_ways : Found t (with chosen role) (without free role) a next → Found t chosen (without free role) next r → Found t chosen free a r
  both_ways f g =
      record { old = le_trans g.old f.old; new = still g.new (grown f.new); least = λ s b m. go s b m (either (has s role)) }
    where
      go : (s : ℕ) → Between chosen free s → serves t s ≡ true → (has s role ≡ true) ⊎ (has s role ≡ false) → rank_at r ≤ rank_of t s
      go s b m (inl h) = le_trans g.old (f.least s (between-with chosen free role s on b h) m)
      go s b m (inr h) = g.least s (between-without chosen free role s on b h) m

  -- only without it: the exclusions are not met
  pub one_way : t.met (with chosen role) ≡ false → Found t chosen (without free role) a next → Found t chosen free a next
  one_way full f =
      record { old = f.old; new = old_new f.new; least = λ s b m. go s b m (either (has s role)) }
    where
      old_new : (next ≡ a) ⊎ Served t chosen (without free role) next → (next ≡ a) ⊎ Served t chosen free next
      old_new (inl e) = inl e
      old_new (inr e) = inr (record { between = between-old chosen free role next.roles on e.between; serving = e.serving; keyed = e.keyed })

      go : (s : ℕ) → Between chosen free s → serves t s ≡ true → (has s role ≡ true) ⊎ (has s role ≡ false) → rank_at next ≤ rank_of t s
      go s b m (inl h) = absurd (not_met full s b m h)
      go s b m (inr h) = f.least s (between-without chosen free role s on b h) m

-- the best so far is no worse than any set between
pub none_better : (t : Task) (chosen free : ℕ) (a : Best) → ((s : ℕ) → Between chosen free s → serves t s ≡ true → rank_at a ≤ rank_of t s)
    → Found t chosen free a a
none_better t chosen free a h = record { old = le_refl (rank_at a); new = inl refl; least = h }

-- all subsets, with no role left: the chosen roles judged
pub leaf : (t : Task) (chosen : ℕ) (a r : Best) → t.met chosen ≡ true → rank_at r ≤ rank_at a
    → (r ≡ a) ⊎ ((within t.lower (carries t chosen) ≡ true) × (r ≡ best_at t chosen))
    → (within t.lower (carries t chosen) ≡ true → rank_at r ≤ rank_of t chosen) → Found t chosen 0 a r
unfolding serves
leaf t chosen a r met old new least =
    record { old = old; new = found new; least = λ s b m. only s (between_none chosen s b) (and_l (within t.lower (carries t s)) (t.met s) m) }
  where
    found : (r ≡ a) ⊎ ((within t.lower (carries t chosen) ≡ true) × (r ≡ best_at t chosen)) → (r ≡ a) ⊎ Served t chosen 0 r
    found (inl e) = inl e
    found (inr e) = inr (subst (Served t chosen 0) (sym e.1) (served t chosen 0 e.0 met))

    only : (s : ℕ) → s ≡ chosen → within t.lower (carries t s) ≡ true → rank_at r ≤ rank_of t s
    only s e m =
        subst (λ (x : ℕ). rank_at r ≤ rank_of t x) (sym e) (least (subst (λ (x : ℕ). within t.lower (carries t x) ≡ true) e m))
