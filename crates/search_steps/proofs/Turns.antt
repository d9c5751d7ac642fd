-- The steps of the searches, in the form of their needs: what a step hands on, and what it hands back, from what its
-- callees ensure.
-- Assumes nothing.
use mathlib.Core.Path.{◌≡◌, sym, ap, subst, ◌∙◌}
use mathlib.Core.Bool.{Bool, true, false, ◌&&◌}
use mathlib.Core.List.{List}
use mathlib.Core.Logic.{◌⊎◌, inl, inr}
use Prim.Native.Nat.{ℕ, ◌+◌, ◌-◌, ◌^◌, ◌≤◌, ◌<◌}
use native.Mathlib.Nat.{le_of_lt}
use native.Mathlib.Omega.{arith}
use lib.Dec.{leb}
use lib.ListN.{get_or}
use borrow.Author.Tests.{leb-true, leb-false}
use Rattle.model.specs.Sets.{has, union, inter, with, within, count}
use Rattle.model_laws.proofs.Bools.{and_l, and_r, or_l, both}
use Rattle.model_laws.proofs.SetLaws.{has-union, has-inter}
use Rattle.sets.specs.Members.{without, Lowest}
use Rattle.sets.proofs.Taken.{count-without}
use Rattle.query_rank.specs.declared.Best.{Best}
use Rattle.query.specs.Carry.{rows_of, Turned, Sub, Keeps, Missing, Reaches}
use Rattle.query_rank.specs.Ranks.{key_by, rank, rank_at, Judged, Settled}
use Rattle.query_rank.proofs.Numbers.{stands, key_standing}
use Rattle.query.proofs.Members.{sub_count}
use Rattle.query.proofs.Turned.{inter_keeps, keeps_turned}
use Rattle.search_steps.specs.declared.Query.{Query}
use Rattle.search_steps.specs.Search.{Task, task_by, task_of, carries, serves, key_of, rank_of, Ready, Modest, Served, Found, Tried, FoundFor}
use Rattle.search_steps.proofs.Between.{fewer-within}
use Rattle.search_steps.proofs.Carried.{carried_sub, carried-with, Carried-none, top-bound}
use Rattle.search_steps.proofs.Returns.{best_at, given_up, reached, taken_up, tried_none, tried_on, tried_off, both_ways, one_way, none_better, leaf}

-- that the exclusions are met passes to smaller sets
abbrev pub Falls : Task → Type 0
Falls t = (x y : ℕ) → Sub x y → t.met y ≡ true → t.met x ≡ true

-- ---- the chosen roles ranked, and whether the best so far is no worse
module _ (t : Task) (chosen carried : ℕ) (a next : Best) (b : Bool) (ready : Ready t chosen carried)
    (ranked : next ≡ record { key = key_by t.first t.second carried chosen; roles = chosen }) (judged : b ≡ leb (rank_at a) (rank_at next)) where
  same : next ≡ best_at t chosen
  same = ranked ∙ ap (λ (c : ℕ). record { key = key_by t.first t.second c chosen; roles = chosen }) ready.carry

  same_rank : rank_at next ≡ rank_of t chosen
  same_rank = ap rank_at same

  worse : b ≡ true → rank_at a ≤ rank_of t chosen
  worse e = subst (λ (x : ℕ). rank_at a ≤ x) same_rank (leb-true (rank_at a) (rank_at next) (sym judged ∙ e))

  better : b ≡ false → rank_of t chosen ≤ rank_at a
  better e = subst (λ (x : ℕ). x ≤ rank_at a) same_rank (le_of_lt (leb-false (rank_at a) (rank_at next) (sym judged ∙ e)))

  in-bound : (w : Bool) → w ≡ within t.lower carried → w ≡ true → within t.lower (carries t chosen) ≡ true
  in-bound w e f = ap (within t.lower) (sym ready.carry) ∙ sym e ∙ f

  module _ (free : ℕ) (modest : Modest t) where
    pub gives_up : b ≡ true → Found t chosen free a a
    gives_up e = given_up t chosen free a modest.permissions modest.roles (worse e)

    pub reaches : b ≡ false → (w : Bool) → w ≡ within t.lower carried → w ≡ true → Found t chosen free a next
    reaches e w l m =
        subst (Found t chosen free a) (sym same)
        (reached t chosen free a modest.permissions modest.roles (better e) (in-bound w l m) ready.met)

-- the roles that carry a missing permission, by the turned table, were tried
pub goes_on : (t : Task) (chosen carried : ℕ) (a : Best) → Ready t chosen carried → (table : List ℕ) (free p tries : ℕ) (r : Best)
    → Missing t.lower carried p → Turned t.row table t.lower free → tries ≡ inter free (get_or table p 0) → Tried t tries chosen free a r
    → Found t chosen free a r
goes_on t chosen carried a ready table free p tries r m turned both_have tried =
    taken_up t chosen free p tries a r m.wanted (ap (λ (c : ℕ). has c p) (sym ready.carry) ∙ m.lacking)
    (λ i f h. keeps_turned t.row table t.lower p free tries turned m.wanted (inter_keeps free (get_or table p 0) tries both_have) i
    ∙ both (has free i) (has (t.row i) p) f h) tried

pub keeps_sub : (test : ℕ → Bool) (s r : ℕ) → Keeps test s r → Sub r s
keeps_sub test s r k i m = and_l (has s i) (test i) (sym (k i) ∙ m)

-- the roles tried are free ones
pub tries_sub : (free x tries : ℕ) → tries ≡ inter free x → Sub tries free
tries_sub free x tries e = keeps_sub (has x) free tries (inter_keeps free x tries e)

-- ---- a role taken up: with it, and without it
module _ (t : Task) (chosen carried role : ℕ) (ready : Ready t chosen carried) where
  pub ready_more : (more sum row : ℕ) (b : Bool) → role < 64 → more ≡ with chosen role → sum ≡ union carried row → row ≡ t.row role
      → b ≡ t.met more → b ≡ true
      → Ready t more sum
  unfolding carries
  ready_more more sum row b l em es er eb e =
      record {
        carry = es ∙ ap (λ (x : ℕ). union x row) ready.carry ∙ ap (union (carries t chosen)) er ∙ sym (carried-with t.row 64 chosen role l)
            ∙ ap (carries t) (sym em);
        met = sym eb ∙ e;
      }

module _ (t : Task) (falls : Falls t) (chosen free role less more : ℕ) (b : Bool) (on : has free role ≡ true)
    (el : less ≡ without free role) (em : more ≡ with chosen role) (eb : b ≡ t.met more) where
  full : b ≡ false → t.met (with chosen role) ≡ false
  full e = ap t.met (sym em) ∙ sym eb ∙ e

  pub tries_on : (tries rest : ℕ) (a next r : Best) → has tries role ≡ true → rest ≡ without tries role → Found t more less a next
      → Tried t rest chosen less next r
      → Tried t tries chosen free a r
  tries_on tries rest a next r here er f g =
      tried_on t falls chosen free role a next r on tries here (rw (← em, ← el) f) (rw (← er, ← el) g)

  pub tries_off : (tries rest : ℕ) (a r : Best) → has tries role ≡ true → rest ≡ without tries role → b ≡ false → Tried t rest chosen less a r
      → Tried t tries chosen free a r
  tries_off tries rest a r here er e g = tried_off t falls chosen free role a a r on tries here (full e) (rw (← er, ← el) g)

  pub takes_both : (a next r : Best) → Found t more less a next → Found t chosen less next r → Found t chosen free a r
  takes_both a next r f g = both_ways t falls chosen free role a next r on (rw (← em, ← el) f) (rw (← el) g)

  pub takes_one : (a next : Best) → b ≡ false → Found t chosen less a next → Found t chosen free a next
  takes_one a next e f = one_way t falls chosen free role a next next on (full e) (rw (← el) f)

pub runs_out : (t : Task) (tries chosen free : ℕ) (a : Best) → tries ≡ 0 → Tried t tries chosen free a a
runs_out t tries chosen free a e = subst (λ (x : ℕ). Tried t x chosen free a a) (sym e) (tried_none t chosen free a)

pub barred_sub : (tries free role rest less : ℕ) → Sub tries free → has tries role ≡ true → rest ≡ without tries role → less ≡ without free role → Sub rest less
barred_sub tries free role rest less h m er el = rw (er, el) (fewer-within tries role m free (h role m) h)

-- with no role free the chosen ones are judged
pub judges : (q : Query) (chosen free carried : ℕ) (a r : Best) → Ready (task_of q) chosen carried → free ≡ 0 → Judged q.job chosen carried a r
    → Found (task_of q) chosen free a r
judges q chosen free carried a r ready none judged =
    let j = subst (λ (c : ℕ). Judged q.job chosen c a r) ready.carry judged _ _ (stands q.job.first) (stands q.job.second) in
    subst (λ (f : ℕ). Found (task_of q) chosen f a r) (sym none) (leaf (task_of q) chosen a r ready.met j.old j.new j.least)

-- no set between is better than the best so far, by what the free roles carry from the lowest on
pub cuts_off : (q : Query) (reach : List (List ℕ)) (chosen free carried role top : ℕ) (a : Best) (b : Bool)
    → Ready (task_of q) chosen carried → Reaches (rows_of q.rows.now) (rows_of reach) free → Lowest free role
    → top ≡ union carried (rows_of reach role) → (b ≡ true → Settled q.job chosen free carried top a) → b ≡ true
    → Found (task_of q) chosen free a a
unfolding serves carries
cuts_off q reach chosen free carried role top a b ready reaches low et settled e =
    let t = task_of q in
    let row = rows_of q.rows.now in
    none_better t chosen free a (λ s between m. settled e t.first t.second (stands q.job.first) (stands q.job.second) s (carries t s) between
    (λ p k. carried_sub row 64 chosen s between.least p (ap (λ (x : ℕ). has x p) (sym ready.carry) ∙ k))
    (λ p k. ap (λ (x : ℕ). has x p) et ∙ top-bound row (rows_of reach) chosen free carried role reaches low ready.carry s between p k)
    (and_l (within t.lower (carries t s)) (t.met s) m))

-- what is the best by the objectives' own numbers is so by each that stands for them
pub found_for : (q : Query) (chosen free : ℕ) (a r : Best) → Found (task_of q) chosen free a r → FoundFor q chosen free a r
unfolding serves carries
found_for q chosen free a r f m n h k =
    record { old = f.old; new = go f.new; least = λ s b v. subst (λ (x : ℕ). rank_at r ≤ rank x s) (same s) (f.least s b v) }
  where
    same : (s : ℕ) → key_of (task_of q) s ≡ key_of (task_by m n q) s
    same s = key_standing q.job.first q.job.second m n h k (carries (task_of q) s) s

    go : (r ≡ a) ⊎ Served (task_of q) chosen free r → (r ≡ a) ⊎ Served (task_by m n q) chosen free r
    go (inl e) = inl e
    go (inr v) = inr (record { between = v.between; serving = v.serving; keyed = v.keyed ∙ same r.roles })

-- ---- what falls: the permissions still wanted and the roles still free

-- how many permissions of the lower bound are not carried
abbrev pub wanted : ℕ → ℕ → ℕ
wanted lower carried = count 256 lower - count 256 (inter lower carried)

pub wanted_less : (lower carried row sum : ℕ) → sum ≡ union carried row → wanted lower sum ≤ wanted lower carried
wanted_less lower carried row sum e =
    omega (arith, sub_count 256 (inter lower carried) (inter lower sum) more)
  where
    more : Sub (inter lower carried) (inter lower sum)
    more i m =
        let h : (has lower i && has carried i) ≡ true = sym (has-inter lower carried i) ∙ m in
        has-inter lower sum i ∙ both (has lower i) (has sum i) (and_l (has lower i) (has carried i) h)
        (ap (λ (x : ℕ). has x i) e ∙ has-union carried row i ∙ or_l (has carried i) (has row i) (and_r (has lower i) (has carried i) h))

pub roles_less : (free role less : ℕ) → free < 2 ^ 64 → role < 64 → has free role ≡ true → less ≡ without free role → count 64 less + 1 ≡ count 64 free
roles_less free role less h l m e = omega (arith, ap (count 64) e, count-without 64 free role h l m)

-- the empty set, with which a search starts
pub ready_none : (t : Task) (c : ℕ) → c ≡ 0 → t.met 0 ≡ true → Ready t 0 c
unfolding carries
ready_none t c e m = record { carry = e ∙ sym (Carried-none t.row 64); met = m }
