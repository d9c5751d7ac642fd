-- The search that ends with the first set: where its loop through roles stands, and what each way out of it says.
-- Assumes nothing.
use mathlib.Core.Path.{◌≡◌, refl, sym, ap, subst, ◌∙◌}
use mathlib.Core.Bool.{Bool, true, false}
use mathlib.Core.Logic.{◌⊎◌, inl, inr}
use mathlib.Core.List.{List}
use Prim.Native.Nat.{ℕ, ◌+◌, ◌≤◌, ◌<◌}
use native.Mathlib.Decide.{dec_lt}
use native.Mathlib.Omega.{arith}
use lib.ListN.{get_or}
use Rattle.model.specs.Sets.{has, inter, with, within}
use Rattle.model_laws.proofs.Bools.{and_l, and_r, both, not_both}
use Rattle.sets.specs.Members.{without}
use Rattle.std.specs.Prelude.{Option as Maybe, Some, None, MatchOption}
use Rattle.model.specs.declared.Permission.{Permission}
use Rattle.query.specs.Carry.{Sub, Turned, Missing}
use Rattle.query_rank.specs.Ranks.{Between}
use Rattle.query.proofs.Members.{within_sub, none_sub, no_member, either}
use Rattle.query.proofs.Turned.{inter_keeps, keeps_turned}
use Rattle.search_steps.specs.Search.{Task, carries, serves, Ready}
use Rattle.search_steps.proofs.Between.{fewer-stays, between-with, between-without, between_new, between-chosen}
use Rattle.search_steps.proofs.Carried.{carried_by_lem, carried_in}
use Rattle.search_steps.proofs.Loops.{less_free}
use Rattle.search_steps.proofs.Turns.{Falls, barred_sub}
use Rattle.obstacles_blocks.specs.Firsts.{Finds, Ends}

-- where no permission is missing, none is
pub none_said : (a b : ℕ) (r : Maybe Permission) → MatchOption r (within a b ≡ true) (λ p. Missing a b p.0) → ((p : Permission) → r ≡ Some p → ⊥)
    → within a b ≡ true
none_said a b None h n = h
none_said a b (Some p) h n = absurd (n p refl)

-- a set that is found, and that there is none
pub found_one : (t : Task) (chosen free s : ℕ) → Between chosen free s → serves t s ≡ true → Finds t chosen free true
found_one t chosen free s b v = record { is = λ _. (s, b, v); none = λ e. not_both true refl e }

pub found_none : (t : Task) (chosen free : ℕ) → ((s : ℕ) → Between chosen free s → serves t s ≡ true → ⊥) → Finds t chosen free false
found_none t chosen free h = record { is = λ e. not_both false e refl; none = λ _. h }

-- ---- the roles of a loop: every set that serves is one of the chosen roles and of those still free, and has a role
-- that is left to try
pub record Passing (t : Task) (chosen free left still : ℕ) : Type 0 where
  pub inside : Sub left still
  pub fewer : Sub still free
  pub rest : (s : ℕ) → Between chosen free s → serves t s ≡ true
      → Between chosen still s × ((i : ℕ) × (has left i ≡ true) × (has s i ≡ true))

-- more roles may be free
wider : (chosen still free s : ℕ) → Sub still free → Between chosen still s → Between chosen free s
wider chosen still free s h b = record { least = b.least; most = λ i m. go i (b.most i m) }
  where
    go : (i : ℕ) → (has chosen i ≡ true) ⊎ (has still i ≡ true) → (has chosen i ≡ true) ⊎ (has free i ≡ true)
    go i (inl m) = inl m
    go i (inr m) = inr (h i m)

module _ (t : Task) (chosen carried : ℕ) (ready : Ready t chosen carried) where
  -- the chosen roles carry the lower bound
  pub found_chosen : (free : ℕ) → within t.lower carried ≡ true → Finds t chosen free true
  unfolding serves
  found_chosen free e =
      found_one t chosen free chosen (between-chosen chosen free)
      (both (within t.lower (carries t chosen)) (t.met chosen) (ap (within t.lower) (sym ready.carry) ∙ e) ready.met)

  -- they lack a permission, and a set that serves has a free role that carries it
  module _ (table : List ℕ) (free p tries : ℕ) (lacks : Missing t.lower carried p)
      (turned : Turned t.row table t.lower free) (both_have : tries ≡ inter free (get_or table p 0)) where
    lacking : has (carries t chosen) p ≡ false
    lacking = ap (λ (c : ℕ). has c p) (sym ready.carry) ∙ lacks.lacking

    tried : (i : ℕ) → has tries i ≡ true → has free i ≡ true
    tried i m = and_l (has free i) (has (get_or table p 0) i) (sym (inter_keeps free (get_or table p 0) tries both_have i) ∙ m)

    one : (s : ℕ) → Between chosen free s → serves t s ≡ true → (i : ℕ) × (has tries i ≡ true) × (has s i ≡ true)
    unfolding serves carries
    one s b v =
        go (carried_by_lem t.row s p 64 (within_sub t.lower (carries t s) (and_l (within t.lower (carries t s)) (t.met s) v) p lacks.wanted))
      where
        go : (i : ℕ) × (i < 64) × (has s i ≡ true) × (has (t.row i) p ≡ true) → (i : ℕ) × (has tries i ≡ true) × (has s i ≡ true)
        go x = (x.0, at (b.most x.0 x.2), x.2)
          where
            at : (has chosen x.0 ≡ true) ⊎ (has free x.0 ≡ true) → has tries x.0 ≡ true
            at (inl h) = not_both (has (carries t chosen) p) (carried_in t.row chosen p 64 x.0 x.1 h x.3) lacking
            at (inr h) =
                keeps_turned t.row table t.lower p free tries turned lacks.wanted (inter_keeps free (get_or table p 0) tries both_have) x.0
                ∙ both (has free x.0) (has (t.row x.0) p) h x.3

    pub passing_start : Passing t chosen free tries free
    passing_start = record { inside = tried; fewer = λ i m. m; rest = λ s b v. (b, one s b v) }

-- no role is left
pub passing_end : (t : Task) (chosen free left still : ℕ) → Passing t chosen free left still → left ≡ 0 → Finds t chosen free false
passing_end t chosen free left still w e =
    found_none t chosen free (λ s b v. let x = (w.rest s b v).1 in no_member x.0 (ap (λ (y : ℕ). has y x.0) (sym e) ∙ x.1))

module _ (t : Task) (chosen free left still : ℕ) (w : Passing t chosen free left still) (role rest less more : ℕ) (m : has left role ≡ true)
    (er : rest ≡ without left role) (el : less ≡ without still role) (em : more ≡ with chosen role) where
  on : has still role ≡ true
  on = w.inside role m

  -- a set with the role was found
  pub passing_found : (b : Bool) → Finds t more less b → b ≡ true → Finds t chosen free true
  passing_found b f e =
      let x = f.is e in
      found_one t chosen free x.0
      (wider chosen still free x.0 w.fewer (between_new chosen still role x.0 on (rw (← em, ← el) x.1))) x.2

  -- no set with the role serves
  passing_none : ((s : ℕ) → Between more less s → serves t s ≡ true → ⊥) → Passing t chosen free rest less
  passing_none h =
      record {
        inside = barred_sub left still role rest less w.inside m er el;
        fewer = less_free free still role less w.fewer on el;
        rest = λ s b v. go s v (w.rest s b v) (either (has s role));
      }
    where
      go : (s : ℕ) → serves t s ≡ true → Between chosen still s × ((i : ℕ) × (has left i ≡ true) × (has s i ≡ true))
          → (has s role ≡ true) ⊎ (has s role ≡ false) → Between chosen less s × ((i : ℕ) × (has rest i ≡ true) × (has s i ≡ true))
      go s v x (inl here) = absurd (h s (rw (em, el) (between-with chosen still role s on x.0 here)) v)
      go s v x (inr off) =
          (rw el (between-without chosen still role s on x.0 off), (x.1.0, other (fewer-stays left role m x.1.0 x.1.1), x.1.2))
        where
          other : (x.1.0 ≡ role) ⊎ (has (without left role) x.1.0 ≡ true) → has rest x.1.0 ≡ true
          other (inl e) = not_both (has s role) (ap (has s) (sym e) ∙ x.1.2) off
          other (inr k) = ap (λ (y : ℕ). has y x.1.0) er ∙ k

  -- it does not meet the exclusions
  pub passing_off : Falls t → (b : Bool) → b ≡ t.met more → b ≡ false → Passing t chosen free rest less
  unfolding serves
  passing_off falls b eb e =
      passing_none (λ s g v. not_both (t.met more) (falls more s g.least (and_r (within t.lower (carries t s)) (t.met s) v)) (sym eb ∙ e))

  -- it was tried
  pub passing_on : (b : Bool) → Finds t more less b → b ≡ false → Passing t chosen free rest less
  passing_on b f e = passing_none (f.none e)

-- ---- from the empty set
pub not_met : (t : Task) (free : ℕ) → Falls t → (b : Bool) → b ≡ t.met 0 → b ≡ false → Finds t 0 free false
unfolding serves
not_met t free falls b eb e =
    found_none t 0 free (λ s _ v. not_both (t.met 0) (falls 0 s (none_sub s) (and_r (within t.lower (carries t s)) (t.met s) v)) (sym eb ∙ e))

pub found_so : (t : Task) (free : ℕ) (b v : Bool) → Finds t 0 free b → b ≡ v → Finds t 0 free v
found_so t free b v f e = subst (Finds t 0 free) e f

-- ---- by halving
module _ (t : ℕ → Task) (free : ℕ) where
  -- no exclusion lies between
  pub ends-here : (low high : ℕ) → low ≤ high → high ≤ low + 1 → Finds (t low) 0 free true → Finds (t high) 0 free false
      → Ends (λ n. Finds (t n) 0 free) high low
  ends-here low high a b e f =
      elim (dec_lt low high) [
        | yes q ↦ let same : high ≡ low + 1 = omega arith in
            record { inside = q; leaves = e; stops = subst (λ (i : ℕ). Finds (t i) 0 free false) same f }
        | no q ↦ let same : low ≡ high = omega arith in
            let x = (subst (λ (i : ℕ). Finds (t i) 0 free true) same e).is refl in
            absurd (f.none refl x.0 x.1 x.2)
      ]

  pub ends_wider : (m n j : ℕ) → m ≤ n → Ends (λ n. Finds (t n) 0 free) m j → Ends (λ n. Finds (t n) 0 free) n j
  ends_wider m n j h e = let i = e.inside in record { inside = omega arith; leaves = e.leaves; stops = e.stops }
