-- A set is admissible exactly if it meets the conditions of 001.
-- Assumes nothing.
use mathlib.Core.Path.{◌≡◌, refl, sym, ap, ◌∙◌}
use mathlib.Core.Logic.{◌↔◌}
use mathlib.Core.Bool.{Bool, true, false}
use mathlib.Core.List.{Memᴰ}
use Prim.Native.Nat.{ℕ, suc, ◌<◌}
use lib.Dec.{eqb}
use lib.ListN.{length, get_or, take, drop, set, length-set}
use lib.Seq.{get_or-set_same, get_or-set_other, set_split}
use borrow.Author.Tests.{eqb-true, eqb-false, ltb-true, lt-ltb}
use borrow.Table.Steps.{cases}
use Rattle.model.specs.declared.Kind.{Kind}
use Rattle.model.specs.declared.Kind.TheVariants.{SsDmer, MsDmer, SsHmer, MsHmer}
use Rattle.model.specs.declared.Exclusion.{Exclusion}
use Rattle.model.specs.declared.Session.{Session}
use Rattle.model.specs.declared.Line.{Line}
use Rattle.model.specs.Tests.{pick, all}
use Rattle.model.specs.Sets.{union, inter, within, count}
use Rattle.model.specs.Policy.{Policy, authorized, met, meaning}
use Rattle.model.specs.Line.{empty_session, session_at, active_in, counted, exclusions_met, put_in, others}
use Rattle.model.specs.Choice.{carried_by, admissible}
use Rattle.model.specs.Conditions.{counted_after, MetAfter, Conditions, Solution}
use Rattle.model_laws.proofs.Bools.{four, all_four, pick-case}
use Rattle.model_laws.proofs.AnyWidth.{within_iff}
use Rattle.model_laws.proofs.Actives.{active_middle}
use Rattle.model_laws.proofs.Every.{all_mem, mem_all, all-at, at_all}

-- ---- the exclusions of a line

-- fewer than n of the exclusion's members are counted
abbrev pub Met : (Kind → ℕ) → Exclusion → Type 0
Met f x = count 64 (inter x.members (f x.kind)) < x.n

-- the test of an exclusion tells that
pub met_iff : (f : Kind → ℕ) (x : Exclusion) → (met f x ≡ true) ↔ Met f x
unfolding met
met_iff f x =
    (λ e. ltb-true (count 64 (inter x.members (f x.kind))) x.n e, λ h. lt-ltb (count 64 (inter x.members (f x.kind))) x.n h)

-- every exclusion of the policy is met at every session
abbrev pub AllMet : Policy → Line → Type 0
AllMet p l = (x : Exclusion) → Memᴰ x p.exclusions → (j : ℕ) → j < length l.sessions → Met (counted l (session_at l j)) x

pub exclusions_met_iff : (p : Policy) (u : ℕ) (l : Line) → (exclusions_met (meaning p u) l ≡ true) ↔ AllMet p l
unfolding exclusions_met meaning session_at
exclusions_met_iff p u l =
    let tests : Session → Exclusion → Bool = λ s. met (counted l s) in
    let at_session : Session → Bool = λ s. all (tests s) p.exclusions in (
      λ e x m j h. (met_iff (counted l (session_at l j)) x).0 (all_mem _ p.exclusions (all-at at_session l.sessions empty_session e j h) x m),
      λ h. at_all at_session l.sessions empty_session
          (λ j b. mem_all (tests (session_at l j)) p.exclusions (λ x m. (met_iff (counted l (session_at l j)) x).1 (h x m j b))),
    )

-- ---- what each kind counts once a set is put in

module _ (l : Line) (k s : ℕ) (h : k < length l.sessions) where
  -- session k as it is then
  abbrev replaced : Session
  replaced = record { active = s; history = union (session_at l k).history s }

  -- session j then
  after : (j : ℕ) → session_at (put_in k s l) j ≡ pick (eqb j k) replaced (session_at l j)
  unfolding put_in session_at pick
  after j =
      pick-case (λ a. get_or (set l.sessions k replaced) j empty_session ≡ a) (eqb j k) replaced _
      (λ e. rw (eqb-true j k e) (get_or-set_same l.sessions k replaced empty_session h))
      (λ e. get_or-set_other l.sessions k j replaced empty_session (eqb-false j k e))

  -- a field of a session that may be the replaced one
  pick_active : (b : Bool) (a : Session) → (pick b replaced a).active ≡ pick b s a.active
  unfolding pick
  pick_active true a = refl
  pick_active false a = refl

  pick_history : (j : ℕ) (b : Bool) → eqb j k ≡ b
      → (pick b replaced (session_at l j)).history ≡ pick b (union (session_at l j).history s) (session_at l j).history
  unfolding pick
  pick_history j true e = ap (λ (i : ℕ). union (session_at l i).history s) (sym (eqb-true j k e))
  pick_history j false e = refl

  -- each kind counts on the line with s put in what it counts after the put-in
  pub counted_after_lem : (j : ℕ) (c : Kind) → counted (put_in k s l) (session_at (put_in k s l) j) c ≡ counted_after l k s j c
  unfolding counted counted_after put_in others
  counted_after_lem j SsDmer = ap (λ (a : Session). a.active) (after j) ∙ pick_active (eqb j k) (session_at l j)
  counted_after_lem j MsDmer =
      ap active_in (set_split l.sessions k replaced h) ∙ active_middle (take k l.sessions) replaced (drop (suc k) l.sessions)
  counted_after_lem j SsHmer = ap (λ (a : Session). a.history) (after j) ∙ pick_history j (eqb j k) refl
  counted_after_lem j MsHmer = refl

  -- the exclusions of the policy once s is put in
  abbrev AllMetAfter : Policy → Type 0
  AllMetAfter p = (x : Exclusion) → Memᴰ x p.exclusions → (j : ℕ) → j < length l.sessions → MetAfter l k s j x

  same_length : length (put_in k s l).sessions ≡ length l.sessions
  unfolding put_in
  same_length = length-set l.sessions k replaced

  met_after : (p : Policy) (u : ℕ) → (exclusions_met (meaning p u) (put_in k s l) ≡ true) ↔ AllMetAfter p
  met_after p u = (
    λ e x m j b. rw (counted_after_lem j x.kind) at ((exclusions_met_iff p u (put_in k s l)).0 e x m j (rw same_length b)),
    λ f. (exclusions_met_iff p u (put_in k s l)).1 (λ x m j b. rw (counted_after_lem j x.kind) (f x m j (rw same_length at b))),
  )

-- ---- the other sessions
module _ (l : Line) (k s : ℕ) where
  -- a session other than k counts what it did, or what session k counts
  as_before : (P : ℕ → Type 0) (j : ℕ) → eqb j k ≡ false → (c : Kind) → P (counted_after l k s k c) → P (counted l (session_at l j) c)
      → P (counted_after l k s j c)
  unfolding counted_after counted pick
  as_before P j e SsDmer a b = rw e b
  as_before P j e MsDmer a b = a
  as_before P j e SsHmer a b = rw e b
  as_before P j e MsHmer a b = a

  -- an exclusion that was met at session j is met there if it is met at session k
  elsewhere : (x : Exclusion) (j : ℕ) → MetAfter l k s k x → Met (counted l (session_at l j)) x → MetAfter l k s j x
  elsewhere x j a b =
      cases (eqb j k) (λ e. rw (eqb-true j k e) a)
      (λ e. as_before (λ (n : ℕ). count 64 (inter x.members n) < x.n) j e x.kind a b)

-- ---- the conditions

module _ (p : Policy) (u : ℕ) (l : Line) (k lb ub s : ℕ) where
  -- the four parts of the test
  parts : admissible (meaning p u) l k lb ub s ≡ true
      → (within s (authorized p u) ≡ true) × (within lb (carried_by (meaning p u) s) ≡ true) × (within (carried_by (meaning p u) s) ub ≡ true)
      × (exclusions_met (meaning p u) (put_in k s l) ≡ true)
  unfolding admissible meaning
  parts =
      four (within s (authorized p u)) (within lb (carried_by (meaning p u) s)) (within (carried_by (meaning p u) s) ub)
      (exclusions_met (meaning p u) (put_in k s l))

  whole : within s (authorized p u) ≡ true → within lb (carried_by (meaning p u) s) ≡ true → within (carried_by (meaning p u) s) ub ≡ true
      → exclusions_met (meaning p u) (put_in k s l) ≡ true → admissible (meaning p u) l k lb ub s ≡ true
  unfolding admissible meaning
  whole a b c d = all_four _ _ _ _ a b c d

  module _ (h : k < length l.sessions) where
    -- a set is admissible exactly if it meets the conditions
    pub conditions : (admissible (meaning p u) l k lb ub s ≡ true) ↔ Conditions p u l k lb ub s
    conditions = (
      λ e.
          let w = parts e in
          record {
            own = (within_iff s (authorized p u)).0 w.0;
            lower = (within_iff lb (carried_by (meaning p u) s)).0 w.1;
            upper = (within_iff (carried_by (meaning p u) s) ub).0 w.2;
            exclusions = (met_after l k s h p u).0 w.3;
          },
      λ c.
          whole ((within_iff s (authorized p u)).1 c.own) ((within_iff lb (carried_by (meaning p u) s)).1 c.lower)
          ((within_iff (carried_by (meaning p u) s) ub).1 c.upper) ((met_after l k s h p u).1 c.exclusions),
    )

    -- on a line where every exclusion is met, as on a sound one, exactly if it meets them with condition 6 for session
    -- k alone
    pub solution : exclusions_met (meaning p u) l ≡ true → (admissible (meaning p u) l k lb ub s ≡ true) ↔ Solution p u l k lb ub s
    solution e = (
      λ a. let c = conditions.0 a in record { own = c.own; lower = c.lower; upper = c.upper; exclusions = λ x m. c.exclusions x m k h },
      λ c.
          let everywhere : AllMetAfter l k s h p = λ x m j b. elsewhere l k s x j (c.exclusions x m) ((exclusions_met_iff p u l).0 e x m j b) in
          conditions.1 (record { own = c.own; lower = c.lower; upper = c.upper; exclusions = everywhere }),
    )
