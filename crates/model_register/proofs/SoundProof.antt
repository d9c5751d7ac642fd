-- The test of a line's soundness, by the members of its sets.
-- Assumes nothing.
use mathlib.Core.Path.{◌≡◌, refl, sym, subst}
use mathlib.Core.Logic.{◌↔◌}
use mathlib.Core.Bool.{Bool, true, false, ◌&&◌, ◌||◌, true≢false}
use mathlib.Core.List.{List, Memᴰ}
use Prim.Native.Nat.{ℕ, ◌≤◌, ◌<◌}
use native.Mathlib.Decide.{dec_lt}
use native.Mathlib.Omega.{arith}
use lib.Dec.{eqb}
use lib.ListN.{length, get_or-eq_default}
use borrow.Author.Tests.{eqb-true, eq-eqb}
use Rattle.model.specs.declared.Head.{Head}
use Rattle.model.specs.declared.Kind.{Kind}
use Rattle.model.specs.declared.Kind.TheVariants.{SsDmer, MsDmer, SsHmer, MsHmer}
use Rattle.model.specs.declared.Exclusion.{Exclusion}
use Rattle.model.specs.declared.Line.{Line}
use Rattle.model.specs.declared.Checked.TheVariants.{Accepted}
use Rattle.model.specs.Sets.{has, inter, count}
use Rattle.model.specs.Judgement.{judge}
use Rattle.model.specs.Policy.{Policy, policy_of, meaning, authorized}
use Rattle.model.specs.Ranges.{ExclusionInRange, InRange}
use Rattle.model.specs.Line.{empty_session, session_at, is_open, counted, sound}
use Rattle.model_laws.proofs.Bools.{and_l, and_r, both, or_l, or_r}
use Rattle.model_laws.proofs.UnionLaws.{has_below}
use Rattle.model_laws.proofs.AnyWidth.{within_iff, members_below_lem}
use Rattle.model_laws.proofs.Actives.{active_at_lem, at_active}
use Rattle.model_laws.proofs.ConditionsProof.{exclusions_met_iff}
use Rattle.model_laws.proofs.SoundLaws.{SoundSession, sound-parts, parts-sound, empty_sound}
use Rattle.model_laws.proofs.Eachs.{each_mem}
use Rattle.model_laws.proofs.Judgements as J
use Rattle.model_laws.proofs.Theorems as T
use Rattle.model_register.specs.Faults.{Many}
use Rattle.model_register.specs.Sound.{Counted, Sound, SoundIs}
use Rattle.model_register.proofs.Decided.{fewer_is}

module _ (s : List ℕ) (h : Head) (accepted : judge s ≡ Accepted h) (W u : ℕ) (l : Line) (size : length l.sessions ≡ W) where
  abbrev p : Policy
  p = policy_of s

  range : InRange p
  range = J.accepted_in_range s h accepted

  -- what a kind counts at a session
  counted_is : (j : ℕ) (c : Kind) (r : ℕ) → (has (counted l (session_at l j) c) r ≡ true) ↔ Counted W l j c r
  unfolding counted session_at
  counted_is j SsDmer r = (λ e. e, λ e. e)
  counted_is j MsDmer r = (
    λ e. let w = active_at_lem r l.sessions e in (w.0, subst (λ (n : ℕ). w.0 < n) size w.1, w.2),
    λ (i, b, e). at_active r l.sessions i (subst (λ (n : ℕ). i < n) (sym size) b) e,
  )
  counted_is j SsHmer r = (λ e. e, λ e. e)
  counted_is j MsHmer r = (λ e. e, λ e. e)

  -- an exclusion is met where fewer members than its n are counted
  module _ (x : Exclusion) (mem : Memᴰ x p.exclusions) (j : ℕ) where
    abbrev Both : ℕ → Type 0
    Both r = (has x.members r ≡ true) × Counted W l j x.kind r

    members_low : (r : ℕ) → has x.members r ≡ true → r < 64
    members_low r e =
        let w = each_mem (ExclusionInRange p.head.roles) p.exclusions range.exclusions x mem in
        let a = has_below p.head.roles x.members r w.members e in
        let b = range.roles.1 in
        omega arith

    met_is : (count 64 (inter x.members (counted l (session_at l j) x.kind)) < x.n) ↔ (¬ Many x.n Both)
    met_is = fewer_is x.n x.members (counted l (session_at l j) x.kind) (Counted W l j x.kind) members_low (counted_is j x.kind)

  -- a session that is closed is zero
  closed_is : (o a b : Bool) → (o || (a && b)) ≡ true → o ≡ false → (a ≡ true) × (b ≡ true)
  closed_is true a b e f = absurd (true≢false f)
  closed_is false a b e f = (and_l a b e, and_r a b e)

  to : sound W (meaning p u) l ≡ true → Sound W p u l
  unfolding session_at is_open
  to e =
      let w = sound-parts (meaning p u) l W e in
      record {
        opened = λ j f. has_below W l.opened j w.opened f;
        history = λ r f. has_below p.head.roles l.history r (unfold meaning in w.history) f;
        closed = λ j b f. let z = closed_is (is_open l j) (eqb (session_at l j).active 0) (eqb (session_at l j).history 0) (w.each j).closed f in
            (eqb-true (session_at l j).active 0 z.0, eqb-true (session_at l j).history 0 z.1);
        active = λ j r b f. (within_iff (session_at l j).active (session_at l j).history).0 (w.each j).active r f;
        past = λ j r b f. (within_iff (session_at l j).history l.history).0 (w.each j).history r f;
        authorized = λ j r b f. (T.authorized_is s h accepted u r).0
            ((within_iff (session_at l j).active (authorized p u)).0 (unfold meaning in (w.each j).authorized) r f);
        exclusions = λ x m j b. (met_is x m j).0 ((exclusions_met_iff p u l).0 w.met x m j (subst (λ (n : ℕ). j < n) (sym size) b));
      }

  -- one session
  session : Sound W p u l → (j : ℕ) → j < W → SoundSession (meaning p u) l j (session_at l j)
  unfolding is_open
  session w j b =
      record {
        closed = go (has l.opened j) refl;
        active = (within_iff (session_at l j).active (session_at l j).history).1 (λ r f. w.active j r b f);
        history = (within_iff (session_at l j).history l.history).1 (λ r f. w.past j r b f);
        authorized = unfold meaning in
            ((within_iff (session_at l j).active (authorized p u)).1 (λ r f. (T.authorized_is s h accepted u r).1 (w.authorized j r b f)));
      }
    where
      go : (o : Bool) → has l.opened j ≡ o → (has l.opened j || (eqb (session_at l j).active 0 && eqb (session_at l j).history 0)) ≡ true
      go true e = or_l (has l.opened j) _ e
      go false e =
          let z = w.closed j b e in
          or_r (has l.opened j) _ (both _ _ (eq-eqb (session_at l j).active 0 z.0) (eq-eqb (session_at l j).history 0 z.1))

  back : Sound W p u l → sound W (meaning p u) l ≡ true
  unfolding session_at
  back w =
      parts-sound (meaning p u) l W
      (record {
        opened = members_below_lem W l.opened w.opened;
        history = unfold meaning in (members_below_lem p.head.roles l.history w.history);
        each = λ j. elim (dec_lt j W) [
          | yes b ↦ session w j b
          | no b ↦
              subst (SoundSession (meaning p u) l j) (sym (get_or-eq_default l.sessions empty_session (subst (λ (n : ℕ). n ≤ j) (sym size) (omega arith))))
              (empty_sound (meaning p u) l j)
        ];
        met = (exclusions_met_iff p u l).1 (λ x m j b. (met_is x m j).1 (w.exclusions x m j (subst (λ (n : ℕ). j < n) size b)));
      })

pub sound_is : (s : List ℕ) (h : Head) → judge s ≡ Accepted h → SoundIs s
sound_is s h accepted W u l size = (to s h accepted W u l size, back s h accepted W u l size)
