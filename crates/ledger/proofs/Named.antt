-- The roles that a line names, one session a turn; an exclusion that they meet is met at every session.
-- Assumes nothing.
use mathlib.Core.Path.{◌≡◌, refl, sym, ap, ◌∙◌}
use mathlib.Core.Bool.{Bool, true}
use mathlib.Core.List.{List, [], ◌∷◌}
use Prim.Native.Nat.{ℕ, suc, ◌+◌, ◌≤◌, ◌<◌}
use native.Mathlib.Omega.{arith}
use native.Mathlib.Numerals.{add-one}
use lib.Bits.{or_zero_r}
use lib.Dec.{ltb}
use lib.ListN.{length, get_or, drop, drop_of_length-le}
use lib.Seq.{drop-cons}
use borrow.Author.Tests.{ltb-true, lt-ltb}
use Rattle.model.specs.declared.Kind.{Kind}
use Rattle.model.specs.declared.Kind.TheVariants.{SsDmer, MsDmer, SsHmer, MsHmer}
use Rattle.model.specs.declared.Exclusion.{Exclusion}
use Rattle.model.specs.declared.Session.{Session}
use Rattle.model.specs.declared.Line.{Line}
use Rattle.model.specs.Tests.{all}
use Rattle.model.specs.Sets.{union, inter, within, count}
use Rattle.model.specs.Policy.{met}
use Rattle.model.specs.Line.{active_in, counted}
use Rattle.model_laws.proofs.Bools.{both}
use Rattle.model_laws.proofs.SetLaws.{count-within}
use Rattle.model_laws.proofs.Inclusion.{within_refl, within_trans, none_within, within_union_l, within_union_r, union-within, inter-within}
use Rattle.ledger.specs.Held.{met_at, named_in, named_by}
use Rattle.ledger.proofs.Soundness.{or_assoc}

-- ---- the roles named by the sessions from k on, put to those before
pub named-next : (ss : List Session) (d : Session) (k r : ℕ) → k < length ss
    → union (union r (union (get_or ss k d).active (get_or ss k d).history)) (named_in (drop (k + 1) ss)) ≡ union r (named_in (drop k ss))
unfolding named_in
named-next ss d k r h =
    let s = get_or ss k d in
    rw (add-one k, drop-cons ss k d h) (or_assoc r (union s.active s.history) (named_in (drop (suc k) ss)))

pub named_end : (ss : List Session) (k r : ℕ) → length ss ≤ k → union r (named_in (drop k ss)) ≡ r
unfolding named_in
named_end ss k r h = rw (drop_of_length-le ss h, or_zero_r r)

-- ---- what is named
module _ (s : Session) (ss : List Session) where
  first_active : within s.active (named_in (s ∷ ss)) ≡ true
  unfolding named_in
  first_active = within_trans _ _ _ (within_union_l s.active s.history) (within_union_l _ (named_in ss))

  first_history : within s.history (named_in (s ∷ ss)) ≡ true
  unfolding named_in
  first_history = within_trans _ _ _ (within_union_r s.active s.history) (within_union_l _ (named_in ss))

  rest_named : within (named_in ss) (named_in (s ∷ ss)) ≡ true
  unfolding named_in
  rest_named = within_union_r (union s.active s.history) (named_in ss)

active_named : (ss : List Session) → within (active_in ss) (named_in ss) ≡ true
unfolding active_in named_in
active_named [] = none_within _
active_named (s ∷ ss) = union-within s.active (active_in ss) _ (first_active s ss) (within_trans _ _ _ (active_named ss) (rest_named s ss))

-- ---- an exclusion that all named roles meet
module _ (l : Line) (x : Exclusion) (few : ltb (count 64 (inter x.members (named_by l))) x.n ≡ true) where
  few_of : (t : ℕ) → within t (named_by l) ≡ true → ltb (count 64 (inter x.members t)) x.n ≡ true
  few_of t w =
      let m = x.members in
      let least = count-within 64 (inter m t) (inter m (named_by l)) (inter-within m t (named_by l) w) in
      lt-ltb (count 64 (inter m t)) x.n (omega (arith, least, ltb-true (count 64 (inter m (named_by l))) x.n few))

  one-met : (s : Session) → within s.active (named_in l.sessions) ≡ true → within s.history (named_in l.sessions) ≡ true
      → met (counted l s) x ≡ true
  unfolding met counted named_by
  one-met s a h = few_of _ (inside x.kind)
    where
      named : (t : ℕ) → within t (named_in l.sessions) ≡ true → within t (named_by l) ≡ true
      named t w = within_trans t _ _ w (within_union_r l.history (named_in l.sessions))

      inside : (k : Kind) → within (counted l s k) (named_by l) ≡ true
      inside SsDmer = named _ a
      inside MsDmer = named _ (active_named l.sessions)
      inside SsHmer = named _ h
      inside MsHmer = within_union_l l.history (named_in l.sessions)

  each_met : (ss : List Session) → within (named_in ss) (named_in l.sessions) ≡ true → all (λ s. met (counted l s) x) ss ≡ true
  unfolding all
  each_met [] w = refl
  each_met (s ∷ ss) w =
      both _ _ (one-met s (within_trans _ _ _ (first_active s ss) w) (within_trans _ _ _ (first_history s ss) w))
      (each_met ss (within_trans _ _ _ (rest_named s ss) w))

  all-met : true ≡ met_at l x
  unfolding met_at
  all-met = sym (each_met l.sessions (within_refl _))

pub met_by_all_lem : (l : Line) (x : Exclusion) {set : ℕ} {b : Bool} → set ≡ named_by l → b ≡ ltb (count 64 (inter x.members set)) x.n → b ≡ true
    → true ≡ met_at l x
met_by_all_lem l x n e t = all-met l x (ap (λ (s : ℕ). ltb (count 64 (inter x.members s)) x.n) (sym n) ∙ sym e ∙ t)
