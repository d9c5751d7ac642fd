-- The roles active in a line's sessions: the union of all in any order, and the members of the union of all or of all
-- but one.
-- Assumes nothing.
use mathlib.Core.Path.{◌≡◌, refl, ap, ◌∙◌}
use mathlib.Core.Logic.{◌↔◌, ◌≢◌, inl, inr}
use mathlib.Core.Bool.{true}
use mathlib.Core.List.{List, [], ◌∷◌, ◌++◌}
use Prim.Native.Nat.{ℕ, zero, suc, ◌<◌, zero-le, suc-le-suc}
use native.Mathlib.Nat.{zero-lt-suc, not-suc-le-zero, le_of_suc-le-suc}
use native.Mathlib.Omega.{arith}
use lib.ListN.{length, get_or}
use lib.Pow.{pow_pos}
use Rattle.model.specs.declared.Session.{Session}
use Rattle.model.specs.declared.Line.{Line}
use Rattle.model.specs.Sets.{has, union}
use Rattle.model.specs.Line.{empty_session, session_at, active_in, others}
use Rattle.model.specs.Conditions.{ActiveElsewhere}
use Rattle.model_laws.proofs.Bools.{not_both}
use Rattle.model_laws.proofs.SetLaws.{union-cases, union_l, union_r, has_beyond}
use Rattle.model_laws.proofs.AnyWidth.{union_swap}

-- a session's active roles may be taken first in the union of all
pub active_middle : (xs : List Session) (a : Session) (ys : List Session) → active_in (xs ++ a ∷ ys) ≡ union a.active (active_in (xs ++ ys))
unfolding active_in
active_middle [] a ys = refl
active_middle (x ∷ xs) a ys =
    ap (λ (t : ℕ). union x.active t) (active_middle xs a ys) ∙ union_swap x.active a.active (active_in (xs ++ ys))

module _ (r : ℕ) where
  -- role r is active in some session, of any number or of one that is not k
  abbrev pub ActiveAt : List Session → Type 0
  ActiveAt ss = (i : ℕ) × (i < length ss) × (has (get_or ss i empty_session).active r ≡ true)

  abbrev pub ActiveBut : ℕ → List Session → Type 0
  ActiveBut k ss = (i : ℕ) × (i < length ss) × (i ≢ k) × (has (get_or ss i empty_session).active r ≡ true)

  pub active_at_lem : (ss : List Session) → has (active_in ss) r ≡ true → ActiveAt ss
  unfolding active_in
  active_at_lem [] e = not_both (has 0 r) e (has_beyond 0 0 r (pow_pos 0) zero-le)
  active_at_lem (s ∷ ss) e =
      elim (union-cases s.active (active_in ss) r e) [
        | inl d ↦ (0, zero-lt-suc (length ss), d)
        | inr d ↦ let w = active_at_lem ss d in (suc w.0, suc-le-suc w.1, w.2)
      ]

  pub at_active : (ss : List Session) (i : ℕ) → i < length ss → has (get_or ss i empty_session).active r ≡ true → has (active_in ss) r ≡ true
  unfolding active_in
  at_active [] i h e = absurd (not-suc-le-zero h)
  at_active (s ∷ ss) zero h e = union_l s.active (active_in ss) r e
  at_active (s ∷ ss) (suc i) h e = union_r s.active (active_in ss) r (at_active ss i (le_of_suc-le-suc h) e)

  active_but : (k : ℕ) (ss : List Session) → has (active_in (others k ss)) r ≡ true → ActiveBut k ss
  unfolding active_in others
  active_but zero [] e = not_both (has 0 r) e (has_beyond 0 0 r (pow_pos 0) zero-le)
  active_but (suc k) [] e = not_both (has 0 r) e (has_beyond 0 0 r (pow_pos 0) zero-le)
  active_but zero (s ∷ ss) e = let w = active_at_lem ss e in (suc w.0, suc-le-suc w.1, λ q. omega arith, w.2)
  active_but (suc k) (s ∷ ss) e =
      elim (union-cases s.active (active_in (others k ss)) r e) [
        | inl d ↦ (0, zero-lt-suc (length ss), λ q. omega arith, d)
        | inr d ↦ let w = active_but k ss d in (suc w.0, suc-le-suc w.1, λ q. w.2 (omega arith), w.3)
      ]

  but_active : (k : ℕ) (ss : List Session) (i : ℕ) → i < length ss → i ≢ k → has (get_or ss i empty_session).active r ≡ true
      → has (active_in (others k ss)) r ≡ true
  unfolding active_in others
  but_active k [] i h n e = absurd (not-suc-le-zero h)
  but_active zero (s ∷ ss) zero h n e = absurd (n refl)
  but_active zero (s ∷ ss) (suc i) h n e = at_active ss i (le_of_suc-le-suc h) e
  but_active (suc k) (s ∷ ss) zero h n e = union_l s.active (active_in (others k ss)) r e
  but_active (suc k) (s ∷ ss) (suc i) h n e =
      union_r s.active (active_in (others k ss)) r (but_active k ss i (le_of_suc-le-suc h) (λ q. n (ap suc q)) e)

-- the union of the other sessions has the roles active in one of them
pub active_elsewhere_lem : (l : Line) (k r : ℕ) → (has (active_in (others k l.sessions)) r ≡ true) ↔ ActiveElsewhere l k r
unfolding session_at
active_elsewhere_lem l k r = (λ e. active_but r k l.sessions e, λ w. but_active r k l.sessions w.0 w.1 w.2 w.3)
