-- Barred roles: which sets are without them, and that the choice is the best of those.
-- Assumes nothing.
use mathlib.Core.Path.{◌≡◌, refl, sym, ap, ◌∙◌}
use mathlib.Core.Logic.{◌↔◌}
use mathlib.Core.Bool.{Bool, true, false, ◌&&◌, not, true≢false}
use mathlib.Core.List.{List, [], ◌∷◌, ◌++◌}
use Prim.Native.Nat.{ℕ, zero, suc, ◌+◌, ◌-◌, ◌^◌, ◌<◌}
use native.Mathlib.Omega.{arith}
use lib.Dec.{eqb}
use lib.ListN.{get_or, length, take, drop, set, take-append-drop}
use lib.Seq.{set_split, drop-cons}
use borrow.Author.Tests.{leb-true, leb-false, not-true}
use Rattle.model.specs.declared.Session.{Session}
use Rattle.model.specs.declared.Line.{Line}
use Rattle.model.specs.Tests.{any}
use Rattle.model.specs.Sets.{has, within, one, set_of}
use Rattle.model.specs.Bytes.{number}
use Rattle.model.specs.Policy.{limited, Meaning}
use Rattle.model.specs.Line.{empty_session, holding, others, exclusions_met, put_in}
use Rattle.model.specs.Limits.{Others, elsewhere, barred, unbarred}
use Rattle.model.specs.Choice.{carried_by, admissible, permission_cost, better}
use Rattle.model.specs.Session.{Query, chosen}
use Rattle.model.specs.Chosen.{Unbarred, Meets, IsBestUnbarred, ChosenIs, IsBest}
use Rattle.model.specs.Conditions.{Card}
use Rattle.model_laws.proofs.Bools.{and_l, and_r, both, or_l, or_r, not_both, fails, bool_ext}
use Rattle.model_laws.proofs.UnionLaws.{has_below}
use Rattle.model_laws.proofs.AnyWidth.{same_sets, within_iff}
use Rattle.model_laws.proofs.LowestLaws.{set_of-has, has-set_of, set_of_below}
use Rattle.model_laws.proofs.Inclusion.{within_refl}
use Rattle.model_laws.proofs.Choices.{choice}

-- the second of two tests of which the first holds, and not both
and_second : (a b : Bool) → a ≡ true → (a && b) ≡ false → b ≡ false
and_second true b e f = f
and_second false b e f = absurd (true≢false (sym e))

-- four tests, the first replaced
pub change_first : (a b c d e : Bool) → (a ≡ true → b ≡ true) → (a && c && d && e) ≡ true → (b && c && d && e) ≡ true
change_first true b c d e f h = rw (f refl) h
change_first false b c d e f h = absurd (true≢false (sym h))

pub first_of : (a b c d : Bool) → (a && b && c && d) ≡ true → a ≡ true
first_of a b c d e = and_l a b (and_l (a && b) c (and_l (a && b && c) d e))

-- ---- sets without barred roles
module _ (m : Meaning) (x : Others) (l : Line) (k : ℕ) where
  -- the roles that are left are below 64
  pub unbarred_below : (unbarred m x l k).authorized < 2 ^ 64
  unfolding unbarred
  unbarred_below = set_of_below _ 64

  -- they are the user's
  pub left_own : (r : ℕ) → has (unbarred m x l k).authorized r ≡ true → has m.authorized r ≡ true
  unfolding unbarred
  left_own r e =
      and_l (has m.authorized r) (not (barred m x l k r)) (set_of-has (λ r. has m.authorized r && not (barred m x l k r)) 64 r e).0

  module _ (below : m.authorized < 2 ^ 64) where
    -- within the roles that are left is within the user's, and without barred ones
    own_unbarred : (s : ℕ) → (within s (unbarred m x l k).authorized ≡ true) ↔ ((within s m.authorized ≡ true) × Unbarred m x l k s)
    unfolding unbarred
    own_unbarred s = (to, from)
      where
        left : ℕ → Bool
        left r = has m.authorized r && not (barred m x l k r)

        to : within s (set_of left 64) ≡ true → (within s m.authorized ≡ true) × Unbarred m x l k s
        to e =
            let w : (r : ℕ) → has s r ≡ true → left r ≡ true = λ r h. (set_of-has left 64 r ((within_iff s (set_of left 64)).0 e r h)).0 in (
              (within_iff s m.authorized).1 (λ r h. and_l (has m.authorized r) (not (barred m x l k r)) (w r h)),
              λ r h. not-true (barred m x l k r) (and_r (has m.authorized r) (not (barred m x l k r)) (w r h)),
            )

        from : (within s m.authorized ≡ true) × Unbarred m x l k s → within s (set_of left 64) ≡ true
        from e =
            (within_iff s (set_of left 64)).1
            (λ r h. let o = (within_iff s m.authorized).0 e.0 r h in
            has-set_of left 64 r (has_below 64 m.authorized r below o)
            (both (has m.authorized r) (not (barred m x l k r)) o (ap not (e.1 r h))))

    -- so is admissible among the roles that are left
    pub admissible-unbarred : (lower upper s : ℕ)
        → (admissible (unbarred m x l k) l k lower upper s ≡ true) ↔ ((admissible m l k lower upper s ≡ true) × Unbarred m x l k s)
    unfolding admissible carried_by exclusions_met unbarred
    admissible-unbarred lower upper s = (
      λ e. (change_first w v _ _ _ (λ h. ((own_unbarred s).0 h).0) e, ((own_unbarred s).0 (first_of w _ _ _ e)).1),
      λ e. change_first v w _ _ _ (λ h. (own_unbarred s).1 (h, e.1)) e.0,
    )
      where
        w : Bool
        w = within s (unbarred m x l k).authorized

        v : Bool
        v = within s m.authorized

    -- the choice, as the best set without barred roles
    module _ (q : Query) where
      best-unbarred : (s : ℕ)
          → IsBest (unbarred m x l k) l k (number q.lower) (number q.upper) q.permission_aim q.role_aim s ↔ IsBestUnbarred m x l k q s
      unfolding better permission_cost carried_by unbarred
      best-unbarred s = (
        λ w. let a = (admissible-unbarred (number q.lower) (number q.upper) s).0 w.is_admissible in
            record {
              is_admissible = a.0;
              is_unbarred = a.1;
              is_first = λ t e f. w.is_first t ((admissible-unbarred (number q.lower) (number q.upper) t).1 (e, f));
            },
        λ w. record {
          is_admissible = (admissible-unbarred (number q.lower) (number q.upper) s).1 (w.is_admissible, w.is_unbarred);
          is_first = λ t e. let a = (admissible-unbarred (number q.lower) (number q.upper) t).0 e in w.is_first t a.0 a.1;
        },
      )

      -- no set is left
      none_unbarred : ((t : ℕ) → admissible (unbarred m x l k) l k (number q.lower) (number q.upper) t ≡ false)
          ↔ ((t : ℕ) → Meets m l k q t → ¬ Unbarred m x l k t)
      none_unbarred = (
        λ h t e f. absurd (true≢false (sym ((admissible-unbarred (number q.lower) (number q.upper) t).1 (e, f)) ∙ h t)),
        λ h t. fails _ (λ e. let a = (admissible-unbarred (number q.lower) (number q.upper) t).0 e in h t a.0 a.1),
      )

      pub chosen_is : ChosenIs m x l k q
      unfolding chosen
      chosen_is =
          let c = choice (unbarred m x l k) l k (number q.lower) (number q.upper) q.permission_aim q.role_aim unbarred_below in
          record {
            is_best = λ s. (λ e. (best-unbarred s).0 ((c.is_best s).0 e), λ w. (c.is_best s).1 ((best-unbarred s).1 w));
            is-none = (λ e. none_unbarred.0 (c.is-none.0 e), λ h. c.is-none.1 (none_unbarred.1 h));
            is_unique = λ s t v w. c.is_unique s t ((best-unbarred s).1 v) ((best-unbarred t).1 w);
          }

    -- where no role has a limit, nothing is barred
    pub unlimited_choice : ((r : ℕ) → limited m.limits r ≡ false) → unbarred m x l k ≡ m
    unfolding unbarred
    unlimited_choice unlimited = λ i.
        record {
          user = m.user;
          roles = m.roles;
          permissions = m.permissions;
          authorized = same i;
          carried = m.carried;
          granter = m.granter;
          all_met = m.all_met;
          exclusions = m.exclusions;
          ordered = m.ordered;
          limits = m.limits;
        }
      where
        free : (s : ℕ) → Unbarred m x l k s
        free s r h = unfold barred in (rw (unlimited r))

        same : (unbarred m x l k).authorized ≡ m.authorized
        same =
            same_sets (unbarred m x l k).authorized m.authorized
            (λ r. bool_ext _ _ ((within_iff _ _).0 ((own_unbarred _).0 (within_refl _)).0 r)
            ((within_iff _ _).0 ((own_unbarred m.authorized).1 (within_refl _, free m.authorized)) r))

-- ---- tables without limits

-- a role with a limit is in a table with limits
pub some_limited_lem : (limits : List ℕ) (r : ℕ) → limited limits r ≡ true → any (λ t. not (eqb t 0)) limits ≡ true
unfolding limited any
some_limited_lem [] r e = absurd (true≢false (sym e))
some_limited_lem (t ∷ limits) zero e = or_l _ _ e
some_limited_lem (t ∷ limits) (suc r) e = or_r (not (eqb t 0)) _ (some_limited_lem limits r e)

-- in a table without limits no role has one
pub none_limited : (limits : List ℕ) → any (λ t. not (eqb t 0)) limits ≡ false → (r : ℕ) → limited limits r ≡ false
none_limited limits e r = fails (limited limits r) (λ q. not_both _ (some_limited_lem limits r q) e)

-- ---- sessions that hold a role

-- a session's part may be taken first in the sum
pub holding_middle : (r : ℕ) (xs : List Session) (a : Session) (ys : List Session)
    → holding r (xs ++ a ∷ ys) ≡ one (has a.active r) + holding r (xs ++ ys)
unfolding holding
holding_middle r [] a ys = refl
holding_middle r (x ∷ xs) a ys = omega (arith, holding_middle r xs a ys)

-- with session k replaced, those that hold it are the new one or not, and those of the others
pub holding-set : (r : ℕ) (ss : List Session) (k : ℕ) (a : Session) → k < length ss
    → holding r (set ss k a) ≡ one (has a.active r) + holding r (others k ss)
unfolding others
holding-set r ss k a h = ap (holding r) (set_split ss k a h) ∙ holding_middle r (take k ss) a (drop (suc k) ss)

-- once s is put in
pub holding_put : (r : ℕ) (l : Line) (k s : ℕ) → k < length l.sessions
    → holding r (put_in k s l).sessions ≡ one (has s r) + holding r (others k l.sessions)
unfolding put_in
holding_put r l k s h = holding-set r l.sessions k _ h

-- all of them are session k and the others
pub holding-others : (r : ℕ) (ss : List Session) (k : ℕ) → k < length ss
    → holding r ss ≡ one (has (get_or ss k empty_session).active r) + holding r (others k ss)
unfolding others
holding-others r ss k h =
    ap (holding r) (sym (take-append-drop k ss) ∙ ap (λ (ys : List Session). take k ss ++ ys) (drop-cons ss k empty_session h))
    ∙ holding_middle r (take k ss) (get_or ss k empty_session) (drop (suc k) ss)

-- ---- 001's CARD is that no role is barred
module _ (m : Meaning) (x : Others) (l : Line) (k s : ℕ) (h : k < length l.sessions) where
  pub card_is : Unbarred m x l k s ↔ Card m x l k s
  unfolding barred elsewhere
  card_is = (to, from)
    where
      put : (r : ℕ) → has s r ≡ true → holding r (put_in k s l).sessions ≡ 1 + holding r (others k l.sessions)
      put r e = holding_put r l k s h ∙ ap (λ (b : Bool). one b + holding r (others k l.sessions)) e

      to : Unbarred m x l k s → Card m x l k s
      to f r e t =
          let a = leb-false (get_or m.limits r 0 - 1) (x.held r + holding r (others k l.sessions)) (and_second (limited m.limits r) _ t (f r e)) in
          omega (arith, put r e)

      from : Card m x l k s → Unbarred m x l k s
      from f r e =
          fails _ (λ t. let a = f r e (and_l _ _ t) in
          let b = leb-true (get_or m.limits r 0 - 1) (x.held r + holding r (others k l.sessions)) (and_r (limited m.limits r) _ t) in
          omega (arith, put r e))
