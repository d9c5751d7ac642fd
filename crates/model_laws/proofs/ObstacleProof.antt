-- What an obstacle tells, in the words of a policy in range.
-- Assumes nothing.
use mathlib.Core.Path.{◌≡◌, refl, sym, ap, ◌∙◌, subst}
use mathlib.Core.Logic.{◌⊎◌, inl, inr, ◌↔◌}
use mathlib.Core.Bool.{Bool, true, false, ◌&&◌, not}
use mathlib.Core.Option.{Option, none, some, some-injective}
use mathlib.Core.List.Memᴰ
use mathlib.Core.List.{List, [], ◌∷◌, ◌++◌, append_assoc}
use Prim.Native.Nat.{ℕ, ◌+◌, ◌*◌, ◌^◌, ◌<◌, zero-le}
use native.Mathlib.Nat.{lt_of_lt_of_le}
use native.Mathlib.Decide.{dec_lt}
use native.Mathlib.Omega.{arith}
use lib.Dec.{eqb}
use lib.Pow.{pow_pos, pow_mono}
use lib.Bits.{or_zero_l, or_zero_r}
use lib.ListN.{get_or, length, length-append}
use borrow.Author.Tests.{eq-eqb, not-true, not-false}
use Rattle.model.specs.declared.Kind.{Kind}
use Rattle.model.specs.declared.Kind.TheVariants.{SsDmer, MsDmer, SsHmer, MsHmer}
use Rattle.model.specs.declared.Exclusion.{Exclusion}
use Rattle.model.specs.declared.Line.{Line}
use Rattle.model.specs.Tests.{pick, any, all, lowest, or_else}
use Rattle.model.specs.Sets.{has, inter, within}
use Rattle.model.specs.Policy.{Policy, Meaning, kind_number, sorted, same_exclusion, met, reached, below_table, carried_table, granter, authorized, meaning}
use Rattle.model.specs.Line.{session_at, counted, exclusions_met, put_in}
use Rattle.model.specs.Limits.{Others, barred, unbarred}
use Rattle.model.specs.Choice.{carried_by, admissible, choose}
use Rattle.model.specs.Reduced.{stay, stays}
use Rattle.model.specs.Obstacle.{Obstacle, lacking, carriers_of, fitting, lacks, excluding_only, left, blocking, blocks, obstacle_of}
use Rattle.model.specs.Chains.{grants, Chain, here, step, Authorized, Carries}
use Rattle.model.specs.Ranges.{Each, ExclusionInRange, InRange}
use Rattle.model.specs.Chosen.{Unbarred}
use Rattle.model.specs.Conditions.{counted_after, Permitted}
use Rattle.model.specs.Obstacles.{LowestWith, Members, Fits, Exceeds, InTidyOrder, excluding_just, LacksOwn, LacksUpper, LacksLimit, Left, Stands, by_own, by_upper, by_limit, by_exclusion, Readable, ObstacleIs}
use Rattle.model_laws.proofs.Bools.{and_l, and_r, both, not_both, fails, bool_ext}
use Rattle.model_laws.proofs.SetLaws.{has-inter, has_within}
use Rattle.model_laws.proofs.UnionLaws.{has_below, has-union_at}
use Rattle.model_laws.proofs.AnyWidth.{lt-two-pow, same_sets, members_below_lem, within_iff}
use Rattle.model_laws.proofs.LowestLaws.{lowest_is, set_of-has, has-set_of}
use Rattle.model_laws.proofs.Inclusion.{none_within, within_union_l, within_union_r}
use Rattle.model_laws.proofs.Closure.{few, below, carried_is}
use Rattle.model_laws.proofs.Reaches.{authorized_is}
use Rattle.model_laws.proofs.Choices.{choice}
use Rattle.model_laws.proofs.Barred.{unbarred_below, admissible-unbarred}
use Rattle.model_laws.proofs.Meanings.{all_same}
use Rattle.model_laws.proofs.Eachs.{each_mem}
use Rattle.model_laws.proofs.SortedLaws.{same_exclusion_eq, same_exclusion_refl, sorted_mem, any_mem, each_sorted, ascending-sorted, sorted_only, length-sorted}
use Rattle.model_laws.proofs.AdmittedProof.{own_below, permitted_is}
use Rattle.model_laws.proofs.Blocking.{or_else_some, or_first, or_second, BlocksAt, blocked_at, at_blocked}
use Rattle.model_laws.proofs.ObstacleLaws.{lacked, lacking_some, lacking_none, fitting-has, has-fitting, left_is, left_front, lacks_none, lacks_some, blocks_some, own_none, limit_left, left_limit, way_none, way_fourth, none_way}

-- a set that does not lie within another has a member that is none of it
outside : (a b : ℕ) → within a b ≡ false → (k : ℕ) × (has a k ≡ true) × (has b k ≡ false)
outside a b e =
    let f : ℕ → Bool = λ k. has a k && not (has b k) in
    let x = lowest f 0 a in
    let w = lowest_is f 0 a in
    elim (dec_lt x a) [
      | yes i ↦ let h = w.passes (omega arith) in (x, and_l (has a x) _ h, not-true (has b x) (and_r (has a x) _ h))
      | no i ↦ not_both (within a b) (has_within a a b (lt-two-pow a) (λ k j h. inside k h (w.before k zero-le (omega arith)))) e
    ]
  where
    inside : (k : ℕ) → has a k ≡ true → (has a k && not (has b k)) ≡ false → has b k ≡ true
    inside k h q = not-false (has b k) (sym (ap (λ (c : Bool). c && not (has b k)) h) ∙ q)

-- ---- what stays counted at session k is what is counted there whatever is put in
module _ (l : Line) (k : ℕ) where
  here_picked : (a b : ℕ) → pick (eqb k k) a b ≡ a
  unfolding pick
  here_picked a b = ap (λ (t : Bool). pick t a b) (eq-eqb k k refl)

  stays_least : (c : Kind) → counted_after l k 0 k c ≡ stays l k c
  unfolding counted_after stay
  stays_least SsDmer = here_picked 0 _
  stays_least MsDmer = or_zero_l _
  stays_least SsHmer = here_picked _ _ ∙ or_zero_r _
  stays_least MsHmer = or_zero_r _

  stays-counted : (c : Kind) (t : ℕ) → within (stays l k c) (counted_after l k t k c) ≡ true
  unfolding counted_after stay
  stays-counted SsDmer t = none_within _
  stays-counted MsDmer t = within_union_r t _
  stays-counted SsHmer t = subst (λ (n : ℕ). within (session_at l k).history n ≡ true) (sym (here_picked _ _)) (within_union_l _ t)
  stays-counted MsHmer t = within_union_l _ t

  stays_is : (y : Exclusion)
      → Members (inter y.members (stays l k y.kind)) (λ r. (has y.members r ≡ true) × ((t : ℕ) → has (counted_after l k t k y.kind) r ≡ true))
  stays_is y r = (
    λ e. let h = sym (has-inter y.members (stays l k y.kind) r) ∙ e in
        (and_l (has y.members r) _ h, λ t. (within_iff _ _).0 (stays-counted y.kind t) r (and_r (has y.members r) _ h)),
    λ w. has-inter y.members (stays l k y.kind) r
        ∙ both (has y.members r) _ w.0 (ap (λ (n : ℕ). has n r) (sym (stays_least y.kind)) ∙ w.1 0),
  )

-- ---- roles and permissions
module _ (p : Policy) (range : InRange p) where
  -- a role that carries something is below 64
  carries_below : (r q : ℕ) → Carries p r q → r < 64
  carries_below r q c = lt_of_lt_of_le (go c.chain (range.granted c.giver q (unfold grants in c.grant)).0) (few p range)
    where
      go : {a b : ℕ} → Chain p a b → b < p.head.roles → a < p.head.roles
      go here i = i
      go (step {a} {b} e c) i = (below p range a b e).0

  module _ (u : ℕ) where
    -- the row of a role
    row_is : (r q : ℕ) → r < 64 → (has (get_or (meaning p u).carried r 0) q ≡ true) ↔ Carries p r q
    unfolding meaning
    row_is r q i = carried_is p range r q i

    own_is : (r : ℕ) → (has (meaning p u).authorized r ≡ true) ↔ Authorized p u r
    unfolding meaning
    own_is = authorized_is p range u

    own_low : (meaning p u).authorized < 2 ^ 64
    unfolding meaning
    own_low = own_below p range u

    own_role : (r : ℕ) → Authorized p u r → r < 64
    own_role r a = has_below 64 (meaning p u).authorized r own_low ((own_is r).1 a)

    fits-is : (ub r : ℕ) → r < 64 → (within (get_or (meaning p u).carried r 0) ub ≡ true) ↔ Fits p ub r
    fits-is ub r i = (
      λ w n c. (within_iff (get_or (meaning p u).carried r 0) ub).0 w n ((row_is r n i).1 c),
      λ f. (within_iff (get_or (meaning p u).carried r 0) ub).1 (λ n e. f n ((row_is r n i).0 e)),
    )

    -- the roles that pass a test and carry q
    carriers_is : (test : ℕ → Bool) (q r : ℕ) → (has (carriers_of (meaning p u) test q) r ≡ true) ↔ ((test r ≡ true) × Carries p r q)
    unfolding carriers_of
    carriers_is test q r = (
      λ e. let w = set_of-has f 64 r e in (and_l (test r) _ w.0, (row_is r q w.1).0 (and_r (test r) _ w.0)),
      λ w. let i = carries_below r q w.1 in has-set_of f 64 r i (both (test r) _ w.0 ((row_is r q i).1 w.1)),
    )
      where
        f : ℕ → Bool
        f r = test r && has (get_or (meaning p u).carried r 0) q

    -- ---- what a set of roles lacks, where its members are those with the property P
    module _ (s : ℕ) (P : ℕ → Type 0) (mem : Members s P) (low : (r : ℕ) → P r → r < 64) where
      not_carried : (q : ℕ) → (has (carried_by (meaning p u) s) q ≡ false) ↔ ((r : ℕ) → P r → ¬ Carries p r q)
      unfolding carried_by
      not_carried q = (
        λ e r h c. let i = low r h in
            not_both (has (carried_by (meaning p u) s) q)
            ((has-union_at (meaning p u).carried s q).1 (record { member = r; below = i; chosen = (mem r).1 h; holds = (row_is r q i).1 c })) e,
        λ f. fails _ (λ e. let w = (has-union_at (meaning p u).carried s q).0 e in
            f w.member ((mem w.member).0 w.chosen) ((row_is w.member q w.below).0 w.holds)),
      )

      -- Q says that q is asked for, and that none of them carries it
      module _ (lb : ℕ) (small : lb < 2 ^ 256) (Q : ℕ → Type 0)
          (is : (q : ℕ) → Q q ↔ ((has lb q ≡ true) × ((r : ℕ) → P r → ¬ Carries p r q))) where
        lacked_is : (q : ℕ) → (lacked (meaning p u) lb s q ≡ true) ↔ Q q
        lacked_is q = (
          λ e. (is q).1 (and_l (has lb q) _ e, (not_carried q).0 (not-true _ (and_r (has lb q) _ e))),
          λ h. let w = (is q).0 h in both (has lb q) _ w.0 (ap not ((not_carried q).1 w.1)),
        )

        lacking-told : (q : ℕ) → (lacking (meaning p u) lb s ≡ some q) ↔ LowestWith Q q
        lacking-told q = (
          λ e. let w = (lacking_some (meaning p u) lb s q).0 e in
              record { holds = (lacked_is q).0 w.passes; lowest = λ j i h. not_both _ ((lacked_is j).1 h) (w.least j i) },
          λ w. (lacking_some (meaning p u) lb s q).1
              (record {
                small = has_below 256 lb q small ((is q).0 w.holds).0;
                passes = (lacked_is q).1 w.holds;
                least = λ j i. fails _ (λ e. w.lowest j i ((lacked_is j).0 e));
              }),
        )

        lacking-nothing : (lacking (meaning p u) lb s ≡ none) ↔ ((q : ℕ) → ¬ Q q)
        lacking-nothing = (
          λ e q h. let w = (lacking_none (meaning p u) lb s small).0 e in
              let z = (is q).0 h in
              not_both (has (carried_by (meaning p u) s) q) ((within_iff lb (carried_by (meaning p u) s)).0 w q z.0) ((not_carried q).1 z.1),
          λ f. go (lacking (meaning p u) lb s) refl f,
        )
          where
            go : (o : Option ℕ) → lacking (meaning p u) lb s ≡ o → ((q : ℕ) → ¬ Q q) → o ≡ none
            go none e f = refl
            go (some q) e f = absurd (f q ((lacking-told q).0 e).holds)

-- two sets with the same members
same_members : (s t : ℕ) (P : ℕ → Type 0) → Members s P → Members t P → s ≡ t
same_members s t P f g = same_sets s t (λ r. bool_ext (has s r) (has t r) (λ e. (g r).1 ((f r).0 e)) (λ e. (f r).1 ((g r).0 e)))

-- the front of a list
each_front : {A : Type 0} (P : A → Type 0) (xs ys : List A) → Each P (xs ++ ys) → Each P xs
each_front P [] ys e = tt
each_front P (x ∷ xs) ys e = (e.0, each_front P xs ys e.1)

-- a test of all exclusions is one of all in the order of the tidy image
all-sorted : (f : Exclusion → Bool) (xs : List Exclusion) → all f (sorted xs) ≡ all f xs
all-sorted f xs =
    all_same same_exclusion same_exclusion_refl same_exclusion_eq f (sorted xs) xs
    (λ z. bool_ext (any (λ y. same_exclusion y z) (sorted xs)) (any (λ y. same_exclusion y z) xs)
    (λ e. (any_mem z xs).1 ((sorted_mem z xs).0 ((any_mem z (sorted xs)).0 e))) (λ e. (any_mem z (sorted xs)).1 ((sorted_mem z xs).1 ((any_mem z xs).0 e))))

-- ---- an ask
module _ (p : Policy) (range : InRange p) (u : ℕ) (x : Others) (l : Line) (k lb ub : ℕ) (small : lb < 2 ^ 256) (open_k : k < length l.sessions) where
  abbrev m : Meaning
  m = meaning p u

  abbrev free : Meaning
  free = unbarred (meaning p u) x l k

  -- ---- the three sets of roles
  own_roles : Members m.authorized (Authorized p u)
  own_roles r = own_is p range u r

  upper_roles : Members (fitting m ub) (λ r. Authorized p u r × Fits p ub r)
  upper_roles r = (
    λ e. let w = fitting-has m ub r e in ((own_is p range u r).0 w.0, (fits-is p range u ub r w.2).0 w.1),
    λ w. let i = own_role p range u r w.0 in has-fitting m ub r i ((own_is p range u r).1 w.0) ((fits-is p range u ub r i).1 w.1),
  )

  free_roles : (r : ℕ) → (has free.authorized r ≡ true) ↔ (Authorized p u r × (barred m x l k r ≡ false))
  unfolding unbarred
  free_roles r = (
    λ e. let w = set_of-has f 64 r e in ((own_is p range u r).0 (and_l (has m.authorized r) _ w.0), not-true _ (and_r (has m.authorized r) _ w.0)),
    λ w. has-set_of f 64 r (own_role p range u r w.0) (both (has m.authorized r) _ ((own_is p range u r).1 w.0) (ap not w.1)),
  )
    where
      f : ℕ → Bool
      f r = has (meaning p u).authorized r && not (barred (meaning p u) x l k r)

  limit_roles : Members (fitting free ub) (λ r. Authorized p u r × Fits p ub r × (barred m x l k r ≡ false))
  limit_roles r = (
    λ e. let w = fitting-has free ub r e in
        let a = (free_roles r).0 w.0 in
        (a.0, (fits-is p range u ub r w.2).0 (unfold unbarred in w.1), a.1),
    λ w. let i = own_role p range u r w.0 in
        has-fitting free ub r i ((free_roles r).1 (w.0, w.2)) (unfold unbarred in ((fits-is p range u ub r i).1 w.1)),
  )

  -- ---- what each of them lacks
  own_lacks_lem : (q : ℕ) → LacksOwn p u x l k lb ub q ↔ ((has lb q ≡ true) × ((r : ℕ) → Authorized p u r → ¬ Carries p r q))
  own_lacks_lem q = (λ h. h, λ h. h)

  upper-lacks : (q : ℕ) → LacksUpper p u x l k lb ub q ↔ ((has lb q ≡ true) × ((r : ℕ) → Authorized p u r × Fits p ub r → ¬ Carries p r q))
  upper-lacks q = (
    λ h. (h.0, λ r a c. let w = h.1 r a.0 c in not_both (has ub w.0) (a.1 w.0 w.1) w.2),
    λ h. (h.0, λ r a c. go r a c (within (get_or m.carried r 0) ub) refl (h.1 r)),
  )
    where
      go : (r : ℕ) → Authorized p u r → Carries p r q → (b : Bool) → within (get_or (meaning p u).carried r 0) ub ≡ b
          → (Authorized p u r × Fits p ub r → ¬ Carries p r q) → Exceeds p ub r
      go r a c true e f = absurd (f (a, (fits-is p range u ub r (own_role p range u r a)).0 e) c)
      go r a c false e f =
          let w = outside (get_or (meaning p u).carried r 0) ub e in
          (w.0, (row_is p range u r w.0 (own_role p range u r a)).0 w.1, w.2)

  limit_lacks_lem : (q : ℕ)
      → LacksLimit p u x l k lb ub q ↔ ((has lb q ≡ true) × ((r : ℕ) → Authorized p u r × Fits p ub r × (barred m x l k r ≡ false) → ¬ Carries p r q))
  limit_lacks_lem q = (
    λ h. (h.0, λ r a c. not_both (barred m x l k r) (h.1 r a.0 c a.1) a.2),
    λ h. (h.0, λ r a c f. go r a c f (barred m x l k r) refl (h.1 r)),
  )
    where
      go : (r : ℕ) → Authorized p u r → Carries p r q → Fits p ub r → (b : Bool) → barred (meaning p u) x l k r ≡ b
          → (Authorized p u r × Fits p ub r × (barred (meaning p u) x l k r ≡ false) → ¬ Carries p r q) → b ≡ true
      go r a c f true e g = refl
      go r a c f false e g = absurd (g (a, f, e) c)

  abbrev Own : ℕ → Type 0
  Own = LacksOwn p u x l k lb ub

  abbrev Upper : ℕ → Type 0
  Upper = LacksUpper p u x l k lb ub

  abbrev Limit : ℕ → Type 0
  Limit = LacksLimit p u x l k lb ub

  own_told : (q : ℕ) → (lacking m lb m.authorized ≡ some q) ↔ LowestWith Own q
  own_told = lacking-told p range u m.authorized (Authorized p u) own_roles (own_role p range u) lb small Own own_lacks_lem

  own_nothing : (lacking m lb m.authorized ≡ none) ↔ ((q : ℕ) → ¬ Own q)
  own_nothing = lacking-nothing p range u m.authorized (Authorized p u) own_roles (own_role p range u) lb small Own own_lacks_lem

  upper-told : (q : ℕ) → (lacking m lb (fitting m ub) ≡ some q) ↔ LowestWith Upper q
  upper-told = lacking-told p range u (fitting m ub) _ upper_roles (λ r a. own_role p range u r a.0) lb small Upper upper-lacks

  upper-nothing : (lacking m lb (fitting m ub) ≡ none) ↔ ((q : ℕ) → ¬ Upper q)
  upper-nothing = lacking-nothing p range u (fitting m ub) _ upper_roles (λ r a. own_role p range u r a.0) lb small Upper upper-lacks

  limit_told : (q : ℕ) → (lacking m lb (fitting free ub) ≡ some q) ↔ LowestWith Limit q
  limit_told = lacking-told p range u (fitting free ub) _ limit_roles (λ r a. own_role p range u r a.0) lb small Limit limit_lacks_lem

  -- ---- the roles that are shown
  own_shown : (q : ℕ) → Members (carriers_of m (λ r. true) q) (λ r. Carries p r q)
  own_shown q r = (λ e. ((carriers_is p range u (λ r. true) q r).0 e).1, λ c. (carriers_is p range u (λ r. true) q r).1 (refl, c))

  upper-shown : (q : ℕ) → Members (carriers_of m (has m.authorized) q) (λ r. Authorized p u r × Carries p r q)
  upper-shown q r = (
    λ e. let w = (carriers_is p range u (has m.authorized) q r).0 e in ((own_is p range u r).0 w.0, w.1),
    λ w. (carriers_is p range u (has m.authorized) q r).1 ((own_is p range u r).1 w.0, w.1),
  )

  limit_shown : (q : ℕ) → Members (carriers_of m (has (fitting m ub)) q) (λ r. Authorized p u r × Carries p r q × Fits p ub r)
  limit_shown q r = (
    λ e. let w = (carriers_is p range u (has (fitting m ub)) q r).0 e in
        let a = (upper_roles r).0 w.0 in
        (a.0, w.1, a.1),
    λ w. (carriers_is p range u (has (fitting m ub)) q r).1 ((upper_roles r).1 (w.0, w.2), w.1),
  )

  -- ---- exclusions

  -- a policy with a front of the exclusions in tidy order is in range
  front_range : (xs ys : List Exclusion) → sorted p.exclusions ≡ xs ++ ys → InRange (excluding_just xs p)
  unfolding excluding_just
  front_range xs ys e =
      record {
        users = range.users;
        roles = range.roles;
        permissions = range.permissions;
        assigned = range.assigned;
        granted = range.granted;
        juniors = range.juniors;
        assigned_rows = range.assigned_rows;
        granted_rows = range.granted_rows;
        junior_rows = range.junior_rows;
        few_roles = range.few_roles;
        few_exclusions = omega (arith, range.few_exclusions, length-sorted p.exclusions, ap length e, length-append xs ys);
        exclusions =
            each_front (ExclusionInRange p.head.roles) xs ys
            (subst (Each (ExclusionInRange p.head.roles)) e (each_sorted (ExclusionInRange p.head.roles) p.exclusions range.exclusions));
        limits = range.limits;
      }

  -- with it the user's meaning is the policy's with those exclusions alone
  same_meaning : (xs : List Exclusion) → excluding_only free xs ≡ unbarred (meaning (excluding_just xs p) u) x l k
  unfolding excluding_only unbarred barred meaning excluding_just authorized carried_table granter reached below_table
  same_meaning xs = refl

  -- some set is left exactly if one is permitted
  left_permitted : (xs : List Exclusion) → InRange (excluding_just xs p) → (left free l k lb ub xs ≡ true) ↔ Left p u x l k lb ub xs
  left_permitted xs w = (
    λ e. let s = (left_is free l k lb ub (unbarred_below m x l k) xs).0 e in
        (s.0, (permitted_is (excluding_just xs p) w u l k lb ub s.0 open_k x).0 ((unbarred_is s.0).0 (subst (Is s.0) (same_meaning xs) s.1))),
    λ s. (left_is free l k lb ub (unbarred_below m x l k) xs).1
        (s.0, subst (Is s.0) (sym (same_meaning xs)) ((unbarred_is s.0).1 ((permitted_is (excluding_just xs p) w u l k lb ub s.0 open_k x).1 s.1))),
  )
    where
      Is : ℕ → Meaning → Type 0
      Is s n = admissible n l k lb ub s ≡ true

      unbarred_is : (s : ℕ) → (admissible (unbarred (meaning (excluding_just xs p) u) x l k) l k lb ub s ≡ true)
          ↔ ((admissible (meaning (excluding_just xs p) u) l k lb ub s ≡ true) × Unbarred (meaning (excluding_just xs p) u) x l k s)
      unbarred_is = admissible-unbarred (meaning (excluding_just xs p) u) x l k (own_low (excluding_just xs p) w u) lb ub

  -- with all of them, exactly if one is permitted by the policy
  all-met : (s : ℕ) → admissible (excluding_only free (sorted p.exclusions)) l k lb ub s ≡ admissible free l k lb ub s
  unfolding admissible excluding_only unbarred exclusions_met carried_by meaning
  all-met s =
      λ i. within s free.authorized && within lb (carried_by m s) && within (carried_by m s) ub
      && all (λ a. all-sorted (met (counted (put_in k s l) a)) p.exclusions i) (put_in k s l).sessions

  left-all : (left free l k lb ub m.ordered ≡ true) ↔ ((s : ℕ) × Permitted p u x l k lb ub s)
  unfolding meaning
  left-all =
      let a = admissible-unbarred m x l k (own_low p range u) lb ub in (
        λ e. let s = (left_is free l k lb ub (unbarred_below m x l k) (sorted p.exclusions)).0 e in
            (s.0, (permitted_is p range u l k lb ub s.0 open_k x).0 ((a s.0).0 (sym (all-met s.0) ∙ s.1))),
        λ s. (left_is free l k lb ub (unbarred_below m x l k) (sorted p.exclusions)).1
            (s.0, all-met s.0 ∙ (a s.0).1 ((permitted_is p range u l k lb ub s.0 open_k x).1 s.1)),
      )

  -- an ask has no answer exactly if something stands in the way
  pub unanswered : (a b : ℕ) → choose free l k lb ub a b ≡ none → ¬ (obstacle_of m x l k lb ub ≡ none)
  unfolding meaning
  unanswered a b e n =
      let s = (left_is free l k lb ub (unbarred_below m x l k) (sorted p.exclusions)).0 (way_none m x l k lb ub small n) in
      not_both (admissible free l k lb ub s.0) (sym (all-met s.0) ∙ s.1) ((choice free l k lb ub a b (unbarred_below m x l k)).is-none.0 e s.0)

  pub answered : (a b s : ℕ) → choose free l k lb ub a b ≡ some s → obstacle_of m x l k lb ub ≡ none
  unfolding meaning
  answered a b s e =
      let w = ((choice free l k lb ub a b (unbarred_below m x l k)).is_best s).0 e in
      none_way m x l k lb ub small
      ((left_is free l k lb ub (unbarred_below m x l k) (sorted p.exclusions)).1 (s, all-met s ∙ w.is_admissible))

  -- the order of the tidy image
  ordered_is : m.ordered ≡ sorted p.exclusions
  unfolding meaning
  ordered_is = refl

  tidy_order_lem : InTidyOrder p (sorted p.exclusions)
  tidy_order_lem = record { ascending = ascending-sorted p.exclusions; members = λ y. sorted_mem y p.exclusions }

  -- ---- what is told
  abbrev It : Obstacle → Type 0
  It = Stands p u x l k lb ub

  abbrev told : Option Obstacle
  told = obstacle_of m x l k lb ub

  -- by each kind
  abbrev kind1 : Option Obstacle
  kind1 = lacks 1 (carriers_of m (λ r. true)) (lacking m lb m.authorized)

  abbrev kind2 : Option Obstacle
  kind2 = lacks 2 (carriers_of m (has m.authorized)) (lacking m lb (fitting m ub))

  abbrev kind3 : Option Obstacle
  kind3 = lacks 3 (carriers_of m (has (fitting m ub))) (lacking m lb (fitting free ub))

  abbrev kind4 : Option Obstacle
  kind4 = blocks l k (blocking (left free l k lb ub) [] m.ordered)

  own_stands : (o : Obstacle) → kind1 ≡ some o → It o
  own_stands o e =
      let w = lacks_some 1 _ _ o e in
      subst It w.2 (by_own w.0 _ ((own_told w.0).0 w.1) (own_shown w.0))

  upper_stands : (o : Obstacle) → lacking m lb m.authorized ≡ none → kind2 ≡ some o → It o
  upper_stands o n e =
      let w = lacks_some 2 _ _ o e in
      subst It w.2 (by_upper w.0 _ (own_nothing.0 n) ((upper-told w.0).0 w.1) (upper-shown w.0))

  limit_stands : (o : Obstacle) → lacking m lb (fitting m ub) ≡ none → kind3 ≡ some o → It o
  limit_stands o n e =
      let w = lacks_some 3 _ _ o e in
      subst It w.2 (by_limit w.0 _ (upper-nothing.0 n) ((limit_told w.0).0 w.1) (limit_shown w.0))

  exclusion_stands : (o : Obstacle) → lacking m lb (fitting free ub) ≡ none → kind4 ≡ some o → It o
  unfolding blocks
  exclusion_stands o n e =
      let w = blocks_some l k _ o e in
      let b = blocked_at (left free l k lb ub) [] m.ordered w.0 (limit_left m x l k lb ub small n) w.1 in
      subst It (some-injective _ o w.2) (fourth w.0 b)
    where
      fourth : (y : Exclusion) → BlocksAt (left free l k lb ub) [] (meaning p u).ordered y
          → It (record { kind = 4; about = kind_number y.kind + 4 * y.n; first = inter y.members (stays l k y.kind); second = y.members })
      fourth y b =
          let e : sorted p.exclusions ≡ b.before ++ (y ∷ b.after) = unfold meaning in b.parts in
          let f : sorted p.exclusions ≡ (b.before ++ (y ∷ [])) ++ b.after = e ∙ sym (append_assoc b.before (y ∷ []) b.after) in
          by_exclusion b.before b.after y _ (subst (InTidyOrder p) e tidy_order_lem)
          ((left_permitted b.before (front_range b.before (y ∷ b.after) e)).0 b.holds)
          (λ s. not_both (left free l k lb ub (b.before ++ (y ∷ [])))
          ((left_permitted (b.before ++ (y ∷ [])) (front_range (b.before ++ (y ∷ [])) b.after f)).1 s) b.fails) (stays_is l k y)

  to : (o : Obstacle) → told ≡ some o → It o
  unfolding obstacle_of
  to o e = first (or_else_some _ _ o e)
    where
      third : (kind3 ≡ some o) ⊎ ((kind3 ≡ none) × (kind4 ≡ some o)) → lacking m lb (fitting m ub) ≡ none → It o
      third (inl f) n = limit_stands o n f
      third (inr f) n = exclusion_stands o (lacks_none 3 _ _ f.0) f.1

      second : (kind2 ≡ some o) ⊎ ((kind2 ≡ none) × (or_else kind3 kind4 ≡ some o)) → lacking m lb m.authorized ≡ none → It o
      second (inl f) n = upper_stands o n f
      second (inr f) n = third (or_else_some _ _ o f.1) (lacks_none 2 _ _ f.0)

      first : (kind1 ≡ some o) ⊎ ((kind1 ≡ none) × (or_else kind2 (or_else kind3 kind4) ≡ some o)) → It o
      first (inl f) = own_stands o f
      first (inr f) = second (or_else_some _ _ o f.1) (lacks_none 1 _ _ f.0)

  -- what stands in the way is told
  lacked_told : (kind : ℕ) (roles : ℕ → ℕ) (q s : ℕ) (o : Option ℕ) → o ≡ some q → roles q ≡ s
      → lacks kind roles o ≡ some (record { kind = kind; about = q; first = s; second = 0 })
  unfolding lacks
  lacked_told kind roles q s o e f = ap (lacks kind roles) e ∙ (λ i. some (record { kind = kind; about = q; first = f i; second = 0 }))

  from : (o : Obstacle) → It o → told ≡ some o
  unfolding obstacle_of lacks blocks
  from o (by_own q s w f) =
      or_first _ _ _ (lacked_told 1 _ q s _ ((own_told q).1 w) (same_members _ s _ (own_shown q) f))
  from o (by_upper q s n w f) =
      or_second _ _ (ap (lacks 1 _) (own_nothing.1 n))
      ∙ or_first _ _ _ (lacked_told 2 _ q s _ ((upper-told q).1 w) (same_members _ s _ (upper-shown q) f))
  from o (by_limit q s n w f) =
      let a = upper-nothing.1 n in
      or_second _ _ (ap (lacks 1 _) (own_none m x l k lb ub small a)) ∙ or_second _ _ (ap (lacks 2 _) a)
      ∙ or_first _ _ _ (lacked_told 3 _ q s _ ((limit_told q).1 w) (same_members _ s _ (limit_shown q) f))
  from o (by_exclusion front rest y c t s n g) =
      let e : sorted p.exclusions ≡ front ++ (y ∷ rest) = sorted_only p.exclusions (front ++ (y ∷ rest)) t.ascending t.members in
      let f : sorted p.exclusions ≡ (front ++ (y ∷ [])) ++ rest = e ∙ sym (append_assoc front (y ∷ []) rest) in
      let a = (left_permitted front (front_range front (y ∷ rest) e)).1 s in
      let b = left_permitted (front ++ (y ∷ [])) (front_range (front ++ (y ∷ [])) rest f) in
      way_fourth m x l k lb ub small (left_limit m x l k lb ub small front a)
      ∙ ap (blocks l k) (ap (blocking (left free l k lb ub) []) (ordered_is ∙ e)
      ∙ at_blocked (left free l k lb ub) (left_front free l k lb ub (unbarred_below m x l k)) [] front rest y a
      (fails (left free l k lb ub (front ++ (y ∷ []))) (λ h. n (b.0 h))))
      ∙ (λ i. some (shown y (same_members _ c _ (stays_is l k y) g i)))
    where
      shown : Exclusion → ℕ → Obstacle
      shown y c = record { kind = 4; about = kind_number y.kind + 4 * y.n; first = c; second = y.members }

  -- nothing that is told is lost
  readable : (o : Obstacle) → It o → Readable o
  readable o (by_own q s w f) =
      record { kind = omega arith; about = omega arith; first = members_below_lem 64 s (λ r e. carries_below p range r q ((f r).0 e)); second = pow_pos 64 }
  readable o (by_upper q s n w f) =
      record { kind = omega arith; about = omega arith; first = members_below_lem 64 s (λ r e. own_role p range u r ((f r).0 e).0); second = pow_pos 64 }
  readable o (by_limit q s n w f) =
      record { kind = omega arith; about = omega arith; first = members_below_lem 64 s (λ r e. own_role p range u r ((f r).0 e).0); second = pow_pos 64 }
  readable o (by_exclusion front rest y c t s n g) =
      let r = each_mem (ExclusionInRange p.head.roles) p.exclusions range.exclusions y
      ((t.members y).0 (Memᴰ.append_right front (Memᴰ.head refl))) in
      let h = lt_of_lt_of_le r.members (pow_mono (few p range)) in
      record {
        kind = omega arith;
        about = omega arith;
        first = members_below_lem 64 c (λ i w. has_below 64 y.members i h ((g i).0 w).0);
        second = h;
      }

  one : ((s : ℕ) → ¬ Permitted p u x l k lb ub s) → (o : Obstacle) × It o × ((b : Obstacle) → It b → b ≡ o)
  one n = go told refl
    where
      go : (t : Option Obstacle) → obstacle_of (meaning p u) x l k lb ub ≡ t → (o : Obstacle) × It o × ((b : Obstacle) → It b → b ≡ o)
      go none e = let s = left-all.0 (way_none (meaning p u) x l k lb ub small e) in absurd (n s.0 s.1)
      go (some o) e = (o, to o e, λ b i. some-injective b o (sym (from b i) ∙ e))

  pub obstacle_is : ObstacleIs p u x l k lb ub
  obstacle_is =
      record {
        tells = λ o. (to o, from o);
        clear = (λ e. left-all.0 (way_none m x l k lb ub small e), λ s. none_way m x l k lb ub small (left-all.1 s));
        one = one;
        readable = readable;
      }
