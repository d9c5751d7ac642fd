-- What stands in the way, by a policy's meaning: with no exclusion some set is left exactly if the roles that fit and
-- are not barred give every permission, and so nothing stands in the way exactly if some set is left with every
-- exclusion.
-- Assumes nothing.
use mathlib.Core.Path.{◌≡◌, refl, sym, ap, ◌∙◌}
use mathlib.Core.Logic.{◌↔◌}
use mathlib.Core.Bool.{Bool, true, false, ◌&&◌, not}
use mathlib.Core.Option.{Option, none, some, some-injective, some-ne-none, none-ne-some}
use mathlib.Core.List.Memᴰ
use mathlib.Core.List.{List, [], ◌++◌}
use Prim.Native.Nat.{ℕ, ◌^◌, ◌<◌}
use lib.ListN.{get_or}
use borrow.Author.Tests.{not-false}
use Rattle.model.specs.declared.Exclusion.{Exclusion}
use Rattle.model.specs.declared.Line.{Line}
use Rattle.model.specs.Tests.{all, is_some}
use Rattle.model.specs.Sets.{has, within, subsets}
use Rattle.model.specs.Policy.{Meaning, met}
use Rattle.model.specs.Line.{counted, exclusions_met, put_in}
use Rattle.model.specs.Limits.{Others, unbarred}
use Rattle.model.specs.Choice.{carried_by, admissible, choose}
use Rattle.model.specs.Chosen.{ChoiceIs}
use Rattle.model.specs.Obstacle.{Obstacle, lacking, fitting, lacks, excluding_only, left, blocking, blocks, obstacle_of}
use Rattle.model_laws.proofs.Bools.{and_l, and_r, both, four, all_four, fails, not_both}
use Rattle.model_laws.proofs.UnionLaws.{has_below, has-union_at}
use Rattle.model_laws.proofs.AnyWidth.{within_iff}
use Rattle.model_laws.proofs.Inclusion.{within_trans}
use Rattle.model_laws.proofs.LowestLaws.{set_of-has, has-set_of}
use Rattle.model_laws.proofs.Every.{all_mem, mem_all}
use Rattle.model_laws.proofs.Choices
use Rattle.model_laws.proofs.Barred.{unbarred_below, left_own}
use Rattle.model_laws.proofs.Blocking.{any_some, some_any, or_else_none, or_second, LowestBelow, below_none, below_some, never_blocked, not_blocked}

-- ---- permissions that are lacking

-- more roles carry no less
pub carried_mono : (m : Meaning) (s t : ℕ) → within s t ≡ true → within (carried_by m s) (carried_by m t) ≡ true
unfolding carried_by
carried_mono m s t w =
    (within_iff (carried_by m s) (carried_by m t)).1
    (λ q e. let h = (has-union_at m.carried s q).0 e in
    (has-union_at m.carried t q).1
    (record { member = h.member; below = h.below; chosen = (within_iff s t).0 w h.member h.chosen; holds = h.holds }))

module _ (m : Meaning) (lower s : ℕ) where
  abbrev pub lacked : ℕ → Bool
  lacked q = has lower q && not (has (carried_by m s) q)

  pub lacking_some : (q : ℕ) → (lacking m lower s ≡ some q) ↔ LowestBelow lacked 256 q
  unfolding lacking
  lacking_some q = below_some lacked 256 q

  -- none is exactly if the roles carry the whole of a bound of 256 permissions
  pub lacking_none : lower < 2 ^ 256 → (lacking m lower s ≡ none) ↔ (within lower (carried_by m s) ≡ true)
  unfolding lacking
  lacking_none small = (
    λ e. (within_iff lower (carried_by m s)).1 (λ q h. carried q h ((below_none lacked 256).0 e q (has_below 256 lower q small h))),
    λ w. (below_none lacked 256).1 (λ q i. go q (has lower q) refl w),
  )
    where
      carried : (q : ℕ) → has lower q ≡ true → lacked q ≡ false → has (carried_by m s) q ≡ true
      carried q h e = not-false (has (carried_by m s) q) (sym (ap (λ (b : Bool). b && not (has (carried_by m s) q)) h) ∙ e)

      go : (q : ℕ) (b : Bool) → has lower q ≡ b → within lower (carried_by m s) ≡ true → (b && not (has (carried_by m s) q)) ≡ false
      go q true h w = ap not ((within_iff lower (carried_by m s)).0 w q h)
      go q false h w = refl

-- ---- the roles that fit the upper bound
module _ (m : Meaning) (upper : ℕ) where
  abbrev fits : ℕ → Bool
  fits r = has m.authorized r && within (get_or m.carried r 0) upper

  pub fitting-has : (r : ℕ) → has (fitting m upper) r ≡ true → (has m.authorized r ≡ true) × (within (get_or m.carried r 0) upper ≡ true) × (r < 64)
  unfolding fitting
  fitting-has r e =
      let w = set_of-has fits 64 r e in
      (and_l (has m.authorized r) _ w.0, and_r (has m.authorized r) _ w.0, w.1)

  pub has-fitting : (r : ℕ) → r < 64 → has m.authorized r ≡ true → within (get_or m.carried r 0) upper ≡ true → has (fitting m upper) r ≡ true
  unfolding fitting
  has-fitting r i e f = has-set_of fits 64 r i (both (has m.authorized r) _ e f)

  -- they are the user's
  pub fitting_own : within (fitting m upper) m.authorized ≡ true
  fitting_own = (within_iff (fitting m upper) m.authorized).1 (λ r e. (fitting-has r e).0)

  -- together they fit
  pub fitting-fits : within (carried_by m (fitting m upper)) upper ≡ true
  unfolding carried_by
  fitting-fits =
      (within_iff (carried_by m (fitting m upper)) upper).1
      (λ q e. let h = (has-union_at m.carried (fitting m upper) q).0 e in
      (within_iff (get_or m.carried h.member 0) upper).0 (fitting-has h.member h.chosen).1 q h.holds)

  -- a set of the user's roles that fits is among them
  pub fitting-all : m.authorized < 2 ^ 64 → (s : ℕ) → within s m.authorized ≡ true → within (carried_by m s) upper ≡ true
      → within s (fitting m upper) ≡ true
  unfolding carried_by
  fitting-all below s o w =
      (within_iff s (fitting m upper)).1
      (λ r e. let i = (within_iff s m.authorized).0 o r e in
      let b = has_below 64 m.authorized r below i in
      has-fitting r b i
      ((within_iff (get_or m.carried r 0) upper).1
      (λ q h. (within_iff (carried_by m s) upper).0 w q
      ((has-union_at m.carried s q).1 (record { member = r; below = b; chosen = e; holds = h })))))

-- ---- sets that are left with the exclusions xs alone

module _ (m : Meaning) (l : Line) (k lower upper : ℕ) where
  -- s is admissible with the exclusions xs alone
  abbrev pub Fine : List Exclusion → ℕ → Type 0
  Fine xs s = admissible (excluding_only m xs) l k lower upper s ≡ true

  -- with fewer exclusions no less is admissible
  fine_front : (xs ys : List Exclusion) (s : ℕ) → Fine (xs ++ ys) s → Fine xs s
  unfolding admissible excluding_only carried_by exclusions_met
  fine_front xs ys s e =
      let w = four (within s m.authorized) _ _ _ e in
      all_four (within s m.authorized) _ _ _ w.0 w.1 w.2
      (mem_all _ (put_in k s l).sessions (λ a i. let h = all_mem _ (put_in k s l).sessions w.3 a i in
      mem_all (met (counted (put_in k s l) a)) xs (λ y j. all_mem _ (xs ++ ys) h y (Memᴰ.append_left ys j))))

  module _ (below : m.authorized < 2 ^ 64) where
    -- some set is
    pub left_is : (xs : List Exclusion) → (left m l k lower upper xs ≡ true) ↔ ((s : ℕ) × Fine xs s)
    unfolding left excluding_only
    left_is xs = (
      λ e. let w = any_some (admissible (excluding_only m xs) l k lower upper) (subsets 64 m.authorized) e in (w.0, w.2),
      λ w. some_any (admissible (excluding_only m xs) l k lower upper) (subsets 64 m.authorized) w.0
          (Choices.listed (excluding_only m xs) l k lower upper 0 0 below w.0 w.1) w.1,
    )

    -- that is, the choice with them gives one, whatever the objectives
    pub left_choice : (xs : List Exclusion) (a b : ℕ) → left m l k lower upper xs ≡ is_some (choose (excluding_only m xs) l k lower upper a b)
    unfolding is_some
    left_choice xs a b = go (choose (excluding_only m xs) l k lower upper a b) refl
      where
        is : ChoiceIs (excluding_only m xs) l k lower upper a b
        is = Choices.choice (excluding_only m xs) l k lower upper a b (unfold excluding_only in below)

        go : (o : Option ℕ) → choose (excluding_only m xs) l k lower upper a b ≡ o → left m l k lower upper xs ≡ is_some o
        go none e = fails _ (λ h. let w = (left_is xs).0 h in not_both _ w.1 (is.is-none.0 e w.0))
        go (some s) e = (left_is xs).1 (s, ((is.is_best s).0 e).is_admissible)

    pub left_front : (xs ys : List Exclusion) → left m l k lower upper (xs ++ ys) ≡ true → left m l k lower upper xs ≡ true
    left_front xs ys e = let w = (left_is (xs ++ ys)).0 e in (left_is xs).1 (w.0, fine_front xs ys w.0 w.1)

    -- the roles that fit, all together, are left where they give every permission and there is no exclusion
    fitting-left : within lower (carried_by m (fitting m upper)) ≡ true → left m l k lower upper [] ≡ true
    unfolding admissible excluding_only carried_by exclusions_met all
    fitting-left w = (left_is []).1 (fitting m upper, fine)
      where
        fine : Fine [] (fitting m upper)
        fine =
            all_four (within (fitting m upper) m.authorized) _ _ _ (fitting_own m upper) w (fitting-fits m upper)
            (mem_all _ (put_in k (fitting m upper) l).sessions (λ _ _. refl))

    -- where a set is left, they give every permission
    left-fitting : (xs : List Exclusion) → left m l k lower upper xs ≡ true → within lower (carried_by m (fitting m upper)) ≡ true
    unfolding admissible excluding_only carried_by
    left-fitting xs e = let w = (left_is xs).0 e in go w.0 w.1
      where
        go : (s : ℕ) → Fine xs s → within lower (carried_by m (fitting m upper)) ≡ true
        go s e =
            let w = four (within s m.authorized) _ _ _ e in
            within_trans lower (carried_by m s) (carried_by m (fitting m upper)) w.1
            (carried_mono m s (fitting m upper) (fitting-all m upper below s w.0 w.2))

-- ---- the two sorts of obstacle

pub lacks_none : (kind : ℕ) (roles : ℕ → ℕ) (o : Option ℕ) → lacks kind roles o ≡ none → o ≡ none
unfolding lacks
lacks_none kind roles none e = refl
lacks_none kind roles (some q) e = absurd (some-ne-none _ e)

pub lacks_some : (kind : ℕ) (roles : ℕ → ℕ) (o : Option ℕ) (b : Obstacle) → lacks kind roles o ≡ some b
    → (q : ℕ) × (o ≡ some q) × (record { kind = kind; about = q; first = roles q; second = 0 } ≡ b)
unfolding lacks
lacks_some kind roles none b e = absurd (none-ne-some b e)
lacks_some kind roles (some q) b e = (q, refl, some-injective _ b e)

blocks_none : (l : Line) (k : ℕ) (o : Option Exclusion) → blocks l k o ≡ none → o ≡ none
unfolding blocks
blocks_none l k none e = refl
blocks_none l k (some y) e = absurd (some-ne-none _ e)

pub blocks_some : (l : Line) (k : ℕ) (o : Option Exclusion) (b : Obstacle) → blocks l k o ≡ some b
    → (y : Exclusion) × (o ≡ some y) × (blocks l k (some y) ≡ some b)
unfolding blocks
blocks_some l k none b e = absurd (none-ne-some b e)
blocks_some l k (some y) b e = (y, refl, e)

-- ---- what stands in the way
module _ (m : Meaning) (x : Others) (l : Line) (k lower upper : ℕ) (small : lower < 2 ^ 256) where
  abbrev pub free : Meaning
  free = unbarred m x l k

  -- the roles of each kind, and what they lack
  abbrev pub lack_own : Option ℕ
  lack_own = lacking m lower m.authorized

  abbrev pub lack_upper : Option ℕ
  lack_upper = lacking m lower (fitting m upper)

  abbrev pub lack_limit : Option ℕ
  lack_limit = lacking m lower (fitting free upper)

  abbrev pub blocked : Option Exclusion
  blocked = blocking (left free l k lower upper) [] m.ordered

  -- roles that fit and are not barred fit
  limit_within : within (fitting free upper) (fitting m upper) ≡ true
  limit_within =
      (within_iff (fitting free upper) (fitting m upper)).1
      (λ r e. let w = fitting-has free upper r e in has-fitting m upper r w.2 (left_own m x l k r w.0) (unfold unbarred in w.1))

  -- so, of three sets of roles that each lie within the one before, none lacks a permission where the last lacks none
  pub upper_none : lack_limit ≡ none → lack_upper ≡ none
  upper_none e =
      (lacking_none m lower (fitting m upper) small).1
      (within_trans lower _ _ ((lacking_none m lower (fitting free upper) small).0 e) (carried_mono m (fitting free upper) (fitting m upper) limit_within))

  pub own_none : lack_upper ≡ none → lack_own ≡ none
  own_none e =
      (lacking_none m lower m.authorized small).1
      (within_trans lower _ _ ((lacking_none m lower (fitting m upper) small).0 e) (carried_mono m (fitting m upper) m.authorized (fitting_own m upper)))

  -- the last lacks none exactly if a set is left with no exclusion
  pub limit_left : lack_limit ≡ none → left free l k lower upper [] ≡ true
  limit_left e =
      fitting-left free l k lower upper (unbarred_below m x l k)
      (unfold carried_by unbarred in ((lacking_none m lower (fitting free upper) small).0 e))

  pub left_limit : (xs : List Exclusion) → left free l k lower upper xs ≡ true → lack_limit ≡ none
  left_limit xs e =
      (lacking_none m lower (fitting free upper) small).1
      (unfold carried_by unbarred in (left-fitting free l k lower upper (unbarred_below m x l k) xs e))

  -- nothing stands in the way exactly if a set is left with every exclusion
  pub way_none : obstacle_of m x l k lower upper ≡ none → left free l k lower upper m.ordered ≡ true
  unfolding obstacle_of
  way_none e =
      let a = or_else_none _ _ (or_else_none _ _ (or_else_none _ _ e).1).1 in
      never_blocked (left free l k lower upper) [] m.ordered (limit_left (lacks_none _ _ _ a.0)) (blocks_none l k blocked a.1)

  -- where kinds 1 to 3 say nothing, kind 4 decides
  pub way_fourth : lack_limit ≡ none → obstacle_of m x l k lower upper ≡ blocks l k blocked
  unfolding obstacle_of lacks
  way_fourth e =
      let f = upper_none e in
      or_second _ _ (ap (lacks 1 _) (own_none f)) ∙ or_second _ _ (ap (lacks 2 _) f) ∙ or_second _ _ (ap (lacks 3 _) e)

  pub none_way : left free l k lower upper m.ordered ≡ true → obstacle_of m x l k lower upper ≡ none
  unfolding blocks
  none_way e =
      way_fourth (left_limit m.ordered e)
      ∙ ap (blocks l k) (not_blocked (left free l k lower upper) (left_front free l k lower upper (unbarred_below m x l k)) [] m.ordered e)
