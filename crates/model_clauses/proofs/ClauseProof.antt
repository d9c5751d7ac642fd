-- The hard clauses of an ask are satisfied exactly by what says an admissible set and what it carries, and an
-- exclusion has few clauses.
-- Assumes nothing.
use mathlib.Core.Path.{◌≡◌, refl, sym, ap, ◌∙◌, subst}
use mathlib.Core.Logic.{inl, inr, ◌↔◌}
use mathlib.Core.Bool.{Bool, true, false, ◌&&◌, ◌||◌, not}
use mathlib.Core.List.{List, [], ◌∷◌, ◌++◌}
use Prim.Native.Nat.{ℕ, zero, suc, ◌+◌, ◌-◌, ◌*◌, ◌^◌, ◌≤◌, ◌<◌}
use native.Mathlib.Nat.{mul-le-mul_right}
use native.Mathlib.Omega.{arith}
use lib.Dec.{ltb}
use lib.ListN.{length, get_or, length-append}
use borrow.Author.Tests.{lt-ltb, le-ltb}
use Rattle.model.specs.declared.Kind.{Kind}
use Rattle.model.specs.declared.Kind.TheVariants.{SsDmer, MsDmer, SsHmer, MsHmer}
use Rattle.model.specs.declared.Exclusion.{Exclusion}
use Rattle.model.specs.declared.Line.{Line}
use Rattle.model.specs.Tests.{pick, any, all}
use Rattle.model.specs.Sets.{has, union, inter, within, one, count_to, count, union_at, set_of}
use Rattle.model.specs.Policy.{Meaning}
use Rattle.model.specs.Line.{session_at, active_in, others, counted, exclusions_met}
use Rattle.model.specs.Conditions.{counted_after, MetAfter}
use Rattle.model.specs.Choice.{carried_by, admissible}
use Rattle.model.specs.Ranges.{Each, ExclusionInRange}
use Rattle.model.specs.Reduced.{stay, stays, mask_of, reduced_n}
use Rattle.model.specs.Clauses.{Clause, holds, fails, must, must_not, list_to, when, role_variable, permission_variable, last_plain, barring, carries, carrying, carriers, carried, bounding, variables_in, uncounted, n_left, counter, excluding, helpers, excluding_all, hard}
use Rattle.model_clauses.specs.Satisfied.{Valuation, makes, satisfies, satisfies_all, named, Says, HardIs, FewClauses}
use borrow.Table.Steps.{cases}
use Rattle.model_laws.proofs.Eachs.{each_append, each_mem, mem_each}
use Rattle.model_laws.proofs.Bools.{and_l, or_l, or_r, or_cases, not_both, bool_ext}
use Rattle.model_laws.proofs.SetLaws.{has-union, has-inter, count-within}
use Rattle.model_laws.proofs.UnionLaws.{has_below, has-union_at, union_to_lt}
use Rattle.model_laws.proofs.Inclusion.{within_refl, none_within, inter-within}
use Rattle.model_laws.proofs.AnyWidth.{same_sets, within_iff}
use Rattle.model_laws.proofs.Actives.{active_elsewhere_lem, at_active}
use Rattle.model_laws.proofs.ConditionsProof.{Met}
use Rattle.sets.proofs.Taken.{has-lacking}
use Rattle.model_clauses.proofs.Meant.{Solved, Meant}
use Rattle.model_laws.proofs.LowestLaws.{set_of-has, has-set_of}
use Rattle.model_laws.proofs.MetLaws.{counted_then}
use Rattle.model_clauses.proofs.ClauseLaws.{list_to_same, all_join, all_front, all_back, all_one, one-all, all-when, when-all, all-list_to, list_to-all, any-list_to, list_to-any, any-when, when-any, must-says, says-must, must_not-says, says-must_not, gives-says, says-gives, counter-length, chosen, counter-counts, counted-counter, SameTo, UpTo, up_more, chosen_same, counted_same, filled, filled_same, filled_counted}

-- ---- the members of an exclusion that are not counted yet

-- how many of a list are true, by its parts
chosen_append : (v : Valuation) (xs ys : List ℕ) → chosen v (xs ++ ys) ≡ chosen v xs + chosen v ys
unfolding chosen
chosen_append v [] ys = omega arith
chosen_append v (x ∷ xs) ys = omega (arith, chosen_append v xs ys)

chosen-when : (v : Valuation) (b : Bool) (x : ℕ) → chosen v (when b x) ≡ one (b && v x)
unfolding chosen when
chosen-when v true x = omega arith
chosen-when v false x = refl

-- the members that are not in base
pub uncounted_is : (x : Exclusion) (base : ℕ)
    → uncounted x base ≡ list_to 64 (λ r. when (has x.members r && not (has base r)) (role_variable r))
unfolding uncounted variables_in mask_of
uncounted_is x base =
    list_to_same 64 (λ r. when (has (mask_of x.members base) r) (role_variable r))
    (λ r. when (has x.members r && not (has base r)) (role_variable r))
    (λ r l. ap (λ (b : Bool). when b (role_variable r)) (has-lacking x.members base r))

-- the members in base or in s are those in base and, of the others, those in s; v says s at the members
module _ (m b s : ℕ) (v : Valuation) where
  abbrev left : ℕ → List ℕ
  left d = list_to d (λ r. when (has m r && not (has b r)) (role_variable r))

  digit : (x y z t : Bool) → (x ≡ true → t ≡ z) → one (x && (y || z)) ≡ one (x && y) + one ((x && not y) && t)
  digit false y z t h = refl
  digit true false false t h = rw (h refl)
  digit true false true t h = rw (h refl)
  digit true true z t h = refl

  apart : (d : ℕ) → ((r : ℕ) → r < d → has m r ≡ true → v (role_variable r) ≡ has s r)
      → count d (inter m (union b s)) ≡ count d (inter m b) + chosen v (left d)
  unfolding count count_to chosen list_to
  apart zero h = refl
  apart (suc d) h =
      let e : one (has (inter m (union b s)) d) ≡ one (has m d && has b d) + one ((has m d && not (has b d)) && v (role_variable d)) =
      ap one (has-inter m (union b s) d ∙ ap (λ (x : Bool). has m d && x) (has-union b s d))
      ∙ digit (has m d) (has b d) (has s d) (v (role_variable d)) (h d (omega arith)) in
      let f : one (has (inter m b) d) ≡ one (has m d && has b d) = ap one (has-inter m b d) in
      omega (
        arith,
        apart d (λ r l. h r (omega arith)),
        chosen_append v (left d) (when (has m d && not (has b d)) (role_variable d)),
        chosen-when v (has m d && not (has b d)) (role_variable d),
      )

  -- there are no more of them than members
  pub left-length : (d : ℕ) → length (left d) ≤ count d m
  unfolding count count_to list_to when
  left-length zero = omega arith
  left-length (suc d) = omega (arith, left-length d, length-append (left d) (when (has m d && not (has b d)) (role_variable d)), last (has m d) (has b d))
    where
      last : (x y : Bool) → length (when (x && not y) (role_variable d)) ≤ one x
      last true true = omega arith
      last true false = omega arith
      last false y = omega arith

-- ---- properties of each member
module _ {A : Type 0} (P : A → Type 0) where
  pub each_when : (b : Bool) (x : A) → (b ≡ true → P x) → Each P (when b x)
  unfolding when
  each_when true x h = (h refl, tt)
  each_when false x h = tt

  pub each_list_to : (n : ℕ) (f : ℕ → List A) → ((k : ℕ) → k < n → Each P (f k)) → Each P (list_to n f)
  unfolding list_to
  each_list_to zero f h = tt
  each_list_to (suc n) f h = each_append P (list_to n f) (f n) (each_list_to n f (λ k l. h k (omega arith))) (h n (omega arith))

pub uncounted-length : (x : Exclusion) (base : ℕ) → length (uncounted x base) ≤ count 64 x.members
uncounted-length x base = omega (arith, ap length (uncounted_is x base), left-length x.members base 0 (λ y. true) 64)

module _ (x : Exclusion) (base roles a : ℕ) (narrow : x.members < 2 ^ roles) (l : roles ≤ a) where
  uncounted_up : UpTo a (uncounted x base)
  uncounted_up =
      subst (UpTo a) (sym (uncounted_is x base))
      (each_list_to (λ (y : ℕ). y ≤ a) 64 (λ r. when (has x.members r && not (has base r)) (role_variable r)) (λ r q.
      each_when (λ (y : ℕ). y ≤ a) (has x.members r && not (has base r)) (role_variable r) (λ e.
      let h = has_below roles x.members r narrow (and_l (has x.members r) (not (has base r)) e) in omega arith)))

-- ---- few clauses
pub few_clauses : (l : Line) (k a roles : ℕ) (x : Exclusion) → ExclusionInRange roles x → FewClauses l k a x
unfolding excluding n_left reduced_n
few_clauses l k a roles x h =
    let base = stays l k x.kind in
    let c = counter-length (n_left x base) x.n (omega arith) (let q = h.n.0 in omega arith) a (uncounted x base) in
    let m = mul-le-mul_right x.n (uncounted-length x base) in
    omega arith

pub all_few : (l : Line) (k a roles : ℕ) (xs : List Exclusion) → Each (ExclusionInRange roles) xs → Each (FewClauses l k a) xs
all_few l k a roles [] h = tt
all_few l k a roles (x ∷ xs) h = (few_clauses l k a roles x h.0, all_few l k a roles xs h.1)

-- ---- one exclusion, reduced

-- what stays is counted now
stays-counted : (l : Line) (k : ℕ) (c : Kind) → within (stays l k c) (counted l (session_at l k) c) ≡ true
unfolding stay counted session_at
stays-counted l k SsDmer = none_within (session_at l k).active
stays-counted l k MsDmer =
    (within_iff (active_in (others k l.sessions)) (active_in l.sessions)).1 (λ r e.
    let w = (active_elsewhere_lem l k r).0 e in at_active r l.sessions w.0 w.1 w.3)
stays-counted l k SsHmer = within_refl (session_at l k).history
stays-counted l k MsHmer = within_refl l.history

module _ (l : Line) (k : ℕ) (x : Exclusion) where
  -- of an exclusion that is met at session k at least 1 is left of n
  pub some_left : Met (counted l (session_at l k)) x → 1 ≤ n_left x (stays l k x.kind)
  unfolding n_left reduced_n
  some_left h =
      omega (
        arith,
        count-within 64 (inter x.members (stays l k x.kind)) (inter x.members (counted l (session_at l k) x.kind))
            (inter-within x.members (stays l k x.kind) (counted l (session_at l k) x.kind) (stays-counted l k x.kind)),
      )

  -- once s is put in it is met exactly if fewer of the uncounted members than are left of n are in s
  module _ (v : Valuation) (roles s : ℕ) (narrow : x.members < 2 ^ roles) (say : (r : ℕ) → r < roles → v (role_variable r) ≡ has s r) where
    counted_apart : count 64 (inter x.members (counted_after l k s k x.kind))
        ≡ count 64 (inter x.members (stays l k x.kind)) + chosen v (uncounted x (stays l k x.kind))
    counted_apart =
        ap (λ (n : ℕ). count 64 (inter x.members n)) (counted_then l k s x.kind)
        ∙ apart x.members (stays l k x.kind) s v 64 (λ r q e. say r (has_below roles x.members r narrow e))
        ∙ ap (λ (ys : List ℕ). count 64 (inter x.members (stays l k x.kind)) + chosen v ys) (sym (uncounted_is x (stays l k x.kind)))

    met-left : MetAfter l k s k x ↔ (chosen v (uncounted x (stays l k x.kind)) < n_left x (stays l k x.kind))
    unfolding n_left reduced_n
    met-left = (λ h. omega (arith, counted_apart), λ h. omega (arith, counted_apart))

-- ---- all exclusions

-- v with the helpers of all exclusions set
filled_all : Valuation → Line → ℕ → ℕ → List Exclusion → Valuation
filled_all v l k a [] = v
filled_all v l k a (x ∷ xs) =
    filled_all (filled v (n_left x (stays l k x.kind)) a (uncounted x (stays l k x.kind))) l k (a + helpers l k x) xs

filled_all_same : (v : Valuation) (l : Line) (k a : ℕ) (xs : List Exclusion) → SameTo a v (filled_all v l k a xs)
unfolding filled_all
filled_all_same v l k a [] y q = refl
filled_all_same v l k a (x ∷ xs) y q =
    filled_all_same (filled v (n_left x (stays l k x.kind)) a (uncounted x (stays l k x.kind))) l k (a + helpers l k x) xs y (omega arith)
    ∙ filled_same v (n_left x (stays l k x.kind)) a (uncounted x (stays l k x.kind)) y q

-- the exclusion's uncounted members are variables up to a, and fewer than are left of n, at least 1, are true
pub record Leaves (v : Valuation) (l : Line) (k a : ℕ) (x : Exclusion) : Type 0 where
  pub up : UpTo a (uncounted x (stays l k x.kind))
  pub some : 1 ≤ n_left x (stays l k x.kind)
  pub fewer : chosen v (uncounted x (stays l k x.kind)) < n_left x (stays l k x.kind)

leaves_same : (v w : Valuation) (l : Line) (k a b : ℕ) → SameTo a v w → a ≤ b → (xs : List Exclusion) → Each (Leaves v l k a) xs → Each (Leaves w l k b) xs
leaves_same v w l k a b s q [] h = tt
leaves_same v w l k a b s q (x ∷ xs) h = (
  record {
    up = up_more a b q (uncounted x (stays l k x.kind)) h.0.up;
    some = h.0.some;
    fewer = subst (λ (n : ℕ). n < n_left x (stays l k x.kind)) (sym (chosen_same a v w s (uncounted x (stays l k x.kind)) h.0.up)) h.0.fewer;
  },
  leaves_same v w l k a b s q xs h.1,
)

filled_all_satisfies : (v : Valuation) (l : Line) (k a : ℕ) (xs : List Exclusion) → Each (Leaves v l k a) xs
    → satisfies_all (filled_all v l k a xs) (excluding_all l k a xs) ≡ true
unfolding satisfies_all filled_all excluding_all excluding helpers all
filled_all_satisfies v l k a [] h = refl
filled_all_satisfies v l k a (x ∷ xs) h =
    let base = stays l k x.kind in
    let n = n_left x base in
    let ms = uncounted x base in
    let w = filled v n a ms in
    let z = filled_all w l k (a + length ms * n) xs in
    let same : SameTo (a + length ms * n) w z = filled_all_same w l k (a + length ms * n) xs in
    all_join (satisfies z) (counter n a ms) (excluding_all l k (a + length ms * n) xs)
    (counted-counter z n h.0.some a ms (counted_same w z n a ms h.0.up same (filled_counted v n a ms h.0.up))
    (subst (λ (c : ℕ). c < n) (sym (chosen_same a v z (λ y q. same y (omega arith) ∙ filled_same v n a ms y q) ms h.0.up)) h.0.fewer))
    (filled_all_satisfies w l k (a + length ms * n) xs (leaves_same v w l k a (a + length ms * n) (filled_same v n a ms) (omega arith) xs h.1))

-- whoever satisfies the clauses of all exclusions has fewer of the uncounted members of each true than are left of n
all-fewer : (v : Valuation) (l : Line) (k a : ℕ) (xs : List Exclusion) → satisfies_all v (excluding_all l k a xs) ≡ true
    → Each (λ (x : Exclusion). 1 ≤ n_left x (stays l k x.kind)) xs
    → Each (λ (x : Exclusion). chosen v (uncounted x (stays l k x.kind)) < n_left x (stays l k x.kind)) xs
unfolding satisfies_all excluding_all excluding
all-fewer v l k a [] e h = tt
all-fewer v l k a (x ∷ xs) e h =
    let base = stays l k x.kind in (
      counter-counts v (n_left x base) h.0 a (uncounted x base)
          (all_front (satisfies v) (counter (n_left x base) a (uncounted x base)) (excluding_all l k (a + helpers l k x) xs) e),
      all-fewer v l k (a + helpers l k x) xs
          (all_back (satisfies v) (counter (n_left x base) a (uncounted x base)) (excluding_all l k (a + helpers l k x) xs) e) h.1,
    )

-- ---- sets by a test
module _ (f : ℕ → Bool) where
  has-set : (d r : ℕ) → (has (set_of f d) r ≡ true) ↔ ((r < d) × (f r ≡ true))
  has-set d r = (λ e. let w = set_of-has f d r e in (w.1, w.0), λ h. has-set_of f d r h.0 h.1)

-- ---- what roles carry
module _ (p : Meaning) (range : Meant p) where
  carries_below : (r q : ℕ) → carries p r q ≡ true → q < p.permissions
  unfolding carries
  carries_below r q e = has_below p.permissions (get_or p.carried r 0) q (range.rows r) e

  -- a user may activate roles alone
  own_below : (r : ℕ) → has p.authorized r ≡ true → r < p.roles
  own_below r h = has_below p.roles p.authorized r range.own h

  pub carried_by_below : (s : ℕ) → carried_by p s < 2 ^ p.permissions
  unfolding carried_by union_at
  carried_by_below s = union_to_lt p.permissions (λ r. get_or p.carried r 0) s 64 (λ r l. range.rows r)

  -- a set of roles below R carries q exactly if one of them does
  carried_by_lem : (s q : ℕ) → has (carried_by p s) q ≡ true → (r : ℕ) × (has s r ≡ true) × (carries p r q ≡ true)
  unfolding carried_by carries
  carried_by_lem s q e = let w = (has-union_at p.carried s q).0 e in (w.member, w.chosen, w.holds)

  by_carried : (s q r : ℕ) → r < p.roles → has s r ≡ true → carries p r q ≡ true → has (carried_by p s) q ≡ true
  unfolding carried_by carries
  by_carried s q r l h c =
      let m = range.roles.1 in
      (has-union_at p.carried s q).1 (record { member = r; below = omega arith; chosen = h; holds = c })

-- ---- whoever satisfies the hard clauses
module _ (p : Meaning) (l : Line) (k lower upper : ℕ) (v : Valuation) (e : satisfies_all v (hard p l k lower upper) ≡ true) where
  abbrev A : List Clause → Type 0
  A cs = all (satisfies v) cs ≡ true

  -- the parts of the hard clauses
  parts : A (barring p) × A (carrying p) × A (carried p) × A (bounding p lower upper) × A (excluding_all l k (last_plain p) p.exclusions)
  unfolding satisfies_all hard
  parts =
      let f = satisfies v in
      let x = excluding_all l k (last_plain p) p.exclusions in
      let d = all_back f (barring p) (carrying p ++ (carried p ++ (bounding p lower upper ++ x))) e in
      let c = all_back f (carrying p) (carried p ++ (bounding p lower upper ++ x)) d in
      let b = all_back f (carried p) (bounding p lower upper ++ x) c in
      let bounds = bounding p lower upper in
      (all_front f (barring p) _ e, all_front f (carrying p) _ d, all_front f (carried p) _ c, all_front f bounds x b, all_back f bounds x b)

  own_role : (r : ℕ) → r < p.roles → v (role_variable r) ≡ true → has p.authorized r ≡ true
  unfolding barring
  own_role r h t =
      cases (has p.authorized r) (λ q. q) (λ q. not_both (v (role_variable r)) t (must_not-says v (role_variable r)
      (when-all (satisfies v) _ _ (list_to-all (satisfies v) p.roles _ parts.0 r h) (ap not q))))

  role-gives : (r q : ℕ) → r < p.roles → q < p.permissions → carries p r q ≡ true → v (role_variable r) ≡ true
      → v (permission_variable p q) ≡ true
  unfolding carrying
  role-gives r q h i c =
      gives-says v (role_variable r) (permission_variable p q)
      (when-all (satisfies v) _ _ (list_to-all (satisfies v) p.permissions _ (list_to-all (satisfies v) p.roles _ parts.1 r h) q i) c)

  some_carrier : (q : ℕ) → q < p.permissions → v (permission_variable p q) ≡ true
      → (r : ℕ) × (r < p.roles) × (carries p r q ≡ true) × (v (role_variable r) ≡ true)
  unfolding carried carriers satisfies any makes
  some_carrier q i t =
      elim (or_cases (not (v (permission_variable p q))) (any (makes v) (carriers p q))
      (one-all (satisfies v) (fails (permission_variable p q) ∷ carriers p q)
      (list_to-all (satisfies v) p.permissions (λ q. (fails (permission_variable p q) ∷ carriers p q) ∷ []) parts.2 q i))) [
        | inl h ↦ not_both (not (v (permission_variable p q))) h (ap not t)
        | inr h ↦
            let w = list_to-any (makes v) p.roles (λ r. when (carries p r q) (holds (role_variable r))) h in
            let z = when-any (makes v) (carries p w.0 q) (holds (role_variable w.0)) w.2 in
            (w.0, w.1, z.0, z.1)
      ]

  lower_there : (q : ℕ) → q < p.permissions → has lower q ≡ true → v (permission_variable p q) ≡ true
  unfolding bounding
  lower_there q i c =
      must-says v (permission_variable p q)
      (when-all (satisfies v) _ _ (list_to-all (satisfies v) p.permissions _ (all_front (satisfies v) _ _ parts.3) q i) c)

  upper_only : (q : ℕ) → q < p.permissions → v (permission_variable p q) ≡ true → has upper q ≡ true
  unfolding bounding
  upper_only q i t =
      let low : ℕ → List Clause = λ q. when (has lower q) (must (permission_variable p q)) in
      let high : ℕ → List Clause = λ q. when (not (has upper q)) (must_not (permission_variable p q)) in
      let told = all_back (satisfies v) (list_to p.permissions low) (list_to p.permissions high) parts.3 in
      cases (has upper q) (λ c. c) (λ c. not_both (v (permission_variable p q)) t (must_not-says v (permission_variable p q)
      (when-all (satisfies v) _ _ (list_to-all (satisfies v) p.permissions high told q i) (ap not c))))

  module _ (range : Meant p) where
    named-role : (r : ℕ) → has (named p v) r ≡ true → (r < p.roles) × (v (role_variable r) ≡ true)
    unfolding named
    named-role r h = (has-set (λ r. v (role_variable r)) p.roles r).0 h

    role-named : (r : ℕ) → r < p.roles → v (role_variable r) ≡ true → has (named p v) r ≡ true
    unfolding named
    role-named r h t = (has-set (λ r. v (role_variable r)) p.roles r).1 (h, t)

    -- its variables say the set that it names
    says-named : Says p v (named p v)
    says-named =
        record {
          roles = λ r h. bool_ext (v (role_variable r)) (has (named p v) r) (role-named r h) (λ t. (named-role r t).1);
          permissions = λ q i. bool_ext (v (permission_variable p q)) (has (carried_by p (named p v)) q)
              (λ t. let w = some_carrier q i t in by_carried p range (named p v) q w.0 w.1 (role-named w.0 w.1 w.3) w.2)
              (λ t.
              let w = carried_by_lem p range (named p v) q t in
              let n = named-role w.0 w.1 in
              role-gives w.0 q n.0 i w.2 n.1);
        }

    module _ (inside : k < length l.sessions) (met : exclusions_met p l ≡ true) (low : lower < 2 ^ p.permissions) where
      all_left : Each (λ (x : Exclusion). 1 ≤ n_left x (stays l k x.kind)) p.exclusions
      all_left =
          mem_each (λ (x : Exclusion). 1 ≤ n_left x (stays l k x.kind)) p.exclusions (λ x m.
          some_left l k x (range.met_now l met x m k inside))

      is_solution : Solved p l k lower upper (named p v)
      is_solution =
          record {
            own = λ r h. let n = named-role r h in own_role r n.0 n.1;
            lower = λ q h.
                let i = has_below p.permissions lower q low h in
                sym (says-named.permissions q i) ∙ lower_there q i h;
            upper = λ q h.
                let w = carried_by_lem p range (named p v) q h in
                let i = carries_below p range w.0 q w.2 in
                upper_only q i (says-named.permissions q i ∙ h);
            exclusions = λ x m.
                (met-left l k x v p.roles (named p v) (each_mem (ExclusionInRange p.roles) p.exclusions range.exclusions x m).members
                says-named.roles).1
                (each_mem (λ (x : Exclusion). chosen v (uncounted x (stays l k x.kind)) < n_left x (stays l k x.kind)) p.exclusions
                (all-fewer v l k (last_plain p) p.exclusions (unfold satisfies_all in parts.4) all_left) x m);
          }

      -- and the set is admissible
      names-admissible : admissible p l k lower upper (named p v) ≡ true
      names-admissible = (range.solution l k lower upper (named p v) inside met).1 is_solution

-- ---- an admissible set said

-- the variables of roles and permissions say s and what it carries, whatever the others say
module _ (p : Meaning) (s : ℕ) where
  plain : Valuation
  plain y = pick (ltb p.roles y) (has (carried_by p s) (y - (p.roles + 1))) (has s (y - 1))

  plain-says : Says p plain s
  unfolding plain pick
  plain-says =
      record {
        roles = λ r l. rw (le-ltb p.roles (r + 1) (omega arith)) (ap (has s) (omega arith));
        permissions = λ q l.
            rw (lt-ltb p.roles (p.roles + q + 1) (omega arith)) (ap (has (carried_by p s)) (omega arith));
      }

  says_same : (v w : Valuation) → SameTo (last_plain p) v w → Says p v s → Says p w s
  says_same v w same h =
      record {
        roles = λ r l. same (role_variable r) (omega arith) ∙ h.roles r l;
        permissions = λ q l. same (permission_variable p q) (omega arith) ∙ h.permissions q l;
      }

-- whoever says a set that meets the conditions satisfies the clauses other than those of the exclusions
module _ (p : Meaning) (range : Meant p) (l : Line) (k lower upper s : ℕ) (c : Solved p l k lower upper s) (v : Valuation) (h : Says p v s) where
  says-barring : all (satisfies v) (barring p) ≡ true
  unfolding barring
  says-barring =
      all-list_to (satisfies v) p.roles _ (λ r l. all-when (satisfies v) _ _ (λ e. says-must_not v (role_variable r)
      (h.roles r l ∙ cases (has s r) (λ q. not_both (not (has p.authorized r)) e (ap not (c.own r q))) (λ q. q))))

  says-carrying : all (satisfies v) (carrying p) ≡ true
  unfolding carrying
  says-carrying =
      all-list_to (satisfies v) p.roles _ (λ r l. all-list_to (satisfies v) p.permissions _ (λ q i. all-when (satisfies v) _ _ (λ e.
      says-gives v (role_variable r) (permission_variable p q) (λ t. h.permissions q i ∙ by_carried p range s q r l (sym (h.roles r l) ∙ t) e))))

  says-carried : all (satisfies v) (carried p) ≡ true
  unfolding carried carriers satisfies any makes
  says-carried =
      all-list_to (satisfies v) p.permissions (λ q. (fails (permission_variable p q) ∷ carriers p q) ∷ []) (λ q i.
      all_one (satisfies v) (fails (permission_variable p q) ∷ carriers p q) (go q i (v (permission_variable p q)) refl))
    where
      go : (q : ℕ) → q < p.permissions → (b : Bool) → v (permission_variable p q) ≡ b
          → (not (v (permission_variable p q)) || any (makes v) (carriers p q)) ≡ true
      go q i false t = or_l (not (v (permission_variable p q))) (any (makes v) (carriers p q)) (ap not t)
      go q i true t =
          let w = carried_by_lem p range s q (sym (h.permissions q i) ∙ t) in
          let j = own_below p range w.0 (c.own w.0 w.1) in
          or_r (not (v (permission_variable p q))) (any (makes v) (carriers p q))
          (any-list_to (makes v) p.roles (λ r. when (carries p r q) (holds (role_variable r))) w.0 j
          (any-when (makes v) (carries p w.0 q) (holds (role_variable w.0)) w.2 (h.roles w.0 j ∙ w.1)))

  says-bounding : all (satisfies v) (bounding p lower upper) ≡ true
  unfolding bounding
  says-bounding =
      all_join (satisfies v) _ _
      (all-list_to (satisfies v) p.permissions _ (λ q i. all-when (satisfies v) _ _ (λ e.
      says-must v (permission_variable p q) (h.permissions q i ∙ c.lower q e))))
      (all-list_to (satisfies v) p.permissions _ (λ q i. all-when (satisfies v) _ _ (λ e. says-must_not v (permission_variable p q)
      (h.permissions q i ∙ cases (has (carried_by p s) q) (λ t. not_both (not (has upper q)) e (ap not (c.upper q t))) (λ t. t)))))

-- ---- the hard clauses
module _ (p : Meaning) (range : Meant p) (l : Line) (k lower upper : ℕ) (inside : k < length l.sessions)
    (met : exclusions_met p l ≡ true) where
  module _ (s : ℕ) (c : Solved p l k lower upper s) where
    -- the set and its helpers
    full : Valuation
    full = filled_all (plain p s) l k (last_plain p) p.exclusions

    full-says : Says p full s
    unfolding full
    full-says =
        says_same p s (plain p s) full (filled_all_same (plain p s) l k (last_plain p) p.exclusions) (plain-says p s)

    leaves : Each (Leaves (plain p s) l k (last_plain p)) p.exclusions
    leaves =
        mem_each (Leaves (plain p s) l k (last_plain p)) p.exclusions (λ x m.
        let narrow = (each_mem (ExclusionInRange p.roles) p.exclusions range.exclusions x m).members in
        record {
          up = uncounted_up x (stays l k x.kind) p.roles (last_plain p) narrow (omega arith);
          some = some_left l k x (range.met_now l met x m k inside);
          fewer = (met-left l k x (plain p s) p.roles s narrow (plain-says p s).roles).0 (c.exclusions x m);
        })

    full-satisfies : satisfies_all full (hard p l k lower upper) ≡ true
    unfolding satisfies_all hard full
    full-satisfies =
        let f = satisfies full in
        let x = excluding_all l k (last_plain p) p.exclusions in
        all_join f (barring p) (carrying p ++ (carried p ++ (bounding p lower upper ++ x))) (says-barring p range l k lower upper s c full full-says)
        (all_join f (carrying p) (carried p ++ (bounding p lower upper ++ x)) (says-carrying p range l k lower upper s c full full-says)
        (all_join f (carried p) (bounding p lower upper ++ x) (says-carried p range l k lower upper s c full full-says)
        (all_join f (bounding p lower upper) x (says-bounding p range l k lower upper s c full full-says)
        (filled_all_satisfies (plain p s) l k (last_plain p) p.exclusions leaves))))

    -- the set that it names is s: a member is a role of the user, and so below R
    full-named : named p full ≡ s
    unfolding named
    full-named =
        same_sets (named p full) s (λ r. bool_ext (has (named p full) r) (has s r)
        (λ e. let w = (has-set (λ i. full (role_variable i)) p.roles r).0 e in sym (full-says.roles r w.0) ∙ w.1)
        (λ e.
        let i = own_below p range r (c.own r e) in
        (has-set (λ i. full (role_variable i)) p.roles r).1 (i, full-says.roles r i ∙ e)))

  pub hard_is : lower < 2 ^ p.permissions → HardIs p l k lower upper
  hard_is low =
      record {
        extends = λ s e. let c = (range.solution l k lower upper s inside met).0 e in (full s c, full-satisfies s c, full-named s c, full-says s c);
        names = λ v e. (names-admissible p l k lower upper v e range inside met low, says-named p l k lower upper v e range);
      }
