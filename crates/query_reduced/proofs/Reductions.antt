-- A role set meets the reduced exclusions exactly if every exclusion is met once the set is put in (000,
-- Theorem 4.4.1).
-- Assumes nothing.
use mathlib.Core.Path.{◌≡◌, refl, sym, ap, ap₂, ◌∙◌}
use mathlib.Core.Bool.{Bool, true, false, ◌&&◌, ◌||◌, not}
use mathlib.Core.Logic.{◌↔◌}
use mathlib.Core.List.{List, [], ◌∷◌, ◌++◌, map, map-append}
use Prim.Native.Nat.{ℕ, zero, suc, ◌+◌, ◌-◌, ◌≤◌, ◌<◌}
use native.Mathlib.Numerals.{add-one}
use native.Mathlib.Omega.{arith}
use lib.Dec.{ltb}
use lib.Bits.{or_zero_l}
use lib.ListN.{length, get_or, set, take, drop, length-take, length-map, get_or-map}
use lib.Seq.{set_split, get_or-take, take-suc, take-suc-set}
use Rattle.std.proofs.lemmas.List.{get_or_default}
use borrow.Author.Tests.{ltb-true, ltb-false, lt-ltb, le-ltb}
use Rattle.model.specs.declared.Exclusion.{Exclusion}
use Rattle.model.specs.declared.Exclusions.{Exclusions}
use Rattle.model.specs.declared.Session.{Session}
use Rattle.model.specs.declared.Line.{Line}
use Rattle.model.specs.Tests.{all}
use Rattle.model.specs.Sets.{has, union, inter, within, one, count_to, count}
use Rattle.model.specs.Policy.{Policy, authorized, meaning}
use Rattle.model.specs.Line.{empty_session, session_at, active_in, others, exclusions_met, put_in}
use Rattle.model.specs.Choice.{carried_by, admissible}
use Rattle.model.specs.Conditions.{counted_after, MetAfter}
use Rattle.model.specs.Reduced.{stay, stays, mask_of, reduced_n}
use Rattle.model_laws.proofs.Bools.{and_r, both, bool_ext}
use Rattle.model_laws.proofs.Every.{all_mem, mem_all}
use Rattle.model_laws.proofs.SetLaws.{has-union, has-inter}
use Rattle.model_laws.proofs.Actives.{active_middle}
use Rattle.model_laws.proofs.ConditionsProof.{solution}
use Rattle.model_laws.proofs.MetLaws.{counted_then}
use Rattle.sets.proofs.Taken.{has-lacking}
use Rattle.query_reduced.specs.declared.reduced.ReducedExclusion.{ReducedExclusion}
use Rattle.query_reduced.specs.Met.{fits, reduced_met}
use Rattle.query_reduced.specs.Reduction.{reduced_by, reduced_for, Reduces}
use Rattle.query.proofs.Members.{sub_within, within_sub, none_sub, no_member}

-- ---- the roles active in sessions
pub active_emptied : (ss : List Session) (k : ℕ) → k < length ss → active_in (set ss k empty_session) ≡ active_in (others k ss)
unfolding empty_session others
active_emptied ss k h =
    ap active_in (set_split ss k empty_session h) ∙ active_middle (take k ss) empty_session (drop (suc k) ss) ∙ or_zero_l
    (active_in (take k ss ++ drop (suc k) ss))

-- ---- one exclusion: the members in base or in s are those in base, and of the others those in s
module _ (m b s : ℕ) where
  digit : (x y z : Bool) → one (x && (y || z)) ≡ one (x && y) + one ((x && not y) && z)
  digit false y z = refl
  digit true false false = refl
  digit true false true = refl
  digit true true z = refl

  apart : (d : ℕ) → count d (inter m (union b s)) ≡ count d (inter m b) + count d (inter (mask_of m b) s)
  unfolding count count_to mask_of
  apart zero = refl
  apart (suc d) =
      let e : one (has (inter m (union b s)) d) ≡ one (has (inter m b) d) + one (has (inter (mask_of m b) s) d) =
      ap one (has-inter m (union b s) d ∙ ap (λ (x : Bool). has m d && x) (has-union b s d)) ∙ digit (has m d) (has b d) (has s d)
      ∙ ap₂ (λ (x y : Bool). one x + one y) (sym (has-inter m b d)) (sym (has-inter (mask_of m b) s d ∙ ap (λ (x : Bool). x && has s d) (has-lacking m b d))) in
      omega (arith, apart d)

  pub fits_same : (n : ℕ) → fits (mask_of m b) (reduced_n m n b) s ≡ ltb (count 64 (inter m (union b s))) n
  unfolding fits reduced_n
  fits_same n = go (ltb (count 64 (inter (mask_of m b) s)) (n - count 64 (inter m b))) refl
    where
      go : (x : Bool) → ltb (count 64 (inter (mask_of m b) s)) (n - count 64 (inter m b)) ≡ x
          → ltb (count 64 (inter (mask_of m b) s)) (n - count 64 (inter m b)) ≡ ltb (count 64 (inter m (union b s))) n
      go true e =
          let h = ltb-true (count 64 (inter (mask_of m b) s)) (n - count 64 (inter m b)) e in
          e ∙ sym (lt-ltb (count 64 (inter m (union b s))) n (omega (arith, apart 64)))
      go false e =
          let h = ltb-false (count 64 (inter (mask_of m b) s)) (n - count 64 (inter m b)) e in
          e ∙ sym (le-ltb (count 64 (inter m (union b s))) n (omega (arith, apart 64)))

-- ---- what each kind counts at session k then: what stays, and s
-- the exclusion is met at session k once s is put in
unfoldable met_then : Line → ℕ → ℕ → Exclusion → Bool
met_then l k s x = fits (mask_of x.members (stays l k x.kind)) (reduced_n x.members x.n (stays l k x.kind)) s

met_then_lem : (l : Line) (k s : ℕ) (x : Exclusion) → (met_then l k s x ≡ true) ↔ MetAfter l k s k x
unfolding met_then
met_then_lem l k s x =
    let e : met_then l k s x ≡ ltb (count 64 (inter x.members (counted_after l k s k x.kind))) x.n =
    fits_same x.members (stays l k x.kind) s x.n ∙ ap (λ (n : ℕ). ltb (count 64 (inter x.members n)) x.n)
    (sym (counted_then l k s x.kind)) in (
      λ h. ltb-true _ x.n (sym e ∙ h),
      λ h. e ∙ lt-ltb _ x.n h,
    )

-- ---- all exclusions, of a policy that the line meets
module _ (p : Policy) (u : ℕ) (l : Line) (k : ℕ) (inside : k < length l.sessions) (met : exclusions_met (meaning p u) l ≡ true)
    (s : ℕ) (own : within s (authorized p u) ≡ true) where
  all_then : exclusions_met (meaning p u) (put_in k s l) ≡ all (met_then l k s) p.exclusions
  unfolding admissible meaning
  all_then = bool_ext (exclusions_met (meaning p u) (put_in k s l)) (all (met_then l k s) p.exclusions) to from
    where
      last : admissible (meaning p u) l k 0 (carried_by (meaning p u) s) s ≡ true → exclusions_met (meaning p u) (put_in k s l) ≡ true
      last a = and_r (within s (authorized p u) && within 0 (carried_by (meaning p u) s)
          && within (carried_by (meaning p u) s) (carried_by (meaning p u) s)) (exclusions_met (meaning p u) (put_in k s l)) a

      to : exclusions_met (meaning p u) (put_in k s l) ≡ true → all (met_then l k s) p.exclusions ≡ true
      to e =
          let c = (solution p u l k 0 (carried_by (meaning p u) s) s inside met).0
          (both _ _ (both _ _ (both _ _ own (sub_within 0 _ (none_sub _))) (sub_within _ _ (λ i m. m))) e) in
          mem_all (met_then l k s) p.exclusions (λ x m. (met_then_lem l k s x).1 (c.exclusions x m))

      from : all (met_then l k s) p.exclusions ≡ true → exclusions_met (meaning p u) (put_in k s l) ≡ true
      from e =
          last ((solution p u l k 0 (carried_by (meaning p u) s) s inside met).1 (
          record {
            own = within_sub s (authorized p u) own;
            lower = λ q m. no_member q m;
            upper = λ q m. m;
            exclusions = λ x m. (met_then_lem l k s x).0 (all_mem (met_then l k s) p.exclusions e x m);
          }
          ))

  -- the exclusions are the first n of a list, and the rows have them reduced
  pub reduced_same : (xs : List Exclusion) (n : ℕ) (rows : List ReducedExclusion) → p.exclusions ≡ take n xs → rows ≡ map (reduced_for l k) (take n xs)
      → exclusions_met (meaning p u) (put_in k s l) ≡ reduced_met rows s
  unfolding all reduced_met met_then
  reduced_same xs n rows e er = all_then ∙ ap (all (met_then l k s)) e ∙ go (take n xs) ∙ ap (λ (y : List ReducedExclusion). reduced_met y s) (sym er)
    where
      go : (ys : List Exclusion) → all (met_then l k s) ys ≡ reduced_met (map (reduced_for l k) ys) s
      go [] = refl
      go (y ∷ ys) = ap (λ (b : Bool). met_then l k s y && b) (go ys)

-- ---- the walk that reduces them: the first i are done
abbrev pub Filled : (Exclusion → ReducedExclusion) → List Exclusion → List ReducedExclusion → ℕ → Type 0
Filled f xs rows i = take i rows ≡ map f (take i xs)

pub filled_next : (f : Exclusion → ReducedExclusion) (xs : List Exclusion) (d : Exclusion) (rows : List ReducedExclusion) (i : ℕ) (v : ReducedExclusion)
    → Filled f xs rows i → i < length rows → i < length xs → v ≡ f (get_or xs i d) → Filled f xs (set rows i v) (i + 1)
filled_next f xs d rows i v w hr hx e =
    ap (λ (n : ℕ). take n (set rows i v)) (add-one i)
    ∙ take-suc-set rows i v hr
    ∙ ap₂ (λ (ys : List ReducedExclusion) (y : ReducedExclusion). ys ++ (y ∷ [])) w e
    ∙ sym (map-append f (take i xs) (get_or xs i d ∷ []))
    ∙ ap (map f) (sym (ap (λ (n : ℕ). take n xs) (add-one i) ∙ take-suc xs i d hx))

-- reduced for the line and session k
pub reduces : (x : Exclusions) (l : Line) (k elsewhere session : ℕ) (rows : List ReducedExclusion) → k < length l.sessions
    → elsewhere ≡ active_in (others k l.sessions) → session ≡ (session_at l k).history
    → rows ≡ map (λ (y : Exclusion). reduced_by y.members y.n (stay y.kind elsewhere session l.history)) (take x.count x.list)
    → Reduces x l k rows
reduces x l k elsewhere session rows hk ee es er =
    let e : rows ≡ map (reduced_for l k) (take x.count x.list) =
    er ∙ ap₂ (λ (a b : ℕ). map (λ (y : Exclusion). reduced_by y.members y.n (stay y.kind a b l.history)) (take x.count x.list)) ee es in
    record { same = λ p u ex met s own. reduced_same p u l k hk met s own x.list x.count rows ex e; each = e }

-- no exclusion, reduced
abbrev pub nothing : ReducedExclusion
nothing = record { members = 0; n = 0 }

-- each of the reduced exclusions
pub reduced_at : (x : Exclusions) (l : Line) (k : ℕ) (rows : List ReducedExclusion) → Reduces x l k rows → (d : Exclusion) (i : ℕ) → i < x.count
    → x.count ≤ length x.list → get_or rows i nothing ≡ reduced_for l k (get_or x.list i d)
reduced_at x l k rows r d i q h =
    let n : i < length (map (reduced_for l k) (take x.count x.list)) = simp (length-map, length-take) (omega arith) in
    ap (λ (y : List ReducedExclusion). get_or y i nothing) r.each ∙ get_or_default (map (reduced_for l k) (take x.count x.list)) i nothing (reduced_for l k d) n
    ∙ get_or-map (reduced_for l k) (take x.count x.list) i d ∙ ap (reduced_for l k) (get_or-take x.count x.list i d q)
