-- Policies that agree in all but other users' assignments mean the same for the user.
-- Assumes nothing.
use mathlib.Core.Path.{◌≡◌, refl, sym, ap, ◌∙◌}
use mathlib.Core.Logic.{inl, inr}
use mathlib.Core.Bool.{Bool, true, false, true≢false}
use mathlib.Core.List.{List, [], ◌∷◌, map}
use Prim.Native.Nat.{ℕ, ◌<◌}
use lib.Dec.{eqb}
use lib.ListN.{get_or}
use borrow.Author.Tests.{eq-eqb}
use Rattle.model.specs.declared.Kind.{Kind}
use Rattle.model.specs.declared.Exclusion.{Exclusion}
use Rattle.model.specs.Tests.{pick, any, all}
use Rattle.model.specs.Sets.{has, union_at}
use Rattle.model.specs.Policy.{Policy, Meaning, meaning, authorized, closure_by, below_table, with_selves, reached, carried_table, granter_by, granter, met, sorted, only_for, same_exclusion, excludes, Agree}
use Rattle.model.specs.Limits.{Others}
use Rattle.model.specs.Session.{Operation, is_text, rule}
use Rattle.model_laws.proofs.Bools.{and_l, and_r, or_r, or_cases, bool_ext}
use Rattle.model_laws.proofs.Closure.{get_d_table_of}
use Rattle.model_laws.proofs.SortedLaws.{same_exclusion_eq, same_exclusion_refl, sorted_same}
use Rattle.model_laws.proofs.Listed.{listed, rule_listed}

-- ---- a test of all members goes by membership alone
module _ {A : Type 0} (same : A → A → Bool) (same_refl : (x : A) → same x x ≡ true) (same_eq : (x y : A) → same x y ≡ true → x ≡ y) where
  -- x is one of the list, by the test
  abbrev pub member : List A → A → Bool
  member l x = any (λ y. same y x) l

  -- a member of a list whose members all pass
  all-at : (f : A → Bool) (l : List A) → all f l ≡ true → (x : A) → member l x ≡ true → f x ≡ true
  unfolding all any
  all-at f [] e x h = absurd (true≢false (sym h))
  all-at f (y ∷ l) e x h =
      elim (or_cases (same y x) (member l x) h)
      [ inl q ↦ rw (← same_eq y x q) (and_l (f y) (all f l) e) | inr q ↦ all-at f l (and_r (f y) (all f l) e) x q ]

  -- every member passes
  all_of : (f : A → Bool) (l : List A) → ((x : A) → member l x ≡ true → f x ≡ true) → all f l ≡ true
  unfolding all any
  all_of f [] h = refl
  all_of f (y ∷ l) h = rw (h y (rw (same_refl y))) (all_of f l (λ x k. h x (or_r (same y x) (member l x) k)))

  -- lists of the same members
  pub all_same : (f : A → Bool) (l m : List A) → ((x : A) → member l x ≡ member m x) → all f l ≡ all f m
  all_same f l m h =
      bool_ext (all f l) (all f m) (λ e. all_of f m (λ x k. all-at f l e x (h x ∙ k))) (λ e. all_of f l (λ x k. all-at f m e x (sym (h x) ∙ k)))

-- ---- policies that agree
module _ (u : ℕ) (p q : Policy) (h : Agree u p q) where
  -- the same exclusions are met
  agree_met : (counted : Kind → ℕ) → all (met counted) p.exclusions ≡ all (met counted) q.exclusions
  unfolding excludes
  agree_met counted =
      all_same same_exclusion same_exclusion_refl same_exclusion_eq (met counted) p.exclusions q.exclusions h.exclusions

  -- in the same order, that of the tidy image
  agree_ordered : sorted p.exclusions ≡ sorted q.exclusions
  unfolding excludes
  agree_ordered = sorted_same p.exclusions q.exclusions h.exclusions

  -- the session rules see the same, by the exclusions as they are listed
  agree_by : (xs ys : List Exclusion) → xs ≡ ys → listed (meaning p u) xs ≡ listed (meaning q u) ys
  unfolding meaning authorized carried_table granter reached below_table
  agree_by xs ys e = λ i.
      record {
        user = u;
        roles = (h.heads i).roles;
        permissions = (h.heads i).permissions;
        authorized = union_at (with_selves (closure_by (h.heads i).roles (h.seniors i))) (h.own i);
        carried = map (union_at (h.grants i)) (with_selves (closure_by (h.heads i).roles (h.seniors i)));
        granter = λ m r. granter_by (with_selves (closure_by (h.heads i).roles (h.seniors i))) (λ g. has (get_or (h.grants i) g 0) m) r;
        all_met = λ counted. agree_met counted i;
        exclusions = e i;
        ordered = agree_ordered i;
        limits = h.limits i;
      }

  pub agree_listed : (xs : List Exclusion) → listed (meaning p u) xs ≡ listed (meaning q u) xs
  agree_listed xs = agree_by xs xs refl

  -- so they give the same to a call that is no clause text
  pub agree_rule : (W : ℕ) (x : Others) (bs : List ℕ) (op : Operation) → is_text op ≡ false → rule W (meaning p u) x bs op ≡ rule W (meaning q u) x bs op
  agree_rule W x bs op e =
      rule_listed (meaning p u) [] x W bs op e ∙ ap (λ (m : Meaning). rule W m x bs op) (agree_listed [])
      ∙ sym (rule_listed (meaning q u) [] x W bs op e)

  pub agree_meaning : p.exclusions ≡ q.exclusions → meaning p u ≡ meaning q u
  unfolding meaning
  agree_meaning e = agree_by p.exclusions q.exclusions e

-- ---- the policy without other users' assignments
module _ (u : ℕ) (small : u < 64) (p : Policy) where
  -- it agrees with the policy
  pub only_agree : Agree u p (only_for u p)
  unfolding only_for excludes
  only_agree =
      record {
        heads = refl;
        own =
            sym
            (get_d_table_of 64 (λ v. pick (eqb v u) (get_or p.assigned v 0) 0) u small
            ∙ unfold pick in ap (λ (b : Bool). pick b (get_or p.assigned u 0) 0) (eq-eqb u u refl));
        grants = refl;
        seniors = refl;
        exclusions = λ x. refl;
        limits = refl;
      }

  -- and means the same for the user
  pub only_meaning : meaning p u ≡ meaning (only_for u p) u
  unfolding only_for
  only_meaning = agree_meaning u p (only_for u p) only_agree refl
