-- A tidy image goes by the policy alone: tidying again, calls under it, and which images share it.
-- Assumes nothing.
use mathlib.Core.Path.{◌≡◌, sym, ap, subst}
use mathlib.Core.List.{List, ◌∷◌, ◌++◌, map}
use Prim.Native.Nat.{ℕ}
use Rattle.model.specs.declared.Head.{Head}
use Rattle.model.specs.declared.Exclusion.{Exclusion}
use Rattle.model.specs.declared.Checked.TheVariants.{Accepted}
use Rattle.model.specs.Words.{head_word, assign_word, grant_word, senior_word, ended, image_bytes}
use Rattle.model.specs.Policy.{Policy, policy_of, excludes}
use Rattle.model.specs.Judgement.{judge}
use Rattle.model_tidy.specs.Groups.{spread}
use Rattle.model_tidy.specs.Same.{SamePolicy, Alike}
use Rattle.model_tidy.specs.Tidy.{table_groups, exclusion_group, tidy_groups, tidy_words, tidy, tidy_of, Shared, limit_groups}
use Rattle.model_tidy_laws.proofs.AlikeProof.{same_alike}
use Rattle.model_tidy_laws.proofs.SameSetsProof.{sets_policy, policy_sets, same_back, same_then}
use Rattle.model_laws.proofs.SortedLaws.{sorted_same}
use Rattle.model_tidy_laws.proofs.TidyImage.{tidy_accepted, tidy_same}

-- ---- the tidy image goes by the policy alone
pub same_tidy : (p q : Policy) → SamePolicy p q → tidy p ≡ tidy q
unfolding tidy tidy_words tidy_groups excludes
same_tidy p q e =
    let x = sorted_same p.exclusions q.exclusions e.exclusions in
    let word : Head → List ℕ → List ℕ → List ℕ → List Exclusion → List ℕ → List ℕ =
    λ h a g j xs ls.
    head_word h.users h.roles h.permissions
    ∷ spread
    (table_groups assign_word 64 0 a
    ++ (table_groups grant_word 256 0 g ++ (table_groups senior_word 64 0 j ++ (map exclusion_group xs ++ limit_groups ls)))) in
    ap (λ (l : List ℕ). image_bytes (ended l)) (λ i. word (e.heads i) (e.assigned i) (e.granted i) (e.juniors i) (x i) (e.limits i))

-- ---- tidying again, and calls
module _ (s : List ℕ) (h : Head) (e : judge s ≡ Accepted h) where
  pub tidy_again : tidy_of (tidy_of s) ≡ tidy_of s
  unfolding tidy_of
  tidy_again = sym (same_tidy (policy_of s) (policy_of (tidy_of s)) (tidy_same s h e))

  pub tidy-alike : Alike s (tidy_of s)
  tidy-alike = same_alike s (tidy_of s) h h e (tidy_accepted s h e) (tidy_same s h e)

-- ---- accepted images share their tidy image exactly if they have the same head and sets of entries
pub shared : (s t : List ℕ) (h k : Head) → judge s ≡ Accepted h → judge t ≡ Accepted k → Shared s t
shared s t h k a b = (
  λ e.
      policy_sets s t h k a b
      (same_then (policy_of s) (policy_of (tidy_of s)) (policy_of t) (tidy_same s h a)
      (subst (λ (l : List ℕ). SamePolicy (policy_of l) (policy_of t)) (sym e) (same_back (policy_of t) (policy_of (tidy_of t)) (tidy_same t k b)))),
  λ e. unfold tidy_of in same_tidy (policy_of s) (policy_of t) (sets_policy s t h k a b e),
)
