-- The limits of a policy go by its head, tables and number of exclusions.
-- Assumes nothing.
use mathlib.Core.Path.{◌≡◌, ap, ◌∙◌, subst}
use mathlib.Core.List.{List, []}
use Prim.Native.Nat.{ℕ, ◌≤◌}
use lib.ListN.{length, get_or}
use Rattle.model.specs.Sets.{has, count}
use Rattle.model.specs.Policy.{Policy, Meaning, meaning, authorized}
use Rattle.model.specs.Chains.{over, Chain, here, step}
use Rattle.model.specs.Ordered.{Loopless}
use Rattle.model_tidy.specs.Groups.{Limits}
use Rattle.model_tidy.specs.Same.{SamePolicy}
use Rattle.model_laws.proofs.Meanings.{agree_listed}
use Rattle.model_tidy_laws.proofs.AlikeProof.{agree}

-- a chain goes by the senior words alone
chain_same : (p q : Policy) → p.juniors ≡ q.juniors → {a c : ℕ} → Chain q a c → Chain p a c
unfolding over
chain_same p q e here = here
chain_same p q e (step {a = a} {b = b} w c) = step (ap (λ (rows : List ℕ). has (get_or rows a 0) b) e ∙ w) (chain_same p q e c)

loopless_same : (p q : Policy) → p.juniors ≡ q.juniors → Loopless p → Loopless q
unfolding over
loopless_same p q e l r b =
    l r (
    record {
      junior = b.junior;
      word = ap (λ (rows : List ℕ). has (get_or rows r 0) b.junior) e ∙ b.word;
      chain = chain_same p q e b.chain;
    }
    )

authorized_same : (p q : Policy) → SamePolicy p q → (u : ℕ) → authorized p u ≡ authorized q u
unfolding meaning
authorized_same p q e u = ap (λ (m : Meaning). m.authorized) (agree_listed u p q (agree u p q e) [])

-- ---- the limits of a policy are those of one with the same tables and no more exclusions than are allowed
pub limits_same : (p q : Policy) → SamePolicy p q → length q.exclusions ≤ 32 → Limits p → Limits q
limits_same p q e n l =
    record {
      few_roles = subst (λ (rows : List ℕ). (u : ℕ) → count 64 (get_or rows u 0) ≤ 16) e.assigned l.few_roles;
      few_exclusions = n;
      loopless = loopless_same p q e.juniors l.loopless;
      few_authorized = λ u. subst (λ (s : ℕ). count 64 s ≤ 16) (authorized_same p q e u) (l.few_authorized u);
    }
