-- How many soft clauses there are, and their weight.
-- Assumes nothing.
use mathlib.Core.Path.{◌≡◌, refl, sym, ap, ◌∙◌}
use mathlib.Core.List.{[], ◌∷◌}
use Prim.Native.Nat.{ℕ, zero, suc, ◌+◌, ◌*◌, ◌≤◌}
use native.Mathlib.Nat.{suc-mul, zero-mul, mul-one, mul-le-mul}
use native.Mathlib.Omega.{arith}
use lib.ListN.{length, length-append}
use Rattle.model.specs.Clauses.{Clause, list_to, must, must_not, wanting, weight_of, top}
use Rattle.model_clauses.proofs.ClauseLaws.{length_singles}
use Rattle.model_clauses.proofs.DimacsSizes.{weight_append}
use Rattle.query_rank.specs.declared.objective.Objective.{Objective}
use Rattle.query_rank.specs.Objectives.{number_of, Stands}
use Rattle.clauses_soft.specs.Soft.{wanting_permissions, wanting_roles, where_aimed, soft_by}
use Rattle.clauses_soft.proofs.WantLaws.{permissions_standing, roles_standing}

module _ (w : ℕ) (x : ℕ → ℕ) where
  empty : (n : ℕ) → list_to n (λ i. wanting 0 w (x i)) ≡ []
  unfolding list_to wanting
  empty zero = refl
  empty (suc n) = rw (empty n)

  wanting-length : (a n : ℕ) → length (list_to n (λ i. wanting a w (x i))) ≡ where_aimed a n
  unfolding wanting where_aimed
  wanting-length zero n = ap length (empty n)
  wanting-length (suc zero) n = length_singles n (λ i. record { weight = w; clause = must_not (x i) })
  wanting-length (suc (suc a)) n = length_singles n (λ i. record { weight = w; clause = must (x i) })

weight_singles : (w : ℕ) (c : ℕ → Clause) (n : ℕ) → weight_of (list_to n (λ i. record { weight = w; clause = c i } ∷ [])) ≡ n * w
unfolding list_to weight_of
weight_singles w c zero = sym (zero-mul w)
weight_singles w c (suc n) =
    weight_append (list_to n (λ i. record { weight = w; clause = c i } ∷ [])) (record { weight = w; clause = c n } ∷ [])
    ∙ omega (arith, weight_singles w c n, suc-mul n w)

wanting_weight : (w : ℕ) (x : ℕ → ℕ) (a n : ℕ) → weight_of (list_to n (λ i. wanting a w (x i))) ≡ where_aimed a (n * w)
unfolding wanting where_aimed weight_of
wanting_weight w x zero n = ap weight_of (empty w x n)
wanting_weight w x (suc zero) n = weight_singles w (λ i. must_not (x i)) n
wanting_weight w x (suc (suc a)) n = weight_singles w (λ i. must (x i)) n

pub soft_length : (R P a b m n : ℕ) → m ≡ where_aimed a P → n ≡ where_aimed b R → m + n ≡ length (soft_by R P a b)
unfolding soft_by wanting_permissions wanting_roles
soft_length R P a b m n e f =
    rw (e, f)
    (sym (length-append (list_to P (λ q. wanting a (R + 1) (R + q + 1))) (list_to R (λ r. wanting b 1 (r + 1)))
    ∙ rw (wanting-length (R + 1) (λ q. R + q + 1) a P, wanting-length 1 (λ r. r + 1) b R)))

pub weights_small : (R P : ℕ) → R ≤ 64 → P ≤ 256 → P * (R + 1) ≤ 16640
weights_small R P h g = mul-le-mul {n₁ = P} {m₁ = R + 1} {n₂ = 256} {m₂ = 65} g (omega arith)

pub soft_top : (R P a b m n : ℕ) → m ≡ where_aimed a (P * (R + 1)) → n ≡ where_aimed b R → m + n + 1 ≡ top (soft_by R P a b)
unfolding soft_by wanting_permissions wanting_roles top
soft_top R P a b m n e f =
    rw (e, f)
    (sym (ap (λ (n : ℕ). n + 1) (weight_append (list_to P (λ q. wanting a (R + 1) (R + q + 1))) (list_to R (λ r. wanting b 1 (r + 1)))
    ∙ rw (wanting_weight (R + 1) (λ q. R + q + 1) a P, wanting_weight 1 (λ r. r + 1) b R, mul-one R))))

-- ---- by each two numbers that stand for the objectives
soft_standing : (o q : Objective) (R P a b : ℕ) → Stands o a → Stands q b → soft_by R P (number_of o) (number_of q) ≡ soft_by R P a b
unfolding soft_by
soft_standing o q R P a b h k = rw (permissions_standing o R P a h, roles_standing q R b k) refl

pub length_standing : (o q : Objective) (R P a b m n : ℕ) → Stands o a → Stands q b → m ≡ where_aimed (number_of o) P → n ≡ where_aimed (number_of q) R
    → m + n ≡ length (soft_by R P a b)
length_standing o q R P a b m n h k e f = soft_length R P (number_of o) (number_of q) m n e f ∙ ap length (soft_standing o q R P a b h k)

pub top_standing : (o q : Objective) (R P a b m n : ℕ) → Stands o a → Stands q b → m ≡ where_aimed (number_of o) (P * (R + 1))
    → n ≡ where_aimed (number_of q) R → m + n + 1 ≡ top (soft_by R P a b)
top_standing o q R P a b m n h k e f = soft_top R P (number_of o) (number_of q) m n e f ∙ ap top (soft_standing o q R P a b h k)
