-- The weight of the soft clauses that a valuation violates orders the sets that valuations say by the two objectives.
-- Assumes nothing.
use mathlib.Core.Path.{◌≡◌, refl, sym, ap, ap₂, ◌∙◌, subst}
use mathlib.Core.Logic.{◌⊎◌, inl, inr, ◌↔◌}
use mathlib.Core.Bool.{Bool, true, false}
use mathlib.Core.Option.{some}
use mathlib.Core.List.{List, [], ◌∷◌, ◌++◌}
use Prim.Native.Nat.{ℕ, zero, suc, ◌+◌, ◌-◌, ◌*◌, ◌^◌, ◌≤◌, ◌<◌}
use native.Mathlib.Nat.{mul-le-mul_left, lt_of_lt_of_le}
use native.Mathlib.Decide.{dec_lt}
use native.Mathlib.Omega.{arith}
use lib.Pow.{pow_mono}
use lib.ListN.{length}
use Rattle.model.specs.declared.Line.{Line}
use Rattle.model.specs.Tests.{pick, any}
use Rattle.model.specs.Sets.{has, one, count_to, count}
use Rattle.model.specs.Policy.{Meaning}
use Rattle.model.specs.Line.{exclusions_met}
use Rattle.model.specs.Choice.{carried_by, admissible, cost, permission_cost, role_cost, better, choose}
use Rattle.model.specs.Clauses.{list_to, role_variable, permission_variable, hard, Weighted, wanting, soft, weight_of, top}
use Rattle.model_clauses.specs.Satisfied.{Valuation, makes, satisfies, satisfies_all, violated, named, Says, Before, SoftIs}
use borrow.Table.Steps.{cases}
use Rattle.model_laws.proofs.Ranks.{count_most, is_earlier}
use Rattle.model_laws.proofs.Bools.{not_both}
use Rattle.model_laws.proofs.SetLaws.{has_beyond, count_cong}
use Rattle.model_laws.proofs.Choices.{choice}
use Rattle.model_laws.proofs.LowestLaws.{set_of_below}
use Rattle.model_clauses.proofs.Meant.{Meant}
use Rattle.model_clauses.proofs.ClauseProof.{carried_by_below, hard_is}

-- ---- counts
-- a set has no members beyond its width
count-wide : (d e s : ℕ) → s < 2 ^ d → d ≤ e → count e s ≡ count d s
unfolding count count_to
count-wide d zero s h l = let q : d ≡ 0 = omega arith in ap (λ (x : ℕ). count x s) (sym q)
count-wide d (suc e) s h l =
    elim (dec_lt e d) [
      | yes q ↦ let z : d ≡ suc e = omega arith in ap (λ (x : ℕ). count x s) (sym z)
      | no q ↦
          let z : one (has s e) ≡ 0 = ap one (has_beyond d s e h (omega arith)) in
          omega (arith, count-wide d e s h (omega arith))
    ]

-- ---- what an objective makes of c out of n
spent : ℕ → ℕ → ℕ → ℕ
spent zero n c = 0
spent (suc zero) n c = c
spent (suc (suc a)) n c = n - c

spent_le : (a n c : ℕ) → c ≤ n → spent a n c ≤ n
unfolding spent
spent_le zero n c l = omega arith
spent_le (suc zero) n c l = l
spent_le (suc (suc a)) n c l = omega arith

spent_next : (a n c : ℕ) (b : Bool) → c ≤ n → spent a (suc n) (one b + c) ≡ spent a 1 (one b) + spent a n c
unfolding spent
spent_next zero n c b l = refl
spent_next (suc zero) n c b l = refl
spent_next (suc (suc a)) n c true l = omega arith
spent_next (suc (suc a)) n c false l = omega arith

-- it orders counts as the cost does
module _ (n c d : ℕ) (small : n ≤ 256) (lc : c ≤ n) (ld : d ≤ n) where
  spent_less : (a : ℕ) → (spent a n c < spent a n d) ↔ (cost a c < cost a d)
  unfolding spent cost
  spent_less zero = (λ h. h, λ h. h)
  spent_less (suc zero) = (λ h. h, λ h. h)
  spent_less (suc (suc a)) = (λ h. omega arith, λ h. omega arith)

  spent_same : (a : ℕ) → (spent a n c ≡ spent a n d) ↔ (cost a c ≡ cost a d)
  unfolding spent cost
  spent_same zero = (λ h. h, λ h. h)
  spent_same (suc zero) = (λ h. h, λ h. h)
  spent_same (suc (suc a)) = (λ h. omega arith, λ h. omega arith)

-- ---- the weight
module _ (v : Valuation) where
  violated_append : (xs ys : List Weighted) → violated v (xs ++ ys) ≡ violated v xs + violated v ys
  unfolding violated
  violated_append [] ys = omega arith
  violated_append (x ∷ xs) ys = omega (arith, violated_append xs ys)

  violated-one : (a w x : ℕ) → violated v (wanting a w x) ≡ w * spent a 1 (one (v x))
  unfolding violated wanting spent satisfies any makes pick
  violated-one zero w x = omega arith
  violated-one (suc zero) w x = cases (v x) (λ e. rw e (omega arith)) (λ e. rw e (omega arith))
  violated-one (suc (suc a)) w x = cases (v x) (λ e. rw e (omega arith)) (λ e. rw e (omega arith))

  violated_each : (a w : ℕ) (x : ℕ → ℕ) (n : ℕ) → violated v (list_to n (λ i. wanting a w (x i))) ≡ w * spent a n (count_to (λ i. v (x i)) n)
  unfolding list_to count_to violated
  violated_each a w x zero =
      let q : spent a 0 0 ≡ 0 = omega (arith, spent_le a 0 0 (omega arith)) in
      omega (arith, ap (λ (y : ℕ). w * y) q)
  violated_each a w x (suc n) =
      omega (
        arith,
        violated_append (list_to n (λ i. wanting a w (x i))) (wanting a w (x n)),
        violated_each a w x n,
        violated-one a w (x n),
        ap (λ (y : ℕ). w * y) (spent_next a n (count_to (λ i. v (x i)) n) (v (x n)) (count_most (λ i. v (x i)) n)),
      )

  violated-top : (cs : List Weighted) → violated v cs ≤ weight_of cs
  unfolding violated weight_of pick
  violated-top [] = omega arith
  violated-top (c ∷ cs) =
      let h = violated-top cs in
      cases (satisfies v c.clause) (λ e. rw e (omega arith)) (λ e. rw e (omega arith))

-- numbers in base m are ordered by their high digit, then by their low one
module _ (m a c b d : ℕ) (lb : b < m) (ld : d < m) where
  digits : (m * a + b < m * c + d) ↔ ((a < c) ⊎ ((a ≡ c) × (b < d)))
  digits = (to, from)
    where
      to : m * a + b < m * c + d → (a < c) ⊎ ((a ≡ c) × (b < d))
      to h =
          elim (dec_lt a c) [
            | yes q ↦ inl q
            | no q ↦
                elim (dec_lt c a) [
                  | yes z ↦ absurd (omega (arith, mul-le-mul_left m z))
                  | no z ↦ let e : a ≡ c = omega arith in inr (e, omega (arith, ap (λ (y : ℕ). m * y) e))
                ]
          ]

      from : (a < c) ⊎ ((a ≡ c) × (b < d)) → m * a + b < m * c + d
      from (inl q) = omega (arith, mul-le-mul_left m q)
      from (inr (e, q)) = omega (arith, ap (λ (y : ℕ). m * y) e)

module _ (p : Meaning) (range : Meant p) where
  -- the permissions that a set carries, and its roles, counted by the variables
  module _ (v : Valuation) (s : ℕ) (h : Says p v s) (narrow : s < 2 ^ p.roles) where
    permissions_counted : count_to (λ q. v (permission_variable p q)) p.permissions ≡ count 256 (carried_by p s)
    unfolding count
    permissions_counted =
        count_cong (λ q. v (permission_variable p q)) (has (carried_by p s)) p.permissions h.permissions
        ∙ sym (count-wide p.permissions 256 (carried_by p s) (carried_by_below p range s) range.permissions.1)

    roles_counted : count_to (λ r. v (role_variable r)) p.roles ≡ count 64 s
    unfolding count
    roles_counted =
        count_cong (λ r. v (role_variable r)) (has s) p.roles h.roles ∙ sym (count-wide p.roles 64 s narrow range.roles.1)

    few_permissions : count 256 (carried_by p s) ≤ p.permissions
    few_permissions =
        subst (λ (n : ℕ). n ≤ p.permissions) permissions_counted (count_most (λ q. v (permission_variable p q)) p.permissions)

    few_roles : count 64 s ≤ p.roles
    few_roles = subst (λ (n : ℕ). n ≤ p.roles) roles_counted (count_most (λ r. v (role_variable r)) p.roles)

    -- the weight violated: what the first objective makes of the permissions, as the high digit, and the second of the
    -- roles, as the low one
    weight_is : (a b : ℕ) → violated v (soft p a b)
        ≡ (p.roles + 1) * spent a p.permissions (count 256 (carried_by p s)) + spent b p.roles (count 64 s)
    unfolding soft
    weight_is a b =
        let x = violated_each v a (p.roles + 1) (λ q. permission_variable p q) p.permissions in
        let y = violated_each v b 1 (λ r. role_variable r) p.roles in
        let f = ap (λ (n : ℕ). (p.roles + 1) * spent a p.permissions n) permissions_counted in
        let g = ap (spent b p.roles) roles_counted in
        violated_append v (list_to p.permissions (λ q. wanting a (p.roles + 1) (permission_variable p q)))
        (list_to p.roles (λ r. wanting b 1 (role_variable r)))
        ∙ ap₂ (λ (m n : ℕ). m + n) (x ∙ f) (omega arith)

    low_digit : (b : ℕ) → spent b p.roles (count 64 s) < p.roles + 1
    low_digit b = omega (arith, spent_le b p.roles (count 64 s) few_roles)

  -- less weight is violated exactly where the set said comes before
  module _ (v w : Valuation) (s t : ℕ) (hv : Says p v s) (hw : Says p w t) (ns : s < 2 ^ p.roles) (nt : t < 2 ^ p.roles) (a b : ℕ) where
    less_is : (violated v (soft p a b) < violated w (soft p a b)) ↔ Before p a b s t
    unfolding permission_cost role_cost
    less_is = (to, from)
      where
        P : ℕ
        P = p.permissions

        R : ℕ
        R = p.roles

        m : ℕ
        m = count 256 (carried_by p s)

        n : ℕ
        n = count 256 (carried_by p t)

        high : (spent a P m < spent a P n) ↔ (cost a m < cost a n)
        high = spent_less P m n range.permissions.1 (few_permissions v s hv ns) (few_permissions w t hw nt) a

        high_same : (spent a P m ≡ spent a P n) ↔ (cost a m ≡ cost a n)
        high_same = spent_same P m n range.permissions.1 (few_permissions v s hv ns) (few_permissions w t hw nt) a

        low : (spent b R (count 64 s) < spent b R (count 64 t)) ↔ (cost b (count 64 s) < cost b (count 64 t))
        low = spent_less R (count 64 s) (count 64 t) (let q = range.roles.1 in omega arith) (few_roles v s hv ns) (few_roles w t hw nt) b

        both_digits : ((R + 1) * spent a P m + spent b R (count 64 s) < (R + 1) * spent a P n + spent b R (count 64 t))
            ↔ ((spent a P m < spent a P n) ⊎ ((spent a P m ≡ spent a P n) × (spent b R (count 64 s) < spent b R (count 64 t))))
        both_digits =
            digits (R + 1) (spent a P m) (spent a P n) (spent b R (count 64 s)) (spent b R (count 64 t)) (low_digit v s hv ns b) (low_digit w t hw nt b)

        to : violated v (soft p a b) < violated w (soft p a b) → Before p a b s t
        to h =
            elim (both_digits.0 (omega (arith, weight_is v s hv ns a b, weight_is w t hw nt a b))) [
              | inl q ↦ inl (high.0 q)
              | inr q ↦ inr (high_same.0 q.0, low.0 q.1)
            ]

        from : Before p a b s t → violated v (soft p a b) < violated w (soft p a b)
        from h = omega (arith, weight_is v s hv ns a b, weight_is w t hw nt a b, both_digits.1 (back h))
          where
            back : Before p a b s t → (spent a P m < spent a P n) ⊎ ((spent a P m ≡ spent a P n) × (spent b R (count 64 s) < spent b R (count 64 t)))
            back (inl q) = inl (high.1 q)
            back (inr (e, q)) = inr (high_same.1 e, low.1 q)

  -- what comes before by the objectives is better
  before-better : (a b s t : ℕ) → Before p a b s t → better p a b s t ≡ true
  unfolding better
  before-better a b s t h =
      is_earlier (permission_cost p a s) (permission_cost p a t) (role_cost b s) (role_cost b t) s t
      (elim h [ inl q ↦ inl q | inr q ↦ inr (q.0, inl q.1) ])

  own_small : p.authorized < 2 ^ 64
  own_small = lt_of_lt_of_le range.own (pow_mono range.roles.1)

  named_below : (v : Valuation) → named p v < 2 ^ p.roles
  unfolding named
  named_below v = set_of_below (λ r. v (role_variable r)) p.roles

  pub soft_is : (l : Line) (k lower upper : ℕ) → k < length l.sessions → exclusions_met p l ≡ true → lower < 2 ^ p.permissions
      → (a b : ℕ) → SoftIs p l k lower upper a b
  unfolding top
  soft_is l k lower upper inside met low a b =
      record { less = compare; least = smallest; best = beaten; below_top = λ v. omega (arith, violated-top v (soft p a b)) }
    where
      names : (v : Valuation) → satisfies_all v (hard p l k lower upper) ≡ true → Says p v (named p v)
      names v e = ((hard_is p range l k lower upper inside met low).names v e).1

      compare : (v w : Valuation) → satisfies_all v (hard p l k lower upper) ≡ true → satisfies_all w (hard p l k lower upper) ≡ true
          → (violated v (soft p a b) < violated w (soft p a b)) ↔ Before p a b (named p v) (named p w)
      compare v w e f = less_is v w (named p v) (named p w) (names v e) (names w f) (named_below v) (named_below w) a b

      smallest : (v : Valuation) → satisfies_all v (hard p l k lower upper) ≡ true → choose p l k lower upper a b ≡ some (named p v)
          → (w : Valuation) → satisfies_all w (hard p l k lower upper) ≡ true → violated v (soft p a b) ≤ violated w (soft p a b)
      smallest v e c w f =
          elim (dec_lt (violated w (soft p a b)) (violated v (soft p a b))) [
            | yes q ↦
                let best = ((choice p l k lower upper a b own_small).is_best (named p v)).0 c in
                not_both (better p a b (named p w) (named p v)) (before-better a b (named p w) (named p v) ((compare w v f e).0 q))
                (best.is_first (named p w) ((hard_is p range l k lower upper inside met low).names w f).0)
            | no q ↦ omega arith
          ]

      beaten : (v : Valuation) → satisfies_all v (hard p l k lower upper) ≡ true
          → ((w : Valuation) → satisfies_all w (hard p l k lower upper) ≡ true → violated v (soft p a b) ≤ violated w (soft p a b))
          → (t : ℕ) → admissible p l k lower upper t ≡ true → ¬ Before p a b t (named p v)
      beaten v e m t h q =
          let x = (hard_is p range l k lower upper inside met low).extends t h in
          let less = (compare x.0 v x.1 e).1 (subst (λ (n : ℕ). Before p a b n (named p v)) (sym x.2) q) in
          omega (arith, m x.0 x.1)
