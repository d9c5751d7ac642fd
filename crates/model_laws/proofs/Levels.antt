-- Level k of a role holds the roles from which a chain of k senior words leads down to it; the chain that the loop call
-- gives goes down through the levels; and a role on a loop is in one of its own first 64 levels.
-- Assumes nothing.
use mathlib.Core.Path.{◌≡◌, refl, ap, ◌∙◌}
use mathlib.Core.Logic.{◌⊎◌, inl, inr}
use mathlib.Core.Bool.{Bool, true, false, ◌&&◌, not}
use mathlib.Core.List.{List, ◌∷◌}
use Prim.Native.Nat.{ℕ, zero, suc, ◌-◌, ◌≤◌, ◌<◌, zero-le}
use native.Mathlib.Nat.{le_refl, lt_of_lt_of_le}
use native.Mathlib.Decide.{dec_lt}
use native.Mathlib.Omega.{arith}
use lib.ListN.{get_or, length}
use borrow.Author.Tests.{eq-eqb, not-true, not-false}
use borrow.Table.Steps.{cases}
use Rattle.model.specs.Tests.{lowest}
use Rattle.model.specs.Sets.{has, union, inter, with, meets, count_to, count}
use Rattle.model.specs.Policy.{Policy}
use Rattle.model.specs.Loop.{seniors_of, level, chain_down}
use Rattle.model.specs.Chains.{over, Chain, here, step, roles_of, Below}
use Rattle.model.specs.Ranges.{InRange}
use Rattle.model.specs.Ordered.{NotAbove}
use Rattle.model_laws.proofs.Bools.{and_l, and_r, not_both}
use Rattle.model_laws.proofs.SetLaws.{has_power, power_only, union-cases, union_l, union_r, inter-parts, inter_both, with_cases, one-most, count-within, count-with}
use Rattle.model_laws.proofs.UnionLaws.{has_none, below_or_last}
use Rattle.model_laws.proofs.AnyWidth.{within_iff}
use Rattle.model_laws.proofs.Ranks.{count_most}
use Rattle.model_laws.proofs.Closure.{few, below}
use Rattle.model_laws.proofs.LowestLaws.{lowest_is, lowest_found, set_of-has, has-set_of, meets-has, has-meets}

-- ---- a set of d numbers below d is all of them
full : (f : ℕ → Bool) (d : ℕ) → d ≤ count_to f d → (k : ℕ) → k < d → f k ≡ true
unfolding count_to
full f zero h k l = absurd (omega arith)
full f (suc d) h k l =
    elim (below_or_last k d l) [
      | inl q ↦ full f d (omega (arith, one-most (f d))) k q
      | inr q ↦ cases (f d) (λ e. ap f q ∙ e) (λ e. absurd (omega (arith, count_most f d, rw e at h)))
    ]

-- ---- the levels of a policy in range
module _ (p : Policy) (range : InRange p) where
  -- the roles that a senior word names are below 64
  senior_below : (a b : ℕ) → over p a b ≡ true → a < 64
  senior_below a b e = lt_of_lt_of_le (below p range a b e).0 (few p range)

  junior_below : (a b : ℕ) → over p a b ≡ true → b < 64
  junior_below a b e = lt_of_lt_of_le (below p range a b e).1 (few p range)

  -- from role a a senior word leads to a role of level k
  record Led (r k a : ℕ) : Type 0 where
    junior : ℕ
    word : over p a junior ≡ true
    on : has (level p.juniors r k) junior ≡ true

  -- level 0 is the role alone
  pub level-first : (r a : ℕ) → has (level p.juniors r 0) a ≡ true → a ≡ r
  unfolding level
  level-first = power_only

  level_self : (r : ℕ) → has (level p.juniors r 0) r ≡ true
  unfolding level
  level_self r = has_power r r ∙ eq-eqb r r refl

  -- the next level holds the roles from which a senior word leads to this one
  level-next : (r k a : ℕ) → has (level p.juniors r (suc k)) a ≡ true → Led r k a
  unfolding level seniors_of over
  level-next r k a e =
      let w = meets-has _ _ (set_of-has (λ i. meets (get_or p.juniors i 0) (level p.juniors r k)) 64 a e).0 in
      record { junior = w.0; word = w.1; on = w.2 }

  next_level : (r k a b : ℕ) → over p a b ≡ true → has (level p.juniors r k) b ≡ true → has (level p.juniors r (suc k)) a ≡ true
  unfolding level seniors_of over
  next_level r k a b e f =
      has-set_of (λ i. meets (get_or p.juniors i 0) (level p.juniors r k)) 64 a (senior_below a b e) (has-meets _ _ b e f)

  level_below : (r k a : ℕ) → has (level p.juniors r (suc k)) a ≡ true → a < 64
  level_below r k a e = let w = level-next r k a e in senior_below a w.junior w.word

  -- a chain's first role is in the level of its length
  pub chain-level : {a c : ℕ} (q : Chain p a c) → has (level p.juniors c (length (roles_of q))) a ≡ true
  unfolding roles_of
  chain-level (here {a = a}) = level_self a
  chain-level (step {a = a} {b = b} {c = c} e q) = next_level c (length (roles_of q)) a b e (chain-level q)

  -- ---- the chain that goes down through the levels

  -- the lowest junior of role a in level k
  lead : ℕ → ℕ → ℕ → ℕ
  lead r k a = lowest (has (inter (get_or p.juniors a 0) (level p.juniors r k))) 0 64

  -- it is a junior in that level, and no other is lower
  lead_found : (r k a b : ℕ) → over p a b ≡ true → has (level p.juniors r k) b ≡ true
      → (over p a (lead r k a) ≡ true) × (has (level p.juniors r k) (lead r k a) ≡ true) × (lead r k a ≤ b)
  unfolding lead over
  lead_found r k a b e f =
      let J = get_or p.juniors a 0 in
      let L = level p.juniors r k in
      let w = lowest_found (has (inter J L)) 0 64 b zero-le (omega (arith, junior_below a b e)) (inter_both J L b e f) in
      let h = inter-parts J L (lead r k a) w.0 in
      (h.0, h.1, w.1)

  -- from a role of level k + 1
  led : (r k a : ℕ) → has (level p.juniors r (suc k)) a ≡ true → (over p a (lead r k a) ≡ true) × (has (level p.juniors r k) (lead r k a) ≡ true)
  led r k a e = let w = level-next r k a e in let f = lead_found r k a w.junior w.word w.on in (f.0, f.1)

  pub down_length : (r k a : ℕ) → length (chain_down p.juniors r a k) ≡ k
  unfolding chain_down
  down_length r zero a = refl
  down_length r (suc k) a = ap suc (down_length r k (lowest (has (inter (get_or p.juniors a 0) (level p.juniors r k))) 0 64))

  -- a chain with given roles
  pub record Chained (a r : ℕ) (bs : List ℕ) : Type 0 where
    pub chain : Chain p a r
    pub roles : roles_of chain ≡ bs

  -- from a role of level k it is a chain
  pub down_chain : (r k a : ℕ) → has (level p.juniors r k) a ≡ true → Chained a r (chain_down p.juniors r a k)
  unfolding chain_down roles_of lead
  down_chain r zero a e = rw (level-first r a e) (record { chain = here; roles = refl })
  down_chain r (suc k) a e =
      let w = led r k a e in
      let c = down_chain r k (lead r k a) w.1 in
      record { chain = step w.0 c.chain; roles = ap (λ (bs : List ℕ). lead r k a ∷ bs) c.roles }

  -- the role at place i is in the level of what is left of it
  pub down_at : (r k a : ℕ) → has (level p.juniors r k) a ≡ true → (i : ℕ) → i < k
      → has (level p.juniors r (k - suc i)) (get_or (chain_down p.juniors r a k) i 0) ≡ true
  unfolding chain_down lead
  down_at r zero a e i l = absurd (omega arith)
  down_at r (suc k) a e zero l =
      let z : suc k - 1 ≡ k = omega arith in
      rw z (led r k a e).1
  down_at r (suc k) a e (suc i) l =
      let z : suc k - suc (suc i) ≡ k - suc i = omega arith in
      rw z (down_at r k (lead r k a) (led r k a e).1 i (omega arith))

  -- no chain of the same length is lower
  pub down_lowest : {a r : ℕ} (q : Chain p a r) → NotAbove (chain_down p.juniors r a (length (roles_of q))) (roles_of q)
  unfolding chain_down roles_of lead
  down_lowest here i h = le_refl 0
  down_lowest (step {a = a} {b = b} {c = r} e q) zero h = (lead_found r (length (roles_of q)) a b e (chain-level q)).2
  down_lowest (step {a = a} {b = b} {c = r} e q) (suc i) h =
      rw (h 0 (omega arith)) (down_lowest q i (λ j l. rw (h 0 (omega arith)) at (h (suc j) (omega arith))))

  -- ---- a role on a loop is in one of its own first 64 levels: the levels 1 to n together grow by a role each, or grow
  -- no more
  module _ (r : ℕ) where
    -- the roles of the levels 1 to n
    near : ℕ → ℕ
    near zero = 0
    near (suc n) = union (near n) (level p.juniors r (suc n))

    near_next : (n a : ℕ) → has (near (suc n)) a ≡ true → (has (near n) a ≡ true) ⊎ (has (level p.juniors r (suc n)) a ≡ true)
    unfolding near
    near_next n a e = union-cases (near n) _ a e

    near_old : (n a : ℕ) → has (near n) a ≡ true → has (near (suc n)) a ≡ true
    unfolding near
    near_old n a e = union_l (near n) _ a e

    near_new : (n a : ℕ) → has (level p.juniors r (suc n)) a ≡ true → has (near (suc n)) a ≡ true
    unfolding near
    near_new n a e = union_r (near n) _ a e

    -- role a is in one of the levels 1 to n
    record Nearby (n a : ℕ) : Type 0 where
      rank : ℕ
      upto : rank < n
      on : has (level p.juniors r (suc rank)) a ≡ true

    nearby : (n a : ℕ) → has (near n) a ≡ true → Nearby n a
    unfolding near
    nearby zero a e = not_both (has 0 a) e (has_none a)
    nearby (suc n) a e =
        elim (near_next n a e) [
          | inl h ↦ let w = nearby n a h in record { rank = w.rank; upto = omega (arith, w.upto); on = w.on }
          | inr h ↦ record { rank = n; upto = le_refl (suc n); on = h }
        ]

    near_level : (n k a : ℕ) → k < n → has (level p.juniors r (suc k)) a ≡ true → has (near n) a ≡ true
    near_level zero k a l e = absurd (omega arith)
    near_level (suc n) k a l e =
        elim (below_or_last k n l) [ inl q ↦ near_old n a (near_level n k a q e) | inr q ↦ near_new n a (rw q at e) ]

    -- every level but the first lies in the levels 1 to n
    abbrev All : ℕ → Type 0
    All n = (k a : ℕ) → has (level p.juniors r (suc k)) a ≡ true → has (near n) a ≡ true

    -- it is so where one level more brings nothing new
    all_near : (n : ℕ) → ((a : ℕ) → has (level p.juniors r (suc n)) a ≡ true → has (near n) a ≡ true) → All n
    all_near n h zero a e = elim (near_next n a (near_level (suc n) 0 a (omega arith) e)) [ inl x ↦ x | inr x ↦ h a x ]
    all_near n h (suc k) a e =
        let w = level-next r (suc k) a e in
        let m = nearby n w.junior (all_near n h k w.junior w.on) in
        let f = next_level r (suc m.rank) a w.junior w.word m.on in
        elim (near_next n a (near_level (suc n) (suc m.rank) a (omega (arith, m.upto)) f)) [ inl x ↦ x | inr x ↦ h a x ]

    -- a new role counts
    near_more : (n a : ℕ) → a < 64 → has (level p.juniors r (suc n)) a ≡ true → has (near n) a ≡ false → suc (count 64 (near n)) ≤ count 64 (near (suc n))
    near_more n a l e f =
        rw (← count-with 64 (near n) a l f)
        (count-within 64 (with (near n) a) (near (suc n))
        ((within_iff (with (near n) a) (near (suc n))).1
        (λ k q. elim (with_cases (near n) a k q) [ inl x ↦ near_old n k x | inr x ↦ near_new n k (rw x e) ])))

    -- n roles in the levels 1 to n, or all that there are
    grows : (n : ℕ) → (n ≤ count 64 (near n)) ⊎ All n
    grows zero = inl zero-le
    grows (suc n) =
        let fresh : ℕ → Bool = λ a. has (level p.juniors r (suc n)) a && not (has (near n) a) in
        let w = lowest_is fresh 0 64 in
        let a = lowest fresh 0 64 in
        let stale : (b : ℕ) → fresh b ≡ false → has (level p.juniors r (suc n)) b ≡ true → has (near n) b ≡ true =
        λ b f e. not-false (has (near n) b) (rw e at f) in
        elim (grows n) [
          | inr f ↦ inr (λ k b e. near_old n b (f k b e))
          | inl l ↦ elim (dec_lt a 64) [
            | yes q ↦
                let e = w.passes (omega arith) in
                let m = near_more n a q (and_l _ _ e) (not-true _ (and_r (has (level p.juniors r (suc n)) a) _ e)) in
                inl (omega arith)
            | no q ↦
                inr (λ k b e. near_old n b (all_near n (λ c x. stale c (w.before c zero-le (omega (arith, level_below r n c x))) x) k b e))
          ]
        ]

    -- a loop has a length of at most 64
    pub loop-level : Below p r r → (n : ℕ) × (1 ≤ n) × (n ≤ 64) × (has (level p.juniors r n) r ≡ true)
    loop-level b =
        let inside : has (near 64) r ≡ true = elim (grows 64) [
          | inl l ↦ full (has (near 64)) 64 (unfold count in l) r (senior_below r b.junior b.word)
          | inr f ↦ f _ r (next_level r _ r b.junior b.word (chain-level b.chain))
        ] in
        let w = nearby 64 r inside in
        (suc w.rank, omega arith, omega (arith, w.upto), w.on)
