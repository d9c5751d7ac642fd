-- Laws of the lowest number that passes a test, of the lowest member of a set that does, of a set made by a test, and
-- of sets that meet.
-- Assumes nothing.
use mathlib.Core.Path.{◌≡◌, refl, sym, ap, ap₂, ◌∙◌, subst}
use mathlib.Core.Logic.{inl, inr, ◌↔◌}
use mathlib.Core.Bool.{Bool, true, false, ◌&&◌, ◌||◌, not, true≢false}
use mathlib.Core.Option.{Option, none, some, some-injective, none-ne-some}
use mathlib.Core.List.{List}
use Prim.Native.Nat.{ℕ, zero, suc, ◌+◌, ◌^◌, ◌≤◌, ◌<◌, zero-le}
use native.Mathlib.Nat.{le_refl}
use native.Mathlib.Decide.{dec_lt}
use native.Mathlib.Omega.{arith}
use lib.Dec.{eqb, ltb}
use lib.Pow.{pow_pos}
use lib.ListN.{get_or}
use borrow.Author.Tests.{eqb-true, eq-eqb, eqb-false, ne_eqb, ltb-true, lt-ltb, not-true, ltb-false}
use Rattle.model.specs.Tests.{pick, lowest, if_below, is_some}
use Rattle.model.specs.Sets.{has, inter, meets, set_of, union_at, lowest_in}
use Rattle.model_laws.proofs.Bools.{and_l, and_r, both, or_l, or_r, or_cases, not_both, bool_ext, elim_case}
use Rattle.model_laws.proofs.SetLaws.{has-union, inter-parts, inter_both, has_power, same_members}
use Rattle.model_laws.proofs.UnionLaws.{has_none, below_or_last, has-union_at}
use Rattle.model_laws.proofs.AnyWidth.{lt-two-pow, members_below_lem}

-- ---- the lowest number

-- x is the lowest of the d numbers from k on that passes, or k + d
pub record LowestIs (f : ℕ → Bool) (k d x : ℕ) : Type 0 where
  pub from : k ≤ x
  pub upto : x ≤ k + d
  pub passes : x < k + d → f x ≡ true
  pub before : (j : ℕ) → k ≤ j → j < x → f j ≡ false

pub lowest_is : (f : ℕ → Bool) (k d : ℕ) → LowestIs f k d (lowest f k d)
unfolding lowest
lowest_is f k zero =
    record { from = le_refl k; upto = omega arith; passes = λ h. absurd (omega arith); before = λ j a b. absurd (omega arith) }
lowest_is f k (suc d) =
    let ih = lowest_is f (suc k) d in
    elim_case (LowestIs f k (suc d)) (f k) k (lowest f (suc k) d)
    (λ e. record { from = le_refl k; upto = omega arith; passes = λ h. e; before = λ j a b. absurd (omega arith) })
    (λ e. record {
      from = omega (arith, ih.from);
      upto = omega (arith, ih.upto);
      passes = λ h. ih.passes (omega arith);
      before = λ j a b. elim (dec_lt k j) [ yes q ↦ ih.before j q b | no q ↦ let z : j ≡ k = omega arith in ap f z ∙ e ];
    })

-- where one passes, the lowest does and is no higher
pub lowest_found : (f : ℕ → Bool) (k d j : ℕ) → k ≤ j → j < k + d → f j ≡ true → (f (lowest f k d) ≡ true) × (lowest f k d ≤ j)
lowest_found f k d j a b e =
    let w = lowest_is f k d in
    let h : lowest f k d ≤ j = elim (dec_lt j (lowest f k d)) [ yes q ↦ not_both (f j) e (w.before j a q) | no q ↦ omega arith ] in
    (w.passes (omega arith), h)

-- tests that agree have the same lowest number
pub lowest_cong : (f g : ℕ → Bool) (k d : ℕ) → ((j : ℕ) → k ≤ j → j < k + d → f j ≡ g j) → lowest f k d ≡ lowest g k d
unfolding lowest
lowest_cong f g k zero h = refl
lowest_cong f g k (suc d) h =
    ap₂ (λ (b : Bool) (x : ℕ). elim b [ true ↦ k | false ↦ x ]) (h k (le_refl k) (omega arith))
    (lowest_cong f g (suc k) d (λ j a b. h j (omega arith) (omega arith)))

-- ---- a number that may be missing

pub named : (o : Option ℕ) → is_some o ≡ true → (n : ℕ) × (o ≡ some n)
unfolding is_some
named none e = absurd (true≢false (sym e))
named (some n) e = (n, refl)

pub some_named : (n : ℕ) (o : Option ℕ) → o ≡ some n → is_some o ≡ true
unfolding is_some
some_named n o e = ap is_some e

pub none_unnamed : (o : Option ℕ) → o ≡ none → ¬ (is_some o ≡ true)
unfolding is_some
none_unnamed o e s = true≢false (sym s ∙ ap is_some e)

pub unnamed_none : (o : Option ℕ) → ¬ (is_some o ≡ true) → o ≡ none
unfolding is_some
unnamed_none none n = refl
unnamed_none (some k) n = absurd (n refl)

-- ---- a number below a bound

module _ (bound x : ℕ) where
  pub is_below : (n : ℕ) → if_below bound x ≡ some n → (x < bound) × (x ≡ n)
  unfolding if_below
  is_below n =
      elim_case (λ o. o ≡ some n → (x < bound) × (x ≡ n)) _ _ _ (λ h e. (ltb-true x bound h, some-injective x n e))
      (λ h q. absurd (none-ne-some n q))

  pub is_beyond : if_below bound x ≡ none → bound ≤ x
  unfolding if_below
  is_beyond =
      elim_case (λ o. o ≡ none → bound ≤ x) _ _ _ (λ h q. absurd (none-ne-some x (sym q))) (λ h q. ltb-false x bound h)

-- ---- the lowest member of a set that passes a test

-- n is the lowest member of s, of at most 64, that passes the test
pub record LowestThat (f : ℕ → Bool) (s n : ℕ) : Type 0 where
  pub small : n < 64
  pub member : has s n ≡ true
  pub passes : f n ≡ true
  pub least : (j : ℕ) → j < n → has s j ≡ true → ¬ (f j ≡ true)

module _ (f : ℕ → Bool) (s : ℕ) where
  -- a number below the bound is named
  below_some : (x n : ℕ) → x < 64 → x ≡ n → if_below 64 x ≡ some n
  unfolding if_below
  below_some x n h e = ap (λ (b : Bool). elim b [ true ↦ some x | false ↦ none ]) (lt-ltb x 64 h) ∙ ap some e

  -- what is named is the lowest, and the lowest is named
  pub lowest_some : (n : ℕ) → (lowest_in f s ≡ some n) ↔ LowestThat f s n
  unfolding lowest_in if_below
  lowest_some n = (
    elim_case (λ o. o ≡ some n → LowestThat f s n) _ _ _ is (λ h q. absurd (none-ne-some n q)),
    λ q. below_some x n (rw (same q) q.small) (same q),
  )
    where
      x : ℕ
      x = lowest (λ k. has s k && f k) 0 64

      w : LowestIs (λ k. has s k && f k) 0 64 x
      w = lowest_is (λ k. has s k && f k) 0 64

      is : ltb x 64 ≡ true → some x ≡ some n → LowestThat f s n
      is h e =
          let l : x < 64 = ltb-true x 64 h in
          let p : (has s x && f x) ≡ true = w.passes l in
          subst (LowestThat f s) (some-injective x n e)
          (record {
            small = l;
            member = and_l (has s x) (f x) p;
            passes = and_r (has s x) (f x) p;
            least = λ j b m q. not_both (has s j && f j) (both (has s j) (f j) m q) (w.before j zero-le b);
          })

      same : LowestThat f s n → x ≡ n
      same q =
          elim (dec_lt n x) [
            | yes b ↦ not_both (has s n && f n) (both (has s n) (f n) q.member q.passes) (w.before n zero-le b)
            | no b ↦ elim (dec_lt x n) [
              | yes c ↦
                  let p = w.passes (omega (arith, q.small)) in
                  absurd (q.least x c (and_l (has s x) (f x) p) (and_r (has s x) (f x) p))
              | no c ↦ omega arith
            ]
          ]

  -- one is named exactly if some member passes
  pub lowest_there : (n : ℕ) → n < 64 → has s n ≡ true → f n ≡ true → is_some (lowest_in f s) ≡ true
  unfolding lowest_in
  lowest_there n h m p =
      let x = lowest (λ k. has s k && f k) 0 64 in
      let q = lowest_found (λ k. has s k && f k) 0 64 n zero-le h (both (has s n) (f n) m p) in
      some_named x (if_below 64 x) (below_some x x (omega (arith, q.1)) refl)

  pub lowest-named : is_some (lowest_in f s) ≡ true → (n : ℕ) × (lowest_in f s ≡ some n)
  lowest-named = named (lowest_in f s)

-- the test of the numbers below 64 alone decides
pub lowest_same : (f g : ℕ → Bool) (s t : ℕ) → ((k : ℕ) → k < 64 → (has s k && f k) ≡ (has t k && g k)) → lowest_in f s ≡ lowest_in g t
unfolding lowest_in
lowest_same f g s t h = ap (if_below 64) (lowest_cong (λ k. has s k && f k) (λ k. has t k && g k) 0 64 (λ j a b. h j b))

-- the union of a table's rows holds m exactly if there is a lowest row that does
pub union-named : (rows : List ℕ) (s m : ℕ) → has (union_at rows s) m ≡ is_some (lowest_in (λ g. has (get_or rows g 0) m) s)
union-named rows s m =
    bool_ext (has (union_at rows s) m) (is_some (lowest_in row s))
    (λ e. let w = (has-union_at rows s m).0 e in lowest_there row s w.member w.below w.chosen w.holds)
    (λ e. let n = lowest-named row s e in
    let w = (lowest_some row s n.0).0 n.1 in
    (has-union_at rows s m).1 (record { member = n.0; below = w.small; chosen = w.member; holds = w.passes }))
  where
    row : ℕ → Bool
    row g = has (get_or rows g 0) m

-- ---- a set made by a test
has_more : (b : Bool) (d k : ℕ) → has (pick b (2 ^ d) 0) k ≡ (b && eqb k d)
unfolding pick
has_more true d k = has_power d k
has_more false d k = has_none k

module _ (f : ℕ → Bool) where
  -- one number more
  has-set_of-next : (d k : ℕ) → has (set_of f (suc d)) k ≡ (has (set_of f d) k || (f d && eqb k d))
  unfolding set_of
  has-set_of-next d k = has-union (set_of f d) (pick (f d) (2 ^ d) 0) k ∙ ap (λ (b : Bool). has (set_of f d) k || b) (has_more (f d) d k)

  -- its members pass, and are below d
  pub set_of-has : (d k : ℕ) → has (set_of f d) k ≡ true → (f k ≡ true) × (k < d)
  unfolding set_of
  set_of-has zero k e = not_both (has 0 k) e (has_none k)
  set_of-has (suc d) k e =
      elim (or_cases (has (set_of f d) k) (f d && eqb k d) (sym (has-set_of-next d k) ∙ e)) [
        | inl h ↦ let w = set_of-has d k h in (w.0, omega (arith, w.1))
        | inr h ↦ let q = eqb-true k d (and_r (f d) (eqb k d) h) in (ap f q ∙ and_l (f d) (eqb k d) h, omega (arith, q))
      ]

  -- and all that do are members
  pub has-set_of : (d k : ℕ) → k < d → f k ≡ true → has (set_of f d) k ≡ true
  has-set_of zero k l e = absurd (omega arith)
  has-set_of (suc d) k l e =
      has-set_of-next d k
      ∙ elim (below_or_last k d l) [
        | inl q ↦ or_l _ _ (has-set_of d k q e)
        | inr q ↦ or_r (has (set_of f d) k) _ (both (f d) (eqb k d) (ap f (sym q) ∙ e) (eq-eqb k d q))
      ]

  -- and it is below the next power
  pub set_of_below : (d : ℕ) → set_of f d < 2 ^ d
  set_of_below d = members_below_lem d (set_of f d) (λ k e. (set_of-has d k e).1)

-- ---- sets that meet

-- a set that is not empty has a member
some_member : (x : ℕ) → ¬ (x ≡ 0) → (k : ℕ) × (has x k ≡ true)
some_member x h =
    let w = lowest_is (has x) 0 x in
    elim (dec_lt (lowest (has x) 0 x) x) [
      | yes q ↦ (lowest (has x) 0 x, w.passes (omega arith))
      | no q ↦ absurd (h (same_members x x 0 (lt-two-pow x) (pow_pos x) (λ k l. w.before k zero-le (omega arith) ∙ sym (has_none k))))
    ]

pub meets-has : (s t : ℕ) → meets s t ≡ true → (k : ℕ) × (has s k ≡ true) × (has t k ≡ true)
unfolding meets
meets-has s t e =
    let w = some_member (inter s t) (eqb-false (inter s t) 0 (not-true _ e)) in
    let h = inter-parts s t w.0 w.1 in
    (w.0, h.0, h.1)

pub has-meets : (s t k : ℕ) → has s k ≡ true → has t k ≡ true → meets s t ≡ true
unfolding meets
has-meets s t k a b = ap not (ne_eqb (inter s t) 0 (λ e. not_both (has (inter s t) k) (inter_both s t k a b) (rw e (has_none k))))
