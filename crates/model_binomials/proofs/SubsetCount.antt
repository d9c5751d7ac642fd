-- The sum of "m choose k" for k below n is the number of subsets with fewer than n members of a set of m.
-- Assumes nothing.
use mathlib.Core.Path.{◌≡◌, refl, sym, ap, ap₂, ◌∙◌}
use mathlib.Core.Bool.{Bool, true, false, ◌&&◌, and-false}
use Prim.Native.Nat.{ℕ, zero, suc, ◌+◌, ◌^◌, ◌<◌}
use native.Mathlib.Nat.{zero-add, add_comm, pow-suc, le_refl}
use native.Mathlib.Numerals.{one-add}
use native.Mathlib.Omega.{arith}
use lib.Dec.{ltb, eqb}
use lib.Bits.{and_comm}
use borrow.Author.Tests.{ltb-true, lt-ltb, le-ltb, eqb-true, eq-eqb}
use Rattle.model.specs.declared.Exclusion.{Exclusion}
use Rattle.model.specs.Policy.{met}
use Rattle.model.specs.Sets.{has, with, inter, within, one, count_to, count}
use Rattle.model_laws.proofs.Bools.{and_l, and_r, both, or_r, bool_ext}
use Rattle.model_laws.proofs.SetLaws.{within_has, has-with, has_power, has_beyond, count-with, count_cong, count_split}
use Rattle.model_laws.proofs.AnyWidth.{within_iff}
use Rattle.model_laws.proofs.Inclusion.{within_trans, none_within, within_union_l, union-within, add_member}
use Rattle.model_binomials.specs.Binomial.{binomial, sum_below}
use Rattle.model_binomials.specs.Allowed.{fewer_members, SubsetsCounted, allows_alone, AllowedAlone}
use Rattle.model_binomials.proofs.Sums.{sum_pascal}

-- ---- numbers that pass a test

-- none passes
count-nothing : (f : ℕ → Bool) (d : ℕ) → ((k : ℕ) → k < d → f k ≡ false) → count_to f d ≡ 0
unfolding count_to
count-nothing f zero h = refl
count-nothing f (suc d) h =
    ap (λ (x : Bool). one x + count_to f d) (h d (omega arith)) ∙ omega (arith, count-nothing f d (λ k l. h k (omega arith)))

-- ---- sets of members below d, with or without the member d
module _ (d s t : ℕ) (h : t < 2 ^ d) where
  out : has t d ≡ false
  out = has_beyond d t d h (le_refl d)

  -- t and d, as a number and as a set
  joined : 2 ^ d + t ≡ with t d
  joined = add_comm (2 ^ d) t ∙ add_member t d out

  -- it lies within s where s has d and t lies within s
  joined-within : within (2 ^ d + t) s ≡ (has s d && within t s)
  joined-within =
      ap (λ (x : ℕ). within x s) joined
      ∙ bool_ext (within (with t d) s) (has s d && within t s)
      (λ e. both (has s d) (within t s)
      (within_has (with t d) s e d (has-with t d d ∙ or_r (has t d) (eqb d d) (sym (has_power d d) ∙ top)))
      (within_trans t (with t d) s (within_union_l t (2 ^ d)) e))
      (λ e. union-within t (2 ^ d) s (and_r (has s d) (within t s) e)
      ((within_iff (2 ^ d) s).1 (λ k q. ap (has s) (eqb-true k d (sym (has_power d k) ∙ q)) ∙ and_l (has s d) (within t s) e)))
    where
      top : has (2 ^ d) d ≡ true
      top = has_power d d ∙ eq-eqb d d refl

  -- and has one member more
  count_out : count (suc d) t ≡ count d t
  unfolding count count_to
  count_out = ap (λ (x : Bool). one x + count_to (has t) d) out ∙ zero-add (count_to (has t) d)

  count-joined : count (suc d) (2 ^ d + t) ≡ suc (count d t)
  count-joined = ap (count (suc d)) joined ∙ count-with (suc d) t d (omega arith) out ∙ ap suc count_out

-- ---- the number of subsets

-- no things at all: one set, the empty one
sum_none : (n : ℕ) → sum_below (binomial 0) (suc n) ≡ 1
unfolding sum_below binomial
sum_none zero = refl
sum_none (suc n) = omega (arith, sum_none n)

shorter : (a b : ℕ) → ltb (suc a) (suc b) ≡ ltb a b
shorter a b =
    bool_ext (ltb (suc a) (suc b)) (ltb a b) (λ e. lt-ltb a b (omega (arith, ltb-true (suc a) (suc b) e)))
    (λ e. lt-ltb (suc a) (suc b) (omega (arith, ltb-true a b e)))

-- those without the member d, and those with it, which have one member fewer besides
module _ (d s n : ℕ) where
  without_it : count_to (fewer_members (suc d) s n) (2 ^ d) ≡ count_to (fewer_members d s n) (2 ^ d)
  unfolding fewer_members
  without_it =
      count_cong (fewer_members (suc d) s n) (fewer_members d s n) (2 ^ d) (λ t h. ap (λ (x : ℕ). within t s && ltb x n) (count_out d s t h))

  -- the test of t and d
  test_joined : (t : ℕ) → t < 2 ^ d → fewer_members (suc d) s n (2 ^ d + t) ≡ ((has s d && within t s) && ltb (suc (count d t)) n)
  unfolding fewer_members
  test_joined t h = ap₂ (λ (a : Bool) (b : ℕ). a && ltb b n) (joined-within d s t h) (count-joined d s t h)

with_none : (d s n : ℕ) → has s d ≡ false → count_to (λ t. fewer_members (suc d) s n (2 ^ d + t)) (2 ^ d) ≡ 0
with_none d s n e =
    count-nothing (λ t. fewer_members (suc d) s n (2 ^ d + t)) (2 ^ d)
    (λ t h. test_joined d s n t h ∙ ap (λ (x : Bool). (x && within t s) && ltb (suc (count d t)) n) e)

with_it : (d s n : ℕ) → has s d ≡ true
    → count_to (λ t. fewer_members (suc d) s (suc n) (2 ^ d + t)) (2 ^ d) ≡ count_to (fewer_members d s n) (2 ^ d)
unfolding fewer_members
with_it d s n e =
    count_cong (λ t. fewer_members (suc d) s (suc n) (2 ^ d + t)) (fewer_members d s n) (2 ^ d)
    (λ t h. test_joined d s (suc n) t h ∙ ap₂ (λ (x y : Bool). (x && within t s) && y) e (shorter (count d t) n))

-- fewer than 0 members has no set
none_fewer : (d s k : ℕ) → count_to (fewer_members d s 0) k ≡ 0
unfolding fewer_members
none_fewer d s k =
    count-nothing (fewer_members d s 0) k (λ t h. ap (λ (x : Bool). within t s && x) (le-ltb (count d t) 0 (omega arith)) ∙ and-false (within t s))

-- both, for d + 1
halves : (d s n : ℕ)
    → count_to (fewer_members (suc d) s n) (2 ^ suc d)
    ≡ count_to (fewer_members d s n) (2 ^ d) + count_to (λ t. fewer_members (suc d) s n (2 ^ d + t)) (2 ^ d)
halves d s n =
    let e : 2 ^ suc d ≡ 2 ^ d + 2 ^ d = omega (arith, pow-suc 2 d) in
    ap (count_to (fewer_members (suc d) s n)) e ∙ count_split (fewer_members (suc d) s n) (2 ^ d) (2 ^ d)
    ∙ ap (λ (x : ℕ). x + count_to (λ t. fewer_members (suc d) s n (2 ^ d + t)) (2 ^ d)) (without_it d s n)

-- of no things, there is the empty set
no_things : (s n : ℕ) → count_to (fewer_members 0 s (suc n)) (2 ^ 0) ≡ 1
unfolding count_to fewer_members count
no_things s n =
    ap (λ (x : Bool). one (x && ltb 0 (suc n)) + 0) (none_within s) ∙ ap (λ (x : Bool). one x + 0) (lt-ltb 0 (suc n) (omega arith))

-- the theorem, by induction on the width
pub subsets-counted : (d s n : ℕ) → SubsetsCounted d s n
subsets-counted d s zero = none_fewer d s (2 ^ d) ∙ unfold sum_below in refl
subsets-counted zero s (suc n) = no_things s n ∙ sym (unfold count count_to in (sum_none n))
subsets-counted (suc d) s (suc n) = go (has s d) refl (subsets-counted d s (suc n)) (subsets-counted d s n)
  where
    size : (b : Bool) → has s d ≡ b → count (suc d) s ≡ one b + count d s
    size b e = unfold count count_to in (ap (λ (x : Bool). one x + count_to (has s) d) e)

    go : (b : Bool) → has s d ≡ b → SubsetsCounted d s (suc n) → SubsetsCounted d s n → SubsetsCounted (suc d) s (suc n)
    go false e i j =
        halves d s (suc n) ∙ omega (arith, with_none d s (suc n) e, i)
        ∙ ap (λ (x : ℕ). sum_below (binomial x) (suc n)) (sym (size false e ∙ zero-add (count d s)))
    go true e i j =
        halves d s (suc n) ∙ omega (arith, with_it d s n e, i, j, sum_pascal (count d s) n)
        ∙ ap (λ (x : ℕ). sum_below (binomial x) (suc n)) (sym (size true e ∙ one-add (count d s)))

-- ---- exclusions

-- of a set of members, an exclusion counts all
alone_same : (x : Exclusion) (t : ℕ) → allows_alone x t ≡ fewer_members 64 x.members x.n t
unfolding allows_alone met fewer_members
alone_same x t = go (within t x.members) refl
  where
    go : (b : Bool) → within t x.members ≡ b
        → (b && ltb (count 64 (inter x.members t)) x.n) ≡ (b && ltb (count 64 t) x.n)
    go true e = ap (λ (s : ℕ). ltb (count 64 s) x.n) (and_comm x.members t ∙ unfold within in (eqb-true (inter t x.members) t e))
    go false e = refl

pub allowed_alone : (x : Exclusion) → AllowedAlone x
allowed_alone x =
    count_cong (allows_alone x) (fewer_members 64 x.members x.n) (2 ^ 64) (λ t h. alone_same x t)
    ∙ subsets-counted 64 x.members x.n
