-- The tests of a query and of open sessions decide the register's cases.
-- Assumes nothing.
use mathlib.Core.Path.{◌≡◌, refl, sym, ap, ◌∙◌}
use mathlib.Core.Logic.{◌⊎◌, inl, inr}
use mathlib.Core.Bool.{Bool, true, false, ◌&&◌, ◌||◌, not, true≢false}
use Prim.Native.Nat.{ℕ, zero, suc, ◌+◌, ◌^◌, ◌≤◌, ◌<◌}
use native.Mathlib.Decide.{dec_lt}
use native.Mathlib.Omega.{arith}
use lib.Dec.{eqb, ltb, leb}
use lib.ListN.{length}
use borrow.Author.Tests.{eqb-true, leb-true, lt-ltb, le-leb, not-true, not-false}
use Rattle.model.specs.declared.Line.{Line}
use Rattle.model.specs.Sets.{has, within, one, count_to, count}
use Rattle.model.specs.Bytes.{number}
use Rattle.model.specs.Line.{is_open, lowest_closed}
use Rattle.model.specs.Session.{Query}
use Rattle.model_laws.proofs.Bools.{and_l, and_r, both, not_both}
use Rattle.model_laws.proofs.UnionLaws.{has_below, below_or_last}
use Rattle.model_laws.proofs.AnyWidth.{lt-two-pow, members_below_lem, within_iff}
use Rattle.model_laws.proofs.CallLaws.{lowest_closed_lem}
use Rattle.model_laws.proofs.Ranks.{count-le}
use Rattle.model_register.specs.Calls.{WrongSize, TooHigh, NotWithin, WrongAim}
use Rattle.model_register.proofs.Decided.{Decides, decides_as, not_decides, or_decides, nand_decides, equal_decides, below_decides}

-- ---- a number that passes a test, where only numbers below d can
some_or_none : (f : ℕ → Bool) (d : ℕ) → ((k : ℕ) → f k ≡ true → k < d) → ((k : ℕ) × (f k ≡ true)) ⊎ ((k : ℕ) → ¬ (f k ≡ true))
some_or_none f d low = go (upto d)
  where
    upto : (n : ℕ) → ((k : ℕ) × (f k ≡ true)) ⊎ ((k : ℕ) → k < n → ¬ (f k ≡ true))
    upto zero = inr (λ k l. absurd (omega arith))
    upto (suc n) = at (f n) refl (upto n)
      where
        at : (b : Bool) → f n ≡ b → ((k : ℕ) × (f k ≡ true)) ⊎ ((k : ℕ) → k < n → ¬ (f k ≡ true))
            → ((k : ℕ) × (f k ≡ true)) ⊎ ((k : ℕ) → k < suc n → ¬ (f k ≡ true))
        at true e w = inl (n, e)
        at false e (inl w) = inl w
        at false e (inr w) = inr (λ k l q. elim (below_or_last k n l) [ inl i ↦ w k i q | inr i ↦ true≢false (sym q ∙ ap f i ∙ e) ])

    go : ((k : ℕ) × (f k ≡ true)) ⊎ ((k : ℕ) → k < d → ¬ (f k ≡ true)) → ((k : ℕ) × (f k ≡ true)) ⊎ ((k : ℕ) → ¬ (f k ≡ true))
    go (inl w) = inl w
    go (inr w) = inr (λ k q. w k (low k q) q)

-- a member of a set is below the set's number
member_below : (n k : ℕ) → has n k ≡ true → k < n
member_below n k e = has_below n n k (lt-two-pow n) e

-- ---- 15
pub size_decides : (q : Query) → Decides (not (eqb (length q.lower) 32 && eqb (length q.upper) 32)) (WrongSize q)
size_decides q =
    nand_decides (eqb (length q.lower) 32) (eqb (length q.upper) 32)
    (not_decides (eqb (length q.lower) 32) (equal_decides (length q.lower) 32))
    (not_decides (eqb (length q.upper) 32) (equal_decides (length q.upper) 32))

-- ---- 16: a number of too many digits has a member that is too high
pub high_decides : (n d : ℕ) → Decides (not (ltb n (2 ^ d))) ((k : ℕ) × (d ≤ k) × (has n k ≡ true))
high_decides n d = (
  λ e. find (not-true (ltb n (2 ^ d)) e) (some_or_none (λ k. has n k && leb d k) n (λ k e. member_below n k (and_l (has n k) (leb d k) e))),
  λ e (k, l, h). let b = has_below d n k ((below_decides n (2 ^ d)).0 (not-false (ltb n (2 ^ d)) e)) h in absurd (omega arith),
)
  where
    find : ltb n (2 ^ d) ≡ false → ((k : ℕ) × ((has n k && leb d k) ≡ true)) ⊎ ((k : ℕ) → ¬ ((has n k && leb d k) ≡ true))
        → (k : ℕ) × (d ≤ k) × (has n k ≡ true)
    find f (inl (k, e)) = (k, leb-true d k (and_r (has n k) (leb d k) e), and_l (has n k) (leb d k) e)
    find f (inr w) =
        let low = members_below_lem d n (λ k h. elim (dec_lt k d) [
          | yes l ↦ l
          | no l ↦ absurd (w k (both (has n k) (leb d k) h (le-leb d k (omega arith))))
        ]) in
        absurd (true≢false (sym (lt-ltb n (2 ^ d) low) ∙ f))

pub high_bounds : (d : ℕ) (q : Query)
    → Decides (not (ltb (number q.lower) (2 ^ d) && ltb (number q.upper) (2 ^ d))) (TooHigh d q)
high_bounds d q =
    decides_as (not (ltb a (2 ^ d) && ltb b (2 ^ d))) (nand_decides (ltb a (2 ^ d)) (ltb b (2 ^ d)) (high_decides a d) (high_decides b d)) to back
  where
    a : ℕ
    a = number q.lower

    b : ℕ
    b = number q.upper

    to : ((k : ℕ) × (d ≤ k) × (has a k ≡ true)) ⊎ ((k : ℕ) × (d ≤ k) × (has b k ≡ true)) → TooHigh d q
    to (inl (k, l, h)) = record { permission = k; high = l; member = inl h }
    to (inr (k, l, h)) = record { permission = k; high = l; member = inr h }

    back : TooHigh d q → ((k : ℕ) × (d ≤ k) × (has a k ≡ true)) ⊎ ((k : ℕ) × (d ≤ k) × (has b k ≡ true))
    back w = go w.member
      where
        go : (has a w.permission ≡ true) ⊎ (has b w.permission ≡ true)
            → ((k : ℕ) × (d ≤ k) × (has a k ≡ true)) ⊎ ((k : ℕ) × (d ≤ k) × (has b k ≡ true))
        go (inl h) = inl (w.permission, w.high, h)
        go (inr h) = inr (w.permission, w.high, h)

-- ---- 17: a set that is not within another has a member that the other has not
pub within_decides : (q : Query) → Decides (not (within (number q.lower) (number q.upper))) (NotWithin q)
within_decides q = (
  λ e. find (not-true (within a b) e) (some_or_none (λ k. has a k && not (has b k)) a (λ k e. member_below a k (and_l (has a k) (not (has b k)) e))),
  λ e w. not_both (has b w.permission) ((within_iff a b).0 (not-false (within a b) e) w.permission w.lower) w.upper,
)
  where
    a : ℕ
    a = number q.lower

    b : ℕ
    b = number q.upper

    has_or : (k : ℕ) → ¬ ((has a k && not (has b k)) ≡ true) → has a k ≡ true → (t : Bool) → has b k ≡ t → has b k ≡ true
    has_or k w h true e = e
    has_or k w h false e = absurd (w (both (has a k) (not (has b k)) h (ap not e)))

    find : within a b ≡ false → ((k : ℕ) × ((has a k && not (has b k)) ≡ true)) ⊎ ((k : ℕ) → ¬ ((has a k && not (has b k)) ≡ true)) → NotWithin q
    find f (inl (k, e)) =
        record { permission = k; lower = and_l (has a k) (not (has b k)) e; upper = not-true (has b k) (and_r (has a k) (not (has b k)) e) }
    find f (inr w) = absurd (true≢false (sym ((within_iff a b).1 (λ k h. has_or k (w k) h (has b k) refl)) ∙ f))

-- ---- 18
pub aim_decides : (q : Query) → Decides (ltb 2 q.permission_aim || ltb 2 q.role_aim) (WrongAim q)
aim_decides q = or_decides (ltb 2 q.permission_aim) (ltb 2 q.role_aim) (below_decides 2 q.permission_aim) (below_decides 2 q.role_aim)

-- ---- 14, and the session that an open takes
all-counted : (d s : ℕ) → count d s ≡ d → (j : ℕ) → j < d → has s j ≡ true
unfolding count count_to
all-counted zero s e j l = absurd (omega arith)
all-counted (suc d) s e j l = go (has s d) refl e (count-le d s) (all-counted d s)
  where
    go : (b : Bool) → has s d ≡ b → one b + count d s ≡ suc d → count d s ≤ d → (count d s ≡ d → (j : ℕ) → j < d → has s j ≡ true) → has s j ≡ true
    go true p e h ih = elim (below_or_last j d l) [ inl i ↦ ih (omega arith) j i | inr i ↦ ap (has s) i ∙ p ]
    go false p e h ih = absurd (omega arith)

pub full_decides : (W : ℕ) (l : Line) → Decides (eqb (count W l.opened) W) ((j : ℕ) → j < W → has l.opened j ≡ true)
unfolding is_open
full_decides W l = (
  λ e. all-counted W l.opened (eqb-true (count W l.opened) W e),
  λ e h. let c = lowest_closed_lem W l e in not_both (has l.opened (lowest_closed l 0 W)) (h (lowest_closed l 0 W) c.0) c.1,
)

-- before the lowest closed session all are open
pub open_before : (l : Line) (k d j : ℕ) → k ≤ j → j < lowest_closed l k d → has l.opened j ≡ true
unfolding lowest_closed is_open
open_before l k zero j a b = absurd (omega arith)
open_before l k (suc d) j a b = go (is_open l k) refl b (open_before l (suc k) d j)
  where
    go : (t : Bool) → is_open l k ≡ t → j < (elim t [ true ↦ lowest_closed l (suc k) d | false ↦ k ])
        → (suc k ≤ j → j < lowest_closed l (suc k) d → has l.opened j ≡ true) → has l.opened j ≡ true
    go true p b ih = elim (dec_lt k j) [ yes i ↦ ih i b | no i ↦ let e : j ≡ k = omega arith in ap (has l.opened) e ∙ p ]
    go false p b ih = absurd (omega arith)
