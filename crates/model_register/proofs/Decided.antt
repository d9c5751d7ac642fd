-- Tests that decide facts, and how they are put together.
-- Assumes nothing.
use mathlib.Core.Path.{◌≡◌, refl, sym, ap, ap₂, ◌∙◌, subst}
use mathlib.Core.Logic.{◌⊎◌, inl, inr, ◌↔◌}
use mathlib.Core.Bool.{Bool, true, false, ◌&&◌, ◌||◌, not, true≢false, or-false}
use mathlib.Core.List.{List, [], ◌∷◌}
use Prim.Native.Nat.{ℕ, zero, suc, ◌+◌, ◌≤◌, ◌<◌, zero-le}
use native.Mathlib.Nat.{le_refl}
use native.Mathlib.Omega.{arith}
use lib.Dec.{eqb, ltb, leb}
use lib.ListN.{length}
use borrow.Author.Tests.{eqb-true, eqb-false, ltb-true, ltb-false, leb-true, leb-false, eq-eqb, ne_eqb, lt-leb, not-true, not-false}
use Rattle.model.specs.Sets.{has, inter, one, count_to, count}
use Rattle.model.specs.Ranges.{Each}
use Rattle.model_laws.proofs.SetLaws.{count_cong, count_more, inter_both, inter-parts}
use Rattle.model_laws.proofs.Eachs.{each_by, each_two}
use Rattle.model_register.specs.Faults.{Distinct, Many}

-- the test holds where the fact does, and fails where it does not
abbrev pub Decides : Bool → Type 0 → Type 0
Decides b A = (b ≡ true → A) × (b ≡ false → ¬ A)

pub decides_as : {A B : Type 0} (b : Bool) → Decides b A → (A → B) → (B → A) → Decides b B
decides_as b d f g = (λ e. f (d.0 e), λ e y. d.1 e (g y))

pub never : Decides false ⊥
never = (λ e. absurd (true≢false (sym e)), λ e x. x)

pub always : {A : Type 0} → A → Decides true A
always x = (λ e. x, λ e. absurd (true≢false e))

pub not_decides : {A : Type 0} (b : Bool) → Decides b A → Decides (not b) (¬ A)
not_decides b d = (λ e. d.1 (not-true b e), λ e n. n (d.0 (not-false b e)))

pub or_decides : {A B : Type 0} (a b : Bool) → Decides a A → Decides b B → Decides (a || b) (A ⊎ B)
or_decides true b d f = (λ e. inl (d.0 refl), λ e. absurd (true≢false e))
or_decides {A = A} {B = B} false b d f = (λ e. inr (f.0 e), λ e w. neither e w)
  where
    neither : b ≡ false → A ⊎ B → ⊥
    neither e (inl x) = d.1 refl x
    neither e (inr y) = f.1 e y

pub and_decides : {A B : Type 0} (a b : Bool) → Decides a A → Decides b B → Decides (a && b) (A × B)
and_decides true b d f = (λ e. (d.0 refl, f.0 e), λ e (x, y). f.1 e y)
and_decides false b d f = (λ e. absurd (true≢false (sym e)), λ e (x, y). d.1 refl x)

-- one of two that are to hold does not
pub nand_decides : {A B : Type 0} (a b : Bool) → Decides (not a) A → Decides (not b) B → Decides (not (a && b)) (A ⊎ B)
nand_decides {A = A} {B = B} true b d f = (λ e. inr (f.0 e), λ e w. neither e w)
  where
    neither : not b ≡ false → A ⊎ B → ⊥
    neither e (inl x) = d.1 refl x
    neither e (inr y) = f.1 e y
nand_decides false b d f = (λ e. inl (d.0 refl), λ e. absurd (true≢false e))

pub equal_decides : (a b : ℕ) → Decides (eqb a b) (a ≡ b)
equal_decides a b = (eqb-true a b, eqb-false a b)

pub below_decides : (a b : ℕ) → Decides (ltb a b) (a < b)
below_decides a b = (ltb-true a b, λ e l. let q = ltb-false a b e in absurd (omega arith))

pub most_decides : (a b : ℕ) → Decides (leb a b) (a ≤ b)
most_decides a b = (leb-true a b, λ e l. let q = leb-false a b e in absurd (omega arith))

pub not_below_decides : (a b : ℕ) → Decides (not (ltb a b)) (b ≤ a)
not_below_decides a b =
    (λ e. ltb-false a b (not-true (ltb a b) e), λ e l. let q = ltb-true a b (not-false (ltb a b) e) in absurd (omega arith))

pub above_decides : (a b : ℕ) → Decides (not (leb a b)) (b < a)
above_decides a b =
    (λ e. leb-false a b (not-true (leb a b) e), λ e l. let q = leb-true a b (not-false (leb a b) e) in absurd (omega arith))

-- ---- so many different numbers

pub many_map : {P Q : ℕ → Type 0} (n : ℕ) → ((x : ℕ) → P x → Q x) → Many n P → Many n Q
many_map n f w = record { list = w.list; size = w.size; different = w.different; each = each_by _ _ f w.list w.each }

-- below d, and passing the test
abbrev Passes : (ℕ → Bool) → ℕ → ℕ → Type 0
Passes f d x = (x < d) × (f x ≡ true)

-- different numbers below d that pass the test are no more than are counted
listed_count : (d : ℕ) (xs : List ℕ) (f : ℕ → Bool) → Distinct xs → Each (Passes f d) xs → length xs ≤ count_to f d
listed_count d [] f q e = zero-le
listed_count d (x ∷ xs) f q e =
    let g : ℕ → Bool = λ j. f j && not (eqb j x) in
    let out : g x ≡ false = ap (λ (b : Bool). f x && not b) (eq-eqb x x refl) ∙ false_r (f x) in
    let more = count_cong f (λ j. g j || eqb j x) d (λ j l. split j (eqb j x) refl) ∙ count_more g d x e.0.0 out in
    let others = each_two (λ y. ¬ (x ≡ y)) (Passes f d) (λ y. ¬ (x ≡ y) × Passes f d y) (λ y g h. (g, h)) xs q.0 e.1 in
    let rest = listed_count d xs g q.1 (each_by _ _ (λ y w. (w.1.0, kept y w.0 w.1.1)) xs others) in
    omega arith
  where
    false_r : (b : Bool) → (b && not true) ≡ false
    false_r true = refl
    false_r false = refl

    split : (j : ℕ) (b : Bool) → eqb j x ≡ b → f j ≡ ((f j && not b) || b)
    split j true p = ap f (eqb-true j x p) ∙ e.0.1 ∙ sym (or_last (f j && not true))
      where
        or_last : (b : Bool) → (b || true) ≡ true
        or_last true = refl
        or_last false = refl
    split j false p = sym (or-false (f j && not false) ∙ and_last (f j))
      where
        and_last : (b : Bool) → (b && not false) ≡ b
        and_last true = refl
        and_last false = refl

    kept : (y : ℕ) → ¬ (x ≡ y) → f y ≡ true → (f y && not (eqb y x)) ≡ true
    kept y n p = ap₂ (λ (a b : Bool). a && not b) p (ne_eqb y x (λ z. n (sym z)))

-- so many as are counted there are, all below d
count_listed : (f : ℕ → Bool) (d n : ℕ) → n ≤ count_to f d → Many n (Passes f d)
unfolding count_to
count_listed f d zero l = record { list = []; size = refl; different = tt; each = tt }
count_listed f zero (suc n) l = absurd (omega arith)
count_listed f (suc d) (suc n) l = go (f d) refl l (count_listed f d (suc n)) (count_listed f d n)
  where
    wider : {n : ℕ} → Many n (Passes f d) → Many n (Passes f (suc d))
    wider {n} = many_map n (λ x (a, b). (omega arith, b))

    go : (b : Bool) → f d ≡ b → suc n ≤ one b + count_to f d → (suc n ≤ count_to f d → Many (suc n) (Passes f d))
        → (n ≤ count_to f d → Many n (Passes f d)) → Many (suc n) (Passes f (suc d))
    go true p q ih jh =
        let v = jh (omega arith) in
        record {
          list = d ∷ v.list;
          size = ap suc v.size;
          different = (each_by _ _ (λ x (a, b) z. omega arith) v.list v.each, v.different);
          each = ((le_refl (suc d), p), each_by _ _ (λ x (a, b). (omega arith, b)) v.list v.each);
        }
    go false p q ih jh = wider (ih (omega arith))

-- the count decides whether there are so many
pub many_decides : {P : ℕ → Type 0} (f : ℕ → Bool) (d n : ℕ) → ((x : ℕ) → P x → (x < d) × (f x ≡ true)) → ((x : ℕ) → x < d → f x ≡ true → P x)
    → Decides (leb n (count_to f d)) (Many n P)
many_decides f d n to back =
    decides_as (leb n (count_to f d)) (most_decides n (count_to f d)) (λ l. many_map n (λ x (a, b). back x a b) (count_listed f d n l))
    (λ w. subst (λ (m : ℕ). m ≤ count_to f d) w.size (listed_count d w.list f w.different (each_by _ _ to w.list w.each)))

-- a number is below t exactly if what a test against t decides is not so
pub below_is_not : {A : Type 0} (t n : ℕ) → Decides (leb t n) A → (n < t) ↔ (¬ A)
below_is_not {A = A} t n d = (λ b. d.1 (lt-leb t n b), λ z. leb-false t n (go (leb t n) refl z))
  where
    go : (b : Bool) → leb t n ≡ b → (¬ A) → leb t n ≡ false
    go true e z = absurd (z (d.0 e))
    go false e z = e

-- fewer than n members of a set are among those counted exactly if there are not n different ones
pub fewer_is : (n members c : ℕ) (C : ℕ → Type 0) → ((r : ℕ) → has members r ≡ true → r < 64) → ((r : ℕ) → (has c r ≡ true) ↔ C r)
    → (count 64 (inter members c) < n) ↔ (¬ Many n (λ r. (has members r ≡ true) × C r))
unfolding count
fewer_is n members c C low is =
    below_is_not n (count 64 (inter members c))
    (many_decides (has (inter members c)) 64 n (λ r (a, b). (low r a, inter_both members c r a ((is r).1 b)))
    (λ r i e. let w = inter-parts members c r e in (w.0, (is r).0 w.1)))
