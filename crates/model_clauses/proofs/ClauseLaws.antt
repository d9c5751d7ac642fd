-- Laws of clauses: tests of lists that are put together, what a satisfied clause says, and the counter of an
-- exclusion: whoever satisfies its clauses has fewer than n of its variables true, and whoever has that can set the
-- helpers so that they are satisfied.
-- Assumes nothing.
use mathlib.Core.Path.{◌≡◌, refl, sym, ap, ap₂, ◌∙◌, subst}
use mathlib.Core.Logic.{◌⊎◌, inl, inr}
use mathlib.Core.Bool.{Bool, true, false, ◌||◌, not, true≢false}
use mathlib.Core.List.{List, [], ◌∷◌, ◌++◌}
use Prim.Native.Nat.{ℕ, zero, suc, ◌+◌, ◌-◌, ◌*◌, ◌≤◌, ◌<◌}
use native.Mathlib.Decide.{dec_lt}
use native.Mathlib.Omega.{arith}
use lib.Dec.{ltb}
use lib.ListN.{length, length-append}
use borrow.Author.Tests.{ltb-true, lt-ltb, le-ltb}
use Rattle.model.specs.Tests.{pick, any, all}
use Rattle.model.specs.Sets.{one}
use Rattle.model.specs.Ranges.{Each}
use Rattle.model.specs.Clauses.{must, must_not, gives, give, list_to, when, keeping, adding, row, rows, counter}
use Rattle.model_clauses.specs.Satisfied.{Valuation, makes, satisfies, satisfies_all}
use Rattle.model_laws.proofs.Bools.{and_l, and_r, both, or_l, or_r, or_cases, not_both}
use Rattle.model_laws.proofs.UnionLaws.{below_or_last}

-- ---- tests of lists
module _ {A : Type 0} (f : A → Bool) where
  pub all_join : (xs ys : List A) → all f xs ≡ true → all f ys ≡ true → all f (xs ++ ys) ≡ true
  unfolding all
  all_join [] ys a b = b
  all_join (x ∷ xs) ys a b = both (f x) (all f (xs ++ ys)) (and_l (f x) (all f xs) a) (all_join xs ys (and_r (f x) (all f xs) a) b)

  pub all_front : (xs ys : List A) → all f (xs ++ ys) ≡ true → all f xs ≡ true
  unfolding all
  all_front [] ys a = refl
  all_front (x ∷ xs) ys a = both (f x) (all f xs) (and_l (f x) (all f (xs ++ ys)) a) (all_front xs ys (and_r (f x) (all f (xs ++ ys)) a))

  pub all_back : (xs ys : List A) → all f (xs ++ ys) ≡ true → all f ys ≡ true
  unfolding all
  all_back [] ys a = a
  all_back (x ∷ xs) ys a = all_back xs ys (and_r (f x) (all f (xs ++ ys)) a)

  pub all_one : (x : A) → f x ≡ true → all f (x ∷ []) ≡ true
  unfolding all
  all_one x e = both (f x) true e refl

  pub one-all : (x : A) → all f (x ∷ []) ≡ true → f x ≡ true
  unfolding all
  one-all x e = and_l (f x) true e

  pub all-when : (b : Bool) (x : A) → (b ≡ true → f x ≡ true) → all f (when b x) ≡ true
  unfolding when all
  all-when true x h = both (f x) true (h refl) refl
  all-when false x h = refl

  pub when-all : (b : Bool) (x : A) → all f (when b x) ≡ true → b ≡ true → f x ≡ true
  unfolding when
  when-all true x h e = one-all x h
  when-all false x h e = absurd (true≢false (sym e))

  -- every number below n has a list that passes
  pub all-list_to : (n : ℕ) (g : ℕ → List A) → ((k : ℕ) → k < n → all f (g k) ≡ true) → all f (list_to n g) ≡ true
  unfolding list_to all
  all-list_to zero g h = refl
  all-list_to (suc n) g h = all_join (list_to n g) (g n) (all-list_to n g (λ k l. h k (omega arith))) (h n (omega arith))

  pub list_to-all : (n : ℕ) (g : ℕ → List A) → all f (list_to n g) ≡ true → (k : ℕ) → k < n → all f (g k) ≡ true
  unfolding list_to
  list_to-all zero g h k l = absurd (omega arith)
  list_to-all (suc n) g h k l =
      elim (below_or_last k n l) [
        | inl m ↦ list_to-all n g (all_front (list_to n g) (g n) h) k m
        | inr e ↦ ap (λ (i : ℕ). all f (g i)) e ∙ all_back (list_to n g) (g n) h
      ]

  -- some member passes
  pub any_front : (xs ys : List A) → any f xs ≡ true → any f (xs ++ ys) ≡ true
  unfolding any
  any_front [] ys e = absurd (true≢false (sym e))
  any_front (x ∷ xs) ys e =
      elim (or_cases (f x) (any f xs) e) [
        | inl h ↦ or_l (f x) (any f (xs ++ ys)) h
        | inr h ↦ or_r (f x) (any f (xs ++ ys)) (any_front xs ys h)
      ]

  pub any_back : (xs ys : List A) → any f ys ≡ true → any f (xs ++ ys) ≡ true
  unfolding any
  any_back [] ys e = e
  any_back (x ∷ xs) ys e = or_r (f x) (any f (xs ++ ys)) (any_back xs ys e)

  any-split : (xs ys : List A) → any f (xs ++ ys) ≡ true → (any f xs ≡ true) ⊎ (any f ys ≡ true)
  unfolding any
  any-split [] ys e = inr e
  any-split (x ∷ xs) ys e =
      elim (or_cases (f x) (any f (xs ++ ys)) e) [
        | inl h ↦ inl (or_l (f x) (any f xs) h)
        | inr h ↦ elim (any-split xs ys h) [ inl i ↦ inl (or_r (f x) (any f xs) i) | inr i ↦ inr i ]
      ]

  pub any-list_to : (n : ℕ) (g : ℕ → List A) (k : ℕ) → k < n → any f (g k) ≡ true → any f (list_to n g) ≡ true
  unfolding list_to
  any-list_to zero g k l e = absurd (omega arith)
  any-list_to (suc n) g k l e =
      elim (below_or_last k n l) [
        | inl m ↦ any_front (list_to n g) (g n) (any-list_to n g k m e)
        | inr q ↦ any_back (list_to n g) (g n) (subst (λ (i : ℕ). any f (g i) ≡ true) q e)
      ]

  pub list_to-any : (n : ℕ) (g : ℕ → List A) → any f (list_to n g) ≡ true → (k : ℕ) × (k < n) × (any f (g k) ≡ true)
  unfolding list_to any
  list_to-any zero g e = absurd (true≢false (sym e))
  list_to-any (suc n) g e =
      elim (any-split (list_to n g) (g n) e) [
        | inl h ↦ let w = list_to-any n g h in (w.0, omega arith, w.2)
        | inr h ↦ (n, omega arith, h)
      ]

  pub any-when : (b : Bool) (x : A) → b ≡ true → f x ≡ true → any f (when b x) ≡ true
  unfolding when any
  any-when true x e h = or_l (f x) false h
  any-when false x e h = absurd (true≢false (sym e))

  pub when-any : (b : Bool) (x : A) → any f (when b x) ≡ true → (b ≡ true) × (f x ≡ true)
  unfolding when any
  when-any true x e = (refl, elim (or_cases (f x) false e) [ inl h ↦ h | inr h ↦ absurd (true≢false (sym h)) ])
  when-any false x e = absurd (true≢false (sym e))

-- ---- what a satisfied clause says
unit : (a : Bool) → (a || false) ≡ true → a ≡ true
unit true e = refl
unit false e = e

unit_not : (a : Bool) → (not a || false) ≡ true → a ≡ false
unit_not true e = sym e
unit_not false e = refl

imp : (a b : Bool) → (not a || (b || false)) ≡ true → a ≡ true → b ≡ true
imp true b e h = unit b e
imp false b e h = absurd (true≢false (sym h))

is_imp : (a b : Bool) → (a ≡ true → b ≡ true) → (not a || (b || false)) ≡ true
is_imp true b h = or_l b false (h refl)
is_imp false b h = refl

imp₂ : (a b c : Bool) → (not a || (not b || (c || false))) ≡ true → a ≡ true → b ≡ true → c ≡ true
imp₂ true b c e h k = imp b c e k
imp₂ false b c e h k = absurd (true≢false (sym h))

is_imp₂ : (a b c : Bool) → (a ≡ true → b ≡ true → c ≡ true) → (not a || (not b || (c || false))) ≡ true
is_imp₂ true b c h = is_imp b c (h refl)
is_imp₂ false b c h = refl

module _ (v : Valuation) where
  pub must-says : (x : ℕ) → satisfies v (must x) ≡ true → v x ≡ true
  unfolding satisfies any makes
  must-says x e = unit (v x) e

  pub says-must : (x : ℕ) → v x ≡ true → satisfies v (must x) ≡ true
  unfolding satisfies any makes
  says-must x e = or_l (v x) false e

  pub must_not-says : (x : ℕ) → satisfies v (must_not x) ≡ true → v x ≡ false
  unfolding satisfies any makes
  must_not-says x e = unit_not (v x) e

  pub says-must_not : (x : ℕ) → v x ≡ false → satisfies v (must_not x) ≡ true
  unfolding satisfies any makes
  says-must_not x e = rw e

  pub gives-says : (x y : ℕ) → satisfies v (gives x y) ≡ true → v x ≡ true → v y ≡ true
  unfolding satisfies any makes
  gives-says x y = imp (v x) (v y)

  pub says-gives : (x y : ℕ) → (v x ≡ true → v y ≡ true) → satisfies v (gives x y) ≡ true
  unfolding satisfies any makes
  says-gives x y = is_imp (v x) (v y)

  pub give-says : (x y z : ℕ) → satisfies v (give x y z) ≡ true → v x ≡ true → v y ≡ true → v z ≡ true
  unfolding satisfies any makes
  give-says x y z = imp₂ (v x) (v y) (v z)

  pub says-give : (x y z : ℕ) → (v x ≡ true → v y ≡ true → v z ≡ true) → satisfies v (give x y z) ≡ true
  unfolding satisfies any makes
  says-give x y z = is_imp₂ (v x) (v y) (v z)

-- ---- how many clauses

-- lists by number are the same where each part is
pub list_to_same : {A : Type 0} (n : ℕ) (f g : ℕ → List A) → ((i : ℕ) → i < n → f i ≡ g i) → list_to n f ≡ list_to n g
unfolding list_to
list_to_same zero f g h = refl
list_to_same {A} (suc n) f g h = ap₂ (λ (x y : List A). x ++ y) (list_to_same n f g (λ i l. h i (omega arith))) (h n (omega arith))

pub length_singles : {A : Type 0} (n : ℕ) (f : ℕ → A) → length (list_to n (λ j. f j ∷ [])) ≡ n
unfolding list_to
length_singles zero f = refl
length_singles (suc n) f = length-append (list_to n (λ j. f j ∷ [])) (f n ∷ []) ∙ omega (arith, length_singles n f)

module _ (n N : ℕ) (small : n ≤ N) (positive : 1 ≤ N) where
  -- a row has at most 2n clauses, where n is at least 1
  row-length : (a x : ℕ) → length (row n a x) ≤ 2 * N
  unfolding row keeping adding
  row-length a x =
      omega (
        arith,
        length-append (keeping n a) (adding n a x),
        length_singles n (λ j. gives (a + j + 1) (a + n + j + 1)),
        length_singles (n - 1) (λ j. give x (a + j + 1) (a + n + j + 2)),
      )

  rows-length : (a : ℕ) (xs : List ℕ) → length (rows n a xs) ≤ 1 + 2 * (length xs * N)
  unfolding rows
  rows-length a [] = omega arith
  rows-length a (x ∷ xs) =
      omega (arith, length-append (row n a x) (rows n (a + n) xs), row-length a x, rows-length (a + n) xs)

  pub counter-length : (a : ℕ) (xs : List ℕ) → length (counter n a xs) ≤ 2 * (length xs * N)
  unfolding counter
  counter-length a [] = omega arith
  counter-length a (x ∷ xs) = omega (arith, rows-length a xs)

-- ---- the counter

-- how many of the variables are true
unfoldable pub chosen : Valuation → List ℕ → ℕ
chosen v [] = 0
chosen v (x ∷ xs) = one (v x) + chosen v xs

module _ (v : Valuation) (n : ℕ) (positive : 1 ≤ n) where
  -- the row behind a says at least c: each of its helpers up to c is true
  abbrev Tells : ℕ → ℕ → Type 0
  Tells a c = (j : ℕ) → j < n → j < c → v (a + j + 1) ≡ true

  keeps : (a : ℕ) → all (satisfies v) (keeping n a) ≡ true → (i : ℕ) → i < n → v (a + i + 1) ≡ true → v (a + n + i + 1) ≡ true
  unfolding keeping
  keeps a e i l =
      gives-says v (a + i + 1) (a + n + i + 1) (one-all (satisfies v) _ (list_to-all (satisfies v) n (λ j. gives (a + j + 1) (a + n + j + 1) ∷ []) e i l))

  adds : (a x : ℕ) → all (satisfies v) (adding n a x) ≡ true
      → (i : ℕ) → i < n - 1 → v x ≡ true → v (a + i + 1) ≡ true → v (a + n + i + 2) ≡ true
  unfolding adding
  adds a x e i l =
      give-says v x (a + i + 1) (a + n + i + 2)
      (one-all (satisfies v) _ (list_to-all (satisfies v) (n - 1) (λ j. give x (a + j + 1) (a + n + j + 2) ∷ []) e i l))

  -- the next row says one more where its variable is true
  row-tells : (a x c : ℕ) → satisfies_all v (row n a x) ≡ true → Tells a c → Tells (a + n) (c + one (v x))
  unfolding satisfies_all row all
  row-tells a x c e h j below less = go (dec_lt j c) (v x) refl
    where
      rest : all (satisfies v) (keeping n a ++ adding n a x) ≡ true
      rest = and_r (satisfies v (gives x (a + n + 1))) (all (satisfies v) (keeping n a ++ adding n a x)) e

      first : v x ≡ true → v (a + n + 1) ≡ true
      first = gives-says v x (a + n + 1) (and_l (satisfies v (gives x (a + n + 1))) (all (satisfies v) (keeping n a ++ adding n a x)) e)

      kept : (i : ℕ) → i < n → v (a + i + 1) ≡ true → v (a + n + i + 1) ≡ true
      kept = keeps a (all_front (satisfies v) (keeping n a) (adding n a x) rest)

      more : (i : ℕ) → i < n - 1 → v x ≡ true → v (a + i + 1) ≡ true → v (a + n + i + 2) ≡ true
      more = adds a x (all_back (satisfies v) (keeping n a) (adding n a x) rest)

      last : v x ≡ true → ¬ (j < c) → (i : ℕ) → j ≡ i → v (a + n + j + 1) ≡ true
      last q l zero z = subst (λ (y : ℕ). v y ≡ true) (omega arith) (first q)
      last q l (suc i) z =
          subst (λ (y : ℕ). v y ≡ true) (omega arith) (more i (omega arith) q (h i (omega arith) (omega (arith, ap one q))))

      go : Dec (j < c) → (b : Bool) → v x ≡ b → v (a + n + j + 1) ≡ true
      go (yes l) b q = kept j below (h j below l)
      go (no l) false q = absurd (omega (arith, ap one q))
      go (no l) true q = last q l j refl

  rows-count : (a c : ℕ) (xs : List ℕ) → satisfies_all v (rows n a xs) ≡ true → Tells a c → c + chosen v xs < n
  unfolding satisfies_all rows chosen
  rows-count a c [] e h = go (dec_lt c n)
    where
      go : Dec (c < n) → c + 0 < n
      go (yes l) = omega arith
      go (no l) =
          not_both (v (a + n)) (subst (λ (y : ℕ). v y ≡ true) (omega arith) (h (n - 1) (omega arith) (omega arith)))
          (must_not-says v (a + n) (one-all (satisfies v) (must_not (a + n)) e))
  rows-count a c (x ∷ xs) e h =
      omega (
        arith,
        rows-count (a + n) (c + one (v x)) xs (all_back (satisfies v) (row n a x) (rows n (a + n) xs) e)
            (row-tells a x c (all_front (satisfies v) (row n a x) (rows n (a + n) xs) e) h),
      )

  -- satisfied, fewer than n of the variables are true
  pub counter-counts : (a : ℕ) (xs : List ℕ) → satisfies_all v (counter n a xs) ≡ true → chosen v xs < n
  unfolding satisfies_all counter chosen all
  counter-counts a [] e = positive
  counter-counts a (x ∷ xs) e =
      rows-count a (one (v x)) xs (and_r (satisfies v (gives x (a + 1))) (all (satisfies v) (rows n a xs)) e) (first (v x) refl)
    where
      first : (b : Bool) → v x ≡ b → Tells a (one (v x))
      first true q j l m =
          subst (λ (y : ℕ). v y ≡ true) (omega (arith, ap one q))
          (gives-says v x (a + 1) (and_l (satisfies v (gives x (a + 1))) (all (satisfies v) (rows n a xs)) e) q)
      first false q j l m = absurd (omega (arith, ap one q))

-- ---- the counter satisfied

-- the row behind a says exactly c
abbrev Exact : Valuation → ℕ → ℕ → ℕ → Type 0
Exact v n a c = (j : ℕ) → j < n → v (a + j + 1) ≡ ltb j c

-- the row behind a says exactly c, and each further one what its variable adds to that
abbrev pub Counts : Valuation → ℕ → ℕ → ℕ → List ℕ → Type 0
Counts v n a c [] = Exact v n a c
Counts v n a c (x ∷ xs) = Exact v n a c × Counts v n (a + n) (c + one (v x)) xs

-- the helpers of a whole counter say what they are to say
abbrev pub Counted : Valuation → ℕ → ℕ → List ℕ → Type 0
Counted v n a [] = Unit {0}
Counted v n a (x ∷ xs) = Counts v n a (one (v x)) xs

counts-first : (v : Valuation) (n a c : ℕ) (xs : List ℕ) → Counts v n a c xs → Exact v n a c
counts-first v n a c [] h = h
counts-first v n a c (x ∷ xs) h = h.0

module _ (v : Valuation) (n : ℕ) (positive : 1 ≤ n) where
  -- a row that says one more than the row before where its variable is true
  exact_row : (a x c : ℕ) → Exact v n a c → Exact v n (a + n) (c + one (v x)) → satisfies_all v (row n a x) ≡ true
  unfolding satisfies_all row keeping adding all
  exact_row a x c e f =
      both (satisfies v (gives x (a + n + 1))) _
      (says-gives v x (a + n + 1) first)
      (all_join (satisfies v) (keeping n a) (adding n a x)
      (all-list_to (satisfies v) n _ (λ j l. all_one (satisfies v) _ (says-gives v (a + j + 1) (a + n + j + 1) (kept j l))))
      (all-list_to (satisfies v) (n - 1) _ (λ j l. all_one (satisfies v) _ (says-give v x (a + j + 1) (a + n + j + 2) (more j l)))))
    where
      first : v x ≡ true → v (a + n + 1) ≡ true
      first q =
          subst (λ (y : ℕ). v y ≡ true) (omega arith) (f 0 positive ∙ lt-ltb 0 (c + one (v x)) (omega (arith, ap one q)))

      kept : (j : ℕ) → j < n → v (a + j + 1) ≡ true → v (a + n + j + 1) ≡ true
      kept j l q = f j l ∙ lt-ltb j (c + one (v x)) (omega (arith, ltb-true j c (sym (e j l) ∙ q)))

      more : (j : ℕ) → j < n - 1 → v x ≡ true → v (a + j + 1) ≡ true → v (a + n + j + 2) ≡ true
      more j l p q =
          subst (λ (y : ℕ). v y ≡ true) (omega arith)
          (f (j + 1) (omega arith) ∙ lt-ltb (j + 1) (c + one (v x)) (omega (arith, ap one p, ltb-true j c (sym (e j (omega arith)) ∙ q))))

  counts-rows : (a c : ℕ) (xs : List ℕ) → Counts v n a c xs → c + chosen v xs < n → satisfies_all v (rows n a xs) ≡ true
  unfolding satisfies_all rows chosen
  counts-rows a c [] h l =
      all_one (satisfies v) (must_not (a + n))
      (says-must_not v (a + n) (subst (λ (y : ℕ). v y ≡ false) (omega arith) (h (n - 1) (omega arith) ∙ le-ltb (n - 1) c (omega arith))))
  counts-rows a c (x ∷ xs) h l =
      all_join (satisfies v) (row n a x) (rows n (a + n) xs)
      (exact_row a x c h.0 (counts-first v n (a + n) (c + one (v x)) xs h.1))
      (counts-rows (a + n) (c + one (v x)) xs h.1 (omega arith))

  -- the helpers say what they are to say, and fewer than n of the variables are true
  pub counted-counter : (a : ℕ) (xs : List ℕ) → Counted v n a xs → chosen v xs < n → satisfies_all v (counter n a xs) ≡ true
  unfolding satisfies_all counter chosen all
  counted-counter a [] h l = refl
  counted-counter a (x ∷ xs) h l =
      both (satisfies v (gives x (a + 1))) (all (satisfies v) (rows n a xs))
      (says-gives v x (a + 1) (λ q. subst (λ (y : ℕ). v y ≡ true) (omega arith)
      (counts-first v n a (one (v x)) xs h 0 positive ∙ lt-ltb 0 (one (v x)) (omega (arith, ap one q)))))
      (counts-rows a (one (v x)) xs h l)

-- ---- the helpers set

-- w is v up to variable a
abbrev pub SameTo : ℕ → Valuation → Valuation → Type 0
SameTo a v w = (y : ℕ) → y ≤ a → w y ≡ v y

abbrev pub UpTo : ℕ → List ℕ → Type 0
UpTo a xs = Each (λ (x : ℕ). x ≤ a) xs

pub up_more : (a b : ℕ) → a ≤ b → (xs : List ℕ) → UpTo a xs → UpTo b xs
up_more a b l [] h = tt
up_more a b l (x ∷ xs) h = (let q = h.0 in omega arith, up_more a b l xs h.1)

pub chosen_same : (a : ℕ) (v w : Valuation) → SameTo a v w → (xs : List ℕ) → UpTo a xs → chosen w xs ≡ chosen v xs
unfolding chosen
chosen_same a v w s [] h = refl
chosen_same a v w s (x ∷ xs) h = ap₂ (λ (b : Bool) (m : ℕ). one b + m) (s x h.0) (chosen_same a v w s xs h.1)

counts_same : (v w : Valuation) (n a c : ℕ) (xs : List ℕ) → UpTo a xs → SameTo (a + n + length xs * n) v w → Counts v n a c xs → Counts w n a c xs
counts_same v w n a c [] u s h = λ j l. s (a + j + 1) (omega arith) ∙ h j l
counts_same v w n a c (x ∷ xs) u s h = (
  λ j l. s (a + j + 1) (omega arith) ∙ h.0 j l,
  subst (λ (b : Bool). Counts w n (a + n) (c + one b) xs) (sym (s x (let q = u.0 in omega arith)))
      (counts_same v w n (a + n) (c + one (v x)) xs (up_more a (a + n) (omega arith) xs u.1) (λ y l. s y (omega arith)) h.1),
)

pub counted_same : (v w : Valuation) (n a : ℕ) (xs : List ℕ) → UpTo a xs → SameTo (a + length xs * n) v w → Counted v n a xs → Counted w n a xs
counted_same v w n a [] u s h = tt
counted_same v w n a (x ∷ xs) u s h =
    subst (λ (b : Bool). Counts w n a (one b) xs) (sym (s x (let q = u.0 in omega arith)))
    (counts_same v w n a (one (v x)) xs u.1 (λ y l. s y (omega arith)) h)

-- v with every helper behind a saying c
saying : Valuation → ℕ → ℕ → Valuation
saying v a c y = pick (ltb a y) (ltb (y - (a + 1)) c) (v y)

saying_same : (v : Valuation) (a c : ℕ) → SameTo a v (saying v a c)
unfolding saying pick
saying_same v a c y l = rw (le-ltb a y l)

saying_exact : (v : Valuation) (n a c : ℕ) → Exact (saying v a c) n a c
unfolding saying pick
saying_exact v n a c j l = rw (lt-ltb a (a + j + 1) (omega arith)) (ap (λ (i : ℕ). ltb i c) (omega arith))

-- the helpers of the rows from the one behind a on set, where that row says c
fill_rows : Valuation → ℕ → ℕ → ℕ → List ℕ → Valuation
fill_rows v n a c [] = saying v a c
fill_rows v n a c (x ∷ xs) = fill_rows (saying v a c) n (a + n) (c + one (v x)) xs

fill_rows_same : (v : Valuation) (n a c : ℕ) (xs : List ℕ) → SameTo a v (fill_rows v n a c xs)
unfolding fill_rows
fill_rows_same v n a c [] y l = saying_same v a c y l
fill_rows_same v n a c (x ∷ xs) y l =
    fill_rows_same (saying v a c) n (a + n) (c + one (v x)) xs y (omega arith) ∙ saying_same v a c y l

fill_rows_counts : (v : Valuation) (n a c : ℕ) (xs : List ℕ) → UpTo a xs → Counts (fill_rows v n a c xs) n a c xs
unfolding fill_rows
fill_rows_counts v n a c [] u = saying_exact v n a c
fill_rows_counts v n a c (x ∷ xs) u = (
  λ j l. fill_rows_same (saying v a c) n (a + n) (c + one (v x)) xs (a + j + 1) (omega arith) ∙ saying_exact v n a c j l,
  subst (λ (b : Bool). Counts (fill_rows v n a c (x ∷ xs)) n (a + n) (c + one b) xs) (sym (fill_rows_same v n a c (x ∷ xs) x u.0))
      (fill_rows_counts (saying v a c) n (a + n) (c + one (v x)) xs (up_more a (a + n) (omega arith) xs u.1)),
)

-- v with the helpers of a whole counter set
pub filled : Valuation → ℕ → ℕ → List ℕ → Valuation
filled v n a [] = v
filled v n a (x ∷ xs) = fill_rows v n a (one (v x)) xs

pub filled_same : (v : Valuation) (n a : ℕ) (xs : List ℕ) → SameTo a v (filled v n a xs)
unfolding filled
filled_same v n a [] y l = refl
filled_same v n a (x ∷ xs) y l = fill_rows_same v n a (one (v x)) xs y l

pub filled_counted : (v : Valuation) (n a : ℕ) (xs : List ℕ) → UpTo a xs → Counted (filled v n a xs) n a xs
unfolding filled
filled_counted v n a [] u = tt
filled_counted v n a (x ∷ xs) u =
    subst (λ (b : Bool). Counts (fill_rows v n a (one (v x)) xs) n a (one b) xs) (sym (fill_rows_same v n a (one (v x)) xs x u.0))
    (fill_rows_counts v n a (one (v x)) xs u.1)
