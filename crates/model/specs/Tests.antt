-- Choices by a test, and tests of the members of a list.
-- Assumes nothing.
use Rattle.std.specs.Prelude.{Bool, true, false, ◌&&◌, ◌||◌, List, [], ◌∷◌, ℕ, zero, suc, eqb, leb, ltb}
use Rattle.std.proofs.Math.Option.{Option, none, some}

-- the first where the test holds, else the second
unfoldable pub pick {ℓ} : {X : Type ℓ} → Bool → X → X → X
pick true x y = x
pick false x y = y

-- n is one of the numbers from a to b
abbrev pub between : ℕ → ℕ → ℕ → Bool
between a n b = leb a n && leb n b

-- by a first number, then by a second, then by the set number; the lower comes first
unfoldable pub earlier : ℕ → ℕ → ℕ → ℕ → ℕ → ℕ → Bool
earlier p q x y s t = ltb p q || (eqb p q && (ltb x y || (eqb x y && ltb s t)))

-- some member passes the test
unfoldable pub any {ℓ} : {A : Type ℓ} → (A → Bool) → List A → Bool
any f [] = false
any f (x ∷ xs) = f x || any f xs

-- every member passes the test
unfoldable pub all {ℓ} : {A : Type ℓ} → (A → Bool) → List A → Bool
all f [] = true
all f (x ∷ xs) = f x && all f xs

-- every number below n passes the test
unfoldable pub all_below : (ℕ → Bool) → ℕ → Bool
all_below f zero = true
all_below f (suc n) = f n && all_below f n

-- the first member that passes the test
unfoldable pub first {ℓ} : {A : Type ℓ} → (A → Bool) → List A → Option A
first f [] = none
first f (x ∷ xs) = elim (f x) [ true ↦ some x | false ↦ first f xs ]

-- the lowest of the d numbers from k on that passes the test, k + d where none does
unfoldable pub lowest : (ℕ → Bool) → ℕ → ℕ → ℕ
lowest f k zero = k
lowest f k (suc d) = elim (f k) [ true ↦ k | false ↦ lowest f (suc k) d ]

-- a number below the bound, none for another
unfoldable pub if_below : ℕ → ℕ → Option ℕ
if_below bound n = elim (ltb n bound) [ true ↦ some n | false ↦ none ]

-- the first where there is one, else the second
unfoldable pub or_else : {A : Type 0} → Option A → Option A → Option A
or_else none y = y
or_else (some x) y = some x

-- there is one
unfoldable pub is_some : Option ℕ → Bool
is_some none = false
is_some (some n) = true

-- two lists of numbers are the same
unfoldable pub same_list : List ℕ → List ℕ → Bool
same_list [] [] = true
same_list [] (y ∷ ys) = false
same_list (x ∷ xs) [] = false
same_list (x ∷ xs) (y ∷ ys) = eqb x y && same_list xs ys

-- two lists of such lists are
unfoldable pub same_lists : List (List ℕ) → List (List ℕ) → Bool
same_lists [] [] = true
same_lists [] (y ∷ ys) = false
same_lists (x ∷ xs) [] = false
same_lists (x ∷ xs) (y ∷ ys) = same_list x y && same_lists xs ys
