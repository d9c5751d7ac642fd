-- Sets of roles, permissions or sessions, as numbers: k is a member of s where binary digit k of s is 1 (01: role r
-- counts 2 to the power r). Every definition computes on numerals.
-- Assumes nothing.
use Rattle.std.specs.Prelude.{Bool, true, false, ◌&&◌, not, List, [], ◌∷◌, ◌++◌, map, ℕ, zero, suc, ◌+◌, ◌/◌, ◌%◌, ◌^◌, eqb, get_or}
use Rattle.std.proofs.Math.Option.{Option}
use Rattle.std.specs.Int.Bits.{bit_and, bit_or}
use Rattle.model.specs.Tests.{pick, lowest, if_below}

-- k is a member of s
unfoldable pub has : ℕ → ℕ → Bool
has s k = eqb (s / 2 ^ k % 2) 1

abbrev pub union : ℕ → ℕ → ℕ
union s t = bit_or s t

abbrev pub inter : ℕ → ℕ → ℕ
inter s t = bit_and s t

-- s and the member k
abbrev pub with : ℕ → ℕ → ℕ
with s k = bit_or s (2 ^ k)

-- every member of s is one of t
unfoldable pub within : ℕ → ℕ → Bool
within s t = eqb (bit_and s t) s

-- some member of s is one of t
unfoldable pub meets : ℕ → ℕ → Bool
meets s t = not (eqb (bit_and s t) 0)

-- the numbers below d that pass the test
unfoldable pub set_of : (ℕ → Bool) → ℕ → ℕ
set_of f zero = 0
set_of f (suc d) = union (set_of f d) (pick (f d) (2 ^ d) 0)

-- 1 where the test holds
abbrev pub one : Bool → ℕ
one true = 1
one false = 0

-- how many numbers below d pass the test
unfoldable pub count_to : (ℕ → Bool) → ℕ → ℕ
count_to f zero = 0
count_to f (suc d) = one (f d) + count_to f d

-- the sum of f at the numbers below d
unfoldable pub sum_to : (ℕ → ℕ) → ℕ → ℕ
sum_to f zero = 0
sum_to f (suc d) = f d + sum_to f d

-- how many members below d the set s has
unfoldable pub count : ℕ → ℕ → ℕ
unfolding count_to
count d s = count_to (has s) d

-- the union of the sets `row k` of the members k of s below d
unfoldable pub union_to : (ℕ → ℕ) → ℕ → ℕ → ℕ
union_to row s zero = 0
union_to row s (suc d) = union (union_to row s d) (pick (has s d) (row d) 0)

-- the union of a table's rows at the members of s, of at most 64
unfoldable pub union_at : List ℕ → ℕ → ℕ
unfolding union_to
union_at rows s = union_to (λ r. get_or rows r 0) s 64

-- the lowest member of s, of at most 64, that passes the test
unfoldable pub lowest_in : (ℕ → Bool) → ℕ → Option ℕ
unfolding lowest if_below
lowest_in f s = if_below 64 (lowest (λ k. has s k && f k) 0 64)

-- the subsets of the members of s below d
unfoldable pub subsets : ℕ → ℕ → List ℕ
subsets zero s = 0 ∷ []
subsets (suc d) s = let t = subsets d s in pick (has s d) (t ++ map (λ x. x + 2 ^ d) t) t
