-- How many helpers and hard clauses an ask has, by the words that the code has.
-- Assumes nothing.
use Rattle.std.specs.Prelude.{List, ℕ, zero, suc, ◌+◌, ◌-◌, ◌*◌, get_or, length}
use Rattle.model.specs.Sets.{count}
use Rattle.model.specs.Clauses.{variables_in}

-- the sum of f 0, f 1, .. below n
unfoldable pub sum_to : (ℕ → ℕ) → ℕ → ℕ
sum_to f zero = 0
sum_to f (suc n) = sum_to f n + f n

-- how many clauses a row of n helpers has, and a counter of the members of a set up to n
unfoldable pub row_size : ℕ → ℕ
row_size n = 1 + (n + (n - 1))

unfoldable pub tallied : ℕ → ℕ → ℕ
tallied zero n = 0
tallied (suc m) n = 2 + m * row_size n

unfoldable pub counter_size : ℕ → ℕ → ℕ
counter_size n s = tallied (count 64 s) n

-- how many helpers and clauses the exclusions have
unfoldable pub helpers_to : List ℕ → List ℕ → ℕ → ℕ
helpers_to masks ns k = sum_to (λ i. length (variables_in (get_or masks i 0)) * get_or ns i 0) k

unfoldable pub counters_size : List ℕ → List ℕ → ℕ → ℕ
counters_size masks ns k = sum_to (λ i. counter_size (get_or ns i 0) (get_or masks i 0)) k

-- how many clauses say what roles carry
unfoldable pub carrying_size : ℕ → ℕ → (ℕ → ℕ) → ℕ
carrying_size R P row = sum_to (λ r. count P (row r)) R

-- how many hard clauses there are
unfoldable pub hard_size : ℕ → ℕ → ℕ → (ℕ → ℕ) → ℕ → ℕ → List ℕ → List ℕ → ℕ → ℕ
hard_size R P s row lower upper masks ns k =
    (R - count R s) + carrying_size R P row + P + count P lower + (P - count P upper) + counters_size masks ns k
