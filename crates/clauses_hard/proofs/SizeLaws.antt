-- How many hard clauses there are, part by part.
-- Assumes nothing.
use mathlib.Core.Path.{◌≡◌, refl, ap, ◌∙◌}
use mathlib.Core.Bool.{Bool, true, false, not}
use mathlib.Core.List.{List, [], ◌∷◌, ◌++◌}
use Prim.Native.Nat.{ℕ, zero, suc, ◌+◌, ◌-◌, ◌*◌, ◌≤◌, ◌<◌}
use native.Mathlib.Nat.{suc-mul, zero-mul, mul-le-mul}
use native.Mathlib.Numerals.{add-one}
use native.Mathlib.Omega.{arith}
use lib.ListN.{length, get_or, length-append}
use Rattle.model.specs.Sets.{has, one, count_to, count}
use Rattle.model.specs.Clauses.{list_to, when, must, must_not, gives, give, role_variable, keeping, adding, row, rows, counter, variables_in}
use Rattle.model_clauses.proofs.ClauseLaws.{length_singles}
use Rattle.clauses_hard.specs.Parts.{rows_of, barred, barring_to, carried_as, carrying_row, carrying_to, carried_one, carried_to, lower as lower_of, lower_bound_to, upper as upper_of, upper_bound_to, hard_by}
use Rattle.std.proofs.Common.{take, length-take-le}
use Rattle.std.proofs.lemmas.List.{get_or-map, get_or-take}
use Rattle.sets.specs.Words.{value}
use Rattle.query_reduced.specs.declared.reduced.ReducedExclusion.{ReducedExclusion}
use Rattle.query_reduced.specs.Met.{masks_of, ns_of}
use Rattle.clauses_counter.specs.Counters.{counters}
use Rattle.clauses_hard.specs.Sizes.{sum_to, row_size, tallied, counter_size, counters_size, carrying_size, hard_size}
use Rattle.clauses_counter.proofs.CounterLaws.{listed_length, variables_length}

-- ---- counts and sums by loops

pub count-start : (s : ℕ) → 0 ≡ count 0 s
unfolding count count_to
count-start s = refl

pub sum-start : (f : ℕ → ℕ) → 0 ≡ sum_to f 0
unfolding sum_to
sum-start f = refl

pub sum-next : (f : ℕ → ℕ) (i n t : ℕ) → n ≡ sum_to f i → t ≡ f i → n + t ≡ sum_to f (i + 1)
unfolding sum_to
sum-next f i n t e g = let h : i + 1 ≡ suc i = add-one i in rw h (omega arith)

pub sum_done : (f : ℕ → ℕ) (i n t : ℕ) → t ≡ sum_to f i → i ≤ n → n ≤ i → t ≡ sum_to f n
sum_done f i n t e g h = let q : i ≡ n = omega arith in rw q at e

-- a row among the first n is one of them all
pub row_taken : (rows : List (List ℕ)) (n k i t : ℕ) → n ≤ length rows → i < length (take n rows) → t ≡ count k (value (get_or (take n rows) i []))
    → t ≡ count k (rows_of rows i)
row_taken rows n k i t h l e =
    let g : i < n = omega (arith, l, length-take-le n rows h) in
    e ∙ ap (λ (x : List ℕ). count k (value x)) (get_or-take n rows i [] g)

-- the next of the exclusions counted, where those that are walked are these
pub exclusion_helpers : (xs ys : List ReducedExclusion) (i n t m : ℕ) (d : ReducedExclusion) → ys ≡ xs → i < length ys
    → n ≡ sum_to (λ k. length (variables_in (get_or (masks_of xs) k 0)) * get_or (ns_of xs) k 0) i → m ≡ (get_or ys i d).n
    → t ≡ length (variables_in (get_or ys i d).members) * m
    → n + t ≡ sum_to (λ k. length (variables_in (get_or (masks_of xs) k 0)) * get_or (ns_of xs) k 0) (i + 1)
exclusion_helpers xs ys i n t m d f h en em et =
    let l : i < length xs = rw f at h in
    sum-next (λ k. length (variables_in (get_or (masks_of xs) k 0)) * get_or (ns_of xs) k 0) i n t en
    (rw (get_or-map (λ (x : ReducedExclusion). x.members) xs i d 0 l, get_or-map (λ (x : ReducedExclusion). x.n) xs i d 0 l) (rw (em, f) at et))

pub exclusion_counter : (xs ys : List ReducedExclusion) (i n t m : ℕ) (d : ReducedExclusion) → ys ≡ xs → i < length ys
    → n ≡ sum_to (λ k. counter_size (get_or (ns_of xs) k 0) (get_or (masks_of xs) k 0)) i → m ≡ (get_or ys i d).n
    → t ≡ counter_size m (get_or ys i d).members
    → n + t ≡ sum_to (λ k. counter_size (get_or (ns_of xs) k 0) (get_or (masks_of xs) k 0)) (i + 1)
exclusion_counter xs ys i n t m d f h en em et =
    let l : i < length xs = rw f at h in
    sum-next (λ k. counter_size (get_or (ns_of xs) k 0) (get_or (masks_of xs) k 0)) i n t en
    (rw (get_or-map (λ (x : ReducedExclusion). x.members) xs i d 0 l, get_or-map (λ (x : ReducedExclusion). x.n) xs i d 0 l) (rw (em, f) at et))

-- ---- a counter

pub tally_none : (m n : ℕ) → m < 1 → 0 ≡ tallied m n
unfolding tallied
tally_none m n h = let e : m ≡ 0 = omega arith in rw e

pub tally_some : (m n r : ℕ) → 1 ≤ m → r ≡ row_size n → 2 + (m - 1) * r ≡ tallied m n
unfolding tallied
tally_some zero n r h e = absurd (omega arith)
tally_some (suc m) n r h e = let s : suc m - 1 ≡ m = omega arith in rw (s, e)

pub rows-small : (m r : ℕ) → m ≤ 64 → r ≤ 8589934590 → (m - 1) * r ≤ 549755813760
rows-small m r h g = mul-le-mul {n₁ = m - 1} {m₁ = r} {n₂ = 64} {m₂ = 8589934590} (omega arith) g

row-length : (n a x : ℕ) → length (row n a x) ≡ row_size n
unfolding row keeping adding row_size
row-length n a x =
    omega (
      arith,
      length-append (keeping n a) (adding n a x),
      length_singles n (λ j. gives (a + j + 1) (a + n + j + 1)),
      length_singles (n - 1) (λ j. give x (a + j + 1) (a + n + j + 2)),
    )

rows-length : (n a : ℕ) (xs : List ℕ) → length (rows n a xs) ≡ 1 + length xs * row_size n
unfolding rows
rows-length n a [] = omega (arith, zero-mul (row_size n))
rows-length n a (x ∷ xs) =
    length-append (row n a x) (rows n (a + n) xs)
    ∙ omega (arith, row-length n a x, rows-length n (a + n) xs, suc-mul (length xs) (row_size n))

tallied_is : (n a : ℕ) (xs : List ℕ) → length (counter n a xs) ≡ tallied (length xs) n
unfolding counter tallied
tallied_is n a [] = refl
tallied_is n a (x ∷ xs) = omega (arith, rows-length n a xs)

counter_is : (n a s : ℕ) → length (counter n a (variables_in s)) ≡ counter_size n s
unfolding counter_size
counter_is n a s = tallied_is n a (variables_in s) ∙ rw (variables_length s)

module _ (masks ns : List ℕ) where
  abbrev size_at : ℕ → ℕ
  size_at i = counter_size (get_or ns i 0) (get_or masks i 0)

  counters-first :
      (k i a : ℕ) → length (counters masks ns (suc k) i a)
      ≡ size_at i + length (counters masks ns k (suc i) (a + length (variables_in (get_or masks i 0)) * get_or ns i 0))
  unfolding counters
  counters-first k i a =
      length-append (counter (get_or ns i 0) a (variables_in (get_or masks i 0)))
      (counters masks ns k (suc i) (a + length (variables_in (get_or masks i 0)) * get_or ns i 0))
      ∙ rw (counter_is (get_or ns i 0) a (get_or masks i 0))

  sum_suc : (f : ℕ → ℕ) (n : ℕ) → sum_to f (suc n) ≡ sum_to f n + f n
  unfolding sum_to
  sum_suc f n = refl

  counters_from : (k i a : ℕ) → sum_to size_at i + length (counters masks ns k i a) ≡ sum_to size_at (i + k)
  unfolding counters
  counters_from zero i a = let e : i + 0 ≡ i = omega arith in rw e (omega arith)
  counters_from (suc k) i a =
      let e : i + suc k ≡ suc i + k = omega arith in
      let f = counters_from k (suc i) (a + length (variables_in (get_or masks i 0)) * get_or ns i 0) in
      rw e (omega (arith, f, counters-first k i a, sum_suc size_at i))

pub counters-length : (masks ns : List ℕ) (k a : ℕ) → length (counters masks ns k 0 a) ≡ counters_size masks ns k
unfolding counters_size sum_to
counters-length masks ns k a =
    let e : 0 + k ≡ k = omega arith in
    let f : 0 + length (counters masks ns k 0 a) ≡ sum_to (size_at masks ns) (0 + k) = counters_from masks ns k 0 a in
    omega (arith, f, ap (sum_to (size_at masks ns)) e)

-- ---- the other hard clauses

counted_not : (f : ℕ → Bool) (n : ℕ) → count_to (λ i. not (f i)) n + count_to f n ≡ n
unfolding count_to
counted_not f zero = refl
counted_not f (suc n) = go (f n) (counted_not f n)
  where
    go : (b : Bool) → count_to (λ i. not (f i)) n + count_to f n ≡ n → (one (not b) + count_to (λ i. not (f i)) n) + (one b + count_to f n) ≡ suc n
    go true e = omega arith
    go false e = omega arith

barring-length : (R s : ℕ) → length (barring_to R s) ≡ R - count R s
unfolding barring_to barred count
barring-length R s =
    listed_length (λ r. must_not (role_variable r)) R (λ r. not (has s r)) ∙ omega (arith, counted_not (has s) R)

carrying-length : (R P : ℕ) (row : ℕ → ℕ) (n : ℕ) → length (list_to n (λ r. carrying_row R P (row r) (role_variable r))) ≡ sum_to (λ r. count P (row r)) n
unfolding list_to sum_to carrying_row carried_as count
carrying-length R P row zero = refl
carrying-length R P row (suc n) =
    length-append (list_to n (λ r. list_to P (λ q. when (has (row r) q) (gives (r + 1) (R + q + 1)))))
    (list_to P (λ q. when (has (row n) q) (gives (n + 1) (R + q + 1))))
    ∙ omega (arith, carrying-length R P row n, listed_length (λ q. gives (n + 1) (R + q + 1)) P (has (row n)))

lowering_length : (R P s : ℕ) → length (lower_bound_to R P s) ≡ count P s
unfolding lower_bound_to lower_of count
lowering_length R P s = listed_length (λ q. must (R + q + 1)) P (has s)

uppering_length : (R P s : ℕ) → length (upper_bound_to R P s) ≡ P - count P s
unfolding upper_bound_to upper_of count
uppering_length R P s =
    listed_length (λ q. must_not (R + q + 1)) P (λ q. not (has s q)) ∙ omega (arith, counted_not (has s) P)

pub hard-length :
    (R P s : ℕ) (row : ℕ → ℕ) (lower upper : ℕ) (masks ns : List ℕ) (k : ℕ)
    → length (hard_by R P s row lower upper masks ns k) ≡ hard_size R P s row lower upper masks ns k
unfolding hard_by hard_size carrying_to carrying_size carried_to
hard-length R P s row lower upper masks ns k =
    let a = barring_to R s in
    let b = list_to R (λ r. carrying_row R P (row r) (r + 1)) in
    let c = list_to P (λ q. carried_one R row q ∷ []) in
    let d = lower_bound_to R P lower in
    let e = upper_bound_to R P upper in
    let f = counters masks ns k 0 (R + P) in
    length-append a (b ++ (c ++ ((d ++ e) ++ f)))
    ∙ omega (
      arith,
      length-append b (c ++ ((d ++ e) ++ f)),
      length-append c ((d ++ e) ++ f),
      length-append (d ++ e) f,
      length-append d e,
      barring-length R s,
      carrying-length R P row R,
      length_singles P (carried_one R row),
      lowering_length R P lower,
      uppering_length R P upper,
      counters-length masks ns k (R + P),
    )
