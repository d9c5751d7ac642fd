-- The members of a set as variables, and the rows of a counter.
-- Assumes nothing.
use mathlib.Core.Path.{◌≡◌, refl, sym, ap, ◌∙◌}
use mathlib.Core.Bool.{Bool, true, false}
use mathlib.Core.List.{List, [], ◌∷◌, ◌++◌}
use Prim.Native.Nat.{ℕ, zero, suc, ◌+◌, ◌-◌, ◌*◌, ◌^◌, ◌≤◌, ◌<◌}
use native.Mathlib.Nat.{mul-le-mul, sub-zero}
use native.Mathlib.Numerals.{add-one}
use native.Mathlib.Omega.{arith}
use lib.Dec.{eqb}
use lib.ListN.{length, get_or, length-append}
use borrow.Table.Steps.{cases}
use borrow.Author.Tests.{eqb-true, eqb-false}
use Rattle.model.specs.Sets.{has, one, count_to, count}
use Rattle.model.specs.Clauses.{Clause, list_to, when, must_not, gives, role_variable, row, rows, counter, keeping, adding, variables_in}
use Rattle.model_laws.proofs.Ranks.{count_most}
use Rattle.model_laws.proofs.SetLaws.{has_beyond}
use Rattle.sets.specs.Members.{without, Lowest}
use Rattle.sets.proofs.Taken.{without_gone, without_other, count-without, lowest_least}
use Rattle.clauses_lines.specs.Lines.{line_of, lines_of}
use Rattle.std.proofs.lemmas.List.{get_or-map}
use Rattle.query_reduced.specs.declared.reduced.ReducedExclusion.{ReducedExclusion}
use Rattle.query_reduced.specs.Met.{masks_of, ns_of}
use Rattle.clauses_counter.specs.Counters.{counters}
use Rattle.clauses_bytes.specs.Putting.{Puts}
use Rattle.clauses_bytes.proofs.WritingLaws.{put_nothing, put2, put3, Along, along_starts, along_goes}
use Rattle.clauses_lines.proofs.LineLaws.{lines-joined, lines-one}

-- ---- members, lowest first

module _ {A : Type 0} (g : ℕ → A) where
  -- nothing below n
  pub listed_none : (n : ℕ) (f : ℕ → Bool) → ((i : ℕ) → i < n → f i ≡ false) → list_to n (λ i. when (f i) (g i)) ≡ []
  unfolding list_to when
  listed_none zero f h = refl
  listed_none (suc n) f h = rw (h n (omega arith), listed_none n f (λ i l. h i (omega arith)))

  -- the first of those that pass, and the others
  pub listed_first :
      (n k : ℕ) (f h : ℕ → Bool) → k < n → f k ≡ true → ((i : ℕ) → i < k → f i ≡ false) → h k ≡ false → ((i : ℕ) → (i ≡ k → ⊥) → h i ≡ f i)
      → list_to n (λ i. when (f i) (g i)) ≡ g k ∷ list_to n (λ i. when (h i) (g i))
  unfolding list_to when
  listed_first zero k f h l t below gone same = absurd (omega arith)
  listed_first (suc n) k f h l t below gone same = go (eqb k n) refl (λ q. listed_first n k f h q t below gone same)
    where
      go : (b : Bool) → eqb k n ≡ b → (k < n → list_to n (λ i. when (f i) (g i)) ≡ g k ∷ list_to n (λ i. when (h i) (g i)))
          → list_to (suc n) (λ i. when (f i) (g i)) ≡ g k ∷ list_to (suc n) (λ i. when (h i) (g i))
      go true e ih =
          let q : k ≡ n = eqb-true k n e in
          let fn : f n ≡ true = rw q at t in
          let hn : h n ≡ false = rw q at gone in
          let f0 : list_to n (λ i. when (f i) (g i)) ≡ [] = listed_none n f (λ i o. below i (omega arith)) in
          let h0 : list_to n (λ i. when (h i) (g i)) ≡ [] = listed_none n h (λ i o. same i (λ z. omega arith) ∙ below i (omega arith)) in
          rw (f0, h0, fn, hn, q)
      go false e ih = let d = eqb-false k n e in rw (ih (omega arith), same n (λ z. d (sym z)))

  pub listed_length : (n : ℕ) (f : ℕ → Bool) → length (list_to n (λ i. when (f i) (g i))) ≡ count_to f n
  unfolding list_to when count_to
  listed_length zero f = refl
  listed_length (suc n) f = length-append (list_to n (λ i. when (f i) (g i))) (when (f n) (g n)) ∙ go (f n) (listed_length n f)
    where
      go : (b : Bool) → length (list_to n (λ i. when (f i) (g i))) ≡ count_to f n
          → length (list_to n (λ i. when (f i) (g i))) + length (when b (g n)) ≡ one b + count_to f n
      go true e = omega arith
      go false e = omega arith

pub variables_none : (s : ℕ) → s ≡ 0 → variables_in s ≡ []
unfolding variables_in
variables_none s e = rw e (listed_none role_variable 64 (has 0) (λ i l. has_beyond 0 0 i (omega arith) (omega arith)))

-- no member is below the lowest
pub none_below : (s k i : ℕ) → Lowest s k → i < k → has s i ≡ false
none_below s k i low l = cases (has s i) (λ e. absurd (omega (arith, lowest_least s k i low e))) (λ e. e)

pub variables_first : (s k : ℕ) → Lowest s k → variables_in s ≡ (k + 1) ∷ variables_in (without s k)
unfolding variables_in
variables_first s k low =
    listed_first role_variable 64 k (has s) (has (without s k)) low.small low.member (λ i l. none_below s k i low l) (without_gone s k low.member)
    (λ i n. without_other s k i low.member n)

pub variables_length : (s : ℕ) → length (variables_in s) ≡ count 64 s
unfolding variables_in count
variables_length s = listed_length role_variable 64 (has s)

pub count-le : (s : ℕ) → count 64 s ≤ 64
unfolding count
count-le s = count_most (has s) 64

-- ---- rows of helpers

lines_cons : (w : ℕ) (c : Clause) (cs : List Clause) → lines_of w (c ∷ cs) ≡ line_of w c ++ lines_of w cs
unfolding lines_of
lines_cons w c cs = refl

row_text :
    (w n a x : ℕ) → line_of w (gives x (a + n + 1)) ++ (lines_of w (keeping n a) ++ lines_of w (adding n a x)) ≡ lines_of w (row n a x)
unfolding row
row_text w n a x = sym (lines_cons w (gives x (a + n + 1)) (keeping n a ++ adding n a x) ∙ rw (lines-joined w (keeping n a) (adding n a x)))

pub row_put : {l m k b : List ℕ} {at next o r : ℕ} (w n a x : ℕ) → Puts k o (lines_of w (adding n a x)) b r → Puts m next (lines_of w (keeping n a)) k o
    → Puts l at (line_of w (gives x (a + n + 1))) m next → Puts l at (lines_of w (row n a x)) b r
row_put w n a x s q p = put3 s q p (row_text w n a x)

module _ (w n a s k less : ℕ) (low : Lowest s k) (e : less ≡ without s k) where
  rows-first :
      lines_of w (rows n a (variables_in s)) ≡ lines_of w (row n a (k + 1)) ++ lines_of w (rows n (a + n) (variables_in less))
  unfolding rows
  rows-first = rw (e, variables_first s k low, rows) (lines-joined w (row n a (k + 1)) (rows n (a + n) (variables_in (without s k))))

  counter_text : line_of w (gives (k + 1) (a + 1)) ++ lines_of w (rows n a (variables_in less)) ≡ lines_of w (counter n a (variables_in s))
  unfolding counter
  counter_text = rw (e, variables_first s k low, counter) (sym (lines_cons w (gives (k + 1) (a + 1)) (rows n a (variables_in (without s k)))))

  -- the row of the lowest member is put, and those of the others are left
  pub rows_goes : {l m b whole : List ℕ} {at next r : ℕ} → Puts m next (lines_of w (row n a (k + 1))) b r
      → Along l at whole (lines_of w (rows n a (variables_in s))) m next → Along l at whole (lines_of w (rows n (a + n) (variables_in less))) b r
  rows_goes p s = along_goes rows-first s p

  pub counter_put : {l m b : List ℕ} {at next r : ℕ} → Puts m next (lines_of w (rows n a (variables_in less))) b r
      → Puts l at (line_of w (gives (k + 1) (a + 1))) m next → Puts l at (lines_of w (counter n a (variables_in s))) b r
  counter_put q p = put2 q p counter_text

pub rows_none : (w n a s : ℕ) → s ≡ 0 → line_of w (must_not (a + n)) ≡ lines_of w (rows n a (variables_in s))
unfolding rows
rows_none w n a s e = rw (variables_none s e, rows) (lines-one w (must_not (a + n)))

pub counter_none : (l : List ℕ) (at w n a s : ℕ) → s ≡ 0 → Puts l at (lines_of w (counter n a (variables_in s))) l at
unfolding counter lines_of
counter_none l at w n a s e = rw (variables_none s e, counter) (put_nothing l at)

-- what is left to number falls with each member: at most so many helpers for each
pub behind-next : (n a b s k less : ℕ) → n ≤ 4294967295 → s < 2 ^ 64 → Lowest s k → less ≡ without s k → b + 4294967295 * count 64 s ≤ a + 274877906880
    → b + n + 4294967295 * count 64 less ≤ a + 274877906880
behind-next n a b s k less h f low e i = omega (arith, ap (count 64) e, count-without 64 s k f low.small low.member)

-- there is a number for each helper of the members
pub rows_fit : (a s : ℕ) → a + 4294967295 * count 64 s ≤ a + 274877906880
rows_fit a s = omega (arith, count-le s)

module _ (s m n : ℕ) (e : m ≡ count 64 s) where
  pub helpers_are : m * n ≡ length (variables_in s) * n
  helpers_are = ap (λ (x : ℕ). x * n) (e ∙ sym (variables_length s))

  pub helpers_small : n ≤ 4294967295 → m * n ≤ 274877906880
  helpers_small h = mul-le-mul {n₁ = m} {m₁ = n} {n₂ = 64} {m₂ = 4294967295} (omega (arith, count-le s)) h

-- ---- the exclusions from one on

counters-next :
    (w : ℕ) (masks ns : List ℕ) (count i a n more : ℕ) → i < count → n ≡ get_or ns i 0 → more ≡ length (variables_in (get_or masks i 0)) * n
    → lines_of w (counters masks ns (count - i) i a)
    ≡ lines_of w (counter n a (variables_in (get_or masks i 0))) ++ lines_of w (counters masks ns (count - (i + 1)) (i + 1) (a + more))
unfolding counters
counters-next w masks ns count i a n more h en e =
    let s : count - i ≡ suc (count - (i + 1)) = omega arith in
    let t : i + 1 ≡ suc i = add-one i in
    rw (s, t, e, en, counters)
    (lines-joined w (counter (get_or ns i 0) a (variables_in (get_or masks i 0)))
    (counters masks ns (count - suc i) (suc i) (a + length (variables_in (get_or masks i 0)) * get_or ns i 0)))

-- the counter of exclusion i is put, and those behind it are left
pub counters_goes :
    {l m b whole : List ℕ} {at next r : ℕ} (w : ℕ) (masks ns : List ℕ) (count i a n more : ℕ)
    → Puts m next (lines_of w (counter n a (variables_in (get_or masks i 0)))) b r → Along l at whole (lines_of w (counters masks ns (count - i) i a)) m next
    → i < count → n ≡ get_or ns i 0 → more ≡ length (variables_in (get_or masks i 0)) * n
    → Along l at whole (lines_of w (counters masks ns (count - (i + 1)) (i + 1) (a + more))) b r
counters_goes w masks ns count i a n more p s h en e = along_goes (counters-next w masks ns count i a n more h en e) s p

-- the same of the exclusions as a list, where those that are walked are these
pub exclusion_goes :
    {l m b whole : List ℕ} {at next r : ℕ} (w : ℕ) (xs ys : List ReducedExclusion) (i a n more : ℕ) (d : ReducedExclusion) → ys ≡ xs
    → Puts m next (lines_of w (counter n a (variables_in (get_or ys i d).members))) b r
    → Along l at whole (lines_of w (counters (masks_of xs) (ns_of xs) (length xs - i) i a)) m next
    → i < length ys → n ≡ (get_or ys i d).n → more ≡ length (variables_in (get_or ys i d).members) * n
    → Along l at whole (lines_of w (counters (masks_of xs) (ns_of xs) (length xs - (i + 1)) (i + 1) (a + more))) b r
exclusion_goes w xs ys i a n more d f p s h en e =
    let t : i < length xs = rw f at h in
    let em : get_or (masks_of xs) i 0 ≡ (get_or ys i d).members = get_or-map (λ (x : ReducedExclusion). x.members) xs i d 0 t ∙ rw f in
    let ens : get_or (ns_of xs) i 0 ≡ (get_or ys i d).n = get_or-map (λ (x : ReducedExclusion). x.n) xs i d 0 t ∙ rw f in
    counters_goes w (masks_of xs) (ns_of xs) (length xs) i a n more (rw em p) s t (en ∙ sym ens) (rw em e)

pub counters-start : (l : List ℕ) (at w : ℕ) (masks ns : List ℕ) (count a : ℕ)
    → Along l at (lines_of w (counters masks ns count 0 a)) (lines_of w (counters masks ns (count - 0) 0 a)) l at
counters-start l at w masks ns count a = rw sub-zero (along_starts _ _ _)

pub counters_none : (w : ℕ) (masks ns : List ℕ) (count i a : ℕ) → count ≤ i → [] ≡ lines_of w (counters masks ns (count - i) i a)
unfolding counters lines_of
counters_none w masks ns count i a h = let s : count - i ≡ 0 = omega arith in rw (s, counters)
