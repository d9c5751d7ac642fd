-- The text by the words that the code has is the model's text of the ask that they stand for.
-- Assumes nothing.
use mathlib.Core.Path.{◌≡◌, refl, ap, ap₂, ◌∙◌}
use mathlib.Core.List.{List, [], ◌∷◌, ◌++◌}
use Prim.Native.Nat.{ℕ, suc, ◌+◌, ◌*◌, ◌<◌}
use native.Mathlib.Omega.{arith}
use lib.ListN.{length, get_or}
use Rattle.model.specs.declared.Exclusion.{Exclusion}
use Rattle.model.specs.declared.Line.{Line}
use Rattle.model.specs.declared.Kind.TheVariants.{SsDmer}
use Rattle.model.specs.Sets.{has}
use Rattle.model.specs.Policy.{Meaning}
use Rattle.model.specs.Reduced.{stays}
use Rattle.model.specs.Clauses.{Literal, list_to, when, gives, holds, fails, barring, carries, carrying, carriers, carried, bounding, uncounted, n_left, counter, excluding, helpers, excluding_all, hard, soft, variables_in}
use Rattle.model.specs.Dimacs.{helpers_of, variables_of, clauses_of, text_of}
use Rattle.model_clauses.proofs.ClauseLaws.{list_to_same}
use Rattle.clauses_hard.specs.Parts.{barred, barring_to, carried_as, carrying_row, carrying_to, carrier, carriers_to, carried_one, carried_to, lower as lower_of, lower_bound_to, upper as upper_of, upper_bound_to, hard_by}
use Rattle.clauses_counter.specs.Counters.{counters}
use Rattle.clauses_soft.specs.Soft.{wanting_permissions, wanting_roles, soft_by}
use Rattle.clauses_hard.specs.Sizes.{sum_to, helpers_to}
use Rattle.clauses_text.specs.Whole.{clauses_by, text_by}
use Rattle.clauses.specs.Stands.{Reduced, Stands}

-- ---- exclusions

module _ (l : Line) (k : ℕ) where
  module _ (x : Exclusion) (mask n : ℕ) (r : Reduced l k x mask n) where
    variables_are : variables_in mask ≡ uncounted x (stays l k x.kind)
    unfolding uncounted
    variables_are = ap variables_in r.members

    counter_is : (a : ℕ) → counter n a (variables_in mask) ≡ excluding l k a x
    unfolding excluding n_left
    counter_is a = rw (variables_are, r.reduced)

    helpers_are : length (variables_in mask) * n ≡ helpers l k x
    unfolding helpers n_left
    helpers_are = rw (variables_are, r.reduced)

  module _ (masks ns : List ℕ) (d : Exclusion) where
    abbrev From : List Exclusion → ℕ → Type 0
    From xs i = (j : ℕ) → j < length xs → Reduced l k (get_or xs j d) (get_or masks (i + j) 0) (get_or ns (i + j) 0)

    first : (x : Exclusion) (xs : List Exclusion) (i : ℕ) → From (x ∷ xs) i → Reduced l k x (get_or masks i 0) (get_or ns i 0)
    first x xs i h = let e : i + 0 ≡ i = omega arith in rw e at (h 0 (omega arith))

    others : (x : Exclusion) (xs : List Exclusion) (i : ℕ) → From (x ∷ xs) i → From xs (suc i)
    others x xs i h j q = let e : i + suc j ≡ suc i + j = omega arith in rw e at (h (suc j) (omega arith))

    counters_are : (xs : List Exclusion) (i a : ℕ) → From xs i → counters masks ns (length xs) i a ≡ excluding_all l k a xs
    unfolding counters excluding_all
    counters_are [] i a h = refl
    counters_are (x ∷ xs) i a h =
        let r = first x xs i h in
        ap₂ (λ c m. c ++ counters masks ns (length xs) (suc i) (a + m)) (counter_is x (get_or masks i 0) (get_or ns i 0) r a)
        (helpers_are x (get_or masks i 0) (get_or ns i 0) r)
        ∙ ap (λ cs. excluding l k a x ++ cs) (counters_are xs (suc i) (a + helpers l k x) (others x xs i h))

    abbrev at : ℕ → ℕ
    at i = length (variables_in (get_or masks i 0)) * get_or ns i 0

    sum_suc : (f : ℕ → ℕ) (n : ℕ) → sum_to f (suc n) ≡ sum_to f n + f n
    unfolding sum_to
    sum_suc f n = refl

    helpers_from : (xs : List Exclusion) (i : ℕ) → From xs i → sum_to at (i + length xs) ≡ sum_to at i + helpers_of l k xs
    unfolding helpers_of
    helpers_from [] i h = let e : i + 0 ≡ i = omega arith in rw e (omega arith)
    helpers_from (x ∷ xs) i h =
        let e : i + suc (length xs) ≡ suc i + length xs = omega arith in
        rw e (omega (arith, helpers_from xs (suc i) (others x xs i h), sum_suc at i, helpers_are x (get_or masks i 0) (get_or ns i 0) (first x xs i h)))

-- ---- all hard clauses

module _ (p : Meaning) (l : Line) (k : ℕ) (row : ℕ → ℕ) (masks ns : List ℕ) (count : ℕ) (s : Stands p l k row masks ns count) where
  abbrev R : ℕ
  R = p.roles

  abbrev P : ℕ
  P = p.permissions

  carrying_is : carrying_to R P row ≡ carrying p
  unfolding carrying_to carrying_row carried_as carrying carries
  carrying_is =
      list_to_same R (λ r. list_to P (λ q. when (has (row r) q) (gives (r + 1) (R + q + 1))))
      (λ r. list_to P (λ q. when (has (get_or p.carried r 0) q) (gives (r + 1) (R + q + 1))))
      (λ r h. ap (λ (t : ℕ). list_to P (λ q. when (has t q) (gives (r + 1) (R + q + 1)))) (s.carried r h))

  carriers_are : (q : ℕ) → carriers_to R row q ≡ carriers p q
  unfolding carriers_to carrier carriers carries
  carriers_are q =
      list_to_same R (λ r. when (has (row r) q) (holds (r + 1))) (λ r. when (has (get_or p.carried r 0) q) (holds (r + 1)))
      (λ r h. ap (λ (t : ℕ). when (has t q) (holds (r + 1))) (s.carried r h))

  carried_is : carried_to R P row ≡ carried p
  unfolding carried_to carried_one carried
  carried_is =
      list_to_same P (λ q. (fails (R + q + 1) ∷ carriers_to R row q) ∷ []) (λ q. (fails (R + q + 1) ∷ carriers p q) ∷ [])
      (λ q h. ap (λ (c : List Literal). (fails (R + q + 1) ∷ c) ∷ []) (carriers_are q))

  abbrev other : Exclusion
  other = record { kind = SsDmer; n = 0; members = 0 }

  from : From l k masks ns other p.exclusions 0
  from j q = let e : 0 + j ≡ j = omega arith in rw e (s.reduced other j q)

  exclusions_are : (a : ℕ) → counters masks ns count 0 a ≡ excluding_all l k a p.exclusions
  exclusions_are a = rw s.all (counters_are l k masks ns other p.exclusions 0 a from)

  variables_told : R + P + helpers_to masks ns count ≡ variables_of p l k
  unfolding helpers_to variables_of sum_to
  variables_told =
      let e : 0 + length p.exclusions ≡ count = omega (arith, s.all) in
      let f : sum_to (at l k masks ns other) (0 + length p.exclusions) ≡ 0 + helpers_of l k p.exclusions =
      helpers_from l k masks ns other p.exclusions 0 from in
      omega (arith, f, ap (sum_to (at l k masks ns other)) e)

  module _ (low high : ℕ) where
    hard_is : hard_by R P p.authorized row low high masks ns count ≡ hard p l k low high
    unfolding hard_by hard barring_to barred barring lower_bound_to lower_of upper_bound_to upper_of bounding
    hard_is = rw (carrying_is, carried_is, exclusions_are (R + P))

    module _ (a b : ℕ) where
      soft_is : soft_by R P a b ≡ soft p a b
      unfolding soft_by wanting_permissions wanting_roles soft
      soft_is = refl

      clauses_are : clauses_by R P p.authorized row low high masks ns count a b ≡ clauses_of p l k low high a b
      unfolding clauses_by clauses_of
      clauses_are = rw (soft_is, hard_is)

      -- the text is that of the model
      pub text_is : text_by R P p.authorized row low high masks ns count a b ≡ text_of p l k low high a b
      unfolding text_by text_of
      text_is = rw (variables_told, soft_is, clauses_are)
