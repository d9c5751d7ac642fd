-- The numbers in the head of a clause text, and the text's length, are small: they fit the machine's words.
-- Assumes nothing.
use mathlib.Core.Path.{◌≡◌, refl, ap}
use mathlib.Core.Bool.{Bool, true, false, not}
use mathlib.Core.List.{List, [], ◌∷◌, ◌++◌}
use Prim.Native.Nat.{ℕ, zero, suc, ◌+◌, ◌-◌, ◌*◌, ◌/◌, ◌^◌, ◌≤◌, ◌<◌}
use native.Mathlib.Nat.{mul-le-mul, div-lt_iff_lt-mul}
use native.Mathlib.Omega.{arith}
use lib.Dec.{ltb, leb}
use lib.ListN.{length, length-append}
use borrow.Author.Tests.{leb-true, le-leb, lt-ltb}
use Rattle.model.specs.declared.Exclusion.{Exclusion}
use Rattle.model.specs.declared.Line.{Line}
use Rattle.model.specs.Tests.{between, all}
use Rattle.model.specs.Sets.{has}
use Rattle.model.specs.Policy.{Meaning}
use Rattle.model.specs.Line.{exclusions_met}
use Rattle.model.specs.Ranges.{Each, ExclusionInRange}
use Rattle.model.specs.Reduced.{stays, reduced_n}
use Rattle.model.specs.Clauses.{Literal, holds, fails, Clause, must, must_not, gives, give, list_to, when, role_variable, permission_variable, last_plain, barring, carries, carrying, carriers, carried, bounding, keeping, adding, row, rows, counter, uncounted, n_left, excluding, helpers, excluding_all, hard, Weighted, wanting, soft, weight_of, top}
use Rattle.model.specs.Dimacs.{ascii, figure, digits_to, decimal, literal_text, literals_text, clause_text, clauses_text, head_text, helpers_of, variables_of, weighing, clauses_of, text_of}
use Rattle.model_clauses.specs.Texts.{variable_of, numbered, TextSmall}
use borrow.Table.Steps.{cases}
use Rattle.model_laws.proofs.Bools.{and_l, and_r, both}
use Rattle.model_clauses.proofs.Meant.{Meant}
use Rattle.model_clauses.proofs.ClauseLaws.{all_join, all-list_to, counter-length}
use Rattle.model_clauses.proofs.ClauseProof.{uncounted-length}
use Rattle.model_clauses.proofs.DimacsProof.{length-weighing, all-numbered}

-- ---- sums over lists
unfoldable total : {A : Type 0} → (A → ℕ) → List A → ℕ
total f [] = 0
total f (x ∷ xs) = f x + total f xs

module _ {A : Type 0} (f : A → ℕ) where
  total-append : (xs ys : List A) → total f (xs ++ ys) ≡ total f xs + total f ys
  unfolding total
  total-append [] ys = omega arith
  total-append (x ∷ xs) ys = omega (arith, total-append xs ys)

  total_list_to : (c n : ℕ) (g : ℕ → List A) → ((k : ℕ) → k < n → total f (g k) ≤ c) → total f (list_to n g) ≤ n * c
  unfolding list_to total
  total_list_to c zero g h = omega arith
  total_list_to c (suc n) g h =
      omega (arith, total-append (list_to n g) (g n), total_list_to c n g (λ k l. h k (omega arith)), h n (omega arith))

  total_when : (c : ℕ) (b : Bool) (x : A) → f x ≤ c → total f (when b x) ≤ c
  unfolding when total
  total_when c true x h = omega arith
  total_when c false x h = omega arith

  total-one : (c : ℕ) (x : A) → f x ≤ c → total f (x ∷ []) ≤ c
  unfolding total
  total-one c x h = omega arith

-- a length as a sum
abbrev each : {A : Type 0} → A → ℕ
each x = 1

length_total : {A : Type 0} (xs : List A) → length xs ≡ total each xs
unfolding total
length_total [] = refl
length_total (x ∷ xs) = omega (arith, length_total xs)

width_of : Clause → ℕ
width_of c = length c

literals : List Clause → ℕ
literals cs = total width_of cs

module _ (n N : ℕ) (small : n ≤ N) (positive : 1 ≤ N) where
  row_literals : (a x : ℕ) → literals (row n a x) ≤ 5 * N
  unfolding row keeping adding literals total width_of
  row_literals a x =
      omega (
        arith,
        total-append width_of (keeping n a) (adding n a x),
        total_list_to width_of 2 n (λ j. gives (a + j + 1) (a + n + j + 1) ∷ []) (λ j l. total-one width_of 2 (gives (a + j + 1) (a + n + j + 1))
            (omega arith)),
        total_list_to width_of 3 (n - 1) (λ j. give x (a + j + 1) (a + n + j + 2) ∷ [])
            (λ j l. total-one width_of 3 (give x (a + j + 1) (a + n + j + 2)) (omega arith)),
      )

  rows_literals : (a : ℕ) (xs : List ℕ) → literals (rows n a xs) ≤ 1 + 5 * (length xs * N)
  unfolding rows literals total width_of
  rows_literals a [] = omega arith
  rows_literals a (x ∷ xs) =
      omega (arith, total-append width_of (row n a x) (rows n (a + n) xs), row_literals a x, rows_literals (a + n) xs)

  counter_literals : (a : ℕ) (xs : List ℕ) → literals (counter n a xs) ≤ 5 * (length xs * N)
  unfolding counter literals total width_of
  counter_literals a [] = omega arith
  counter_literals a (x ∷ xs) = omega (arith, rows_literals a xs)

-- ---- helpers, and the clauses of exclusions
module _ (l : Line) (k : ℕ) where
  helpers_few : (roles : ℕ) (x : Exclusion) → roles ≤ 64 → ExclusionInRange roles x → helpers l k x ≤ 4096
  unfolding helpers n_left reduced_n
  helpers_few roles x q h =
      let base = stays l k x.kind in
      let m = uncounted-length x base in
      let i : length (uncounted x base) ≤ 64 = omega arith in
      let j : n_left x base ≤ 64 = omega arith in
      mul-le-mul i j

  excluding_few : (roles a : ℕ) (x : Exclusion) → roles ≤ 64 → ExclusionInRange roles x → length (excluding l k a x) ≤ 8192
  unfolding excluding n_left reduced_n
  excluding_few roles a x q h =
      let base = stays l k x.kind in
      let m = uncounted-length x base in
      let c = counter-length (n_left x base) 64 (omega arith) (omega arith) a (uncounted x base) in
      omega arith

  all-helpers : (roles : ℕ) → roles ≤ 64 → (xs : List Exclusion) → Each (ExclusionInRange roles) xs → helpers_of l k xs ≤ length xs * 4096
  unfolding helpers_of
  all-helpers roles q [] h = omega arith
  all-helpers roles q (x ∷ xs) h = omega (arith, helpers_few roles x q h.0, all-helpers roles q xs h.1)

  excluding_literals : (roles a : ℕ) (x : Exclusion) → roles ≤ 64 → ExclusionInRange roles x → literals (excluding l k a x) ≤ 20480
  unfolding excluding n_left reduced_n
  excluding_literals roles a x q h =
      let base = stays l k x.kind in
      let m = uncounted-length x base in
      let c = counter_literals (n_left x base) 64 (omega arith) (omega arith) a (uncounted x base) in
      omega arith

  -- of all exclusions, where there is a bound for each
  all_total : (f : Clause → ℕ) (c roles : ℕ) → ((a : ℕ) (x : Exclusion) → ExclusionInRange roles x → total f (excluding l k a x) ≤ c)
      → (a : ℕ) (xs : List Exclusion) → Each (ExclusionInRange roles) xs → total f (excluding_all l k a xs) ≤ length xs * c
  unfolding excluding_all total
  all_total f c roles g a [] h = omega arith
  all_total f c roles g a (x ∷ xs) h =
      omega (
        arith,
        total-append f (excluding l k a x) (excluding_all l k (a + helpers l k x) xs),
        g a x h.0,
        all_total f c roles g (a + helpers l k x) xs h.1,
      )

-- ---- soft clauses
pub weight_append : (xs ys : List Weighted) → weight_of (xs ++ ys) ≡ weight_of xs + weight_of ys
unfolding weight_of
weight_append [] ys = omega arith
weight_append (x ∷ xs) ys = omega (arith, weight_append xs ys)

weight_wanting : (a w x : ℕ) → weight_of (wanting a w x) ≤ w
unfolding weight_of wanting
weight_wanting zero w x = omega arith
weight_wanting (suc zero) w x = omega arith
weight_wanting (suc (suc a)) w x = omega arith

weight_list_to : (a w : ℕ) (x : ℕ → ℕ) (n : ℕ) → weight_of (list_to n (λ i. wanting a w (x i))) ≤ n * w
unfolding list_to weight_of
weight_list_to a w x zero = omega arith
weight_list_to a w x (suc n) =
    omega (arith, weight_append (list_to n (λ i. wanting a w (x i))) (wanting a w (x n)), weight_list_to a w x n, weight_wanting a w (x n))

-- ---- text
digits_length : (j k n : ℕ) → n < 10 ^ suc j → length (digits_to k n) ≤ suc j
unfolding digits_to
digits_length j zero n h = omega arith
digits_length zero (suc k) n h = let e : ltb n 10 ≡ true = lt-ltb n 10 (omega arith) in rw (e, digits_to) (omega arith)
digits_length (suc j) (suc k) n h =
    let i = digits_length j k (n / 10) ((div-lt_iff_lt-mul (omega arith)).1 (omega arith)) in
    cases (ltb n 10) (λ e. rw (e, digits_to) (omega arith))
    (λ e. rw (e, digits_to) (omega (arith, length-append (digits_to k (n / 10)) (figure n ∷ []))))

decimal-length : (n : ℕ) → n < 1000000 → length (decimal n) ≤ 6
unfolding decimal
decimal-length n h = digits_length 5 n n h

literal_length : (t : Literal) → variable_of t < 1000000 → length (literal_text t) ≤ 8
unfolding literal_text variable_of
literal_length (holds x) h = omega (arith, decimal-length x h)
literal_length (fails x) h = omega (arith, decimal-length x h)

literals_length : (N : ℕ) → N < 1000000 → (c : Clause) → numbered N c ≡ true → length (literals_text c) ≤ 8 * length c
unfolding literals_text numbered all
literals_length N l [] h = omega arith
literals_length N l (t ∷ ts) h =
    let i = leb-true (variable_of t) N (and_r (leb 1 (variable_of t)) (leb (variable_of t) N)
    (and_l (between 1 (variable_of t) N) (all (λ t. between 1 (variable_of t) N) ts) h)) in
    omega (
      arith,
      length-append (literal_text t) (literals_text ts),
      literal_length t (omega arith),
      literals_length N l ts (and_r (between 1 (variable_of t) N) (all (λ t. between 1 (variable_of t) N) ts) h),
    )

clause_length : (N : ℕ) → N < 1000000 → (c : Weighted) → numbered N c.clause ≡ true → c.weight < 1000000
    → length (clause_text c) ≤ 9 + 8 * length c.clause
unfolding clause_text
clause_length N l c h q =
    omega (
      arith,
      length-append (decimal c.weight) (literals_text c.clause ++ (32 ∷ 48 ∷ 10 ∷ [])),
      length-append (literals_text c.clause) (32 ∷ 48 ∷ 10 ∷ []),
      decimal-length c.weight q,
      literals_length N l c.clause h,
    )

breadth : Weighted → ℕ
breadth c = length c.clause

clauses_length : (N : ℕ) → N < 1000000 → (cs : List Weighted) → all (λ (c : Weighted). numbered N c.clause) cs ≡ true
    → all (λ (c : Weighted). leb c.weight 16705) cs ≡ true → length (clauses_text cs) ≤ 9 * length cs + 8 * total breadth cs
unfolding clauses_text all total breadth
clauses_length N l [] h q = omega arith
clauses_length N l (c ∷ cs) h q =
    omega (
      arith,
      length-append (clause_text c) (clauses_text cs),
      clause_length N l c (and_l (numbered N c.clause) (all (λ (c : Weighted). numbered N c.clause) cs) h)
          (omega (arith, leb-true c.weight 16705 (and_l (leb c.weight 16705) (all (λ (c : Weighted). leb c.weight 16705) cs) q))),
      clauses_length N l cs (and_r (numbered N c.clause) (all (λ (c : Weighted). numbered N c.clause) cs) h)
          (and_r (leb c.weight 16705) (all (λ (c : Weighted). leb c.weight 16705) cs) q),
    )

breadth_weighing : (w : ℕ) (cs : List Clause) → total breadth (weighing w cs) ≡ literals cs
unfolding weighing literals total breadth width_of
breadth_weighing w [] = refl
breadth_weighing w (c ∷ cs) = ap (λ (n : ℕ). length c + n) (breadth_weighing w cs)

-- what an objective wants is one clause of one literal at most
wanting_total : (f : Weighted → ℕ) → ((w x : ℕ) → (f (record { weight = w; clause = must x }) ≤ 1) × (f (record { weight = w; clause = must_not x }) ≤ 1))
    → (a w x : ℕ) → total f (wanting a w x) ≤ 1
unfolding wanting total
wanting_total f h zero w x = omega arith
wanting_total f h (suc zero) w x = omega (arith, (h w x).1)
wanting_total f h (suc (suc a)) w x = omega (arith, (h w x).0)

head_length : (x y z : ℕ) → x < 1000000 → y < 1000000 → z < 1000000 → length (head_text x y z) ≤ 28
unfolding head_text ascii
head_length x y z hx hy hz =
    omega (
      arith,
      length-append (decimal x) ((32 ∷ decimal y) ++ ((32 ∷ decimal z) ++ (10 ∷ []))),
      length-append (32 ∷ decimal y) ((32 ∷ decimal z) ++ (10 ∷ [])),
      length-append (32 ∷ decimal z) (10 ∷ []),
      decimal-length x hx,
      decimal-length y hy,
      decimal-length z hz,
    )

-- ---- an ask
module _ (p : Meaning) (range : Meant p) where
  abbrev R : ℕ
  R = p.roles

  abbrev P : ℕ
  P = p.permissions

  few_variables : (l : Line) (k : ℕ) → variables_of p l k ≤ 131392
  unfolding variables_of
  few_variables l k =
      let h = all-helpers l k R range.roles.1 p.exclusions range.exclusions in
      let e = range.few_exclusions in
      let r = range.roles.1 in
      let q = range.permissions.1 in
      omega arith

  light : (a b : ℕ) → top (soft p a b) ≤ 16705
  unfolding top soft
  light a b =
      let r = range.roles.1 in
      let q = range.permissions.1 in
      let m : P * (R + 1) ≤ 256 * 65 = mul-le-mul {n₂ = 256} {m₂ = 65} q (omega arith) in
      omega (
        arith,
        weight_append (list_to P (λ q. wanting a (R + 1) (permission_variable p q))) (list_to R (λ r. wanting b 1 (role_variable r))),
        weight_list_to a (R + 1) (λ q. permission_variable p q) P,
        weight_list_to b 1 (λ r. role_variable r) R,
      )

  soft_total : (f : Weighted → ℕ) → ((w x : ℕ) → (f (record { weight = w; clause = must x }) ≤ 1) × (f (record { weight = w; clause = must_not x }) ≤ 1))
      → (a b : ℕ) → total f (soft p a b) ≤ 320
  unfolding soft
  soft_total f h a b =
      let r = range.roles.1 in
      let q = range.permissions.1 in
      let first : ℕ → List Weighted = λ q. wanting a (R + 1) (permission_variable p q) in
      let second : ℕ → List Weighted = λ r. wanting b 1 (role_variable r) in
      omega (
        arith,
        total-append f (list_to P first) (list_to R second),
        total_list_to f 1 P first (λ q l. wanting_total f h a (R + 1) (permission_variable p q)),
        total_list_to f 1 R second (λ r l. wanting_total f h b 1 (role_variable r)),
      )

  few_soft : (a b : ℕ) → length (soft p a b) ≤ 320
  few_soft a b = omega (arith, length_total (soft p a b), soft_total each (λ w x. (omega arith, omega arith)) a b)

  narrow_soft : (a b : ℕ) → total breadth (soft p a b) ≤ 320
  unfolding breadth
  narrow_soft a b = soft_total breadth (λ w x. (omega arith, omega arith)) a b

  few_carriers : (q : ℕ) → length (carriers p q) ≤ 64
  unfolding carriers
  few_carriers q =
      let r = range.roles.1 in
      let one : ℕ → Clause = λ r. when (carries p r q) (holds (role_variable r)) in
      omega (arith, length_total (list_to R one), total_list_to each 1 R one (λ r l. total_when each 1 (carries p r q) (holds (role_variable r)) (omega arith)))

  -- of all hard clauses: a unit clause, one of two literals, and what a permission is carried by
  module _ (f : Clause → ℕ) (unit : (x : ℕ) → (f (must x) ≤ 1) × (f (must_not x) ≤ 1)) (two : ℕ) (pair : (x y : ℕ) → f (gives x y) ≤ two)
      (most : ℕ) (wide : (q : ℕ) → f (fails (permission_variable p q) ∷ carriers p q) ≤ most) where
    hard_total : (l : Line) (k lower upper : ℕ) → total f (hard p l k lower upper)
        ≤ R + R * (P * two) + P * most + 2 * P + total f (excluding_all l k (last_plain p) p.exclusions)
    unfolding hard barring carrying carried bounding
    hard_total l k lower upper =
        let x = excluding_all l k (last_plain p) p.exclusions in
        let b = bounding p lower upper in
        let barred : ℕ → List Clause = λ r. when (not (has p.authorized r)) (must_not (role_variable r)) in
        let given : ℕ → ℕ → List Clause = λ r q. when (carries p r q) (gives (role_variable r) (permission_variable p q)) in
        let by : ℕ → List Clause = λ q. (fails (permission_variable p q) ∷ carriers p q) ∷ [] in
        let low : ℕ → List Clause = λ q. when (has lower q) (must (permission_variable p q)) in
        let high : ℕ → List Clause = λ q. when (not (has upper q)) (must_not (permission_variable p q)) in
        omega (
          arith,
          total-append f (barring p) (carrying p ++ (carried p ++ (b ++ x))),
          total-append f (carrying p) (carried p ++ (b ++ x)),
          total-append f (carried p) (b ++ x),
          total-append f b x,
          total-append f (list_to P low) (list_to P high),
          total_list_to f 1 R barred (λ r l. total_when f 1 _ _ (unit (role_variable r)).1),
          total_list_to f (P * two) R (λ r. list_to P (given r))
              (λ r l. total_list_to f two P (given r) (λ q l. total_when f two _ _ (pair (role_variable r) (permission_variable p q)))),
          total_list_to f most P by (λ q l. total-one f most _ (wide q)),
          total_list_to f 1 P low (λ q l. total_when f 1 _ _ (unit (permission_variable p q)).0),
          total_list_to f 1 P high (λ q l. total_when f 1 _ _ (unit (permission_variable p q)).1),
        )

  few_hard : (l : Line) (k lower upper : ℕ) → length (hard p l k lower upper) ≤ 279360
  few_hard l k lower upper =
      let r = range.roles.1 in
      let q = range.permissions.1 in
      let e = range.few_exclusions in
      let m : R * (P * 1) ≤ 64 * 256 = mul-le-mul {n₂ = 64} {m₂ = 256} r (omega arith) in
      omega (
        arith,
        length_total (hard p l k lower upper),
        hard_total each (λ x. (omega arith, omega arith)) 1 (λ x y. omega arith) 1 (λ q. omega arith) l k lower upper,
        all_total l k each 8192 R (λ a x h. omega (arith, length_total (excluding l k a x), excluding_few l k R a x r h)) (last_plain p) p.exclusions
            range.exclusions,
      )

  few_literals : (l : Line) (k lower upper : ℕ) → literals (hard p l k lower upper) ≤ 705344
  unfolding literals width_of
  few_literals l k lower upper =
      let r = range.roles.1 in
      let q = range.permissions.1 in
      let e = range.few_exclusions in
      let m : R * (P * 2) ≤ 64 * 512 = mul-le-mul {n₂ = 64} {m₂ = 512} r (omega arith) in
      omega (
        arith,
        hard_total width_of (λ x. (omega arith, omega arith)) 2 (λ x y. omega arith) 65 (λ q. omega (arith, few_carriers q)) l k lower upper,
        all_total l k width_of 20480 R (λ a x h. excluding_literals l k R a x r h) (last_plain p) p.exclusions range.exclusions,
      )

  -- weights
  weights-hard : (a b : ℕ) (cs : List Clause) → all (λ (c : Weighted). leb c.weight 16705) (weighing (top (soft p a b)) cs) ≡ true
  unfolding weighing all
  weights-hard a b [] = refl
  weights-hard a b (c ∷ cs) =
      both (leb (top (soft p a b)) 16705) (all (λ (c : Weighted). leb c.weight 16705) (weighing (top (soft p a b)) cs))
      (le-leb (top (soft p a b)) 16705 (light a b)) (weights-hard a b cs)

  weights-wanting : (a w x : ℕ) → w ≤ 16705 → all (λ (c : Weighted). leb c.weight 16705) (wanting a w x) ≡ true
  unfolding wanting all
  weights-wanting zero w x h = refl
  weights-wanting (suc zero) w x h = both (leb w 16705) true (le-leb w 16705 h) refl
  weights-wanting (suc (suc a)) w x h = both (leb w 16705) true (le-leb w 16705 h) refl

  weights-soft : (a b : ℕ) → all (λ (c : Weighted). leb c.weight 16705) (soft p a b) ≡ true
  unfolding soft
  weights-soft a b =
      let r = range.roles.1 in
      let light : Weighted → Bool = λ c. leb c.weight 16705 in
      all_join light _ _ (all-list_to light P _ (λ q i. weights-wanting a (R + 1) (permission_variable p q) (omega arith)))
      (all-list_to light R _ (λ r l. weights-wanting b 1 (role_variable r) (omega arith)))

  module _ (l : Line) (k lower upper : ℕ) (inside : k < length l.sessions) (met : exclusions_met p l ≡ true) (a b : ℕ) where
    few_clauses : length (clauses_of p l k lower upper a b) ≤ 279680
    unfolding clauses_of
    few_clauses =
        omega (
          arith,
          length-append (weighing (top (soft p a b)) (hard p l k lower upper)) (soft p a b),
          length-weighing (top (soft p a b)) (hard p l k lower upper),
          few_hard l k lower upper,
          few_soft a b,
        )

    all_narrow : total breadth (clauses_of p l k lower upper a b) ≤ 705664
    unfolding clauses_of
    all_narrow =
        omega (
          arith,
          total-append breadth (weighing (top (soft p a b)) (hard p l k lower upper)) (soft p a b),
          breadth_weighing (top (soft p a b)) (hard p l k lower upper),
          few_literals l k lower upper,
          narrow_soft a b,
        )

    weights-all : all (λ (c : Weighted). leb c.weight 16705) (clauses_of p l k lower upper a b) ≡ true
    unfolding clauses_of
    weights-all =
        all_join (λ (c : Weighted). leb c.weight 16705) (weighing (top (soft p a b)) (hard p l k lower upper)) (soft p a b)
        (weights-hard a b (hard p l k lower upper)) (weights-soft a b)

    pub text_small : TextSmall p l k lower upper a b
    unfolding text_of
    text_small =
        let cs = clauses_of p l k lower upper a b in
        let v = few_variables l k in
        let n = few_clauses in
        let t = light a b in
        record {
          variables = v;
          clauses = n;
          weight = t;
          bytes = omega (
            arith,
            length-append (head_text (variables_of p l k) (length cs) (top (soft p a b))) (clauses_text cs),
            head_length (variables_of p l k) (length cs) (top (soft p a b)) (omega arith) (omega arith) (omega arith),
            clauses_length (variables_of p l k) (omega arith) cs (all-numbered p range l k lower upper inside met a b) weights-all,
            all_narrow,
          );
        }
