-- The head of an ask's clause text tells the truth: every variable is among those that it counts, and a line follows
-- for each clause.
-- Assumes nothing.
use mathlib.Core.Path.{◌≡◌, refl, sym, ap, ap₂, ◌∙◌, subst}
use mathlib.Core.Bool.{Bool, true, ◌&&◌, not}
use mathlib.Core.List.{List, [], ◌∷◌, ◌++◌}
use Prim.Native.Nat.{ℕ, zero, suc, ◌+◌, ◌-◌, ◌*◌, ◌/◌, ◌%◌, ◌≤◌, ◌<◌}
use native.Mathlib.Omega.{arith}
use lib.Dec.{eqb, ltb, leb}
use lib.ListN.{length, length-append}
use borrow.Author.Tests.{ne_eqb, le-leb}
use Rattle.model.specs.declared.Exclusion.{Exclusion}
use Rattle.model.specs.declared.Line.{Line}
use Rattle.model.specs.Tests.{between, all}
use Rattle.model.specs.Sets.{has}
use Rattle.model.specs.Policy.{Meaning}
use Rattle.model.specs.Line.{exclusions_met}
use Rattle.model.specs.Ranges.{Each, OneTo, ExclusionInRange}
use Rattle.model.specs.Reduced.{stays}
use Rattle.model.specs.Clauses.{Literal, holds, fails, Clause, must, must_not, gives, give, when, role_variable, permission_variable, last_plain, barring, carrying, carriers, carried, bounding, uncounted, n_left, keeping, adding, row, rows, counter, excluding, helpers, excluding_all, hard, Weighted, wanting, soft, top}
use Rattle.model.specs.Dimacs.{ascii, figure, digits_to, decimal, literal_text, literals_text, clause_text, clauses_text, head_text, helpers_of, variables_of, weighing, clauses_of, text_of}
use Rattle.model_clauses.specs.Texts.{variable_of, numbered, line_count, TextIs}
use borrow.Table.Steps.{cases}
use Rattle.model_laws.proofs.Bools.{and_l, and_r, both}
use Rattle.model_laws.proofs.UnionLaws.{has_below}
use Rattle.model_clauses.proofs.ClauseLaws.{all_join, all_one, all-when, all-list_to}
use Rattle.model_clauses.proofs.Meant.{Meant}
use Rattle.model_laws.proofs.Eachs.{mem_each, each_mem}
use Rattle.model_clauses.proofs.ClauseProof.{uncounted_is, some_left, each_when, each_list_to}

-- ---- variables
module _ (N : ℕ) where
  in-range : (x : ℕ) → OneTo N x → between 1 x N ≡ true
  in-range x h = both (leb 1 x) (leb x N) (le-leb 1 x h.0) (le-leb x N h.1)

  ok_must : (x : ℕ) → OneTo N x → numbered N (must x) ≡ true
  unfolding numbered variable_of all
  ok_must x h = both (between 1 x N) true (in-range x h) refl

  ok_must_not : (x : ℕ) → OneTo N x → numbered N (must_not x) ≡ true
  unfolding numbered variable_of all
  ok_must_not x h = both (between 1 x N) true (in-range x h) refl

  ok_gives : (x y : ℕ) → OneTo N x → OneTo N y → numbered N (gives x y) ≡ true
  unfolding numbered variable_of all
  ok_gives x y h i = both (between 1 x N) (between 1 y N && true) (in-range x h) (both (between 1 y N) true (in-range y i) refl)

  ok_give : (x y z : ℕ) → OneTo N x → OneTo N y → OneTo N z → numbered N (give x y z) ≡ true
  unfolding numbered variable_of all
  ok_give x y z h i j =
      both (between 1 x N) (between 1 y N && (between 1 z N && true)) (in-range x h)
      (both (between 1 y N) (between 1 z N && true) (in-range y i) (both (between 1 z N) true (in-range z j) refl))

-- ---- every clause of an ask: what holds of units, implications and clauses of carriers over variables up to N
module _ (N : ℕ) (f : Clause → Bool) (f_must : (x : ℕ) → OneTo N x → f (must x) ≡ true) (f_must_not : (x : ℕ) → OneTo N x → f (must_not x) ≡ true)
    (f_gives : (x y : ℕ) → OneTo N x → OneTo N y → f (gives x y) ≡ true)
    (f_give : (x y z : ℕ) → OneTo N x → OneTo N y → OneTo N z → f (give x y z) ≡ true) where
  -- the counter's clauses
  module _ (n : ℕ) (some : 1 ≤ n) where
    of_row : (a x : ℕ) → OneTo N x → a + n + n ≤ N → all f (row n a x) ≡ true
    unfolding row keeping adding all
    of_row a x h l =
        both (f (gives x (a + n + 1))) (all f (keeping n a ++ adding n a x))
        (f_gives x (a + n + 1) h (omega arith))
        (all_join f (keeping n a) (adding n a x)
        (all-list_to f n (λ j. gives (a + j + 1) (a + n + j + 1) ∷ []) (λ j q.
        all_one f (gives (a + j + 1) (a + n + j + 1)) (f_gives (a + j + 1) (a + n + j + 1) (omega arith) (omega arith))))
        (all-list_to f (n - 1) (λ j. give x (a + j + 1) (a + n + j + 2) ∷ []) (λ j q.
        all_one f (give x (a + j + 1) (a + n + j + 2)) (f_give x (a + j + 1) (a + n + j + 2) h (omega arith) (omega arith)))))

    of-rows : (a : ℕ) (xs : List ℕ) → Each (OneTo N) xs → a + n + length xs * n ≤ N → all f (rows n a xs) ≡ true
    unfolding rows
    of-rows a [] h l = all_one f (must_not (a + n)) (f_must_not (a + n) (omega arith))
    of-rows a (x ∷ xs) h l =
        all_join f (row n a x) (rows n (a + n) xs) (of_row a x h.0 (omega arith)) (of-rows (a + n) xs h.1 (omega arith))

    of-counter : (a : ℕ) (xs : List ℕ) → Each (OneTo N) xs → a + length xs * n ≤ N → all f (counter n a xs) ≡ true
    unfolding counter all
    of-counter a [] h l = refl
    of-counter a (x ∷ xs) h l =
        both (f (gives x (a + 1))) (all f (rows n a xs)) (f_gives x (a + 1) h.0 (omega arith)) (of-rows a xs h.1 (omega arith))

  of-excluding : (l : Line) (k a : ℕ) (xs : List Exclusion)
      → Each (λ (x : Exclusion). (1 ≤ n_left x (stays l k x.kind)) × Each (OneTo N) (uncounted x (stays l k x.kind))) xs
      → a + helpers_of l k xs ≤ N → all f (excluding_all l k a xs) ≡ true
  unfolding excluding_all excluding helpers_of helpers all
  of-excluding l k a [] h q = refl
  of-excluding l k a (x ∷ xs) h q =
      let base = stays l k x.kind in
      all_join f (counter (n_left x base) a (uncounted x base)) (excluding_all l k (a + helpers l k x) xs)
      (of-counter (n_left x base) h.0.0 a (uncounted x base) h.0.1 (omega arith))
      (of-excluding l k (a + helpers l k x) xs h.1 (omega arith))

  -- the clauses of the plain variables
  module _ (p : Meaning) (wide : last_plain p ≤ N)
      (f_carried : (q : ℕ) → q < p.permissions → f (fails (permission_variable p q) ∷ carriers p q) ≡ true) where
    role_in : (r : ℕ) → r < p.roles → OneTo N (role_variable r)
    role_in r l = omega arith

    permission_in : (q : ℕ) → q < p.permissions → OneTo N (permission_variable p q)
    permission_in q l = omega arith

    of-barring : all f (barring p) ≡ true
    unfolding barring
    of-barring =
        all-list_to f p.roles _ (λ r l. all-when f _ _ (λ e. f_must_not (role_variable r) (role_in r l)))

    of-carrying : all f (carrying p) ≡ true
    unfolding carrying
    of-carrying =
        all-list_to f p.roles _ (λ r l. all-list_to f p.permissions _ (λ q i. all-when f _ _ (λ e.
        f_gives (role_variable r) (permission_variable p q) (role_in r l) (permission_in q i))))

    of-carried : all f (carried p) ≡ true
    unfolding carried
    of-carried =
        all-list_to f p.permissions _ (λ q i. all_one f _ (f_carried q i))

    of-bounding : (lower upper : ℕ) → all f (bounding p lower upper) ≡ true
    unfolding bounding
    of-bounding lower upper =
        all_join f _ _
        (all-list_to f p.permissions _ (λ q i. all-when f _ _ (λ e. f_must (permission_variable p q) (permission_in q i))))
        (all-list_to f p.permissions _ (λ q i. all-when f _ _ (λ e. f_must_not (permission_variable p q) (permission_in q i))))

    -- a soft clause's
    of-wanting : (a w x : ℕ) → OneTo N x → all (λ (c : Weighted). f c.clause) (wanting a w x) ≡ true
    unfolding wanting all
    of-wanting zero w x h = refl
    of-wanting (suc zero) w x h = both (f (must_not x)) true (f_must_not x h) refl
    of-wanting (suc (suc a)) w x h = both (f (must x)) true (f_must x h) refl

    of-soft : (a b : ℕ) → all (λ (c : Weighted). f c.clause) (soft p a b) ≡ true
    unfolding soft
    of-soft a b =
        let g : Weighted → Bool = λ c. f c.clause in
        all_join g _ _
        (all-list_to g p.permissions _ (λ q i. of-wanting a (p.roles + 1) (permission_variable p q) (permission_in q i)))
        (all-list_to g p.roles _ (λ r l. of-wanting b 1 (role_variable r) (role_in r l)))

  -- the same clauses with a weight
  of_weighted : (w : ℕ) (cs : List Clause) → all f cs ≡ true → all (λ (c : Weighted). f c.clause) (weighing w cs) ≡ true
  unfolding all weighing
  of_weighted w [] h = refl
  of_weighted w (c ∷ cs) h =
      both (f c) (all (λ (c : Weighted). f c.clause) (weighing w cs)) (and_l (f c) (all f cs) h) (of_weighted w cs (and_r (f c) (all f cs) h))

pub length-weighing : (w : ℕ) (cs : List Clause) → length (weighing w cs) ≡ length cs
unfolding weighing
length-weighing w [] = refl
length-weighing w (c ∷ cs) = ap suc (length-weighing w cs)

-- ---- lines
lines-append : (xs ys : List ℕ) → line_count (xs ++ ys) ≡ line_count xs + line_count ys
unfolding line_count
lines-append [] ys = omega arith
lines-append (x ∷ xs) ys =
    let h = lines-append xs ys in
    cases (eqb x 10) (λ e. rw (e, line_count) (omega arith)) (λ e. rw (e, line_count) h)

figure-line : (n : ℕ) → line_count (figure n ∷ []) ≡ 0
unfolding line_count figure
figure-line n = rw (ne_eqb (48 + n % 10) 10 (λ e. omega arith), line_count)

digits_line : (k n : ℕ) → line_count (digits_to k n) ≡ 0
unfolding digits_to
digits_line zero n = figure-line n
digits_line (suc k) n =
    let h = digits_line k (n / 10) in
    cases (ltb n 10) (λ e. rw (e, digits_to) (figure-line n))
    (λ e. rw (e, digits_to) (omega (arith, lines-append (digits_to k (n / 10)) (figure n ∷ []), figure-line n)))

decimal-line : (n : ℕ) → line_count (decimal n) ≡ 0
unfolding decimal
decimal-line n = digits_line n n

literal_line : (t : Literal) → line_count (literal_text t) ≡ 0
unfolding literal_text line_count
literal_line (holds x) = decimal-line x
literal_line (fails x) = decimal-line x

literals_line : (c : Clause) → line_count (literals_text c) ≡ 0
unfolding literals_text line_count
literals_line [] = refl
literals_line (t ∷ ts) = omega (arith, lines-append (literal_text t) (literals_text ts), literal_line t, literals_line ts)

clause_line : (c : Weighted) → line_count (clause_text c) ≡ 1
unfolding clause_text line_count
clause_line c =
    omega (
      arith,
      lines-append (decimal c.weight) (literals_text c.clause ++ (32 ∷ 48 ∷ 10 ∷ [])),
      lines-append (literals_text c.clause) (32 ∷ 48 ∷ 10 ∷ []),
      decimal-line c.weight,
      literals_line c.clause,
    )

clauses_lines_lem : (cs : List Weighted) → line_count (clauses_text cs) ≡ length cs
unfolding clauses_text line_count
clauses_lines_lem [] = refl
clauses_lines_lem (c ∷ cs) = omega (arith, lines-append (clause_text c) (clauses_text cs), clause_line c, clauses_lines_lem cs)

head_line_lem : (x y z : ℕ) → line_count (head_text x y z) ≡ 1
unfolding head_text line_count ascii
head_line_lem x y z =
    omega (
      arith,
      lines-append (decimal x) ((32 ∷ decimal y) ++ ((32 ∷ decimal z) ++ (10 ∷ []))),
      lines-append (32 ∷ decimal y) ((32 ∷ decimal z) ++ (10 ∷ [])),
      lines-append (32 ∷ decimal z) (10 ∷ []),
      decimal-line x,
      decimal-line y,
      decimal-line z,
    )

-- ---- all clauses of an ask on a line that meets the exclusions
module _ (p : Meaning) (range : Meant p) (l : Line) (k lower upper : ℕ) (inside : k < length l.sessions)
    (met : exclusions_met p l ≡ true) (a b : ℕ) where
  abbrev N : ℕ
  N = variables_of p l k

  wide : last_plain p ≤ N
  unfolding variables_of
  wide = omega arith

  member_in : (x : Exclusion) → ExclusionInRange p.roles x → (base : ℕ) → Each (OneTo N) (uncounted x base)
  member_in x h base =
      subst (Each (OneTo N)) (sym (uncounted_is x base))
      (each_list_to (OneTo N) 64 (λ r. when (has x.members r && not (has base r)) (role_variable r)) (λ r q.
      each_when (OneTo N) (has x.members r && not (has base r)) (role_variable r) (λ e.
      let i = has_below p.roles x.members r h.members (and_l (has x.members r) (not (has base r)) e) in
      let w = wide in
      omega arith)))

  exclusions_in_lem : Each (λ (x : Exclusion). (1 ≤ n_left x (stays l k x.kind)) × Each (OneTo N) (uncounted x (stays l k x.kind))) p.exclusions
  exclusions_in_lem =
      mem_each (λ (x : Exclusion). (1 ≤ n_left x (stays l k x.kind)) × Each (OneTo N) (uncounted x (stays l k x.kind))) p.exclusions (λ x m. (
        some_left l k x (range.met_now l met x m k inside),
        member_in x (each_mem (ExclusionInRange p.roles) p.exclusions range.exclusions x m) (stays l k x.kind),
      ))

  module _ (f : Clause → Bool) (f_must : (x : ℕ) → OneTo N x → f (must x) ≡ true) (f_must_not : (x : ℕ) → OneTo N x → f (must_not x) ≡ true)
      (f_gives : (x y : ℕ) → OneTo N x → OneTo N y → f (gives x y) ≡ true)
      (f_give : (x y z : ℕ) → OneTo N x → OneTo N y → OneTo N z → f (give x y z) ≡ true)
      (f_carried : (q : ℕ) → q < p.permissions → f (fails (permission_variable p q) ∷ carriers p q) ≡ true) where
    of-hard : all f (hard p l k lower upper) ≡ true
    unfolding hard variables_of
    of-hard =
        let x = excluding_all l k (last_plain p) p.exclusions in
        all_join f (barring p) (carrying p ++ (carried p ++ (bounding p lower upper ++ x)))
        (of-barring N f f_must f_must_not f_gives f_give p wide f_carried)
        (all_join f (carrying p) (carried p ++ (bounding p lower upper ++ x)) (of-carrying N f f_must f_must_not f_gives f_give p wide f_carried)
        (all_join f (carried p) (bounding p lower upper ++ x) (of-carried N f f_must f_must_not f_gives f_give p wide f_carried)
        (all_join f (bounding p lower upper) x (of-bounding N f f_must f_must_not f_gives f_give p wide f_carried lower upper)
        (of-excluding N f f_must f_must_not f_gives f_give l k (last_plain p) p.exclusions exclusions_in_lem (omega arith)))))

    pub of_clauses : all (λ (c : Weighted). f c.clause) (clauses_of p l k lower upper a b) ≡ true
    unfolding clauses_of
    of_clauses =
        all_join (λ (c : Weighted). f c.clause) (weighing (top (soft p a b)) (hard p l k lower upper)) (soft p a b)
        (of_weighted N f f_must f_must_not f_gives f_give (top (soft p a b)) (hard p l k lower upper) of-hard)
        (of-soft N f f_must f_must_not f_gives f_give p wide f_carried a b)

  -- ---- the text

  carriers-numbered : (q : ℕ) → q < p.permissions → numbered N (fails (permission_variable p q) ∷ carriers p q) ≡ true
  unfolding carriers numbered variable_of all
  carriers-numbered q i =
      let w = wide in
      let f : Literal → Bool = λ t. between 1 (variable_of t) N in
      both (between 1 (permission_variable p q) N) (all f (carriers p q)) (in-range N (permission_variable p q) (omega arith))
      (all-list_to f p.roles _ (λ r l. all-when f _ _ (λ e. in-range N (role_variable r) (omega arith))))

  pub all-numbered : all (λ (c : Weighted). numbered N c.clause) (clauses_of p l k lower upper a b) ≡ true
  all-numbered = of_clauses (numbered N) (ok_must N) (ok_must_not N) (ok_gives N) (ok_give N) carriers-numbered

  pub text_is : TextIs p l k lower upper a b
  unfolding clauses_of text_of
  text_is =
      record {
        variables = all-numbered;
        clauses = length-append (weighing (top (soft p a b)) (hard p l k lower upper)) (soft p a b)
            ∙ ap (λ (n : ℕ). n + length (soft p a b)) (length-weighing (top (soft p a b)) (hard p l k lower upper));
        lines = lines-append _ (clauses_text (clauses_of p l k lower upper a b))
            ∙ ap₂ (λ (x y : ℕ). x + y) (head_line_lem (variables_of p l k) (length (clauses_of p l k lower upper a b)) (top (soft p a b)))
            (clauses_lines_lem (clauses_of p l k lower upper a b));
      }
