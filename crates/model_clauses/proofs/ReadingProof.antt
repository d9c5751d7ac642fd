-- A clause text reads back: the reader of specs/Reading.antt finds in the text of an ask the numbers of its head and
-- exactly its clauses.
-- Assumes nothing.
use mathlib.Core.Path.{◌≡◌, refl, sym, ap, ◌∙◌, subst}
use mathlib.Core.Bool.{Bool, true, false}
use mathlib.Core.Option.{Option, none, some}
use mathlib.Core.List.{List, [], ◌∷◌, ◌++◌, append_assoc}
use Prim.Native.Nat.{ℕ, zero, suc, ◌+◌, ◌-◌, ◌*◌, ◌/◌, ◌%◌, ◌≤◌, ◌<◌}
use native.Mathlib.Omega.{arith}
use lib.Dec.{ltb, leb}
use lib.ListN.{length}
use borrow.Author.Tests.{ltb-true, ltb-false, leb-true, eq-eqb, ne_eqb, le-leb}
use Rattle.model.specs.Tests.{between, all}
use Rattle.model.specs.declared.Line.{Line}
use Rattle.model.specs.Policy.{Meaning}
use Rattle.model.specs.Ranges.{Each}
use Rattle.model.specs.Tests.{same_list}
use Rattle.model.specs.Clauses.{Literal, holds, fails, Clause, Weighted, weight_of, top, hard, soft}
use Rattle.model.specs.Dimacs.{ascii, figure, digits_to, decimal, literal_text, literals_text, clause_text, clauses_text, head_text, weighing, variables_of, clauses_of, text_of}
use Rattle.model_laws.proofs.Bools.{both, and_l, and_r}
use Rattle.model_clauses.specs.Texts.{variable_of, numbered, TextIs}
use Rattle.model_clauses.specs.Reading.{and_then, line_begun, lines_of, word_begun, words_of, digits_from, number_in, variable_in, literal_in, zero_word, p_word, wcnf_word, clause_in, weighted_in, all_weighted, heading_in, hard_in, soft_in, problem_of, problem_in, read_text, ReadsBack}

-- every byte is at least n
abbrev From : ℕ → List ℕ → Type 0
From n bs = Each (λ c. n ≤ c) bs

from_join : (n : ℕ) (xs ys : List ℕ) → From n xs → From n ys → From n (xs ++ ys)
from_join n [] ys h i = i
from_join n (x ∷ xs) ys h i = (h.0, from_join n xs ys h.1 i)

from_less : (m n : ℕ) → m ≤ n → (bs : List ℕ) → From n bs → From m bs
from_less m n l [] h = tt
from_less m n l (c ∷ cs) h = (omega (arith, h.0), from_less m n l cs h.1)

-- ---- lines and words are cut where they end

line_step : (c : ℕ) (cs : List ℕ) → 32 ≤ c → lines_of (c ∷ cs) ≡ and_then (lines_of cs) (line_begun c)
unfolding lines_of
line_step c cs h = rw (ne_eqb c 10 (λ e. omega arith), lines_of)

word_step : (c : ℕ) (cs : List ℕ) → 33 ≤ c → words_of (c ∷ cs) ≡ word_begun c (words_of cs)
unfolding words_of
word_step c cs h = rw (ne_eqb c 32 (λ e. omega arith), words_of)

line_cut : (l rest : List ℕ) → From 32 l → lines_of (l ++ (10 ∷ rest)) ≡ and_then (lines_of rest) (λ ls. some (l ∷ ls))
unfolding lines_of
line_cut [] rest h = refl
line_cut (c ∷ cs) rest h =
    line_step c (cs ++ (10 ∷ rest)) h.0 ∙ ap (λ o. and_then o (line_begun c)) (line_cut cs rest h.1) ∙ go (lines_of rest)
  where
    go : (o : Option (List (List ℕ)))
        → and_then (and_then o (λ ls. some (cs ∷ ls))) (line_begun c) ≡ and_then o (λ ls. some ((c ∷ cs) ∷ ls))
    go none = unfold and_then in refl
    go (some ls) = unfold and_then line_begun in refl

word_cut : (w rest : List ℕ) → From 33 w → words_of (w ++ (32 ∷ rest)) ≡ w ∷ words_of rest
unfolding words_of
word_cut [] rest h = refl
word_cut (c ∷ cs) rest h =
    word_step c (cs ++ (32 ∷ rest)) h.0 ∙ ap (word_begun c) (word_cut cs rest h.1) ∙ (unfold word_begun in refl)

word_last : (w : List ℕ) → From 33 w → words_of w ≡ w ∷ []
unfolding words_of
word_last [] h = refl
word_last (c ∷ cs) h = word_step c cs h.0 ∙ ap (word_begun c) (word_last cs h.1) ∙ (unfold word_begun in refl)

-- ---- numbers

digits_join : (n : ℕ) (xs ys : List ℕ) → digits_from n (xs ++ ys) ≡ and_then (digits_from n xs) (λ m. digits_from m ys)
unfolding digits_from and_then
digits_join n [] ys = refl
digits_join n (c ∷ cs) ys = go (between 48 c 57) (digits_join (10 * n + (c - 48)) cs ys)
  where
    go : (b : Bool) → digits_from (10 * n + (c - 48)) (cs ++ ys) ≡ and_then (digits_from (10 * n + (c - 48)) cs) (λ m. digits_from m ys)
        → elim b [ true ↦ digits_from (10 * n + (c - 48)) (cs ++ ys) | false ↦ none ]
        ≡ and_then (elim b [ true ↦ digits_from (10 * n + (c - 48)) cs | false ↦ none ]) (λ m. digits_from m ys)
    go true e = e
    go false e = refl

figure_read : (m n : ℕ) → digits_from m (figure n ∷ []) ≡ some (10 * m + n % 10)
unfolding digits_from figure
figure_read m n =
    rw (both (leb 48 (48 + n % 10)) (leb (48 + n % 10) 57) (le-leb 48 (48 + n % 10) (omega arith)) (le-leb (48 + n % 10) 57 (omega arith)), digits_from)
    (ap {B = Option ℕ} some (omega arith))

digits_read : (k n : ℕ) → n ≤ k → digits_from 0 (digits_to k n) ≡ some n
unfolding digits_to
digits_read zero n l = figure_read 0 n ∙ ap {B = Option ℕ} some (omega arith)
digits_read (suc k) n l = go (ltb n 10) refl (λ h. digits_read k (n / 10) (omega arith))
  where
    go : (b : Bool) → ltb n 10 ≡ b → (10 ≤ n → digits_from 0 (digits_to k (n / 10)) ≡ some (n / 10))
        → digits_from 0 (elim b [ true ↦ figure n ∷ [] | false ↦ digits_to k (n / 10) ++ (figure n ∷ []) ]) ≡ some n
    go true e h = figure_read 0 n ∙ ap {B = Option ℕ} some (let q = ltb-true n 10 e in omega arith)
    go false e h =
        digits_join 0 (digits_to k (n / 10)) (figure n ∷ [])
        ∙ ap (λ o. and_then o (λ m. digits_from m (figure n ∷ []))) (h (ltb-false n 10 e))
        ∙ (unfold and_then in (figure_read (n / 10) n ∙ ap {B = Option ℕ} some (omega arith)))

-- the digits of a number are digits, at least one
digits_from_lem : (k n : ℕ) → From 48 (digits_to k n)
unfolding digits_to figure
digits_from_lem zero n = (omega arith, tt)
digits_from_lem (suc k) n = go (ltb n 10) (digits_from_lem k (n / 10))
  where
    go : (b : Bool) → From 48 (digits_to k (n / 10)) → From 48 (elim b [ true ↦ figure n ∷ [] | false ↦ digits_to k (n / 10) ++ (figure n ∷ []) ])
    go true h = (omega arith, tt)
    go false h = from_join 48 (digits_to k (n / 10)) (figure n ∷ []) h (omega arith, tt)

decimal_from : (n : ℕ) → From 48 (decimal n)
unfolding decimal
decimal_from n = digits_from_lem n n

number_of_digits : (xs : List ℕ) (y : ℕ) → number_in (xs ++ (y ∷ [])) ≡ digits_from 0 (xs ++ (y ∷ []))
unfolding number_in
number_of_digits [] y = refl
number_of_digits (x ∷ xs) y = refl

digits_number : (k n : ℕ) → number_in (digits_to k n) ≡ digits_from 0 (digits_to k n)
unfolding digits_to
digits_number zero n = number_of_digits [] (figure n)
digits_number (suc k) n = go (ltb n 10)
  where
    go : (b : Bool) → number_in (elim b [ true ↦ figure n ∷ [] | false ↦ digits_to k (n / 10) ++ (figure n ∷ []) ])
        ≡ digits_from 0 (elim b [ true ↦ figure n ∷ [] | false ↦ digits_to k (n / 10) ++ (figure n ∷ []) ])
    go true = number_of_digits [] (figure n)
    go false = number_of_digits (digits_to k (n / 10)) (figure n)

-- a number's text is read as the number
decimal-read : (n : ℕ) → number_in (decimal n) ≡ some n
unfolding decimal
decimal-read n = digits_number n n ∙ digits_read n n (omega arith)

-- ---- literals and clauses

-- a literal's text behind its blank
word_of : Literal → List ℕ
word_of (holds x) = decimal x
word_of (fails x) = 45 ∷ decimal x

word_from : (t : Literal) → From 33 (word_of t)
unfolding word_of
word_from (holds x) = from_less 33 48 (omega arith) (decimal x) (decimal_from x)
word_from (fails x) = (omega arith, from_less 33 48 (omega arith) (decimal x) (decimal_from x))

literal_is : (t : Literal) → literal_text t ≡ 32 ∷ word_of t
unfolding literal_text word_of
literal_is (holds x) = refl
literal_is (fails x) = refl

variable_read : (x : ℕ) → 1 ≤ x → variable_in x ≡ some x
unfolding variable_in
variable_read zero h = absurd (let y : ⊥ = omega arith in y)
variable_read (suc x) h = refl

digit_literal : (w : List ℕ) → From 48 w → literal_in w ≡ and_then (and_then (number_in w) variable_in) (λ x. some (holds x))
unfolding literal_in
digit_literal [] h = unfold number_in and_then in refl
digit_literal (c ∷ cs) h = rw (ne_eqb c 45 (λ e. omega (arith, h.0)), literal_in)

-- a literal's word is read as the literal
literal_read : (t : Literal) → 1 ≤ variable_of t → literal_in (word_of t) ≡ some t
unfolding word_of variable_of literal_in and_then
literal_read (holds x) h =
    digit_literal (decimal x) (decimal_from x)
    ∙ ap (λ o. and_then (and_then o variable_in) (λ x. some (holds x))) (decimal-read x)
    ∙ ap (λ o. and_then o (λ x. some (holds x))) (variable_read x h)
literal_read (fails x) h =
    ap (λ o. and_then (and_then o variable_in) (λ x. some (fails x))) (decimal-read x) ∙ ap (λ o. and_then o (λ x. some (fails x))) (variable_read x h)

-- the words behind a clause's weight
end_words : Clause → List (List ℕ)
end_words [] = zero_word ∷ []
end_words (t ∷ ts) = word_of t ∷ end_words ts

clause_words : (w : List ℕ) → From 33 w → (ts : Clause) → words_of (w ++ (literals_text ts ++ (32 ∷ 48 ∷ []))) ≡ w ∷ end_words ts
unfolding literals_text end_words
clause_words w h [] = word_cut w (48 ∷ []) h ∙ (unfold words_of word_begun zero_word in refl)
clause_words w h (t ∷ ts) =
    ap (λ (l : List ℕ). words_of (w ++ l))
    (append_assoc (literal_text t) (literals_text ts) (32 ∷ 48 ∷ [])
    ∙ ap (λ (l : List ℕ). l ++ (literals_text ts ++ (32 ∷ 48 ∷ []))) (literal_is t))
    ∙ word_cut w (word_of t ++ (literals_text ts ++ (32 ∷ 48 ∷ []))) h
    ∙ ap (λ (ws : List (List ℕ)). w ∷ ws) (clause_words (word_of t) (word_from t) ts)

clause_step : (w : List ℕ) (ts : Clause)
    → clause_in (w ∷ end_words ts) ≡ and_then (literal_in w) (λ t. and_then (clause_in (end_words ts)) (λ ts. some (t ∷ ts)))
unfolding clause_in end_words
clause_step w [] = refl
clause_step w (t ∷ ts) = refl

clause_read : (ts : Clause) → Each (λ t. 1 ≤ variable_of t) ts → clause_in (end_words ts) ≡ some ts
unfolding end_words and_then clause_in same_list zero_word
clause_read [] h = refl
clause_read (t ∷ ts) h =
    clause_step (word_of t) ts
    ∙ ap (λ o. and_then o (λ t. and_then (clause_in (end_words ts)) (λ ts. some (t ∷ ts)))) (literal_read t h.0)
    ∙ ap (λ o. and_then o (λ ts. some (t ∷ ts))) (clause_read ts h.1)

-- a weighted clause's line without its newline
line_of : Weighted → List ℕ
line_of c = decimal c.weight ++ (literals_text c.clause ++ (32 ∷ 48 ∷ []))

-- its variables are numbers from 1 on
abbrev Numbered : Weighted → Type 0
Numbered c = Each (λ t. 1 ≤ variable_of t) c.clause

line_read : (c : Weighted) → Numbered c → weighted_in (words_of (line_of c)) ≡ some c
unfolding line_of weighted_in and_then
line_read c h =
    ap weighted_in (clause_words (decimal c.weight) (from_less 33 48 (omega arith) (decimal c.weight) (decimal_from c.weight)) c.clause)
    ∙ ap (λ o. and_then o (λ n. and_then (clause_in (end_words c.clause)) (λ d. some (record { weight = n; clause = d })))) (decimal-read c.weight)
    ∙ ap (λ o. and_then o (λ d. some (record { weight = c.weight; clause = d }))) (clause_read c.clause h)

literals_from : (ts : Clause) → From 32 (literals_text ts)
unfolding literals_text
literals_from [] = tt
literals_from (t ∷ ts) =
    from_join 32 (literal_text t) (literals_text ts)
    (subst (From 32) (sym (literal_is t)) (omega arith, from_less 32 33 (omega arith) (word_of t) (word_from t))) (literals_from ts)

line_from : (c : Weighted) → From 32 (line_of c)
unfolding line_of
line_from c =
    from_join 32 (decimal c.weight) (literals_text c.clause ++ (32 ∷ 48 ∷ []))
    (from_less 32 48 (omega arith) (decimal c.weight) (decimal_from c.weight))
    (from_join 32 (literals_text c.clause) (32 ∷ 48 ∷ []) (literals_from c.clause) (omega arith, (omega arith, tt)))

-- ---- the lines of a text

clause_line : (c : Weighted) (rest : List ℕ) → clause_text c ++ rest ≡ line_of c ++ (10 ∷ rest)
unfolding clause_text line_of
clause_line c rest = simp append_assoc

all_lines : List Weighted → List (List ℕ)
all_lines [] = []
all_lines (c ∷ cs) = line_of c ∷ all_lines cs

clauses_lines_lem : (cs : List Weighted) → lines_of (clauses_text cs) ≡ some (all_lines cs)
unfolding clauses_text all_lines lines_of and_then
clauses_lines_lem [] = refl
clauses_lines_lem (c ∷ cs) =
    ap lines_of (clause_line c (clauses_text cs))
    ∙ line_cut (line_of c) (clauses_text cs) (line_from c)
    ∙ ap (λ o. and_then o (λ ls. some (line_of c ∷ ls))) (clauses_lines_lem cs)

clauses_read : (cs : List Weighted) → Each Numbered cs → all_weighted (all_lines cs) ≡ some cs
unfolding all_lines all_weighted and_then
clauses_read [] h = refl
clauses_read (c ∷ cs) h =
    ap (λ o. and_then o (λ c. and_then (all_weighted (all_lines cs)) (λ cs. some (c ∷ cs)))) (line_read c h.0)
    ∙ ap (λ o. and_then o (λ cs. some (c ∷ cs))) (clauses_read cs h.1)

-- ---- the head

-- the head's line without its newline
head_line : ℕ → ℕ → ℕ → List ℕ
head_line v c t = ascii "p wcnf " ++ (decimal v ++ (32 ∷ (decimal c ++ (32 ∷ decimal t))))

head_is : (v c t : ℕ) (rest : List ℕ) → head_text v c t ++ rest ≡ head_line v c t ++ (10 ∷ rest)
unfolding head_text head_line
head_is v c t rest = simp append_assoc

head_from : (v c t : ℕ) → From 32 (head_line v c t)
unfolding head_line ascii
head_from v c t =
    let d : (n : ℕ) → From 32 (decimal n) = λ n. from_less 32 48 (omega arith) (decimal n) (decimal_from n) in (
      omega arith,
      (
        omega arith,
        (
          omega arith,
          (
            omega arith,
            (
              omega arith,
              (
                omega arith,
                (
                  omega arith,
                  from_join 32 (decimal v) (32 ∷ (decimal c ++ (32 ∷ decimal t))) (d v)
                      (omega arith, from_join 32 (decimal c) (32 ∷ decimal t) (d c) (omega arith, d t)),
                ),
              ),
            ),
          ),
        ),
      ),
    )

head_words : (v c t : ℕ) → words_of (head_line v c t) ≡ p_word ∷ wcnf_word ∷ decimal v ∷ decimal c ∷ decimal t ∷ []
unfolding head_line ascii words_of word_begun p_word wcnf_word
head_words v c t =
    let d : (n : ℕ) → From 33 (decimal n) = λ n. from_less 33 48 (omega arith) (decimal n) (decimal_from n) in
    ap (λ (ws : List (List ℕ)). p_word ∷ wcnf_word ∷ ws)
    (word_cut (decimal v) (decimal c ++ (32 ∷ decimal t)) (d v)
    ∙ ap (λ (ws : List (List ℕ)). decimal v ∷ ws)
    (word_cut (decimal c) (decimal t) (d c) ∙ ap (λ (ws : List (List ℕ)). decimal c ∷ ws) (word_last (decimal t) (d t))))

head_read : (v c t : ℕ) → heading_in (words_of (head_line v c t)) ≡ some (record { variables = v; clauses = c; top = t })
unfolding heading_in same_list p_word wcnf_word and_then
head_read v c t =
    ap heading_in (head_words v c t)
    ∙ ap (λ o. and_then o (λ v. and_then (number_in (decimal c)) (λ c. and_then (number_in (decimal t)) (λ t.
    some (record { variables = v; clauses = c; top = t }))))) (decimal-read v)
    ∙ ap (λ o. and_then o (λ c. and_then (number_in (decimal t)) (λ t. some (record { variables = v; clauses = c; top = t })))) (decimal-read c)
    ∙ ap (λ o. and_then o (λ t. some (record { variables = v; clauses = c; top = t }))) (decimal-read t)

-- ---- the whole text

-- a text with any head and any clauses over variables from 1 on is read as they are
pub text_read : (v c t : ℕ) (cs : List Weighted) → Each Numbered cs
    → read_text (head_text v c t ++ clauses_text cs) ≡ some (problem_of (record { variables = v; clauses = c; top = t }) cs)
unfolding read_text problem_in and_then
text_read v c t cs h =
    ap (λ (l : List ℕ). and_then (lines_of l) problem_in) (head_is v c t (clauses_text cs))
    ∙ ap (λ o. and_then o problem_in)
    (line_cut (head_line v c t) (clauses_text cs) (head_from v c t) ∙ ap (λ o. and_then o (λ ls. some (head_line v c t ∷ ls))) (clauses_lines_lem cs))
    ∙ ap (λ o. and_then o (λ h. and_then (all_weighted (all_lines cs)) (λ cs. some (problem_of h cs)))) (head_read v c t)
    ∙ ap (λ o. and_then o (λ cs. some (problem_of (record { variables = v; clauses = c; top = t }) cs))) (clauses_read cs h)

-- ---- the hard and the soft clauses

light : (cs : List Weighted) (n : ℕ) → weight_of cs ≤ n → Each (λ (c : Weighted). c.weight ≤ n) cs
unfolding weight_of
light [] n l = tt
light (c ∷ cs) n l = (omega arith, light cs n (omega arith))

-- clauses below the head's weight are soft
soft-step : (t : ℕ) (d : Weighted) (ds : List Weighted) → d.weight < t → (hard_in t (d ∷ ds) ≡ hard_in t ds) × (soft_in t (d ∷ ds) ≡ d ∷ soft_in t ds)
unfolding hard_in soft_in
soft-step t d ds l = let e = ne_eqb d.weight t (λ e. omega arith) in (rw (e, hard_in), rw (e, soft_in))

all-soft : (t : ℕ) (ds : List Weighted) → Each (λ (c : Weighted). c.weight < t) ds → (hard_in t ds ≡ []) × (soft_in t ds ≡ ds)
all-soft t [] h = (unfold hard_in in refl, unfold soft_in in refl)
all-soft t (d ∷ ds) h =
    let e = soft-step t d ds h.0 in
    let i = all-soft t ds h.1 in
    (e.0 ∙ i.0, e.1 ∙ ap (λ (ds : List Weighted). d ∷ ds) i.1)

hard-step : (t : ℕ) (c : Clause) (ds : List Weighted)
    → (hard_in t (record { weight = t; clause = c } ∷ ds) ≡ c ∷ hard_in t ds) × (soft_in t (record { weight = t; clause = c } ∷ ds) ≡ soft_in t ds)
unfolding hard_in soft_in
hard-step t c ds = let e = eq-eqb t t refl in (rw (e, hard_in), rw (e, soft_in))

-- and those of that weight in front of them are hard
told_apart : (t : ℕ) (cs : List Clause) (ds : List Weighted) → Each (λ (c : Weighted). c.weight < t) ds
    → (hard_in t (weighing t cs ++ ds) ≡ cs) × (soft_in t (weighing t cs ++ ds) ≡ ds)
unfolding weighing
told_apart t [] ds h = all-soft t ds h
told_apart t (c ∷ cs) ds h =
    let e = hard-step t c (weighing t cs ++ ds) in
    let i = told_apart t cs ds h in
    (e.0 ∙ ap (λ (cs : List Clause). c ∷ cs) i.0, e.1 ∙ i.1)

-- ---- the text of an ask

under_top : (cs : List Weighted) → Each (λ (c : Weighted). c.weight < top cs) cs
unfolding top
under_top cs = less cs (light cs (weight_of cs) (omega arith))
  where
    less : (ds : List Weighted) → Each (λ (c : Weighted). c.weight ≤ weight_of cs) ds → Each (λ (c : Weighted). c.weight < weight_of cs + 1) ds
    less [] h = tt
    less (d ∷ ds) h = (omega (arith, h.0), less ds h.1)

each_from : (N : ℕ) (ts : Clause) → all (λ t. between 1 (variable_of t) N) ts ≡ true → Each (λ t. 1 ≤ variable_of t) ts
unfolding all
each_from N [] e = tt
each_from N (t ∷ ts) e = (
  leb-true 1 (variable_of t) (and_l (leb 1 (variable_of t)) (leb (variable_of t) N)
      (and_l (between 1 (variable_of t) N) (all (λ t. between 1 (variable_of t) N) ts) e)),
  each_from N ts (and_r (between 1 (variable_of t) N) (all (λ t. between 1 (variable_of t) N) ts) e),
)

-- what the numbering of all clauses says of their variables
numbered_each : (N : ℕ) (cs : List Weighted) → all (λ (c : Weighted). numbered N c.clause) cs ≡ true → Each Numbered cs
unfolding all
numbered_each N [] e = tt
numbered_each N (c ∷ cs) e = (
  go c.clause (and_l (numbered N c.clause) (all (λ (c : Weighted). numbered N c.clause) cs) e),
  numbered_each N cs (and_r (numbered N c.clause) (all (λ (c : Weighted). numbered N c.clause) cs) e),
)
  where
    go : (ts : Clause) → numbered N ts ≡ true → Each (λ t. 1 ≤ variable_of t) ts
    go ts e = unfold numbered in (each_from N ts e)

-- what a text with those clauses reads as
module _ (m : Meaning) (l : Line) (k lower upper a b : ℕ) (right : TextIs m l k lower upper a b) where
  pub reads : ReadsBack m l k lower upper a b
  unfolding text_of clauses_of problem_of
  reads =
      let t = top (soft m a b) in
      let cs = clauses_of m l k lower upper a b in
      let under : Each (λ (c : Weighted). c.weight < t) (soft m a b) = under_top (soft m a b) in
      let i = told_apart t (hard m l k lower upper) (soft m a b) under in
      text_read (variables_of m l k) (length cs) t cs (numbered_each (variables_of m l k) cs right.variables)
      ∙ (λ j. some (record {
        heading = record { variables = variables_of m l k; clauses = right.clauses j; top = t };
        hard = i.0 j;
        soft = i.1 j;
      }))
