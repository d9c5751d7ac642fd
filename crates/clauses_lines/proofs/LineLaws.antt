-- Lines of clauses.
-- Assumes nothing.
use mathlib.Core.Path.{◌≡◌, refl, sym, ap, ◌∙◌}
use mathlib.Core.Bool.{Bool, true, false, not}
use mathlib.Core.List.{List, [], ◌∷◌, ◌++◌, append_assoc, append-nil}
use Prim.Native.Nat.{ℕ, suc, ◌+◌, ◌^◌, ◌≤◌, ◌<◌}
use native.Mathlib.Numerals.{add-one}
use native.Mathlib.Omega.{arith}
use lib.ListN.{length, length-append}
use Rattle.model.specs.Clauses.{Literal, holds, fails, Clause, Weighted, list_to, when}
use Rattle.model.specs.Dimacs.{decimal, literal_text, literals_text, clause_text, clauses_text, weighing}
use Rattle.clauses_bytes.specs.Putting.{Puts, Sets, packed_text}
use Rattle.clauses_lines.specs.Lines.{line_of, lines_of}
use Rattle.clauses_bytes.proofs.WritingLaws.{put_nothing, puts_as, put2, put3, put4, put5}
use Rattle.clauses_bytes.proofs.RoomLaws.{put_far}

-- ---- a literal: its blank and its sign, then its variable

pub holds_put : {l m a : List ℕ} {at n r : ℕ} (x : ℕ) → Puts m n (decimal x) a r → Puts l at (32 ∷ []) m n → Puts l at (literal_text (holds x)) a r
unfolding literal_text
holds_put x q p = put2 q p refl

pub fails_put : {l m a : List ℕ} {at n r : ℕ} (x : ℕ) → Puts m n (decimal x) a r → Puts l at (32 ∷ 45 ∷ []) m n → Puts l at (literal_text (fails x)) a r
unfolding literal_text
fails_put x q p = put2 q p refl

-- how long it is, by its variable's digits
pub holds_width : (x w : ℕ) → w ≡ length (decimal x) → 1 + w ≡ length (literal_text (holds x))
unfolding literal_text
holds_width x w e = omega (arith, e)

pub fails_width : (x w : ℕ) → w ≡ length (decimal x) → 2 + w ≡ length (literal_text (fails x))
unfolding literal_text
fails_width x w e = omega (arith, e)

-- behind the end of a buffer, by its width
module _ (l : List ℕ) (at : ℕ) (g : length l ≤ at) (h : at < 2 ^ 63) where
  pub literal_far : (t : Literal) (a : ℕ) → a ≡ length (literal_text t) → a ≤ 8 → Puts l at (literal_text t) l (at + a)
  literal_far t a e f = put_far l at (literal_text t) (at + a) g (omega arith) (omega arith)

  pub end_far : Puts l at (32 ∷ 48 ∷ 10 ∷ []) l (at + 3)
  end_far = put_far l at (32 ∷ 48 ∷ 10 ∷ []) (at + 3) g (omega arith) refl

  -- lines there, by the widths of the weight and the literals
  module _ (w p a b : ℕ) (t u : Literal) (ep : p ≡ length (packed_text w)) (fp : p ≤ 5) (ea : a ≡ length (literal_text t)) (fa : a ≤ 8)
      (eb : b ≡ length (literal_text u)) (fb : b ≤ 8) where
    pub two_far : Puts l at (line_of w (t ∷ u ∷ [])) l (at + p + a + b + 3)
    unfolding line_of literals_text
    two_far = put_far l at _ (at + p + a + b + 3) g (simp length-append (omega arith)) (simp length-append (omega arith))

    pub three_far : (c : ℕ) (x : Literal) → c ≡ length (literal_text x) → c ≤ 8 → Puts l at (line_of w (t ∷ u ∷ x ∷ [])) l (at + p + a + b + c + 3)
    unfolding line_of literals_text
    three_far c x ec fc =
        put_far l at _ (at + p + a + b + c + 3) g (simp length-append (omega arith)) (simp length-append (omega arith))

-- a literal that is set
pub holds_set : {l m a : List ℕ} {at n r : ℕ} (x : ℕ) → Sets m n 6 (decimal x) a r → Sets l at 1 (32 ∷ []) m n → Sets l at 8 (literal_text (holds x)) a r
holds_set x q p =
    record { puts = holds_put x q.puts p.puts; reached = omega (arith, q.reached, p.reached); size = q.size ∙ p.size }

pub fails_set : {l m a : List ℕ} {at n r : ℕ} (x : ℕ) → Sets m n 6 (decimal x) a r → Sets l at 2 (32 ∷ 45 ∷ []) m n → Sets l at 8 (literal_text (fails x)) a r
fails_set x q p =
    record { puts = fails_put x q.puts p.puts; reached = omega (arith, q.reached, p.reached); size = q.size ∙ p.size }

-- ---- the literals of a line, put one behind the other between its weight and its end, the last one first

module _ {l m a : List ℕ} {at n r : ℕ} (w : ℕ) where
  pub line-one : {k : List ℕ} {o : ℕ} (t : Literal) → Puts k o (32 ∷ 48 ∷ 10 ∷ []) a r → Puts m n (literal_text t) k o
      → Puts l at (packed_text w) m n → Puts l at (line_of w (t ∷ [])) a r
  unfolding line_of literals_text
  line-one t s q p = put3 s q p (rw append-nil)

  pub line-two : {k j : List ℕ} {o s : ℕ} (t u : Literal) → Puts j s (32 ∷ 48 ∷ 10 ∷ []) a r → Puts k o (literal_text u) j s
      → Puts m n (literal_text t) k o → Puts l at (packed_text w) m n → Puts l at (line_of w (t ∷ u ∷ [])) a r
  unfolding line_of literals_text
  line-two t u v s q p = put4 v s q p (rw (append-nil, append_assoc))

  pub line_three : {k j i : List ℕ} {o s v : ℕ} (t u x : Literal) → Puts i v (32 ∷ 48 ∷ 10 ∷ []) a r → Puts j s (literal_text x) i v
      → Puts k o (literal_text u) j s → Puts m n (literal_text t) k o → Puts l at (packed_text w) m n → Puts l at (line_of w (t ∷ u ∷ x ∷ [])) a r
  unfolding line_of literals_text
  line_three t u x v y s q p = put5 v y s q p (rw (append-nil, append_assoc, append_assoc))

  -- a literal, and those behind it
  pub line_more : {k j : List ℕ} {o s : ℕ} (t : Literal) (ts : Clause) → Puts j s (32 ∷ 48 ∷ 10 ∷ []) a r → Puts k o (literals_text ts) j s
      → Puts m n (literal_text t) k o → Puts l at (packed_text w) m n → Puts l at (line_of w (t ∷ ts)) a r
  unfolding line_of literals_text
  line_more t ts u s q p = put4 u s q p (rw append_assoc)

-- ---- lines one behind the other

pub lines-joined : (w : ℕ) (cs ds : List Clause) → lines_of w (cs ++ ds) ≡ lines_of w cs ++ lines_of w ds
unfolding lines_of
lines-joined w [] ds = refl
lines-joined w (c ∷ cs) ds = rw (lines-joined w cs ds) (sym (append_assoc (line_of w c) (lines_of w cs) (lines_of w ds)))

-- lines behind a packed number are those of its weight
pub lines-weighing : (p w : ℕ) (cs : List Clause) → packed_text p ≡ decimal w → lines_of p cs ≡ clauses_text (weighing w cs)
unfolding lines_of line_of weighing clauses_text clause_text
lines-weighing p w [] e = refl
lines-weighing p w (c ∷ cs) e = rw (e, lines-weighing p w cs e)

pub softs_joined : (cs ds : List Weighted) → clauses_text (cs ++ ds) ≡ clauses_text cs ++ clauses_text ds
unfolding clauses_text
softs_joined [] ds = refl
softs_joined (c ∷ cs) ds = rw (softs_joined cs ds) (sym (append_assoc (clause_text c) (clauses_text cs) (clauses_text ds)))

-- one line is what there is of one clause
pub lines-one : (w : ℕ) (c : Clause) → line_of w c ≡ lines_of w (c ∷ [])
unfolding lines_of
lines-one w c = sym (append-nil _)

pub line_put : {l a : List ℕ} {at r : ℕ} (w : ℕ) (c : Clause) → Puts l at (line_of w c) a r → Puts l at (lines_of w (c ∷ [])) a r
line_put w c p = puts_as (lines-one w c) p

-- ---- a list by number, text after text

module _ {A : Type 0} (text : List A → List ℕ) (none : text [] ≡ []) (join : (xs ys : List A) → text (xs ++ ys) ≡ text xs ++ text ys) (f : ℕ → List A) where
  list_none : (l : List ℕ) (at : ℕ) → Puts l at (text (list_to 0 f)) l at
  unfolding list_to
  list_none l at = puts_as (sym none) (put_nothing l at)

  list_next :
      {l m a : List ℕ} {at n r : ℕ} (i : ℕ) → Puts l at (text (list_to i f)) m n → Puts m n (text (f i)) a r → Puts l at (text (list_to (i + 1) f)) a r
  unfolding list_to
  list_next i p q = let e : i + 1 ≡ suc i = add-one i in put2 q p (rw e (sym (join (list_to i f) (f i))))

  list_done : {l a : List ℕ} {at r : ℕ} (i n : ℕ) → i ≤ n → n ≤ i → Puts l at (text (list_to i f)) a r → Puts l at (text (list_to n f)) a r
  list_done i n g h p = let e : i ≡ n = omega arith in rw e at p

module _ (w : ℕ) (f : ℕ → List Clause) where
  pub lines_none : (l : List ℕ) (at : ℕ) → Puts l at (lines_of w (list_to 0 f)) l at
  unfolding lines_of
  lines_none = list_none (lines_of w) refl (lines-joined w) f

  pub lines_next :
      {l m a : List ℕ} {at n r : ℕ} (i : ℕ) → Puts l at (lines_of w (list_to i f)) m n → Puts m n (lines_of w (f i)) a r
      → Puts l at (lines_of w (list_to (i + 1) f)) a r
  unfolding lines_of
  lines_next = list_next (lines_of w) refl (lines-joined w) f

  pub lines-done : {l a : List ℕ} {at r : ℕ} (i n : ℕ) → i ≤ n → n ≤ i → Puts l at (lines_of w (list_to i f)) a r → Puts l at (lines_of w (list_to n f)) a r
  unfolding lines_of
  lines-done = list_done (lines_of w) refl (lines-joined w) f

module _ (f : ℕ → List Weighted) where
  pub softs_none : (l : List ℕ) (at : ℕ) → Puts l at (clauses_text (list_to 0 f)) l at
  unfolding clauses_text
  softs_none = list_none clauses_text refl softs_joined f

  pub softs_next :
      {l m a : List ℕ} {at n r : ℕ} (i : ℕ) → Puts l at (clauses_text (list_to i f)) m n → Puts m n (clauses_text (f i)) a r
      → Puts l at (clauses_text (list_to (i + 1) f)) a r
  unfolding clauses_text
  softs_next = list_next clauses_text refl softs_joined f

  pub softs_done : {l a : List ℕ} {at r : ℕ} (i n : ℕ) → i ≤ n → n ≤ i → Puts l at (clauses_text (list_to i f)) a r → Puts l at (clauses_text (list_to n f)) a r
  unfolding clauses_text
  softs_done = list_done clauses_text refl softs_joined f

-- ---- one clause where a test holds

pub line_if : {l a : List ℕ} {at r : ℕ} (w : ℕ) (b : Bool) (c : Clause) → b ≡ true → Puts l at (line_of w c) a r → Puts l at (lines_of w (when b c)) a r
unfolding when
line_if w b c e p = rw e (line_put w c p)

-- one clause where a test fails, by what the test gave
pub line-barred : {l a : List ℕ} {at r : ℕ} {t : Bool} (w : ℕ) (b : Bool) (c : Clause) → t ≡ b → t ≡ false → Puts l at (line_of w c) a r
    → Puts l at (lines_of w (when (not b) c)) a r
line-barred w b c e f p = line_if w (not b) c (ap not (sym e ∙ f)) p

pub line-allowed : {t : Bool} (l : List ℕ) (at w : ℕ) (b : Bool) (c : Clause) → t ≡ b → t ≡ true → Puts l at (lines_of w (when (not b) c)) l at
unfolding when lines_of
line-allowed l at w b c e f = let n : not b ≡ false = ap not (sym e ∙ f) in rw n (put_nothing l at)
