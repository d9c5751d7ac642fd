-- The turns of the loops that close the juniors' table.
-- Assumes nothing.
use mathlib.Core.Path.{◌≡◌, refl, sym, ap, ap₂, ◌∙◌}
use mathlib.Core.Bool.{Bool, true, false}
use mathlib.Core.List.{List, [], ◌∷◌, ◌++◌, map}
use Prim.Native.Nat.{ℕ, zero, suc, ◌+◌, ◌≤◌, ◌<◌, suc-le-suc}
use native.Mathlib.Omega.{arith}
use native.Mathlib.Numerals.{add-one}
use native.Mathlib.Nat.{le_of_suc-le-suc, not-suc-le-zero}
use lib.Bits.{or_zero_r}
use lib.ListN.{length, get_or, set, take, drop, length-map, get_or-eq_default}
use Rattle.std.proofs.lemmas.List.{map-append, take-append-drop, get_or-drop}
use Rattle.model.specs.Tests.{pick}
use Rattle.model.specs.Sets.{has, union}
use Rattle.model.specs.Policy.{taking, through, closure_by}
use Rattle.model_laws.proofs.Closure.{taking_none}
use Rattle.hierarchy.specs.Upper.{EmptyFrom}

-- ---- a table mapped in place, row by row

unfoldable pub map_to : (ℕ → ℕ) → ℕ → List ℕ → List ℕ
map_to f zero l = l
map_to f (suc i) [] = []
map_to f (suc i) (x ∷ l) = f x ∷ map_to f i l

pub map_to_none : (f : ℕ → ℕ) (l : List ℕ) → l ≡ map_to f 0 l
unfolding map_to
map_to_none f l = refl

pub map_to_at : (f : ℕ → ℕ) (i : ℕ) (l : List ℕ) → get_or (map_to f i l) i 0 ≡ get_or l i 0
unfolding map_to
map_to_at f zero l = refl
map_to_at f (suc i) [] = refl
map_to_at f (suc i) (x ∷ l) = map_to_at f i l

map_to_set : (f : ℕ → ℕ) (i : ℕ) (l : List ℕ) → i < length l → set (map_to f i l) i (f (get_or l i 0)) ≡ map_to f (suc i) l
unfolding map_to
map_to_set f zero [] h = absurd (not-suc-le-zero h)
map_to_set f zero (x ∷ l) h = refl
map_to_set f (suc i) [] h = absurd (not-suc-le-zero h)
map_to_set f (suc i) (x ∷ l) h = ap (λ (t : List ℕ). f x ∷ t) (map_to_set f i l (le_of_suc-le-suc h))

-- the rows from i on are empty, and stay so
map_to_rest : (f : ℕ → ℕ) → f 0 ≡ 0 → (i : ℕ) (l : List ℕ) → EmptyFrom i l → map_to f i l ≡ map f l
unfolding map_to
map_to_rest f e zero [] z = refl
map_to_rest f e zero (x ∷ l) z =
    let q : x ≡ 0 = z 0 (omega arith) in
    ap₂ (λ (y : ℕ) (t : List ℕ). y ∷ t) (q ∙ sym e ∙ ap f (sym q)) (map_to_rest f e zero l (λ r h. z (suc r) (omega arith)))
map_to_rest f e (suc i) [] z = refl
map_to_rest f e (suc i) (x ∷ l) z = ap (λ (t : List ℕ). f x ∷ t) (map_to_rest f e i l (λ r h. z (suc r) (suc-le-suc h)))

mapped_at : (f : ℕ → ℕ) → f 0 ≡ 0 → (l : List ℕ) (r : ℕ) → get_or (map f l) r 0 ≡ f (get_or l r 0)
mapped_at f e [] zero = sym e
mapped_at f e [] (suc r) = sym e
mapped_at f e (x ∷ l) zero = refl
mapped_at f e (x ∷ l) (suc r) = mapped_at f e l r

-- rows that are empty stay so
map_empty : (f : ℕ → ℕ) → f 0 ≡ 0 → (l : List ℕ) → EmptyFrom 0 l → map f l ≡ l
map_empty f e [] z = refl
map_empty f e (x ∷ l) z =
    let q : x ≡ 0 = z 0 (omega arith) in
    ap₂ (λ (y : ℕ) (t : List ℕ). y ∷ t) (ap f q ∙ e ∙ sym q) (map_empty f e l (λ r h. z (suc r) (omega arith)))

pub row_taken : (k other : ℕ) (rows₀ rows : List ℕ) (i row : ℕ) → rows ≡ map_to (taking k other) i rows₀ → i < length rows₀
    → row ≡ taking k other (get_or rows i 0) → set rows i row ≡ map_to (taking k other) (i + 1) rows₀
row_taken k other rows₀ rows i row e h er =
    rw (er, e, map_to_at (taking k other) i rows₀, add-one) (map_to_set (taking k other) i rows₀ h)

-- the rows below m are taken in, and those from m on are empty
pub all_taken : (k : ℕ) (rows₀ : List ℕ) (m i : ℕ) (rows : List ℕ) → EmptyFrom m rows₀ → length (take m rows₀) ≤ i
    → rows ≡ map_to (taking k (get_or rows₀ k 0)) i (take m rows₀) → rows ++ drop m rows₀ ≡ through k rows₀
unfolding through
all_taken k rows₀ m i rows z g e =
    let f = taking k (get_or rows₀ k 0) in
    let none = taking_none k (get_or rows₀ k 0) in
    let upper : map f (drop m rows₀) ≡ drop m rows₀ = map_empty f none (drop m rows₀) (λ r h. get_or-drop m rows₀ r 0 ∙ z (m + r) (omega arith)) in
    let lower : rows ≡ map f (take m rows₀)
    = e ∙ map_to_rest f none i (take m rows₀) (λ r h. get_or-eq_default (take m rows₀) 0 (omega arith)) in
    ap₂ (λ (x y : List ℕ). x ++ y) lower (sym upper) ∙ sym (map-append f (take m rows₀) (drop m rows₀)) ∙ ap (map f) (take-append-drop m rows₀)

pub length_closure : (n : ℕ) (rows : List ℕ) → length (closure_by n rows) ≡ length rows
unfolding closure_by through
length_closure zero rows = refl
length_closure (suc n) rows = length-map (closure_by n rows) (taking n (get_or (closure_by n rows) n 0)) ∙ length_closure n rows

pub empty_closure : (m n : ℕ) (rows : List ℕ) → EmptyFrom m rows → EmptyFrom m (closure_by n rows)
unfolding closure_by through
empty_closure m zero rows z = z
empty_closure m (suc n) rows z = λ r l.
    let other : ℕ = get_or (closure_by n rows) n 0 in
    mapped_at (taking n other) (taking_none n other) (closure_by n rows) r ∙ ap (taking n other) (empty_closure m n rows z r l) ∙ taking_none n other

-- a table of n rows has no more
pub empty_behind : (n : ℕ) (rows : List ℕ) → length rows ≡ n → EmptyFrom n rows
empty_behind n rows e = λ r l. get_or-eq_default rows 0 (omega arith)

pub closure_none : (rows : List ℕ) → rows ≡ closure_by 0 rows
unfolding closure_by
closure_none rows = refl

pub closure_next : (k : ℕ) (rows₀ rows rows' : List ℕ) → rows ≡ closure_by k rows₀ → rows' ≡ through k rows → rows' ≡ closure_by (k + 1) rows₀
unfolding closure_by
closure_next k rows₀ rows rows' e f = rw (f, e, add-one)

-- ---- an empty row is passed over

-- an empty row adds nothing
taking_empty : (k row : ℕ) → taking k 0 row ≡ row
unfolding taking pick
taking_empty k row = go (has row k)
  where
    go : (b : Bool) → pick b (union row 0) row ≡ row
    go true = or_zero_r row
    go false = refl

-- where row k is empty, no row changes
pub passed_over : (k : ℕ) (rows : List ℕ) → get_or rows k 0 ≡ 0 → rows ≡ through k rows
unfolding through
passed_over k rows e = sym (ap (λ (x : ℕ). map (taking k x) rows) e ∙ same rows)
  where
    same : (l : List ℕ) → map (taking k 0) l ≡ l
    same [] = refl
    same (x ∷ l) = ap₂ (λ (y : ℕ) (t : List ℕ). y ∷ t) (taking_empty k x) (same l)
