-- The union of rows over a set: over two sets joined, over one member more, over a union of sets; and a walk that joins
-- the rows of a role set's members one by one.
-- Assumes nothing.
use mathlib.Core.Path.{◌≡◌, refl, sym, ap, ap₂, ◌∙◌}
use mathlib.Core.Bool.{Bool, true, false, ◌||◌}
use mathlib.Core.List.{List, [], ◌∷◌, map}
use Prim.Native.Nat.{ℕ, zero, suc, ◌^◌, ◌<◌}
use native.Mathlib.Omega.{arith}
use lib.Bits.{or_comm, or_self, or_zero_r}
use lib.ListN.{get_or, set, get_or-map}
use borrow.Author.Tests.{eqb-true, eq-eqb}
use borrow.Table.Steps.{cases}
use Rattle.model.specs.Tests.{pick}
use Rattle.model.specs.Sets.{has, union, with, count, union_to, union_at}
use Rattle.model_laws.proofs.Bools.{bool_ext}
use Rattle.model_laws.proofs.SetLaws.{has-union, has_power}
use Rattle.model_laws.proofs.AnyWidth.{same_sets, union_swap}
use Rattle.model_laws.proofs.UnionLaws.{has-union_to, union_to_none, union_at_none}
use Rattle.sets.specs.Members.{without, Lowest}
use Rattle.sets.specs.Words.{value, values}
use Rattle.sets.proofs.Taken.{without_lt, with-without, count-without}

-- ---- rows that are the same at the set's members
pub union_to_same : (f g : ℕ → ℕ) (s d : ℕ) → ((r : ℕ) → r < d → has s r ≡ true → f r ≡ g r) → union_to f s d ≡ union_to g s d
unfolding union_to pick
union_to_same f g s zero h = refl
union_to_same f g s (suc d) h =
    ap₂ union (union_to_same f g s d (λ r l m. h r (omega arith) m)) (cases (has s d) (λ e. rw e (h d (omega arith) e)) (λ e. rw e))

-- ---- over two sets joined

-- the order of unions does not matter
union_assoc : (a b c : ℕ) → union (union a b) c ≡ union a (union b c)
union_assoc a b c = or_comm (union a b) c ∙ union_swap c a b ∙ ap (union a) (or_comm c b)

crossed : (a b c d : ℕ) → union (union a b) (union c d) ≡ union (union a c) (union b d)
crossed a b c d = union_assoc a b (union c d) ∙ ap (union a) (union_swap b c d) ∙ sym (union_assoc a c (union b d))

-- a row taken by either of two tests
picked : (a b : Bool) (x : ℕ) → pick (a || b) x 0 ≡ union (pick a x 0) (pick b x 0)
unfolding pick
picked true true x = sym (or_self x)
picked true false x = sym (or_zero_r x)
picked false b x = refl

pub union_to-union : (row : ℕ → ℕ) (s t d : ℕ) → union_to row (union s t) d ≡ union (union_to row s d) (union_to row t d)
unfolding union_to
union_to-union row s t zero = refl
union_to-union row s t (suc d) =
    ap₂ (λ (x : ℕ) (b : Bool). union x (pick b (row d) 0)) (union_to-union row s t d) (has-union s t d)
    ∙ ap (union (union (union_to row s d) (union_to row t d))) (picked (has s d) (has t d) (row d))
    ∙ crossed (union_to row s d) (union_to row t d) (pick (has s d) (row d) 0) (pick (has t d) (row d) 0)

-- ---- over one member, and one member more
union_to-one : (row : ℕ → ℕ) (r d : ℕ) → r < d → union_to row (2 ^ r) d ≡ row r
union_to-one row r d l = same_sets (union_to row (2 ^ r) d) (row r) (λ m. bool_ext (has (union_to row (2 ^ r) d) m) (has (row r) m) (to m) (from m))
  where
    to : (m : ℕ) → has (union_to row (2 ^ r) d) m ≡ true → has (row r) m ≡ true
    to m e =
        let w = (has-union_to row (2 ^ r) m d).0 e in
        ap (λ (k : ℕ). has (row k) m) (sym (eqb-true w.member r (sym (has_power r w.member) ∙ w.chosen))) ∙ w.holds

    from : (m : ℕ) → has (row r) m ≡ true → has (union_to row (2 ^ r) d) m ≡ true
    from m e = (has-union_to row (2 ^ r) m d).1 (record { member = r; below = l; chosen = has_power r r ∙ eq-eqb r r refl; holds = e })

-- with the member r too
pub union_to-with : (row : ℕ → ℕ) (d s r : ℕ) → r < d → union_to row (with s r) d ≡ union (union_to row s d) (row r)
union_to-with row d s r l = union_to-union row s (2 ^ r) d ∙ ap (union (union_to row s d)) (union_to-one row r d l)

-- ---- over a union of sets: the union of the unions
union_to_unions : (row sets : ℕ → ℕ) (s d e : ℕ) → union_to (λ r. union_to row (sets r) e) s d ≡ union_to row (union_to sets s d) e
unfolding union_to pick
union_to_unions row sets s zero e = sym (union_to_none row e)
union_to_unions row sets s (suc d) e =
    ap₂ union (union_to_unions row sets s d e) (go (has s d))
    ∙ sym (union_to-union row (union_to sets s d) (pick (has s d) (sets d) 0) e)
  where
    go : (b : Bool) → pick b (union_to row (sets d) e) 0 ≡ union_to row (pick b (sets d) 0) e
    go true = refl
    go false = sym (union_to_none row e)

-- the same of tables
pub union_at_unions : (rows sets : List ℕ) (s : ℕ) → union_at (map (union_at rows) sets) s ≡ union_at rows (union_at sets s)
unfolding union_at
union_at_unions rows sets s =
    union_to_same (λ r. get_or (map (union_at rows) sets) r 0) (λ r. union_at rows (get_or sets r 0)) s 64
    (λ r l m. ap (get_or (map (union_at rows) sets) r) (sym (union_at_none rows)) ∙ get_or-map (union_at rows) sets r 0)
    ∙ union_to_unions (λ r. get_or rows r 0) (λ r. get_or sets r 0) s 64 64

-- ---- rows of four words

pub values_at : (rows : List (List ℕ)) (r : ℕ) → get_or (values rows) r 0 ≡ value (get_or rows r [])
unfolding values value
values_at rows r = get_or-map value rows r []

pub map-set : {A B : Type 0} (f : A → B) (l : List A) (i : ℕ) (y : A) → map f (set l i y) ≡ set (map f l) i (f y)
map-set f [] i y = refl
map-set f (x ∷ l) zero y = refl
map-set {A} {B} f (x ∷ l) (suc i) y = ap (λ (t : List B). f x ∷ t) (map-set f l i y)

pub values-set : (rows : List (List ℕ)) (r : ℕ) (row : List ℕ) → values (set rows r row) ≡ set (values rows) r (value row)
unfolding values
values-set rows r row = map-set value rows r row

-- a permission put into a row
pub row_put : (rows : List (List ℕ)) (r p : ℕ) (row : List ℕ) → value row ≡ with (value (get_or rows r [])) p
    → values (set rows r row) ≡ set (values rows) r (with (get_or (values rows) r 0) p)
row_put rows r p row e = values-set rows r row ∙ ap (set (values rows) r) (e ∙ ap (λ (x : ℕ). with x p) (sym (values_at rows r)))

pub union_at-values : (rows : List (List ℕ)) (s : ℕ) → union_at (values rows) s ≡ union_to (λ r. value (get_or rows r [])) s 64
unfolding union_at
union_at-values rows s = union_to_same (λ r. get_or (values rows) r 0) (λ r. value (get_or rows r [])) s 64 (λ r l m. values_at rows r)

-- ---- a walk through a role set by its members

-- `all` has the rows of the members of s so far, and those of `left` are still to come
pub record Joins (row : ℕ → ℕ) (s left all : ℕ) : Type 0 where
  pub small : left < 2 ^ 64
  pub whole : union all (union_to row left 64) ≡ union_to row s 64

module _ (row : ℕ → ℕ) (s : ℕ) where
  -- at first all are to come
  pub joins_start : (all : ℕ) → all ≡ 0 → s < 2 ^ 64 → Joins row s s all
  joins_start all e h = record { small = h; whole = rw e }

  -- at last none is
  pub joins_end : (left all : ℕ) → left ≡ 0 → Joins row s left all → all ≡ union_to row s 64
  joins_end left all e j =
      sym (or_zero_r all) ∙ ap (union all) (sym (union_to_none row 64)) ∙ ap (λ (x : ℕ). union all (union_to row x 64)) (sym e) ∙ j.whole

  module _ (left all r less : ℕ) (j : Joins row s left all) (low : Lowest left r) (el : less ≡ without left r) where
    -- the row of the lowest member to come is joined
    pub joins_next : (more : ℕ) → more ≡ union all (row r) → Joins row s less more
    joins_next more em =
        rw (el, em)
        (record {
          small = without_lt 64 left r j.small low.small;
          whole =
              or_comm (union all (row r)) (union_to row (without left r) 64)
              ∙ union_swap (union_to row (without left r) 64) all (row r)
              ∙ ap (union all)
              (sym (union_to-with row 64 (without left r) r low.small)
              ∙ ap (λ (x : ℕ). union_to row x 64) (with-without 64 left r j.small low.small low.member))
              ∙ j.whole;
        })

    -- one member fewer is to come
    pub joins_less : count 64 less < count 64 left
    joins_less = omega (arith, ap (count 64) el, count-without 64 left r j.small low.small low.member)
