-- The turns of the loop that makes the rows that roles carry.
-- Assumes nothing.
use mathlib.Core.Path.{◌≡◌, refl, sym, ap, ◌∙◌}
use mathlib.Core.Bool.{Bool, true, false}
use mathlib.Core.List.{List, [], ◌∷◌}
use Prim.Native.Nat.{ℕ, zero, suc, ◌^◌, ◌<◌}
use native.Mathlib.Omega.{arith}
use lib.Dec.{eqb}
use lib.ListN.{length, get_or, set, replicate, length-map, length-set}
use lib.Seq.{ext_get_or, get_or-set_same, get_or-set_other}
use borrow.Author.Tests.{eqb-true, eqb-false}
use Rattle.model.specs.Tests.{pick}
use Rattle.model.specs.Sets.{has, with, union_at}
use Rattle.model.specs.Policy.{table_of, with_selves}
use Rattle.model_laws.proofs.Bools.{and_l}
use Rattle.model_laws.proofs.UnionLaws.{has_none}
use Rattle.model_laws.proofs.Closure.{length-table_of, get_d_table_of}
use Rattle.sets.specs.Members.{without, Lowest}
use Rattle.sets.specs.Words.{value, joined, values}
use Rattle.sets.proofs.Taken.{has-without, without_lt, without_other}
use Rattle.sets.proofs.Unions.{values-set}
use Rattle.tables_rows.specs.Carried.{carried_rows}

-- a table of 64 rows
pub length_selves : (rows : List ℕ) → length (with_selves rows) ≡ 64
unfolding with_selves
length_selves rows = length-table_of 64 (λ a. with (get_or rows a 0) a)

-- ---- the rows of the roles that are asked for

-- row r of a table for the roles of `wanted`
abbrev pub wanted_row : List ℕ → List ℕ → ℕ → ℕ → ℕ
wanted_row granted reached wanted r = pick (has wanted r) (union_at granted (get_or reached r 0)) 0

-- the rows of the roles of `left` are still to be made, the others are
pub record Made (granted reached : List ℕ) (wanted left : ℕ) (out : List (List ℕ)) : Type 0 where
  pub size : length out ≡ 64
  pub small : left < 2 ^ 64
  pub inside : (r : ℕ) → has left r ≡ true → has wanted r ≡ true
  pub rows : (r : ℕ) → has left r ≡ false → get_or (values out) r 0 ≡ wanted_row granted reached wanted r

module _ (granted reached : List ℕ) (wanted : ℕ) where
  -- a table of empty rows
  empty_rows_lem : (n r : ℕ) → get_or (values (replicate n (0 ∷ 0 ∷ 0 ∷ 0 ∷ []))) r 0 ≡ 0
  unfolding values value joined
  empty_rows_lem zero r = refl
  empty_rows_lem (suc n) zero = refl
  empty_rows_lem (suc n) (suc r) = empty_rows_lem n r

  -- at first none of the rows of `wanted` is made
  pub made_start : wanted < 2 ^ 64 → Made granted reached wanted wanted (replicate 64 (0 ∷ 0 ∷ 0 ∷ 0 ∷ []))
  unfolding pick
  made_start h =
      record {
        size = refl;
        small = h;
        inside = λ r m. m;
        rows = λ r m. empty_rows_lem 64 r ∙ sym (ap (λ (b : Bool). pick b (union_at granted (get_or reached r 0)) 0) m);
      }

  -- at last all are
  made_end : (left : ℕ) (out : List (List ℕ)) → left ≡ 0 → Made granted reached wanted left out → values out ≡ table_of 64 (wanted_row granted reached wanted)
  unfolding values
  made_end left out e m =
      ext_get_or 0 (values out) (table_of 64 (wanted_row granted reached wanted))
      (length-map out value ∙ m.size ∙ sym (length-table_of 64 (wanted_row granted reached wanted)))
      (λ r l.
      m.rows r (ap (λ (x : ℕ). has x r) e ∙ has_none r)
      ∙ sym (get_d_table_of 64 (wanted_row granted reached wanted) r (omega (arith, length-map out value ∙ m.size))))

  module _ (left r less : ℕ) (out : List (List ℕ)) (m : Made granted reached wanted left out) (low : Lowest left r) (el : less ≡ without left r) where
    -- the row of the lowest role to come is stored
    pub made_next : (row : List ℕ) → value row ≡ union_at granted (get_or reached r 0) → Made granted reached wanted less (set out r row)
    unfolding values pick
    made_next row er =
        rw el
        (record {
          size = simp length-set m.size;
          small = without_lt 64 left r m.small low.small;
          inside = λ i h. m.inside i (and_l (has left i) _ (sym (has-without left r i low.member) ∙ h));
          rows = λ i h. ap (λ (x : List ℕ). get_or x i 0) (values-set out r row) ∙ go i h (eqb i r) refl;
        })
      where
        go : (i : ℕ) → has (without left r) i ≡ false → (b : Bool) → eqb i r ≡ b
            → get_or (set (values out) r (value row)) i 0 ≡ wanted_row granted reached wanted i
        go i h true e =
            let q : i ≡ r = eqb-true i r e in
            ap (λ (x : ℕ). get_or (set (values out) r (value row)) x 0) q
            ∙ get_or-set_same (values out) r (value row) 0 (omega (arith, low.small, length-map out value ∙ m.size)) ∙ er
            ∙ sym (ap (wanted_row granted reached wanted) q ∙ ap (λ (b : Bool). pick b (union_at granted (get_or reached r 0)) 0) (m.inside r low.member))
        go i h false e =
            let q = eqb-false i r e in
            get_or-set_other (values out) r i (value row) 0 q ∙ m.rows i (sym (without_other left r i low.member q) ∙ h)

-- by the closed table, these are the rows that roles carry
pub made_all : (granted below : List ℕ) (wanted left : ℕ) (out : List (List ℕ)) → left ≡ 0 → Made granted (with_selves below) wanted left out
    → values out ≡ carried_rows granted below wanted
unfolding carried_rows
made_all granted below wanted left out e m = made_end granted (with_selves below) wanted left out e m
