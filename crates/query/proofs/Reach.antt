-- What the roles of a set carry from a role on: the turns of the loop that makes the table.
-- Assumes nothing.
use mathlib.Core.Path.{◌≡◌, refl, sym, ap, subst, ◌∙◌}
use mathlib.Core.Bool.{Bool, true, false}
use mathlib.Core.List.{List, []}
use Prim.Native.Nat.{ℕ, ◌-◌, ◌≤◌, ◌<◌}
use native.Mathlib.Omega.{arith}
use lib.Dec.{eqb}
use lib.ListN.{length, set}
use lib.Seq.{get_or-set_same, get_or-set_other}
use borrow.Author.Tests.{eqb-true, eqb-false}
use Rattle.model.specs.Tests.{pick}
use Rattle.model.specs.Sets.{has, union}
use Rattle.model_laws.proofs.Bools.{not_both}
use Rattle.sets.specs.Words.{value}
use Rattle.query.specs.Carry.{rows_of, Sub, Reaches}
use Rattle.query.proofs.Members.{left_sub, right_sub}

-- the rows of the table from `from` on are made, and all has what each role of the set from there on carries
pub record Reached (row : ℕ → ℕ) (s : ℕ) (out : List (List ℕ)) (all from : ℕ) : Type 0 where
  pub joined : (i : ℕ) → from ≤ i → i < 64 → has s i ≡ true → Sub (row i) all
  pub rows : (r i : ℕ) → from ≤ r → r ≤ i → i < 64 → has s i ≡ true → Sub (row i) (rows_of out r)

module _ (row : ℕ → ℕ) (s : ℕ) (out : List (List ℕ)) where
  pub reached_none : (all : ℕ) → Reached row s out all 64
  reached_none all = record { joined = λ i f l m. absurd (omega arith); rows = λ r i f g l m. absurd (omega arith) }

  pub reached-all : (all from : ℕ) → from ≡ 0 → Reached row s out all from → Reaches row (rows_of out) s
  reached-all all from e h = record { rows = λ r i g l m. h.rows r i (omega arith) g l m }

  -- one role down: its row joins where it is one of the set
  pub reached-next : (all left : ℕ) (next : List ℕ) (on : Bool) → length out ≡ 64 → 0 < left → left ≤ 64 → on ≡ has s (left - 1)
      → value next ≡ union all (pick on (row (left - 1)) 0) → Reached row s out all left
      → Reached row s (set out (left - 1) next) (value next) (left - 1)
  unfolding pick
  reached-next all left next on len pos most eo en h =
      record { joined = add; rows = λ r i f g l m. at r i f g l m (eqb r (left - 1)) refl }
    where
      own : (b : Bool) → b ≡ true → Sub (row (left - 1)) (union all (pick b (row (left - 1)) 0))
      own true e = right_sub all (row (left - 1))
      own false e = absurd (not_both false e refl)

      grown : (i : ℕ) → left - 1 ≤ i → i < 64 → has s i ≡ true → (b : Bool) → eqb i (left - 1) ≡ b → Sub (row i) (union all (pick on (row (left - 1)) 0))
      grown i f l m true e =
          let q : i ≡ left - 1 = eqb-true i (left - 1) e in
          subst (λ (x : ℕ). Sub (row x) (union all (pick on (row (left - 1)) 0))) (sym q) (own on (eo ∙ ap (has s) (sym q) ∙ m))
      grown i f l m false e =
          let q = eqb-false i (left - 1) e in
          λ p k. left_sub all (pick on (row (left - 1)) 0) p (h.joined i (omega arith) l m p k)

      add : (i : ℕ) → left - 1 ≤ i → i < 64 → has s i ≡ true → Sub (row i) (value next)
      add i f l m = subst (Sub (row i)) (sym en) (grown i f l m (eqb i (left - 1)) refl)

      at : (r i : ℕ) → left - 1 ≤ r → r ≤ i → i < 64 → has s i ≡ true → (b : Bool) → eqb r (left - 1) ≡ b → Sub (row i) (rows_of (set out (left - 1) next) r)
      at r i f g l m true e =
          let q : r ≡ left - 1 = eqb-true r (left - 1) e in
          subst (Sub (row i)) (sym (ap (rows_of (set out (left - 1) next)) q ∙ ap value (get_or-set_same out (left - 1) next [] (omega arith))))
          (add i (omega arith) l m)
      at r i f g l m false e =
          let q = eqb-false r (left - 1) e in
          subst (Sub (row i)) (sym (ap value (get_or-set_other out (left - 1) r next [] q))) (h.rows r i (omega arith) g l m)
