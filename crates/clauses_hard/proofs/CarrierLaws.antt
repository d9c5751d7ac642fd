-- The roles that carry a permission, by a column of the table: listed lowest first, and the same as by the rows.
-- Assumes nothing.
use mathlib.Core.Path.{◌≡◌, refl, sym, ap, ◌∙◌}
use mathlib.Core.Bool.{false}
use mathlib.Core.List.{List, [], ◌∷◌, ◌++◌}
use Prim.Native.Nat.{ℕ, ◌+◌, ◌%◌, ◌^◌, ◌≤◌, ◌<◌}
use native.Mathlib.Nat.{mod-lt}
use native.Mathlib.Decide.{dec_lt}
use native.Mathlib.Omega.{arith}
use lib.Pow.{pow_pos}
use lib.ListN.{get_or}
use Rattle.model.specs.Tests.{all_below}
use Rattle.model.specs.Sets.{has, one, count}
use Rattle.model.specs.Clauses.{when, holds, fails, role_variable}
use Rattle.model.specs.Dimacs.{literal_text, literals_text}
use Rattle.model_laws.proofs.Every.{at_below}
use Rattle.model_laws.proofs.SetLaws.{has_low, has_beyond}
use Rattle.sets.specs.Members.{without, Lowest}
use Rattle.sets.specs.Words.{value, joined}
use Rattle.sets.proofs.Taken.{without_lt, without_gone, without_other, count-without}
use Rattle.query.specs.Carry.{Turned}
use Rattle.query_reduced.proofs.MetLaws.{every}
use Rattle.clauses_bytes.specs.Putting.{Puts}
use Rattle.clauses_lines.specs.Lines.{line_of, lines_of}
use Rattle.clauses_hard.specs.Parts.{roles_in, Columns, carrier, carriers_to, carried_one}
use Rattle.clauses_bytes.proofs.WritingLaws.{puts_as, Along, along_starts, along_goes}
use Rattle.clauses_lines.proofs.LineLaws.{lines-one}
use Rattle.clauses_counter.proofs.CounterLaws.{listed_none, listed_first, none_below}
use Rattle.model_clauses.proofs.ClauseLaws.{list_to_same}

-- ---- the roles of a set, lowest first

module _ (R s : ℕ) where
  -- only those below R count
  roles_low : (low : ℕ) → low ≡ s % 2 ^ R → roles_in R low ≡ roles_in R s
  unfolding roles_in
  roles_low low e =
      list_to_same R (λ r. when (has low r) (holds (role_variable r))) (λ r. when (has s r) (holds (role_variable r))) (λ r l. rw (e, has_low s R r l))

  pub roles_within : (low : ℕ) → low ≡ s % 2 ^ R → low < 2 ^ R
  roles_within low e = rw e (mod-lt s (pow_pos R))

  pub roles_start : (l : List ℕ) (at low : ℕ) → low ≡ s % 2 ^ R → Along l at (literals_text (roles_in R s)) (literals_text (roles_in R low)) l at
  roles_start l at low e = rw (roles_low low e) (along_starts l at (literals_text (roles_in R s)))

  pub roles_none : s ≡ 0 → [] ≡ literals_text (roles_in R s)
  unfolding roles_in literals_text
  roles_none e = rw (e, listed_none (λ r. holds (role_variable r)) R (has 0) (λ i l. has_beyond 0 0 i (omega arith) (omega arith)))

  module _ (k less : ℕ) (small : s < 2 ^ R) (low : Lowest s k) (e : less ≡ without s k) where
    inside : k < R
    inside = elim (dec_lt k R) [ yes q ↦ q | no q ↦ absurd (differ (has_beyond R s k small (omega arith))) ]
      where
        differ : has s k ≡ false → ⊥
        differ f = let z : ◌≡◌ {A = ℕ} 0 1 = ap one (sym f ∙ low.member) in omega arith

    roles_first : literals_text (roles_in R s) ≡ literal_text (holds (k + 1)) ++ literals_text (roles_in R less)
    unfolding roles_in literals_text
    roles_first =
        rw e
        (ap literals_text
        (listed_first (λ r. holds (role_variable r)) R k (has s) (has (without s k)) inside low.member (λ i l. none_below s k i low l)
        (without_gone s k low.member) (λ i n. without_other s k i low.member n)))

    -- the lowest role is put, and the others are left
    pub roles_goes : {l m a whole : List ℕ} {at n r : ℕ} → Puts m n (literal_text (holds (k + 1))) a r
        → Along l at whole (literals_text (roles_in R s)) m n → Along l at whole (literals_text (roles_in R less)) a r
    roles_goes p t = along_goes roles_first t p

    pub roles_small : less < 2 ^ R
    roles_small = rw e (without_lt R s k small inside)

    pub roles_fewer : count R less < count R s
    roles_fewer = omega (arith, ap (count R) e, count-without R s k small inside low.member)

-- ---- a column

-- all permissions are wanted, of the roles below R
pub columns_are : (R : ℕ) (row : ℕ → ℕ) (t : List ℕ) (low : ℕ) → R ≤ 64 → low ≡ every % 2 ^ R
    → Turned row t (value (every ∷ every ∷ every ∷ every ∷ [])) low → Columns R row t
unfolding value joined all_below has
columns_are R row t low n e turned =
    record {
      same =
          λ r q h g. turned r q (rw (e, has_low every R r h) (at_below (has every) 64 refl r (omega arith)))
          (at_below (has (value (every ∷ every ∷ every ∷ every ∷ []))) 256 refl q g);
    }

-- the line by the column is that by the rows
column_line : (w R : ℕ) (row : ℕ → ℕ) (t : List ℕ) (q : ℕ) → q < 256 → Columns R row t
    → line_of w (fails (R + q + 1) ∷ roles_in R (get_or t q 0)) ≡ lines_of w (carried_one R row q ∷ [])
unfolding roles_in carried_one carriers_to carrier
column_line w R row t q g columns =
    ap (λ (x : List _). line_of w (fails (R + q + 1) ∷ x))
    (list_to_same R (λ r. when (has (get_or t q 0) r) (holds (role_variable r))) (λ r. when (has (row r) q) (holds (role_variable r)))
    (λ r l. rw (columns.same r q l g)))
    ∙ lines-one w (carried_one R row q)

pub column_put : {l a : List ℕ} {at r : ℕ} (w R : ℕ) (row : ℕ → ℕ) (t : List ℕ) (q : ℕ)
    → Puts l at (line_of w (fails (R + q + 1) ∷ roles_in R (get_or t q 0))) a r
    → Columns R row t → q < 256 → Puts l at (lines_of w (carried_one R row q ∷ [])) a r
column_put w R row t q p columns g = puts_as (column_line w R row t q g columns) p
