-- The closed grant table row after row, and the call that gives it, a law for each way that it goes.
-- Assumes nothing.
use mathlib.Core.Path.{◌≡◌, refl, sym, ap, ap₂, ◌∙◌}
use mathlib.Core.Bool.{Bool}
use mathlib.Core.List.{List, ◌++◌, append-nil}
use Prim.Native.Nat.{ℕ, ◌+◌, ◌-◌, ◌*◌, ◌≤◌, ◌<◌}
use native.Mathlib.Nat.{zero-add}
use native.Mathlib.Omega.{arith}
use lib.ListN.{length, get_or, drop, replicate}
use mir.Syntax.{w64}
use mir.Val.{Fits}
use borrow.Author.Tests.{eq-eqb, ne_eqb}
use Rattle.model.specs.Sets.{union_at}
use Rattle.model.specs.Bytes.{bytes_of}
use Rattle.model.specs.Policy.{Policy, below_table, with_selves, carried_table}
use Rattle.model.specs.Ranges.{InRange}
use Rattle.model.specs.Run.{line_at}
use Rattle.model_laws.proofs.LineLaws.{length-bytes_of}
use Rattle.hierarchy.specs.Replies.{Replies}
use Rattle.octets.specs.Splice.{splice, bytes_of_all}
use Rattle.sets.specs.Words.{value}
use Rattle.grant_table_turned.specs.Turned.{joined}
use Rattle.grant_table.specs.Table.{grant_table, row_bytes}
use Rattle.grant_table.specs.TableCalls.{table_on}
use Rattle.grant_table_turned.proofs.Rows.{line-joined, lines-joined, joined-more, joined_put, joined_same}
use Rattle.grant_table.proofs.TableProof.{table_size, row_made, row_empty}
use Rattle.grant_table_turned.proofs.Parts.{row_bytes_lem}
use Rattle.grant_table_turned.proofs.CallProof.{sized, done_by, left_by_lem}

-- ---- the closed grant table, row after row
module _ (granted below room : List ℕ) where
  row_size_lem : (r : ℕ) → length (row_bytes granted below r) ≡ 32
  unfolding row_bytes
  row_size_lem r = length-bytes_of 32 (union_at granted (get_or (with_selves below) r 0))

  -- the first r rows are in place, and behind them the buffer is as it was
  pub rows_to : ℕ → List ℕ
  rows_to r = joined (row_bytes granted below) 0 r ++ drop (32 * r) room

  pub rows_start : room ≡ rows_to 0
  unfolding rows_to joined
  rows_start = refl

  pub rows_next : (r : ℕ) (ws s t : List ℕ) → length ws ≡ 4 → ((i : ℕ) → Fits w64 (get_or ws i 0))
      → value ws ≡ union_at granted (get_or (with_selves below) r 0) → s ≡ rows_to r → t ≡ splice s (32 * r) (bytes_of_all ws) → t ≡ rows_to (r + 1)
  unfolding rows_to
  rows_next r ws s t n fit v e q =
      let made : bytes_of 32 (value ws) ≡ row_bytes granted below r = unfold row_bytes in (ap (bytes_of 32) v) in
      q ∙ ap (splice s (32 * r)) (row_bytes_lem ws n fit ∙ made ∙ sym (append-nil (row_bytes granted below r)))
      ∙ unfold joined in (joined_put (row_bytes granted below) 32 row_size_lem room s r 1 e)

  pub rows_last : (roles r : ℕ) → r ≤ roles → roles ≤ r → (s : List ℕ) → s ≡ rows_to r
      → s ≡ joined (row_bytes granted below) 0 roles ++ drop (32 * roles) room
  unfolding rows_to
  rows_last roles r a b s e = let q : r ≡ roles = omega arith in e ∙ ap (λ (x : ℕ). joined (row_bytes granted below) 0 x ++ drop (32 * x) room) q

-- zeros are empty rows
zero_line : (i : ℕ) → i < 64 → line_at 32 i (replicate 2048 0) ≡ replicate 32 0
zero_line i h = unfold joined in (line-joined (λ k. replicate 32 0) 32 (λ k. refl) 0 64 i h)

module _ (p : Policy) (room : List ℕ) where
  pub table_19 : ¬ (length room ≡ 2048) → Replies (table_on p (length room)) 19 room room
  unfolding table_on
  table_19 n = left_by_lem room (grant_table p) (table_on p (length room)) (ap (λ (x : Bool). sized x (grant_table p)) (ne_eqb (length room) 2048 n))

  module _ (range : InRange p) (granted below : List ℕ) (roles : ℕ) (eg : granted ≡ p.granted) (eb : below ≡ below_table p) (er : p.head.roles ≡ roles) where
    abbrev row : ℕ → List ℕ
    row = row_bytes granted below

    row_is : (r : ℕ) → row r ≡ bytes_of 32 (get_or (carried_table p) r 0)
    row_is r = ap₂ (λ (g b : List ℕ). row_bytes g b r) eg eb ∙ row_made p r

    -- the rows of other roles are zeros
    zero_row : (r : ℕ) → roles ≤ r → r < 64 → row r ≡ line_at 32 r (replicate 2048 0)
    unfolding bytes_of
    zero_row r l h = row_is r ∙ ap (bytes_of 32) (row_empty p range r (omega (arith, er, l)) h) ∙ sym (zero_line r h)

    whole : joined row 0 roles ++ drop (32 * roles) (replicate 2048 0) ≡ grant_table p
    unfolding grant_table
    whole =
        let n : ℕ = 64 - roles in
        let l = range.roles.1 in
        let s : roles + n ≡ 64 = omega (arith, er, l) in
        ap (λ (x : List ℕ). joined row 0 roles ++ x)
        (sym (lines-joined row 32 (replicate 2048 0) n roles (ap (λ (x : ℕ). 32 * x) (sym s)) (λ i a b. zero_row i a (omega arith))))
        ∙ ap (λ (x : ℕ). joined row 0 roles ++ joined row x n) (sym (zero-add roles))
        ∙ sym (joined-more row 0 roles n) ∙ ap (joined row 0) s
        ∙ joined_same row (λ r. bytes_of 32 (get_or (carried_table p) r 0)) row_is 0 64

    pub table_done : length room ≡ 2048 → (zeros after : List ℕ) → zeros ≡ replicate 2048 0 → after ≡ joined row 0 roles ++ drop (32 * roles) zeros
        → Replies (table_on p (length room)) 0 room after
    unfolding table_on
    table_done n zeros after z e =
        done_by room (grant_table p) (table_on p (length room)) (table_size p) after
        (ap (λ (x : Bool). sized x (grant_table p)) (eq-eqb (length room) 2048 n))
        (e ∙ ap (λ (x : List ℕ). joined row 0 roles ++ drop (32 * roles) x) z ∙ whole)
