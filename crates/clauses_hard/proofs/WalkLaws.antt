-- Lines put from one member of a set to the next.
-- Assumes nothing.
use mathlib.Core.Path.{◌≡◌, ap, ◌∙◌}
use mathlib.Core.Bool.{true}
use mathlib.Core.List.{List, [], append-nil}
use Prim.Native.Nat.{ℕ, zero, suc, ◌+◌, ◌-◌, ◌≤◌, ◌<◌}
use native.Mathlib.Omega.{arith}
use Rattle.model.specs.Sets.{has}
use Rattle.model.specs.Clauses.{Clause, list_to, when}
use Rattle.clauses_bytes.specs.Putting.{Puts}
use Rattle.clauses_lines.specs.Lines.{line_of, lines_of}
use Rattle.clauses_hard.specs.Members.{Next}
use Rattle.clauses_bytes.proofs.WritingLaws.{puts_as}
use Rattle.clauses_lines.proofs.LineLaws.{lines_none, lines_next, lines-done, line_if}

-- numbers that have nothing add nothing to a list
listed_on : {A : Type 0} (f : ℕ → List A) (i d : ℕ) → ((k : ℕ) → i ≤ k → k < i + d → f k ≡ []) → list_to i f ≡ list_to (i + d) f
unfolding list_to
listed_on f i zero h = let e : i + 0 ≡ i = omega arith in rw e
listed_on f i (suc d) h =
    let e : i + suc d ≡ suc (i + d) = omega arith in
    rw (e, list_to, h (i + d) (omega arith) (omega arith), append-nil) (listed_on f i d (λ k a b. h k a (omega arith)))

-- the lines g k of the members k of s below q are put, and q is the next member, or the end
pub record Walked (w s end : ℕ) (g : ℕ → Clause) (before : List ℕ) (at q : ℕ) (after : List ℕ) (next : ℕ) : Type 0 where
  pub inside : q ≤ end
  pub member : q < end → has s q ≡ true
  pub puts : Puts before at (lines_of w (list_to q (λ k. when (has s k) (g k)))) after next

module _ {w s end : ℕ} {g : ℕ → Clause} where
  -- the numbers that are passed have no line
  walk_on : {l a : List ℕ} {at n : ℕ} (i q : ℕ) → Next s i end q → Puts l at (lines_of w (list_to i (λ k. when (has s k) (g k)))) a n
      → Walked w s end g l at q a n
  unfolding when
  walk_on i q step p =
      let e : i + (q - i) ≡ q = omega (arith, step.behind) in
      record {
        inside = step.inside;
        member = step.member;
        puts =
            puts_as
            (ap (lines_of w) (listed_on (λ k. when (has s k) (g k)) i (q - i) (λ k a b. rw (step.between k a (omega arith))) ∙ rw e))
            p;
      }

  pub walk_starts : (l : List ℕ) (at q : ℕ) → Next s 0 end q → Walked w s end g l at q l at
  walk_starts l at q step = walk_on 0 q step (lines_none w (λ k. when (has s k) (g k)) l at)

  -- a member's line is put, and the next member looked up
  pub walk_goes : {l m a : List ℕ} {at n r : ℕ} (q next : ℕ) → q < end → Walked w s end g l at q m n → Puts m n (line_of w (g q)) a r
      → Next s (q + 1) end next → Walked w s end g l at next a r
  walk_goes q next h walk p step =
      walk_on (q + 1) next step (lines_next w (λ k. when (has s k) (g k)) q walk.puts (line_if w (has s q) (g q) (walk.member h) p))

  pub walk_ends : {l a : List ℕ} {at n : ℕ} (q : ℕ) → end ≤ q → Walked w s end g l at q a n
      → Puts l at (lines_of w (list_to end (λ k. when (has s k) (g k)))) a n
  walk_ends q h walk = lines-done w (λ k. when (has s k) (g k)) q end walk.inside h walk.puts
