-- The refusals of an image by its words have the numbers 1 to 8.
-- Assumes nothing.
use mathlib.Core.Path.{◌≡◌}
use mathlib.Core.Bool.{Bool, not}
use mathlib.Core.List.{List}
use Prim.Native.Nat.{ℕ, zero, suc, ◌+◌, ◌%◌, ◌^◌, ◌≤◌}
use native.Mathlib.Omega.{arith}
use lib.Dec.{eqb}
use lib.ListN.{length}
use borrow.Author.Tests.{eqb-false}
use Rattle.model.specs.declared.Head.{Head}
use Rattle.model.specs.declared.Scan.{Scan}
use Rattle.model.specs.declared.Word.{Word}
use Rattle.model.specs.declared.Checked.{Checked}
use Rattle.model.specs.declared.Checked.TheVariants.{Accepted, Refused}
use Rattle.model.specs.Image.{word_at, decode, wrong_kind, in_range, repeats, crowds, entry_fault, fault, assigning, next, balanced, scan, head_of, head_right, length_right, empty_rows, start, behind_head, judge_words}
use Rattle.model.specs.Ranges.{OneTo}
use Rattle.model_laws.proofs.Bools.{pick-case, elim_case}

-- a refusal has one of the numbers from 1 to b
abbrev pub Numbered : ℕ → Checked → Type 0
Numbered b (Accepted h) = Unit {0}
Numbered b (Refused n place) = OneTo b n

fault-small : (h : Head) (rows : List ℕ) (t : Scan) (final : Bool) (w : Word) → fault h rows t final w ≤ 8
unfolding fault entry_fault
fault-small h rows t final w =
    pick-case (λ n. n ≤ 8) (wrong_kind final t.due w.entry) 3 _ (λ _. omega arith)
    (λ _. pick-case (λ n. n ≤ 8) (not (eqb w.spare 0)) 4 _ (λ _. omega arith)
    (λ _. pick-case (λ n. n ≤ 8) (not (in_range h w.entry)) 5 _ (λ _. omega arith)
    (λ _. pick-case (λ n. n ≤ 8) (repeats t w.entry) 6 _ (λ _. omega arith)
    (λ _. pick-case (λ n. n ≤ 8) (crowds rows t w.entry) 7 0 (λ _. omega arith) (λ _. omega arith)))))

scan-numbered : (s : List ℕ) (h : Head) (n place : ℕ) (rows : List ℕ) (t : Scan) (sum : ℕ) → Numbered 8 (scan s h n place rows t sum)
unfolding scan balanced
scan-numbered s h zero place rows t sum = pick-case (Numbered 8) (eqb (sum % 2 ^ 28) 0) _ _ (λ _. tt) (λ _. (omega arith, omega arith))
scan-numbered s h (suc n) place rows t sum =
    let w = decode (word_at s place) in
    let x = fault h rows t (eqb n 0) w in
    elim_case (Numbered 8) (eqb x 0) _ _
    (λ e. scan-numbered s h n (place + 1) (assigning rows w.entry) (next t w.entry) ((sum + word_at s place) % 2 ^ 32))
    (λ e. let k : x ≡ 0 → ⊥ = eqb-false x 0 e in (omega arith, fault-small h rows t (eqb n 0) w))

pub words-numbered : (s : List ℕ) → Numbered 8 (judge_words s)
unfolding judge_words
words-numbered s =
    elim_case (Numbered 8) (length_right (length s)) _ _
    (λ _. elim_case (Numbered 8) (head_right (word_at s 0)) _ _
    (λ _. scan-numbered s (head_of (word_at s 0)) (behind_head s) 1 empty_rows start (word_at s 0)) (λ _. (omega arith, omega arith)))
    (λ _. (omega arith, omega arith))
