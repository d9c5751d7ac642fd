-- The whole text, part after part, and how many clauses it has.
-- Assumes nothing.
use mathlib.Core.Path.{◌≡◌, sym, ◌∙◌}
use mathlib.Core.List.{List, ◌++◌, append_assoc}
use Prim.Native.Nat.{ℕ, ◌+◌}
use lib.ListN.{length, length-append}
use Rattle.model.specs.Clauses.{top, row}
use Rattle.model.specs.Dimacs.{decimal, clauses_text, head_text, weighing}
use Rattle.clauses_bytes.specs.Putting.{Puts, packed_text}
use Rattle.clauses_bytes.proofs.WritingLaws.{put2}
use Rattle.clauses_lines.specs.Lines.{lines_of}
use Rattle.clauses_hard.specs.Parts.{barring_to, carrying_to, carried_to, lower_bound_to, upper_bound_to, hard_by}
use Rattle.clauses_counter.specs.Counters.{counters}
use Rattle.clauses_soft.specs.Soft.{wanting_permissions, wanting_roles, soft_by}
use Rattle.clauses_hard.specs.Sizes.{helpers_to, hard_size}
use Rattle.clauses_text.specs.Whole.{clauses_by, text_by}
use Rattle.clauses_lines.proofs.LineLaws.{lines-joined, lines-weighing, softs_joined}
use Rattle.model_clauses.proofs.DimacsProof.{length-weighing}
use Rattle.clauses_hard.proofs.SizeLaws.{hard-length}

pub clauses_length :
    (R P s : ℕ) (row : ℕ → ℕ) (lower upper : ℕ) (masks ns : List ℕ) (k a b : ℕ)
    → length (clauses_by R P s row lower upper masks ns k a b) ≡ hard_size R P s row lower upper masks ns k + length (soft_by R P a b)
unfolding clauses_by
clauses_length R P s row lower upper masks ns k a b =
    length-append (weighing (top (soft_by R P a b)) (hard_by R P s row lower upper masks ns k)) (soft_by R P a b)
    ∙ rw (length-weighing (top (soft_by R P a b)) (hard_by R P s row lower upper masks ns k), hard-length R P s row lower upper masks ns k)

pub hard_text :
    (w R P s : ℕ) (row : ℕ → ℕ) (lower upper : ℕ) (masks ns : List ℕ) (k : ℕ)
    → lines_of w (barring_to R s)
    ++ (lines_of w (carrying_to R P row)
    ++ (lines_of w (carried_to R P row)
    ++ (lines_of w (lower_bound_to R P lower) ++ (lines_of w (upper_bound_to R P upper) ++ lines_of w (counters masks ns k 0 (R + P))))))
    ≡ lines_of w (hard_by R P s row lower upper masks ns k)
unfolding hard_by
hard_text w R P s row lower upper masks ns k = sym (simp (lines-joined w, append_assoc))

pub soft_put : {l m c : List ℕ} {at n r : ℕ} (R P a b : ℕ) → Puts m n (clauses_text (wanting_roles R b)) c r
    → Puts l at (clauses_text (wanting_permissions R P a)) m n → Puts l at (clauses_text (soft_by R P a b)) c r
unfolding soft_by
soft_put R P a b q p = put2 q p (sym (softs_joined (wanting_permissions R P a) (wanting_roles R b)))

pub whole_text :
    (R P s : ℕ) (row : ℕ → ℕ) (lower upper : ℕ) (masks ns : List ℕ) (k a b : ℕ) (p w h m n : ℕ)
    → packed_text p ≡ decimal w → w ≡ top (soft_by R P a b)
    → h ≡ helpers_to masks ns k → m ≡ hard_size R P s row lower upper masks ns k → n ≡ length (soft_by R P a b)
    → head_text (R + P + h) (m + n) w ++ (lines_of p (hard_by R P s row lower upper masks ns k) ++ clauses_text (soft_by R P a b))
    ≡ text_by R P s row lower upper masks ns k a b
unfolding text_by clauses_by
whole_text R P s row lower upper masks ns k a b p w h m n ep ew eh em en =
    rw (
      lines-weighing p w (hard_by R P s row lower upper masks ns k) ep,
      ew,
      eh,
      em,
      en,
      sym (clauses_length R P s row lower upper masks ns k a b),
      softs_joined (weighing (top (soft_by R P a b)) (hard_by R P s row lower upper masks ns k)) (soft_by R P a b),
    )
