-- The lines of the counts, one behind the other.
-- Assumes nothing.
use mathlib.Core.Path.{◌≡◌, refl, sym, ap}
use mathlib.Core.List.{◌++◌}
use Prim.Native.Nat.{ℕ, zero, suc, ◌+◌, ◌≤◌, ◌<◌}
use native.Mathlib.Numerals.{add-one}
use native.Mathlib.Omega.{arith}
use Rattle.script_text.specs.declared.Writer.{Writer}
use Rattle.script_text.specs.Writing.{Writes}
use Rattle.script_text.proofs.TextLaws.{writes-nothing}
use Rattle.model_survey.specs.Survey.{two_figures, count_line, count_lines}

pub count_none : (w : Writer) (n c : ℕ) → c < 1 → Writes w w (count_line n c)
unfolding count_line
count_none w n zero h = writes-nothing w
count_none w n (suc c) h = absurd (omega arith)

pub count_some_lem : (n c : ℕ) → 1 ≤ c → two_figures n c ≡ count_line n c
unfolding count_line
count_some_lem n zero h = absurd (omega arith)
count_some_lem n (suc c) h = refl

pub counts_begin : (f : ℕ → ℕ) (w : Writer) → Writes w w (count_lines f 0)
unfolding count_lines
counts_begin f w = writes-nothing w

pub counts-next : (f : ℕ → ℕ) (n : ℕ) → count_lines f n ++ count_line n (f n) ≡ count_lines f (n + 1)
unfolding count_lines
counts-next f n = sym (ap (count_lines f) (add-one n))

pub counts_all : (f : ℕ → ℕ) (n d : ℕ) → n ≤ d → d ≤ n → count_lines f n ≡ count_lines f d
counts_all f n d h k = let e : n ≡ d = omega arith in ap (count_lines f) e
