-- The lines that come by the bytes of an input are its lines, each up to its 174th byte, and have the same answers.
-- Assumes nothing.
use mathlib.Core.Path.{◌≡◌, refl, sym, ap, ◌∙◌}
use mathlib.Core.Bool.{Bool, true, false}
use mathlib.Core.List.{List, [], ◌∷◌, ◌++◌, append-nil, map}
use Prim.Native.Nat.{ℕ, ◌≤◌, ◌<◌}
use native.Mathlib.Omega.{arith}
use lib.Dec.{eqb, ltb}
use lib.ListN.{length, take, length-append}
use lib.Seq.{length-take-le, take_all, take-append-le, append_snoc}
use borrow.Author.Tests.{ltb-true, ltb-false, eqb-true, eqb-false}
use Rattle.model_script.specs.Script.{begun, lines_of, parse, answer_by, answer_to}
use Rattle.model_script.proofs.LengthLaws.{first_bytes_parse}
use Rattle.script_input.specs.Kept.{keeping, last_line, lines_from}
use Rattle.script_input.proofs.Steps.{keeping-one, keeping_none, by_newline, by_other}

-- ---- the bytes that are kept of a line

-- they are its first 174
keeping-first : (line : List ℕ) (c : ℕ) → keeping (take 174 line) c ≡ take 174 (line ++ (c ∷ []))
keeping-first line c = go (ltb (length line) 174) refl
  where
    go : (b : Bool) → ltb (length line) 174 ≡ b → keeping (take 174 line) c ≡ take 174 (line ++ (c ∷ []))
    go true e =
        let h : length line < 174 = ltb-true _ _ e in
        rw (take_all 174 line (omega arith), take_all 174 (line ++ (c ∷ [])) (omega (arith, length-append line (c ∷ [])))) (keeping-one line c h)
    go false e =
        let h : 174 ≤ length line = ltb-false _ _ e in
        keeping_none (take 174 line) c (omega (arith, length-take-le 174 line h)) ∙ sym (take-append-le 174 line (c ∷ []) h)

-- and they are the call that the line is
pub kept_answer : (image ledger line : List ℕ) → answer_to image ledger (take 174 line) ≡ answer_to image ledger line
unfolding answer_to
kept_answer image ledger line = ap (answer_by image ledger) (go (ltb 173 (length line)) refl)
  where
    go : (b : Bool) → ltb 173 (length line) ≡ b → parse (take 174 line) ≡ parse line
    go true e = first_bytes_parse line (ltb-true _ _ e)
    go false e = let h : length line ≤ 173 = ltb-false _ _ e in ap parse (take_all 174 line (omega arith))

-- ---- the lines of what is left, behind a line that is begun

behind : List ℕ → List (List ℕ) → List (List ℕ)
behind [] [] = []
behind (c ∷ cs) [] = (c ∷ cs) ∷ []
behind [] (l ∷ ls) = l ∷ ls
behind (c ∷ cs) (l ∷ ls) = ((c ∷ cs) ++ l) ∷ ls

behind-begun : (line : List ℕ) (c : ℕ) (ls : List (List ℕ)) → behind line (begun c ls) ≡ behind (line ++ (c ∷ [])) ls
unfolding behind begun
behind-begun [] c [] = refl
behind-begun (b ∷ line) c [] = refl
behind-begun [] c (l ∷ ls) = refl
behind-begun (b ∷ line) c (l ∷ ls) = ap (λ x. (b ∷ x) ∷ ls) (sym (append_snoc line c l))

behind-nothing : (ls : List (List ℕ)) → behind [] ls ≡ ls
unfolding behind
behind-nothing [] = refl
behind-nothing (l ∷ ls) = refl

behind_newline : (line : List ℕ) (ls : List (List ℕ)) → behind line ([] ∷ ls) ≡ line ∷ ls
unfolding behind
behind_newline [] ls = refl
behind_newline (c ∷ line) ls = ap (λ x. (c ∷ x) ∷ ls) (append-nil line)

-- the lines of an input that starts with a newline, or with another byte
lines_newline : (c : ℕ) (cs : List ℕ) → eqb c 10 ≡ true → lines_of (c ∷ cs) ≡ [] ∷ lines_of cs
unfolding lines_of
lines_newline c cs e = rw (e, lines_of)

lines_other : (c : ℕ) (cs : List ℕ) → eqb c 10 ≡ false → lines_of (c ∷ cs) ≡ begun c (lines_of cs)
unfolding lines_of
lines_other c cs e = rw (e, lines_of)

-- ---- the whole

-- the lines, each as far as it is kept
abbrev pub cut : List (List ℕ) → List (List ℕ)
cut ls = map (take 174) ls

at-end : (line : List ℕ) → lines_from (take 174 line) [] ≡ cut (behind line [])
unfolding lines_from last_line behind
at-end [] = refl
at-end (c ∷ line) = refl

abbrev From : List ℕ → Type 0
From cs = (line : List ℕ) → lines_from (take 174 line) cs ≡ cut (behind line (lines_of cs))

newline_here : (c : ℕ) (cs : List ℕ) → eqb c 10 ≡ true → From cs → From (c ∷ cs)
newline_here c cs e rest line =
    by_newline (take 174 line) c cs (eqb-true c 10 e)
    ∙ ap (λ x. take 174 line ∷ x) (rest [] ∙ ap cut (behind-nothing (lines_of cs)))
    ∙ ap cut (sym (ap (behind line) (lines_newline c cs e) ∙ behind_newline line (lines_of cs)))

other_here : (c : ℕ) (cs : List ℕ) → eqb c 10 ≡ false → From cs → From (c ∷ cs)
other_here c cs e rest line =
    by_other (take 174 line) c cs (eqb-false c 10 e)
    ∙ ap (λ x. lines_from x cs) (keeping-first line c)
    ∙ rest (line ++ (c ∷ []))
    ∙ ap cut (sym (ap (behind line) (lines_other c cs e) ∙ behind-begun line c (lines_of cs)))

from_here : (cs : List ℕ) → From cs
unfolding lines_of
from_here [] line = at-end line
from_here (c ∷ cs) line = go (λ l. from_here cs l) (eqb c 10) refl
  where
    go : From cs → (b : Bool) → eqb c 10 ≡ b → lines_from (take 174 line) (c ∷ cs) ≡ cut (behind line (lines_of (c ∷ cs)))
    go rest true e = newline_here c cs e rest line
    go rest false e = other_here c cs e rest line

-- The lines by bytes are the lines of the input, each up to its 174th byte.
pub kept_lines : (input : List ℕ) → lines_from [] input ≡ cut (lines_of input)
kept_lines input = from_here input [] ∙ ap cut (behind-nothing (lines_of input))
