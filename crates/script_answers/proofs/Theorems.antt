-- The theorems on what is printed for a script that comes in chunks, each one claim. The arguments stand in the file
-- that is cited.
-- Assumes nothing.
use mathlib.Core.Path.{◌≡◌}
use mathlib.Core.List.{List, [], ◌++◌}
use Prim.Native.Nat.{ℕ}
use lib.ListN.{drop}
use Rattle.model_script.specs.Script.{transcript}
use Rattle.script_input.specs.Kept.{lines_from}
use Rattle.script_input.specs.Joined.{joined, TakesAll}
use Rattle.script_answers.specs.declared.lines.Place.{Place}
use Rattle.script_answers.specs.Buffers.{outcome, AnswersLines, Standing, Begins, prints_from}
use Rattle.script_answers.proofs.Transcript

-- the text that a chunk's lines fill in may be written out before the next ones are answered
pub lines-printed : (image chunk line ledger : List ℕ) (p : Place) (line' ledger' filled : List ℕ) (r : Place)
    → AnswersLines image chunk line ledger [] p line' ledger' filled r → (text more : List ℕ)
    → outcome image ledger p.calls text (lines_from line (drop p.next chunk ++ more))
    ≡ outcome image ledger' r.calls (text ++ filled) (lines_from line' (drop r.next chunk ++ more))
lines-printed = Transcript.lines-printed

-- in whatever chunks the script comes, what is printed in the end is the transcript of the chunks joined
pub chunks_print : (image : List ℕ) (cs : List (List ℕ)) (a z : Standing) → Begins image a → TakesAll Standing (List ℕ) (prints_from image) cs a z
    → prints_from image z [] ≡ transcript image (joined cs)
chunks_print = Transcript.chunks_print
