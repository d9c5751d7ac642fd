-- The run by bytes prints the transcript, in whatever chunks the bytes come and however often the text so far is
-- written out.
-- Assumes nothing.
use mathlib.Core.Path.{◌≡◌, refl, sym, ap, ◌∙◌}
use mathlib.Core.List.{List, [], ◌∷◌, ◌++◌, append-nil, append_assoc}
use Prim.Native.Nat.{ℕ, ◌+◌}
use lib.ListN.{drop}
use Rattle.model.specs.Judgement.{judge}
use Rattle.model.specs.Run.{Event}
use Rattle.model_script.specs.Script.{lines_of, answer_to, printed, printed_for, first_ledger, transcript}
use Rattle.script_input.specs.Kept.{lines_from}
use Rattle.script_input.specs.Joined.{joined, TakesAll}
use Rattle.script_input.proofs.ChunksJoined.{all_taken}
use Rattle.script_input.proofs.KeptLines.{cut, kept_answer, kept_lines}
use Rattle.script_answers.specs.declared.lines.Place.{Place}
use Rattle.script_answers.specs.Buffers.{outcome, AnswersLines, Standing, Begins, prints_from}

-- a line is answered by the bytes that are kept of it
printed_cut : (image ledger : List ℕ) (n : ℕ) (ls : List (List ℕ)) → printed_for image ledger n (cut ls) ≡ printed_for image ledger n ls
unfolding printed_for
printed_cut image ledger n [] = refl
printed_cut image ledger n (l ∷ ls) =
    let a = answer_to image ledger l in
    ap (λ (e : Event). printed n e.reply ++ printed_for image e.ledger (n + 1) (cut ls)) (kept_answer image ledger l)
    ∙ ap (λ x. printed n a.reply ++ x) (printed_cut image a.ledger (n + 1) ls)

-- The run by bytes prints the transcript.
pub run_prints : (image input : List ℕ) → outcome image (first_ledger (judge image)) 0 [] (lines_from [] input) ≡ transcript image input
unfolding outcome transcript
run_prints image input =
    ap (printed_for image (first_ledger (judge image)) 1) (kept_lines input) ∙ printed_cut image (first_ledger (judge image)) 1 (lines_of input)

-- The text so far may be written out, and the run goes on without it.
pub text_apart : (image ledger : List ℕ) (calls : ℕ) (before text : List ℕ) (ls : List (List ℕ))
    → outcome image ledger calls (before ++ text) ls ≡ before ++ outcome image ledger calls text ls
unfolding outcome
text_apart image ledger calls before text ls = append_assoc before text (printed_for image ledger (calls + 1) ls)

-- What `answer_lines` promises, with the text that was printed before: nothing is written before it, and its text is
-- printed behind the other.
pub lines-printed : (image chunk line ledger : List ℕ) (p : Place) (line' ledger' filled : List ℕ) (r : Place)
    → AnswersLines image chunk line ledger [] p line' ledger' filled r → (text more : List ℕ)
    → outcome image ledger p.calls text (lines_from line (drop p.next chunk ++ more))
    ≡ outcome image ledger' r.calls (text ++ filled) (lines_from line' (drop r.next chunk ++ more))
lines-printed image chunk line ledger p line' ledger' filled r a text more =
    let left = lines_from line (drop p.next chunk ++ more) in
    ap (λ x. outcome image ledger p.calls x left) (sym (append-nil text))
    ∙ text_apart image ledger p.calls text [] left
    ∙ ap (λ x. text ++ x) (a.same more)
    ∙ sym (text_apart image ledger' r.calls text filled (lines_from line' (drop r.next chunk ++ more)))

begins_as : (image input : List ℕ) (a : Standing) → Begins image a
    → prints_from image a input ≡ outcome image (first_ledger (judge image)) 0 [] (lines_from [] input)
unfolding prints_from
begins_as image input a b = rw (b.kept, b.ledger, b.calls, b.text)

-- In whatever chunks the script comes, what is printed in the end is the transcript of the chunks joined.
pub chunks_print : (image : List ℕ) (cs : List (List ℕ)) (a z : Standing) → Begins image a → TakesAll Standing (List ℕ) (prints_from image) cs a z
    → prints_from image z [] ≡ transcript image (joined cs)
chunks_print image cs a z b h = sym (all_taken h) ∙ begins_as image (joined cs) a b ∙ run_prints image (joined cs)
