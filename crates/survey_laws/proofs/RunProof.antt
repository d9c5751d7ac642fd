-- Counting line after line gives the counts of the list of answers, in whatever chunks the bytes come, and the survey
-- is printed.
-- Assumes nothing.
use mathlib.Core.Path.{◌≡◌, refl, sym, ap, ◌∙◌}
use mathlib.Core.Bool.{Bool, true, false}
use mathlib.Core.List.{List, [], ◌∷◌, ◌++◌, append-nil}
use Prim.Native.Nat.{ℕ, zero, suc, ◌+◌, ◌<◌}
use native.Mathlib.Omega.{arith}
use lib.Dec.{eqb}
use lib.ListN.{length, get_or, set, take, replicate, length-set}
use lib.Seq.{get_or-set_same, get_or-set_other}
use borrow.Author.Tests.{eqb-true, eqb-false}
use Rattle.model.specs.declared.Checked.{Checked}
use Rattle.model.specs.declared.Checked.TheVariants.{Accepted, Refused}
use Rattle.model.specs.Sets.{one}
use Rattle.model.specs.Judgement.{judge}
use Rattle.model.specs.Policy.{policy_of}
use Rattle.model.specs.Session.{Reply}
use Rattle.model.specs.Run.{Event}
use Rattle.model_laws.proofs.TableLaws.{get_d_filled}
use Rattle.model_script.specs.Script.{lines_of, answer_to, first_ledger}
use Rattle.script_input.specs.Kept.{lines_from}
use Rattle.script_input.specs.Joined.{joined, Takes, TakesAll}
use Rattle.script_input.proofs.ChunksJoined.{all_taken}
use Rattle.script_input.proofs.KeptLines.{cut, kept_answer, kept_lines}
use Rattle.model_survey.specs.Survey.{answers_for, answers_of, count_of, two_figures, exclusion_lines, count_lines, survey_by, survey}
use Rattle.model_survey.specs.Parts.{opening_of, closing_of}
use Rattle.model_survey.proofs.Answers.{answer_small}
use Rattle.survey_counts.specs.Counting.{noted, tally, CountsChunk, Standing, Begins, counts_from}

-- ---- the whole

-- a line is answered by the bytes that are kept of it
tally_cut : (image ledger counts : List ℕ) (ls : List (List ℕ)) → tally image ledger counts (cut ls) ≡ tally image ledger counts ls
unfolding tally
tally_cut image ledger counts [] = refl
tally_cut image ledger counts (l ∷ ls) =
    ap (λ (e : Event). tally image e.ledger (noted counts e.reply) (cut ls)) (kept_answer image ledger l)
    ∙ tally_cut image (answer_to image ledger l).ledger (noted counts (answer_to image ledger l).reply) ls

noted-length : (counts : List ℕ) (r : Reply) → length (noted counts r) ≡ length counts
unfolding noted
noted-length counts r = length-set counts r.number (get_or counts r.number 0 + 1)

noted_at : (counts : List ℕ) (r : Reply) (n : ℕ) → length counts ≡ 256 → r.number < 256 → get_or (noted counts r) n 0 ≡ get_or counts n 0 + one (eqb r.number n)
unfolding noted
noted_at counts r n h s = go (eqb r.number n) refl
  where
    go : (b : Bool) → eqb r.number n ≡ b → get_or (set counts r.number (get_or counts r.number 0 + 1)) n 0 ≡ get_or counts n 0 + one b
    go true e =
        let q : r.number ≡ n = eqb-true r.number n e in
        rw (← q) (get_or-set_same counts r.number (get_or counts r.number 0 + 1) 0 (omega arith))
    go false e = get_or-set_other counts r.number n (get_or counts r.number 0 + 1) 0 (λ q. eqb-false r.number n e (sym q)) ∙ omega arith

tally-counts : (image ledger counts : List ℕ) (ls : List (List ℕ)) (n : ℕ) → length counts ≡ 256
    → get_or (tally image ledger counts ls) n 0 ≡ get_or counts n 0 + count_of (answers_for image ledger ls) n
unfolding tally answers_for count_of
tally-counts image ledger counts [] n h = omega arith
tally-counts image ledger counts (l ∷ ls) n h =
    let r = (answer_to image ledger l).reply in
    tally-counts image (answer_to image ledger l).ledger (noted counts r) ls n (noted-length counts r ∙ h)
    ∙ omega (arith, noted_at counts r n h (answer_small image ledger l))

none_more : (a b : ℕ) → a ≡ 0 → a + b ≡ b
none_more a b h = omega arith

-- The counts kept over the lines by bytes are those of the list of answers.
pub run-counts : (image input : List ℕ) (n : ℕ)
    → get_or (tally image (first_ledger (judge image)) (replicate 256 0) (lines_from [] input)) n 0 ≡ count_of (answers_of image input) n
unfolding answers_of
run-counts image input n =
    let ledger = first_ledger (judge image) in
    let zeros : List ℕ = replicate 256 0 in
    ap (λ x. get_or x n 0) (ap (tally image ledger zeros) (kept_lines input) ∙ tally_cut image ledger zeros (lines_of input))
    ∙ tally-counts image ledger zeros (lines_of input) n refl
    ∙ none_more _ _ (get_d_filled {A = ℕ} 0 256 n)

-- ---- what is printed

same_lines : (f g : ℕ → ℕ) (d : ℕ) → ((n : ℕ) → f n ≡ g n) → count_lines f d ≡ count_lines g d
unfolding count_lines
same_lines f g zero h = refl
same_lines f g (suc d) h = rw (h d, same_lines f g d h)

by_judgement : (c : Checked) (image input : List ℕ) (f : ℕ → ℕ) → ((n : ℕ) → f n ≡ count_of (answers_of image input) n)
    → opening_of c image ++ closing_of c f ≡ survey_by c image input
unfolding opening_of closing_of survey_by
by_judgement (Refused n place) image input f h = append-nil (two_figures n place)
by_judgement (Accepted k) image input f h = ap (λ x. exclusion_lines (policy_of image).exclusions ++ x) (same_lines f (count_of (answers_of image input)) 256 h)

-- What the program writes before the script, and the lines of the counts that it keeps over it, are the survey.
pub run_prints : (image input : List ℕ)
    → opening_of (judge image) image
    ++ closing_of (judge image) (λ n. get_or (tally image (first_ledger (judge image)) (replicate 256 0) (lines_from [] input)) n 0)
    ≡ survey image input
unfolding survey
run_prints image input = by_judgement (judge image) image input _ (run-counts image input)

-- A chunk that is counted as `count_chunk` promises takes one standing to the other.
pub chunk_taken : (line : List ℕ) (kept : ℕ) (line' : List ℕ) (kept' : ℕ) {image chunk ledger counts : List ℕ} {calls : ℕ} {ledger' counts' : List ℕ}
    {calls' : ℕ} → CountsChunk image chunk (take kept line) ledger counts calls (take kept' line') ledger' counts' calls'
    → Takes Standing (List ℕ) (counts_from image) chunk (record { line = line; kept = kept; ledger = ledger; counts = counts })
    (record { line = line'; kept = kept'; ledger = ledger'; counts = counts' })
unfolding counts_from
chunk_taken line kept line' kept' h = h.same

begins_as : (image input : List ℕ) (a : Standing) → Begins image a
    → counts_from image a input ≡ tally image (first_ledger (judge image)) (replicate 256 0) (lines_from [] input)
unfolding counts_from
begins_as image input a b = rw (b.kept, b.ledger, b.counts)

-- In whatever chunks the script comes: what is written before it, and the lines of the counts that they leave, are the
-- survey of the chunks joined.
pub chunks_print : (image : List ℕ) (cs : List (List ℕ)) (a z : Standing) → Begins image a → TakesAll Standing (List ℕ) (counts_from image) cs a z
    → opening_of (judge image) image ++ closing_of (judge image) (λ n. get_or (counts_from image z []) n 0) ≡ survey image (joined cs)
chunks_print image cs a z b h =
    ap (λ (x : List ℕ). opening_of (judge image) image ++ closing_of (judge image) (λ n. get_or x n 0)) (sym (all_taken h) ∙ begins_as image (joined cs) a b)
    ∙ run_prints image (joined cs)
