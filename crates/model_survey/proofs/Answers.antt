-- The transcript is the lines of the list of answers, of which there is one for each line of the input, each with a
-- number below 256.
-- Assumes nothing.
use mathlib.Core.Path.{◌≡◌, refl, ap}
use mathlib.Core.Option.{Option, none, some}
use mathlib.Core.List.{List, [], ◌∷◌, ◌++◌}
use Prim.Native.Nat.{ℕ, suc, ◌+◌, ◌<◌}
use native.Mathlib.Omega.{arith}
use lib.ListN.{length}
use Rattle.model.specs.Judgement.{judge}
use Rattle.model.specs.Line.{SESSIONS}
use Rattle.model.specs.Session.{Reply, refuse}
use Rattle.model.specs.Run.{Call}
use Rattle.model.specs.Ranges.{Each}
use Rattle.model_script.specs.Script.{lines_of, parse, printed, answer_by, answer_to, printed_for, first_ledger, transcript}
use Rattle.model_script.proofs.ReplyLaws.{step_small}
use Rattle.model_survey.specs.Survey.{answers_for, answers_of, lines_for}

-- ---- the transcript

printed_answers : (image ledger : List ℕ) (n : ℕ) (ls : List (List ℕ)) → printed_for image ledger n ls ≡ lines_for n (answers_for image ledger ls)
unfolding printed_for answers_for lines_for
printed_answers image ledger n [] = refl
printed_answers image ledger n (l ∷ ls) =
    let e = answer_to image ledger l in ap (λ x. printed n e.reply ++ x) (printed_answers image e.ledger (n + 1) ls)

-- The transcript has these answers, in this order.
pub transcript_answers : (image input : List ℕ) → transcript image input ≡ lines_for 1 (answers_of image input)
unfolding transcript answers_of
transcript_answers image input = printed_answers image (first_ledger (judge image)) 1 (lines_of input)

-- ---- how many, and which numbers

for_each : (image ledger : List ℕ) (ls : List (List ℕ)) → length (answers_for image ledger ls) ≡ length ls
unfolding answers_for
for_each image ledger [] = refl
for_each image ledger (l ∷ ls) = ap suc (for_each image (answer_to image ledger l).ledger ls)

-- There is one for each line.
pub one_for_each : (image input : List ℕ) → length (answers_of image input) ≡ length (lines_of input)
unfolding answers_of
one_for_each image input = for_each image (first_ledger (judge image)) (lines_of input)

call_small : (image ledger : List ℕ) (o : Option Call) → (answer_by image ledger o).reply.number < 256
unfolding answer_by refuse
call_small image ledger none = omega arith
call_small image ledger (some c) = step_small SESSIONS image ledger c

-- An answer's number is below 256.
pub answer_small : (image ledger line : List ℕ) → (answer_to image ledger line).reply.number < 256
unfolding answer_to
answer_small image ledger line = call_small image ledger (parse line)

abbrev pub Small : Reply → Type 0
Small r = r.number < 256

pub all_small : (image ledger : List ℕ) (ls : List (List ℕ)) → Each Small (answers_for image ledger ls)
unfolding answers_for
all_small image ledger [] = tt
all_small image ledger (l ∷ ls) = (answer_small image ledger l, all_small image (answer_to image ledger l).ledger ls)
