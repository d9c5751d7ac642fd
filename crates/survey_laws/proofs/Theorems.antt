-- The theorems about the survey, one claim each; the files named hold the arguments.
-- Assumes nothing.
use mathlib.Core.Path.{◌≡◌}
use mathlib.Core.Bool.{true}
use mathlib.Core.List.{List, [], ◌++◌}
use Prim.Native.Nat.{ℕ, ◌^◌, ◌<◌}
use lib.ListN.{length, get_or}
use Rattle.model.specs.declared.Head.{Head}
use Rattle.model.specs.declared.Exclusion.{Exclusion}
use Rattle.model.specs.declared.Checked.TheVariants.{Accepted}
use Rattle.model.specs.Tests.{all}
use Rattle.model.specs.Sets.{count_to}
use Rattle.model.specs.Judgement.{judge}
use Rattle.model.specs.Policy.{policy_of}
use Rattle.model.specs.Ranges.{Each}
use Rattle.model_script.specs.Script.{lines_of, transcript}
use Rattle.model_binomials.specs.Binomial.{sum_below}
use Rattle.model_binomials.specs.Allowed.{allows_alone}
use Rattle.script_input.specs.Joined.{joined, TakesAll}
use Rattle.model_survey.specs.Survey.{answers_of, lines_for, count_of, allowed, survey}
use Rattle.survey_counts.specs.Counting.{Standing, Begins, counts_from}
use Rattle.survey_exclusions.specs.Writing.{Fitting}
use Rattle.model_survey.specs.Parts.{opening_of, closing_of}
use Rattle.survey_laws.specs.Cases.{surveyed, cases}
use Rattle.survey_laws.specs.Order.{FollowsOrder}
use Rattle.model_survey.proofs.Answers
use Rattle.model_survey.proofs.AddUp
use Rattle.survey_exclusions.proofs.Fit
use Rattle.survey_laws.proofs.RunProof
use Rattle.survey_laws.proofs.CasesProof
use Rattle.survey_laws.proofs.OrderProof

-- ---- the exclusions

-- the last figure of an exclusion is the number of role sets within its members that it allows alone, by the session
-- rules' own test
pub allowed-counts : (x : Exclusion) → count_to (allows_alone x) (2 ^ 64) ≡ allowed x
allowed-counts = Fit.allowed-counts

-- the figures of each exclusion of an accepted image fit 64 bits
pub figures_fit : (s : List ℕ) (h : Head) → judge s ≡ Accepted h → Each Fitting (policy_of s).exclusions
figures_fit = Fit.figures_fit

-- ---- the answers

-- the transcript is the lines of the answers, in this order
pub transcript_answers : (image input : List ℕ) → transcript image input ≡ lines_for 1 (answers_of image input)
transcript_answers = Answers.transcript_answers

-- there is one for each line of the input
pub one_for_each : (image input : List ℕ) → length (answers_of image input) ≡ length (lines_of input)
one_for_each = Answers.one_for_each

-- the counts add up to the number of answers
pub counts_add_up : (image input : List ℕ) → sum_below (count_of (answers_of image input)) 256 ≡ length (answers_of image input)
counts_add_up = AddUp.counts_add_up

-- each count of fewer than 2 ^ 64 answers fits 64 bits
pub count_fits : (image input : List ℕ) → length (answers_of image input) < 2 ^ 64 → (n : ℕ) → count_of (answers_of image input) n < 2 ^ 64
count_fits = AddUp.count_fits

-- ---- what the program prints

-- in whatever chunks the script comes: what is written before it, and the lines of the counts that they leave, are the
-- survey of the chunks joined
pub chunks_print : (image : List ℕ) (cs : List (List ℕ)) (a z : Standing) → Begins image a → TakesAll Standing (List ℕ) (counts_from image) cs a z
    → opening_of (judge image) image ++ closing_of (judge image) (λ n. get_or (counts_from image z []) n 0) ≡ survey image (joined cs)
chunks_print = RunProof.chunks_print

-- listed surveys, by computation
pub cases_print : all surveyed cases ≡ true
cases_print = CasesProof.cases_print

-- the survey follows image order, by two listed images that are one another with their entries moved about
pub follows_order : FollowsOrder
follows_order = OrderProof.follows_order
