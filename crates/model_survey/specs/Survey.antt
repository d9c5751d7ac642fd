-- The survey of an image and a script: the answers of the script, how many have each number, and all that is printed.
-- In the order of 02's P12.
-- Assumes nothing.
use Rattle.std.specs.Prelude.{◌≡◌, refl, List, [], ◌∷◌, ◌++◌, ℕ, zero, suc, ◌+◌, eqb}
use Rattle.model.specs.declared.Exclusion.{Exclusion}
use Rattle.model.specs.declared.Checked.{Checked}
use Rattle.model.specs.declared.Checked.TheVariants.{Accepted, Refused}
use Rattle.model.specs.Sets.{one, count}
use Rattle.model.specs.Judgement.{judge}
use Rattle.model.specs.Policy.{policy_of, kind_number}
use Rattle.model.specs.Session.{Reply}
use Rattle.model_script.specs.Script.{ascii, lines_of, numeral, printed, answer_to, first_ledger}
use Rattle.model_script.proofs.Computing.{scripting}
use Rattle.model_binomials.specs.Binomial.{binomial, sum_below}

-- ---- the answers of a script

-- the answers to the lines in order, each on the ledger that the one before left
unfoldable pub answers_for : List ℕ → List ℕ → List (List ℕ) → List Reply
answers_for image ledger [] = []
answers_for image ledger (l ∷ ls) = let e = answer_to image ledger l in e.reply ∷ answers_for image e.ledger ls

-- the answers to an input, one for each of its lines, as the transcript has them
unfoldable pub answers_of : List ℕ → List ℕ → List Reply
answers_of image input = answers_for image (first_ledger (judge image)) (lines_of input)

-- what the transcript has for answers, the first of them to call n
unfoldable pub lines_for : ℕ → List Reply → List ℕ
lines_for n [] = []
lines_for n (r ∷ rs) = printed n r ++ lines_for (n + 1) rs

-- how many of the answers have number n
unfoldable pub count_of : List Reply → ℕ → ℕ
count_of [] n = 0
count_of (r ∷ rs) n = one (eqb r.number n) + count_of rs n

-- ---- lines of figures: in decimal, one blank between and a newline at the end

unfoldable pub two_figures : ℕ → ℕ → List ℕ
two_figures a b = numeral 10 a ++ (32 ∷ numeral 10 b) ++ (10 ∷ [])

unfoldable pub four_figures : ℕ → ℕ → ℕ → ℕ → List ℕ
four_figures a b c d = numeral 10 a ++ (32 ∷ numeral 10 b) ++ (32 ∷ numeral 10 c) ++ (32 ∷ numeral 10 d) ++ (10 ∷ [])

-- ---- the exclusions

-- how many sets of its members the exclusion allows alone: the sum of "m choose k" for k below n
unfoldable pub allowed : Exclusion → ℕ
allowed x = sum_below (binomial (count 64 x.members)) x.n

-- which (01: 0 to 3), n, m, and the number of sets that are allowed
unfoldable pub exclusion_line : Exclusion → List ℕ
exclusion_line x = four_figures (kind_number x.kind) x.n (count 64 x.members) (allowed x)

-- a line for each exclusion in image order, a repeated one again
unfoldable pub exclusion_lines : List Exclusion → List ℕ
exclusion_lines [] = []
exclusion_lines (x ∷ xs) = exclusion_line x ++ exclusion_lines xs

-- ---- the counts

-- number n with its count, nothing where it is none
unfoldable pub count_line : ℕ → ℕ → List ℕ
count_line n zero = []
count_line n (suc c) = two_figures n (suc c)

-- the numbers below d that have a count, ascending
unfoldable pub count_lines : (ℕ → ℕ) → ℕ → List ℕ
count_lines f zero = []
count_lines f (suc d) = count_lines f d ++ count_line d (f d)

-- ---- the whole

-- a refused image: its number and extra alone. Every number of an answer is below 256.
unfoldable pub survey_by : Checked → List ℕ → List ℕ → List ℕ
survey_by (Refused n place) image input = two_figures n place
survey_by (Accepted h) image input = exclusion_lines (policy_of image).exclusions ++ count_lines (count_of (answers_of image input)) 256

-- numbers ascend, in whatever order the answers have them: under no image an unreadable line is answered 21, and a
-- readable one 1
pub counts_ascend : survey_by (Accepted (record { users = 1; roles = 1; permissions = 1 })) [] (ascii "\nopen 0\n") ≡ ascii "1 1\n21 1\n"
unfolding scripting answers_for answers_of count_of two_figures exclusion_lines count_line count_lines survey_by
counts_ascend = refl

-- what the survey prints for the bytes of an image and of an input
unfoldable pub survey : List ℕ → List ℕ → List ℕ
survey image input = survey_by (judge image) image input
