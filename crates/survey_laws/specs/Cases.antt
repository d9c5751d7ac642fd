-- Images and scripts with what the survey prints for them.
-- Assumes nothing.
use Rattle.std.specs.Prelude.{Bool, List, [], ◌∷◌, ℕ, take}
use Prim.Native.String.{String}
use Rattle.model.specs.Words.{head_word, exclusion_word, member_word, image_bytes, ended}
use Rattle.model.specs.Tests.{same_list}
use Rattle.model_cases.specs.Ward.{image_a, three_roles, image_of_kind}
use Rattle.model_script.specs.Script.{ascii}
use Rattle.model_survey.specs.Survey.{survey}

pub record Case : Type 0 where
  pub image : List ℕ
  pub input : String
  pub output : String

unfoldable pub surveyed : Case → Bool
surveyed c = same_list (survey c.image (ascii c.input)) (ascii c.output)

unfoldable pub of : List ℕ → String → String → Case
of image input output = record { image = image; input = input; output = output }

-- five roles, and of all of them fewer than 2 in a session, fewer than 5 ever; the first again
unfoldable pub five_roles : List ℕ
five_roles =
    ended
    (head_word 1 5 1 ∷ exclusion_word 0 2 5 ∷ member_word 0 ∷ member_word 1 ∷ member_word 2 ∷ member_word 3 ∷ member_word 4
    ∷ exclusion_word 3 5 5 ∷ member_word 4 ∷ member_word 0 ∷ member_word 1 ∷ member_word 2 ∷ member_word 3
    ∷ exclusion_word 0 2 5 ∷ member_word 0 ∷ member_word 1 ∷ member_word 2 ∷ member_word 3 ∷ member_word 4 ∷ [])

unfoldable pub cases : List Case
cases =
    -- image A, without a script and with 01's six lines
    of (image_bytes image_a) "" "1 2 2 3\n"
    ∷ of (image_bytes image_a) "open 0\nask 0 0 3 1f 1 0\nopen 0\nask 0 1 12 1f 1 0\nclose 0 0\nask 0 1 12 1f 1 0\n" "1 2 2 3\n0 5\n20 1\n"
    -- numbers ascend, in whatever order the answers have them; unreadable lines are counted under 21
    ∷ of (image_bytes image_a) "\nopen 1\nopen\nclose 0 8\nopen 0" "1 2 2 3\n0 1\n10 1\n12 1\n21 2\n"
    -- each kind
    ∷ of (image_bytes (image_of_kind 0)) "" "0 2 2 3\n"
    ∷ of (image_bytes (image_of_kind 2)) "" "2 2 2 3\n"
    ∷ of (image_bytes (image_of_kind 3)) "" "3 2 2 3\n"
    -- several exclusions in image order, a repeated one again; no exclusion
    ∷ of (image_bytes five_roles) "open 0" "0 2 5 6\n3 5 5 31\n0 2 5 6\n0 1\n"
    ∷ of (image_bytes three_roles) "" ""
    ∷ of (image_bytes three_roles) "open 0\nopen 0\n" "0 2\n"
    -- a refused image: its number and extra, and the script is not read
    ∷ of [] "open 0\n" "1 0\n"
    ∷ of (take 48 (image_bytes image_a)) "open 0\nopen\n" "3 11\n"
    ∷ []
