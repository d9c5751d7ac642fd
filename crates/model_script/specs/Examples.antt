-- Scripts with what the program prints for them: 01's six lines, refused images, unreadable lines, and how an input
-- splits into lines.
-- Assumes nothing.
use Rattle.std.specs.Prelude.{Bool, List, [], ◌∷◌, ℕ, take}
use Prim.Native.String.{String}
use Rattle.model.specs.Words.{image_bytes}
use Rattle.model.specs.Tests.{same_list}
use Rattle.model_cases.specs.Ward.{image_a, image_of_two, three_roles, two_and_both}
use Rattle.model_cases.specs.Returned.{ranked}
use Rattle.model_script.specs.Script.{ascii, parse, transcript, is_unreadable}

pub record Example : Type 0 where
  pub image : List ℕ
  pub input : String
  pub output : String

unfoldable pub shown : Example → Bool
shown e = same_list (transcript e.image (ascii e.input)) (ascii e.output)

-- under image A, and under another image
unfoldable pub under_a : String → String → Example
under_a input output = record { image = image_bytes image_a; input = input; output = output }

unfoldable pub under : List ℕ → String → String → Example
under image input output = record { image = image; input = input; output = output }

unfoldable pub examples : List Example
examples =
    -- 01's six lines
    under_a "open 0\nask 0 0 3 1f 1 0\nopen 0\nask 0 1 12 1f 1 0\nclose 0 0\nask 0 1 12 1f 1 0\n"
    "1 0 0 0 0\n2 0 0 1 f\n3 0 1 0 0\n4 20 0 0 0\n5 0 0 0 0\n6 0 0 2 12\n"
    -- a short ask and a show; digits of either size and leading zeros; an unreadable line between
    ∷ under_a "open 0\nask 0 0 3 1F\n\nshow 000000000 00\nask 0 0 0012 1f" "1 0 0 0 0\n2 0 0 1 f\n3 21 0 0 0\n4 0 0 1 f\n5 0 0 2 12\n"
    -- the numbers that a line sends on are judged by the call
    ∷ under_a "open 1\nopen 999999999\nclose 0 8\nclose 0 0\nopen 0\nask 0 0 20 3f\nask 0 0 3 1f 3 0\n"
    "1 10 0 0 0\n2 10 0 0 0\n3 12 0 0 0\n4 13 0 0 0\n5 0 0 0 0\n6 16 0 0 0\n7 18 0 0 0\n"
    -- a refused image: the refusal with its place for a readable line, 21 for any other; an image file that can't be
    -- read is empty
    ∷ under [] "open 0\nopen\nshow 7 7\n" "1 1 0 0 0\n2 21 0 0 0\n3 1 0 0 0\n"
    ∷ under (take 48 (image_bytes image_a)) "open 0" "1 3 11 0 0\n"
    -- an input without a line; an empty line; a last line without its newline
    ∷ under_a "" ""
    ∷ under_a "\n" "1 21 0 0 0\n"
    ∷ under_a "open 0\n\nopen 0" "1 0 0 0 0\n2 21 0 0 0\n3 0 1 0 0\n"
    -- sets up to role 63 and permission 255, and a bound of 64 digits
    ∷ under ranked
    "open 0\nask 0 0 1000000000000000000000000000000010000000000000000 8000000000000001000000000000000180000000000000010000000000000000 1 0\n"
    "1 0 0 0 0\n2 0 0 8000000000000000 1000000000000000100000000000000010000000000000000\n"
    ∷ under ranked
    "open 0\nask 0 0 0 8000000000000001000000000000000180000000000000010000000000000000 2 0\nshow 0 8\n"
    "1 0 0 0 0\n2 0 0 c000000000000000 8000000000000001000000000000000180000000000000010000000000000000\n3 12 0 0 0\n"
    -- the first objective is that on permissions; a capital digit and a small one mean the same
    ∷ under (image_bytes three_roles) "open 0\nask 0 0 1 f 2 0\nask 0 0 1 F 1 2\nask 0 0 A E 0 0\nask 0 0 a e 0 0\nask 0 0 A e\n"
    "1 0 0 0 0\n2 0 0 3 f\n3 0 0 1 5\n4 0 0 2 a\n5 0 0 2 a\n6 0 0 2 a\n"
    -- an ask without objectives takes the fewest permissions, then the fewest roles
    ∷ under (image_bytes three_roles) "open 0\nask 0 0 6 f 0 0\nask 0 0 6 f\n" "1 0 0 0 0\n2 0 0 3 f\n3 0 0 4 6\n"
    ∷ under (image_bytes two_and_both) "open 0\nask 0 0 3 3 0 0\nask 0 0 3 3\n" "1 0 0 0 0\n2 0 0 3 3\n3 0 0 4 3\n"
    -- the first ledger has a line for each user
    ∷ under (image_bytes image_of_two) "open 1\nopen 2\n" "1 0 0 0 0\n2 10 0 0 0\n"
    -- the user comes before the session: short asks of user 1 in session 0, and of user 0 in a session 1 that is not
    -- open
    ∷ under (image_bytes image_of_two) "open 1\nask 1 0 3 1f\nask 0 1 3 1f\nask 1 0 10 1f\nshow 1 0\n"
    "1 0 0 0 0\n2 0 0 1 f\n3 13 0 0 0\n4 0 0 2 12\n5 0 0 2 12\n"
    -- call numbers are decimals
    ∷ under_a "\n\n\n\n\n\n\n\n\n\n"
    "1 21 0 0 0\n2 21 0 0 0\n3 21 0 0 0\n4 21 0 0 0\n5 21 0 0 0\n6 21 0 0 0\n7 21 0 0 0\n8 21 0 0 0\n9 21 0 0 0\n10 21 0 0 0\n"
    ∷ []

-- lines of none of the forms: no word, another word, too few or too many, blanks in other places, letters of another
-- size, numerals that are too long or hold another byte
unfoldable pub unreadable : List String
unreadable =
    "" ∷ " " ∷ "open" ∷ "open " ∷ "open 0 " ∷ " open 0" ∷ "open  0" ∷ "open 0 0" ∷ "open\t0" ∷ "open 0\r" ∷ "Open 0" ∷ "OPEN 0" ∷ "opens 0" ∷ "ope 0"
    ∷ "open -1" ∷ "open +1" ∷ "open 0x1" ∷ "open a" ∷ "open 0123456789" ∷ "open 1000000000" ∷ "check" ∷ "close 0" ∷ "close 0 0 0" ∷ "close 0  0"
    ∷ "show 0" ∷ "show 0 a" ∷ "show 0 0 0" ∷ "ask 0 0 3" ∷ "ask 0 0 3 1f 1" ∷ "ask 0 0 3 1f 1 0 0" ∷ "ask 0 0 3 1f 1 0 " ∷ "ask 0 0 3 1f  1 0"
    ∷ "ask 0 0 3 1g 1 0" ∷ "ask 0 0 0x3 1f" ∷ "ask 0 0 3 1f a 0" ∷ "ask 0 0 3 1f 1 b" ∷ "ask 0 0 `3 1f" ∷ "ask 0 0 3 @f"
    ∷ "ask 0 0 3 1G" ∷ "open /" ∷ "open :" ∷ "ask 0 0 3 1f 1 0000000000"
    ∷ "close a 0" ∷ "close 0 a" ∷ "show a 0" ∷ "ask a 0 3 1f" ∷ "ask 0 a 3 1f" ∷ "ask a 0 3 1f 1 0" ∷ "ask 0 a 3 1f 1 0"
    ∷ "ask 0 0 00000000000000000000000000000000000000000000000000000000000000003 1f" ∷ []

unfoldable pub is_unreadable_text : String → Bool
is_unreadable_text s = is_unreadable (parse (ascii s))
