-- The script of the program: its lines, the call that a line is, the line that is printed for an answer, and all that
-- is printed for an input. In the order of 01's "Ward examples".
-- Assumes nothing.
use Rattle.std.specs.Prelude.{◌≡◌, refl, Bool, true, false, ◌&&◌, List, [], ◌∷◌, ◌++◌, ℕ, zero, suc, ◌+◌, ◌-◌, ◌*◌, ◌/◌, ◌%◌, eqb, ltb, length, get_or, take, drop, replicate}
use Rattle.std.proofs.Math.Option.{Option, none, some}
use Prim.Native.Char.{code}
use Prim.Native.String.{String}
use Prim.Native.String as text
use Rattle.model.specs.declared.Checked.{Checked}
use Rattle.model.specs.declared.Checked.TheVariants.{Accepted, Refused}
use Rattle.model.specs.Tests.{pick, between, all}
use Rattle.model.specs.Bytes.{number, bytes_of}
use Rattle.model.specs.Judgement.{judge}
use Rattle.model.specs.Line.{SESSIONS, line_size}
use Rattle.model.specs.Session.{Reply, refuse}
use Rattle.model.specs.Run.{Call, Event, step, open_by, close_by, ask_by, short_ask_by, show_by}
use Rattle.model.specs.Tests.{same_list}

-- a text of ASCII letters as bytes
unfoldable pub ascii : String → List ℕ
ascii text.[] = []
ascii (text.◌∷◌ c s) = code c ∷ ascii s

-- ---- lines of the input, and words of a line

-- a byte, and what begins behind it
unfoldable pub begun : ℕ → List (List ℕ) → List (List ℕ)
begun c [] = (c ∷ []) ∷ []
begun c (l ∷ ls) = (c ∷ l) ∷ ls

-- the lines of an input: a line ends at a newline or at the end; nothing after the last newline is no line
unfoldable pub lines_of : List ℕ → List (List ℕ)
lines_of [] = []
lines_of (c ∷ cs) = elim (eqb c 10) [ true ↦ [] ∷ lines_of cs | false ↦ begun c (lines_of cs) ]

-- the words of a line, one blank between two; a blank at either end or beside another makes an empty word
unfoldable pub words : List ℕ → List (List ℕ)
words [] = [] ∷ []
words (c ∷ cs) = elim (eqb c 32) [ true ↦ [] ∷ words cs | false ↦ begun c (words cs) ]

-- ---- numerals

-- the value of a digit, 0 to 9 and a to f in letters of either size; 16 for a byte that is no digit
unfoldable pub digit : ℕ → ℕ
digit c = pick (between 48 c 57) (c - 48) (pick (between 65 c 70) (c - 55) (pick (between 97 c 102) (c - 87) 16))

-- c is a digit of base b
unfoldable pub is_digit : ℕ → ℕ → Bool
is_digit b c = ltb (digit c) b

-- from 1 to `most` digits of base b
unfoldable pub is_numeral : ℕ → ℕ → List ℕ → Bool
is_numeral b most w = between 1 (length w) most && all (is_digit b) w

-- the number whose first digits make n, with the digits that are left
unfoldable pub value_from : ℕ → ℕ → List ℕ → ℕ
value_from b n [] = n
value_from b n (c ∷ cs) = value_from b (b * n + digit c) cs

-- the number that the digits make
unfoldable pub value : ℕ → List ℕ → ℕ
value b w = value_from b 0 w

-- ---- the forms of a line

-- what a word of a form is
pub data Part : Type 0 where
  keyword : String → Part
  decimal hexadecimal : Part

-- a word is what a form has at its place
unfoldable pub suits : Part → List ℕ → Bool
suits (keyword k) w = same_list w (ascii k)
suits decimal w = is_numeral 10 9 w
suits hexadecimal w = is_numeral 16 64 w

-- the words are those of the form, and no more
unfoldable pub matches : List Part → List (List ℕ) → Bool
matches [] [] = true
matches [] (w ∷ ws) = false
matches (p ∷ ps) [] = false
matches (p ∷ ps) (w ∷ ws) = suits p w && matches ps ws

-- `open` user (01: person); `close` and `show` user session; `ask` user session lower upper, then both objectives (01:
-- aims) or neither
unfoldable pub open_form : List Part
open_form = keyword "open" ∷ decimal ∷ []

unfoldable pub close_form : List Part
close_form = keyword "close" ∷ decimal ∷ decimal ∷ []

unfoldable pub show_form : List Part
show_form = keyword "show" ∷ decimal ∷ decimal ∷ []

unfoldable pub short_ask_form : List Part
short_ask_form = keyword "ask" ∷ decimal ∷ decimal ∷ hexadecimal ∷ hexadecimal ∷ []

unfoldable pub ask_form : List Part
ask_form = keyword "ask" ∷ decimal ∷ decimal ∷ hexadecimal ∷ hexadecimal ∷ decimal ∷ decimal ∷ []

-- word k as a decimal, and as a bound, which is sent on as its 32 bytes
abbrev pub number_at : List (List ℕ) → ℕ → ℕ
number_at ws k = value 10 (get_or ws k [])

abbrev pub bound_at : List (List ℕ) → ℕ → List ℕ
bound_at ws k = bytes_of 32 (value 16 (get_or ws k []))

-- the length of the program's answer buffer
unfoldable pub room : ℕ
room = 40

-- the call that the words are, none where they are unreadable
unfoldable pub call_of : List (List ℕ) → Option Call
call_of ws =
    pick (matches open_form ws) (some (open_by (number_at ws 1)))
    (pick (matches close_form ws) (some (close_by (number_at ws 1) (number_at ws 2)))
    (pick (matches show_form ws) (some (show_by (number_at ws 1) (number_at ws 2) room))
    (pick (matches short_ask_form ws) (some (short_ask_by (number_at ws 1) (number_at ws 2) (bound_at ws 3) (bound_at ws 4) room))
    (pick (matches ask_form ws)
    (some (ask_by (number_at ws 1) (number_at ws 2) (bound_at ws 3) (bound_at ws 4) (number_at ws 5) (number_at ws 6) room))
    none))))

-- the call that a line is, without its newline
unfoldable pub parse : List ℕ → Option Call
parse line = call_of (words line)

-- a line is unreadable where it is no call
unfoldable pub is_unreadable : Option Call → Bool
is_unreadable none = true
is_unreadable (some c) = false

-- ---- an answer as a line

-- the ASCII code of a digit below 16, in small letters
unfoldable pub glyph : ℕ → ℕ
glyph d = pick (ltb d 10) (48 + d) (87 + d)

-- the digits of n in base b, at most k of them, the highest first, without leading zeros
unfoldable pub digits_of : ℕ → ℕ → ℕ → List ℕ
digits_of b zero n = glyph n ∷ []
digits_of b (suc k) n = elim (ltb n b) [ true ↦ glyph n ∷ [] | false ↦ digits_of b k (n / b) ++ (glyph (n % b) ∷ []) ]

-- n has at most n digits, or one
unfoldable pub numeral : ℕ → ℕ → List ℕ
numeral b n = digits_of b n n

-- call number, answer number, extra, roles and permissions, one blank between and a newline at the end
unfoldable pub line_of : ℕ → ℕ → ℕ → ℕ → ℕ → List ℕ
line_of n number extra roles permissions =
    numeral 10 n ++ (32 ∷ numeral 10 number) ++ (32 ∷ numeral 10 extra) ++ (32 ∷ numeral 16 roles) ++ (32 ∷ numeral 16 permissions) ++ (10 ∷ [])

-- call 10 and role set 18
pub line_of_ten : line_of 10 0 0 18 0 ≡ ascii "10 0 0 12 0\n"
unfolding ascii pick glyph digits_of numeral line_of
line_of_ten = refl

-- the line for an answer; nothing fills the answer, and both sets are 0, unless an ask or a show is done
unfoldable pub printed : ℕ → Reply → List ℕ
printed n r = line_of n r.number r.extra (number (take 8 r.filled)) (number (drop 8 r.filled))

-- permission 64 stands in the ninth byte behind the roles
pub printed_sixty_four :
    printed 1 (record { number = 0; extra = 0; filled = replicate 16 0 ++ (1 ∷ replicate 23 0) }) ≡ ascii "1 0 0 0 10000000000000000\n"
unfolding ascii pick number glyph digits_of numeral line_of printed
printed_sixty_four = refl

-- ---- a run of the program

-- an unreadable line is answered 21, and the script goes on; under a refused image a readable line gets that refusal
unfoldable pub answer_by : List ℕ → List ℕ → Option Call → Event
answer_by image ledger none = record { reply = refuse 21 0; ledger = ledger }
answer_by image ledger (some c) = step SESSIONS image ledger c

-- the answer to a line, and the ledger after it
unfoldable pub answer_to : List ℕ → List ℕ → List ℕ → Event
answer_to image ledger line = answer_by image ledger (parse line)

-- what is printed for the lines, the first of them call n
unfoldable pub printed_for : List ℕ → List ℕ → ℕ → List (List ℕ) → List ℕ
printed_for image ledger n [] = []
printed_for image ledger n (l ∷ ls) =
    let e = answer_to image ledger l in printed n e.reply ++ printed_for image e.ledger (n + 1) ls

-- the ledger at the start: all zero, and of the fitting length under an accepted image
unfoldable pub first_ledger : Checked → List ℕ
first_ledger (Accepted h) = replicate (line_size SESSIONS * h.users) 0
first_ledger (Refused n place) = []

-- two users have two lines
pub ledger_of_two : length (first_ledger (Accepted (record { users = 2; roles = 1; permissions = 1 }))) ≡ 2 * line_size SESSIONS
unfolding line_size first_ledger
ledger_of_two = refl

-- what the program prints for the bytes of an image and of an input; calls are numbered from 1
unfoldable pub transcript : List ℕ → List ℕ → List ℕ
transcript image input = printed_for image (first_ledger (judge image)) 1 (lines_of input)
