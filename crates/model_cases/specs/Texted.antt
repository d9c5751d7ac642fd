-- Clause texts as a host sees them: the number that the call returns, and its buffer after it. The texts are those of a
-- small program written from docs/CLAUSES.md alone.
-- Assumes nothing.
use Rattle.std.specs.Prelude.{Bool, ◌&&◌, List, [], ◌∷◌, ◌++◌, map, ℕ, ◌*◌, ◌^◌, eqb, length, drop, replicate}
use Prim.Native.String.{String}
use Rattle.model.specs.Dimacs.{ascii}
use Rattle.model.specs.Run.{Call, clauses_by, step, returned, written}
use Rattle.model.specs.Words.{head_word, assign_word, grant_word, exclusion_word, member_word, image_bytes}
use Rattle.model.specs.Line.{SESSIONS}
use Rattle.model.specs.Tests.{same_list}
use Rattle.model_cases.specs.Ward.{image_a, image_of_kind, image_limited, managers}
use Rattle.model_cases.specs.Refusals.{assignments}
use Rattle.model_cases.specs.Returned.{image_of, set_bytes, bound, old, session, highs, other_lengths}

-- lines of text as bytes, a newline behind each
unfoldable pub lines_text : List String → List ℕ
lines_text [] = []
lines_text (t ∷ ts) = ascii t ++ (10 ∷ lines_text ts)

-- ---- lines of image A's one user

unfoldable pub quiet : List ℕ
quiet = session [] []

-- the open ones of the sessions 0 and 1, the history, and both sessions
unfoldable pub two_of : List ℕ → List ℕ → List ℕ → List ℕ → List ℕ
two_of opened history s0 s1 = set_bytes 8 opened ++ (set_bytes 8 history ++ (s0 ++ (s1 ++ replicate 96 0)))

-- ---- cases

-- a clause text into a buffer of n bytes: the number that it returns, and the text that is then at the front of the
-- buffer
pub record TextCase : Type 0 where
  pub image : List ℕ
  pub ledger : List ℕ
  pub call : ℕ → Call
  pub room : ℕ
  pub number : ℕ
  pub text : List ℕ

unfoldable pub is_texted : TextCase → Bool
is_texted c =
    let r = (step SESSIONS c.image c.ledger (c.call c.room)).reply in
    eqb (returned r) c.number && same_list (written (old c.room) r) (c.text ++ drop (length c.text) (old c.room))

-- the text is written, and its length told
unfoldable pub writes : List ℕ → List ℕ → (ℕ → Call) → ℕ → List ℕ → TextCase
writes image ledger c n text = record { image = image; ledger = ledger; call = c; room = n; number = 256 * length text; text = text }

-- the call is refused, and the buffer left alone
unfoldable pub turns_away : List ℕ → List ℕ → (ℕ → Call) → ℕ → ℕ → TextCase
turns_away image ledger c n number = record { image = image; ledger = ledger; call = c; room = n; number = number; text = [] }

-- an ask of user 0 for session k, by the members of the bounds
unfoldable pub text_from : ℕ → List ℕ → List ℕ → ℕ → ℕ → ℕ → Call
text_from k lower upper a b room = clauses_by 0 k (bound lower) (bound upper) a b room

-- at least permission 1, none but 0 to 3, the fewest permissions and the fewest roles
unfoldable pub fewest : ℕ → Call
fewest = text_from 0 (1 ∷ []) (0 ∷ 1 ∷ 2 ∷ 3 ∷ []) 1 1

unfoldable pub text_of_a : List ℕ
text_of_a =
    lines_text
    ("p wcnf 11 26 18"
    ∷ "18 -1 3 0"
    ∷ "18 -1 4 0"
    ∷ "18 -1 5 0"
    ∷ "18 -1 6 0"
    ∷ "18 -2 4 0"
    ∷ "18 -2 7 0"
    ∷ "18 -3 1 0"
    ∷ "18 -4 1 2 0"
    ∷ "18 -5 1 0"
    ∷ "18 -6 1 0"
    ∷ "18 -7 2 0"
    ∷ "18 4 0"
    ∷ "18 -7 0"
    ∷ "18 -1 8 0"
    ∷ "18 -2 10 0"
    ∷ "18 -8 10 0"
    ∷ "18 -9 11 0"
    ∷ "18 -2 -8 11 0"
    ∷ "18 -11 0"
    ∷ "3 -3 0"
    ∷ "3 -4 0"
    ∷ "3 -5 0"
    ∷ "3 -6 0"
    ∷ "3 -7 0"
    ∷ "1 -1 0"
    ∷ "1 -2 0" ∷ [])

-- at least permission 1, the most permissions and any roles; the Doctor's role is in the user's history, and counts
-- there ever
unfoldable pub most : ℕ → Call
most = text_from 1 (1 ∷ []) (0 ∷ 1 ∷ 2 ∷ 3 ∷ 4 ∷ []) 2 0

unfoldable pub text_of_past : List ℕ
text_of_past =
    lines_text
    ("p wcnf 8 19 16"
    ∷ "16 -1 3 0"
    ∷ "16 -1 4 0"
    ∷ "16 -1 5 0"
    ∷ "16 -1 6 0"
    ∷ "16 -2 4 0"
    ∷ "16 -2 7 0"
    ∷ "16 -3 1 0"
    ∷ "16 -4 1 2 0"
    ∷ "16 -5 1 0"
    ∷ "16 -6 1 0"
    ∷ "16 -7 2 0"
    ∷ "16 4 0"
    ∷ "16 -2 8 0"
    ∷ "16 -8 0"
    ∷ "3 3 0"
    ∷ "3 4 0"
    ∷ "3 5 0"
    ∷ "3 6 0"
    ∷ "3 7 0" ∷ [])

-- permissions 3 and 4 and no other, which no set gives; any permissions and any roles
unfoldable pub text_of_none : List ℕ
text_of_none =
    lines_text
    ("p wcnf 11 22 1"
    ∷ "1 -1 3 0"
    ∷ "1 -1 4 0"
    ∷ "1 -1 5 0"
    ∷ "1 -1 6 0"
    ∷ "1 -2 4 0"
    ∷ "1 -2 7 0"
    ∷ "1 -3 1 0"
    ∷ "1 -4 1 2 0"
    ∷ "1 -5 1 0"
    ∷ "1 -6 1 0"
    ∷ "1 -7 2 0"
    ∷ "1 6 0"
    ∷ "1 7 0"
    ∷ "1 -3 0"
    ∷ "1 -4 0"
    ∷ "1 -5 0"
    ∷ "1 -1 8 0"
    ∷ "1 -2 10 0"
    ∷ "1 -8 10 0"
    ∷ "1 -9 11 0"
    ∷ "1 -2 -8 11 0"
    ∷ "1 -11 0" ∷ [])

-- docs/CLAUSES.md's second example: four roles, which carry 0, 1, 0 and 2, 1 and 2; the user has the first three, and
-- had the second in session 0; fewer than 3 of the first three in a session, fewer than 2 of the last three ever
unfoldable pub four_roles : List ℕ
four_roles =
    image_of
    (head_word 1 4 3 ∷ assign_word 0 0 ∷ assign_word 0 1 ∷ assign_word 0 2 ∷ grant_word 0 0 ∷ grant_word 1 1 ∷ grant_word 2 0 ∷ grant_word 2 2 ∷ grant_word 3 1
    ∷ grant_word 3 2 ∷ exclusion_word 0 3 3 ∷ member_word 0 ∷ member_word 1 ∷ member_word 2 ∷ exclusion_word 3 2 3 ∷ member_word 1 ∷ member_word 2 ∷
    member_word 3 ∷ [])

-- at least permission 0, not 2, the most permissions and any roles
unfoldable pub text_of_four : List ℕ
text_of_four =
    lines_text
    ("p wcnf 18 33 16"
    ∷ "16 -4 0"
    ∷ "16 -1 5 0"
    ∷ "16 -2 6 0"
    ∷ "16 -3 5 0"
    ∷ "16 -3 7 0"
    ∷ "16 -4 6 0"
    ∷ "16 -4 7 0"
    ∷ "16 -5 1 3 0"
    ∷ "16 -6 2 4 0"
    ∷ "16 -7 3 4 0"
    ∷ "16 5 0"
    ∷ "16 -7 0"
    ∷ "16 -1 8 0"
    ∷ "16 -2 11 0"
    ∷ "16 -8 11 0"
    ∷ "16 -9 12 0"
    ∷ "16 -10 13 0"
    ∷ "16 -2 -8 12 0"
    ∷ "16 -2 -9 13 0"
    ∷ "16 -3 14 0"
    ∷ "16 -11 14 0"
    ∷ "16 -12 15 0"
    ∷ "16 -13 16 0"
    ∷ "16 -3 -11 15 0"
    ∷ "16 -3 -12 16 0"
    ∷ "16 -16 0"
    ∷ "16 -3 17 0"
    ∷ "16 -4 18 0"
    ∷ "16 -17 18 0"
    ∷ "16 -18 0"
    ∷ "5 5 0"
    ∷ "5 6 0"
    ∷ "5 7 0" ∷ [])

-- Five roles, of which the user has 0, 1 and 3; the first two carry permission 1, and nobody carries permission 0.
-- Exclusions of each kind, that of kind 2 twice: kind 3 with n 3 of the roles 2 to 4, kind 1 with n 3 of 0 to 2, kind 2
-- with n 3 of 0, 1 and 3, kind 0 with n 2 of 0, 1 and 4.
unfoldable pub reducing : List ℕ
reducing =
    image_of
    (head_word 1 5 2 ∷ assign_word 0 0 ∷ assign_word 0 1 ∷ assign_word 0 3 ∷ grant_word 0 1 ∷ grant_word 1 1
    ∷ exclusion_word 3 3 3 ∷ member_word 4 ∷ member_word 3 ∷ member_word 2
    ∷ exclusion_word 1 3 3 ∷ member_word 2 ∷ member_word 0 ∷ member_word 1
    ∷ exclusion_word 2 3 3 ∷ member_word 3 ∷ member_word 0 ∷ member_word 1
    ∷ exclusion_word 2 3 3 ∷ member_word 3 ∷ member_word 0 ∷ member_word 1
    ∷ exclusion_word 0 2 3 ∷ member_word 4 ∷ member_word 0 ∷ member_word 1 ∷ [])

-- role 0 is active in session 0, where role 2 was; role 1 is active in session 5, where role 3 was
unfoldable pub mixed : List ℕ
mixed =
    set_bytes 8 (0 ∷ 5 ∷ [])
    ++ (set_bytes 8 (0 ∷ 1 ∷ 2 ∷ 3 ∷ [])
    ++ (session (0 ∷ []) (0 ∷ 2 ∷ []) ++ (replicate 64 0 ++ (session (1 ∷ []) (1 ∷ 3 ∷ []) ++ replicate 32 0))))

-- for session 5: at least permission 1, the most permissions and the most roles. Counted already are the roles 2 and 3
-- by kind 3, role 0 by kind 1, the roles 1 and 3 by kind 2, and none by kind 0.
unfoldable pub text_of_reducing : List ℕ
text_of_reducing =
    lines_text
    ("p wcnf 20 36 18"
    ∷ "18 -3 0"
    ∷ "18 -5 0"
    ∷ "18 -1 7 0"
    ∷ "18 -2 7 0"
    ∷ "18 -6 0"
    ∷ "18 -7 1 2 0"
    ∷ "18 7 0"
    ∷ "18 -5 8 0"
    ∷ "18 -8 0"
    ∷ "18 -2 9 0"
    ∷ "18 -3 11 0"
    ∷ "18 -9 11 0"
    ∷ "18 -10 12 0"
    ∷ "18 -3 -9 12 0"
    ∷ "18 -12 0"
    ∷ "18 -1 13 0"
    ∷ "18 -13 0"
    ∷ "18 -1 14 0"
    ∷ "18 -14 0"
    ∷ "18 -1 15 0"
    ∷ "18 -2 17 0"
    ∷ "18 -15 17 0"
    ∷ "18 -16 18 0"
    ∷ "18 -2 -15 18 0"
    ∷ "18 -5 19 0"
    ∷ "18 -17 19 0"
    ∷ "18 -18 20 0"
    ∷ "18 -5 -17 20 0"
    ∷ "18 -20 0"
    ∷ "6 6 0"
    ∷ "6 7 0"
    ∷ "1 1 0"
    ∷ "1 2 0"
    ∷ "1 3 0"
    ∷ "1 4 0"
    ∷ "1 5 0" ∷ [])

-- 16 roles, all of them the user's, and six permissions; the last role carries the last permission
unfoldable pub sixteen : List ℕ
sixteen = image_of (head_word 1 16 6 ∷ (assignments 16 ++ (grant_word 15 5 ∷ [])))

-- for at least permission 5, the fewest permissions and any roles: the top weight has three digits
unfoldable pub text_of_sixteen : List ℕ
text_of_sixteen =
    lines_text
    ("p wcnf 22 14 103"
    ∷ "103 -16 22 0"
    ∷ "103 -17 0"
    ∷ "103 -18 0"
    ∷ "103 -19 0"
    ∷ "103 -20 0"
    ∷ "103 -21 0"
    ∷ "103 -22 16 0"
    ∷ "103 22 0"
    ∷ "17 -17 0"
    ∷ "17 -18 0"
    ∷ "17 -19 0"
    ∷ "17 -20 0"
    ∷ "17 -21 0"
    ∷ "17 -22 0" ∷ [])

-- one role, the user's, and 100 permissions; it carries permission 98
unfoldable pub hundred : List ℕ
hundred = image_of (head_word 1 1 100 ∷ assign_word 0 0 ∷ grant_word 0 98 ∷ [])

-- for at least permission 98 and none but 0 to 98, any permissions and any roles: variables of three digits, and
-- numbers of variables and clauses. It is long since a hundred variables have some 85 lines at least: each permission
-- one, each role one but for the user's 16 at most, each helper more than one.
unfoldable pub text_of_hundred : List ℕ
text_of_hundred =
    lines_text
    ("p wcnf 101 103 1" ∷ "1 -1 100 0" ∷ "1 -2 0" ∷ "1 -3 0" ∷ "1 -4 0" ∷ "1 -5 0" ∷ "1 -6 0" ∷ "1 -7 0" ∷ "1 -8 0" ∷ "1 -9 0" ∷ "1 -10 0" ∷ "1 -11 0"
    ∷ "1 -12 0" ∷ "1 -13 0" ∷ "1 -14 0" ∷ "1 -15 0" ∷ "1 -16 0" ∷ "1 -17 0" ∷ "1 -18 0" ∷ "1 -19 0" ∷ "1 -20 0" ∷ "1 -21 0" ∷ "1 -22 0" ∷ "1 -23 0"
    ∷ "1 -24 0" ∷ "1 -25 0" ∷ "1 -26 0" ∷ "1 -27 0" ∷ "1 -28 0" ∷ "1 -29 0" ∷ "1 -30 0" ∷ "1 -31 0" ∷ "1 -32 0" ∷ "1 -33 0" ∷ "1 -34 0" ∷ "1 -35 0"
    ∷ "1 -36 0" ∷ "1 -37 0" ∷ "1 -38 0" ∷ "1 -39 0" ∷ "1 -40 0" ∷ "1 -41 0" ∷ "1 -42 0" ∷ "1 -43 0" ∷ "1 -44 0" ∷ "1 -45 0" ∷ "1 -46 0" ∷ "1 -47 0"
    ∷ "1 -48 0" ∷ "1 -49 0" ∷ "1 -50 0" ∷ "1 -51 0" ∷ "1 -52 0" ∷ "1 -53 0" ∷ "1 -54 0" ∷ "1 -55 0" ∷ "1 -56 0" ∷ "1 -57 0" ∷ "1 -58 0" ∷ "1 -59 0"
    ∷ "1 -60 0" ∷ "1 -61 0" ∷ "1 -62 0" ∷ "1 -63 0" ∷ "1 -64 0" ∷ "1 -65 0" ∷ "1 -66 0" ∷ "1 -67 0" ∷ "1 -68 0" ∷ "1 -69 0" ∷ "1 -70 0" ∷ "1 -71 0"
    ∷ "1 -72 0" ∷ "1 -73 0" ∷ "1 -74 0" ∷ "1 -75 0" ∷ "1 -76 0" ∷ "1 -77 0" ∷ "1 -78 0" ∷ "1 -79 0" ∷ "1 -80 0" ∷ "1 -81 0" ∷ "1 -82 0" ∷ "1 -83 0"
    ∷ "1 -84 0" ∷ "1 -85 0" ∷ "1 -86 0" ∷ "1 -87 0" ∷ "1 -88 0" ∷ "1 -89 0" ∷ "1 -90 0" ∷ "1 -91 0" ∷ "1 -92 0" ∷ "1 -93 0" ∷ "1 -94 0" ∷ "1 -95 0"
    ∷ "1 -96 0" ∷ "1 -97 0" ∷ "1 -98 0" ∷ "1 -99 0" ∷ "1 -100 1 0" ∷ "1 -101 0" ∷ "1 100 0" ∷ "1 -101 0" ∷ [])

-- the permissions 0 to 98, as a bound
unfoldable pub all_but_last : List ℕ
all_but_last = replicate 12 255 ++ (7 ∷ replicate 19 0)

-- the same for user 0 of image A for two, where fewer than 2 sessions may hold Data_Manager's role and the other user
-- holds it: it is barred
unfoldable pub text_of_barred : List ℕ
text_of_barred = lines_text ("p wcnf 11 27 18" ∷ "18 -2 0" ∷ []) ++ drop 16 text_of_a

-- session 0 is open, with no role, and with the Doctor's
unfoldable pub fresh : List ℕ
fresh = two_of (0 ∷ []) [] quiet quiet

unfoldable pub held : List ℕ
held = two_of (0 ∷ []) (0 ∷ []) (session (0 ∷ []) (0 ∷ [])) quiet

-- session 1 is open, with no role, and the Doctor's role was had
unfoldable pub past : List ℕ
past = two_of (1 ∷ []) (0 ∷ []) quiet quiet

unfoldable pub text_cases : List TextCase
text_cases =
    -- buffers of the exact length, one byte longer, one shorter and of none
    writes (image_bytes image_a) fresh fewest 258 text_of_a
    ∷ writes (image_bytes image_a) fresh fewest 259 text_of_a
    ∷ turns_away (image_bytes image_a) fresh fewest 257 19
    ∷ turns_away (image_bytes image_a) fresh fewest 0 19
    -- the replaced roles do not count
    ∷ writes (image_bytes image_a) held fewest 258 text_of_a
    -- a role that others hold as often as they may is forbidden
    ∷ writes (image_bytes (image_limited (managers 2 ∷ []))) (fresh ++ two_of (0 ∷ []) (1 ∷ []) (session (1 ∷ []) (1 ∷ [])) quiet) fewest 266 text_of_barred
    -- a member that is counted already leaves the room of one
    ∷ writes (image_bytes (image_of_kind 3)) past most 182 text_of_past
    ∷ writes four_roles (two_of (0 ∷ []) (1 ∷ []) (session [] (1 ∷ [])) quiet) (text_from 0 (0 ∷ []) (0 ∷ 1 ∷ []) 2 0) 365 text_of_four
    -- what each kind counts already, in a session above 3
    ∷ writes reducing mixed (text_from 5 (1 ∷ []) (0 ∷ 1 ∷ []) 2 2) 366 text_of_reducing
    -- numbers of three digits
    ∷ writes sixteen fresh (text_from 0 (5 ∷ []) (0 ∷ 1 ∷ 2 ∷ 3 ∷ 4 ∷ 5 ∷ []) 1 0) 156 text_of_sixteen
    ∷ writes hundred fresh (clauses_by 0 0 (bound (98 ∷ [])) all_but_last 0 0) 841 text_of_hundred
    -- 12, 13, 16, 17 and 18, with nothing behind them right
    ∷ turns_away (image_bytes image_a) fresh (text_from 8 (5 ∷ []) [] 3 3) 0 12
    ∷ turns_away (image_bytes image_a) fresh (text_from 1 (5 ∷ []) [] 3 3) 0 13
    ∷ turns_away (image_bytes image_a) fresh (text_from 0 (5 ∷ []) [] 3 3) 0 16
    ∷ turns_away (image_bytes image_a) fresh (text_from 0 (1 ∷ []) [] 3 3) 0 17
    ∷ turns_away (image_bytes image_a) fresh (text_from 0 (1 ∷ []) (1 ∷ []) 3 0) 0 18
    ∷ turns_away (image_bytes image_a) fresh (text_from 0 (1 ∷ []) (1 ∷ []) 0 3) 0 18
    ∷ turns_away highs fresh (text_from 0 (1 ∷ []) (1 ∷ []) 4 0) 0 18
    ∷ turns_away highs fresh (text_from 0 (1 ∷ []) (1 ∷ []) 0 4) 0 18
    ∷ turns_away highs fresh (text_from 0 (1 ∷ []) (1 ∷ []) 256 0) 0 18
    ∷ turns_away highs fresh (text_from 0 (1 ∷ []) (1 ∷ []) 0 256) 0 18
    ∷ turns_away highs fresh (text_from 0 (1 ∷ []) (1 ∷ []) (2 ^ 32) 0) 0 18
    ∷ turns_away highs fresh (text_from 0 (1 ∷ []) (1 ∷ []) 0 (2 ^ 32)) 0 18
    -- 16 and 17, by bounds that differ above permission 63 alone
    ∷ turns_away highs fresh (text_from 0 (200 ∷ []) (201 ∷ []) 3 3) 0 16
    ∷ turns_away highs fresh (text_from 0 (100 ∷ 200 ∷ []) (100 ∷ 150 ∷ []) 3 3) 0 17
    -- an ask that no set answers has a text too
    ∷ writes (image_bytes image_a) fresh (text_from 0 (3 ∷ 4 ∷ []) (3 ∷ 4 ∷ []) 0 0) 209 text_of_none
    -- 15, with nothing behind it right
    ∷ (map (λ n. turns_away highs fresh (clauses_by 0 0 (set_bytes n []) (bound (201 ∷ [])) 3 3) 0 15) other_lengths
    ++ map (λ n. turns_away highs fresh (clauses_by 0 0 (bound (201 ∷ [])) (set_bytes n []) 3 3) 0 15) other_lengths)
