-- What a host sees: cases with the number that a C call returns, and the bytes of its answer buffer and of the ledger
-- after it. Users, roles, permissions and sessions up to the highest; lines that are not sound, each by one clause;
-- every refusal from 9 to 20 of open, close, ask, short ask, show and explain, refused images, and every refusal of a
-- check.
-- Assumes nothing.
use Rattle.std.specs.Prelude.{Bool, true, ◌&&◌, List, [], ◌∷◌, ◌++◌, map, ℕ, zero, suc, ◌+◌, ◌*◌, ◌/◌, ◌%◌, ◌^◌, eqb, get_or, set, length, replicate, take, drop}
use Rattle.model.specs.declared.Checked.{Checked}
use Rattle.model.specs.Image.{head_of, empty_rows, start, scan, check_number}
use Rattle.model.specs.Judgement.{judge}
use Rattle.model.specs.Line.{SESSIONS}
use Rattle.model.specs.Run.{Call, step, returned, answered, open_by, close_by, ask_by, short_ask_by, show_by, explain_by}
use Rattle.model.specs.Words.{head_word, assign_word, grant_word, senior_word, exclusion_word, member_word, image_bytes, ended}
use Rattle.model.specs.Tests.{same_list}
use Rattle.model_cases.specs.Ward.{image_a, image_of_kind, opens, closes, shows, damaged, widest, explains}
use Rattle.model_cases.specs.Refusals.{body_a, edited, assignments, wide}

-- ---- images

-- member words of the roles below n
unfoldable pub member_words : ℕ → List ℕ
member_words zero = []
member_words (suc n) = member_word n ∷ member_words n

-- the bytes of an image with these words before its end word
unfoldable pub image_of : List ℕ → List ℕ
image_of ws = image_bytes (ended ws)

-- ---- sets, answers and lines as bytes

-- n bytes that hold the set with the members ks: k is bit k mod 8 of byte k div 8
unfoldable pub set_bytes : ℕ → List ℕ → List ℕ
set_bytes n [] = replicate n 0
set_bytes n (k ∷ ks) = let bs = set_bytes n ks in set bs (k / 8) (get_or bs (k / 8) 0 + 2 ^ (k % 8))

-- a bound
unfoldable pub bound : List ℕ → List ℕ
bound permissions = set_bytes 32 permissions

-- an answer buffer that a call fills
unfoldable pub full : List ℕ → List ℕ → List ℕ
full roles permissions = set_bytes 8 roles ++ set_bytes 32 permissions

-- an answer buffer of n bytes before a call
unfoldable pub old : ℕ → List ℕ
old n = replicate n 0xA5

-- a session's 16 bytes: its active roles, and its history
unfoldable pub session : List ℕ → List ℕ → List ℕ
session active history = set_bytes 8 active ++ set_bytes 8 history

unfoldable pub idle : List ℕ
idle = session [] []

-- a line: its open sessions, the user's history, the first two sessions, five that are zero, and the last
unfoldable pub line : List ℕ → List ℕ → List ℕ → List ℕ → List ℕ → List ℕ
line opened history s0 s1 s7 = set_bytes 8 opened ++ (set_bytes 8 history ++ (s0 ++ (s1 ++ (replicate 80 0 ++ s7))))

-- ---- cases

-- a call by a host: the bytes of its answer buffer before it (none for a call without one), the number that it returns,
-- and the bytes of the answer buffer and of the ledger after it
pub record HostCall : Type 0 where
  pub call : Call
  pub buffer : List ℕ
  pub number : ℕ
  pub answer : List ℕ
  pub ledger : List ℕ

-- an open or a close that is done
unfoldable pub changes : Call → ℕ → List ℕ → HostCall
changes c number ledger = record { call = c; buffer = []; number = number; answer = []; ledger = ledger }

-- an ask or a show that is done
unfoldable pub fills : Call → List ℕ → List ℕ → HostCall
fills c answer ledger = record { call = c; buffer = old 40; number = 0; answer = answer; ledger = ledger }

-- a refused call, with an answer buffer of n bytes: it leaves the ledger and the buffer as they were
unfoldable pub leaves : List ℕ → Call → ℕ → ℕ → HostCall
leaves ledger c n number = record { call = c; buffer = old n; number = number; answer = old n; ledger = ledger }

-- the calls, each on the ledger that the one before left
unfoldable pub seen : List ℕ → List ℕ → List HostCall → Bool
seen image ledger [] = true
seen image ledger (h ∷ hs) =
    let e = step SESSIONS image ledger h.call in
    eqb (returned e.reply) h.number && same_list (answered h.buffer e.reply) h.answer && same_list e.ledger h.ledger
    && seen image h.ledger hs

pub record HostCase : Type 0 where
  pub image : List ℕ
  pub ledger : List ℕ
  pub calls : List HostCall

unfoldable pub is_seen : HostCase → Bool
is_seen c = seen c.image c.ledger c.calls

unfoldable pub under : List ℕ → List ℕ → List HostCall → HostCase
under image ledger calls = record { image = image; ledger = ledger; calls = calls }

-- ---- asks of user 0 for the members of bounds, with an answer buffer of 40 bytes

unfoldable pub asks_for : ℕ → List ℕ → List ℕ → ℕ → ℕ → Call
asks_for k lower upper a b = ask_by 0 k (bound lower) (bound upper) a b 40

unfoldable pub asks_briefly : ℕ → List ℕ → List ℕ → Call
asks_briefly k lower upper = short_ask_by 0 k (bound lower) (bound upper) 40

-- all permissions of image A
unfoldable pub all_of_a : List ℕ
all_of_a = 0 ∷ 1 ∷ 2 ∷ 3 ∷ 4 ∷ []

-- ---- image A, call by call

-- lines of image A's one user: the sessions 0 and 1 with their active roles and histories
unfoldable pub two : List ℕ → List ℕ → List ℕ → List ℕ → List ℕ
two opened history s0 s1 = line opened history s0 s1 idle

unfoldable pub doctor : List ℕ
doctor = session (0 ∷ []) (0 ∷ [])

unfoldable pub manager : List ℕ
manager = session (1 ∷ []) (1 ∷ [])

-- 01's six lines, and a show of what they leave
unfoldable pub six_lines : HostCase
six_lines =
    under (image_bytes image_a) (replicate 144 0)
    (changes opens 0 (two (0 ∷ []) [] idle idle)
    ∷ fills (asks_for 0 (0 ∷ 1 ∷ []) all_of_a 1 0) (full (0 ∷ []) (0 ∷ 1 ∷ 2 ∷ 3 ∷ [])) (two (0 ∷ []) (0 ∷ []) doctor idle)
    ∷ changes opens 256 (two (0 ∷ 1 ∷ []) (0 ∷ []) doctor idle)
    ∷ leaves (two (0 ∷ 1 ∷ []) (0 ∷ []) doctor idle) (asks_for 1 (1 ∷ 4 ∷ []) all_of_a 1 0) 40 20
    ∷ changes (closes 0) 0 (two (1 ∷ []) (0 ∷ []) idle idle)
    ∷ fills (asks_for 1 (1 ∷ 4 ∷ []) all_of_a 1 0) (full (1 ∷ []) (1 ∷ 4 ∷ [])) (two (1 ∷ []) (0 ∷ 1 ∷ []) idle manager)
    ∷ fills (shows 1) (full (1 ∷ []) (1 ∷ 4 ∷ [])) (two (1 ∷ []) (0 ∷ 1 ∷ []) idle manager)
    ∷ [])

-- the same by short asks in one session: the replaced role stays in both histories, and an empty set is an answer
unfoldable pub short_asks : HostCase
short_asks =
    under (image_bytes image_a) (two (0 ∷ []) [] idle idle)
    (fills (asks_briefly 0 (0 ∷ []) all_of_a) (full (0 ∷ []) (0 ∷ 1 ∷ 2 ∷ 3 ∷ [])) (two (0 ∷ []) (0 ∷ []) doctor idle)
    ∷ leaves (two (0 ∷ []) (0 ∷ []) doctor idle) (asks_briefly 0 (0 ∷ 4 ∷ []) all_of_a) 40 20
    ∷ fills (asks_briefly 0 (4 ∷ []) all_of_a) (full (1 ∷ []) (1 ∷ 4 ∷ [])) (two (0 ∷ []) (0 ∷ 1 ∷ []) (session (1 ∷ []) (0 ∷ 1 ∷ [])) idle)
    ∷ fills (asks_briefly 0 [] []) (full [] []) (two (0 ∷ []) (0 ∷ 1 ∷ []) (session [] (0 ∷ 1 ∷ [])) idle)
    ∷ fills (shows 0) (full [] []) (two (0 ∷ []) (0 ∷ 1 ∷ []) (session [] (0 ∷ 1 ∷ [])) idle)
    ∷ [])

-- the numbers of all sessions
unfoldable pub eight : List ℕ
eight = 0 ∷ 1 ∷ 2 ∷ 3 ∷ 4 ∷ 5 ∷ 6 ∷ 7 ∷ []

-- open takes the lowest closed session, up to session 7
unfoldable pub eight_sessions : HostCase
eight_sessions =
    under (image_bytes image_a) (two (0 ∷ []) (0 ∷ []) doctor idle)
    (changes opens 256 (two (0 ∷ 1 ∷ []) (0 ∷ []) doctor idle)
    ∷ changes opens 512 (two (0 ∷ 1 ∷ 2 ∷ []) (0 ∷ []) doctor idle)
    ∷ changes (closes 1) 0 (two (0 ∷ 2 ∷ []) (0 ∷ []) doctor idle)
    ∷ changes opens 256 (two (0 ∷ 1 ∷ 2 ∷ []) (0 ∷ []) doctor idle)
    ∷ changes opens 768 (two (take 4 eight) (0 ∷ []) doctor idle)
    ∷ changes opens 1024 (two (take 5 eight) (0 ∷ []) doctor idle)
    ∷ changes opens 1280 (two (take 6 eight) (0 ∷ []) doctor idle)
    ∷ changes opens 1536 (two (take 7 eight) (0 ∷ []) doctor idle)
    ∷ changes opens 1792 (two eight (0 ∷ []) doctor idle)
    ∷ leaves (two eight (0 ∷ []) doctor idle) opens 0 14
    ∷ fills (asks_for 7 (0 ∷ []) all_of_a 0 0) (full (0 ∷ []) (0 ∷ 1 ∷ 2 ∷ 3 ∷ [])) (line eight (0 ∷ []) doctor idle doctor)
    ∷ changes (closes 7) 0 (two (take 7 eight) (0 ∷ []) doctor idle)
    ∷ [])

-- ---- refusals

-- under a refused image every call returns its number and place, whatever else it is given
unfoldable pub refused_image : List ℕ → ℕ → HostCase
refused_image image number =
    let ledger = old 7 in
    under image ledger
    (leaves ledger (open_by 9) 0 number ∷ leaves ledger (close_by 9 9) 0 number ∷ leaves ledger (ask_by 9 9 [] [] 9 9 3) 3 number
    ∷ leaves ledger (short_ask_by 9 9 [] [] 3) 3 number ∷ leaves ledger (show_by 9 9 3) 3 number ∷ leaves ledger (explain_by 9 9 999) 0 number ∷ [])

-- under image A and on this ledger, every call by user u of session k with nothing else right is refused by the number
unfoldable pub refuses_all : List ℕ → ℕ → ℕ → ℕ → HostCase
refuses_all ledger u k number =
    under (image_bytes image_a) ledger
    (leaves ledger (close_by u k) 0 number ∷ leaves ledger (ask_by u k [] [] 9 9 3) 3 number ∷ leaves ledger (short_ask_by u k [] [] 3) 3 number
    ∷ leaves ledger (show_by u k 3) 3 number ∷ leaves ledger (explain_by u k 999) 0 number ∷ [])

-- image A's user with session 0 open
unfoldable pub opened0 : List ℕ
opened0 = two (0 ∷ []) [] idle idle

-- an ask and a short ask of session 0, with an answer buffer of n bytes, refused
unfoldable pub ask_refused : List ℕ → List ℕ → ℕ → ℕ → ℕ → ℕ → HostCall
ask_refused lower upper a b n number = leaves opened0 (ask_by 0 0 lower upper a b n) n number

unfoldable pub short_refused : List ℕ → List ℕ → ℕ → ℕ → HostCall
short_refused lower upper n number = leaves opened0 (short_ask_by 0 0 lower upper n) n number

-- 201 permissions, and no entry
unfoldable pub highs : List ℕ
highs = image_of (head_word 1 1 201 ∷ [])

-- lengths that are not a bound's 32 bytes
unfoldable pub other_lengths : List ℕ
other_lengths = 0 ∷ 31 ∷ 33 ∷ 34 ∷ 64 ∷ []

-- 15, with nothing behind it right: a lower and an upper bound of another length, and two that are together as long as
-- right ones
unfoldable pub refused_lengths : HostCase
refused_lengths =
    under highs opened0
    (map (λ n. ask_refused (set_bytes n []) (bound (201 ∷ [])) 3 3 39 15) other_lengths
    ++ (map (λ n. ask_refused (bound (201 ∷ [])) (set_bytes n []) 3 3 39 15) other_lengths
    ++ (map (λ n. short_refused (set_bytes n []) (bound (201 ∷ [])) 39 15) other_lengths
    ++ (map (λ n. short_refused (bound (201 ∷ [])) (set_bytes n []) 39 15) other_lengths
    ++ (ask_refused (set_bytes 31 []) (set_bytes 33 []) 3 3 39 15 ∷ short_refused (set_bytes 64 []) [] 39 15 ∷ [])))))

-- 16 and 17, by bounds that differ above permission 63 alone; 18, by high objectives
unfoldable pub refused_above : HostCase
refused_above =
    under highs opened0
    (ask_refused (bound (200 ∷ [])) (bound (201 ∷ [])) 3 3 39 16
    ∷ short_refused (bound (201 ∷ [])) (bound (200 ∷ [])) 39 16
    ∷ ask_refused (bound (100 ∷ [])) (bound []) 3 3 39 17
    ∷ ask_refused (bound (150 ∷ [])) (bound (100 ∷ [])) 3 3 39 17
    ∷ ask_refused (bound (100 ∷ 150 ∷ 200 ∷ [])) (bound (100 ∷ 150 ∷ [])) 3 3 39 17
    ∷ short_refused (bound (200 ∷ [])) (bound (150 ∷ [])) 39 17
    ∷ ask_refused (bound (200 ∷ [])) (bound (200 ∷ [])) 4 0 39 18
    ∷ ask_refused (bound (200 ∷ [])) (bound (200 ∷ [])) 0 4 39 18
    ∷ ask_refused (bound (200 ∷ [])) (bound (200 ∷ [])) 256 0 39 18
    ∷ ask_refused (bound (200 ∷ [])) (bound (200 ∷ [])) 0 256 39 18
    ∷ ask_refused (bound (200 ∷ [])) (bound (200 ∷ [])) (2 ^ 32) 0 39 18
    ∷ ask_refused (bound (200 ∷ [])) (bound (200 ∷ [])) 0 (2 ^ 32) 39 18
    ∷ [])

-- 16 to 20, with nothing behind them right: a permission not below P, bounds, objectives, room, no set
unfoldable pub refused_asks : HostCase
refused_asks =
    under (image_bytes image_a) opened0
    (ask_refused (bound (5 ∷ [])) (bound []) 3 3 39 16
    ∷ ask_refused (bound (255 ∷ [])) (bound []) 3 3 39 16
    ∷ ask_refused (bound (4 ∷ [])) (bound (5 ∷ [])) 3 3 39 16
    ∷ ask_refused (bound (4 ∷ [])) (bound (3 ∷ [])) 3 3 39 17
    ∷ ask_refused (bound (4 ∷ [])) (bound (4 ∷ [])) 3 0 39 18
    ∷ ask_refused (bound (4 ∷ [])) (bound (4 ∷ [])) 0 3 39 18
    ∷ ask_refused (bound (4 ∷ [])) (bound (4 ∷ [])) 2 2 39 19
    ∷ ask_refused (bound (4 ∷ [])) (bound (4 ∷ [])) 2 2 41 19
    ∷ ask_refused (bound (4 ∷ [])) (bound (4 ∷ [])) 2 2 0 19
    ∷ ask_refused (bound (4 ∷ [])) (bound (4 ∷ [])) 2 2 40 20
    ∷ short_refused (bound (5 ∷ [])) (bound []) 39 16
    ∷ short_refused (bound (4 ∷ [])) (bound (3 ∷ [])) 39 17
    ∷ short_refused (bound (4 ∷ [])) (bound (4 ∷ [])) 39 19
    ∷ short_refused (bound (4 ∷ [])) (bound (4 ∷ [])) 41 19
    ∷ short_refused (bound (4 ∷ [])) (bound (4 ∷ [])) 40 20
    ∷ leaves opened0 (show_by 0 0 39) 39 19
    ∷ leaves opened0 (show_by 0 0 41) 41 19
    ∷ [])

-- ---- lines that are sound, and lines that are not

-- a show of session 0 under the image: roles and permissions, where the line is sound
unfoldable pub sound_line : List ℕ → List ℕ → List ℕ → List ℕ → HostCase
sound_line image ledger roles permissions = under image ledger (fills (shows 0) (full roles permissions) ledger ∷ [])

-- 11, where it is not
unfoldable pub unsound_line : List ℕ → List ℕ → HostCase
unsound_line image ledger = under image ledger (leaves ledger (shows 0) 40 11 ∷ leaves ledger opens 0 11 ∷ [])

-- three roles with a permission each; the user has the roles 0 and 1
unfoldable pub plain : List ℕ
plain = image_of (head_word 1 3 3 ∷ assign_word 0 0 ∷ assign_word 0 1 ∷ grant_word 0 0 ∷ grant_word 1 1 ∷ grant_word 2 2 ∷ [])

-- role 0 over 1 over 2, and 3 beside them, with a permission each; the user has the role 1 alone
unfoldable pub headed : List ℕ
headed =
    image_of
    (head_word 1 4 4 ∷ assign_word 0 1 ∷ grant_word 0 0 ∷ grant_word 1 1 ∷ grant_word 2 2 ∷ grant_word 3 3 ∷ senior_word 0 1 ∷ senior_word 1 2 ∷ [])

-- image A with an exclusion of kind k
unfoldable pub of_kind : ℕ → List ℕ
of_kind k = image_bytes (image_of_kind k)

unfoldable pub lines_judged : List HostCase
lines_judged =
    -- a history may hold a role that is not authorized
    sound_line plain (two (0 ∷ []) (0 ∷ 2 ∷ []) (session (0 ∷ []) (0 ∷ 2 ∷ [])) idle) (0 ∷ []) (0 ∷ [])
    -- open bits beyond session 7
    ∷ unsound_line plain (two (0 ∷ 8 ∷ []) [] idle idle)
    ∷ unsound_line plain (two (0 ∷ 63 ∷ []) [] idle idle)
    -- a history not below R
    ∷ unsound_line plain (two (0 ∷ []) (3 ∷ []) idle idle)
    -- a closed session's bytes
    ∷ unsound_line plain (two (0 ∷ []) (0 ∷ []) idle doctor)
    ∷ unsound_line plain (two (0 ∷ []) (0 ∷ []) idle (session [] (0 ∷ [])))
    ∷ unsound_line plain (line (0 ∷ []) (0 ∷ []) idle idle (session [] (0 ∷ [])))
    -- active beyond the session's history, that beyond the user's, active beyond the authorized roles
    ∷ unsound_line plain (two (0 ∷ []) (0 ∷ []) (session (0 ∷ []) []) idle)
    ∷ unsound_line plain (two (0 ∷ []) [] (session [] (0 ∷ [])) idle)
    ∷ unsound_line plain (two (0 ∷ []) (2 ∷ []) (session (2 ∷ []) (2 ∷ [])) idle)
    -- a role below an assigned one may be active; one above it, or beside it, may not
    ∷ sound_line headed (two (0 ∷ []) (2 ∷ []) (session (2 ∷ []) (2 ∷ [])) idle) (2 ∷ []) (2 ∷ [])
    ∷ unsound_line headed (two (0 ∷ []) (0 ∷ []) (session (0 ∷ []) (0 ∷ [])) idle)
    ∷ unsound_line headed (two (0 ∷ []) (3 ∷ []) (session (3 ∷ []) (3 ∷ [])) idle)
    -- kind 0: active in one session
    ∷ sound_line (of_kind 0) (two (0 ∷ 1 ∷ []) (0 ∷ 1 ∷ []) (session (0 ∷ []) (0 ∷ 1 ∷ [])) manager) (0 ∷ []) (0 ∷ 1 ∷ 2 ∷ 3 ∷ [])
    ∷ unsound_line (of_kind 0) (two (0 ∷ 1 ∷ []) (0 ∷ 1 ∷ []) idle (session (0 ∷ 1 ∷ []) (0 ∷ 1 ∷ [])))
    -- kind 1: active in two
    ∷ sound_line (of_kind 1) (two (0 ∷ 1 ∷ []) (0 ∷ 1 ∷ []) (session (0 ∷ []) (0 ∷ 1 ∷ [])) doctor) (0 ∷ []) (0 ∷ 1 ∷ 2 ∷ 3 ∷ [])
    ∷ unsound_line (of_kind 1) (two (0 ∷ 1 ∷ []) (0 ∷ 1 ∷ []) doctor manager)
    -- kind 2: in the history of one session
    ∷ sound_line (of_kind 2) (two (0 ∷ 1 ∷ []) (0 ∷ 1 ∷ []) doctor manager) (0 ∷ []) (0 ∷ 1 ∷ 2 ∷ 3 ∷ [])
    ∷ unsound_line (of_kind 2) (two (0 ∷ 1 ∷ []) (0 ∷ 1 ∷ []) idle (session [] (0 ∷ 1 ∷ [])))
    -- kind 3: in the user's
    ∷ sound_line (of_kind 3) (two (0 ∷ 1 ∷ []) (0 ∷ []) doctor doctor) (0 ∷ []) (0 ∷ 1 ∷ 2 ∷ 3 ∷ [])
    ∷ unsound_line (of_kind 3) (two (0 ∷ []) (0 ∷ 1 ∷ []) idle idle)
    ∷ []

-- ---- objectives, and high permissions

-- Role 61 carries 64, role 62 127, 192 and 255, role 63 64, 128 and 192: what is best is up to permissions above 63,
-- and to 255.
unfoldable pub ranked : List ℕ
ranked =
    image_of
    (head_word 1 64 256 ∷ assign_word 0 61 ∷ assign_word 0 62 ∷ assign_word 0 63 ∷ grant_word 61 64 ∷ grant_word 62 127 ∷ grant_word 62 192
    ∷ grant_word 62 255 ∷ grant_word 63 64 ∷ grant_word 63 128 ∷ grant_word 63 192 ∷ [])

-- on a line with session 0 open, the roles and permissions fill the answer, and the roles go into the line
unfoldable pub ranks : List ℕ → Call → List ℕ → List ℕ → HostCase
ranks image c roles permissions =
    under image opened0 (fills c (full roles permissions) (two (0 ∷ []) roles (session roles roles) idle) ∷ [])

-- all that they carry
unfoldable pub all_ranked : List ℕ
all_ranked = 64 ∷ 127 ∷ 128 ∷ 192 ∷ 255 ∷ []

-- 64 and 192 are asked for, by the objectives a and b
unfoldable pub ranked_by : ℕ → ℕ → Call
ranked_by a b = asks_for 0 (64 ∷ 192 ∷ []) all_ranked a b

unfoldable pub objectives : List HostCase
objectives =
    ranks ranked (ranked_by 0 1) (63 ∷ []) (64 ∷ 128 ∷ 192 ∷ [])
    ∷ ranks ranked (ranked_by 1 2) (61 ∷ 63 ∷ []) (64 ∷ 128 ∷ 192 ∷ [])
    ∷ ranks ranked (ranked_by 2 0) (62 ∷ 63 ∷ []) all_ranked
    ∷ ranks ranked (ranked_by 2 2) (61 ∷ 62 ∷ 63 ∷ []) all_ranked
    -- an upper bound that differs above permission 63 alone keeps out the other two
    ∷ ranks ranked (asks_for 0 (64 ∷ []) (64 ∷ 128 ∷ []) 2 0) (61 ∷ []) (64 ∷ [])
    ∷ []

-- Role 0 carries 0 and 2, role 1 1, role 2 all three, role 3 0, role 4 0 and 1. For 0 and 1, the best sets are the
-- roles 0 and 1 by the objectives 0, 0, role 2 by 0, 1, the roles 1 and 3 by 1, 0, and role 4 by 1, 1.
unfoldable pub five_roles : List ℕ
five_roles =
    image_of
    (head_word 1 5 3 ∷ assign_word 0 0 ∷ assign_word 0 1 ∷ assign_word 0 2 ∷ assign_word 0 3 ∷ assign_word 0 4 ∷ grant_word 0 0 ∷ grant_word 0 2
    ∷ grant_word 1 1 ∷ grant_word 2 0 ∷ grant_word 2 1 ∷ grant_word 2 2 ∷ grant_word 3 0 ∷ grant_word 4 0 ∷ grant_word 4 1 ∷ [])

unfoldable pub short_objectives : List HostCase
short_objectives =
    ranks five_roles (asks_for 0 (0 ∷ 1 ∷ []) (0 ∷ 1 ∷ 2 ∷ []) 0 0) (0 ∷ 1 ∷ []) (0 ∷ 1 ∷ 2 ∷ [])
    ∷ ranks five_roles (asks_for 0 (0 ∷ 1 ∷ []) (0 ∷ 1 ∷ 2 ∷ []) 1 1) (4 ∷ []) (0 ∷ 1 ∷ [])
    -- a short ask is answered as 1, 1 is
    ∷ ranks five_roles (asks_briefly 0 (0 ∷ 1 ∷ []) (0 ∷ 1 ∷ 2 ∷ [])) (4 ∷ []) (0 ∷ 1 ∷ [])
    ∷ []

-- ---- the highest user, roles, permissions and session

-- The largest head. User 63 has the roles 32 and 63, and may not have had both 32 and 62. Role 63 is over 62, which is
-- granted 127 and 255, and which the user may so activate too.
unfoldable pub far : List ℕ
far =
    image_of
    (head_word 64 64 256 ∷ assign_word 63 32 ∷ assign_word 63 63 ∷ grant_word 32 1 ∷ grant_word 62 127 ∷ grant_word 62 255 ∷ grant_word 63 192
    ∷ senior_word 63 62 ∷ exclusion_word 3 2 2 ∷ member_word 32 ∷ member_word 62 ∷ [])

-- a ledger of 64 users, zero but for the last line
unfoldable pub last_line : List ℕ → List ℕ
last_line bs = replicate (63 * 144) 0 ++ bs

-- the line of user 63 with the sessions open and, in session 7, the roles active that were ever so
unfoldable pub line_of63 : List ℕ → List ℕ → List ℕ
line_of63 opened roles = last_line (line opened roles idle idle (session roles roles))

unfoldable pub last_user : HostCase
last_user =
    let upper = bound (1 ∷ 127 ∷ 192 ∷ 255 ∷ []) in
    let after = line_of63 eight (32 ∷ 63 ∷ []) in
    under far (line_of63 (take 7 eight) [])
    (changes (open_by 63) 1792 (line_of63 eight [])
    -- most roles: with 32 not 62, and 63, which carries what 62 does
    ∷ fills (ask_by 63 7 (bound (1 ∷ [])) upper 0 2 40) (full (32 ∷ 63 ∷ []) (1 ∷ 127 ∷ 192 ∷ 255 ∷ [])) after
    -- 62 alone carries no more than these, and 32 was active
    ∷ leaves after (short_ask_by 63 7 (bound (127 ∷ [])) (bound (127 ∷ 255 ∷ [])) 40) 40 20
    ∷ leaves after (open_by 64) 0 10
    ∷ [])

-- ---- a permission explained

-- session 0 with the roles 16 and 63 active
unfoldable pub both_active : List ℕ
both_active = two (0 ∷ []) (16 ∷ 63 ∷ []) (session (16 ∷ 63 ∷ []) (16 ∷ 63 ∷ [])) idle

-- 256 times 64 * 16 + 16 and 64 * 63 + 62; a permission that neither carries, one not below P, a closed session, no
-- session
unfoldable pub explanations : HostCase
explanations =
    under (image_bytes widest) both_active
    (changes (explains 0 64) 266240 both_active ∷ changes (explains 0 255) 1048064 both_active ∷ leaves both_active (explains 0 1) 0 20
    ∷ leaves both_active (explains 0 256) 0 16 ∷ leaves both_active (explains 1 256) 0 13 ∷ leaves both_active (explains 8 256) 0 12 ∷ [])

-- ---- a loop

-- role 0 over 63 over 62 over 63
unfoldable pub looping : List ℕ
looping = image_of (head_word 1 64 1 ∷ senior_word 0 63 ∷ senior_word 63 62 ∷ senior_word 62 63 ∷ [])

-- ---- a reach of 17

-- role 40 over the roles 41 to 40 + n
unfoldable pub over_higher : ℕ → List ℕ
over_higher zero = []
over_higher (suc n) = senior_word 40 (41 + n) ∷ over_higher n

-- user 63 has role 40 alone, which is over so many others
unfoldable pub reaching : ℕ → List ℕ
reaching n = image_of (head_word 64 64 1 ∷ assign_word 63 40 ∷ over_higher n)

-- ---- all of them

unfoldable pub returned_cases : List HostCase
returned_cases =
    six_lines ∷ short_asks ∷ eight_sessions ∷ explanations
    -- a last word that is no end, at place 11; a length; a head
    ∷ refused_image (image_bytes (take 12 image_a)) 2819
    ∷ refused_image [] 1
    ∷ refused_image (image_bytes (drop 1 image_a)) 2
    -- a loop of the roles 62 and 63, with a role above it
    ∷ refused_image looping 15894
    -- user 63 reaches 17 roles
    ∷ refused_image (reaching 16) 16151
    -- tests run in number order: 9 to 13, with nothing behind them right
    ∷ under (image_bytes image_a) damaged (leaves damaged (open_by 1) 0 10 ∷ [])
    ∷ under (image_bytes image_a) (take 143 damaged) (leaves (take 143 damaged) (open_by 1) 0 9 ∷ [])
    ∷ refuses_all (replicate 143 0) 1 8 9
    ∷ refuses_all (replicate 145 0) 1 8 9
    -- a line of four sessions, which is one to be moved
    ∷ refuses_all (replicate 80 0) 1 8 9
    ∷ refuses_all [] 1 8 9
    ∷ refuses_all damaged 1 8 10
    ∷ refuses_all damaged 0 8 11
    ∷ refuses_all (two (1 ∷ []) [] idle idle) 0 8 12
    ∷ refuses_all (two (1 ∷ []) [] idle idle) 0 0 13
    ∷ refuses_all (two (1 ∷ []) [] idle idle) 0 7 13
    ∷ unsound_line (image_bytes image_a) damaged
    ∷ refused_lengths
    ∷ refused_above
    ∷ refused_asks
    ∷ (lines_judged ++ (objectives ++ (short_objectives ++ (last_user ∷ []))))

-- ---- what a check returns

pub record CheckCase : Type 0 where
  pub judgement : Checked
  pub number : ℕ

unfoldable pub is_checked : CheckCase → Bool
is_checked c = eqb (check_number c.judgement) c.number

unfoldable pub checks : List ℕ → ℕ → CheckCase
checks image number = record { judgement = judge image; number = number }

-- the last words of an image alone, from the place on, under image A's head: to compute the judgement of all the words
-- before a high place takes as long as all the other cases of the list
unfoldable pub checks_from : ℕ → List ℕ → ℕ → CheckCase
checks_from place ws number =
    let words = replicate (4 * place) 0 ++ image_bytes ws in
    record { judgement = scan words (head_of (head_word 1 2 5)) (length ws) place empty_rows start 0; number = number }

unfoldable pub checked_cases : List CheckCase
checked_cases =
    -- accepted: image A, the smallest head with nothing behind it, the highest numbers, an exclusion of 64 roles with n
    -- of 64
    checks (image_bytes image_a) 0
    ∷ checks (image_of (head_word 1 1 1 ∷ [])) 0
    ∷ checks far 0
    ∷ checks (image_of (head_word 1 64 1 ∷ exclusion_word 0 64 64 ∷ member_words 64)) 0
    -- 1 and 2, at place 0: up to 16,384 bytes the length is right
    ∷ checks [] 1
    ∷ checks (replicate 16384 0) 2
    -- 3 to 8, each with 256 times the place
    ∷ checks (edited 3 (0x80000000 ∷ [])) 771
    ∷ checks (edited 10 (0x60200000 ∷ [])) 2564
    ∷ checks (edited 10 (0x60800000 ∷ [])) 2565
    ∷ checks (edited 11 (0x60000000 ∷ [])) 2822
    ∷ checks (image_of (wide (assignments 17))) 4359
    -- 3 at place 256, and 5 at place 300
    ∷ checks_from 255 (grant_word 0 0 ∷ 0x80000000 ∷ 0xF0000000 ∷ []) 65539
    ∷ checks_from 299 (grant_word 0 0 ∷ grant_word 0 5 ∷ 0xF0000000 ∷ []) 76805
    ∷ checks (image_bytes (body_a ++ (0xFB0B9F61 ∷ []))) 3080
    -- 22, with 256 times the lowest role on the loop
    ∷ checks looping 15894
    -- 23, with 256 times the lowest user who may activate more than 16
    ∷ checks (reaching 16) 16151
    ∷ checks (reaching 15) 0
    -- the last word is an assignment, a senior word or an exclusion; a grant and a senior word where a member is due
    ∷ checks (image_bytes (head_word 1 2 1 ∷ assign_word 0 0 ∷ [])) 259
    ∷ checks (image_bytes (head_word 1 2 1 ∷ senior_word 0 1 ∷ [])) 259
    ∷ checks (image_bytes (head_word 1 2 1 ∷ exclusion_word 0 2 2 ∷ [])) 259
    ∷ checks (image_of (head_word 1 2 1 ∷ exclusion_word 0 2 2 ∷ grant_word 0 0 ∷ [])) 515
    ∷ checks (image_of (head_word 1 2 1 ∷ exclusion_word 0 2 2 ∷ senior_word 0 1 ∷ [])) 515
    -- an exclusion of 64 roles with n of 65; numbers at the highest U, R and P
    ∷ checks (image_of (head_word 1 64 1 ∷ exclusion_word 0 65 64 ∷ member_words 64)) 261
    ∷ checks (image_of (head_word 63 63 255 ∷ assign_word 62 62 ∷ grant_word 62 254 ∷ senior_word 62 61 ∷ assign_word 63 0 ∷ [])) 1029
    ∷ checks (image_of (head_word 63 63 255 ∷ assign_word 0 63 ∷ [])) 261
    ∷ checks (image_of (head_word 63 63 255 ∷ grant_word 63 0 ∷ [])) 261
    ∷ checks (image_of (head_word 63 63 255 ∷ grant_word 0 255 ∷ [])) 261
    ∷ checks (image_of (head_word 63 63 255 ∷ senior_word 63 0 ∷ [])) 261
    ∷ checks (image_of (head_word 63 63 255 ∷ senior_word 0 63 ∷ [])) 261
    ∷ checks (image_of (head_word 63 63 255 ∷ exclusion_word 0 2 2 ∷ member_word 63 ∷ member_word 0 ∷ [])) 517
    -- another user's 16 roles are none of this one's
    ∷ checks (image_of (head_word 2 17 1 ∷ (assignments 16 ++ (assign_word 1 16 ∷ [])))) 0
    ∷ []
