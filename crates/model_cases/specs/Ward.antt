-- The ward examples: images, first ledgers and calls with the answers that 01 gives them. `starred` are 01's starred
-- cases, `settled` further ones on what 01 says in words, `fewer`, which are among these, those on exclusions with n
-- below m, `carded` those on limits.
-- Assumes nothing.
use Rattle.std.specs.Prelude.{Bool, List, [], ◌∷◌, ◌++◌, map, ℕ, ◌+◌, ◌-◌, ◌*◌, ◌^◌, replicate, take, drop}
use Rattle.model.specs.Tests.{same_lists}
use Rattle.model.specs.Bytes.{number, bytes_of}
use Rattle.model.specs.Words.{head_word, assign_word, grant_word, senior_word, exclusion_word, member_word, limit_word, image_bytes, ended}
use Rattle.model.specs.Line.{SESSIONS}
use Rattle.model.specs.Run.{Call, Event, run, open_by, close_by, ask_by, short_ask_by, show_by, explain_by, clauses_by}

-- ---- images as words

-- image A, in 01's own words: Doctor carries 0 to 3, Data_Manager 1 and 4; one user has both, and no two may be active
-- in any of her sessions
unfoldable pub image_a : List ℕ
image_a =
    0x102080A0 ∷ 0x20000000 ∷ 0x20010000 ∷ 0x30000000 ∷ 0x30004000 ∷ 0x30008000 ∷ 0x3000C000 ∷ 0x30404000 ∷ 0x30410000 ∷ 0x54102000
    ∷ 0x60000000 ∷ 0x60400000 ∷ 0xFB0B9F60 ∷ []

-- image A with another exclusion word
unfoldable pub image_with : ℕ → List ℕ
image_with x = ended (take 9 image_a ++ (x ∷ member_word 0 ∷ member_word 1 ∷ []))

-- image A with kind k, and with n of 1, which is refused
unfoldable pub image_of_kind : ℕ → List ℕ
image_of_kind k = image_with (exclusion_word k 2 2)

unfoldable pub image_of_one : List ℕ
image_of_one = image_with (exclusion_word 1 1 2)

-- image A for two users, the second with the same roles
unfoldable pub image_of_two : List ℕ
image_of_two = ended (head_word 2 2 5 ∷ assign_word 1 0 ∷ assign_word 1 1 ∷ drop 1 (take 12 image_a))

-- the same with limit words
unfoldable pub image_limited : List ℕ → List ℕ
image_limited ws = ended (head_word 2 2 5 ∷ assign_word 1 0 ∷ assign_word 1 1 ∷ (drop 1 (take 12 image_a) ++ ws))

-- the limit t on Doctor, and on Data_Manager
unfoldable pub doctors : ℕ → ℕ
doctors t = limit_word 0 t

unfoldable pub managers : ℕ → ℕ
managers t = limit_word 1 t

-- four roles that carry nothing, three of them the user's; by kind k fewer than n of the first m roles may be counted
unfoldable pub fewer_of : ℕ → ℕ → ℕ → List ℕ
fewer_of k n m =
    ended
    (head_word 1 4 1 ∷ assign_word 0 0 ∷ assign_word 0 1 ∷ assign_word 0 2 ∷ exclusion_word k n m
    ∷ take m (member_word 0 ∷ member_word 1 ∷ member_word 2 ∷ member_word 3 ∷ []))

-- three users with one role, which carries the one permission; fewer than t sessions may hold it
unfoldable pub one_role : ℕ → List ℕ
one_role t = ended (head_word 3 1 1 ∷ assign_word 0 0 ∷ assign_word 1 0 ∷ assign_word 2 0 ∷ grant_word 0 0 ∷ doctors t ∷ [])

-- 003's three roles, which carry 0 and 2, 1 and 3, 1 and 2
unfoldable pub three_roles : List ℕ
three_roles =
    ended
    (head_word 1 3 4 ∷ assign_word 0 0 ∷ assign_word 0 1 ∷ assign_word 0 2 ∷ grant_word 0 0 ∷ grant_word 0 2 ∷ grant_word 1 1 ∷ grant_word 1 3
    ∷ grant_word 2 1 ∷ grant_word 2 2 ∷ [])

-- three roles, which carry 0, 1, and both
unfoldable pub two_and_both : List ℕ
two_and_both =
    ended
    (head_word 1 3 2 ∷ assign_word 0 0 ∷ assign_word 0 1 ∷ assign_word 0 2 ∷ grant_word 0 0 ∷ grant_word 1 1 ∷ grant_word 2 0 ∷ grant_word 2 1
    ∷ [])

-- three roles, which carry all of 0 to 2, 0, and 1
unfoldable pub three_or_two : List ℕ
three_or_two =
    ended
    (head_word 1 3 3 ∷ assign_word 0 0 ∷ assign_word 0 1 ∷ assign_word 0 2 ∷ grant_word 0 0 ∷ grant_word 0 1 ∷ grant_word 0 2 ∷ grant_word 1 0
    ∷ grant_word 2 1 ∷ [])

-- role 0 over 1 over 2, role r granted permission r; the user has role 0 alone
unfoldable pub hierarchy : List ℕ
hierarchy = ended (head_word 1 3 3 ∷ assign_word 0 0 ∷ grant_word 0 0 ∷ grant_word 1 1 ∷ grant_word 2 2 ∷ senior_word 0 1 ∷ senior_word 1 2 ∷ [])

-- Head, Nurse and Surgeon, Head over Nurse, role r granted permission r; the user is assigned to Head alone
unfoldable pub ward_head : List ℕ
ward_head = ended (head_word 1 3 3 ∷ assign_word 0 0 ∷ grant_word 0 0 ∷ grant_word 1 1 ∷ grant_word 2 2 ∷ senior_word 0 1 ∷ [])

-- the hierarchy with role 2 over 0, a loop; the user has roles 1 and 2
unfoldable pub loop : List ℕ
loop =
    ended
    (head_word 1 3 3 ∷ assign_word 0 1 ∷ assign_word 0 2 ∷ grant_word 0 0 ∷ grant_word 1 1 ∷ grant_word 2 2 ∷ senior_word 0 1 ∷ senior_word 1 2
    ∷ senior_word 2 0 ∷ [])

-- role 0 over 3 over 2 over 1; roles 1 and 2 are granted permission 0, role 0 permission 1; the user has roles 2 and 3
unfoldable pub two_grants : List ℕ
two_grants =
    ended
    (head_word 1 4 2 ∷ assign_word 0 2 ∷ assign_word 0 3 ∷ grant_word 1 0 ∷ grant_word 2 0 ∷ grant_word 0 1 ∷ senior_word 3 2 ∷ senior_word 2 1
    ∷ senior_word 0 3 ∷ [])

-- the widest numbers: 64 roles and 256 permissions; role 63 over 62 and 16, permission 64 granted to roles 16 and 63,
-- permission 255 to roles 62 and 63; the user has roles 16 and 63
unfoldable pub widest : List ℕ
widest =
    ended
    (head_word 1 64 256 ∷ assign_word 0 16 ∷ assign_word 0 63 ∷ grant_word 16 64 ∷ grant_word 63 64 ∷ grant_word 62 255 ∷ grant_word 63 255
    ∷ senior_word 63 16 ∷ senior_word 63 62 ∷ [])

-- ---- calls by user 0, with the bounds as set numbers

unfoldable pub opens : Call
opens = open_by 0

unfoldable pub closes : ℕ → Call
closes k = close_by 0 k

unfoldable pub asks : ℕ → ℕ → ℕ → ℕ → ℕ → Call
asks k lower upper a b = ask_by 0 k (bytes_of 32 lower) (bytes_of 32 upper) a b 40

unfoldable pub asks_short : ℕ → ℕ → ℕ → Call
asks_short k lower upper = short_ask_by 0 k (bytes_of 32 lower) (bytes_of 32 upper) 40

unfoldable pub shows : ℕ → Call
shows k = show_by 0 k 40

unfoldable pub explains : ℕ → ℕ → Call
explains k n = explain_by 0 k n

-- short asks by user 1: for 0 and 1, which Doctor alone carries, and for 4, which Data_Manager alone carries
unfoldable pub asks_doctor : ℕ → Call
asks_doctor k = short_ask_by 1 k (bytes_of 32 0x3) (bytes_of 32 0x1f) 40

unfoldable pub asks_manager : ℕ → Call
asks_manager k = short_ask_by 1 k (bytes_of 32 0x10) (bytes_of 32 0x1f) 40

-- a short ask by user 1 in session 0 for permission 0, and the clause text of it, which has no room
unfoldable pub asks_middle : Call
asks_middle = short_ask_by 1 0 (bytes_of 32 1) (bytes_of 32 1) 40

unfoldable pub texts_middle : Call
texts_middle = clauses_by 1 0 (bytes_of 32 1) (bytes_of 32 1) 1 1 0

-- a clause text, for at least 1 and none but 0 to 3
unfoldable pub texts_low : ℕ → ℕ → Call
texts_low k room = clauses_by 0 k (bytes_of 32 0x2) (bytes_of 32 0xf) 1 1 room

-- ---- cases

-- an answer as the program prints it: number, extra, roles, permissions
unfoldable pub printed : Event → List ℕ
printed e = e.reply.number ∷ e.reply.extra ∷ number (take 8 e.reply.filled) ∷ number (drop 8 e.reply.filled) ∷ []

pub record Case : Type 0 where
  pub image : List ℕ
  pub ledger : List ℕ
  pub calls : List Call
  pub answers : List (List ℕ)

unfoldable pub holds : Case → Bool
holds c = same_lists (map printed (run SESSIONS (image_bytes c.image) c.ledger c.calls)) c.answers

-- a case of one user, from the zero ledger
unfoldable pub case : List ℕ → List Call → List (List ℕ) → Case
case image calls answers = record { image = image; ledger = replicate 144 0; calls = calls; answers = answers }

-- the six lines of 01's example, and their answers
unfoldable pub lines : List Call
lines = opens ∷ asks 0 0x3 0x1f 1 0 ∷ opens ∷ asks 1 0x12 0x1f 1 0 ∷ closes 0 ∷ asks 1 0x12 0x1f 1 0 ∷ []

-- done, with an extra and nothing filled in: the session that an open took, or the two roles of an explain, 64 times
-- the active one plus the granting one
unfoldable pub done_with : ℕ → List ℕ
done_with x = 0 ∷ x ∷ 0 ∷ 0 ∷ []

-- done, with roles and the permissions that they carry
unfoldable pub chose : ℕ → ℕ → List ℕ
chose roles permissions = 0 ∷ 0 ∷ roles ∷ permissions ∷ []

unfoldable pub refused_for : ℕ → ℕ → List ℕ
refused_for n x = n ∷ x ∷ 0 ∷ 0 ∷ []

unfoldable pub refused : ℕ → List ℕ
refused n = refused_for n 0

-- two asks of one session: lower 3, then lower 12
unfoldable pub two_asks : List Call
two_asks = opens ∷ asks 0 0x3 0x1f 0 0 ∷ asks 0 0x12 0x1f 0 0 ∷ []

unfoldable pub starred : List Case
starred =
    case image_a (take 1 lines) (done_with 0 ∷ [])
    ∷ case image_a (take 2 lines) (done_with 0 ∷ chose 1 0xf ∷ [])
    ∷ case image_a (take 4 lines) (done_with 0 ∷ chose 1 0xf ∷ done_with 1 ∷ refused 20 ∷ [])
    ∷ case image_a lines (done_with 0 ∷ chose 1 0xf ∷ done_with 1 ∷ refused 20 ∷ done_with 0 ∷ chose 2 0x12 ∷ [])
    ∷ case (image_of_kind 3) lines (done_with 0 ∷ chose 1 0xf ∷ done_with 1 ∷ refused 20 ∷ done_with 0 ∷ refused 20 ∷ [])
    ∷ case (image_of_kind 2) two_asks (done_with 0 ∷ chose 1 0xf ∷ refused 20 ∷ [])
    ∷ case (image_of_kind 2) (two_asks ++ (opens ∷ asks 1 0x12 0x1f 0 0 ∷ [])) (done_with 0 ∷ chose 1 0xf ∷ refused 20 ∷ done_with 1 ∷ chose 2 0x12 ∷ [])
    ∷ case image_a (opens ∷ asks 0 0x3 0x3 0 0 ∷ []) (done_with 0 ∷ refused 20 ∷ [])
    ∷ case image_a (opens ∷ asks 0 0 0 1 0 ∷ []) (done_with 0 ∷ chose 0 0 ∷ [])
    ∷ case image_of_one (opens ∷ asks 0 0x3 0x1f 0 0 ∷ asks 0 0 0 0 0 ∷ []) (replicate 3 (refused_for 5 9))
    ∷ case image_a (replicate 9 opens)
    (done_with 0 ∷ done_with 1 ∷ done_with 2 ∷ done_with 3 ∷ done_with 4 ∷ done_with 5 ∷ done_with 6 ∷ done_with 7 ∷ refused 14 ∷ [])
    ∷ case three_roles (opens ∷ asks 0 0x1 0xf 2 0 ∷ []) (done_with 0 ∷ chose 3 0xf ∷ [])
    ∷ case three_roles (opens ∷ asks 0 0x1 0xf 2 2 ∷ []) (done_with 0 ∷ chose 7 0xf ∷ [])
    ∷ case three_roles (opens ∷ asks 0 0x1 0xf 1 2 ∷ []) (done_with 0 ∷ chose 1 0x5 ∷ [])
    ∷ []

-- a line with two open sessions, which have Doctor active
unfoldable pub doctor_line : List ℕ
doctor_line = bytes_of 8 3 ++ (bytes_of 8 1 ++ (bytes_of 8 1 ++ (bytes_of 8 1 ++ (bytes_of 8 1 ++ (bytes_of 8 1 ++ replicate 96 0)))))

-- a line that is not sound, of 144 bytes
unfoldable pub damaged : List ℕ
damaged = replicate 144 255

-- the ledger of one user with the roles s active in session 0
unfoldable pub active_role : ℕ → List ℕ
active_role s = bytes_of 8 1 ++ (bytes_of 8 s ++ (bytes_of 8 s ++ (bytes_of 8 s ++ replicate 112 0)))

-- a case of two users, under image A for two with the limit words
unfoldable pub case_of_two : List ℕ → List ℕ → List Call → List (List ℕ) → Case
case_of_two ws ledger calls answers = record { image = image_limited ws; ledger = ledger; calls = calls; answers = answers }

-- a case of three users, with their lines, in which fewer than t sessions may hold the role
unfoldable pub case_of_three : ℕ → List ℕ → List ℕ → List ℕ → List Call → List (List ℕ) → Case
case_of_three t l0 l1 l2 calls answers = record { image = one_role t; ledger = l0 ++ (l1 ++ l2); calls = calls; answers = answers }

-- limits
unfoldable pub carded : List Case
carded =
    -- the t - 1st session is given the role, and the t-th is refused, over two users, until one closes; a set without
    -- the role is given
    case_of_two (doctors 2 ∷ []) (replicate 288 0)
    (opens ∷ asks_short 0 0x3 0x1f ∷ open_by 1 ∷ asks_doctor 0 ∷ asks_manager 0 ∷ closes 0 ∷ asks_doctor 0 ∷ [])
    (done_with 0 ∷ chose 1 0xf ∷ done_with 0 ∷ refused 20 ∷ chose 2 0x12 ∷ done_with 0 ∷ chose 1 0xf ∷ [])
    -- the user's own other sessions count, the roles replaced do not
    ∷ case_of_two (doctors 2 ∷ []) (replicate 288 0)
    (opens ∷ asks_short 0 0x3 0x1f ∷ asks_short 0 0x3 0x1f ∷ opens ∷ asks_short 1 0x3 0x1f ∷ [])
    (done_with 0 ∷ chose 1 0xf ∷ chose 1 0xf ∷ done_with 1 ∷ refused 20 ∷ [])
    -- t of 3 lets two sessions hold the role; the limit is that of the role named
    ∷ case_of_two (doctors 3 ∷ managers 2 ∷ []) (replicate 288 0)
    (opens ∷ asks_short 0 0x3 0x1f ∷ opens ∷ asks_short 1 0x3 0x1f ∷ open_by 1 ∷ asks_doctor 0 ∷ asks_manager 0 ∷ [])
    (done_with 0 ∷ chose 1 0xf ∷ done_with 1 ∷ chose 1 0xf ∷ done_with 0 ∷ refused 20 ∷ chose 2 0x12 ∷ [])
    -- of several limits for a role the smallest counts, in either order
    ∷ case_of_two (doctors 2 ∷ doctors 3 ∷ []) (replicate 288 0)
    (opens ∷ asks_short 0 0x3 0x1f ∷ open_by 1 ∷ asks_doctor 0 ∷ []) (done_with 0 ∷ chose 1 0xf ∷ done_with 0 ∷ refused 20 ∷ [])
    ∷ case_of_two (doctors 3 ∷ doctors 2 ∷ []) (replicate 288 0)
    (opens ∷ asks_short 0 0x3 0x1f ∷ open_by 1 ∷ asks_doctor 0 ∷ []) (done_with 0 ∷ chose 1 0xf ∷ done_with 0 ∷ refused 20 ∷ [])
    -- a closed session's history does not count
    ∷ case_of_two (doctors 2 ∷ []) (replicate 288 0)
    (opens ∷ asks_short 0 0x3 0x1f ∷ asks_short 0 0x10 0x1f ∷ open_by 1 ∷ asks_doctor 0 ∷ [])
    (done_with 0 ∷ chose 1 0xf ∷ chose 2 0x12 ∷ done_with 0 ∷ chose 1 0xf ∷ [])
    -- a damaged line of a higher user: an ask and a clause text name it, before 12, and the other calls do not look at
    -- it
    ∷ case_of_two (doctors 2 ∷ []) (replicate 144 0 ++ damaged)
    (opens ∷ asks_short 0 0x3 0x1f ∷ asks 8 0 0 3 3 ∷ texts_low 0 0 ∷ shows 0 ∷ explains 0 4 ∷ closes 0 ∷ open_by 1 ∷ asks_doctor 0 ∷ [])
    (done_with 0 ∷ refused_for 11 2 ∷ refused_for 11 2 ∷ refused_for 11 2 ∷ chose 0 0 ∷ refused 20 ∷ done_with 0 ∷ refused 11 ∷ refused 11 ∷ [])
    -- a clause text bars the role too, by one line more than there is room for
    ∷ case_of_two (managers 2 ∷ []) (replicate 288 0) (open_by 1 ∷ asks_manager 0 ∷ opens ∷ texts_low 0 258 ∷ [])
    (done_with 0 ∷ chose 2 0x12 ∷ done_with 0 ∷ refused 19 ∷ [])
    -- of a lower user, and of both
    ∷ case_of_two (doctors 2 ∷ []) (damaged ++ replicate 144 0)
    (open_by 1 ∷ asks_doctor 0 ∷ asks_short 0 0x3 0x1f ∷ []) (done_with 0 ∷ refused_for 11 1 ∷ refused 11 ∷ [])
    ∷ case_of_two (doctors 2 ∷ []) (damaged ++ damaged) (asks_doctor 0 ∷ asks_short 0 0x3 0x1f ∷ open_by 1 ∷ [])
    (refused_for 11 1 ∷ refused 11 ∷ refused 11 ∷ [])
    -- a line over a limit is sound, and asks for other roles go on; without a limit nobody else's line is looked at
    ∷ case_of_two (doctors 2 ∷ []) (doctor_line ++ replicate 144 0)
    (shows 0 ∷ asks_short 0 0x3 0x1f ∷ open_by 1 ∷ asks_doctor 0 ∷ asks_manager 0 ∷ closes 1 ∷ asks_short 0 0x3 0x1f ∷ [])
    (chose 1 0xf ∷ refused 20 ∷ done_with 0 ∷ refused 20 ∷ chose 2 0x12 ∷ done_with 0 ∷ chose 1 0xf ∷ [])
    ∷ case_of_two [] (replicate 144 0 ++ damaged) (opens ∷ asks_short 0 0x3 0x1f ∷ []) (done_with 0 ∷ chose 1 0xf ∷ [])
    -- the middle one of three users asks: sessions of the user below and of the user above count
    ∷ case_of_three 3 (active_role 1) (active_role 0) (active_role 1) (asks_middle ∷ close_by 2 0 ∷ asks_middle ∷ [])
    (refused 20 ∷ done_with 0 ∷ chose 1 1 ∷ [])
    -- a damaged line of the user above, of the one below, and of both; the asker's own and that of the user above, and
    -- of the one below
    ∷ case_of_three 2 (active_role 0) (active_role 0) damaged (asks_middle ∷ texts_middle ∷ []) (refused_for 11 3 ∷ refused_for 11 3 ∷ [])
    ∷ case_of_three 2 damaged (active_role 0) (active_role 0) (asks_middle ∷ []) (refused_for 11 1 ∷ [])
    ∷ case_of_three 2 damaged (active_role 0) damaged (asks_middle ∷ []) (refused_for 11 1 ∷ [])
    ∷ case_of_three 2 (active_role 0) damaged damaged (asks_middle ∷ []) (refused 11 ∷ [])
    ∷ case_of_three 2 damaged damaged (active_role 0) (asks_middle ∷ []) (refused_for 11 1 ∷ [])
    ∷ []

-- the line of one user with the sessions 0 and 1 open: her history, and what is active in each, with its history
unfoldable pub two_sessions : ℕ → ℕ → ℕ → ℕ → ℕ → List ℕ
two_sessions history a0 h0 a1 h1 =
    bytes_of 8 3 ++ (bytes_of 8 history ++ (bytes_of 8 a0 ++ (bytes_of 8 h0 ++ (bytes_of 8 a1 ++ (bytes_of 8 h1 ++ replicate 96 0)))))

-- an ask for the most roles in session 0, under `fewer_of`, puts in the roles s; and a line that is not sound there
unfoldable pub puts : List ℕ → List ℕ → ℕ → Case
puts image ledger s = record { image = image; ledger = ledger; calls = asks 0 0 0 0 2 ∷ []; answers = chose s 0 ∷ [] }

unfoldable pub unmet : List ℕ → List ℕ → Case
unmet image ledger = record { image = image; ledger = ledger; calls = shows 0 ∷ []; answers = refused 11 ∷ [] }

-- exclusions with n below m, each kind met by n - 1 members and not by n
unfoldable pub fewer : List Case
fewer =
    -- kind 0: one session, whatever another holds
    puts (fewer_of 0 2 3) (two_sessions 0x6 0 0x4 0x2 0x2) 0x1
    ∷ unmet (fewer_of 0 2 3) (two_sessions 0x5 0 0 0x5 0x5)
    ∷ puts (fewer_of 0 3 4) (two_sessions 0xE 0 0xC 0x2 0x2) 0x3
    ∷ unmet (fewer_of 0 3 4) (two_sessions 0x7 0 0 0x7 0x7)
    -- kind 1: with what session 1 holds, each member once
    ∷ puts (fewer_of 1 2 3) (two_sessions 0x6 0 0x4 0x2 0x2) 0x2
    ∷ unmet (fewer_of 1 2 3) (two_sessions 0x5 0x4 0x4 0x1 0x1)
    ∷ puts (fewer_of 1 3 4) (two_sessions 0xE 0 0xC 0x4 0x4) 0x5
    ∷ unmet (fewer_of 1 3 4) (two_sessions 0x7 0x4 0x4 0x3 0x3)
    -- kind 2: with the session's history
    ∷ puts (fewer_of 2 2 3) (two_sessions 0x6 0 0x4 0x2 0x2) 0x4
    ∷ unmet (fewer_of 2 2 3) (two_sessions 0x5 0 0 0 0x5)
    ∷ puts (fewer_of 2 3 4) (two_sessions 0xA 0 0x8 0x2 0x2) 0x1
    ∷ unmet (fewer_of 2 3 4) (two_sessions 0xB 0 0 0 0xB)
    -- kind 3: with the user's
    ∷ puts (fewer_of 3 2 3) (two_sessions 0x2 0 0 0 0) 0x2
    ∷ unmet (fewer_of 3 2 3) (two_sessions 0x5 0 0 0 0)
    ∷ puts (fewer_of 3 3 4) (two_sessions 0xC 0 0 0 0) 0x4
    ∷ unmet (fewer_of 3 3 4) (two_sessions 0xB 0 0 0 0)
    ∷ []

unfoldable pub settled : List Case
settled =
    -- the replaced set does not count, in kinds 0 and 1
    case (image_of_kind 0) two_asks (done_with 0 ∷ chose 1 0xf ∷ chose 2 0x12 ∷ [])
    ∷ case (image_of_kind 1) two_asks (done_with 0 ∷ chose 1 0xf ∷ chose 2 0x12 ∷ [])
    -- kind 0 counts this session alone
    ∷ case (image_of_kind 0) (take 4 lines) (done_with 0 ∷ chose 1 0xf ∷ done_with 1 ∷ chose 2 0x12 ∷ [])
    -- a closed session's roles still count in kind 3, and no longer in kind 2, where a session begins anew
    ∷ case (image_of_kind 3) (opens ∷ asks 0 0x3 0x1f 0 0 ∷ closes 0 ∷ opens ∷ asks 0 0x12 0x1f 0 0 ∷ [])
    (done_with 0 ∷ chose 1 0xf ∷ done_with 0 ∷ done_with 0 ∷ refused 20 ∷ [])
    ∷ case (image_of_kind 2) (opens ∷ asks 0 0x3 0x1f 0 0 ∷ closes 0 ∷ opens ∷ asks 0 0x12 0x1f 0 0 ∷ [])
    (done_with 0 ∷ chose 1 0xf ∷ done_with 0 ∷ done_with 0 ∷ chose 2 0x12 ∷ [])
    -- a member that two sessions hold counts once
    ∷ case image_a (opens ∷ asks 0 0x3 0x1f 0 0 ∷ opens ∷ asks 1 0x3 0x1f 0 0 ∷ []) (done_with 0 ∷ chose 1 0xf ∷ done_with 1 ∷ chose 1 0xf ∷ [])
    -- a replaced set stays in the session's history and in the user's, and the session goes on
    ∷ case image_a (two_asks ++ (shows 0 ∷ opens ∷ asks 1 0x3 0x1f 0 0 ∷ shows 1 ∷ closes 0 ∷ asks 1 0x3 0x1f 0 0 ∷ shows 0 ∷ []))
    (done_with 0 ∷ chose 1 0xf ∷ chose 2 0x12 ∷ chose 2 0x12 ∷ done_with 1 ∷ refused 20 ∷ chose 0 0 ∷ done_with 0 ∷ chose 1 0xf ∷ refused 13 ∷ [])
    -- seniority passes permissions, through every step of a chain, and the right to activate a junior
    ∷ case hierarchy (opens ∷ asks 0 0x4 0x7 2 1 ∷ asks 0 0x4 0x7 1 1 ∷ asks 0 0x2 0x6 1 1 ∷ [])
    (done_with 0 ∷ chose 1 0x7 ∷ chose 4 0x4 ∷ chose 2 0x6 ∷ [])
    -- the ward head may take Nurse and not Surgeon, and a line is sound with the one active and not with the other
    ∷ case ward_head (opens ∷ asks 0 0x2 0x2 1 1 ∷ shows 0 ∷ asks 0 0x4 0x7 0 0 ∷ []) (done_with 0 ∷ chose 2 0x2 ∷ chose 2 0x2 ∷ refused 20 ∷ [])
    ∷ record { image = ward_head; ledger = active_role 0x2; calls = shows 0 ∷ []; answers = chose 2 0x2 ∷ [] }
    ∷ record { image = ward_head; ledger = active_role 0x4; calls = shows 0 ∷ []; answers = refused 11 ∷ [] }
    -- a loop is refused, before the ledger's length is looked at
    ∷ case loop (opens ∷ asks 0 0x1 0x7 1 1 ∷ []) (refused 22 ∷ refused 22 ∷ [])
    ∷ record { image = loop; ledger = replicate 143 0; calls = opens ∷ []; answers = refused 22 ∷ [] }
    -- a short ask takes the fewest permissions, and of sets with as many the fewest roles, where the objectives 0, 0
    -- take the lowest number
    ∷ case three_roles (opens ∷ asks 0 0x6 0xf 0 0 ∷ asks_short 0 0x6 0xf ∷ []) (done_with 0 ∷ chose 3 0xf ∷ chose 4 0x6 ∷ [])
    ∷ case two_and_both (opens ∷ asks 0 0x3 0x3 0 0 ∷ asks 0 0x3 0x3 1 0 ∷ asks_short 0 0x3 0x3 ∷ [])
    (done_with 0 ∷ chose 3 0x3 ∷ chose 3 0x3 ∷ chose 4 0x3 ∷ [])
    -- permissions come first: two roles that carry 0 and 1 rank before one that carries 2 also
    ∷ case three_or_two (opens ∷ asks 0 0x3 0x7 0 1 ∷ asks_short 0 0x3 0x7 ∷ []) (done_with 0 ∷ chose 1 0x7 ∷ chose 6 0x3 ∷ [])
    -- an explain names the lowest active role that carries the permission, and the lowest granting role at or below it;
    -- it changes nothing
    ∷ case two_grants (opens ∷ explains 0 0 ∷ asks 0 0x1 0x1 0 2 ∷ explains 0 0 ∷ []) (done_with 0 ∷ refused 20 ∷ chose 14 0x1 ∷ done_with 65 ∷ [])
    ∷ record {
      image = two_grants;
      ledger = active_role 12;
      calls = explains 0 0 ∷ explains 0 1 ∷ explains 0 2 ∷ shows 0 ∷ [];
      answers = done_with 129 ∷ refused 20 ∷ refused 16 ∷ chose 12 0x1 ∷ [];
    }
    ∷ case hierarchy (opens ∷ asks 0 0x4 0x7 2 1 ∷ explains 0 0 ∷ explains 0 2 ∷ explains 0 (2 ^ 64 - 1) ∷ explains 1 3 ∷ explains 8 3 ∷ [])
    (done_with 0 ∷ chose 1 0x7 ∷ done_with 0 ∷ done_with 2 ∷ refused 16 ∷ refused 13 ∷ refused 12 ∷ [])
    ∷ case widest
    (opens ∷ asks 0 (2 ^ 255) (2 ^ 255 + 2 ^ 64) 0 2 ∷ explains 0 64 ∷ explains 0 255 ∷ explains 0 1 ∷ explains 0 256 ∷ asks 0 (2 ^ 255) (2 ^ 255 + 2 ^ 64) 2 1
    ∷ explains 0 64 ∷ [])
    (done_with 0 ∷ chose (2 ^ 63 + 2 ^ 62 + 2 ^ 16) (2 ^ 255 + 2 ^ 64) ∷ done_with (64 * 16 + 16) ∷ done_with (64 * 62 + 62) ∷ refused 20 ∷ refused 16
    ∷ chose (2 ^ 63) (2 ^ 255 + 2 ^ 64) ∷ done_with (64 * 63 + 16) ∷ [])
    ∷ case loop (explains 0 0 ∷ []) (refused 22 ∷ [])
    -- another user's damaged line does not refuse this one's calls
    ∷ record {
      image = image_of_two;
      ledger = replicate 144 0 ++ damaged;
      calls = opens ∷ asks 0 0x3 0x1f 0 0 ∷ open_by 1 ∷ open_by 2 ∷ shows 0 ∷ [];
      answers = done_with 0 ∷ chose 1 0xf ∷ refused 11 ∷ refused 10 ∷ chose 1 0xf ∷ [];
    }
    ∷ record {
      image = image_of_two;
      ledger = damaged ++ replicate 144 0;
      calls = opens ∷ open_by 1 ∷ [];
      answers = refused 11 ∷ done_with 0 ∷ [];
    }
    -- a refused call leaves the line as it was
    ∷ case image_a (opens ∷ ask_by 0 0 (bytes_of 32 0x3) (bytes_of 32 0x1f) 0 0 39 ∷ shows 0 ∷ []) (done_with 0 ∷ refused 19 ∷ chose 0 0 ∷ [])
    -- tests run in number order
    ∷ record { image = image_a; ledger = replicate 143 0; calls = open_by 1 ∷ []; answers = refused 9 ∷ [] }
    ∷ case image_a (open_by 1 ∷ closes 8 ∷ closes 0 ∷ show_by 0 0 39 ∷ opens ∷ show_by 0 0 39 ∷ [])
    (refused 10 ∷ refused 12 ∷ refused 13 ∷ refused 13 ∷ done_with 0 ∷ refused 19 ∷ [])
    ∷ case image_a
    (opens ∷ ask_by 0 0 (bytes_of 31 0) (bytes_of 32 0x20) 3 3 0 ∷ ask_by 0 0 (bytes_of 32 0) (bytes_of 33 0) 3 3 0 ∷ asks 0 0x3f 0x3 3 3
    ∷ asks 0 0 0x20 3 3 ∷ asks 0 0x3 0x1 3 3 ∷ ask_by 0 0 (bytes_of 32 0) (bytes_of 32 0) 3 0 39 ∷ ask_by 0 0 (bytes_of 32 0) (bytes_of 32 0) 0 3 39
    ∷ ask_by 0 0 (bytes_of 32 0x3) (bytes_of 32 0x3) 0 0 39 ∷ short_ask_by 0 0 (bytes_of 32 0x3) (bytes_of 32 0x3) 41 ∷ asks_short 0 0x3 0x3 ∷ [])
    (done_with 0 ∷ refused 15 ∷ refused 15 ∷ refused 16 ∷ refused 16 ∷ refused 17 ∷ refused 18 ∷ refused 18 ∷ refused 19 ∷ refused 19 ∷ refused 20 ∷ [])
    -- n below m
    ∷ fewer
