-- The policy image: bytes, words, entries, and the judgement of an image by its words: accepted with the head's
-- numbers, or refused by 1 to 8 with a place. The named parts of a fault follow the lines 3 to 7 of 01's refusal
-- register.
-- Assumes nothing.
use Rattle.std.specs.Prelude.{Bool, true, false, ◌&&◌, ◌||◌, not, List, ℕ, zero, suc, ◌+◌, ◌-◌, ◌*◌, ◌/◌, ◌%◌, ◌^◌, eqb, ltb, leb, get_or, set, length, replicate}
use Rattle.model.specs.declared.User.{User}
use Rattle.model.specs.declared.Role.{Role}
use Rattle.model.specs.declared.Permission.{Permission}
use Rattle.model.specs.declared.Head.{Head}
use Rattle.model.specs.declared.Kind.{Kind}
use Rattle.model.specs.declared.Kind.TheVariants.{SsDmer, MsDmer, SsHmer, MsHmer}
use Rattle.model.specs.declared.Entry.{Entry}
use Rattle.model.specs.declared.Entry.TheVariants.{Assignment, Grant, Senior, Exclude, Member, Limit, End, Unknown}
use Rattle.model.specs.declared.Word.{Word}
use Rattle.model.specs.declared.Scan.{Scan}
use Rattle.model.specs.declared.Checked.{Checked}
use Rattle.model.specs.declared.Checked.TheVariants.{Accepted, Refused}
use Rattle.model.specs.Tests.{pick, between}
use Rattle.model.specs.Sets.{has, with, count}
use Rattle.model.specs.Kinds.{on_assignment, on_senior, on_exclude, on_member}

-- ---- words

-- the little-endian word at a place, the head at place 0
unfoldable pub word_at : List ℕ → ℕ → ℕ
word_at s place = get_or s (4 * place) 0 + 256 * (get_or s (4 * place + 1) 0 + 256 * (get_or s (4 * place + 2) 0 + 256 * get_or s (4 * place + 3) 0))

-- how many words stand behind the head
unfoldable pub behind_head : List ℕ → ℕ
behind_head s = length s / 4 - 1

-- the field of width bits whose lowest bit is bit low
abbrev pub field : ℕ → ℕ → ℕ → ℕ
field w low width = w / 2 ^ low % 2 ^ width

-- the top four bits are kind k
abbrev pub is_kind : ℕ → ℕ → Bool
is_kind w k = eqb (field w 28 4) k

abbrev pub user : ℕ → User
user u = record { 0 = u }

abbrev pub role : ℕ → Role
role r = record { 0 = r }

abbrev pub permission : ℕ → Permission
permission p = record { 0 = p }

unfoldable pub kind_of : ℕ → Kind
kind_of k = pick (eqb k 0) SsDmer (pick (eqb k 1) MsDmer (pick (eqb k 2) SsHmer MsHmer))

abbrev pub says : Entry → ℕ → Word
says e spare = record { entry = e; spare = spare }

-- A word behind the head decoded: what it says, and its spare bits. Bits 31 to 28 are its kind. From bit 27 down, by
-- 01's table of kinds:
--   2  assignment  user 27 to 22, role 21 to 16; spare 15 to 0
--   3  grant       role 27 to 22, permission 21 to 14; spare 13 to 0
--   4  senior      senior 27 to 22, junior 21 to 16; spare 15 to 0
--   5  exclusion   kind 27 to 26, n 25 to 19, m 18 to 12; spare 11 to 0
--   6  member      role 27 to 22; spare 21 to 0
--   7  limit       role 27 to 22, t 21 to 13; spare 12 to 0
--   15 end         the balance, 27 to 0; none is spare
-- Any other kind says nothing.
unfoldable pub decode : ℕ → Word
decode w =
    pick (is_kind w 2) (says (Assignment (user (field w 22 6)) (role (field w 16 6))) (w % 2 ^ 16))
    (pick (is_kind w 3) (says (Grant (role (field w 22 6)) (permission (field w 14 8))) (w % 2 ^ 14))
    (pick (is_kind w 4) (says (Senior (role (field w 22 6)) (role (field w 16 6))) (w % 2 ^ 16))
    (pick (is_kind w 5)
    (says (Exclude (record { kind = kind_of (field w 26 2); n = field w 19 7; members = 0 }) (field w 12 7)) (w % 2 ^ 12))
    (pick (is_kind w 6) (says (Member (role (field w 22 6))) (w % 2 ^ 22))
    (pick (is_kind w 7) (says (Limit (role (field w 22 6)) (field w 13 9)) (w % 2 ^ 13))
    (pick (is_kind w 15) (says End 0) (says Unknown 0)))))))

-- ---- the faults of a word behind the head; `final` says that it is the last word, `rows` has the roles assigned so
-- far, a row a user

-- 3: a word of no kind, a member not due, another word where a member is due, an end before the end, a last word that
-- is no end
unfoldable pub wrong_kind : Bool → ℕ → Entry → Bool
wrong_kind final due (Assignment u r) = final || not (eqb due 0)
wrong_kind final due (Grant r p) = final || not (eqb due 0)
wrong_kind final due (Senior a b) = final || not (eqb due 0)
wrong_kind final due (Exclude x m) = final || not (eqb due 0)
wrong_kind final due (Member r) = final || eqb due 0
wrong_kind final due (Limit r t) = final || not (eqb due 0)
wrong_kind final due End = not final || not (eqb due 0)
wrong_kind final due Unknown = true

-- 5 where not: each number below U, R or P; m from 1 to R; n from 2 to m; t from 2 to 256
unfoldable pub in_range : Head → Entry → Bool
in_range h (Assignment u r) = ltb u.0 h.users && ltb r.0 h.roles
in_range h (Grant r p) = ltb r.0 h.roles && ltb p.0 h.permissions
in_range h (Senior a b) = ltb a.0 h.roles && ltb b.0 h.roles
in_range h (Exclude x m) = between 1 m h.roles && between 2 x.n m
in_range h (Member r) = ltb r.0 h.roles
in_range h (Limit r t) = ltb r.0 h.roles && between 2 t 256
in_range h End = true
in_range h Unknown = true

-- 6: a member already in this exclusion, a senior equal to its junior
unfoldable pub repeats : Scan → Entry → Bool
repeats t e = on_senior (on_member false (λ r. has t.members r.0) e) (λ a b. eqb a.0 b.0) e

-- 7: a user's 17th different role, the 33rd exclusion
unfoldable pub crowds : List ℕ → Scan → Entry → Bool
crowds rows t e =
    on_assignment (on_exclude false (λ x m. leb 32 t.exclusions) e)
    (λ u r. not (has (get_or rows u.0 0) r.0) && leb 16 (count 64 (get_or rows u.0 0))) e

-- the first of the faults 5 to 7 that the entry has, or 0
unfoldable pub entry_fault : Head → List ℕ → Scan → Entry → ℕ
entry_fault h rows t e = pick (not (in_range h e)) 5 (pick (repeats t e) 6 (pick (crowds rows t e) 7 0))

-- 4 where there are spare bits, else n
abbrev pub sparing : ℕ → ℕ → ℕ
sparing spare n = pick (not (eqb spare 0)) 4 n

-- the first of the faults 3 to 7 that the word has, or 0
unfoldable pub fault : Head → List ℕ → Scan → Bool → Word → ℕ
fault h rows t final w = pick (wrong_kind final t.due w.entry) 3 (sparing w.spare (entry_fault h rows t w.entry))

-- ---- a word without fault, taken in

-- row u of a table of roles by user, with the role r too
unfoldable pub assigning : List ℕ → Entry → List ℕ
assigning rows e = on_assignment rows (λ u r. set rows u.0 (with (get_or rows u.0 0) r.0)) e

unfoldable pub next : Scan → Entry → Scan
next t e =
    on_exclude (on_member t (λ r. record { exclusions = t.exclusions; due = t.due - 1; members = with t.members r.0 }) e)
    (λ x m. record { exclusions = t.exclusions + 1; due = m; members = 0 }) e

-- ---- the words behind the head

-- 8, when all words are read and place is behind the last: the low 28 bits of the sum are to be zero
unfoldable pub balanced : Head → ℕ → ℕ → Checked
balanced h place sum = pick (eqb (sum % 2 ^ 28) 0) (Accepted h) (Refused 8 (place - 1))

-- n words from the place on, where sum is the 32-bit sum of the words before it: the earliest bad word decides
unfoldable pub scan : List ℕ → Head → ℕ → ℕ → List ℕ → Scan → ℕ → Checked
scan s h zero place rows t sum = balanced h place sum
scan s h (suc n) place rows t sum =
    let w = decode (word_at s place) in
    elim (eqb (fault h rows t (eqb n 0) w) 0) [
      | true ↦ scan s h n (place + 1) (assigning rows w.entry) (next t w.entry) ((sum + word_at s place) % 2 ^ 32)
      | false ↦ Refused (fault h rows t (eqb n 0) w) place
    ]

-- ---- the head, and the whole

-- the head's numbers, from bit 27 down: U 27 to 21, R 20 to 14, P 13 to 5; spare 4 to 0
unfoldable pub head_of : ℕ → Head
head_of w = record { users = field w 21 7; roles = field w 14 7; permissions = field w 5 9 }

-- 2 where not: kind 1, U, R and P in their ranges, no spare bits
unfoldable pub head_right : ℕ → Bool
head_right w =
    is_kind w 1 && between 1 (field w 21 7) 64 && between 1 (field w 14 7) 64 && between 1 (field w 5 9) 256 && eqb (w % 2 ^ 5) 0

-- 1 where not: a multiple of 4, from 8 to 16,384 bytes
unfoldable pub length_right : ℕ → Bool
length_right n = eqb (n % 4) 0 && between 8 n 16384

-- a table of 64 empty rows
unfoldable pub empty_rows : List ℕ
empty_rows = replicate 64 0

-- before the first word behind the head
unfoldable pub start : Scan
start = record { exclusions = 0; due = 0; members = 0 }

-- by the refusals 1 to 8 alone; what the words mean together is judged by `judge` (specs/Judgement.antt)
unfoldable pub judge_words : List ℕ → Checked
judge_words s =
    elim (length_right (length s)) [
      | false ↦ Refused 1 0
      | true ↦ elim (head_right (word_at s 0)) [
        | false ↦ Refused 2 0
        | true ↦ scan s (head_of (word_at s 0)) (behind_head s) 1 empty_rows start (word_at s 0)
      ]
    ]

-- the number that a check returns: 0, or the refusal's number plus 256 times what it names
unfoldable pub check_number : Checked → ℕ
check_number (Accepted h) = 0
check_number (Refused n x) = n + 256 * x
