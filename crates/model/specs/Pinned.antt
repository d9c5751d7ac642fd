-- What a definition gives on small arguments, by computation: one fact or more for each definition that both sides of a
-- claim cite, so that a wrong one that all claims are proved of is refused here. A definition whose wrong versions
-- must-fail/ tries has its fact in Facts.antt.
-- Assumes nothing.
use Rattle.std.specs.Prelude.{◌≡◌, refl, true, false, List, [], ◌∷◌, ◌++◌, map, ℕ, ◌+◌, ◌-◌, ◌^◌, ◌<◌, get_or, replicate, take, drop}
use Rattle.std.proofs.Common.{ap, inl, inr, arith}
use Rattle.std.proofs.Math.Option.{none, some}
use Rattle.model.specs.declared.Head.{Head}
use Rattle.model.specs.declared.Kind.{Kind}
use Rattle.model.specs.declared.Kind.TheVariants.{SsDmer, MsDmer, SsHmer, MsHmer}
use Rattle.model.specs.declared.Exclusion.{Exclusion}
use Rattle.model.specs.declared.Checked.TheVariants.{Refused}
use Rattle.model.specs.declared.Line.{Line}
use Rattle.model.specs.Sets.{has, union, inter, with, within, meets, set_of, one, count_to, sum_to, count, union_at, lowest_in, subsets}
use Rattle.model.specs.Bytes.{bytes_of}
use Rattle.model.specs.Words.{head_word, assign_word, grant_word, senior_word, exclusion_word, member_word, limit_word, ended, image_bytes}
use Rattle.model.specs.Policy.{Policy, Meaning, Agree, policy_of, table_of, kind_number, sorted, below_table, reached, carried_table, granter, meaning, met, limited, has_limits, only_for, same_exclusion, excludes}
use Rattle.model.specs.Line.{write_line}
use Rattle.model.specs.Limits.{Others, nobody}
use Rattle.model.specs.Reduced.{stay, stays, mask_of, reduced_n}
use Rattle.model.specs.Clauses.{variables_in, holds, fails, must, must_not, gives, give, hard}
use Rattle.model.specs.Dimacs.{ascii, decimal, text_of}
use Rattle.model.specs.Session.{Operation, Result, open_session, close_session, ask, short_ask, show, explain, obstacle, clauses, is_ask, is_text, puts_in, session_of, refuse, done, given, wrote, text_for}
use Rattle.model.specs.Run.{Call, Event, answered, ask_by, clauses_by, close_by, explain_by, obstacle_by, open_by, others_of, returned, run, short_ask_by, show_by, step_by, step_on, told, written}
use Rattle.model.specs.OwnWords.{entry_of, own_words, policy_in, words_from, words_with}
use Rattle.model.specs.Independence.{beside_text, beside_texts, calls_of, has_text, rules, seen_by, told_by}
use Rattle.model.specs.Frames.{fits_line, fits_session, Outside, session_bytes}
use Rattle.model.specs.Ranges.{Ascending, Each}
use Rattle.model.specs.Computing.{computing}
use Rattle.model.specs.Facts.{chain, two, busy, query}

-- ---- sets

abbrev numbers : ℕ → List ℕ
numbers n = table_of n (λ k. k)

pub members : map (has 6) (numbers 4) ≡ (false ∷ true ∷ true ∷ false ∷ [])
unfolding computing
members = refl

pub joined : union 5 6 ∷ inter 5 6 ∷ with 1 2 ∷ set_of (has 6) 3 ∷ set_of (has 6) 2 ∷ [] ≡ (7 ∷ 4 ∷ 5 ∷ 6 ∷ 2 ∷ [])
unfolding computing
joined = refl

-- the sets 0 to 3 within set 1, and set 1 within them; set 1 and these have a member together
pub parts : map (λ s. within s 1) (numbers 4) ++ (map (within 1) (numbers 4) ++ map (meets 1) (numbers 4))
    ≡ (true ∷ true ∷ false ∷ false ∷ []) ++ ((false ∷ true ∷ false ∷ true ∷ []) ++ (false ∷ true ∷ false ∷ true ∷ []))
unfolding computing
parts = refl

pub counts : count 3 6 ∷ count 2 6 ∷ count_to (has 5) 3 ∷ sum_to (λ k. k + 2) 3 ∷ [] ≡ (2 ∷ 1 ∷ 2 ∷ 9 ∷ [])
unfolding computing
counts = refl

-- of 64 roles the last, and none behind it
pub last_role : union_at (replicate 63 0 ++ (1 ∷ 2 ∷ [])) (2 ^ 64 + 2 ^ 63) ∷ count 64 (2 ^ 64 + 2 ^ 63) ∷ [] ≡ (1 ∷ 1 ∷ [])
unfolding computing
last_role = refl

pub lowest_members : lowest_in (has 6) 5 ∷ lowest_in (has 2) 5 ∷ lowest_in (λ k. true) (2 ^ 63) ∷ lowest_in (λ k. true) (2 ^ 64) ∷ []
    ≡ (some 2 ∷ none ∷ some 63 ∷ none ∷ [])
unfolding computing
lowest_members = refl

pub parts_listed : subsets 3 5 ≡ (0 ∷ 1 ∷ 4 ∷ 5 ∷ [])
unfolding computing
parts_listed = refl

-- ---- the policy

-- user 1 has the roles 0 and 2, role 1 permission 1, role 2 is over role 0; of the roles 0 and 2 never both in a
-- session's history; role 1 has the limits 5, 3 and 4
abbrev read_words_lem : List ℕ
read_words_lem =
    head_word 2 3 2 ∷ assign_word 1 0 ∷ assign_word 1 2 ∷ grant_word 1 1 ∷ senior_word 2 0 ∷ exclusion_word 2 2 2 ∷ member_word 0 ∷ member_word 2
    ∷ limit_word 1 5 ∷ limit_word 1 3 ∷ limit_word 1 4 ∷ []

pub tables_read : policy_of (image_bytes (ended read_words_lem))
    ≡ record {
      head = record { users = 2; roles = 3; permissions = 2 };
      assigned = 0 ∷ 5 ∷ replicate 62 0;
      granted = 0 ∷ 2 ∷ replicate 62 0;
      juniors = 0 ∷ 0 ∷ 1 ∷ replicate 61 0;
      exclusions = record { kind = SsHmer; n = 2; members = 5 } ∷ [];
      limits = 0 ∷ 3 ∷ replicate 62 0;
    }
unfolding computing limit_word
tables_read = refl

abbrev kinds : List Kind
kinds = SsDmer ∷ MsDmer ∷ SsHmer ∷ MsHmer ∷ []

pub kind_numbers : map kind_number kinds ≡ (0 ∷ 1 ∷ 2 ∷ 3 ∷ [])
unfolding computing
kind_numbers = refl

abbrev exclude : Kind → ℕ → ℕ → Exclusion
exclude kind limit members = record { kind = kind; n = limit; members = members }

-- by kind, by limit, by members
abbrev ascending : List Exclusion
ascending = exclude SsDmer 2 5 ∷ exclude SsDmer 2 6 ∷ exclude SsDmer 3 3 ∷ exclude MsDmer 2 3 ∷ exclude MsHmer 2 3 ∷ []

abbrev unordered : List Exclusion
unordered =
    exclude MsHmer 2 3 ∷ exclude SsDmer 3 3 ∷ exclude SsDmer 2 6 ∷ exclude SsDmer 2 5 ∷ exclude MsDmer 2 3 ∷ exclude SsDmer 2 6 ∷ []

pub put_in_order : sorted unordered ≡ ascending
unfolding computing
put_in_order = refl

-- role 0 over role 3 over role 1 over role 4 over role 2; user 0 has role 0, user 1 the roles 3 and 4
abbrev mixed : Policy
mixed =
    record {
      head = record { users = 2; roles = 5; permissions = 4 };
      assigned = 1 ∷ 24 ∷ [];
      granted = 1 ∷ 2 ∷ 0 ∷ 12 ∷ 2 ∷ [];
      juniors = 8 ∷ 16 ∷ 0 ∷ 2 ∷ 4 ∷ [];
      exclusions = unordered;
      limits = 0 ∷ 2 ∷ [];
    }

pub below_in_any_order : below_table mixed ≡ (30 ∷ 20 ∷ 0 ∷ 22 ∷ 4 ∷ [])
unfolding computing
below_in_any_order = refl

pub reached_and_itself : reached mixed ≡ (31 ∷ 22 ∷ 4 ∷ 30 ∷ 20 ∷ map (λ r. 2 ^ r) (drop 5 (numbers 64)))
unfolding computing
reached_and_itself = refl

pub carried_by_roles : carried_table mixed ≡ (15 ∷ 2 ∷ 0 ∷ 14 ∷ 2 ∷ replicate 59 0)
unfolding computing
carried_by_roles = refl

pub granting_roles : map (granter mixed 1) (numbers 5) ++ (granter mixed 3 0 ∷ granter mixed 0 3 ∷ [])
    ≡ (some 1 ∷ some 1 ∷ none ∷ some 1 ∷ some 4 ∷ some 3 ∷ none ∷ [])
unfolding computing
granting_roles = refl

-- what the rules see of it, for user 1
pub rules_see : (meaning mixed 1).user ∷ (meaning mixed 1).roles ∷ (meaning mixed 1).permissions ∷ (meaning mixed 1).authorized ∷ [] ≡ (1 ∷ 5 ∷ 4 ∷ 30 ∷ [])
unfolding computing
rules_see = refl

pub rules_see_tables : ((meaning mixed 1).carried ≡ carried_table mixed) × ((meaning mixed 1).granter 1 4 ≡ some 4)
    × ((meaning mixed 1).exclusions ≡ unordered) × ((meaning mixed 1).ordered ≡ ascending) × ((meaning mixed 1).limits ≡ 0 ∷ 2 ∷ [])
unfolding computing
rules_see_tables = (refl, refl, refl, refl, refl)

-- two of the roles 0 and 1 are too many for any exclusion of limit 2 that has both, and for none else
pub all_are_met : map (λ n. (meaning mixed 1).all_met (λ k. n)) (1 ∷ 3 ∷ 8 ∷ []) ≡ (true ∷ false ∷ true ∷ [])
unfolding computing
all_are_met = refl

-- of 64 roles the last is counted, and none behind it
pub met_of_64 : map (λ n. met (λ k. n) (exclude MsDmer 2 n)) ((2 ^ 63 + 2 ^ 62) ∷ (2 ^ 64 + 2 ^ 63) ∷ []) ≡ (false ∷ true ∷ [])
unfolding computing
met_of_64 = refl

pub limited_roles : map (limited (0 ∷ 1 ∷ 2 ∷ [])) (numbers 4) ≡ (false ∷ true ∷ true ∷ false ∷ [])
unfolding computing
limited_roles = refl

abbrev limited_by : List ℕ → Policy
limited_by limits =
    record { head = mixed.head; assigned = []; granted = []; juniors = []; exclusions = []; limits = limits }

pub some_role_limited : map (λ l. has_limits (limited_by l)) ((0 ∷ 0 ∷ []) ∷ (0 ∷ 2 ∷ []) ∷ (1 ∷ 0 ∷ []) ∷ []) ≡ (false ∷ true ∷ true ∷ [])
unfolding computing
some_role_limited = refl

-- other users' assignments are left out, and nothing else
pub only_own : only_for 1 mixed ≡ record {
  head = mixed.head;
  assigned = 0 ∷ 24 ∷ replicate 62 0;
  granted = mixed.granted;
  juniors = mixed.juniors;
  exclusions = unordered;
  limits = mixed.limits;
}
unfolding computing only_for
only_own = refl

-- an exclusion is the same by kind, n and members
pub excluded_ones : map (excludes mixed) (exclude MsDmer 2 3 ∷ exclude SsHmer 2 3 ∷ exclude MsDmer 3 3 ∷ exclude MsDmer 2 5 ∷ [])
    ≡ (true ∷ false ∷ false ∷ false ∷ [])
unfolding computing same_exclusion excludes
excluded_ones = refl

-- policies that differ for user 0 in one part alone do not agree
abbrev parted : ℕ → ℕ → ℕ → ℕ → List Exclusion → Policy
parted roles own grants juniors xs =
    record {
      head = record { users = 2; roles = roles; permissions = 1 };
      assigned = own ∷ [];
      granted = grants ∷ [];
      juniors = juniors ∷ [];
      exclusions = xs;
      limits = [];
    }

pub heads_agree : ¬ Agree 0 (parted 1 0 0 0 []) (parted 2 0 0 0 [])
heads_agree a = let e : ◌≡◌ {A = ℕ} 1 2 = ap (λ (h : Head). h.roles) a.heads in omega arith

pub own_agree : ¬ Agree 0 (parted 1 1 0 0 []) (parted 1 2 0 0 [])
own_agree a = let e : ◌≡◌ {A = ℕ} 1 2 = a.own in omega arith

pub grants_agree : ¬ Agree 0 (parted 1 0 1 0 []) (parted 1 0 2 0 [])
grants_agree a = let e : ◌≡◌ {A = ℕ} 1 2 = ap (λ (l : List ℕ). get_or l 0 0) a.grants in omega arith

pub seniors_agree : ¬ Agree 0 (parted 1 0 0 1 []) (parted 1 0 0 2 [])
seniors_agree a = let e : ◌≡◌ {A = ℕ} 1 2 = ap (λ (l : List ℕ). get_or l 0 0) a.seniors in omega arith

pub exclusions_agree : ¬ Agree 0 (parted 1 0 0 0 (exclude MsDmer 2 3 ∷ [])) (parted 1 0 0 0 [])
unfolding computing same_exclusion excludes
exclusions_agree a = let e : ◌≡◌ {A = ℕ} 1 0 = ap one (a.exclusions (exclude MsDmer 2 3)) in omega arith

-- ---- exclusions reduced

pub what_stays : map (λ c. stay c 1 2 4) kinds ≡ (0 ∷ 1 ∷ 2 ∷ 4 ∷ [])
unfolding computing
what_stays = refl

-- two sessions, the second with role 2; the history of the first has a role that is not active
abbrev both_open : Line
both_open = record { opened = 3; history = 15; sessions = record { active = 1; history = 3 } ∷ record { active = 4; history = 12 } ∷ [] }

pub stays_at_a_session : map (stays both_open 0) kinds ≡ (0 ∷ 4 ∷ 3 ∷ 15 ∷ [])
unfolding computing
stays_at_a_session = refl

pub reduced : mask_of 7 9 ∷ reduced_n 7 3 9 ∷ reduced_n (2 ^ 64 + 2 ^ 63) 3 (2 ^ 64 + 2 ^ 63) ∷ [] ≡ (6 ∷ 2 ∷ 2 ∷ [])
unfolding computing
reduced = refl

-- ---- clause texts

pub clause_shapes : must 1 ∷ must_not 2 ∷ gives 3 4 ∷ give 5 6 7 ∷ []
    ≡ (holds 1 ∷ []) ∷ (fails 2 ∷ []) ∷ (fails 3 ∷ holds 4 ∷ []) ∷ (fails 5 ∷ fails 6 ∷ holds 7 ∷ []) ∷ []
clause_shapes = refl

-- role 0 carries permission 0, role 1 the permissions 0 and 1, role 3, which is none of the user's, permission 2; of
-- the roles 0 to 2 not all three in a session, and of the roles 1 and 2 not both in its history
abbrev texting : Meaning
texting =
    record {
      user = 0;
      roles = 4;
      permissions = 3;
      authorized = 7;
      carried = 1 ∷ 3 ∷ 0 ∷ 4 ∷ [];
      granter = λ m r. none;
      all_met = λ f. true;
      exclusions = exclude SsDmer 3 7 ∷ exclude SsHmer 2 6 ∷ [];
      ordered = [];
      limits = [];
    }

-- role 1 is in the session's history
abbrev past_1 : Line
past_1 = record { opened = 1; history = 2; sessions = record { active = 0; history = 2 } ∷ [] }

pub hard_listed : hard texting past_1 0 1 3
    ≡ must_not 4
    ∷ gives 1 5 ∷ gives 2 5 ∷ gives 2 6 ∷ gives 4 7
    ∷ (fails 5 ∷ holds 1 ∷ holds 2 ∷ []) ∷ (fails 6 ∷ holds 2 ∷ []) ∷ (fails 7 ∷ holds 4 ∷ [])
    ∷ must 5 ∷ must_not 7
    ∷ gives 1 8
    ∷ gives 2 11 ∷ gives 8 11 ∷ gives 9 12 ∷ gives 10 13 ∷ give 2 8 12 ∷ give 2 9 13
    ∷ gives 3 14 ∷ gives 11 14 ∷ gives 12 15 ∷ gives 13 16 ∷ give 3 11 15 ∷ give 3 12 16
    ∷ must_not 16
    ∷ gives 3 17 ∷ must_not 17 ∷ []
unfolding computing
hard_listed = refl

pub numbers_told : map decimal (0 ∷ 9 ∷ 10 ∷ 11 ∷ 99 ∷ 100 ∷ []) ≡ map ascii ("0" ∷ "9" ∷ "10" ∷ "11" ∷ "99" ∷ "100" ∷ [])
unfolding computing
numbers_told = refl

-- 26 hard clauses and 7 soft ones of 5 and 1
pub head_told : take 16 (text_of texting past_1 0 1 3 1 2) ≡ ascii "p wcnf 17 33 20" ++ (10 ∷ [])
unfolding computing
head_told = refl

-- the roles 0 and 1 carry the permissions 0 and 2, and exclude each other in a session's history; session 2 has role 0
-- in its own
abbrev brief : Meaning
brief =
    record {
      user = 0;
      roles = 2;
      permissions = 3;
      authorized = 3;
      carried = 1 ∷ 4 ∷ [];
      granter = λ m r. none;
      all_met = λ f. true;
      exclusions = exclude SsHmer 2 3 ∷ [];
      ordered = [];
      limits = [];
    }

abbrev third_open : Line
third_open =
    record { opened = 4; history = 3; sessions = replicate 2 (record { active = 0; history = 0 }) ++ (record { active = 0; history = 1 } ∷ []) }

-- permission 2 at least, the fewest permissions, any roles
pub text_told : text_for brief nobody third_open 2 (record { lower = bytes_of 32 4; upper = bytes_of 32 7; permission_aim = 1; role_aim = 0; room = 0 })
    ≡ ascii "p wcnf 6 11 10\n10 -1 3 0\n10 -2 5 0\n10 -3 1 0\n10 -4 0\n10 -5 2 0\n10 5 0\n10 -2 6 0\n10 -6 0\n3 -3 0\n3 -4 0\n3 -5 0\n"
unfolding computing
text_told = refl

-- of 64 roles the last has a variable, and none behind it
pub last_variable : variables_in (2 ^ 64 + 2 ^ 63) ≡ 64 ∷ []
unfolding computing
last_variable = refl

-- ---- a whole ledger, of one session a user: 32 bytes a line

-- three users, one session each; fewer than 2 sessions may hold role 0
abbrev three_users : Policy
three_users =
    record {
      head = record { users = 3; roles = 3; permissions = 1 };
      assigned = 3 ∷ 3 ∷ 3 ∷ [];
      granted = 1 ∷ [];
      juniors = [];
      exclusions = [];
      limits = 2 ∷ 0 ∷ [];
    }

-- the lines of users who hold the roles
abbrev holders : List ℕ → List ℕ
holders [] = []
holders (s ∷ ss) = write_line (record { opened = 1; history = s; sessions = record { active = s; history = s } ∷ [] }) ++ holders ss

abbrev asks : ℕ → Call
asks u = ask_by u 0 (bytes_of 32 1) (bytes_of 32 1) 1 1 40

-- what user 1 is told: who holds role 0, which has a limit, and not who holds role 1; and a line with role 2, which is
-- nobody's
pub others_told : map (others_of 1 three_users 1 (holders (3 ∷ 3 ∷ 3 ∷ []))).held (0 ∷ 1 ∷ []) ≡ (2 ∷ 0 ∷ [])
unfolding computing
others_told = refl

pub unsound_told : map (λ u. (others_of 1 three_users u (holders (4 ∷ 0 ∷ 4 ∷ []))).unsound) (numbers 3) ≡ (some 2 ∷ some 0 ∷ some 0 ∷ [])
unfolding computing
unsound_told = refl

-- an ask is told, an open not, and none where no role has a limit
pub who_is_told : map (λ c. (told 1 three_users (holders (0 ∷ 1 ∷ 0 ∷ [])) c).held 0) (asks 0 ∷ open_by 0 ∷ [])
    ++ ((told 1 chain (holders (0 ∷ 1 ∷ [])) (asks 0)).held 0 ∷ []) ≡ (1 ∷ 0 ∷ 0 ∷ [])
unfolding computing
who_is_told = refl

-- nor of a line that is not sound
pub others_not_judged : (told 1 chain (holders (0 ∷ 1 ∷ [])) (asks 0)).unsound ≡ none
unfolding computing
others_not_judged = refl

-- the last of three users asks: role 0 is barred where another holds it, and else put in
pub asked_in_the_ledger : map (λ s. (step_on 1 three_users (holders (s ∷ 0 ∷ 0 ∷ [])) (asks 2)).reply) (1 ∷ 2 ∷ [])
    ≡ refuse 20 0 ∷ given 1 1 ∷ []
unfolding computing
asked_in_the_ledger = refl

pub own_line_written : (step_on 1 three_users (holders (2 ∷ 0 ∷ 2 ∷ [])) (asks 1)).ledger ≡ holders (2 ∷ 1 ∷ 2 ∷ [])
unfolding computing
own_line_written = refl

-- a ledger of any other length before a user without a line; both leave the ledger alone
pub nine_before_ten : map (λ n. step_on 1 chain (replicate n 7) (open_by 2)) (65 ∷ 63 ∷ 64 ∷ [])
    ≡ record { reply = refuse 9 0; ledger = replicate 65 7 } ∷ record { reply = refuse 9 0; ledger = replicate 63 7 }
    ∷ record { reply = refuse 10 0; ledger = replicate 64 7 } ∷ []
unfolding computing
nine_before_ten = refl

pub refused_image_keeps : (step_by 1 (Refused 5 9) chain (7 ∷ []) (open_by 0)).ledger ≡ 7 ∷ []
unfolding computing
refused_image_keeps = refl

-- each call on the ledger that the one before left
pub one_after_the_other : map (λ (e : Event). returned e.reply)
    (run 1 (image_bytes (ended read_words_lem)) (replicate 64 0) (open_by 1 ∷ open_by 1 ∷ open_by 0 ∷ close_by 1 0 ∷ open_by 1 ∷ []))
    ≡ (0 ∷ 14 ∷ 0 ∷ 0 ∷ 0 ∷ [])
unfolding computing limit_word
one_after_the_other = refl

pub buffers_filled : answered (7 ∷ 8 ∷ []) (wrote (1 ∷ 2 ∷ [])) ++ written (7 ∷ 8 ∷ 9 ∷ []) (wrote (1 ∷ [])) ≡ (1 ∷ 2 ∷ 1 ∷ 8 ∷ 9 ∷ [])
unfolding computing
buffers_filled = refl

-- the calls of a host: user, session, bounds, objectives, room
pub calls_made : open_by 1 ∷ close_by 1 2 ∷ ask_by 1 2 (3 ∷ []) (4 ∷ []) 5 6 7 ∷ short_ask_by 1 2 (3 ∷ []) (4 ∷ []) 7 ∷ show_by 1 2 7
    ∷ explain_by 1 2 3 ∷ obstacle_by 1 2 (3 ∷ []) (4 ∷ []) 7 ∷ clauses_by 1 2 (3 ∷ []) (4 ∷ []) 5 6 7 ∷ []
    ≡ map (λ (o : Operation). record { user = 1; operation = o })
    (open_session ∷ close_session 2 ∷ ask 2 (record { lower = 3 ∷ []; upper = 4 ∷ []; permission_aim = 5; role_aim = 6; room = 7 })
    ∷ short_ask 2 (3 ∷ []) (4 ∷ []) 7 ∷ show 2 7 ∷ explain 2 3 ∷ obstacle 2 (3 ∷ []) (4 ∷ []) 7
    ∷ clauses 2 (record { lower = 3 ∷ []; upper = 4 ∷ []; permission_aim = 5; role_aim = 6; room = 7 }) ∷ [])
unfolding computing
calls_made = refl

-- each call of a host by its sort: which name a session, put roles in, look at other users, write a text
abbrev every_call : List Operation
every_call =
    open_session ∷ close_session 1 ∷ ask 2 (query 1 1 40) ∷ short_ask 3 [] [] 40 ∷ show 4 40 ∷ explain 5 1 ∷ obstacle 6 [] [] 16
    ∷ clauses 7 (query 1 1 40) ∷ []

pub calls_by_sort : (map session_of every_call ≡ numbers 8)
    × (map (λ o. one (puts_in o)) every_call ≡ 0 ∷ 0 ∷ 1 ∷ 1 ∷ 0 ∷ 0 ∷ 0 ∷ 0 ∷ [])
    × (map (λ o. one (is_ask o)) every_call ≡ 0 ∷ 0 ∷ 1 ∷ 1 ∷ 0 ∷ 0 ∷ 1 ∷ 1 ∷ [])
    × (map (λ o. one (is_text o)) every_call ≡ 0 ∷ 0 ∷ 0 ∷ 0 ∷ 0 ∷ 0 ∷ 0 ∷ 1 ∷ [])
unfolding computing puts_in
calls_by_sort = (refl, refl, refl, refl)

-- ---- what a user sees beside clause texts

-- what is refused otherwise is left, and so is every result of another call
abbrev beside : Operation → ℕ → Result
beside o n = beside_text o (record { reply = refuse n 7; line = 5 ∷ [] })

abbrev texts : Operation
texts = clauses 0 (query 1 1 40)

pub texts_refusals_left : map (beside texts) (0 ∷ 11 ∷ 18 ∷ 19 ∷ [])
    ≡ record { reply = done 0; line = 5 ∷ [] } ∷ record { reply = refuse 11 7; line = 5 ∷ [] } ∷ record { reply = refuse 18 7; line = 5 ∷ [] }
    ∷ record { reply = done 0; line = 5 ∷ [] } ∷ []
unfolding computing beside_text
texts_refusals_left = refl

pub other_calls_left : beside_texts (ask 0 (query 1 1 40) ∷ texts ∷ show 0 40 ∷ [])
    (map (λ n. record { reply = refuse n 7; line = n ∷ [] }) (0 ∷ 0 ∷ 19 ∷ []))
    ≡ record { reply = refuse 0 7; line = 0 ∷ [] } ∷ record { reply = done 0; line = 0 ∷ [] } ∷ record { reply = refuse 19 7; line = 19 ∷ [] } ∷ []
unfolding computing beside_text beside_texts
other_calls_left = refl

pub a_text_among : map has_text ([] ∷ (show 0 40 ∷ []) ∷ (open_session ∷ texts ∷ []) ∷ []) ≡ (false ∷ false ∷ true ∷ [])
unfolding computing has_text
a_text_among = refl

-- ---- one user's part of a run

-- the line goes from call to call, and each is told in its turn: another user holds role 0 at the first ask, and nobody
-- at the second
pub rules_in_turn : map (λ (r : Result). r.reply) (rules 1 (two 3) (write_line busy) (record { held = λ r. 1; unsound = none } ∷ [])
    (open_session ∷ ask 0 (query 1 1 40) ∷ close_session 0 ∷ open_session ∷ []))
    ≡ refuse 14 0 ∷ given 1 1 ∷ done 0 ∷ done 0 ∷ []
unfolding computing rules
rules_in_turn = refl

pub told_in_turn : map (λ (r : Result). r.reply) (rules 1 (two 3) (write_line busy) (record { held = λ r. 1; unsound = none } ∷ [])
    (ask 0 (query 1 1 40) ∷ ask 0 (query 1 1 40) ∷ []))
    ≡ given 2 1 ∷ given 1 1 ∷ []
unfolding computing rules
told_in_turn = refl

pub own_calls : calls_of 1 (open_by 0 ∷ close_by 1 2 ∷ open_by 2 ∷ open_by 1 ∷ []) ≡ close_session 2 ∷ open_session ∷ []
unfolding computing calls_of
own_calls = refl

-- answers with ledgers of two bytes a line
pub seen_by_one : seen_by 2 1 (open_by 0 ∷ close_by 1 2 ∷ open_by 1 ∷ [])
    (map (λ n. record { reply = done n; ledger = map (λ k. n + k) (numbers 5) }) (10 ∷ 20 ∷ 30 ∷ []))
    ≡ record { reply = done 20; line = 22 ∷ 23 ∷ [] } ∷ record { reply = done 30; line = 32 ∷ 33 ∷ [] } ∷ []
unfolding computing seen_by
seen_by_one = refl

-- a call is told of the ledger that the call before it left
pub told_before_each : map (λ (x : Others). x.held 0) (told_by 1 three_users 0 (holders (0 ∷ 0 ∷ 0 ∷ [])) (asks 0 ∷ asks 1 ∷ asks 0 ∷ asks 0 ∷ [])
    (map (λ ss. record { reply = done 0; ledger = holders ss }) ((1 ∷ 0 ∷ 0 ∷ []) ∷ (1 ∷ 1 ∷ 0 ∷ []) ∷ (1 ∷ 1 ∷ 1 ∷ []) ∷ (0 ∷ 0 ∷ 0 ∷ []) ∷ [])))
    ≡ (0 ∷ 1 ∷ 2 ∷ [])
unfolding computing told_by
told_before_each = refl

-- the image's words without the end, and without other users' assignments
pub words_of_one : own_words 1 (image_bytes (ended read_words_lem)) ++ own_words 0 (image_bytes (ended read_words_lem))
    ≡ read_words_lem ++ (head_word 2 3 2 ∷ drop 3 read_words_lem)
unfolding computing limit_word words_from entry_of words_with own_words
words_of_one = refl

pub said_by_words : policy_in read_words_lem ≡ policy_of (image_bytes (ended read_words_lem))
unfolding computing limit_word entry_of policy_in
said_by_words = refl

-- ---- what claims go by

-- every number of 64 bits fits, and no other
pub fits_eight_bytes : map (λ n. fits_line (record { opened = n; history = n; sessions = record { active = n; history = n } ∷ [] }))
    ((2 ^ 64 - 1) ∷ 2 ^ 64 ∷ [])
    ++ map (λ n. fits_session (record { active = n; history = 0 })) ((2 ^ 64 - 1) ∷ 2 ^ 64 ∷ []) ≡ (true ∷ false ∷ true ∷ false ∷ [])
unfolding computing fits_session fits_line
fits_eight_bytes = refl

pub bytes_of_session : session_bytes 1 (numbers 64) ≡ map (λ n. n + 32) (numbers 16)
unfolding computing session_bytes
bytes_of_session = refl

-- of lines of four bytes, the last byte before that of user 1 and the first behind it
pub bytes_outside : Outside 4 1 3 × Outside 4 1 8
bytes_outside = (inl (omega arith), inr (omega arith))

pub each_of_them : ¬ Each (λ (n : ℕ). n ≡ 0) (0 ∷ 1 ∷ [])
each_of_them e = let q : ◌≡◌ {A = ℕ} 1 0 = e.1.0 in omega arith

pub before_all_behind : ¬ Ascending (λ (m n : ℕ). m < n) (1 ∷ 3 ∷ 2 ∷ [])
before_all_behind e = let q : 3 < 2 = e.1.0.0 in omega arith
