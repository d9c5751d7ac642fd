-- What single definitions give on small arguments, by computation. Each fact is false of a wrong definition that
-- must-fail/ tries. The cases from the bytes of whole images stand in crates/model_cases.
-- Assumes nothing.
use Rattle.std.specs.Prelude.{◌≡◌, refl, true, false, ◌&&◌, not, List, [], ◌∷◌, ◌++◌, map, ℕ, ◌-◌, ◌^◌, eqb, get_or, replicate}
use Rattle.std.proofs.Common.{ap, arith}
use Rattle.std.proofs.Math.Option.{none, some}
use Rattle.model.specs.declared.Head.{Head}
use Rattle.model.specs.declared.Kind.{Kind}
use Rattle.model.specs.declared.Kind.TheVariants.{SsDmer, MsDmer, MsHmer}
use Rattle.model.specs.declared.Exclusion.{Exclusion}
use Rattle.model.specs.declared.Entry.TheVariants.{Assignment, Grant, Senior, Exclude, Member, Limit, End}
use Rattle.model.specs.declared.Checked.TheVariants.{Accepted, Refused}
use Rattle.model.specs.declared.Session.{Session}
use Rattle.model.specs.declared.Line.{Line}
use Rattle.model.specs.Tests.{any, all, first, if_below, same_list, same_lists}
use Rattle.model.specs.Bytes.{bytes_of}
use Rattle.model.specs.Words.{head_word, senior_word, ended, image_bytes}
use Rattle.model.specs.Image.{user, role, permission, says, in_range, crowds, fault, balanced, start, length_right, judge_words, check_number}
use Rattle.model.specs.Policy.{Policy, Meaning, Agree, before, sorted, below_table, granter, authorized, lesser, meaning, met}
use Rattle.model.specs.Judgement.{lowest_on_loop, lowest_over_reach, judge_meaning}
use Rattle.model.specs.Line.{SESSIONS, active_in, counted, holding, put_in, sound}
use Rattle.model.specs.Limits.{nobody, barred}
use Rattle.model.specs.Choice.{admissible, better, cost, permission_cost, role_cost}
use Rattle.model.specs.Reduced.{stays}
use Rattle.model.specs.Obstacle.{obstacle_of}
use Rattle.model.specs.Clauses.{must, must_not, soft}
use Rattle.model.specs.Dimacs.{text_of}
use Rattle.model.specs.Session.{Query, ask, short_ask, explain, obstacle, clauses, is_ask, query_of, refuse, done, given, tell, asked, can_give, carrier, number_after, text_for, two_roles, applies, unless, is_full, bad_session, bad_permission, bad_aim, bad_pair, not_below}
use Rattle.model.specs.Loop.{chain_down, loop_call, loop_from, loop_length, shown_chain}
use Rattle.model.specs.Run.{answered, open_by, returned, step_by, step_on, unsound_other}
use Rattle.model.specs.Moves.{move_answer, move_on, resized, written_if}
use Rattle.model.specs.OwnWords.{is_own}
use Rattle.model.specs.Independence.{beside_text}
use Rattle.model.specs.Computing.{computing}

-- ---- tests, by which the listed cases compare too

-- the same as itself alone: not as a shorter list, a longer one or one with another member
pub same_list_lem : map (same_list (1 ∷ 2 ∷ [])) ([] ∷ (1 ∷ []) ∷ (1 ∷ 2 ∷ []) ∷ (1 ∷ 3 ∷ []) ∷ (0 ∷ 2 ∷ []) ∷ (1 ∷ 2 ∷ 0 ∷ []) ∷ [])
    ≡ (false ∷ false ∷ true ∷ false ∷ false ∷ false ∷ [])
unfolding computing
same_list_lem = refl

pub same_lists_lem : map (same_lists ((1 ∷ []) ∷ [])) ([] ∷ ((1 ∷ []) ∷ []) ∷ ((2 ∷ []) ∷ []) ∷ ((1 ∷ []) ∷ [] ∷ []) ∷ [])
    ≡ (false ∷ true ∷ false ∷ false ∷ [])
unfolding computing
same_lists_lem = refl

pub same_as_none : same_list [] [] && same_lists [] [] && not (same_list [] (0 ∷ [])) && not (same_lists [] ([] ∷ [])) ≡ true
unfolding computing
same_as_none = refl

-- every member, some member
pub every_member : map (all (λ n. eqb n 1)) ([] ∷ (1 ∷ 1 ∷ []) ∷ (1 ∷ 2 ∷ []) ∷ (2 ∷ 1 ∷ []) ∷ []) ≡ (true ∷ true ∷ false ∷ false ∷ [])
unfolding computing
every_member = refl

pub some_member : map (any (λ n. eqb n 1)) ([] ∷ (2 ∷ 2 ∷ []) ∷ (1 ∷ 2 ∷ []) ∷ (2 ∷ 1 ∷ []) ∷ []) ≡ (false ∷ false ∷ true ∷ true ∷ [])
unfolding computing
some_member = refl

-- ---- the words of an image

abbrev small : Head
small = record { users = 1; roles = 2; permissions = 5 }

abbrev exclusion : ℕ → Exclusion
exclusion n = record { kind = MsDmer; n = n; members = 0 }

pub smallest_image : length_right 8 ≡ true
unfolding computing
smallest_image = refl

pub longest_image : length_right 16384 ≡ true
unfolding computing
longest_image = refl

pub no_exclusion_of_one : in_range small (Exclude (exclusion 1) 2) ≡ false
unfolding computing
no_exclusion_of_one = refl

pub exclusion_of_two : in_range small (Exclude (exclusion 2) 2) ≡ true
unfolding computing
exclusion_of_two = refl

pub spare_bits_lem : fault small [] start false (says (Assignment (user 0) (role 0)) 1) ≡ 4
unfolding computing
spare_bits_lem = refl

pub seventeenth_role : crowds ((2 ^ 16 - 1) ∷ []) start (Assignment (user 0) (role 16)) ≡ true
unfolding computing
seventeenth_role = refl

pub thirty_third_exclusion : crowds [] (record { exclusions = 32; due = 0; members = 0 }) (Exclude (exclusion 2) 2) ≡ true
unfolding computing
thirty_third_exclusion = refl

-- the earliest bad word decides, by its own place and before the sum
pub first_bad_word : judge_words (image_bytes (ended (0x102080A0 ∷ 0x20020000 ∷ 0x80000000 ∷ []))) ≡ Refused 5 1
unfolding computing
first_bad_word = refl

pub before_balance : judge_words (image_bytes (0x102080A0 ∷ 0x20020000 ∷ 0xF0000000 ∷ [])) ≡ Refused 5 1
unfolding computing
before_balance = refl

pub exclusion_place : judge_words (image_bytes (0x102080A0 ∷ 0x54082000 ∷ 0xF0000000 ∷ [])) ≡ Refused 5 1
unfolding computing
exclusion_place = refl

pub sum_bits : balanced small 2 (2 ^ 27) ≡ Refused 8 1
unfolding computing
sum_bits = refl

pub place_told : check_number (Refused 5 9) ≡ 2309
unfolding computing
place_told = refl

-- ---- what the words mean

-- two users and three roles with these tables, every role granted permission 0
abbrev policy : List ℕ → List ℕ → Policy
policy assigned juniors =
    record {
      head = record { users = 2; roles = 3; permissions = 1 };
      assigned = assigned;
      granted = 1 ∷ 1 ∷ 1 ∷ [];
      juniors = juniors;
      exclusions = [];
      limits = [];
    }

-- role 0 over role 1 over role 2; user 0 has role 1
abbrev pub chain : Policy
chain = policy (2 ∷ 0 ∷ []) (2 ∷ 4 ∷ 0 ∷ [])

-- the same, with permission 0 granted to role 0 alone
abbrev granted_above : Policy
granted_above =
    record { head = chain.head; assigned = chain.assigned; granted = 1 ∷ []; juniors = chain.juniors; exclusions = []; limits = [] }

pub below_by_chains : below_table chain ≡ (6 ∷ 4 ∷ 0 ∷ [])
unfolding computing
below_by_chains = refl

pub lowest_granting : granter chain 0 0 ≡ some 0
unfolding computing
lowest_granting = refl

pub granted_from_below : granter granted_above 0 1 ≡ none
unfolding computing
granted_from_below = refl

pub assigned_and_below : authorized chain 0 ≡ 6
unfolding computing
assigned_and_below = refl

pub rules_see_authorized : (meaning chain 0).authorized ≡ 6
unfolding computing
rules_see_authorized = refl

pub smaller_limit : lesser 3 2 ≡ 2
unfolding computing
smaller_limit = refl

abbrev limited_by : ℕ → Policy
limited_by t = record { head = small; assigned = []; granted = []; juniors = []; exclusions = []; limits = t ∷ [] }

-- policies with other limits do not agree
pub limits_agree : ¬ Agree 0 (limited_by 2) (limited_by 3)
limits_agree a = let e : ◌≡◌ {A = ℕ} 2 3 = ap (λ (l : List ℕ). get_or l 0 0) a.limits in omega arith

pub met_below_n : met (λ k. 3) (record { kind = MsDmer; n = 2; members = 3 }) ≡ false
unfolding computing
met_below_n = refl

-- a lower kind comes first, though its n is higher
pub kind_first : before (record { kind = SsDmer; n = 3; members = 0 }) (exclusion 2) ≡ true
unfolding computing
kind_first = refl

-- an exclusion that stands twice is kept once
pub kept_once : sorted (exclusion 2 ∷ exclusion 2 ∷ []) ≡ exclusion 2 ∷ []
unfolding computing
kept_once = refl

-- role 0 stands over the loop of the roles 1 and 2
pub loop-role : lowest_on_loop (policy [] (2 ∷ 4 ∷ 2 ∷ [])) ≡ some 1
unfolding computing
loop-role = refl

-- both users have 17 roles
pub over_reach : lowest_over_reach (policy ((2 ^ 17 - 1) ∷ (2 ^ 17 - 1) ∷ []) []) ≡ some 0
unfolding computing
over_reach = refl

pub loop-before-reach : judge_meaning (policy ((2 ^ 17 - 1) ∷ []) (2 ∷ 1 ∷ 0 ∷ [])) (Accepted small) ≡ Refused 22 0
unfolding computing
loop-before-reach = refl

pub words_first : judge_meaning (policy [] (2 ∷ 1 ∷ 0 ∷ [])) (Refused 8 7) ≡ Refused 8 7
unfolding computing
words_first = refl

pub others_words : is_own 0 (Assignment (user 1) (role 0)) ≡ false
unfolding computing
others_words = refl

-- all else but the end word is the user's too
pub own_words_lem : map (is_own 0)
    (Assignment (user 0) (role 1) ∷ Grant (role 1) (permission 0) ∷ Senior (role 0) (role 1) ∷ Exclude (exclusion 2) 2 ∷ Member (role 1)
    ∷ Limit (role 1) 2 ∷ End ∷ []) ≡ true ∷ true ∷ true ∷ true ∷ true ∷ true ∷ false ∷ []
unfolding computing
own_words_lem = refl

-- ---- loops shown

pub shortest_loop : loop_length (2 ∷ 1 ∷ []) 0 ≡ 2
unfolding computing
shortest_loop = refl

-- role 0 over the roles 1 and 2, each of which stands over it
pub lowest_role_on : chain_down (6 ∷ 1 ∷ 1 ∷ []) 0 0 2 ≡ (1 ∷ 0 ∷ [])
unfolding computing
lowest_role_on = refl

pub role_last : loop_from (policy [] (2 ∷ 1 ∷ 0 ∷ [])) (some 0) ≡ shown_chain (1 ∷ 0 ∷ [])
unfolding computing
role_last = refl

pub loop-shown : loop_call (image_bytes (ended (head_word 1 2 1 ∷ senior_word 0 1 ∷ senior_word 1 0 ∷ []))) 64 ≡ shown_chain (1 ∷ 0 ∷ [])
unfolding computing
loop-shown = refl

-- ---- a line

abbrev holds_0 : Session
holds_0 = record { active = 1; history = 1 }

-- sessions with role 0 alone, all open
abbrev line : List Session → Line
line sessions = record { opened = 1; history = 1; sessions = sessions }

abbrev pub busy : Line
busy = line (holds_0 ∷ [])

-- two roles that the user may activate, both of which carry permission 0; role 0 has the limit 2
abbrev pub two : ℕ → Meaning
two own =
    record {
      user = 0;
      roles = 2;
      permissions = 1;
      authorized = own;
      carried = 1 ∷ 1 ∷ [];
      granter = λ m r. if_below 1 m;
      all_met = λ f. true;
      exclusions = [];
      ordered = [];
      limits = 2 ∷ 0 ∷ [];
    }

pub eight_sessions_lem : SESSIONS ≡ 8
eight_sessions_lem = refl

pub counted_once : active_in (holds_0 ∷ holds_0 ∷ []) ≡ 1
unfolding computing
counted_once = refl

pub closed_session_counts : counted (line []) holds_0 MsHmer ≡ 1
unfolding computing
closed_session_counts = refl

pub held_now : holding 0 (record { active = 0; history = 1 } ∷ []) ≡ 0
unfolding computing
held_now = refl

pub limits_judge_no_line : sound 2 (two 3) (record { opened = 3; history = 1; sessions = holds_0 ∷ holds_0 ∷ [] }) ≡ true
unfolding computing
limits_judge_no_line = refl

pub put_in_lem : put_in 0 2 busy ≡ (record { opened = 1; history = 3; sessions = record { active = 2; history = 3 } ∷ [] })
unfolding computing
put_in_lem = refl

pub own_session_bars_nothing : barred (two 3) nobody busy 0 0 ≡ false
unfolding computing
own_session_bars_nothing = refl

pub barred_below_the_limit : barred (two 3) (record { held = λ r. 1; unsound = none }) busy 0 0 ≡ true
unfolding computing
barred_below_the_limit = refl

-- ---- the choice

-- role 0 carries permission 0, and so does role 1; role 2 carries the permissions 0 and 1; role 16 carries permission
-- 64
abbrev carrying : Meaning
carrying =
    record {
      user = 0;
      roles = 17;
      permissions = 65;
      authorized = 2 ^ 17 - 1;
      carried = 1 ∷ 1 ∷ 3 ∷ (replicate 13 0 ++ (2 ^ 64 ∷ []));
      granter = λ m r. none;
      all_met = λ f. true;
      exclusions = [];
      ordered = [];
      limits = [];
    }

pub lower_bound : admissible carrying busy 0 1 1 0 ≡ false
unfolding computing
lower_bound = refl

pub upper_bound : admissible carrying busy 0 0 1 4 ≡ false
unfolding computing
upper_bound = refl

pub fewest : cost 1 3 ≡ 3
unfolding computing
fewest = refl

pub most : cost 2 3 ≡ 253
unfolding computing
most = refl

pub high_permission_counts : permission_cost carrying 1 (2 ^ 16) ≡ 1
unfolding computing
high_permission_counts = refl

pub high_role_counts : role_cost 1 (2 ^ 16) ≡ 1
unfolding computing
high_role_counts = refl

pub permissions_first : better carrying 1 1 3 4 ≡ true
unfolding computing
permissions_first = refl

pub lower_number : better carrying 0 0 1 2 ≡ true
unfolding computing
lower_number = refl

-- ---- what stands in the way

-- the roles 0 and 1 bar each other, by a kind
abbrev both_of : Kind → Exclusion
both_of kind = record { kind = kind; n = 2; members = 3 }

-- role 0 carries the permissions 0 and 2, role 1 permission 1, role 2 permission 3; the user may activate the roles 0
-- and 1; role 1 has the limit 2; of two exclusions of the roles 0 and 1 the later by kind stands first in the image
abbrev obstructing : Meaning
obstructing =
    record {
      user = 0;
      roles = 3;
      permissions = 4;
      authorized = 3;
      carried = 5 ∷ 2 ∷ 8 ∷ [];
      granter = λ m r. none;
      all_met = λ f. true;
      exclusions = both_of MsHmer ∷ both_of SsDmer ∷ [];
      ordered = sorted (both_of MsHmer ∷ both_of SsDmer ∷ []);
      limits = 0 ∷ 2 ∷ 0 ∷ [];
    }

-- permission 3 is none of the user's, which comes before permission 0, whose role carries permission 2 too
pub own_first : obstacle_of obstructing nobody busy 0 9 9 ≡ some (record { kind = 1; about = 3; first = 4; second = 0 })
unfolding computing
own_first = refl

-- both permissions have roles that carry something outside the upper bound
pub lowest_lacked : obstacle_of obstructing nobody busy 0 3 0 ≡ some (record { kind = 2; about = 0; first = 1; second = 0 })
unfolding computing
lowest_lacked = refl

-- another user holds role 1
pub limit_told : obstacle_of obstructing (record { held = λ r. 1; unsound = none }) busy 0 2 15
    ≡ some (record { kind = 3; about = 1; first = 2; second = 0 })
unfolding computing
limit_told = refl

-- an exclusion of kind 0, which counts no role already, is named before one of kind 3
pub tidy_order_first : obstacle_of obstructing nobody busy 0 3 15 ≡ some (record { kind = 4; about = 8; first = 0; second = 3 })
unfolding computing
tidy_order_first = refl

-- ---- calls

abbrev pub query : ℕ → ℕ → ℕ → Query
query lower aim room = record { lower = bytes_of 32 lower; upper = bytes_of 32 1; permission_aim = aim; role_aim = 1; room = room }

pub short_ask_asks : query_of (short_ask 0 [] [] 40) ≡ (record { lower = []; upper = []; permission_aim = 1; role_aim = 1; room = 40 })
unfolding computing
short_ask_asks = refl

pub session_past_the_last : applies 1 (two 3) nobody busy 1 (query 1 1 40) bad_session ≡ true
unfolding computing
session_past_the_last = refl

pub permission_past_the_last : applies 1 (two 3) nobody busy 0 (query 2 1 40) bad_permission ≡ true
unfolding computing
permission_past_the_last = refl

pub below_before_carried : first (applies 1 (two 3) nobody busy 0 (query 1 1 40)) (can_give (explain 0 1)) ≡ some (not_below 1)
unfolding computing
below_before_carried = refl

pub aim_before_room : first (applies 1 (two 3) nobody busy 0 (query 1 3 39)) (can_give (ask 0 (query 1 3 39))) ≡ some bad_aim
unfolding computing
aim_before_room = refl

pub room_before_clear : first (applies 1 (two 3) nobody busy 0 (query 1 0 40)) (can_give (obstacle 0 [] [] 40)) ≡ some bad_pair
unfolding computing
room_before_clear = refl

pub obstacle_told : tell (record { kind = 4; about = 8; first = 1; second = 3 })
    ≡ record { number = 0; extra = 68; filled = bytes_of 8 1 ++ bytes_of 8 3 }
unfolding computing
obstacle_told = refl

-- an obstacle is told of the other users as an ask is
pub obstacle_looks : is_ask (obstacle 0 [] [] 16) ≡ true
unfolding computing
obstacle_looks = refl

pub lowest_carrier : carrier (λ r. some 0) 3 ≡ some 0
unfolding computing
lowest_carrier = refl

pub roles_told : two_roles 1 (some 2) ≡ some 66
unfolding computing
roles_told = refl

pub other_told : number_after (some 1) ≡ 2
unfolding computing
other_told = refl

pub refused_line_stays : (unless nobody (some is_full) [] (record { reply = refuse 0 0; line = 1 ∷ [] })).line ≡ []
unfolding computing
refused_line_stays = refl

-- a user whose past is role 0 is given role 1 where that is the set chosen
pub asked_anew : (asked (two 3) busy [] 0 (some 2)).reply ≡ given 2 1
unfolding computing
asked_anew = refl

-- ---- clause texts

pub replaced_not_counted : stays busy 0 MsDmer ≡ 0
unfolding computing
replaced_not_counted = refl

pub weights : soft (two 3) 1 2
    ≡ (record { weight = 3; clause = must_not 3 } ∷ record { weight = 1; clause = must 1 } ∷ record { weight = 1; clause = must 2 } ∷ [])
unfolding computing
weights = refl

-- another user holds role 0
pub barred_in_text : text_for (two 3) (record { held = λ r. 1; unsound = none }) busy 0 (query 1 1 40) ≡ text_of (two 2) busy 0 1 1 1 1
unfolding computing
barred_in_text = refl

-- ---- a whole ledger, of one session a user: 32 bytes a line

-- user 0 has no session open, and the first byte of user 1's line is b
abbrev lines : ℕ → List ℕ
lines b = replicate 32 0 ++ (b ∷ replicate 31 0)

pub own_line_read : (step_on 1 chain (lines 1) (open_by 1)).reply ≡ refuse 14 0
unfolding computing
own_line_read = refl

pub others_line_judged : unsound_other 1 chain 0 (lines 2) 1 ≡ true
unfolding computing
others_line_judged = refl

pub refused_image_told : (step_by 1 (Refused 5 9) chain [] (open_by 0)).reply ≡ refuse 5 9
unfolding computing
refused_image_told = refl

pub extra_told : returned (refuse 11 2) ≡ 523
unfolding computing
extra_told = refl

pub buffer_stays : answered (7 ∷ []) (refuse 20 0) ≡ (7 ∷ [])
unfolding computing
buffer_stays = refl

-- ---- what a user sees beside clause texts

-- that a text is too long follows the order of the image's words, as the text does
pub too_long_left_out : beside_text (clauses 0 (record { lower = []; upper = []; permission_aim = 0; role_aim = 0; room = 0 }))
    (record { reply = refuse 19 0; line = [] }) ≡ record { reply = done 0; line = [] }
unfolding computing beside_text
too_long_left_out = refl

-- ---- moves

pub lowest_user_moved : move_answer 1 1 chain (replicate 64 2) 0 2 ≡ refuse 11 0
unfolding computing
lowest_user_moved = refl

pub history_moved : resized 1 (replicate 8 0 ++ (5 ∷ replicate 23 0)) ≡ replicate 8 0 ++ (5 ∷ replicate 23 0)
unfolding computing
history_moved = refl

pub refused_target_stays : (written_if (refuse 11 0) (1 ∷ []) []).ledger ≡ []
unfolding computing
refused_target_stays = refl

pub ledger_before_room : (move_on 1 1 chain [] []).reply ≡ refuse 9 0
unfolding computing
ledger_before_room = refl
