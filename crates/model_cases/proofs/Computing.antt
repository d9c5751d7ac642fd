-- To unfold `listing` is to unfold the listed cases, and every definition that they compute with.
-- Assumes nothing.
use Rattle.model.specs.Computing.{computing}
use Rattle.model_cases.specs.Ward.{image_a, image_with, image_of_kind, image_of_one, image_of_two, three_roles, hierarchy, ward_head, loop, two_grants, widest, opens, closes, asks, asks_short, shows, explains, printed, holds, case, lines, done_with, chose, refused, two_asks, starred, damaged, active_role, settled, two_and_both, three_or_two, image_limited, doctors, managers, asks_doctor, asks_manager, texts_low, refused_for, doctor_line, case_of_two, carded, fewer_of, one_role, asks_middle, texts_middle, case_of_three, two_sessions, puts, unmet, fewer}
use Rattle.model_cases.specs.ObstacleCases.{image_and, doctor_alone, obstacle_of_user, obstacles, names, excludes, obstacle_cases}
use Rattle.model_cases.specs.Refusals.{verdict, word_of_kind, spare, body_a, balance, edited, replaced, unbalancing, unbalanced, assignments, exclusion_words, ended_by, after_thirty_two, wide, over_others, hierarchy_of, is_judged, judged, judged_images, answer_of, is_looped, chained, unchained, looped_images}
use Rattle.model_cases.specs.Returned.{member_words, image_of, set_bytes, bound, full, old, session, idle, line, changes, fills, leaves, seen, is_seen, under, asks_for, asks_briefly, all_of_a, two, doctor, manager, six_lines, short_asks, eight, eight_sessions, refused_image, refuses_all, opened0, ask_refused, short_refused, highs, other_lengths, refused_lengths, refused_above, refused_asks, sound_line, unsound_line, plain, headed, of_kind, lines_judged, ranked, ranks, all_ranked, ranked_by, objectives, five_roles, short_objectives, far, last_line, line_of63, last_user, over_higher, reaching, looping, both_active, explanations, returned_cases, is_checked, checks, checks_from, checked_cases}
use Rattle.model_cases.specs.MoveCases.{sevens, moves_so, line_with, busy_line, good_lines, moving, stopping, move_cases}

unfoldable pub listing : Unit {0}
unfolding computing image_a image_with image_of_kind image_of_one image_of_two three_roles hierarchy ward_head loop two_grants widest opens closes asks
    asks_short shows explains printed holds case lines done_with chose refused two_asks starred damaged active_role settled verdict body_a edited
    unbalanced assignments exclusion_words wide over_others hierarchy_of is_judged judged judged_images answer_of is_looped chained unchained
    looped_images member_words image_of set_bytes bound full old session idle line changes fills leaves seen is_seen under asks_for asks_briefly
    all_of_a two doctor manager six_lines short_asks eight eight_sessions refused_image refuses_all opened0 ask_refused short_refused refused_asks
    sound_line unsound_line plain headed of_kind lines_judged ranked ranks all_ranked ranked_by objectives five_roles short_objectives far last_line
    line_of63 last_user over_higher reaching looping both_active explanations returned_cases is_checked checks checked_cases two_and_both three_or_two
    sevens moves_so line_with busy_line good_lines moving stopping move_cases image_limited doctors managers asks_doctor asks_manager texts_low
    refused_for doctor_line case_of_two carded fewer_of one_role asks_middle texts_middle case_of_three two_sessions puts unmet fewer ended_by
    after_thirty_two highs other_lengths refused_lengths refused_above checks_from image_and doctor_alone obstacle_of_user obstacles names excludes
    obstacle_cases word_of_kind spare balance replaced unbalancing
listing = tt
