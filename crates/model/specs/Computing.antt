-- To unfold `computing` is to unfold every definition that judging an image and running calls compute with.
-- Assumes nothing.
use Rattle.model.specs.Tests.{pick, earlier, any, all, first, lowest, if_below, or_else, is_some, same_list, same_lists}
use Rattle.model.specs.Sets.{has, within, meets, set_of, count_to, count, union_to, union_at, lowest_in, subsets, sum_to}
use Rattle.model.specs.Image.{word_at, behind_head, kind_of, decode, wrong_kind, in_range, repeats, crowds, entry_fault, fault, assigning, next, balanced, scan, head_of, head_right, length_right, empty_rows, start, judge_words, check_number}
use Rattle.model.specs.Policy.{entry_at, entries_from, entries_of, granting, ordering, fold, joining, with_members, exclusions_of, policy_of, taking, through, closure_by, table_of, below_table, with_selves, reached, carried_table, granter_by, granter, authorized, met, meaning, kind_number, before, insert, sorted, lesser, limiting, limited, has_limits}
use Rattle.model.specs.Bytes.{number, bytes_of}
use Rattle.model.specs.Words.{head_word, assign_word, grant_word, senior_word, exclusion_word, member_word, sum_of, end_word, ended, image_bytes, limit_word}
use Rattle.model.specs.Line.{line_size, read_sessions, read_line, write_sessions, write_line, empty_session, session_at, is_open, active_in, counted, exclusions_met, session_sound, sessions_sound, sound, lowest_closed, opening, closing, put_in, holding, others}
use Rattle.model.specs.Limits.{nobody, elsewhere, barred, unbarred}
use Rattle.model.specs.Choice.{carried_by, admissible, cost, permission_cost, role_cost, better, best_of, best, choose}
use Rattle.model.specs.Reduced.{stay, mask_of, reduced_n}
use Rattle.model.specs.Obstacle.{lacking, carriers_of, fitting, lacks, excluding_only, left, blocking, blocks, obstacle_of}
use Rattle.model.specs.Clauses.{list_to, when, barring, carries, carrying, carriers, carried, bounding, variables_in, uncounted, n_left, keeping, adding, row, rows, counter, excluding, helpers, excluding_all, hard, wanting, soft, weight_of, top}
use Rattle.model.specs.Dimacs.{ascii, figure, digits_to, decimal, literal_text, literals_text, clause_text, clauses_text, head_text, helpers_of, variables_of, weighing, clauses_of, text_of}
use Rattle.model.specs.Session.{short_aim, session_of, query_of, is_text, refuse, done, given, tell, wrote, refusal_number, can_give, chosen, obstacle_for, text_for, is_none, carrier, two_roles, with_granter, explanation, applies, asked, explained, obstructed, perform, unless, rule, is_ask, number_after, other_first, refusal_extra}
use Rattle.model.specs.Judgement.{lowest_on_loop, lowest_over_reach, refusing, judge_meaning, judge}
use Rattle.model.specs.Loop.{seniors_of, level, loop_length, chain_down, shown_chain, loop_from, loop_on, loop_by, loop_call}
use Rattle.model.specs.Run.{line_at, with_line, ruled, step_on, step_by, step, run, returned, filled_with, answered, open_by, close_by, ask_by, short_ask_by, show_by, explain_by, obstacle_by, written, clauses_by, line_of, holding_of, held_by_others, unsound_other, others_of, told}
use Rattle.model.specs.Moves.{resized, line_fault, move_answer, resized_lines, written_if, move_on, move_by, move}
use Rattle.model.specs.OwnWords.{is_own}

unfoldable pub computing : Unit {0}
unfolding pick any all first lowest if_below is_some same_list same_lists has within meets set_of count_to count union_to union_at lowest_in subsets
    word_at behind_head kind_of decode wrong_kind in_range repeats crowds entry_fault fault assigning next balanced scan head_of head_right
    length_right empty_rows start judge_words entry_at entries_from entries_of granting ordering fold joining with_members exclusions_of policy_of
    taking through closure_by table_of below_table with_selves reached carried_table granter_by granter authorized met meaning number bytes_of
    line_size read_sessions read_line write_sessions write_line empty_session session_at is_open active_in counted exclusions_met session_sound
    sessions_sound sound lowest_closed opening closing put_in carried_by admissible cost earlier permission_cost role_cost better best_of best
    choose short_aim session_of query_of refuse done given refusal_number can_give chosen is_none carrier two_roles with_granter explanation applies
    asked explained perform unless rule lowest_on_loop lowest_over_reach refusing judge_meaning judge seniors_of level loop_length chain_down
    shown_chain loop_from loop_on loop_by loop_call line_at with_line ruled step_on step_by step run open_by close_by ask_by short_ask_by show_by explain_by
    image_bytes sum_of end_word ended senior_word check_number returned filled_with answered head_word assign_word grant_word exclusion_word
    member_word limit_word resized line_fault move_answer resized_lines written_if move_on move_by move others stay mask_of reduced_n list_to when barring
    carries
    carrying carriers carried bounding variables_in uncounted n_left keeping adding row rows counter excluding helpers excluding_all hard
    wanting soft weight_of top ascii figure digits_to decimal literal_text literals_text clause_text clauses_text head_text helpers_of variables_of
    weighing clauses_of text_of is_text wrote text_for clauses_by written sum_to lesser limiting limited has_limits holding is_ask number_after
    other_first refusal_extra line_of holding_of held_by_others unsound_other others_of told nobody elsewhere barred unbarred is_own kind_number before
    insert sorted or_else lacking carriers_of fitting lacks excluding_only left blocking blocks obstacle_of tell obstacle_for obstructed obstacle_by
computing = tt
