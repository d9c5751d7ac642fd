-- To unfold `scripting` is to unfold every definition that running a script computes with.
-- Assumes nothing.
use Rattle.model_cases.proofs.Computing.{listing}
use Rattle.model_script.specs.Script.{ascii, begun, lines_of, words, digit, is_digit, is_numeral, value_from, value, suits, matches, open_form, close_form, show_form, short_ask_form, ask_form, room, call_of, parse, is_unreadable, glyph, digits_of, numeral, line_of, printed, answer_by, answer_to, printed_for, first_ledger, transcript}
use Rattle.model_script.specs.Examples.{shown, under_a, under, examples, unreadable, is_unreadable_text}

unfoldable pub scripting : Unit {0}
unfolding listing ascii begun lines_of words digit is_digit is_numeral value_from value suits matches open_form close_form show_form short_ask_form
    ask_form room call_of parse is_unreadable glyph digits_of numeral line_of printed answer_by answer_to printed_for first_ledger transcript shown
    under_a under examples unreadable is_unreadable_text
scripting = tt
