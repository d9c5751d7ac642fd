-- The call that a line is, and what the words that are left of a line read as.
-- Assumes nothing.
use Rattle.std.proofs.Math.Option as maths
use Rattle.std.specs.Prelude.{List, [], ◌∷◌, ℕ, Option, Some, None, drop}
use Rattle.std.specs.Option.{option_and_then}
use Rattle.model.specs.Run as model
use Rattle.model_script.specs.Script.{room}
use Rattle.script_numerals.specs.Numbers.{number_of}
use Rattle.script_lines.specs.Cutting.{nothing_left}
use Rattle.script_parse.specs.declared.Call.{Call}
use Rattle.script_parse.specs.declared.Call.TheVariants.{Open, Close, Show, ShortAsk, Ask}

-- the first of the words as a number
unfoldable pub first_number : List (List ℕ) → Option ℕ
first_number [] = None
first_number (w ∷ ws) = number_of w

-- the words are two numbers
unfoldable pub two_numbers : List (List ℕ) → Option (ℕ × ℕ)
two_numbers ws =
    option_and_then (λ u. option_and_then (λ k. option_and_then (λ _. Some (u, k)) (nothing_left (drop 1 (drop 1 ws)))) (first_number (drop 1 ws)))
    (first_number ws)

-- the model's call for a call
unfoldable pub called : Call → model.Call
called (Open u) = model.open_by u
called (Close u k) = model.close_by u k
called (Show u k) = model.show_by u k room
called (ShortAsk u k lower upper) = model.short_ask_by u k lower upper room
called (Ask u k lower upper a b) = model.ask_by u k lower upper a b room

-- the model's call for what a line is read as, none where it is unreadable
unfoldable pub call_in : Option Call → maths.Option model.Call
call_in None = maths.none
call_in (Some c) = maths.some (called c)
