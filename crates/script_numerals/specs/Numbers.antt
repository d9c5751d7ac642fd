-- A digit read as its value, and a word read as a number or as a bound.
-- Assumes nothing.
use Rattle.std.specs.Prelude.{List, ℕ, Option, Some, None}
use Rattle.model.specs.Tests.{pick}
use Rattle.model.specs.Bytes.{bytes_of}
use Rattle.model_script.specs.Script.{digit, is_digit, is_numeral, value}

-- the value of a hexadecimal digit, none for another byte
unfoldable pub digit_value : ℕ → Option ℕ
digit_value c = pick (is_digit 16 c) (Some (digit c)) None

-- a word read as a decimal
unfoldable pub number_of : List ℕ → Option ℕ
number_of w = pick (is_numeral 10 9 w) (Some (value 10 w)) None

-- a word read as a bound
unfoldable pub bound_of : List ℕ → Option (List ℕ)
bound_of w = pick (is_numeral 16 64 w) (Some (bytes_of 32 (value 16 w))) None
