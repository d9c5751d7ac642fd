-- The theorems on scripts, each one claim. The arguments stand in the files that are cited.
-- Assumes nothing.
use mathlib.Core.Path.{◌≡◌}
use mathlib.Core.Bool.{true}
use mathlib.Core.Option.{none}
use mathlib.Core.List.{List}
use Prim.Native.Nat.{ℕ, ◌<◌}
use lib.ListN.{length}
use Rattle.model.specs.Tests.{all}
use Rattle.model_script.specs.Script.{parse}
use Rattle.model_script.specs.Examples.{shown, examples}
use Rattle.model_script.proofs.ExamplesProof
use Rattle.model_script.proofs.LengthLaws

-- listed scripts and what the program prints for them, by computation
pub examples_print : all shown examples ≡ true
examples_print = ExamplesProof.examples_print

-- a line of more than 173 bytes is no call
pub long_unreadable : (line : List ℕ) → 173 < length line → parse line ≡ none
long_unreadable = LengthLaws.long_unreadable
