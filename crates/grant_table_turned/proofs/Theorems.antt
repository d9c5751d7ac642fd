-- The theorems about turned tables, one claim each; the files named hold the arguments.
-- Assumes nothing.
use mathlib.Core.Path.{◌≡◌}
use mathlib.Core.Bool.{true}
use mathlib.Core.List.{List}
use Prim.Native.Nat.{ℕ, ◌*◌}
use lib.Pow.{are_bytes}
use lib.ListN.{length}
use Rattle.grant_table_turned.specs.Turned.{turned, unturned, Turns}
use Rattle.grant_table_turned.specs.Calls.{turn_call, unturn_call, RoundTrips, TurnRefuses}
use Rattle.grant_table_turned.proofs.TurnProof as TurnProof
use Rattle.grant_table_turned.proofs.CallProof as CallProof
use Rattle.grant_table_turned.proofs.RefusalsProof as RefusalsProof

-- ---- every 2,048 bytes, and not only tables of grants

-- a turned table has the bits of the table, bit k of row r at bit r of row k, and turned again is the table; at any
-- size of whole bytes
pub turns : (z w : ℕ) (bs : List ℕ) → are_bytes bs ≡ true → length bs ≡ z * (8 * w) → Turns z w bs
turns = TurnProof.turns

-- undoing what was done, and doing what was undone, give the bytes back
pub round_trips : (bs : List ℕ) → are_bytes bs ≡ true → length bs ≡ 2048 → RoundTrips bs
round_trips = CallProof.round_trips

-- ---- refusals

-- turning and turning back refuse by 19 a source or a buffer of other than 2,048 bytes, and nothing else
pub turn-refuses : (source buffer : List ℕ) → TurnRefuses turn_call turned source buffer
turn-refuses = RefusalsProof.turn-refuses

pub unturn_refuses : (source buffer : List ℕ) → TurnRefuses unturn_call unturned source buffer
unturn_refuses = RefusalsProof.unturn_refuses
