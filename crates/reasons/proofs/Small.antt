-- The numbers of reasons: none is 0, and none has more than five bits, so that a refusal that names nothing has the
-- number of its reason.
-- Assumes nothing.
use Rattle.std.proofs.Common.{◌≡◌, ℕ, ◌<◌, ◌≤◌}
use native.Mathlib.Omega.{arith}
use Rattle.reasons.specs.declared.Reason.{Reason}
use Rattle.reasons.specs.declared.Reason.TheVariants.{Length, Head as HeadWrong, Kind, Spare, Range, Repeat, Crowd, Balance, Ledger, Person, Line, Session, Closed, Full, Set, Permission, Bounds, Aim, Room, NoRoles, Script, Loop, Reach, UpperSessions}
use Rattle.reasons.specs.Numbers.{number_of, code_of}

-- a number of 1 to 24
pub record Numbered (n : ℕ) : Type 0 where
  pub some : 0 < n
  pub small : n ≤ 24

pub number_of-numbered : (r : Reason) → Numbered (number_of r)
number_of-numbered Length = record { some = omega arith; small = omega arith }
number_of-numbered HeadWrong = record { some = omega arith; small = omega arith }
number_of-numbered Kind = record { some = omega arith; small = omega arith }
number_of-numbered Spare = record { some = omega arith; small = omega arith }
number_of-numbered Range = record { some = omega arith; small = omega arith }
number_of-numbered Repeat = record { some = omega arith; small = omega arith }
number_of-numbered Crowd = record { some = omega arith; small = omega arith }
number_of-numbered Balance = record { some = omega arith; small = omega arith }
number_of-numbered Ledger = record { some = omega arith; small = omega arith }
number_of-numbered Person = record { some = omega arith; small = omega arith }
number_of-numbered Line = record { some = omega arith; small = omega arith }
number_of-numbered Session = record { some = omega arith; small = omega arith }
number_of-numbered Closed = record { some = omega arith; small = omega arith }
number_of-numbered Full = record { some = omega arith; small = omega arith }
number_of-numbered Set = record { some = omega arith; small = omega arith }
number_of-numbered Permission = record { some = omega arith; small = omega arith }
number_of-numbered Bounds = record { some = omega arith; small = omega arith }
number_of-numbered Aim = record { some = omega arith; small = omega arith }
number_of-numbered Room = record { some = omega arith; small = omega arith }
number_of-numbered NoRoles = record { some = omega arith; small = omega arith }
number_of-numbered Script = record { some = omega arith; small = omega arith }
number_of-numbered Loop = record { some = omega arith; small = omega arith }
number_of-numbered Reach = record { some = omega arith; small = omega arith }
number_of-numbered UpperSessions = record { some = omega arith; small = omega arith }

-- a refusal that names nothing has the number of its reason
pub code_of-plain : (r : Reason) → code_of (record { reason = r; extra = 0 }) ≡ number_of r
code_of-plain r = omega arith
