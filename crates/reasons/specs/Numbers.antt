-- The reasons of refusals by their numbers, and results as the numbers that the model's definitions give.
-- Assumes nothing.
use Rattle.std.specs.Prelude.{◌≡◌, ◌+◌, ◌*◌, ◌%◌, ℕ, Result, Ok, Err}
use Rattle.model.specs.declared.Head.{Head}
use Rattle.model.specs.declared.Checked.{Checked}
use Rattle.model.specs.declared.Checked.TheVariants.{Accepted, Refused}
use Rattle.reasons.specs.declared.Reason.{Reason}
use Rattle.reasons.specs.declared.Reason.TheVariants.{Length, Head as HeadWrong, Kind, Spare, Range, Repeat, Crowd, Balance, Ledger, Person, Line, Session, Closed, Full, Set, Permission, Bounds, Aim, Room, NoRoles, Script, Loop, Reach, UpperSessions}
use Rattle.reasons.specs.declared.Refusal.{Refusal}

-- the number of a reason
abbrev pub number_of : Reason → ℕ
number_of Length = 1
number_of HeadWrong = 2
number_of Kind = 3
number_of Spare = 4
number_of Range = 5
number_of Repeat = 6
number_of Crowd = 7
number_of Balance = 8
number_of Ledger = 9
number_of Person = 10
number_of Line = 11
number_of Session = 12
number_of Closed = 13
number_of Full = 14
number_of Set = 15
number_of Permission = 16
number_of Bounds = 17
number_of Aim = 18
number_of Room = 19
number_of NoRoles = 20
number_of Script = 21
number_of Loop = 22
number_of Reach = 23
number_of UpperSessions = 24

-- a refusal for a reason that names nothing
abbrev pub plainly : Reason → Refusal → Type 0
plainly r x = x ≡ record { reason = r; extra = 0 }

-- a refusal as a number: that of its reason plus 256 times what it names
abbrev pub code_of : Refusal → ℕ
code_of r = number_of r.reason + 256 * r.extra

-- what the conversions to a number give
abbrev pub numbered : Reason → ℕ → Type 0
numbered r n = n ≡ number_of r

abbrev pub coded : Refusal → ℕ → Type 0
coded r n = n ≡ code_of r

-- the number of the reason, 0 where there is none
abbrev pub fault_of : {A : Type 0} → Result A Reason → ℕ
fault_of (Ok _) = 0
fault_of (Err r) = number_of r

-- a number as 64 bits hold it
abbrev pub in_64_bits : ℕ → ℕ
in_64_bits n = n % 18446744073709551616

-- what a call returns whose extra is the number of the result
abbrev pub returned_by : Result ℕ Refusal → ℕ
returned_by (Ok extra) = in_64_bits (256 * extra)
returned_by (Err r) = code_of r

-- what a call returns that has no extra, or what refuses it, 0 where nothing does
abbrev pub refusal_of : {A : Type 0} → Result A Refusal → ℕ
refusal_of (Ok _) = 0
refusal_of (Err r) = code_of r

-- the answer of a check
abbrev pub checked_of : Result Head Refusal → Checked
checked_of (Ok h) = Accepted h
checked_of (Err r) = Refused (number_of r.reason) r.extra
