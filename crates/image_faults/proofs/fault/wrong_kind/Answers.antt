-- `image_faults::fault::wrong_kind` meets its contract.
-- Assumes nothing.
use Rattle.std.proofs.Common.{◌≡◌, ℕ, Bool, not, eqb, ◌||◌, refl}
use Rattle.model.specs.declared.Role.{Role}
use Rattle.model.specs.declared.Entry.{Entry}
use Rattle.model.specs.declared.Entry.TheVariants.{Assignment, Grant, Senior, Exclude, Member, Limit, End, Unknown}
use Rattle.model.specs.Image.{wrong_kind}
use Rattle.image_faults.proofs.fault.wrong_kind.Goals as goal

pub returns-in-Member : goal.returns-in-Member
unfolding wrong_kind
returns-in-Member c = rw c.in-Member.is

pub returns-in-End : goal.returns-in-End
unfolding wrong_kind
returns-in-End c = rw c.in-End.is

pub returns-in-Unknown : goal.returns-in-Unknown
unfolding wrong_kind
returns-in-Unknown c = rw c.in-Unknown.is

-- a word of one of the other kinds
other : (last : Bool) (due : ℕ) (e : Entry) → ((r : Role) → e ≡ Member r → ⊥) → (e ≡ End → ⊥) → (e ≡ Unknown → ⊥)
    → (last || not (eqb due 0)) ≡ wrong_kind last due e
unfolding wrong_kind
other last due (Assignment u r) m n k = refl
other last due (Grant r p) m n k = refl
other last due (Senior a b) m n k = refl
other last due (Exclude x o) m n k = refl
other last due (Member r) m n k = absurd (m r refl)
other last due (Limit r t) m n k = refl
other last due End m n k = absurd (n refl)
other last due Unknown m n k = absurd (k refl)

pub returns-in_default : goal.returns-in_default
returns-in_default c = other _ _ _ c.in_default.not-Member c.in_default.not-End c.in_default.not-Unknown
