-- `image::check::next` meets its contract.
-- Assumes nothing.
use Rattle.std.proofs.Common.{◌≡◌, ℕ, refl, arith}
use Rattle.model.specs.declared.Role.{Role}
use Rattle.model.specs.declared.Exclusion.{Exclusion}
use Rattle.model.specs.declared.Scan.{Scan}
use Rattle.model.specs.declared.Entry.{Entry}
use Rattle.model.specs.declared.Entry.TheVariants.{Assignment, Grant, Senior, Exclude, Member, Limit, End, Unknown}
use Rattle.model.specs.Image.{next}
use Rattle.image_words.specs.Bounds.{Small}
use Rattle.image.specs.Taken.{Due}
use Rattle.image.proofs.check.next.Goals as goal

pub overflow_add-result : goal.overflow_add-result
unfolding Due
overflow_add-result c = let s = rw c.in-Exclude.is at c.requires.1 in omega arith

pub overflow_sub-result : goal.overflow_sub-result
unfolding Due
overflow_sub-result c = let s = rw c.in-Member.is at c.requires.1 in omega arith

pub with-requires : goal.with-requires
unfolding Small
with-requires c = rw c.in-Member.is at c.requires.0

pub returns-in-Exclude : goal.returns-in-Exclude
unfolding next
returns-in-Exclude c = rw c.in-Exclude.is

pub returns-in-Member : goal.returns-in-Member
unfolding next
returns-in-Member c = rw (c.in-Member.is, c.with.ensures)

-- a word of one of the other kinds
other : (t : Scan) (e : Entry) → ((x : Exclusion) (m : ℕ) → e ≡ Exclude x m → ⊥) → ((r : Role) → e ≡ Member r → ⊥) → t ≡ next t e
unfolding next
other t (Assignment u r) k m = refl
other t (Grant r p) k m = refl
other t (Senior a b) k m = refl
other t (Exclude x n) k m = absurd (k x n refl)
other t (Member r) k m = absurd (m r refl)
other t (Limit r n) k m = refl
other t End k m = refl
other t Unknown k m = refl

pub returns-in_default : goal.returns-in_default
returns-in_default c = other _ _ c.in_default.not-Exclude c.in_default.not-Member
