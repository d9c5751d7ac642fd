-- The order of whole entries in a tidy image: by sort, then by fields; an exclusion by its kind, its n and the number
-- of its member set, and its member words by role.
-- Assumes nothing.
use Rattle.std.specs.Prelude.{◌≡◌, refl, ◌⊎◌, ◌↔◌, List, map, ℕ, ◌<◌}
use Rattle.std.proofs.Common.{inl, inr, arith, lit<}
use Rattle.model.specs.declared.Head.{Head}
use Rattle.model.specs.declared.Exclusion.{Exclusion}
use Rattle.model.specs.declared.Entry.{Entry}
use Rattle.model.specs.declared.Entry.TheVariants.{Assignment, Grant, Senior, Exclude, Member, End, Unknown, Limit}
use Rattle.model.specs.Image.{role}
use Rattle.model.specs.Policy.{fold, joining, kind_number}
use Rattle.model.specs.Ranges.{Each, Ascending}
use Rattle.model_tidy.specs.Groups.{entry_of, member_role, Group, Acceptable}
use Rattle.model_tidy.specs.Tidy.{tidy_of}

-- where a whole entry stands: its sort, and up to three numbers
pub record Standing : Type 0 where
  pub sort : ℕ
  pub first : ℕ
  pub second : ℕ
  pub third : ℕ

abbrev pub standing : ℕ → ℕ → ℕ → ℕ → Standing
standing a b c d = record { sort = a; first = b; second = c; third = d }

-- the set of the roles that member words name, as a number
unfoldable pub member_set : List ℕ → ℕ
member_set ms = fold joining 0 (map entry_of ms)

-- by these numbers, and where they are the same by the rest
abbrev pub By : ℕ → ℕ → Type 0 → Type 0
By a b rest = (a < b) ⊎ ((a ≡ b) × rest)

-- by the first of the four numbers in which they differ
abbrev pub Precedes : Standing → Standing → Type 0
Precedes x y = By x.sort y.sort (By x.first y.first (By x.second y.second (x.third < y.third)))

-- assignments by user and role, grants by role and permission, seniors by both roles, exclusions by kind, n and member
-- set, limits by role alone, since a role has one
unfoldable pub standing_of : Entry → ℕ → Standing
standing_of (Assignment u r) s = standing 2 u.0 r.0 0
standing_of (Grant r p) s = standing 3 r.0 p.0 0
standing_of (Senior a b) s = standing 4 a.0 b.0 0
standing_of (Exclude x m) s = standing 5 (kind_number x.kind) x.n s
standing_of (Limit r t) s = standing 7 r.0 0 0
standing_of (Member r) s = standing 15 0 0 0
standing_of End s = standing 15 0 0 0
standing_of Unknown s = standing 15 0 0 0

-- the set 7 of three roles stands before the set 10 of two, kind and n being the same
pub by_member_set : (x : Exclusion) → Precedes (standing_of (Exclude x 3) 7) (standing_of (Exclude x 2) 10)
unfolding standing_of
by_member_set x = inr (refl, inr (refl, inr (refl, lit< tt)))

-- of two limits for one role neither stands before the other
pub one_limit_a_role : ¬ Precedes (standing_of (Limit (role 3) 2) 0) (standing_of (Limit (role 3) 5) 0)
unfolding standing_of
one_limit_a_role w = elim w [
  | inl l ↦ omega arith
  | inr v ↦ elim v.1 [ inl l ↦ omega arith | inr v ↦ elim v.1 [ inl l ↦ omega arith | inr v ↦ let l = v.1 in omega arith ] ]
]

unfoldable pub standing_in : Group → Standing
standing_in g = standing_of (entry_of g.word) (member_set g.members)

abbrev pub Comes : Group → Group → Type 0
Comes g k = Precedes (standing_in g) (standing_in k)

-- the whole entries of an acceptable image, each before all that stand behind it, and so none twice; the members of
-- each ascending
pub record Arranged (s : List ℕ) (h : Head) (a : Acceptable s h) : Type 0 where
  pub entries : Ascending Comes a.parts.groups
  pub members : Each (λ g. Ascending ◌<◌ (map member_role g.members)) a.parts.groups

-- ---- the claims

-- the words of a tidy image are so arranged
abbrev pub TidyArranged : List ℕ → Head → Type 0
TidyArranged s h = (a : Acceptable (tidy_of s) h) × Arranged (tidy_of s) h a

-- an accepted image is its own tidy image exactly if its words are so arranged
abbrev pub TidyIs : List ℕ → Head → Type 0
TidyIs s h = (tidy_of s ≡ s) ↔ ((a : Acceptable s h) × Arranged s h a)
