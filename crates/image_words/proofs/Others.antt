-- Entries of another kind. Where an entry is taken apart by one kind alone, code that finds another knows the number of
-- its variant and no more; what tells that kind from all others then leaves the default.
-- Assumes nothing.
use mathlib.Core.Path.{◌≡◌, refl}
use mathlib.Core.List.{List, [], ◌∷◌}
use Prim.Native.Nat.{ℕ}
use types.Run.{OneOf, miss}
use denote.Enum.Declared.{tag_of}
use Rattle.model.specs.contracts.Entry.{the_type}
use Rattle.model.specs.declared.Role.{Role}
use Rattle.model.specs.declared.Exclusion.{Exclusion}
use Rattle.model.specs.declared.Entry.{Entry}
use Rattle.model.specs.declared.Entry.TheVariants.{Assignment, Grant, Senior, Exclude, Member, Limit, End, Unknown}
use Rattle.model.specs.Kinds.{on_exclude, on_member}

-- the numbers of the variants but that of an exclusion, and but that of a member
abbrev pub not_exclude : List ℕ
not_exclude = 0 ∷ 1 ∷ 2 ∷ 4 ∷ 5 ∷ 6 ∷ 7 ∷ []

abbrev pub not_member : List ℕ
not_member = 0 ∷ 1 ∷ 2 ∷ 3 ∷ 5 ∷ 6 ∷ 7 ∷ []

-- the entry has one of the numbers
abbrev pub Among : List ℕ → Entry → Type 0
Among ks e = OneOf ks (tag_of the_type e)

pub no_exclusion : {A : Type 0} (a : A) (f : Exclusion → ℕ → A) (e : Entry) → Among not_exclude e → a ≡ on_exclude a f e
no_exclusion a f (Assignment u r) h = refl
no_exclusion a f (Grant r p) h = refl
no_exclusion a f (Senior b c) h = refl
no_exclusion a f (Exclude x m) h = absurd (miss not_exclude 3 tt h)
no_exclusion a f (Member r) h = refl
no_exclusion a f (Limit r t) h = refl
no_exclusion a f End h = refl
no_exclusion a f Unknown h = refl

pub no_member : {A : Type 0} (a : A) (f : Role → A) (e : Entry) → Among not_member e → a ≡ on_member a f e
no_member a f (Assignment u r) h = refl
no_member a f (Grant r p) h = refl
no_member a f (Senior b c) h = refl
no_member a f (Exclude x m) h = refl
no_member a f (Member r) h = absurd (miss not_member 4 tt h)
no_member a f (Limit r t) h = refl
no_member a f End h = refl
no_member a f Unknown h = refl
