-- Entries by their kind. Each definition tells an entry of one kind from all others: f is given what an entry of that
-- kind says, and an entry of another kind changes nothing, which leaves a.
-- Assumes nothing.
use Rattle.std.specs.Prelude.{ℕ}
use Rattle.model.specs.declared.User.{User}
use Rattle.model.specs.declared.Role.{Role}
use Rattle.model.specs.declared.Permission.{Permission}
use Rattle.model.specs.declared.Exclusion.{Exclusion}
use Rattle.model.specs.declared.Entry.{Entry}
use Rattle.model.specs.declared.Entry.TheVariants.{Assignment, Grant, Senior, Exclude, Member, Limit, End, Unknown}

-- a user has a role
abbrev pub on_assignment : {A : Type 0} → A → (User → Role → A) → Entry → A
on_assignment a f (Assignment u r) = f u r
on_assignment a f (Grant r p) = a
on_assignment a f (Senior b c) = a
on_assignment a f (Exclude x m) = a
on_assignment a f (Member r) = a
on_assignment a f (Limit r t) = a
on_assignment a f End = a
on_assignment a f Unknown = a

-- a role has a permission
abbrev pub on_grant : {A : Type 0} → A → (Role → Permission → A) → Entry → A
on_grant a f (Assignment u r) = a
on_grant a f (Grant r p) = f r p
on_grant a f (Senior b c) = a
on_grant a f (Exclude x m) = a
on_grant a f (Member r) = a
on_grant a f (Limit r t) = a
on_grant a f End = a
on_grant a f Unknown = a

-- role a stands over role b
abbrev pub on_senior : {A : Type 0} → A → (Role → Role → A) → Entry → A
on_senior a f (Assignment u r) = a
on_senior a f (Grant r p) = a
on_senior a f (Senior b c) = f b c
on_senior a f (Exclude x m) = a
on_senior a f (Member r) = a
on_senior a f (Limit r t) = a
on_senior a f End = a
on_senior a f Unknown = a

-- an exclusion begins, and m member words follow
abbrev pub on_exclude : {A : Type 0} → A → (Exclusion → ℕ → A) → Entry → A
on_exclude a f (Assignment u r) = a
on_exclude a f (Grant r p) = a
on_exclude a f (Senior b c) = a
on_exclude a f (Exclude x m) = f x m
on_exclude a f (Member r) = a
on_exclude a f (Limit r t) = a
on_exclude a f End = a
on_exclude a f Unknown = a

-- a role is one of an exclusion's members
abbrev pub on_member : {A : Type 0} → A → (Role → A) → Entry → A
on_member a f (Assignment u r) = a
on_member a f (Grant r p) = a
on_member a f (Senior b c) = a
on_member a f (Exclude x m) = a
on_member a f (Member r) = f r
on_member a f (Limit r t) = a
on_member a f End = a
on_member a f Unknown = a

-- fewer than t sessions may hold a role
abbrev pub on_limit : {A : Type 0} → A → (Role → ℕ → A) → Entry → A
on_limit a f (Assignment u r) = a
on_limit a f (Grant r p) = a
on_limit a f (Senior b c) = a
on_limit a f (Exclude x m) = a
on_limit a f (Member r) = a
on_limit a f (Limit r t) = f r t
on_limit a f End = a
on_limit a f Unknown = a
