-- Entries told apart, and what each does to a policy: those of one sort change a table, or begin an exclusion, and all
-- others leave it.
-- Assumes nothing.
use mathlib.Core.Path.{◌≡◌, refl}
use mathlib.Core.Bool.{false}
use mathlib.Core.List.{List, ◌∷◌}
use Prim.Native.Nat.{ℕ}
use lib.Dec.{eqb}
use lib.ListN.{get_or, set}
use Rattle.model.specs.declared.User.{User}
use Rattle.model.specs.declared.Role.{Role}
use Rattle.model.specs.declared.Permission.{Permission}
use Rattle.model.specs.declared.Exclusion.{Exclusion}
use Rattle.model.specs.declared.Entry.{Entry}
use Rattle.model.specs.declared.Entry.TheVariants.{Assignment, Grant, Senior, Exclude, Member, Limit, End, Unknown}
use Rattle.model.specs.declared.Scan.{Scan}
use Rattle.model.specs.Sets.{with}
use Rattle.model.specs.Image.{assigning, next}
use Rattle.model.specs.Policy.{granting, ordering, lesser, limiting, exclusions_of}

-- ---- entries told apart
-- a number for each sort of entry
abbrev pub sort : Entry → ℕ
sort (Assignment u r) = 0
sort (Grant r p) = 1
sort (Senior a b) = 2
sort (Exclude x m) = 3
sort (Member r) = 4
sort (Limit r t) = 5
sort End = 6
sort Unknown = 7

-- the row of its table that an entry names
abbrev pub row_of : Entry → ℕ
row_of (Assignment u r) = u.0
row_of (Grant r p) = r.0
row_of (Senior a b) = a.0
row_of (Exclude x m) = 0
row_of (Member r) = 0
row_of (Limit r t) = r.0
row_of End = 0
row_of Unknown = 0

-- what an entry puts into that row, or into an exclusion
abbrev pub item_of : Entry → ℕ
item_of (Assignment u r) = r.0
item_of (Grant r p) = p.0
item_of (Senior a b) = b.0
item_of (Exclude x m) = 0
item_of (Member r) = r.0
item_of (Limit r t) = t
item_of End = 0
item_of Unknown = 0

-- ---- tables: an entry of the sort that a table is of changes the row that it names, any other leaves the table

-- a member put into a row
abbrev put : List ℕ → ℕ → ℕ → List ℕ
put rows i k = set rows i (with (get_or rows i 0) k)

-- the roles of each user
pub assigning-case {κ} : (P : Entry → List ℕ → Type κ) (rows : List ℕ) → ((u : User) (r : Role) → P (Assignment u r) (put rows u.0 r.0))
    → ((e : Entry) → eqb 0 (sort e) ≡ false → P e rows) → (e : Entry) → P e (assigning rows e)
unfolding assigning
assigning-case P rows f g (Assignment u r) = f u r
assigning-case P rows f g (Grant r p) = g (Grant r p) refl
assigning-case P rows f g (Senior a b) = g (Senior a b) refl
assigning-case P rows f g (Exclude x m) = g (Exclude x m) refl
assigning-case P rows f g (Member r) = g (Member r) refl
assigning-case P rows f g (Limit r t) = g (Limit r t) refl
assigning-case P rows f g End = g End refl
assigning-case P rows f g Unknown = g Unknown refl

-- the permissions of each role
pub granting-case {κ} : (P : Entry → List ℕ → Type κ) (rows : List ℕ) → ((r : Role) (p : Permission) → P (Grant r p) (put rows r.0 p.0))
    → ((e : Entry) → eqb 1 (sort e) ≡ false → P e rows) → (e : Entry) → P e (granting rows e)
unfolding granting
granting-case P rows f g (Assignment u r) = g (Assignment u r) refl
granting-case P rows f g (Grant r p) = f r p
granting-case P rows f g (Senior a b) = g (Senior a b) refl
granting-case P rows f g (Exclude x m) = g (Exclude x m) refl
granting-case P rows f g (Member r) = g (Member r) refl
granting-case P rows f g (Limit r t) = g (Limit r t) refl
granting-case P rows f g End = g End refl
granting-case P rows f g Unknown = g Unknown refl

-- the juniors of each role
pub ordering-case {κ} : (P : Entry → List ℕ → Type κ) (rows : List ℕ) → ((a b : Role) → P (Senior a b) (put rows a.0 b.0))
    → ((e : Entry) → eqb 2 (sort e) ≡ false → P e rows) → (e : Entry) → P e (ordering rows e)
unfolding ordering
ordering-case P rows f g (Assignment u r) = g (Assignment u r) refl
ordering-case P rows f g (Grant r p) = g (Grant r p) refl
ordering-case P rows f g (Senior a b) = f a b
ordering-case P rows f g (Exclude x m) = g (Exclude x m) refl
ordering-case P rows f g (Member r) = g (Member r) refl
ordering-case P rows f g (Limit r t) = g (Limit r t) refl
ordering-case P rows f g End = g End refl
ordering-case P rows f g Unknown = g Unknown refl

-- the limit of each role
pub limiting-case {κ} : (P : Entry → List ℕ → Type κ) (rows : List ℕ) → ((r : Role) (t : ℕ) → P (Limit r t) (set rows r.0 (lesser (get_or rows r.0 0) t)))
    → ((e : Entry) → eqb 5 (sort e) ≡ false → P e rows) → (e : Entry) → P e (limiting rows e)
unfolding limiting
limiting-case P rows f g (Assignment u r) = g (Assignment u r) refl
limiting-case P rows f g (Grant r p) = g (Grant r p) refl
limiting-case P rows f g (Senior a b) = g (Senior a b) refl
limiting-case P rows f g (Exclude x m) = g (Exclude x m) refl
limiting-case P rows f g (Member r) = g (Member r) refl
limiting-case P rows f g (Limit r t) = f r t
limiting-case P rows f g End = g End refl
limiting-case P rows f g Unknown = g Unknown refl

-- ---- exclusions: an exclusion word begins one, and any other entry leaves their list and their number
pub exclusion-case {κ} : (P : Entry → Type κ) → ((x : Exclusion) (m : ℕ) → P (Exclude x m))
    → ((e : Entry) → ((es : List Entry) → exclusions_of (e ∷ es) ≡ exclusions_of es) → ((t : Scan) → (next t e).exclusions ≡ t.exclusions) → P e)
    → (e : Entry) → P e
unfolding exclusions_of next
exclusion-case P f g (Assignment u r) = g (Assignment u r) (λ es. refl) (λ t. refl)
exclusion-case P f g (Grant r p) = g (Grant r p) (λ es. refl) (λ t. refl)
exclusion-case P f g (Senior a b) = g (Senior a b) (λ es. refl) (λ t. refl)
exclusion-case P f g (Exclude x m) = f x m
exclusion-case P f g (Member r) = g (Member r) (λ es. refl) (λ t. refl)
exclusion-case P f g (Limit r t) = g (Limit r t) (λ es. refl) (λ t. refl)
exclusion-case P f g End = g End (λ es. refl) (λ t. refl)
exclusion-case P f g Unknown = g Unknown (λ es. refl) (λ t. refl)
