-- The usual words, and a run of them.
-- Assumes nothing.
use Rattle.std.specs.Prelude.{◌≡◌, ℕ, zero, suc, ◌+◌, ◌-◌, ◌/◌, ◌%◌, ◌^◌, ◌<◌, ◌≤◌, true, false, List, [], ◌∷◌, length, slice_index, slice_set}
use Rattle.model.specs.declared.Head.{Head}
use Rattle.model.specs.declared.Role.{Role}
use Rattle.model.specs.declared.Scan.{Scan}
use Rattle.model.specs.declared.User.{User}
use Rattle.model.specs.declared.Entry.{Entry}
use Rattle.model.specs.declared.Entry.TheVariants.{Assignment, Grant, Senior, Exclude, Member, Limit, End, Unknown}
use Rattle.image_usual.specs.declared.taking.UsualGrant.{UsualGrant}
use Rattle.model.specs.Image.{field, role, permission, kind_of, says, in_range, decode, fault, assigning, next, scan}
use Rattle.model.specs.Sets.{count}
use Rattle.model.specs.Policy.{entry_at, entries_from, fold, ordering, limiting}

-- the usual words are grants, assignments and senior words
unfoldable pub Usual : Entry → Type 0
Usual (Assignment u r) = 0 < 1
Usual (Grant r p) = 0 < 1
Usual (Senior a b) = 0 < 1
Usual (Exclude x m) = 1 < 0
Usual (Member r) = 1 < 0
Usual (Limit r t) = 1 < 0
Usual End = 1 < 0
Usual Unknown = 1 < 0

-- what a word grants that is a grant in range with no spare bit
pub record Grants (h : Head) (w : ℕ) (g : UsualGrant) : Type 0 where
  pub said : decode w ≡ says (Grant (role g.role.0) (permission g.permission.0)) 0
  pub within : in_range h (Grant (role g.role.0) (permission g.permission.0)) ≡ true
  pub role_small : g.role.0 < 64
  pub permission_small : g.permission.0 < 256

-- a usual word that, before the last and where no member is due, has no fault, taken into the roles assigned and the
-- direct juniors so far
pub record Quick (h : Head) (w : ℕ) (assigned₀ juniors₀ assigned juniors : List ℕ) : Type 0 where
  pub usual : Usual (decode w).entry
  pub faultless : (t : Scan) → t.due ≡ 0 → 0 ≡ fault h assigned₀ t false (decode w)
  pub assigned_is : assigned ≡ assigning assigned₀ (decode w).entry
  pub juniors_is : juniors ≡ ordering juniors₀ (decode w).entry

-- the place first, where the entry is an exclusion
unfoldable pub placed : Entry → ℕ → List ℕ → List ℕ
placed (Assignment u r) p ps = ps
placed (Grant r q) p ps = ps
placed (Senior a b) p ps = ps
placed (Exclude x m) p ps = p ∷ ps
placed (Member r) p ps = ps
placed (Limit r t) p ps = ps
placed End p ps = ps
placed Unknown p ps = ps

-- the places of the exclusion words among n words from p on
unfoldable pub places_from : List ℕ → ℕ → ℕ → List ℕ
places_from s zero p = []
places_from s (suc n) p = placed (entry_at s p) p (places_from s n (p + 1))

-- from one place of an image of so many words to another, over words that leave the state as it is: the scan and the
-- tables from there on are those from here on
pub record Passed
    (s : List ℕ) (h : Head) (words due from sum₀ : ℕ) (assigned₀ juniors₀ : List ℕ) (place sum : ℕ) (assigned juniors : List ℕ) : Type 0 where
  pub onward : from ≤ place
  pub inside : (n : ℕ) → words - 1 ≤ n → from ≤ n → place ≤ n
  pub scanned : (t : Scan) → t.due ≡ due → scan s h (words - place) place assigned t sum ≡ scan s h (words - from) from assigned₀ t sum₀
  pub assigned_is : fold assigning assigned (entries_from s (words - place) place) ≡ fold assigning assigned₀ (entries_from s (words - from) from)
  pub juniors_is : fold ordering juniors (entries_from s (words - place) place) ≡ fold ordering juniors₀ (entries_from s (words - from) from)

-- a step leaves what it has at a word that grants nothing
pub record Ungranting (step : List ℕ → Entry → List ℕ) : Type 0 where
  pub assignment : (x : List ℕ) (u : User) (r : Role) → step x (Assignment u r) ≡ x
  pub senior : (x : List ℕ) (a b : Role) → step x (Senior a b) ≡ x

-- the same with what a step takes in of grants, the limits and the places of exclusion words
pub record FilledBy
    (step : List ℕ → Entry → List ℕ) (s : List ℕ) (h : Head) (words due from sum₀ : ℕ) (assigned₀ granted₀ juniors₀ : List ℕ)
    (place sum : ℕ) (assigned granted juniors : List ℕ) : Type 0 where
  pub passed : Passed s h words due from sum₀ assigned₀ juniors₀ place sum assigned juniors
  pub granted_is : fold step granted (entries_from s (words - place) place) ≡ fold step granted₀ (entries_from s (words - from) from)
  pub limits_is : (limits : List ℕ)
      → fold limiting limits (entries_from s (words - place) place) ≡ fold limiting limits (entries_from s (words - from) from)
  pub places_are : places_from s (words - place) place ≡ places_from s (words - from) from

-- the same over words that grant nothing, where no member is due
abbrev pub Led : List ℕ → Head → ℕ → ℕ → ℕ → List ℕ → List ℕ → ℕ → ℕ → List ℕ → List ℕ → Type 0
Led s h words from sum₀ assigned₀ juniors₀ place sum assigned juniors =
    (step : List ℕ → Entry → List ℕ) → Ungranting step → (granted : List ℕ)
    → FilledBy step s h words 0 from sum₀ assigned₀ granted juniors₀ place sum assigned granted juniors

-- the roles that the words assign to u, gathered into the row of u's roles: where they are 16 at most, the words are
-- led through
abbrev pub Gathers : List ℕ → ℕ → ℕ → ℕ → ℕ → ℕ → ℕ → ℕ → ℕ → ℕ → Type 0
Gathers s words from roles u sum₀ own place sum row =
    (h : Head) (assigned juniors : List ℕ) → h.roles ≡ roles → u < h.users → length assigned ≡ 64 → slice_index assigned u ≡ own → count 64 row ≤ 16
    → Led s h words from sum₀ assigned juniors place sum (slice_set assigned u row) juniors

-- ---- exclusions and their members

-- an exclusion word, before the last and where no member is due, without fault: what it leaves to judge the next word
-- by
pub record Opens (roles : ℕ) (t : Scan) (w : ℕ) (t' : Scan) : Type 0 where
  pub said : decode w ≡ says (Exclude (record { kind = kind_of (field w 26 2); n = field w 19 7; members = 0 }) (field w 12 7)) 0
  pub faultless : (h : Head) (rows : List ℕ) → h.roles ≡ roles → 0 ≡ fault h rows t false (decode w)
  pub scan_is : t' ≡ next t (decode w).entry

-- a member that is due, before the last word, without fault: what it leaves to judge the next word by
pub record Joins (roles : ℕ) (t : Scan) (w : ℕ) (t' : Scan) : Type 0 where
  pub said : decode w ≡ says (Member (role (w / 2 ^ 22 % 2 ^ 6))) 0
  pub faultless : (h : Head) (rows : List ℕ) → h.roles ≡ roles → 0 ≡ fault h rows t false (decode w)
  pub scan_is : t' ≡ next t (decode w).entry

-- from one place of an image to another, over members: the scan from there on is that from here on, and so is what
-- every other table takes in
pub record Joined (s : List ℕ) (roles words from sum₀ : ℕ) (t₀ : Scan) (place sum : ℕ) (t : Scan) : Type 0 where
  pub onward : from ≤ place
  pub inside : (n : ℕ) → words - 1 ≤ n → from ≤ n → place ≤ n
  pub scanned : (h : Head) (rows : List ℕ) → h.roles ≡ roles
      → scan s h (words - place) place rows t sum ≡ scan s h (words - from) from rows t₀ sum₀
  pub folded : (step : List ℕ → Entry → List ℕ) → ((x : List ℕ) (r : Role) → step x (Member r) ≡ x) → (x : List ℕ)
      → fold step x (entries_from s (words - place) place) ≡ fold step x (entries_from s (words - from) from)
  pub places_are : places_from s (words - place) place ≡ places_from s (words - from) from
  pub exclusions_same : t.exclusions ≡ t₀.exclusions
