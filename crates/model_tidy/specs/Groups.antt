-- Acceptance without order: the words behind the head as groups, and what is asked of each group alone, of the policy
-- and of the sum.
-- Assumes nothing.
use Rattle.std.specs.Prelude.{◌≡◌, Bool, true, false, List, [], ◌∷◌, ◌++◌, map, ℕ, ◌+◌, ◌%◌, ◌^◌, ◌≤◌, ◌<◌, get_or, length}
use Rattle.model.specs.declared.Head.{Head}
use Rattle.model.specs.declared.Entry.{Entry}
use Rattle.model.specs.declared.Entry.TheVariants.{Assignment, Grant, Senior, Exclude, Member, End, Unknown, Limit}
use Rattle.model.specs.Sets.{count}
use Rattle.model.specs.Image.{word_at, behind_head, role, field, decode, in_range, repeats, head_of, head_right, length_right, start}
use Rattle.model.specs.Words.{sum_of}
use Rattle.model.specs.OwnWords.{words_from}
use Rattle.model.specs.Policy.{Policy, policy_of}
use Rattle.model.specs.Ranges.{Each}
use Rattle.model.specs.Ordered.{Loopless, FewRoles}

-- ---- the words behind the head

unfoldable pub words_behind : List ℕ → List ℕ
words_behind s = words_from s (behind_head s) 1

-- what a word says
abbrev pub entry_of : ℕ → Entry
entry_of w = (decode w).entry

-- the role that a member word names
abbrev pub member_role : ℕ → ℕ
member_role w = field w 22 6

-- ---- groups

-- a whole entry: an assignment, a grant, a senior or a limit word alone, or an exclusion word with the member words
-- behind it
pub record Group : Type 0 where
  pub word : ℕ
  pub members : List ℕ

-- the words of groups, in order
unfoldable pub spread : List Group → List ℕ
spread [] = []
spread (g ∷ gs) = g.word ∷ (g.members ++ spread gs)

-- a word that can begin a group
unfoldable pub leads : Entry → Bool
leads (Assignment u r) = true
leads (Grant r p) = true
leads (Senior a b) = true
leads (Exclude x m) = true
leads (Member r) = false
leads (Limit r t) = true
leads End = false
leads Unknown = false

-- how many member words are due behind a word
unfoldable pub due_behind : Entry → ℕ
due_behind (Assignment u r) = 0
due_behind (Grant r p) = 0
due_behind (Senior a b) = 0
due_behind (Exclude x m) = m
due_behind (Member r) = 0
due_behind (Limit r t) = 0
due_behind End = 0
due_behind Unknown = 0

-- no two numbers of the list are the same
abbrev pub Distinct : List ℕ → Type 0
Distinct [] = Unit {0}
Distinct (x ∷ xs) = Each (λ y. ¬ (x ≡ y)) xs × Distinct xs

-- a word that is right as a member: of that kind, no spare bits, a role of the policy
pub record RightMember (h : Head) (w : ℕ) : Type 0 where
  pub says : entry_of w ≡ Member (role (member_role w))
  pub spare : (decode w).spare ≡ 0
  pub range : member_role w < h.roles

-- a group has all the members that are due, and no others
abbrev pub Whole : Group → Type 0
Whole g = length g.members ≡ due_behind (entry_of g.word)

-- a group that is right by itself
pub record RightGroup (h : Head) (g : Group) : Type 0 where
  pub leading : leads (entry_of g.word) ≡ true
  pub spare : (decode g.word).spare ≡ 0
  pub range : in_range h (entry_of g.word) ≡ true
  -- no role is senior to itself
  pub apart : repeats start (entry_of g.word) ≡ false
  pub whole : Whole g
  pub members : Each (RightMember h) g.members
  pub distinct : Distinct (map member_role g.members)

-- ---- the whole image

-- the words behind the head, parted into groups and a last word
pub record Parted (s : List ℕ) : Type 0 where
  pub groups : List Group
  pub last : ℕ
  pub words : words_behind s ≡ spread groups ++ (last ∷ [])

-- what is asked of the policy as a whole: at most 16 roles assigned to a user, at most 32 exclusions, no loop, and at
-- most 16 roles that a user may activate
pub record Limits (p : Policy) : Type 0 where
  pub few_roles : (u : ℕ) → count 64 (get_or p.assigned u 0) ≤ 16
  pub few_exclusions : length p.exclusions ≤ 32
  pub loopless : Loopless p
  pub few_authorized : (u : ℕ) → FewRoles p u

-- an image that is to be accepted with the head h
pub record Acceptable (s : List ℕ) (h : Head) : Type 0 where
  pub size : length_right (length s) ≡ true
  pub head : head_right (word_at s 0) ≡ true
  pub numbers : head_of (word_at s 0) ≡ h
  pub parts : Parted s
  pub groups : Each (RightGroup h) parts.groups
  pub ends : entry_of parts.last ≡ End
  pub limits : Limits (policy_of s)
  pub balance : (word_at s 0 + sum_of (words_behind s)) % 2 ^ 28 ≡ 0
