-- What a policy is read off: each bit of its tables, each exclusion and each member is there exactly if words of the
-- image say so.
-- Assumes nothing.
use Rattle.std.specs.Prelude.{◌≡◌, ◌⊎◌, ◌↔◌, true, ℕ, ◌≤◌, get_or, take}
use mathlib.Core.List.{List, ◌∷◌, ◌++◌, Memᴰ}
use Rattle.model.specs.declared.Exclusion.{Exclusion}
use Rattle.model.specs.declared.Entry.{Entry}
use Rattle.model.specs.declared.Entry.TheVariants.{Assignment, Grant, Senior, Exclude, Member, Limit}
use Rattle.model.specs.Sets.{has}
use Rattle.model.specs.Image.{user, role, permission, behind_head}
use Rattle.model.specs.Policy.{entry_at, entries_of, with_members, policy_of, limited}

-- a word behind the head says e
pub record Said (s : List ℕ) (e : Entry) : Type 0 where
  pub place : ℕ
  pub behind : 1 ≤ place
  pub within : place ≤ behind_head s
  pub says : entry_at s place ≡ e

-- an exclusion word among the entries gives the kind and the n of x, and the entries behind it, as many as it says, the
-- members
pub record Excluded (es : List Entry) (x : Exclusion) : Type 0 where
  pub before : List Entry
  pub word : Exclusion
  pub size : ℕ
  pub after : List Entry
  pub parts : es ≡ before ++ (Exclude word size ∷ after)
  pub whole : x ≡ with_members word (take size after)

-- the policy of the image s is what its words say
pub record ReadOff (s : List ℕ) : Type 0 where
  -- the entries are those of the words behind the head
  pub entries : (e : Entry) → Memᴰ e (entries_of s) ↔ Said s e
  -- role r is assigned to user u
  pub assigned : (u r : ℕ)
      → (has (get_or (policy_of s).assigned u 0) r ≡ true) ↔ Memᴰ (Assignment (user u) (role r)) (entries_of s)
  -- permission m is granted to role r
  pub granted : (r m : ℕ)
      → (has (get_or (policy_of s).granted r 0) m ≡ true) ↔ Memᴰ (Grant (role r) (permission m)) (entries_of s)
  -- role a is senior over role b
  pub juniors : (a b : ℕ)
      → (has (get_or (policy_of s).juniors a 0) b ≡ true) ↔ Memᴰ (Senior (role a) (role b)) (entries_of s)
  -- x is an exclusion of the policy
  pub exclusions : (x : Exclusion) → Memᴰ x (policy_of s).exclusions ↔ Excluded (entries_of s) x
  -- an exclusion word brings no member itself
  pub bare : (y : Exclusion) (m : ℕ) → Memᴰ (Exclude y m) (entries_of s) → y.members ≡ 0
  -- role r is a member of an exclusion that takes its members from the entries es
  pub members : (y : Exclusion) (es : List Entry) (r : ℕ)
      → (has (with_members y es).members r ≡ true) ↔ ((has y.members r ≡ true) ⊎ Memᴰ (Member (role r)) es)

-- a word gives role r the limit t, and none gives it a smaller one
pub record Smallest (es : List Entry) (r t : ℕ) : Type 0 where
  pub said : Memᴰ (Limit (role r) t) es
  pub least : (n : ℕ) → Memᴰ (Limit (role r) n) es → t ≤ n

-- the limits of the policy of the image s, which is accepted, are the smallest that its words give: role r has a limit
-- exactly if a word gives it one, and it is t exactly if t is the smallest
pub record LimitsRead (s : List ℕ) : Type 0 where
  pub is_limited : (r : ℕ) → (limited (policy_of s).limits r ≡ true) ↔ ((t : ℕ) × Memᴰ (Limit (role r) t) (entries_of s))
  pub is_limit : (r t : ℕ) → limited (policy_of s).limits r ≡ true → (get_or (policy_of s).limits r 0 ≡ t) ↔ Smallest (entries_of s) r t
