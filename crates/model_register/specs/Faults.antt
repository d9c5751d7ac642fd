-- The register's lines 1 to 8 in its own words: what is wrong with a word, by the words that stand before it in the
-- image, and which answer follows. There is no scan here: places are looked back at.
-- Assumes nothing.
use Rattle.std.specs.Prelude.{◌≡◌, ◌⊎◌, ◌↔◌, List, [], ◌∷◌, ℕ, suc, ◌+◌, ◌/◌, ◌%◌, ◌^◌, ◌≤◌, ◌<◌, length}
use Rattle.model.specs.declared.Head.{Head}
use Rattle.model.specs.declared.Exclusion.{Exclusion}
use Rattle.model.specs.declared.Entry.{Entry}
use Rattle.model.specs.declared.Entry.TheVariants.{Assignment, Grant, Senior, Exclude, Member, Limit, End, Unknown}
use Rattle.model.specs.declared.Checked.TheVariants.{Accepted, Refused}
use Rattle.model.specs.Sets.{sum_to}
use Rattle.model.specs.Image.{word_at, field, user, role, head_of, judge_words}
use Rattle.model.specs.Policy.{entry_at}
use Rattle.model.specs.Ranges.{Each, OneTo}

-- ---- places

-- how many words the image has; the head stands at place 0
abbrev pub words : List ℕ → ℕ
words s = length s / 4

-- the word at place k is the last
abbrev pub Last : List ℕ → ℕ → Type 0
Last s k = suc k ≡ words s

-- place k is one of the m places behind an exclusion word at place j that says m
pub record DueFor (s : List ℕ) (k j : ℕ) : Type 0 where
  pub exclusion : Exclusion
  pub members : ℕ
  pub word : entry_at s j ≡ Exclude exclusion members
  pub behind_head_lem : 1 ≤ j
  pub before : j < k
  pub near : k ≤ j + members

-- a member is due at place k
abbrev pub Due : List ℕ → ℕ → Type 0
Due s k = (j : ℕ) × DueFor s k j

-- a member word between the places j and k names role r
pub record Named (s : List ℕ) (j k r : ℕ) : Type 0 where
  pub place : ℕ
  pub behind : j < place
  pub before : place < k
  pub word : entry_at s place ≡ Member (role r)

-- a word before place k assigns user u to role r
pub record Given (s : List ℕ) (k u r : ℕ) : Type 0 where
  pub place : ℕ
  pub behind_head_lem : 1 ≤ place
  pub before : place < k
  pub word : entry_at s place ≡ Assignment (user u) (role r)

-- an exclusion word stands at place j, before place k
pub record Excluded (s : List ℕ) (k j : ℕ) : Type 0 where
  pub exclusion : Exclusion
  pub members : ℕ
  pub behind_head_lem : 1 ≤ j
  pub before : j < k
  pub word : entry_at s j ≡ Exclude exclusion members

-- no two numbers of the list are the same
abbrev pub Distinct : List ℕ → Type 0
Distinct [] = Unit {0}
Distinct (x ∷ xs) = Each (λ y. ¬ (x ≡ y)) xs × Distinct xs

-- n different numbers have the property
pub record Many (n : ℕ) (P : ℕ → Type 0) : Type 0 where
  pub list : List ℕ
  pub size : length list ≡ n
  pub different : Distinct list
  pub each : Each P list

-- ---- the faults of a word behind the head

abbrev pub IsMember : Entry → Type 0
IsMember (Assignment u r) = ⊥
IsMember (Grant r p) = ⊥
IsMember (Senior a b) = ⊥
IsMember (Exclude x m) = ⊥
IsMember (Member r) = Unit {0}
IsMember (Limit r t) = ⊥
IsMember End = ⊥
IsMember Unknown = ⊥

abbrev pub IsEnd : Entry → Type 0
IsEnd (Assignment u r) = ⊥
IsEnd (Grant r p) = ⊥
IsEnd (Senior a b) = ⊥
IsEnd (Exclude x m) = ⊥
IsEnd (Member r) = ⊥
IsEnd (Limit r t) = ⊥
IsEnd End = Unit {0}
IsEnd Unknown = ⊥

abbrev pub IsUnknown : Entry → Type 0
IsUnknown (Assignment u r) = ⊥
IsUnknown (Grant r p) = ⊥
IsUnknown (Senior a b) = ⊥
IsUnknown (Exclude x m) = ⊥
IsUnknown (Member r) = ⊥
IsUnknown (Limit r t) = ⊥
IsUnknown End = ⊥
IsUnknown Unknown = Unit {0}

-- 3, kind: kind 0, 1 or 8 to 14 (specs/Entries.antt); a member not due; no member where due; an end before the end; a
-- last word that is no end
pub data WrongKind (e : Entry) (due last : Type 0) : Type 0 where
  no_kind : IsUnknown e → WrongKind e due last
  not_due : IsMember e → ¬ due → WrongKind e due last
  no_member : ¬ IsMember e → due → WrongKind e due last
  early_end : IsEnd e → ¬ last → WrongKind e due last
  no_end : ¬ IsEnd e → last → WrongKind e due last

-- how many bits of a word, from the lowest, are no field of its kind
abbrev pub spare_bits : Entry → ℕ
spare_bits (Assignment u r) = 16
spare_bits (Grant r p) = 14
spare_bits (Senior a b) = 16
spare_bits (Exclude x m) = 12
spare_bits (Member r) = 22
spare_bits (Limit r t) = 13
spare_bits End = 0
spare_bits Unknown = 0

-- 4, spare: such a bit is set
abbrev pub Spare : ℕ → Entry → Type 0
Spare w e = ¬ (w % 2 ^ spare_bits e ≡ 0)

-- 5, range: a number not below U, R or P; m 0 or above R, n below 2 or above m; t outside 2 to 256
abbrev pub OutOfRange : Head → Entry → Type 0
OutOfRange h (Assignment u r) = (h.users ≤ u.0) ⊎ (h.roles ≤ r.0)
OutOfRange h (Grant r p) = (h.roles ≤ r.0) ⊎ (h.permissions ≤ p.0)
OutOfRange h (Senior a b) = (h.roles ≤ a.0) ⊎ (h.roles ≤ b.0)
OutOfRange h (Exclude x m) = ((m < 1) ⊎ (h.roles < m)) ⊎ ((x.n < 2) ⊎ (m < x.n))
OutOfRange h (Member r) = h.roles ≤ r.0
OutOfRange h (Limit r t) = (h.roles ≤ r.0) ⊎ ((t < 2) ⊎ (256 < t))
OutOfRange h End = ⊥
OutOfRange h Unknown = ⊥

-- 6, repeat: a member already in this exclusion, a senior equal to its junior
abbrev pub Repeated : List ℕ → ℕ → Entry → Type 0
Repeated s k (Assignment u r) = ⊥
Repeated s k (Grant r p) = ⊥
Repeated s k (Senior a b) = a.0 ≡ b.0
Repeated s k (Exclude x m) = ⊥
Repeated s k (Member r) = (j : ℕ) × DueFor s k j × Named s j k r.0
Repeated s k (Limit r t) = ⊥
Repeated s k End = ⊥
Repeated s k Unknown = ⊥

-- 7, crowd: a role that the user was not given before, where 16 different ones were; an exclusion behind 32 of them
abbrev pub Crowded : List ℕ → ℕ → Entry → Type 0
Crowded s k (Assignment u r) = (¬ Given s k u.0 r.0) × Many 16 (Given s k u.0)
Crowded s k (Grant r p) = ⊥
Crowded s k (Senior a b) = ⊥
Crowded s k (Exclude x m) = Many 32 (Excluded s k)
Crowded s k (Member r) = ⊥
Crowded s k (Limit r t) = ⊥
Crowded s k End = ⊥
Crowded s k Unknown = ⊥

-- the word at place k has the fault n
pub data Fault (s : List ℕ) (k n : ℕ) : Type 0 where
  kind : n ≡ 3 → WrongKind (entry_at s k) (Due s k) (Last s k) → Fault s k n
  spare : n ≡ 4 → Spare (word_at s k) (entry_at s k) → Fault s k n
  range : n ≡ 5 → OutOfRange (head_of (word_at s 0)) (entry_at s k) → Fault s k n
  repeat : n ≡ 6 → Repeated s k (entry_at s k) → Fault s k n
  crowd : n ≡ 7 → Crowded s k (entry_at s k) → Fault s k n

-- ---- the image

-- 1, length: not a multiple of 4, below 8 or above 16,384
pub data WrongLength (s : List ℕ) : Type 0 where
  odd : ¬ (length s % 4 ≡ 0) → WrongLength s
  short : length s < 8 → WrongLength s
  long : 16384 < length s → WrongLength s

-- 2, head: first word not kind 1; U, R or P outside its range; spare bits
pub data WrongHead (w : ℕ) : Type 0 where
  kind : ¬ (field w 28 4 ≡ 1) → WrongHead w
  users : ¬ OneTo 64 (field w 21 7) → WrongHead w
  roles : ¬ OneTo 64 (field w 14 7) → WrongHead w
  permissions : ¬ OneTo 256 (field w 5 9) → WrongHead w
  spare : ¬ (w % 2 ^ 5 ≡ 0) → WrongHead w

-- neither 1 nor 2
pub record Begins (s : List ℕ) : Type 0 where
  pub size : ¬ WrongLength s
  pub head : ¬ WrongHead (word_at s 0)

-- no word behind the head and before place k has a fault
abbrev pub Right : List ℕ → ℕ → Type 0
Right s k = (i : ℕ) → 1 ≤ i → i < k → (n : ℕ) → ¬ Fault s i n

-- 8, balance: the low 28 bits of the sum of all words are not zero
abbrev pub Unbalanced : List ℕ → Type 0
Unbalanced s = ¬ (sum_to (word_at s) (words s) % 2 ^ 28 ≡ 0)

-- the answer is number n with place k: 1, then 2, then the earliest word with a fault and the lowest fault that it has,
-- then 8
pub data Refuses (s : List ℕ) (n k : ℕ) : Type 0 where
  by_length : n ≡ 1 → k ≡ 0 → WrongLength s → Refuses s n k
  by_head : n ≡ 2 → k ≡ 0 → ¬ WrongLength s → WrongHead (word_at s 0) → Refuses s n k
  by_word : Begins s → 1 ≤ k → k < words s → Right s k → Fault s k n → ((m : ℕ) → m < n → ¬ Fault s k m) → Refuses s n k
  by_balance : n ≡ 8 → Last s k → Begins s → Right s (words s) → Unbalanced s → Refuses s n k

-- none of 1 to 8
pub record Accepts (s : List ℕ) (h : Head) : Type 0 where
  pub begins : Begins s
  pub right : Right s (words s)
  pub balanced : ¬ Unbalanced s
  pub numbers : head_of (word_at s 0) ≡ h

-- the judgement of an image by its words is the register's answer
pub record RegisterIs (s : List ℕ) : Type 0 where
  pub refused : (n k : ℕ) → (judge_words s ≡ Refused n k) ↔ Refuses s n k
  pub accepted : (h : Head) → (judge_words s ≡ Accepted h) ↔ Accepts s h
