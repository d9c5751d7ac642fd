-- Entries moved about: images that differ in the order of their groups and of the members of a group.
-- Assumes nothing.
use Rattle.std.specs.Prelude.{◌≡◌, List, [], ◌∷◌, ◌++◌, ℕ, ◌^◌, ◌<◌, length}
use Rattle.model.specs.declared.Head.{Head}
use Rattle.model.specs.declared.Checked.TheVariants.{Accepted}
use Rattle.model.specs.Image.{word_at, behind_head}
use Rattle.model.specs.Words.{image_bytes}
use Rattle.model.specs.Policy.{policy_of}
use Rattle.model.specs.Judgement.{judge}
use Rattle.model.specs.Ranges.{Each}
use Rattle.model_tidy.specs.Groups.{Group, spread, Whole, Parted}
use Rattle.model_tidy.specs.Same.{SamePolicy, Alike}
use Rattle.model_tidy.specs.Tidy.{tidy_of}

-- ---- lists moved about

-- the second list has the members of the first, each once for each time, in any order; R says what counts as the same
-- member
pub data Rearranged (A : Type 0) (R : A → A → Type 0) : List A → List A → Type 0 where
  none_moved : Rearranged A R [] []
  one_kept : {x y : A} {xs ys : List A} → R x y → Rearranged A R xs ys → Rearranged A R (x ∷ xs) (y ∷ ys)
  two_swapped : {x y : A} {xs : List A} → Rearranged A R (x ∷ y ∷ xs) (y ∷ x ∷ xs)
  moved_twice : {xs ys zs : List A} → Rearranged A R xs ys → Rearranged A R ys zs → Rearranged A R xs zs

-- the same list up to order
abbrev pub Permuted : (A : Type 0) → List A → List A → Type 0
Permuted A xs ys = Rearranged A (λ (x y : A). x ≡ y) xs ys

-- the same group up to the order of its members
pub record SameGroup (g k : Group) : Type 0 where
  pub word : g.word ≡ k.word
  pub members : Permuted ℕ g.members k.members

-- ---- images

-- whole groups of the image s are moved about between head and end, each exclusion together with its members, and the
-- members of an exclusion among themselves: that gives the image t
pub record Reordered (s t : List ℕ) : Type 0 where
  pub size : length s ≡ length t
  pub head : word_at s 0 ≡ word_at t 0
  pub from : Parted s
  pub to : Parted t
  pub whole : Each Whole from.groups
  pub moved : Rearranged Group SameGroup from.groups to.groups
  pub last : from.last ≡ to.last

-- the last word of an image
unfoldable pub end_of : List ℕ → ℕ
end_of s = word_at s (behind_head s)

-- ---- the claims

-- order has no say: t is accepted with the head that s is accepted with, has its end word, its policy and its tidy
-- image, and check, open, close, ask, short ask, show, explain and obstacle, and whole runs of them, answer alike under
-- both
pub record OrderFree (s t : List ℕ) (h : Head) : Type 0 where
  pub accepted : judge t ≡ Accepted h
  pub end : end_of s ≡ end_of t
  pub same : SamePolicy (policy_of s) (policy_of t)
  pub tidy : tidy_of s ≡ tidy_of t
  pub alike : Alike s t

-- the bytes of a head word, groups and an end word
abbrev pub image_of : ℕ → List Group → ℕ → List ℕ
image_of head gs last = image_bytes (head ∷ (spread gs ++ (last ∷ [])))

-- no move is missing: whole groups between a head and an end word, rearranged in whatever way, make a reordered image
abbrev pub Covered : ℕ → List Group → List Group → ℕ → Type 0
Covered head gs ks last =
    Each (λ w. w < 2 ^ 32) (head ∷ (spread gs ++ (last ∷ []))) → Each Whole gs → Rearranged Group SameGroup gs ks
    → Reordered (image_of head gs last) (image_of head ks last)
