-- The places behind an image's head: what stands at one, which comes after it, where the next exclusion stands, and
-- what a walk from one exclusion to the next reads.
-- Assumes nothing.
use Rattle.std.specs.Prelude.{Bool, true, false, List, [], ◌∷◌, ◌++◌, ℕ, zero, suc, ◌+◌, ◌-◌, leb, take, Option, Some, None}
use Rattle.model.specs.declared.Word.{Word}
use Rattle.model.specs.declared.Exclusion.{Exclusion}
use Rattle.model.specs.declared.Entry.{Entry}
use Rattle.model.specs.Tests.{pick, between}
use Rattle.model.specs.Kinds.{on_exclude}
use Rattle.model.specs.Image.{word_at, behind_head, decode}
use Rattle.model.specs.Policy.{entry_at, entries_from, with_members}

-- the word at a place behind the head decoded, none where the image has no such place
unfoldable pub found_at : List ℕ → ℕ → Option Word
found_at s place = pick (between 1 place (behind_head s)) (Some (decode (word_at s place))) None

-- the place after, which stays behind the last word
unfoldable pub place_after : List ℕ → ℕ → ℕ
place_after s place = pick (leb place (behind_head s)) (place + 1) place

-- the entry is an exclusion
unfoldable pub excludes : Entry → Bool
excludes e = on_exclude false (λ x m. true) e

-- what was found is an exclusion's word
unfoldable pub is_exclusion : Option Word → Bool
is_exclusion (Some w) = excludes w.entry
is_exclusion None = false

-- the place of an exclusion, 0 where there is none
abbrev pub place_of : Option ℕ → ℕ
place_of (Some q) = q
place_of None = 0

-- the place of the first exclusion among the n places behind the place, or 0
unfoldable pub exclusion_among : List ℕ → ℕ → ℕ → ℕ
exclusion_among s zero place = 0
exclusion_among s (suc n) place =
    elim (is_exclusion (found_at s (place + 1))) [
      | true ↦ place + 1
      | false ↦ exclusion_among s n (place + 1)
    ]

-- the place of the first exclusion behind the place, or 0
unfoldable pub exclusion_after : List ℕ → ℕ → ℕ
exclusion_after s place = exclusion_among s (behind_head s - place) place

-- ---- the walk: from place 0 on to the first exclusion behind the place, until there is none

-- the entries behind a place
unfoldable pub entries_behind : List ℕ → ℕ → List Entry
entries_behind s place = entries_from s (behind_head s - place) (place + 1)

-- the exclusion that an entry opens, with the members that the entries behind it name; none where it opens none
unfoldable pub exclusion_by : Entry → List Entry → List Exclusion
exclusion_by e es = on_exclude [] (λ x m. with_members x (take m es) ∷ []) e

-- what is read from a place on; none from 0, which is no place of an exclusion
unfoldable pub visiting : (ℕ → List Exclusion) → ℕ → List Exclusion
visiting reading zero = []
visiting reading (suc q) = reading (suc q)

-- the exclusions at the places that n turns of the walk visit behind the place
unfoldable pub walked : List ℕ → ℕ → ℕ → List Exclusion
walked s zero place = []
walked s (suc n) place = visiting (λ q. exclusion_by (entry_at s q) (entries_behind s q) ++ walked s n q) (exclusion_after s place)
