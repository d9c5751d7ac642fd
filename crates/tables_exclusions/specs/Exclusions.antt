-- The exclusion at a place of an image.
-- Assumes nothing.
use Rattle.std.specs.Prelude.{List, ℕ, ◌+◌, ◌-◌, take}
use Rattle.model.specs.declared.Kind.TheVariants.{SsDmer}
use Rattle.model.specs.declared.Exclusion.{Exclusion}
use Rattle.model.specs.declared.Entry.{Entry}
use Rattle.model.specs.Kinds.{on_exclude}
use Rattle.model.specs.Policy.{entry_at, entries_from, with_members}

-- no exclusion
unfoldable pub nothing : Exclusion
nothing = record { kind = SsDmer; n = 0; members = 0 }

-- the exclusion that an exclusion word opens, with the members that the entries behind it name
unfoldable pub exclusion_by : Entry → List Entry → Exclusion
exclusion_by e es = on_exclude nothing (λ x m. with_members x (take m es)) e

-- the exclusion at a place of an image of so many words
unfoldable pub exclusion_at : List ℕ → ℕ → ℕ → Exclusion
exclusion_at s words place = exclusion_by (entry_at s place) (entries_from s (words - (place + 1)) (place + 1))
