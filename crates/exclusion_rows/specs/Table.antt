-- The exclusions of a table.
-- Assumes nothing.
use Rattle.std.specs.Prelude.{List, take}
use Rattle.model.specs.declared.Exclusion.{Exclusion}
use Rattle.model.specs.declared.Exclusions.{Exclusions}
use Rattle.exclusion_rows.specs.declared.ExclusionTable.{ExclusionTable}

-- the exclusions of a table
abbrev pub exclusions_of : ExclusionTable → Exclusions
exclusions_of t = record { list = t.rows; count = t.count }

-- the exclusions of a table as a list: its first rows
abbrev pub exclusion_list : ExclusionTable → List Exclusion
exclusion_list t = take t.count t.rows
