-- What the code needs to know of a decoded word.
-- Assumes nothing.
use Rattle.std.specs.Prelude.{◌<◌}
use Rattle.model.specs.declared.Entry.{Entry}
use Rattle.model.specs.declared.Entry.TheVariants.{Assignment, Grant, Senior, Exclude, Member, Limit, End, Unknown}

-- the numbers of an entry are as small as their fields
unfoldable pub Small : Entry → Type 0
Small (Assignment u r) = (u.0 < 64) × (r.0 < 64)
Small (Grant r p) = r.0 < 64
Small (Senior a b) = (a.0 < 64) × (b.0 < 64)
Small (Exclude x m) = m < 128
Small (Member r) = r.0 < 64
Small (Limit r t) = r.0 < 64
Small End = 0 < 1
Small Unknown = 0 < 1
