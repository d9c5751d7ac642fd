-- A step of the reader.
-- Assumes nothing.
use Rattle.std.specs.Prelude.{◌≡◌, Option}
use Rattle.model.specs.declared.Word.{Word}
use Rattle.image_reader.specs.declared.Reader.{Reader}
use Rattle.image_reader.specs.Places.{found_at, place_after}

-- the reader at the place after
abbrev pub moved_on : Reader → Reader
moved_on r = record { image = r.image; at = place_after r.image.now r.at }

-- what stands at the reader's place is given, and the reader moves on
abbrev pub Reads : Reader → Option Word → Reader → Type 0
Reads r found next = (found ≡ found_at r.image.now r.at) × (next ≡ moved_on r)
