-- The last word of an image and the sum of all words.
-- Assumes nothing.
use Rattle.std.specs.Prelude.{◌≡◌, ℕ, ◌-◌, List}
use Rattle.model.specs.declared.Head.{Head}
use Rattle.model.specs.declared.Scan.{Scan}
use Rattle.model.specs.declared.Entry.TheVariants.{End}
use Rattle.model.specs.declared.Checked.{Checked}
use Rattle.model.specs.declared.Checked.TheVariants.{Accepted}
use Rattle.model.specs.Image.{scan}
use Rattle.model.specs.Policy.{entry_at}

-- the last word judged, where so many members are due, and the sum of all words, `sum` that of the words before: what
-- the scan says of them, and that the word is the end where they are accepted
pub record Closing (s : List ℕ) (h : Head) (words due sum : ℕ) (r : Checked) : Type 0 where
  pub scanned : (rows : List ℕ) (t : Scan) → t.due ≡ due → r ≡ scan s h (words - (words - 1)) (words - 1) rows t sum
  pub ended : (g : Head) → r ≡ Accepted g → entry_at s (words - 1) ≡ End
