-- The last word: the end, which opens no exclusion.
-- Assumes nothing.
use Rattle.std.proofs.Common.{◌≡◌, ℕ, ◌+◌, ◌-◌, List, ◌++◌, length, take, sym, refl, ap, ◌∙◌, arith}
use Rattle.model.specs.declared.Scan.{Scan}
use Rattle.model.specs.declared.Entry.TheVariants.{End}
use Rattle.model.specs.Image.{word_at, decode, next}
use Rattle.model.specs.Policy.{entry_at}
use Rattle.image_usual.specs.Usual.{places_from}
use Rattle.image.specs.Taken.{Due}
use Rattle.tables_words.specs.Step.{noting}
use Rattle.tables.proofs.Places.{places_next, places-end}

-- the end at the last place
module _ (s : List ℕ) (n p : ℕ) (l : p + 1 ≡ n) (ee : entry_at s p ≡ End) where
  pub places_last : (t : Scan) (places : List ℕ) → length places ≡ 32
      → take t.exclusions places ≡ take t.exclusions places ++ places_from s (n - p) p
  unfolding entry_at next noting Due
  places_last t places k =
      places-end s n (p + 1) t places (omega arith)
      ∙ places_next s n p t places (word_at s p) (decode (word_at s p)) t places (omega arith) k refl refl (rw ee (omega arith)) (ap (next t) (sym ee))
      (ap (noting p t.exclusions places) (sym ee))
