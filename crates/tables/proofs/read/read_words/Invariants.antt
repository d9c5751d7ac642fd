-- `tables::read::read_words` meets its contract. The loop's invariant: the scan, and each table's fold, of the rest
-- from this state is that of the whole, and the places so far with those of the rest are those of the whole.
-- Assumes nothing.
use Rattle.std.proofs.Common.{◌≡◌, ℕ, ◌-◌, ◌<◌, ◌≤◌, ◌++◌, length, get_or, take}
use Rattle.sets.specs.Words.{values}
use Rattle.model.specs.Image.{assigning, scan, start}
use Rattle.model.specs.Policy.{entries_from, fold, granting, ordering, limiting}
use Rattle.image_usual.specs.Usual.{places_from}
use Rattle.tables.proofs.read.read_words.Given as goal

abbrev pub invariant-loop-at : goal.invariant-loop-at
invariant-loop-at l =
    let s = l.image.bytes.now in
    let rest = entries_from s (l.image.count - l.at.place) l.at.place in
    let whole = entries_from s (l.image.count - 1) 1 in
    record {
      onward : 1 ≤ l.at.place;
      inside : l.at.place ≤ l.image.count - 1;
      scanned : scan s l.h (l.image.count - l.at.place) l.at.place l.tables.authorized l.t l.at.sum
          ≡ scan s l.h (l.image.count - 1) 1 l.fn.tables.authorized start l.first;
      few : l.t.exclusions ≤ 32;
      size : length l.places ≡ 32;
      below : (j : ℕ) → get_or l.places j 0 < l.image.count;
      assigned_is : fold assigning l.tables.authorized rest ≡ fold assigning l.fn.tables.authorized whole;
      granted_is : fold granting (values l.tables.granted) rest ≡ fold granting (values l.fn.tables.granted) whole;
      juniors_is : fold ordering l.tables.below rest ≡ fold ordering l.fn.tables.below whole;
      limits_is : fold limiting l.tables.limits rest ≡ fold limiting l.fn.tables.limits whole;
      places_are : take l.t.exclusions l.places ++ places_from s (l.image.count - l.at.place) l.at.place ≡ places_from s (l.image.count - 1) 1;
    }

abbrev pub decreases-loop-at : goal.decreases-loop-at
decreases-loop-at l = l.image.count - l.at.place
