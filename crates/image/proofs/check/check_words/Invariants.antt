-- `image::check_words` meets its contract. The invariant: the scan of the rest from this state is the scan of the
-- whole, and so are the folds of the two tables.
-- Assumes nothing.
use Rattle.std.proofs.Common.{◌≡◌, ◌-◌, ◌≤◌}
use Rattle.model.specs.Image.{assigning, scan, start}
use Rattle.model.specs.Policy.{entries_from, fold, ordering}
use Rattle.image.proofs.check.check_words.Given as goal

abbrev pub invariant-loop-at : goal.invariant-loop-at
invariant-loop-at l =
    (1 ≤ l.at.place) × (l.at.place ≤ l.image.count - 1)
    × (scan l.image.bytes.now l.h (l.image.count - l.at.place) l.at.place l.assigned l.t l.at.sum
    ≡ scan l.image.bytes.now l.h (l.image.count - 1) 1 l.initial.assigned start l.first)
    × (fold assigning l.assigned (entries_from l.image.bytes.now (l.image.count - l.at.place) l.at.place) ≡ fold assigning l.initial.assigned
    (entries_from l.image.bytes.now (l.image.count - 1) 1))
    × (fold ordering l.juniors (entries_from l.image.bytes.now (l.image.count - l.at.place) l.at.place) ≡ fold ordering l.initial.juniors
    (entries_from l.image.bytes.now (l.image.count - 1) 1))

abbrev pub decreases-loop-at : goal.decreases-loop-at
decreases-loop-at l = l.image.count - l.at.place
