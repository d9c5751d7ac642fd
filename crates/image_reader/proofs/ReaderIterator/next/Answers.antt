-- The reader moves on where it gives a word.
-- Assumes nothing.
use Rattle.std.proofs.Common.{◌≡◌, refl, ◌-◌, ◌+◌, Option, Some, None}
use Rattle.std.specs.Iterator.{MakesProgress, at_most}
use Rattle.model.specs.declared.Word.{Word}
use Rattle.model.specs.Image.{behind_head}
use Rattle.image_reader.specs.declared.Reader.{Reader}
use Rattle.image_reader.specs.Places.{found_at, place_after}
use Rattle.image_reader.proofs.PlaceLaws.{fewer_left}
use Rattle.image_reader.proofs.ReaderIterator.next.Goals as goal

progress : (r t : Reader) (found : Option Word) → found ≡ found_at r.image.now r.at → t.image ≡ r.image → t.at ≡ place_after r.image.now r.at
    → MakesProgress {A = Word} (λ (x : Reader). Unit {0}) (λ (x : Reader). at_most (behind_head x.image.now + 1 - x.at)) r found t
progress r t None e i a = record { on = λ _. tt; keeps = tt; rests = λ _. tt }
progress r t (Some w) e i a = record { on = λ _. (tt, tt, rw i (fewer_left r.image.now r.at t.at w e a)); keeps = tt; rests = λ _. tt }

pub returns-clause-goes : goal.returns-clause-goes
returns-clause-goes c = progress c.args.self.now _ _ c.entry_at-found.ensures refl c.place_after-self.ensures
