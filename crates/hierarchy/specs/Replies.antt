-- What a host gets of a call that fills a buffer.
-- Assumes nothing.
use Rattle.std.specs.Prelude.{◌≡◌, List, ℕ}
use Rattle.model.specs.Session.{Reply}
use Rattle.model.specs.Run.{returned, answered}

-- the number returned and the buffer after the call are the reply's; the room is the buffer before
pub record Replies (e : Reply) (n : ℕ) (room buffer : List ℕ) : Type 0 where
  pub number : n ≡ returned e
  pub bytes : buffer ≡ answered room e
