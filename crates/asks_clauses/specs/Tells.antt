-- What a host gets from a clause text.
-- Assumes nothing.
use Rattle.std.specs.Prelude.{◌≡◌, List, ℕ}
use Rattle.model.specs.Run.{Event, returned, written}

-- the number returned and the buffer after the call are the event's; the room is the buffer before
pub record Tells (e : Event) (n : ℕ) (room out : List ℕ) : Type 0 where
  pub number : n ≡ returned e.reply
  pub buffer : out ≡ written room e.reply
