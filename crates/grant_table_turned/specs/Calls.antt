-- The calls on tables of 2,048 bytes: a table turned, and a table turned back.
-- Assumes nothing.
use Rattle.std.specs.Prelude.{◌≡◌, ◌⊎◌, ◌↔◌, true, false, ◌&&◌, List, ℕ, eqb, length}
use Rattle.model.specs.Session.{Reply, refuse}
use Rattle.model.specs.Run.{answered}
use Rattle.grant_table_turned.specs.Turned.{turned, unturned}

-- done: the bytes fill the buffer, and the extra is 0
unfoldable pub filling : List ℕ → Reply
filling bs = record { number = 0; extra = 0; filled = bs }

-- ---- a table turned, and back: 19 where the source or the target has not 2,048 bytes

unfoldable pub turn_call : List ℕ → ℕ → Reply
turn_call source room = elim (eqb (length source) 2048 && eqb room 2048) [ true ↦ filling (turned source) | false ↦ refuse 19 0 ]

unfoldable pub unturn_call : List ℕ → ℕ → Reply
unturn_call source room = elim (eqb (length source) 2048 && eqb room 2048) [ true ↦ filling (unturned source) | false ↦ refuse 19 0 ]

-- ---- claims

-- 2,048 bytes turned and turned back are these bytes, and so are they turned back and turned, both calls done with
-- extra 0
pub record RoundTrips (bs : List ℕ) : Type 0 where
  pub turned_back : unturn_call (turn_call bs 2048).filled 2048 ≡ filling bs
  pub unturned_back : turn_call (unturn_call bs 2048).filled 2048 ≡ filling bs

-- how a call that turns a source by f is answered for a buffer: by 19 with extra 0, the buffer left as it was, exactly
-- if source or buffer has not 2,048 bytes, and else it is done
pub record TurnRefuses (call : List ℕ → ℕ → Reply) (f : List ℕ → List ℕ) (source buffer : List ℕ) : Type 0 where
  pub room : (call source (length buffer) ≡ refuse 19 0) ↔ ((¬ (length source ≡ 2048)) ⊎ (¬ (length buffer ≡ 2048)))
  pub done : (call source (length buffer) ≡ filling (f source)) ↔ ((length source ≡ 2048) × (length buffer ≡ 2048))
  pub either : (call source (length buffer) ≡ refuse 19 0) ⊎ (call source (length buffer) ≡ filling (f source))
  pub untouched : ¬ ((call source (length buffer)).number ≡ 0) → answered buffer (call source (length buffer)) ≡ buffer
