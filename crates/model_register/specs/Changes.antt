-- What the calls make of a line, by its members: an open, a close, and a set put in for a session.
-- Assumes nothing.
use Rattle.std.specs.Prelude.{◌≡◌, ◌⊎◌, ◌↔◌, true, false, ℕ, ◌<◌, length}
use Rattle.model.specs.declared.Line.{Line}
use Rattle.model.specs.Sets.{has}
use Rattle.model.specs.Line.{session_at, opening, closing, put_in}

-- the line m is l with session k open too
pub record Opened (k : ℕ) (l m : Line) : Type 0 where
  pub opened : (j : ℕ) → (has m.opened j ≡ true) ↔ ((has l.opened j ≡ true) ⊎ (j ≡ k))
  pub history : m.history ≡ l.history
  pub sessions : m.sessions ≡ l.sessions

-- the sessions other than session k stay, and so does their number
pub record Beside (k : ℕ) (l m : Line) : Type 0 where
  pub size : length m.sessions ≡ length l.sessions
  pub others : (j : ℕ) → ¬ (j ≡ k) → session_at m j ≡ session_at l j

-- the line m is l with session k closed: its bytes are zero, and the user's history stays
pub record Shut (k : ℕ) (l m : Line) : Type 0 where
  pub opened : (j : ℕ) → (has m.opened j ≡ true) ↔ ((has l.opened j ≡ true) × ¬ (j ≡ k))
  pub history : m.history ≡ l.history
  pub active : (session_at m k).active ≡ 0
  pub past : (session_at m k).history ≡ 0
  pub beside : Beside k l m

-- the line m is l with the roles s as the active ones of session k, in place of the old ones, and in both histories
pub record Put (k s : ℕ) (l m : Line) : Type 0 where
  pub opened : m.opened ≡ l.opened
  pub history : (r : ℕ) → (has m.history r ≡ true) ↔ ((has l.history r ≡ true) ⊎ (has s r ≡ true))
  pub active : (session_at m k).active ≡ s
  pub past : (r : ℕ) → (has (session_at m k).history r ≡ true) ↔ ((has (session_at l k).history r ≡ true) ⊎ (has s r ≡ true))
  pub beside : Beside k l m

-- so are the changes of the calls, for a session of the line that is closed, or open
pub record ChangesAre (k : ℕ) (l : Line) : Type 0 where
  pub opens : has l.opened k ≡ false → Opened k l (opening k l)
  pub shuts : k < length l.sessions → has l.opened k ≡ true → Shut k l (closing k l)
  pub puts : k < length l.sessions → (s : ℕ) → Put k s l (put_in k s l)
