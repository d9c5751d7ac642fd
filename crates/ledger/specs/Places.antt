-- One session's part of a line's bytes.
-- Assumes nothing.
use Rattle.std.specs.Prelude.{List, ◌++◌, ℕ, take, drop}
use Rattle.model.specs.declared.Session.{Session}
use Rattle.model.specs.Bytes.{number, bytes_of}

-- the session that the first 16 bytes hold
unfoldable pub session_in : List ℕ → Session
session_in bs = record { active = number (take 8 bs); history = number (take 8 (drop 8 bs)) }

-- the 16 bytes of a session
unfoldable pub session_bytes : Session → List ℕ
session_bytes s = bytes_of 8 s.active ++ bytes_of 8 s.history
