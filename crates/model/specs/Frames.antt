-- What calls leave alone: a line's bytes and its value determine each other, a call changes no byte outside its user's
-- line, and no byte of a session other than its own.
-- Assumes nothing.
use Rattle.std.specs.Prelude.{◌≡◌, ◌⊎◌, Bool, true, false, ◌&&◌, List, [], ℕ, ◌+◌, ◌*◌, ◌^◌, ◌≤◌, ◌<◌, ltb, length, get_or, take, drop}
use Rattle.std.proofs.Math.Pow.{are_bytes}
use Rattle.model.specs.declared.Session.{Session}
use Rattle.model.specs.declared.Line.{Line}
use Rattle.model.specs.Tests.{all}
use Rattle.model.specs.Policy.{Meaning}
use Rattle.model.specs.Line.{line_size, read_line, write_line}
use Rattle.model.specs.Limits.{Others}
use Rattle.model.specs.Session.{Operation, open_session, close_session, session_of, query_of, is_text, answer_size, rule}
use Rattle.model.specs.Run.{Call, Event, step, answered, written, show_by, explain_by, obstacle_by, clauses_by}

-- ---- a line and its bytes

-- every number of a line fits its eight bytes
unfoldable pub fits_session : Session → Bool
fits_session s = ltb s.active (2 ^ 64) && ltb s.history (2 ^ 64)

unfoldable pub fits_line : Line → Bool
fits_line l = ltb l.opened (2 ^ 64) && ltb l.history (2 ^ 64) && all fits_session l.sessions

-- a line that is read and written gives its bytes back, and one that is written and read gives the line back
pub record LineBytes (W : ℕ) : Type 0 where
  pub write_read : (bs : List ℕ) → are_bytes bs ≡ true → length bs ≡ line_size W → write_line (read_line W bs) ≡ bs
  pub read-write : (l : Line) → length l.sessions ≡ W → fits_line l ≡ true → read_line W (write_line l) ≡ l

-- ---- a call on a ledger

-- a byte outside the line of user u, where a line has z bytes
abbrev pub Outside : ℕ → ℕ → ℕ → Type 0
Outside z u i = (i < z * u) ⊎ (z * u + z ≤ i)

-- A call, on lines of z bytes, keeps the ledger's length and every byte outside its user's line. A refused one, whose
-- number is not 0, keeps the whole ledger and fills nothing; one that is done fills nothing or the whole answer buffer,
-- 16 bytes for an obstacle and else 40, and a clause text as many bytes as its extra says.
pub record Frame (z : ℕ) (c : Call) (before : List ℕ) (e : Event) : Type 0 where
  pub keeps_length : length e.ledger ≡ length before
  pub outside : (i : ℕ) → Outside z c.user i → get_or e.ledger i 0 ≡ get_or before i 0
  pub refused_ledger : ¬ (e.reply.number ≡ 0) → e.ledger ≡ before
  pub refused_filled : ¬ (e.reply.number ≡ 0) → e.reply.filled ≡ []
  pub filled : is_text c.operation ≡ false → (e.reply.filled ≡ []) ⊎ (length e.reply.filled ≡ answer_size c.operation)
  pub text : is_text c.operation ≡ true → (e.reply.filled ≡ []) ⊎ (length e.reply.filled ≡ e.reply.extra)

-- every call is framed so, under any image and on any ledger
abbrev pub StepFrame : ℕ → Type 0
StepFrame W = (image ledger : List ℕ) (c : Call) → Frame (line_size W) c ledger (step W image ledger c)

-- a show keeps the whole ledger
abbrev pub ShowKeeps : ℕ → Type 0
ShowKeeps W = (image ledger : List ℕ) (u k room : ℕ) → (step W image ledger (show_by u k room)).ledger ≡ ledger

-- an explain keeps the whole ledger, and fills nothing
pub record ExplainKeeps (W : ℕ) (image ledger : List ℕ) (u k n : ℕ) : Type 0 where
  pub ledger_kept : (step W image ledger (explain_by u k n)).ledger ≡ ledger
  pub nothing_filled : (step W image ledger (explain_by u k n)).reply.filled ≡ []

-- an obstacle keeps the whole ledger
abbrev pub ObstacleKeeps : ℕ → Type 0
ObstacleKeeps W = (image ledger : List ℕ) (u k : ℕ) (lower upper : List ℕ) (room : ℕ)
    → (step W image ledger (obstacle_by u k lower upper room)).ledger ≡ ledger

-- a clause text keeps the whole ledger
abbrev pub ClausesKeep : ℕ → Type 0
ClausesKeep W = (image ledger : List ℕ) (u k : ℕ) (lower upper : List ℕ) (a b room : ℕ)
    → (step W image ledger (clauses_by u k lower upper a b room)).ledger ≡ ledger

-- the answer buffer of a call keeps its length
abbrev pub AnswerKeepsLength : ℕ → Type 0
AnswerKeepsLength W = (image ledger : List ℕ) (c : Call) (buffer : List ℕ) → is_text c.operation ≡ false
    → length buffer ≡ (query_of c.operation).room → length (answered buffer (step W image ledger c).reply) ≡ length buffer

-- so does the buffer of a clause text, and its bytes behind the text stay
pub record TextKeeps (W : ℕ) (image ledger : List ℕ) (c : Call) (buffer : List ℕ) : Type 0 where
  pub keeps_length : length (written buffer (step W image ledger c).reply) ≡ length buffer
  pub behind : (i : ℕ) → length (step W image ledger c).reply.filled ≤ i
      → get_or (written buffer (step W image ledger c).reply) i 0 ≡ get_or buffer i 0

abbrev pub TextsKeep : ℕ → Type 0
TextsKeep W = (image ledger : List ℕ) (c : Call) (buffer : List ℕ) → is_text c.operation ≡ true
    → length buffer ≡ (query_of c.operation).room → TextKeeps W image ledger c buffer

-- ---- a call on a line

-- the 16 bytes of session j, in a line
unfoldable pub session_bytes : ℕ → List ℕ → List ℕ
session_bytes j bs = take 16 (drop (16 + 16 * j) bs)

-- On a line bs, a call changes no byte of a session other than the one that it names. An open, which names none,
-- changes nothing behind the eight bytes of open sessions, so no byte of any session; a close keeps the user's history.
pub record SessionFrame (W : ℕ) (m : Meaning) (x : Others) (bs : List ℕ) : Type 0 where
  pub others : (op : Operation) (j : ℕ) → ¬ (j ≡ session_of op) → session_bytes j (rule W m x bs op).line ≡ session_bytes j bs
  pub by_open : (j : ℕ) → session_bytes j (rule W m x bs open_session).line ≡ session_bytes j bs
  pub open_rest : drop 8 (rule W m x bs open_session).line ≡ drop 8 bs
  pub close_history : (k : ℕ) → take 8 (drop 8 (rule W m x bs (close_session k)).line) ≡ take 8 (drop 8 bs)

-- every line of bytes is framed so
abbrev pub SessionFrames : ℕ → Type 0
SessionFrames W = (m : Meaning) (x : Others) (bs : List ℕ) → are_bytes bs ≡ true → length bs ≡ line_size W → SessionFrame W m x bs
