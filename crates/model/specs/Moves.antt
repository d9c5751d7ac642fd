-- Ledgers carried from F sessions a user to W, more or fewer. A move is no user's call.
-- Assumes nothing.
use Rattle.std.specs.Prelude.{◌≡◌, true, false, ◌&&◌, not, List, [], ◌++◌, ℕ, zero, suc, ◌+◌, ◌*◌, ◌^◌, ◌≤◌, ◌<◌, eqb, ltb, length, take, replicate}
use Rattle.model.specs.declared.Checked.{Checked}
use Rattle.model.specs.declared.Checked.TheVariants.{Accepted, Refused}
use Rattle.model.specs.declared.Line.{Line}
use Rattle.model.specs.Tests.{pick}
use Rattle.model.specs.Judgement.{judge}
use Rattle.model.specs.Policy.{Policy, Meaning, policy_of, meaning}
use Rattle.model.specs.Line.{line_size, read_line, empty_session, sound}
use Rattle.model.specs.Session.{Reply, refuse, done}
use Rattle.model.specs.Run.{Call, Event, line_at, step, show_by, explain_by}
use Rattle.model.specs.Independence.{Run}
use Rattle.model.specs.Kept.{SoundLedger}
use Rattle.model.specs.Frames.{session_bytes}

-- ---- one line

-- the bytes of a line with W sessions: the first ones that are there, zeros for those that are not
unfoldable pub resized : ℕ → List ℕ → List ℕ
resized W bs = take (line_size W) (bs ++ replicate (line_size W) 0)

-- why a line of F sessions cannot go to W: 11, unsound; 24, a session from W on is open; else 0
unfoldable pub line_fault : ℕ → ℕ → Meaning → List ℕ → ℕ
line_fault F W m bs =
    let l = read_line F bs in
    pick (not (sound F m l)) 11 (pick (not (ltb l.opened (2 ^ W))) 24 0)

-- ---- the lines of the n users from u on

-- the first fault, with its user; else done
unfoldable pub move_answer : ℕ → ℕ → Policy → List ℕ → ℕ → ℕ → Reply
move_answer F W p old u zero = done 0
move_answer F W p old u (suc n) =
    let x = line_fault F W (meaning p u) (line_at (line_size F) u old) in
    elim (eqb x 0) [ true ↦ move_answer F W p old (suc u) n | false ↦ refuse x u ]

-- each line resized
unfoldable pub resized_lines : ℕ → ℕ → List ℕ → ℕ → ℕ → List ℕ
resized_lines F W old u zero = []
resized_lines F W old u (suc n) = resized W (line_at (line_size F) u old) ++ resized_lines F W old (suc u) n

-- ---- a ledger; `new` are the bytes of the target before the move

-- the target is written where the answer is done, whose number is 0
unfoldable pub written_if : Reply → List ℕ → List ℕ → Event
written_if r lines new = record { reply = r; ledger = pick (eqb r.number 0) lines new }

-- under an accepted policy: 9 for an old ledger that does not fit, 19 for a new one
unfoldable pub move_on : ℕ → ℕ → Policy → List ℕ → List ℕ → Event
move_on F W p old new =
    let n = p.head.users in
    let e = written_if (move_answer F W p old 0 n) (resized_lines F W old 0 n) new in
    pick (not (eqb (length old) (line_size F * n))) (record { reply = refuse 9 0; ledger = new })
    (pick (not (eqb (length new) (line_size W * n))) (record { reply = refuse 19 0; ledger = new }) e)

unfoldable pub move_by : ℕ → ℕ → Checked → Policy → List ℕ → List ℕ → Event
move_by F W (Refused n place) p old new = record { reply = refuse n place; ledger = new }
move_by F W (Accepted h) p old new = move_on F W p old new

-- a move, given the bytes of an image, of the old ledger and of the target: the answer, and the target after it
unfoldable pub move : ℕ → ℕ → List ℕ → List ℕ → List ℕ → Event
move F W image old new = move_by F W (judge image) (policy_of image) old new

-- from four windows to eight, and back
abbrev pub widened : List ℕ → List ℕ → List ℕ → Event
widened image old new = move 4 8 image old new

abbrev pub narrowed : List ℕ → List ℕ → List ℕ → Event
narrowed image old new = move 8 4 image old new

-- ---- claims

-- a line with d empty sessions behind its own
unfoldable pub padded : ℕ → Line → Line
padded d l = record { opened = l.opened; history = l.history; sessions = l.sessions ++ replicate d empty_session }

-- The bytes of a line of F sessions, resized: with zeros behind them they are read as the line with empty sessions
-- behind its own, which is sound for F + d sessions exactly if the line is sound for F, but for open bits above F; for
-- fewer sessions they are cut.
pub record Resized (F : ℕ) (m : Meaning) (bs : List ℕ) : Type 0 where
  pub longer : (d : ℕ) → resized (F + d) bs ≡ bs ++ replicate (16 * d) 0
  pub reads : (d : ℕ) → read_line (F + d) (resized (F + d) bs) ≡ padded d (read_line F bs)
  pub is_sound : (d : ℕ) → sound F m (read_line F bs) ≡ (ltb (read_line F bs).opened (2 ^ F) && sound (F + d) m (padded d (read_line F bs)))
  pub shorter : (W : ℕ) → W ≤ F → resized W bs ≡ take (line_size W) bs

-- a run of the independence rule that has the target for its first ledger, with these calls
pub record StartsOn (W : ℕ) (image target : List ℕ) (calls : List Call) : Type 0 where
  pub start : Run W
  pub under : start.image ≡ image
  pub on : start.ledger ≡ target
  pub by : start.calls ≡ calls

-- A move that is done. Its target has a sound line of W sessions for each user, and runs may start on it. Open
-- sessions, the user's history and each session's bytes stand as they did, new sessions are zero, and a session is
-- shown and explained as before. The move back is done, and gives the old ledger back.
pub record Moved (F W : ℕ) (image old target : List ℕ) : Type 0 where
  pub sound_ledger : SoundLedger W (policy_of image) target
  pub heads : (u : ℕ) → u < (policy_of image).head.users → take 16 (line_at (line_size W) u target) ≡ take 16 (line_at (line_size F) u old)
  pub sessions : (u j : ℕ) → u < (policy_of image).head.users → j < F → j < W
      → session_bytes j (line_at (line_size W) u target) ≡ session_bytes j (line_at (line_size F) u old)
  pub new_sessions : (u j : ℕ) → u < (policy_of image).head.users → F ≤ j → j < W
      → session_bytes j (line_at (line_size W) u target) ≡ replicate 16 0
  pub shows : (u j room : ℕ) → j < F → j < W → (step W image target (show_by u j room)).reply ≡ (step F image old (show_by u j room)).reply
  pub explains : (u j n : ℕ) → j < F → j < W
      → (step W image target (explain_by u j n)).reply ≡ (step F image old (explain_by u j n)).reply
  pub starts : (calls : List Call) → StartsOn W image target calls
  pub back : (room : List ℕ) → length room ≡ length old → move W F image target room ≡ record { reply = done 0; ledger = old }

-- every move keeps the target's length; a refused one keeps the target; one that is done is as above; none to more
-- sessions gives 24
pub record MoveIs (F W : ℕ) (image old new : List ℕ) (e : Event) : Type 0 where
  pub keeps_length : length e.ledger ≡ length new
  pub refused : ¬ (e.reply.number ≡ 0) → e.ledger ≡ new
  pub moved : e.reply.number ≡ 0 → Moved F W image old e.ledger
  pub never_24 : F ≤ W → ¬ (e.reply.number ≡ 24)
