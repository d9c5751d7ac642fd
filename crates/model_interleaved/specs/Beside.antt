-- What calls on one ledger may do side by side, for whoever keeps the ledger in a database: which lines a call reads,
-- and in which order calls may be made. Which lines it writes is said by `Frame` of crates/model/specs/Frames.antt: its
-- user's alone. docs/MACHINES.md says what is to be locked.
-- Assumes nothing.
use Rattle.std.specs.Prelude.{◌≡◌, ◌⊎◌, false, List, ◌++◌, ℕ, ◌+◌, ◌*◌, length, take, drop, replicate}
use Rattle.model.specs.Policy.{policy_of, has_limits}
use Rattle.model.specs.Line.{line_size}
use Rattle.model.specs.Session.{is_ask}
use Rattle.model.specs.Run.{Call, Event, line_at, step}
use Rattle.model.specs.Independence.{Run, calls_of, view_of}
use Rattle.model_runs.specs.Ends.{left_by}

-- ---- alone

-- as many zeros
unfoldable pub zeroed : List ℕ → List ℕ
zeroed bs = replicate (length bs) 0

-- the ledger with every line zeroed but that of user u, where a line has z bytes
unfoldable pub alone_with : ℕ → ℕ → List ℕ → List ℕ
alone_with z u ledger = zeroed (take (z * u) ledger) ++ (line_at z u ledger ++ zeroed (drop (z * u + z) ledger))

-- user u is told the same, number, extra and filled bytes, and has the same line after it
pub record Alike (z u : ℕ) (e f : Event) : Type 0 where
  pub reply : e.reply ≡ f.reply
  pub line : line_at z u e.ledger ≡ line_at z u f.ledger

-- A call on the ledger with every other line zeroed is for its user as the call on the ledger: every call under a
-- policy without limits, and under any other each that is no ask, so an open, a close, a show and an explain. The image
-- need not be accepted, and the ledger may have any length.
abbrev pub Alone : ℕ → Type 0
Alone W = (image ledger : List ℕ) (c : Call) → (has_limits (policy_of image) ≡ false) ⊎ (is_ask c.operation ≡ false)
    → Alike (line_size W) c.user (step W image (alone_with (line_size W) c.user ledger) c) (step W image ledger c)

-- ---- interleaved

-- two runs under one image, from one ledger, in which each user makes the same calls in the same order, however the
-- calls of different users lie between each other
pub record SameCalls (W : ℕ) (r s : Run W) : Type 0 where
  pub image : r.image ≡ s.image
  pub ledger : r.ledger ≡ s.ledger
  pub calls : (u : ℕ) → calls_of u r.calls ≡ calls_of u s.calls

-- every user, one without a line too, sees the same in both, and both leave the same ledger
pub record Interleaved (W : ℕ) (r s : Run W) : Type 0 where
  pub seen : (u : ℕ) → view_of W u r ≡ view_of W u s
  pub left : left_by W r ≡ left_by W s

-- that is so of two such runs, under a policy without limits
abbrev pub AnyOrder : ℕ → Type 0
AnyOrder W = (r s : Run W) → SameCalls W r s → has_limits (policy_of r.image) ≡ false → Interleaved W r s
