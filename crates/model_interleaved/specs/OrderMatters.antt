-- Under limits the order of two users' asks matters, and an ask reads other lines: two runs of the same calls, and an
-- ask alone.
-- Assumes nothing.
use Rattle.std.specs.Prelude.{◌≡◌, List, [], ◌∷◌, map, ℕ, replicate}
use Rattle.model.specs.Bytes.{bytes_of}
use Rattle.model.specs.Words.{head_word, assign_word, grant_word, limit_word, ended, image_bytes}
use Rattle.model.specs.Line.{SESSIONS, line_size}
use Rattle.model.specs.Run.{Call, open_by, ask_by, step}
use Rattle.model.specs.Independence.{Run, events_of, view_of}
use Rattle.model_runs.specs.Ends.{left_by}
use Rattle.model_interleaved.specs.Beside.{alone_with, SameCalls}

-- two users who may activate the one role; one session of all may hold it
unfoldable pub on_call : List ℕ
on_call = image_bytes (ended (head_word 2 1 1 ∷ assign_word 0 0 ∷ assign_word 1 0 ∷ grant_word 0 0 ∷ limit_word 0 2 ∷ []))

unfoldable pub asks : ℕ → Call
asks u = ask_by u 0 (bytes_of 32 1) (bytes_of 32 1) 0 0 40

-- both open a session, and ask in it: the one first, and the other first
unfoldable pub one_first : List Call
one_first = open_by 0 ∷ open_by 1 ∷ asks 0 ∷ asks 1 ∷ []

unfoldable pub other_first : List Call
other_first = open_by 0 ∷ open_by 1 ∷ asks 1 ∷ asks 0 ∷ []

-- The last ask of each run is refused by 20, so each user is told otherwise in the two, and they end with other
-- ledgers; on the ledger that the first run leaves, the second user's ask is refused, and with the first user's line
-- zeroed it is done.
pub record OrderMatters : Type 0 where
  pub one : Run SESSIONS
  pub other : Run SESSIONS
  pub images : one.image ≡ on_call
  pub ledgers : one.ledger ≡ replicate 288 0
  pub lists : (one.calls ≡ one_first) × (other.calls ≡ other_first)
  pub same : SameCalls SESSIONS one other
  pub numbers : map (λ e. e.reply.number) (events_of SESSIONS one) ≡ 0 ∷ 0 ∷ 0 ∷ 20 ∷ []
  pub other_numbers : map (λ e. e.reply.number) (events_of SESSIONS other) ≡ 0 ∷ 0 ∷ 0 ∷ 20 ∷ []
  pub seen : (¬ (view_of SESSIONS 0 one ≡ view_of SESSIONS 0 other)) × (¬ (view_of SESSIONS 1 one ≡ view_of SESSIONS 1 other))
  pub left : ¬ (left_by SESSIONS one ≡ left_by SESSIONS other)
  pub beside : (step SESSIONS on_call (left_by SESSIONS one) (asks 1)).reply.number ≡ 20
  pub alone : (step SESSIONS on_call (alone_with (line_size SESSIONS) 1 (left_by SESSIONS one)) (asks 1)).reply.number ≡ 0
