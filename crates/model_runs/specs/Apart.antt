-- Two histories of one user that differ in all that others may change, the policy changing while the user has a session
-- open: the order of entries, the other users' assignments, lines and calls, and whom the change stops.
-- Assumes nothing.
use Rattle.std.specs.Prelude.{◌≡◌, List, [], ◌∷◌, ◌++◌, map, ℕ, replicate}
use Rattle.model.specs.Bytes.{bytes_of}
use Rattle.model.specs.Words.{head_word, assign_word, grant_word, ended, image_bytes}
use Rattle.model.specs.Line.{SESSIONS}
use Rattle.model.specs.Session.{given, done}
use Rattle.model.specs.Run.{Call, open_by, close_by, ask_by}
use Rattle.model.specs.Independence.{events_of, view_of}
use Rattle.model_runs.specs.Histories.{History, runs_of, SameThroughout}

-- two users and two roles that carry the one permission; the first user may activate both, the second the first
unfoldable pub one_before : List ℕ
one_before = image_bytes (ended (head_word 2 2 1 ∷ assign_word 0 0 ∷ assign_word 0 1 ∷ assign_word 1 0 ∷ grant_word 0 0 ∷ grant_word 1 0 ∷ []))

-- then role 0 is taken from the first user, and a third is added
unfoldable pub one_after : List ℕ
one_after =
    image_bytes (ended (head_word 3 2 1 ∷ assign_word 0 1 ∷ assign_word 1 0 ∷ assign_word 2 0 ∷ grant_word 0 0 ∷ grant_word 1 0 ∷ []))

-- the same in another order, and the second user has both roles at first and then none
unfoldable pub other_before : List ℕ
other_before =
    image_bytes
    (ended (head_word 2 2 1 ∷ grant_word 1 0 ∷ assign_word 1 1 ∷ assign_word 0 1 ∷ grant_word 0 0 ∷ assign_word 1 0 ∷ assign_word 0 0 ∷ []))

unfoldable pub other_after : List ℕ
other_after = image_bytes (ended (head_word 3 2 1 ∷ grant_word 1 0 ∷ grant_word 0 0 ∷ assign_word 2 1 ∷ assign_word 0 1 ∷ []))

-- an ask of a user in session 0, for the permission, with fewest permissions and most roles
unfoldable pub asks : ℕ → Call
asks u = ask_by u 0 (bytes_of 32 1) (bytes_of 32 1) 1 2 40

-- the second user's line: zero, or with role 1 in the past
unfoldable pub one_ledger : List ℕ
one_ledger = replicate 288 0

unfoldable pub other_ledger : List ℕ
other_ledger = replicate 144 0 ++ (bytes_of 8 0 ++ (bytes_of 8 2 ++ replicate 128 0))

-- The first user opens two sessions, asks in one, which puts in both roles, and closes it; after the change that user
-- opens one again and asks in it. The other users' calls lie between these.
unfoldable pub one_calls : List Call
one_calls = open_by 0 ∷ open_by 0 ∷ asks 0 ∷ close_by 0 0 ∷ []

unfoldable pub one_later : List Call
one_later = open_by 0 ∷ asks 0 ∷ open_by 2 ∷ []

unfoldable pub other_calls : List Call
other_calls = open_by 1 ∷ open_by 0 ∷ asks 1 ∷ open_by 0 ∷ asks 0 ∷ close_by 0 0 ∷ open_by 2 ∷ []

unfoldable pub other_later : List Call
other_later = open_by 1 ∷ open_by 0 ∷ open_by 2 ∷ asks 2 ∷ asks 0 ∷ []

-- These are two histories, pairwise the same for the first user, who is told of both roles, and after the change of
-- role 1 alone. The other users' calls are done, but for the third user's before that one is added, and the second's
-- after the change, which stops that user in the other history.
pub record ApartThroughout : Type 0 where
  pub one : History SESSIONS
  pub other : History SESSIONS
  pub images : (map (λ r. r.image) (runs_of SESSIONS one) ≡ one_before ∷ one_after ∷ [])
      × (map (λ r. r.image) (runs_of SESSIONS other) ≡ other_before ∷ other_after ∷ [])
  pub ledgers : (one.start.ledger ≡ one_ledger) × (other.start.ledger ≡ other_ledger)
  pub calls : (map (λ r. r.calls) (runs_of SESSIONS one) ≡ one_calls ∷ one_later ∷ [])
      × (map (λ r. r.calls) (runs_of SESSIONS other) ≡ other_calls ∷ other_later ∷ [])
  pub same : SameThroughout SESSIONS 0 one other
  pub answers : map (λ r. map (λ e. e.reply) (view_of SESSIONS 0 r)) (runs_of SESSIONS one)
      ≡ (done 0 ∷ done 1 ∷ given 3 1 ∷ done 0 ∷ []) ∷ (done 0 ∷ given 2 1 ∷ []) ∷ []
  pub numbers : map (λ r. map (λ e. e.reply.number) (events_of SESSIONS r)) (runs_of SESSIONS other)
      ≡ (0 ∷ 0 ∷ 0 ∷ 0 ∷ 0 ∷ 0 ∷ 10 ∷ []) ∷ (11 ∷ 0 ∷ 0 ∷ 0 ∷ 0 ∷ []) ∷ []
