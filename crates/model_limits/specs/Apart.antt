-- Two runs of one user under a policy with limits that differ in all that others may change, though each of the user's
-- asks is told the same of them: in how many of their sessions a limited role is active, and not in whose, nor in which
-- session.
-- Assumes nothing.
use Rattle.std.specs.Prelude.{◌≡◌, true, List, [], ◌∷◌, ◌++◌, map, ℕ, replicate}
use Rattle.model.specs.Bytes.{bytes_of}
use Rattle.model.specs.Words.{head_word, assign_word, grant_word, limit_word, ended, image_bytes}
use Rattle.model.specs.Policy.{policy_of, has_limits}
use Rattle.model.specs.Line.{SESSIONS}
use Rattle.model.specs.Session.{done, given}
use Rattle.model.specs.Run.{Call, open_by, close_by, ask_by, show_by, explain_by}
use Rattle.model.specs.Independence.{Run, events_of, view_of, told_of, SameFor}

-- three users, two roles that carry the one permission, fewer than 2 sessions for role 0; the first user may activate
-- both roles, the second role 0, the third none
unfoldable pub one_image : List ℕ
one_image =
    image_bytes
    (ended
    (head_word 3 2 1 ∷ assign_word 0 0 ∷ assign_word 0 1 ∷ assign_word 1 0 ∷ grant_word 0 0 ∷ grant_word 1 0 ∷ limit_word 0 2 ∷ []))

-- the same in another order, with a higher limit for the role besides; the second user has role 1, the third role 0
unfoldable pub other_image : List ℕ
other_image =
    image_bytes
    (ended
    (head_word 3 2 1 ∷ limit_word 0 3 ∷ assign_word 2 0 ∷ grant_word 1 0 ∷ limit_word 0 2 ∷ assign_word 0 1 ∷ assign_word 1 1 ∷ grant_word 0 0
    ∷ assign_word 0 0 ∷ []))

-- a line with the open sessions and the history given, and no role active
unfoldable pub idle : ℕ → ℕ → List ℕ
idle sessions history = bytes_of 8 sessions ++ (bytes_of 8 history ++ replicate 128 0)

-- the zero ledger; and one in which the second user had role 1 and the third role 0, who has session 0 open
unfoldable pub one_ledger : List ℕ
one_ledger = replicate 432 0

unfoldable pub other_ledger : List ℕ
other_ledger = replicate 144 0 ++ (idle 0 2 ++ idle 1 1)

-- an ask of a user in a session, for the permission
unfoldable pub asks : ℕ → ℕ → Call
asks u k = ask_by u k (bytes_of 32 1) (bytes_of 32 1) 0 0 40

-- The first user asks in a session while another user has role 0 active, is shown and explained what that gave, closes
-- the session, opens it again and asks once more, after that one closed. In the first run that is the second user in
-- session 0, who closes before the show; in the other the third in session 1, who closes after the second open, and the
-- second has role 1 meanwhile: what others hold differs at all of the user's calls that are no asks.
unfoldable pub one_list : List Call
one_list =
    open_by 1 ∷ asks 1 0 ∷ open_by 0 ∷ asks 0 0 ∷ close_by 1 0 ∷ show_by 0 0 40 ∷ explain_by 0 0 0 ∷ close_by 0 0 ∷ open_by 0 ∷ asks 0 0 ∷ []

unfoldable pub other_list : List Call
other_list =
    open_by 0 ∷ open_by 2 ∷ open_by 1 ∷ asks 2 1 ∷ asks 1 0 ∷ asks 0 0 ∷ show_by 0 0 40 ∷ explain_by 0 0 0 ∷ close_by 0 0 ∷ open_by 0 ∷ close_by 2 1
    ∷ asks 0 0 ∷ open_by 2 ∷ []

-- These are two runs, and they are the same for the first user, whose asks find one other session with role 0, and then
-- none: role 1 is put in, and then role 0, the lower one. Every call of both runs is done.
pub record ApartLimited : Type 0 where
  pub one : Run SESSIONS
  pub other : Run SESSIONS
  pub images : (one.image ≡ one_image) × (other.image ≡ other_image)
  pub ledgers : (one.ledger ≡ one_ledger) × (other.ledger ≡ other_ledger)
  pub calls : (one.calls ≡ one_list) × (other.calls ≡ other_list)
  pub limits : has_limits (policy_of one_image) ≡ true
  pub same : SameFor SESSIONS 0 one other
  pub held : map (λ x. x.held 0) (told_of SESSIONS 0 one) ≡ 0 ∷ 1 ∷ 0 ∷ 0 ∷ 0 ∷ 0 ∷ 0 ∷ []
  pub answers : map (λ r. r.reply) (view_of SESSIONS 0 one)
      ≡ done 0 ∷ given 2 1 ∷ given 2 1 ∷ done 65 ∷ done 0 ∷ done 0 ∷ given 1 1 ∷ []
  pub numbers : (map (λ e. e.reply.number) (events_of SESSIONS one) ≡ replicate 10 0)
      × (map (λ e. e.reply.number) (events_of SESSIONS other) ≡ replicate 13 0)
