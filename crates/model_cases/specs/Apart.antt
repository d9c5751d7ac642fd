-- Two runs of one user that differ in all that others may change: the order and repeats of entries, the other users'
-- assignments, lines and calls. That they are the same for the user keeps the independence rule from being claimed of
-- equal runs alone.
-- Assumes nothing.
use Rattle.std.specs.Prelude.{◌≡◌, List, [], ◌∷◌, ◌++◌, map, ℕ, replicate}
use Rattle.model.specs.Policy.{policy_of, only_for}
use Rattle.model.specs.Line.{SESSIONS}
use Rattle.model.specs.Run.{Call, open_by, close_by, ask_by, clauses_by}
use Rattle.model.specs.Independence.{Run, events_of, view_of, SameFor, SameWords}
use Rattle.model.specs.Bytes.{bytes_of}
use Rattle.model.specs.Words.{head_word, assign_word, grant_word, senior_word, exclusion_word, member_word, image_bytes, ended}
use Rattle.model_cases.specs.Ward.{opens, asks, shows, damaged, active_role}

-- image A for three users, the second with the Doctor's role alone, the third with the other
unfoldable pub one_image : List ℕ
one_image =
    image_bytes
    (ended
    (head_word 3 2 5 ∷ assign_word 0 0 ∷ assign_word 0 1 ∷ assign_word 1 0 ∷ assign_word 2 1 ∷ grant_word 0 0 ∷ grant_word 0 1
    ∷ grant_word 0 2 ∷ grant_word 0 3 ∷ grant_word 1 1 ∷ grant_word 1 4 ∷ senior_word 0 1 ∷ exclusion_word 1 2 2
    ∷ member_word 0 ∷ member_word 1 ∷ []))

-- the same in another order, with an assignment, a grant, a senior word and the exclusion said twice, the members the
-- other way round, and the other users' roles exchanged
unfoldable pub other_image : List ℕ
other_image =
    image_bytes
    (ended
    (head_word 3 2 5 ∷ exclusion_word 1 2 2 ∷ member_word 1 ∷ member_word 0 ∷ senior_word 0 1 ∷ assign_word 1 1
    ∷ grant_word 1 4 ∷ grant_word 1 1 ∷ grant_word 0 3 ∷ grant_word 0 2 ∷ grant_word 0 1 ∷ assign_word 2 0
    ∷ grant_word 0 0 ∷ grant_word 0 0 ∷ assign_word 0 1 ∷ assign_word 0 0 ∷ assign_word 0 1 ∷ exclusion_word 1 2 2
    ∷ member_word 0 ∷ member_word 1 ∷ senior_word 0 1 ∷ []))

-- the other users' lines are zero; or the second's is damaged, and the third has the Doctor's role active in session 0
unfoldable pub one_ledger : List ℕ
one_ledger = replicate 144 0 ++ (replicate 144 0 ++ replicate 144 0)

unfoldable pub other_ledger : List ℕ
other_ledger = replicate 144 0 ++ (damaged ++ active_role 1)

-- an ask of the third user
unfoldable pub third_asks : ℕ → Call
third_asks k = ask_by 2 k (bytes_of 32 0x3) (bytes_of 32 0x1f) 1 0 40

unfoldable pub clause_text : Call
clause_text = clauses_by 0 0 (bytes_of 32 0x3) (bytes_of 32 0x1f) 1 0 1000

-- the first user's calls alone, and with others before, between and behind them: by a user with a damaged line, by one
-- with a sound line, by one without a line
unfoldable pub one_list : List Call
one_list = opens ∷ asks 0 0x3 0x1f 1 0 ∷ clause_text ∷ shows 0 ∷ []

unfoldable pub other_list : List Call
other_list =
    open_by 1 ∷ open_by 2 ∷ opens ∷ close_by 1 0 ∷ third_asks 1 ∷ asks 0 0x3 0x1f 1 0 ∷ close_by 2 0 ∷ open_by 3 ∷ clause_text ∷ third_asks 0 ∷ shows 0
    ∷ open_by 1 ∷ []

-- These are two runs, and they are the same for the first user; the session rules are fed no other user's assignments,
-- so the same ones. The third user's calls are done, all but the one in a session just closed. The texts differ, since
-- the order of the exclusions does.
pub record Apart : Type 0 where
  pub one : Run SESSIONS
  pub other : Run SESSIONS
  pub images : (one.image ≡ one_image) × (other.image ≡ other_image)
  pub ledgers : (one.ledger ≡ one_ledger) × (other.ledger ≡ other_ledger)
  pub calls : (one.calls ≡ one_list) × (other.calls ≡ other_list)
  pub same : SameFor SESSIONS 0 one other
  pub fed : (only_for 0 (policy_of one_image)).assigned ≡ (only_for 0 (policy_of other_image)).assigned
  pub numbers : map (λ e. e.reply.number) (events_of SESSIONS other) ≡ 11 ∷ 0 ∷ 0 ∷ 11 ∷ 0 ∷ 0 ∷ 0 ∷ 10 ∷ 0 ∷ 13 ∷ 0 ∷ 11 ∷ []
  pub differ : ¬ (view_of SESSIONS 0 one ≡ view_of SESSIONS 0 other)

-- ---- the same words, for a clause text among the user's calls

-- image A for three users again, with the other users' assignments at other places and to other roles, and so another
-- end word: the other words are the same in the same order
unfoldable pub moved_image : List ℕ
moved_image =
    image_bytes
    (ended
    (head_word 3 2 5 ∷ assign_word 1 1 ∷ assign_word 0 0 ∷ assign_word 0 1 ∷ grant_word 0 0 ∷ grant_word 0 1 ∷ assign_word 1 1
    ∷ grant_word 0 2 ∷ grant_word 0 3 ∷ assign_word 2 0 ∷ grant_word 1 1 ∷ grant_word 1 4 ∷ senior_word 0 1
    ∷ exclusion_word 1 2 2 ∷ member_word 0 ∷ member_word 1 ∷ []))

pub record ApartText : Type 0 where
  pub one : Run SESSIONS
  pub other : Run SESSIONS
  pub images : (one.image ≡ one_image) × (other.image ≡ moved_image)
  pub ledgers : (one.ledger ≡ one_ledger) × (other.ledger ≡ other_ledger)
  pub calls : (one.calls ≡ opens ∷ clause_text ∷ []) × (other.calls ≡ open_by 1 ∷ opens ∷ open_by 2 ∷ close_by 1 0 ∷ third_asks 1 ∷ clause_text ∷ [])
  pub same : SameFor SESSIONS 0 one other
  pub words : SameWords SESSIONS 0 one other
