-- 001's CARD by the sessions themselves: which sessions of all users hold a role once a set is put in, and that there
-- are fewer than t.
-- Assumes nothing.
use Rattle.std.specs.Prelude.{◌≡◌, ◌↔◌, true, List, ℕ, ◌+◌, ◌*◌, ◌<◌, get_or}
use Rattle.model.specs.Sets.{has}
use Rattle.model.specs.Policy.{Policy, limited, meaning}
use Rattle.model.specs.Line.{session_at}
use Rattle.model.specs.Conditions.{Card}
use Rattle.model.specs.Run.{line_of, others_of}
use Rattle.model_register.specs.Faults.{Many}

-- session j of user v holds role r, once the set s is put in for session k of user u in place of what was active there
pub data HoldsAfter (W : ℕ) (ledger : List ℕ) (u k s r v j : ℕ) : Type 0 where
  put_in_lem : v ≡ u → j ≡ k → has s r ≡ true → HoldsAfter W ledger u k s r v j
  as_before : ¬ ((v ≡ u) × (j ≡ k)) → has (session_at (line_of W ledger v) j).active r ≡ true → HoldsAfter W ledger u k s r v j

-- c is the number of such a session, where those of user v are numbered from W times v on
pub record Holder (W users : ℕ) (ledger : List ℕ) (u k s r c : ℕ) : Type 0 where
  pub user : ℕ
  pub session : ℕ
  pub has_line : user < users
  pub below : session < W
  pub number : c ≡ W * user + session
  pub holds : HoldsAfter W ledger u k s r user session

-- CARD, in an ask: no t different sessions of all users hold a role of the set that has the limit t
abbrev pub CardIs : ℕ → Policy → List ℕ → ℕ → ℕ → ℕ → Type 0
CardIs W p ledger u k s =
    Card (meaning p u) (others_of W p u ledger) (line_of W ledger u) k s
    ↔ ((r : ℕ) → has s r ≡ true → limited p.limits r ≡ true → ¬ Many (get_or p.limits r 0) (Holder W p.head.users ledger u k s r))
