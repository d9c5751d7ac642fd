-- What an ask, an obstacle or a clause text under a policy with limits says of lines that are not sound: it is refused
-- by 11 exactly if there is one, and the extra names the lowest user with one, plus 1, unless that is the asker.
-- Assumes nothing.
use Rattle.std.specs.Prelude.{◌≡◌, true, false, List, ℕ, ◌+◌, ◌*◌, ◌<◌, eqb, length}
use Rattle.model.specs.Tests.{pick}
use Rattle.model.specs.Policy.{Policy, policy_of, has_limits, meaning}
use Rattle.model.specs.Line.{line_size, sound}
use Rattle.model.specs.Session.{Reply, is_ask}
use Rattle.model.specs.Run.{Call, line_of, step}

-- v is the lowest user whose line is not sound
pub record LowestUnsound (W : ℕ) (p : Policy) (ledger : List ℕ) (v : ℕ) : Type 0 where
  pub below : v < p.head.users
  pub unsound : sound W (meaning p v) (line_of W ledger v) ≡ false
  pub lowest : (w : ℕ) → w < v → sound W (meaning p w) (line_of W ledger w) ≡ true

-- the answer r to user u: 11 where any line is not sound, with the lowest user who has one named, and another number
-- where all are sound
pub record Eleven (W : ℕ) (p : Policy) (ledger : List ℕ) (u : ℕ) (r : Reply) : Type 0 where
  pub number : (v : ℕ) → v < p.head.users → sound W (meaning p v) (line_of W ledger v) ≡ false → r.number ≡ 11
  pub extra : (v : ℕ) → LowestUnsound W p ledger v → r.extra ≡ pick (eqb v u) 0 (v + 1)
  pub otherwise : ((v : ℕ) → v < p.head.users → sound W (meaning p v) (line_of W ledger v) ≡ true) → ¬ (r.number ≡ 11)

-- so is every ask, obstacle and clause text of a user with a line, on a ledger that fits
abbrev pub AsksEleven : ℕ → List ℕ → Type 0
AsksEleven W image =
    has_limits (policy_of image) ≡ true → (ledger : List ℕ) → length ledger ≡ line_size W * (policy_of image).head.users → (c : Call)
    → c.user < (policy_of image).head.users → is_ask c.operation ≡ true → Eleven W (policy_of image) ledger c.user (step W image ledger c).reply
