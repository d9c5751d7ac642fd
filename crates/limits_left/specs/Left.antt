-- The roles that no limit bars.
-- Assumes nothing.
use Rattle.std.specs.Prelude.{◌≡◌, Bool, true, false, ◌&&◌, not, List, ℕ, ◌-◌, eqb, leb}
use Rattle.model.specs.Sets.{has}
use Rattle.model.specs.Policy.{Policy, limited, meaning}
use Rattle.model.specs.Line.{SESSIONS}
use Rattle.model.specs.Limits.{unbarred}
use Rattle.model.specs.Session.{is_ask}
use Rattle.model.specs.Run.{Call, line_of, told}

-- role r is one of the user's own, and no limit t bars it where it is active in n other sessions
unfoldable pub stays : ℕ → ℕ → ℕ → ℕ → Bool
stays own t n r = has own r && not (not (eqb t 0) && leb (t - 1) n)

-- no role of s has a limit
abbrev pub Unlimited : List ℕ → ℕ → Type 0
Unlimited limits s = (r : ℕ) → has s r ≡ true → limited limits r ≡ false

-- the roles are those left to user u for session k by the limits of the policy, at every ask and clause text
abbrev pub Left : Policy → List ℕ → ℕ → ℕ → ℕ → Type 0
Left p ledger u k roles = (c : Call) → c.user ≡ u → is_ask c.operation ≡ true
    → (unbarred (meaning p u) (told SESSIONS p ledger c) (line_of SESSIONS ledger u) k).authorized ≡ roles
