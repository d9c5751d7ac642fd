-- Limits are kept (001: CARD): the roles that an ask puts in are within their limits, and no call takes any role over
-- its limit.
-- Assumes nothing.
use Rattle.std.specs.Prelude.{◌≡◌, true, List, ℕ, ◌*◌, ◌<◌, get_or, replicate}
use Rattle.model.specs.Sets.{has, sum_to}
use Rattle.model.specs.Policy.{Policy, policy_of, limited}
use Rattle.model.specs.Line.{line_size, session_at}
use Rattle.model.specs.Session.{puts_in, session_of}
use Rattle.model.specs.Run.{Call, line_of, holding_of, step, run}
use Rattle.model.specs.Ranges.{Each}

-- in how many sessions of all users role r is active
unfoldable pub holding_all : ℕ → Policy → List ℕ → ℕ → ℕ
holding_all W p ledger r = sum_to (holding_of W ledger r) p.head.users

-- role r, where it has a limit t, is active in fewer than t sessions of all users
abbrev pub WithinLimit : ℕ → Policy → List ℕ → ℕ → Type 0
WithinLimit W p ledger r = limited p.limits r ≡ true → holding_all W p ledger r < get_or p.limits r 0

-- no role is over its limit
abbrev pub WithinLimits : ℕ → Policy → List ℕ → Type 0
WithinLimits W p ledger = (r : ℕ) → WithinLimit W p ledger r

-- the roles active in the session that the call names, of its user, in a ledger
unfoldable pub active_at : ℕ → List ℕ → Call → ℕ
active_at W ledger c = (session_at (line_of W ledger c.user) (session_of c.operation)).active

pub record LimitsKept (W : ℕ) (image : List ℕ) : Type 0 where
  -- after an ask that is done, each role that it put in is within its limit, whatever the ledger was before
  pub card : (ledger : List ℕ) (c : Call) → puts_in c.operation ≡ true → (step W image ledger c).reply.number ≡ 0
      → (r : ℕ) → has (active_at W (step W image ledger c).ledger c) r ≡ true → WithinLimit W (policy_of image) (step W image ledger c).ledger r
  -- where no role is over its limit before a call, none is after it
  pub call : (ledger : List ℕ) → WithinLimits W (policy_of image) ledger → (c : Call)
      → WithinLimits W (policy_of image) (step W image ledger c).ledger
  -- and so along every run, and along every run from the zero ledger
  pub along : (ledger : List ℕ) → WithinLimits W (policy_of image) ledger → (calls : List Call)
      → Each (λ e. WithinLimits W (policy_of image) e.ledger) (run W image ledger calls)
  pub from_zero : (calls : List Call)
      → Each (λ e. WithinLimits W (policy_of image) e.ledger) (run W image (replicate (line_size W * (policy_of image).head.users) 0) calls)
