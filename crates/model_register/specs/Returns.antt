-- What a check and a call return to a host, as one number: its low byte is the register's number, the rest its extra.
-- Assumes nothing.
use Rattle.std.specs.Prelude.{◌≡◌, List, ℕ, ◌/◌, ◌%◌}
use Rattle.model.specs.declared.Head.{Head}
use Rattle.model.specs.Image.{check_number}
use Rattle.model.specs.Judgement.{judge}
use Rattle.model.specs.Policy.{policy_of}
use Rattle.model.specs.Chains.{LowestOnLoop}
use Rattle.model.specs.Ordered.{Loopless, FewRoles, LowestOverReach}
use Rattle.model.specs.Run.{Call, step, returned}
use Rattle.model_register.specs.Faults.{Refuses, Accepts}

-- r is the number n with the extra x
abbrev pub Returns : ℕ → ℕ → ℕ → Type 0
Returns r n x = (r % 256 ≡ n) × (r / 256 ≡ x)

-- a check returns 1 to 8 with the place, then 22 with the lowest role on a loop, then 23 with the lowest user who may
-- activate too many roles, and else 0
pub record CheckIs (s : List ℕ) : Type 0 where
  pub by_words : (n k : ℕ) → Refuses s n k → Returns (check_number (judge s)) n k
  pub by_loop : (h : Head) → Accepts s h → (r : ℕ) → LowestOnLoop (policy_of s) r → Returns (check_number (judge s)) 22 r
  pub by_reach : (h : Head) → Accepts s h → Loopless (policy_of s) → (v : ℕ) → LowestOverReach (policy_of s) v → Returns (check_number (judge s)) 23 v
  pub accepted : (h : Head) → Accepts s h → Loopless (policy_of s) → ((v : ℕ) → FewRoles (policy_of s) v) → check_number (judge s) ≡ 0

-- a call returns its answer's number with its extra
abbrev pub CallReturns : ℕ → Type 0
CallReturns W = (image ledger : List ℕ) (c : Call)
    → Returns (returned (step W image ledger c).reply) (step W image ledger c).reply.number (step W image ledger c).reply.extra
