-- The lowest line that is not sound, as an ask under a policy with limits is refused for it.
-- Assumes nothing.
use Rattle.std.specs.Prelude.{true, false, ◌&&◌, List, ℕ, zero, suc, ◌+◌, ◌*◌, eqb, ltb, length}
use Rattle.model.specs.Tests.{pick}
use Rattle.model.specs.Policy.{Policy, has_limits, meaning}
use Rattle.model.specs.Line.{line_size, sound}
use Rattle.model.specs.Run.{line_of}

-- 11 for the line of user v, with v plus 1 as the extra where it is not the asker u
unfoldable pub blamed : ℕ → ℕ → ℕ
blamed u v = pick (eqb v u) 11 (11 + 256 * (v + 1))

-- that of the lowest of the d users from v on whose line is not sound, else 0
unfoldable pub lines_refusal : ℕ → Policy → List ℕ → ℕ → ℕ → ℕ → ℕ
lines_refusal W p ledger u v zero = 0
lines_refusal W p ledger u v (suc d) =
    elim (sound W (meaning p v) (line_of W ledger v)) [ true ↦ lines_refusal W p ledger u (suc v) d | false ↦ blamed u v ]

-- what another line, or the user's own, refuses an ask with where the policy has limits, the ledger fits and the user
-- has a line
unfoldable pub others_refusal : ℕ → Policy → List ℕ → ℕ → ℕ
others_refusal W p ledger u =
    elim (has_limits p && (eqb (length ledger) (line_size W * p.head.users) && ltb u p.head.users)) [
      | true ↦ lines_refusal W p ledger u 0 p.head.users
      | false ↦ 0
    ]
