-- The theorems on calls side by side, each one claim. The arguments stand in the files that are cited; docs/PROOFS.md
-- says which demand each one meets.
-- Assumes nothing.
use Prim.Native.Nat.{ℕ}
use Rattle.model_interleaved.specs.Beside.{Alone, AnyOrder}
use Rattle.model_interleaved.specs.OrderMatters.{OrderMatters}
use Rattle.model_interleaved.proofs.AloneProof
use Rattle.model_interleaved.proofs.InterleavedProof
use Rattle.model_interleaved.proofs.OrderProof

-- a call on the ledger with every other line zeroed is for its user as the call on the ledger, where it is told nothing
-- of other users
pub alone : (W : ℕ) → Alone W
alone = AloneProof.alone

-- calls of different users may be made in any order under a policy without limits: everybody is told the same, and the
-- ledger ends the same
pub interleaved : (W : ℕ) → AnyOrder W
interleaved = InterleavedProof.any_order

-- under limits both premises are needed: two runs of the same calls in which the order of two users' asks matters, and
-- an ask that other lines decide
pub order_matters : OrderMatters
order_matters = OrderProof.order_matters
