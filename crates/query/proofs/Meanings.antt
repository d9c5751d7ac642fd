-- What roles carry under a policy, by their rows.
-- Assumes nothing.
use mathlib.Core.Path.{◌≡◌, sym}
use Prim.Native.Nat.{ℕ}
use lib.ListN.{get_or}
use Rattle.model.specs.Sets.{union_to, union_at}
use Rattle.model.specs.Policy.{Meaning}
use Rattle.model.specs.Choice.{carried_by}
use Rattle.sets.proofs.Unions.{union_to_same}
use Rattle.query.specs.Carry.{Carry}

-- what roles carry, by their rows
pub carried-meaning : (m : Meaning) (s : ℕ) (row : ℕ → ℕ) → Carry m s row → union_to row s 64 ≡ carried_by m s
unfolding carried_by union_at
carried-meaning m s row h = union_to_same row (λ r. get_or m.carried r 0) s 64 (λ r _ n. sym (h r n))
