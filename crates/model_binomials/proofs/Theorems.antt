-- The theorems on "m choose k", each one claim. The arguments stand in the files that are cited.
-- Assumes nothing.
use mathlib.Core.Path.{◌≡◌}
use Prim.Native.Nat.{ℕ, ◌+◌, ◌*◌, ◌/◌, ◌^◌, ◌≤◌, ◌<◌}
use lib.ListN.{get_or}
use Rattle.model.specs.declared.Exclusion.{Exclusion}
use Rattle.model_binomials.specs.Binomial.{binomial, sum_below}
use Rattle.model_binomials.specs.Allowed.{SubsetsCounted, AllowedAlone}
use Rattle.model_binomials.proofs.Entries.{entries}
use Rattle.model_binomials.proofs.Rule
use Rattle.model_binomials.proofs.Sums
use Rattle.model_binomials.proofs.SubsetCount

-- an entry of the table is "m choose k"
pub entry-is : (m k : ℕ) → k ≤ m → m ≤ 64 → get_or entries (m * (m + 1) / 2 + k) 0 ≡ binomial m k
entry-is = Rule.entry-is

-- the sum of these below n fits 64 bits
pub sum_fits : (m n : ℕ) → n ≤ m → m ≤ 64 → sum_below (binomial m) n < 2 ^ 64
sum_fits = Sums.sum_fits

-- and is the number of subsets with fewer than n members
pub subsets-counted : (d s n : ℕ) → SubsetsCounted d s n
subsets-counted = SubsetCount.subsets-counted

-- so of the sets within its members that an exclusion allows alone
pub allowed_alone : (x : Exclusion) → AllowedAlone x
allowed_alone = SubsetCount.allowed_alone
