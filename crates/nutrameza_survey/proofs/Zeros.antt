-- The counts at the start: 256 zeros.
-- Assumes nothing.
use mathlib.Core.Path.{◌≡◌, ap}
use mathlib.Core.List.{List}
use Prim.Native.Nat.{ℕ}
use native.Mathlib.Omega.{arith}
use lib.ListN.{get_or, replicate}
use Rattle.survey_counts.specs.Counting.{Most}
use Rattle.survey_counts.proofs.CountLaws.{most_none}

pub zeros_most : (counts : List ℕ) → counts ≡ replicate 256 0 → Most counts 0
zeros_most counts e k = omega (arith, ap (λ x. get_or x k 0) e, most_none k)
