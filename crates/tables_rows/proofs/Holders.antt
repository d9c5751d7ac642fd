-- The roles that hold a grant, as a set: the granting role is the same by the set and by the granted rows.
-- Assumes nothing.
use mathlib.Core.Path.{◌≡◌, ap}
use mathlib.Core.Bool.{Bool, ◌&&◌}
use mathlib.Core.List.{List}
use Prim.Native.Nat.{ℕ, ◌<◌}
use lib.ListN.{get_or}
use Rattle.model.specs.Sets.{has, set_of}
use Rattle.model.specs.Policy.{granter_by}
use Rattle.model_laws.proofs.Bools.{bool_ext}
use Rattle.model_laws.proofs.LowestLaws.{set_of-has, has-set_of, lowest_same}
use Rattle.tables_rows.specs.Holding.{holders_of}

-- its members
holders-has : (granted : List ℕ) (m k : ℕ) → k < 64 → has (holders_of granted m) k ≡ has (get_or granted k 0) m
unfolding holders_of
holders-has granted m k l =
    bool_ext (has (set_of (λ g. has (get_or granted g 0) m) 64) k) (has (get_or granted k 0) m)
    (λ e. (set_of-has (λ g. has (get_or granted g 0) m) 64 k e).0)
    (λ e. has-set_of (λ g. has (get_or granted g 0) m) 64 k l e)

pub granter_same : (reached granted : List ℕ) (m r : ℕ)
    → granter_by reached (has (holders_of granted m)) r ≡ granter_by reached (λ g. has (get_or granted g 0) m) r
unfolding granter_by
granter_same reached granted m r =
    lowest_same (has (holders_of granted m)) (λ g. has (get_or granted g 0) m) (get_or reached r 0) (get_or reached r 0)
    (λ k l. ap (λ (b : Bool). has (get_or reached r 0) k && b) (holders-has granted m k l))
