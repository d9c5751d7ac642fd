-- What is told of an exclusion that stands in the way.
-- Assumes nothing.
use mathlib.Core.Path.{◌≡◌, refl, sym, ap, ◌∙◌}
use mathlib.Core.Bool.{Bool, true, false, ◌&&◌, not}
use mathlib.Core.List.{List}
use mathlib.Core.Option.{some}
use Prim.Native.Nat.{ℕ, ◌+◌, ◌*◌, ◌<◌, ◌≤◌}
use lib.Bits.{bit_xor}
use lib.ListN.{get_or, length, take}
use lib.Seq.{get_or-take}
use native.Mathlib.Omega.{arith}
use Rattle.std.proofs.lemmas.List.{get_or_default}
use Rattle.model.specs.declared.Exclusion.{Exclusion}
use Rattle.model.specs.declared.Exclusions.{Exclusions}
use Rattle.model.specs.declared.Line.{Line}
use Rattle.model.specs.Sets.{has, inter}
use Rattle.model.specs.Policy.{kind_number}
use Rattle.model.specs.Reduced.{stays, mask_of}
use Rattle.model.specs.Obstacle.{blocks}
use Rattle.model_laws.proofs.SetLaws.{has-inter}
use Rattle.model_laws.proofs.AnyWidth.{same_sets}
use Rattle.sets.proofs.Taken.{apart, has_xor, has-lacking}
use Rattle.query_reduced.specs.declared.reduced.ReducedExclusion.{ReducedExclusion}
use Rattle.query_reduced.specs.Reduction.{reduced_for, Reduces}
use Rattle.query_reduced.proofs.Reductions.{nothing, reduced_at}
use Rattle.obstacles_lacks.specs.Founds.{blocking_of}
use Rattle.obstacles_blocks.specs.Blocking.{ReducedBy}

-- members that are not among those that are not counted yet are counted
counted_back : (members base : ℕ) → bit_xor members (mask_of members base) ≡ inter members base
unfolding mask_of
counted_back members base =
    same_sets (bit_xor members (mask_of members base)) (inter members base)
    (λ i. has_xor members (mask_of members base) i ∙ ap (apart (has members i)) (has-lacking members base i) ∙ go (has members i) (has base i)
    ∙ sym (has-inter members base i))
  where
    go : (x y : Bool) → apart x (x && not y) ≡ (x && y)
    go true true = refl
    go true false = refl
    go false y = refl

pub told_blocks : (x : Exclusion) (l : Line) (k mask : ℕ) → mask ≡ mask_of x.members (stays l k x.kind)
    → some (blocking_of (record { exclusion = x; counted = bit_xor x.members mask })) ≡ blocks l k (some x)
unfolding blocks
told_blocks x l k mask h =
    let f : bit_xor x.members mask ≡ inter x.members (stays l k x.kind) =
    ap (bit_xor x.members) h ∙ counted_back x.members (stays l k x.kind) in
    λ i. some (record { kind = 4; about = kind_number x.kind + 4 * x.n; first = f i; second = x.members })

-- an exclusion of a table, by the same one of the reduced, which are the first of all
pub reduced_one : (xs : Exclusions) (l : Line) (k : ℕ) (all : List ReducedExclusion) → Reduces xs l k (take xs.count all)
    → (j : ℕ) (y : Exclusion) (d : ReducedExclusion) → j < xs.count → xs.count ≤ length xs.list → xs.count ≤ length all
    → ReducedBy (get_or xs.list j y) (get_or all j d) l k
reduced_one xs l k all r j y d h few enough =
    let e : get_or all j d ≡ reduced_for l k (get_or xs.list j y) =
    get_or_default all j d nothing (omega arith) ∙ sym (get_or-take xs.count all j nothing h)
    ∙ reduced_at xs l k (take xs.count all) r y j h few in
    ap (λ (x : ReducedExclusion). x.members) e
