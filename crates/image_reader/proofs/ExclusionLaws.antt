-- One turn of the walk from one exclusion of an image to the next. The number of words behind the head is b.
-- Assumes nothing.
use mathlib.Core.Path.{◌≡◌, sym, ap, ◌∙◌}
use mathlib.Core.Bool.{Bool, true, false}
use mathlib.Core.List.{List}
use Prim.Native.Nat.{ℕ, suc, ◌+◌, ◌-◌, ◌<◌, ◌≤◌}
use native.Mathlib.Omega.{arith}
use Rattle.model.specs.Image.{behind_head}
use Rattle.std.proofs.Common.{Option}
use Rattle.model.specs.declared.Word.{Word}
use Rattle.image_reader.specs.Places.{found_at, is_exclusion, exclusion_among, exclusion_after}

-- the walk over the next place and the n places behind it, where t says whether an exclusion stands there
abbrev turn : List ℕ → ℕ → ℕ → Bool → ℕ
turn s n at t = elim t [ true ↦ at + 1 | false ↦ exclusion_among s n (at + 1) ]

opened : (s : List ℕ) (b at : ℕ) → at < b → exclusion_among s (b - at) at ≡ turn s (b - (at + 1)) at (is_exclusion (found_at s (at + 1)))
unfolding exclusion_among
opened s b at l = let k : b - at ≡ suc (b - (at + 1)) = omega (arith, l) in ap (λ (n : ℕ). exclusion_among s n at) k

-- the walk begins
pub walk_begins : (s : List ℕ) (b place : ℕ) → b ≡ behind_head s → exclusion_among s (b - place) place ≡ exclusion_after s place
unfolding exclusion_after
walk_begins s b place e = ap (λ (n : ℕ). exclusion_among s (n - place) place) e

-- an exclusion at the next place ends it there
pub walk_stops : (s : List ℕ) (b at : ℕ) (f : Option Word) (t : Bool) (r : ℕ) → at < b → f ≡ found_at s (at + 1) → t ≡ is_exclusion f → t ≡ true
    → exclusion_among s (b - at) at ≡ r → at + 1 ≡ r
walk_stops s b at f t r l e k h i = sym (opened s b at l ∙ ap (turn s (b - (at + 1)) at) (ap is_exclusion (sym e) ∙ (sym k ∙ h))) ∙ i

-- anything else there leaves it to the rest
pub walk_goes : (s : List ℕ) (b at : ℕ) (f : Option Word) (t : Bool) (r : ℕ) → at < b → f ≡ found_at s (at + 1) → t ≡ is_exclusion f → t ≡ false
    → exclusion_among s (b - at) at ≡ r → exclusion_among s (b - (at + 1)) (at + 1) ≡ r
walk_goes s b at f t r l e k h i = sym (opened s b at l ∙ ap (turn s (b - (at + 1)) at) (ap is_exclusion (sym e) ∙ (sym k ∙ h))) ∙ i

-- behind the last word there is none
pub walk_ends : (s : List ℕ) (b at r : ℕ) → b ≤ at → exclusion_among s (b - at) at ≡ r → 0 ≡ r
unfolding exclusion_among
walk_ends s b at r l i = let k : 0 ≡ b - at = omega (arith, l) in ap (λ (n : ℕ). exclusion_among s n at) k ∙ i
