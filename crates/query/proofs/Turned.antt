-- The roles that a turned table's set keeps are those kept by their rows.
-- Assumes nothing.
use mathlib.Core.Path.{◌≡◌, refl, ap, ◌∙◌}
use mathlib.Core.Bool.{Bool, true, false, ◌&&◌}
use mathlib.Core.List.{List}
use Prim.Native.Nat.{ℕ}
use lib.ListN.{get_or}
use Rattle.model.specs.Sets.{has, inter}
use Rattle.model_laws.proofs.SetLaws.{has-inter}
use Rattle.query.specs.Carry.{Turned, Sub, Keeps}

-- what two sets share are the members of the first that the second has
pub inter_keeps : (set x s : ℕ) → s ≡ inter set x → Keeps (has x) set s
inter_keeps set x s e i = ap (λ (y : ℕ). has y i) e ∙ has-inter set x i

module _ (row : ℕ → ℕ) (table : List ℕ) (wanted : ℕ) where
  pub keeps_turned : (m set s : ℕ) → Turned row table wanted set → has wanted m ≡ true → Keeps (has (get_or table m 0)) set s → Keeps (λ i. has (row i) m) set s
  keeps_turned m set s turned want keeps i = keeps i ∙ go (has set i) refl
    where
      go : (b : Bool) → has set i ≡ b → (b && has (get_or table m 0) i) ≡ (b && has (row i) m)
      go true e = turned i m e want
      go false e = refl

  -- the table is right for fewer roles too
  pub turned_sub : (set less : ℕ) → Turned row table wanted set → Sub less set → Turned row table wanted less
  turned_sub set less turned sub i m e want = turned i m (sub i e) want
