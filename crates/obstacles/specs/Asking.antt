-- What an obstacle is looked for with.
-- Assumes nothing.
use Rattle.std.specs.Prelude.{◌≡◌, true, List, ℕ, take}
use Rattle.model.specs.declared.Exclusions.{Exclusions}
use Rattle.model.specs.declared.Line.{Line}
use Rattle.model.specs.Policy.{Policy, authorized, below_table, meaning}
use Rattle.model.specs.Limits.{Others}
use Rattle.model.specs.Line.{exclusions_met}
use Rattle.asks.specs.Asks.{left_to}

-- it is the policy's: what is granted, who is below whom, what user u may activate, what of that is not barred, and the
-- exclusions, which the line meets, in the order of the image
pub record Asking (p : Policy) (u : ℕ) (x : Others) (l : Line) (k : ℕ) (granted below : List ℕ) (own free : ℕ) (xs : Exclusions) : Type 0 where
  pub granted_is : granted ≡ p.granted
  pub below_is : below ≡ below_table p
  pub own_is : authorized p u ≡ own
  pub free_is : (left_to p u x l k).authorized ≡ free
  pub exclusions_are : p.exclusions ≡ take xs.count xs.list
  pub met : exclusions_met (meaning p u) l ≡ true
