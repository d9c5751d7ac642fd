-- What the tables of a policy hold of it.
-- Assumes nothing.
use Rattle.std.specs.Prelude.{◌≡◌, ℕ, ◌<◌, ◌^◌, get_or, replicate}
use Rattle.model.specs.declared.Kind.TheVariants.{SsDmer}
use Rattle.model.specs.Policy.{Policy, authorized, below_table}
use Rattle.sets.specs.Words.{values}
use Rattle.exclusion_rows.specs.Table.{exclusion_list}
use Rattle.policy_tables.specs.declared.PolicyTables.{PolicyTables}

-- tables of zeros, and no exclusion
pub record Blank (t : PolicyTables) : Type 0 where
  pub head_none : t.head ≡ record { users = 0; roles = 0; permissions = 0 }
  pub authorized_none : t.authorized ≡ replicate 64 0
  pub granted_none : t.granted ≡ replicate 64 (replicate 4 0)
  pub below_none : t.below ≡ replicate 64 0
  pub limits_none : t.limits ≡ replicate 64 0
  pub rows_none : t.exclusions.rows ≡ replicate 32 (record { kind = SsDmer; n = 0; members = 0 })
  pub none : t.exclusions.count ≡ 0

-- the tables are those of the policy: the head's numbers, the roles that each user may activate, the permissions
-- granted to each role, the roles below each role, the limit of each role and the exclusions
pub record Holds (t : PolicyTables) (p : Policy) : Type 0 where
  pub head_is : p.head ≡ t.head
  pub own_is : (u : ℕ) → u < p.head.users → get_or t.authorized u 0 < 2 ^ 64 → get_or t.authorized u 0 ≡ authorized p u
  pub granted_is : values t.granted ≡ p.granted
  pub below_is : t.below ≡ below_table p
  pub limits_is : t.limits ≡ p.limits
  pub exclusions_are : exclusion_list t.exclusions ≡ p.exclusions
