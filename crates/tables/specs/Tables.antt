-- The tables that a pass over an image fills, and what they hold.
-- Assumes nothing.
use Rattle.std.specs.Prelude.{◌≡◌, ℕ, List}
use Rattle.model.specs.Image.{assigning, empty_rows}
use Rattle.model.specs.Policy.{Policy, entries_from, fold, granting, ordering, limiting, exclusions_of}
use Rattle.sets.specs.Words.{values}
use Rattle.exclusion_rows.specs.Table.{exclusion_list}
use Rattle.policy_tables.specs.declared.PolicyTables.{PolicyTables}

-- the tables t after n words from place 1, which were t₀ before, and the exclusions among those words
pub record Gathered (s : List ℕ) (n : ℕ) (t₀ t : PolicyTables) : Type 0 where
  pub assigned_is : t.authorized ≡ fold assigning t₀.authorized (entries_from s n 1)
  pub granted_is : values t.granted ≡ fold granting (values t₀.granted) (entries_from s n 1)
  pub juniors_is : t.below ≡ fold ordering t₀.below (entries_from s n 1)
  pub limits_is : t.limits ≡ fold limiting t₀.limits (entries_from s n 1)
  pub exclusions_are : exclusion_list t.exclusions ≡ exclusions_of (entries_from s n 1)

-- tables before any word
pub record Fresh (t : PolicyTables) : Type 0 where
  pub assigned_none : t.authorized ≡ empty_rows
  pub granted_none : values t.granted ≡ empty_rows
  pub juniors_none : t.below ≡ empty_rows
  pub limits_none : t.limits ≡ empty_rows

-- the head's numbers, the tables and the exclusions are those of the policy, with the roles assigned to each user in
-- place of those that the user may activate, and with the direct juniors of each role in place of the roles below it
pub record Read (p : Policy) (t : PolicyTables) : Type 0 where
  pub head_is : p.head ≡ t.head
  pub assigned_is : t.authorized ≡ p.assigned
  pub granted_is : values t.granted ≡ p.granted
  pub juniors_is : t.below ≡ p.juniors
  pub limits_is : t.limits ≡ p.limits
  pub exclusions_are : exclusion_list t.exclusions ≡ p.exclusions
