-- What the reduced exclusions say of a line: whether every exclusion is met once roles are put in for a session.
-- Assumes nothing.
use Rattle.std.specs.Prelude.{◌≡◌, true, ℕ, List, map, take}
use Rattle.model.specs.declared.Exclusion.{Exclusion}
use Rattle.model.specs.declared.Exclusions.{Exclusions}
use Rattle.model.specs.declared.Line.{Line}
use Rattle.model.specs.Sets.{within}
use Rattle.model.specs.Policy.{Policy, authorized, meaning}
use Rattle.model.specs.Line.{exclusions_met, put_in}
use Rattle.model.specs.Reduced.{stays, mask_of, reduced_n}
use Rattle.query_reduced.specs.declared.reduced.ReducedExclusion.{ReducedExclusion}
use Rattle.query_reduced.specs.declared.reduced.Reduced.{Reduced}
use Rattle.query_reduced.specs.Met.{reduced_met}

-- an exclusion's members and n, by what stays counted for its kind
abbrev pub reduced_by : ℕ → ℕ → ℕ → ReducedExclusion
reduced_by members n base = record { members = mask_of members base; n = reduced_n members n base }

-- an exclusion for roles to be put in for session k
abbrev pub reduced_for : Line → ℕ → Exclusion → ReducedExclusion
reduced_for l k x = reduced_by x.members x.n (stays l k x.kind)

-- the exclusions that a table has
abbrev pub listed : Reduced → List ReducedExclusion
listed r = take r.count r.rows

-- each exclusion by the members that are not counted yet and by its n less those that are; so, under every policy with
-- these exclusions that the line meets, for every set of the user's roles: every exclusion is met once the roles are
-- put in for session k exactly if each reduced one is met by them
pub record Reduces (x : Exclusions) (l : Line) (k : ℕ) (rows : List ReducedExclusion) : Type 0 where
  pub same : (p : Policy) (u : ℕ) → p.exclusions ≡ take x.count x.list → exclusions_met (meaning p u) l ≡ true
      → (s : ℕ) → within s (authorized p u) ≡ true → exclusions_met (meaning p u) (put_in k s l) ≡ reduced_met rows s
  pub each : rows ≡ map (reduced_for l k) (take x.count x.list)
