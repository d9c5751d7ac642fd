-- What code judges a line by: each exclusion at every session, and the parts of a policy's meaning for one user that it
-- holds.
-- Assumes nothing.
use Rattle.std.specs.Prelude.{◌≡◌, Bool, List, [], ◌∷◌, ℕ, ltb, take}
use Rattle.model.specs.declared.Kind.{Kind}
use Rattle.model.specs.declared.Exclusion.{Exclusion}
use Rattle.model.specs.declared.Exclusions.{Exclusions}
use Rattle.model.specs.declared.Session.{Session}
use Rattle.model.specs.declared.Line.{Line}
use Rattle.model.specs.Tests.{all}
use Rattle.model.specs.Sets.{union, inter, count}
use Rattle.model.specs.Policy.{Meaning, met}
use Rattle.model.specs.Line.{counted}

-- the exclusion is met at every session
unfoldable pub met_at : Line → Exclusion → Bool
met_at l x = all (λ s. met (counted l s) x) l.sessions

-- every role that the sessions name: active or in their history
unfoldable pub named_in : List Session → ℕ
named_in [] = 0
named_in (s ∷ ss) = union (union s.active s.history) (named_in ss)

-- every role that the line names: in its history, or by a session
unfoldable pub named_by : Line → ℕ
named_by l = union l.history (named_in l.sessions)

-- of each exclusion fewer than n members are in the set
unfoldable pub few_in : ℕ → Exclusions → Bool
few_in set xs = all (λ x. ltb (count 64 (inter x.members set)) x.n) (take xs.count xs.list)

-- every exclusion of the meaning is met exactly where the listed ones are
abbrev pub Listed : Exclusions → Meaning → Type 0
Listed xs m = (counted : Kind → ℕ) → m.all_met counted ≡ all (met counted) (take xs.count xs.list)

-- the number of roles, the roles that the user may activate and the exclusions are those of the meaning
pub record Held (roles authorized : ℕ) (xs : Exclusions) (m : Meaning) : Type 0 where
  pub number : m.roles ≡ roles
  pub allowed : m.authorized ≡ authorized
  pub exclusions : Listed xs m
