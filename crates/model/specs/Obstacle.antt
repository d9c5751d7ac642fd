-- What stands in the way of an ask: why no set of roles is admissible, as the first of four kinds that holds.
-- Assumes nothing.
use Rattle.std.specs.Prelude.{Bool, true, false, ◌&&◌, not, List, [], ◌∷◌, ◌++◌, ℕ, ◌+◌, ◌*◌, get_or}
use Rattle.std.proofs.Math.Option.{Option, none, some}
use Rattle.model.specs.declared.Exclusion.{Exclusion}
use Rattle.model.specs.declared.Line.{Line}
use Rattle.model.specs.Tests.{any, all, or_else, lowest, if_below}
use Rattle.model.specs.Sets.{has, inter, within, set_of, subsets}
use Rattle.model.specs.Policy.{kind_number, sorted, met, Meaning}
use Rattle.model.specs.Limits.{Others, unbarred}
use Rattle.model.specs.Choice.{carried_by, admissible}
use Rattle.model.specs.Reduced.{stays}

-- what stands in the way: its kind, what it is about (a permission, or the kind of an exclusion plus 4 times its n),
-- and two role sets
pub record Obstacle : Type 0 where
  pub kind : ℕ
  pub about : ℕ
  pub first : ℕ
  pub second : ℕ

-- ---- kinds 1 to 3: a permission of the lower bound that no role gives

-- the lowest permission of the lower bound that no role of s carries, none where they carry them all
unfoldable pub lacking : Meaning → ℕ → ℕ → Option ℕ
lacking m lower s = if_below 256 (lowest (λ p. has lower p && not (has (carried_by m s) p)) 0 256)

-- the roles that pass a test and carry the permission p
unfoldable pub carriers_of : Meaning → (ℕ → Bool) → ℕ → ℕ
carriers_of m test p = set_of (λ r. test r && has (get_or m.carried r 0) p) 64

-- the roles that the user may activate and that carry nothing outside the upper bound
unfoldable pub fitting : Meaning → ℕ → ℕ
fitting m upper = set_of (λ r. has m.authorized r && within (get_or m.carried r 0) upper) 64

-- a permission that is lacking, with the roles that would give it but for this kind
unfoldable pub lacks : ℕ → (ℕ → ℕ) → Option ℕ → Option Obstacle
lacks kind roles none = none
lacks kind roles (some p) = some (record { kind = kind; about = p; first = roles p; second = 0 })

-- ---- kind 4: an exclusion with which no set is left

-- what the policy means with the exclusions xs alone
unfoldable pub excluding_only : Meaning → List Exclusion → Meaning
excluding_only m xs =
    record {
      user = m.user;
      roles = m.roles;
      permissions = m.permissions;
      authorized = m.authorized;
      carried = m.carried;
      granter = m.granter;
      all_met = λ counted. all (met counted) xs;
      exclusions = xs;
      ordered = sorted xs;
      limits = m.limits;
    }

-- with the exclusions xs alone some set is admissible
unfoldable pub left : Meaning → Line → ℕ → ℕ → ℕ → List Exclusion → Bool
left m l k lower upper xs = any (admissible (excluding_only m xs) l k lower upper) (subsets 64 m.authorized)

-- the first of ys with which no set is left, where those of xs stand before them
unfoldable pub blocking : (List Exclusion → Bool) → List Exclusion → List Exclusion → Option Exclusion
blocking test xs [] = none
blocking test xs (y ∷ ys) = elim (test (xs ++ (y ∷ []))) [ true ↦ blocking test (xs ++ (y ∷ [])) ys | false ↦ some y ]

-- an exclusion that blocks, with its members that stay counted, whatever is put in for session k, and all its members
unfoldable pub blocks : Line → ℕ → Option Exclusion → Option Obstacle
blocks l k none = none
blocks l k (some y) =
    some
    (record {
      kind = 4;
      about = kind_number y.kind + 4 * y.n;
      first = inter y.members (stays l k y.kind);
      second = y.members;
    })

-- ---- the first kind that holds

-- the roles that the user may activate lack a permission (1); those that fit the upper bound lack one (2); those that
-- fit and are not barred lack one (3); an exclusion, in the order of the tidy image, leaves no set (4)
unfoldable pub obstacle_of : Meaning → Others → Line → ℕ → ℕ → ℕ → Option Obstacle
obstacle_of m x l k lower upper =
    let free = unbarred m x l k in
    or_else (lacks 1 (carriers_of m (λ r. true)) (lacking m lower m.authorized))
    (or_else (lacks 2 (carriers_of m (has m.authorized)) (lacking m lower (fitting m upper)))
    (or_else (lacks 3 (carriers_of m (has (fitting m upper))) (lacking m lower (fitting free upper)))
    (blocks l k (blocking (left free l k lower upper) [] m.ordered))))
