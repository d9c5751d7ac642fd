-- The limits on roles (001: CARD): what an ask or a clause text is told of the other users, and which roles it bars.
-- Assumes nothing.
use Rattle.std.specs.Prelude.{Bool, ◌&&◌, not, ℕ, ◌+◌, ◌-◌, leb, get_or}
use Rattle.std.proofs.Math.Option.{Option, none}
use Rattle.model.specs.declared.Line.{Line}
use Rattle.model.specs.Sets.{has, set_of}
use Rattle.model.specs.Policy.{limited, Meaning}
use Rattle.model.specs.Line.{holding, others}

-- what other users contribute: in how many of their sessions each limited role is active, and the lowest of them whose
-- line is not sound
pub record Others : Type 0 where
  pub held : ℕ → ℕ
  pub unsound : Option ℕ

-- nothing of that
unfoldable pub nobody : Others
nobody = record { held = λ r. 0; unsound = none }

-- in how many sessions other than session k of the line role r is active, over all users
unfoldable pub elsewhere : Others → Line → ℕ → ℕ → ℕ
elsewhere x l k r = x.held r + holding r (others k l.sessions)

-- role r may not be chosen for session k: it has a limit t, and is active in t - 1 or more other sessions
unfoldable pub barred : Meaning → Others → Line → ℕ → ℕ → Bool
barred m x l k r = limited m.limits r && leb (get_or m.limits r 0 - 1) (elsewhere x l k r)

-- what the policy means for a choice for session k: the user may not activate a barred role
unfoldable pub unbarred : Meaning → Others → Line → ℕ → Meaning
unbarred m x l k =
    record {
      user = m.user;
      roles = m.roles;
      permissions = m.permissions;
      authorized = set_of (λ r. has m.authorized r && not (barred m x l k r)) 64;
      carried = m.carried;
      granter = m.granter;
      all_met = m.all_met;
      exclusions = m.exclusions;
      ordered = m.ordered;
      limits = m.limits;
    }
