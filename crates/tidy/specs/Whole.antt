-- The policy that tables make, and what a call that writes its tidy image leaves.
-- Assumes nothing.
use Rattle.std.specs.Prelude.{◌≡◌, List, ℕ, ◌+◌, ◌*◌}
use Rattle.model.specs.declared.Head.{Head}
use Rattle.model.specs.declared.Exclusion.{Exclusion}
use Rattle.model.specs.Policy.{Policy}
use Rattle.exclusion_rows.specs.Table.{exclusion_list}
use Rattle.sets.specs.Words.{values}
use Rattle.policy_tables.specs.declared.PolicyTables.{PolicyTables}
use Rattle.model_tidy.specs.Tidy.{Written}

-- the policy of a head, three tables, exclusions and the limits
unfoldable pub policy_by : Head → List ℕ → List ℕ → List ℕ → List Exclusion → List ℕ → Policy
policy_by h assigned granted juniors xs limits =
    record {
      head = h;
      assigned = assigned;
      granted = granted;
      juniors = juniors;
      exclusions = xs;
      limits = limits;
    }

-- the policy that tables state, of which one has the roles assigned to each user and one the direct juniors of each
-- role
abbrev pub policy_held : PolicyTables → Policy
policy_held t = policy_by t.head t.authorized (values t.granted) t.below (exclusion_list t.exclusions) t.limits

-- what is returned and the buffer after the call are what the definition says
pub record Writes (e : Written) (x : ℕ) (buffer : List ℕ) : Type 0 where
  pub number : x ≡ e.number + 256 * e.extra
  pub bytes : buffer ≡ e.out
