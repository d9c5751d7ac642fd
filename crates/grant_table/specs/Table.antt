-- The closed grant table of a policy in bytes: who carries what after seniority.
-- Assumes nothing.
use Rattle.std.specs.Prelude.{◌≡◌, refl, ◌↔◌, true, List, [], ◌∷◌, ℕ, ◌≤◌, ◌<◌, length, get_or, replicate}
use Rattle.model.specs.Tests.{is_some, pick}
use Rattle.model.specs.Sets.{has, union_to, union_at}
use Rattle.model.specs.Bytes.{bytes_of}
use Rattle.model.specs.Policy.{Policy, table_of, with_selves, carried_table, granter}
use Rattle.model.specs.Chains.{Carries}
use Rattle.grant_table_turned.specs.Turned.{row_at, joined, turned}

-- 64 rows of 32 bytes: row r is the permissions that role r carries, bits as in a bound
unfoldable pub grant_table : Policy → List ℕ
grant_table p = joined (λ r. bytes_of 32 (get_or (carried_table p) r 0)) 0 64

-- row r in bytes, by the table of grants and the closed table of juniors
unfoldable pub row_bytes : List ℕ → List ℕ → ℕ → List ℕ
row_bytes granted below r = bytes_of 32 (union_at granted (get_or (with_selves below) r 0))

-- role 0 is above role 1, and has its grant too
pub row_of_two : row_bytes (4 ∷ 2 ∷ []) (2 ∷ 0 ∷ []) 0 ≡ 6 ∷ replicate 31 0
unfolding row_bytes bytes_of union_at union_to with_selves table_of has pick
row_of_two = refl

-- ---- claims

-- bit k of row r of the table is: role r carries permission k. So is bit r of row k of the turned table, which is set
-- exactly if role r has a granting role of permission k. Rows of roles that the policy does not have are empty
pub record TableIs (p : Policy) : Type 0 where
  pub size : length (grant_table p) ≡ 2048
  pub table : (r k : ℕ) → r < 64 → k < 256 → (has (row_at 32 (grant_table p) r) k ≡ true) ↔ Carries p r k
  pub turned_table : (r k : ℕ) → r < 64 → k < 256 → (has (row_at 8 (turned (grant_table p)) k) r ≡ true) ↔ Carries p r k
  pub turned_named : (r k : ℕ) → r < 64 → k < 256 → has (row_at 8 (turned (grant_table p)) k) r ≡ is_some (granter p k r)
  pub beyond : (r : ℕ) → p.head.roles ≤ r → r < 64 → row_at 32 (grant_table p) r ≡ 0
