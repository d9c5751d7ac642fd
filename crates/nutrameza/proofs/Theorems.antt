-- The theorem on what the search reads. The argument stands in the file that is cited.
-- Assumes nothing.
use mathlib.Core.Path.{◌≡◌}
use mathlib.Core.Bool.{true}
use mathlib.Core.List.{List}
use Prim.Native.Nat.{ℕ, ◌^◌, ◌<◌}
use lib.ListN.{get_or}
use Rattle.model.specs.declared.Head.{Head}
use Rattle.model.specs.declared.Checked.TheVariants.{Accepted}
use Rattle.model.specs.Sets.{has}
use Rattle.model.specs.Judgement.{judge}
use Rattle.model.specs.Policy.{policy_of}
use Rattle.query.specs.Carry.{Named}
use Rattle.grant_table_turned.specs.Turned.{row_at, turned}
use Rattle.grant_table.specs.Table.{grant_table}
use Rattle.nutrameza.proofs.SearchTable

-- the words that the search reads are bits of the turned grant table
pub search_reads : (s : List ℕ) (h : Head) → judge s ≡ Accepted h → (table : List ℕ) (wanted roles : ℕ) → wanted < 2 ^ 256 → roles < 2 ^ 64
    → Named (policy_of s) table wanted roles → (r k : ℕ) → has roles r ≡ true → has wanted k ≡ true
    → has (get_or table k 0) r ≡ has (row_at 8 (turned (grant_table (policy_of s))) k) r
search_reads = SearchTable.search_reads
