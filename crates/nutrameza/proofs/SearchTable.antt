-- The words that the search reads are bits of the turned grant table.
-- Assumes nothing.
use mathlib.Core.Path.{◌≡◌, sym, ◌∙◌}
use mathlib.Core.Bool.{true}
use mathlib.Core.List.{List}
use Prim.Native.Nat.{ℕ, ◌^◌, ◌<◌}
use lib.ListN.{get_or}
use Rattle.model.specs.declared.Head.{Head}
use Rattle.model.specs.declared.Checked.TheVariants.{Accepted}
use Rattle.model.specs.Sets.{has}
use Rattle.model.specs.Judgement.{judge}
use Rattle.model.specs.Policy.{policy_of}
use Rattle.model_laws.proofs.UnionLaws.{has_below}
use Rattle.query.specs.Carry.{Named}
use Rattle.grant_table_turned.specs.Turned.{row_at, turned}
use Rattle.grant_table.specs.Table.{grant_table}
use Rattle.grant_table.proofs.Theorems.{table_is}

-- of a table that `query::carriers::carriers` makes for roles of an accepted policy: the word of a wanted permission
-- has, of these roles, those that the permission's row of the turned grant table has
pub search_reads : (s : List ℕ) (h : Head) → judge s ≡ Accepted h → (table : List ℕ) (wanted roles : ℕ) → wanted < 2 ^ 256 → roles < 2 ^ 64
    → Named (policy_of s) table wanted roles → (r k : ℕ) → has roles r ≡ true → has wanted k ≡ true
    → has (get_or table k 0) r ≡ has (row_at 8 (turned (grant_table (policy_of s))) k) r
search_reads s h accepted table wanted roles v w named r k e want =
    named r k e want ∙ sym ((table_is s h accepted).turned_named r k (has_below 64 roles r w e) (has_below 256 wanted k v want))
