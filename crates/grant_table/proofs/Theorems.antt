-- The theorems about the closed grant table; the files named hold the arguments.
-- Assumes nothing.
use mathlib.Core.Path.{◌≡◌}
use mathlib.Core.List.{List}
use Prim.Native.Nat.{ℕ}
use Rattle.model.specs.declared.Head.{Head}
use Rattle.model.specs.declared.Checked.TheVariants.{Accepted}
use Rattle.model.specs.Judgement.{judge}
use Rattle.model.specs.Policy.{policy_of}
use Rattle.model_laws.proofs.Judgements.{accepted_in_range}
use Rattle.grant_table.specs.Table.{TableIs}
use Rattle.grant_table.specs.TableCalls.{TableRefuses}
use Rattle.grant_table.specs.TableCases.{TableCases}
use Rattle.grant_table.proofs.TableProof as TableProof
use Rattle.grant_table.proofs.TableRefusalsProof as TableRefusalsProof
use Rattle.grant_table.proofs.TableCasesProof as TableCasesProof

-- ---- the closed grant table of an accepted image

-- what the table, and the turned table, say of a role and a permission
pub table_is : (s : List ℕ) (h : Head) → judge s ≡ Accepted h → TableIs (policy_of s)
table_is s h accepted = TableProof.table_is (policy_of s) (accepted_in_range s h accepted)

-- ---- refusals

-- the table call refuses as a check does, then by 19 a buffer of other than 2,048 bytes, and leaves the buffer then
pub table_refuses : (s buffer : List ℕ) → TableRefuses s buffer
table_refuses = TableRefusalsProof.table_refuses

-- images with the answer of the call: 22, 23, 19 and a table, by computation
pub table_cases : TableCases
table_cases = TableCasesProof.table_cases
