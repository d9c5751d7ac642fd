-- The call that gives the closed grant table of an image.
-- Assumes nothing.
use Rattle.std.specs.Prelude.{◌≡◌, ◌↔◌, true, false, List, ℕ, eqb, length}
use Rattle.model.specs.declared.Checked.{Checked}
use Rattle.model.specs.declared.Checked.TheVariants.{Accepted, Refused}
use Rattle.model.specs.Judgement.{judge}
use Rattle.model.specs.Policy.{Policy, policy_of}
use Rattle.model.specs.Session.{Reply, refuse}
use Rattle.model.specs.Run.{answered}
use Rattle.model_register.specs.AsCheck.{Passes, RefusesAsCheck}
use Rattle.grant_table.specs.Table.{grant_table}
use Rattle.grant_table_turned.specs.Calls.{filling}

-- 19 where the buffer has not 2,048 bytes
unfoldable pub table_on : Policy → ℕ → Reply
table_on p room = elim (eqb room 2048) [ true ↦ filling (grant_table p) | false ↦ refuse 19 0 ]

-- a refused image ends the call
unfoldable pub table_by : Checked → Policy → ℕ → Reply
table_by (Refused n x) p room = refuse n x
table_by (Accepted h) p room = table_on p room

-- the table call, given the bytes of an image and the buffer's length
unfoldable pub table_call : List ℕ → ℕ → Reply
table_call image room = table_by (judge image) (policy_of image) room

-- ---- claims

-- how the table call is answered for a buffer, beside the register: it refuses as a check does, whatever the buffer;
-- then by 19 with extra 0 exactly if the buffer has not 2,048 bytes; it is done, with the table, exactly if neither is
-- so; and a call that is not done leaves the buffer as it was
pub record TableRefuses (s buffer : List ℕ) : Type 0 where
  pub check : RefusesAsCheck s (table_call s (length buffer)).number (table_call s (length buffer)).extra
  pub room : (table_call s (length buffer) ≡ refuse 19 0) ↔ (Passes s × ¬ (length buffer ≡ 2048))
  pub done : (table_call s (length buffer) ≡ filling (grant_table (policy_of s))) ↔ (Passes s × (length buffer ≡ 2048))
  -- nor is there another answer with these numbers
  pub by_19 : (table_call s (length buffer)).number ≡ 19 → table_call s (length buffer) ≡ refuse 19 0
  pub by_0 : (table_call s (length buffer)).number ≡ 0 → table_call s (length buffer) ≡ filling (grant_table (policy_of s))
  pub untouched : ¬ ((table_call s (length buffer)).number ≡ 0) → answered buffer (table_call s (length buffer)) ≡ buffer
