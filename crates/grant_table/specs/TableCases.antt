-- Images with what the table call answers: refused by 22 and 23, whatever the buffer, and by 19; a table.
-- Assumes nothing.
use Rattle.std.specs.Prelude.{◌≡◌, List, [], ◌∷◌, ◌++◌, ℕ, zero, suc, replicate}
use Rattle.model.specs.Words.{head_word, assign_word, grant_word, senior_word, image_bytes, ended}
use Rattle.model.specs.Session.{refuse}
use Rattle.grant_table_turned.specs.Calls.{filling}
use Rattle.grant_table.specs.TableCalls.{table_call}

-- role 0 over the loop of the roles 1 and 2
unfoldable pub looped : List ℕ
looped = image_bytes (ended (head_word 1 3 1 ∷ senior_word 0 1 ∷ senior_word 1 2 ∷ senior_word 2 1 ∷ []))

-- role 0 over the roles 1 to n
unfoldable pub over_others : ℕ → List ℕ
over_others zero = []
over_others (suc n) = senior_word 0 (suc n) ∷ over_others n

-- user 1 has role 0, which is over n others
unfoldable pub reaching : ℕ → List ℕ
reaching n = image_bytes (ended (head_word 2 17 1 ∷ assign_word 1 0 ∷ over_others n))

-- role 0, granted permission 0, over role 1, granted permission 200
unfoldable pub two_rows : List ℕ
two_rows = image_bytes (ended (head_word 1 2 201 ∷ grant_word 0 0 ∷ grant_word 1 200 ∷ senior_word 0 1 ∷ []))

-- a row of 32 bytes in which permission 200 is set, and permission 0 where the first byte is 1
unfoldable pub row_from : ℕ → List ℕ
row_from b = b ∷ (replicate 24 0 ++ (1 ∷ replicate 6 0))

pub record TableCases : Type 0 where
  -- 22 with a role, and 23 with a user, into a buffer of the right size, and before 19
  pub loop : table_call looped 2048 ≡ refuse 22 1
  pub loop-room : table_call looped 2047 ≡ refuse 22 1
  pub reach : table_call (reaching 16) 2048 ≡ refuse 23 1
  pub reach_room : table_call (reaching 16) 0 ≡ refuse 23 1
  -- 16 roles are not too many: 19, for a byte less and a byte more
  pub shorter : table_call (reaching 15) 2047 ≡ refuse 19 0
  pub longer : table_call (reaching 15) 2049 ≡ refuse 19 0
  -- role 0 carries what role 1 does; the rows of other roles are empty
  pub table : table_call two_rows 2048 ≡ filling (row_from 1 ++ (row_from 0 ++ replicate 1984 0))
