-- The counts as they are kept while lines are answered: a table by number.
-- Assumes nothing.
use Rattle.std.specs.Prelude.{◌≡◌, List, [], ◌∷◌, ◌++◌, ℕ, ◌+◌, ◌≤◌, length, get_or, set, take, replicate}
use Rattle.model.specs.Judgement.{judge}
use Rattle.model.specs.Session.{Reply}
use Rattle.model_script.specs.Script.{answer_to, first_ledger}
use Rattle.script_input.specs.Kept.{lines_from}

-- the table with an answer counted
unfoldable pub noted : List ℕ → Reply → List ℕ
noted counts r = set counts r.number (get_or counts r.number 0 + 1)

-- the table when the lines are answered
unfoldable pub tally : List ℕ → List ℕ → List ℕ → List (List ℕ) → List ℕ
tally image ledger counts [] = counts
tally image ledger counts (l ∷ ls) = let e = answer_to image ledger l in tally image e.ledger (noted counts e.reply) ls

-- no count is more than n
abbrev pub Most : List ℕ → ℕ → Type 0
Most counts n = (k : ℕ) → get_or counts k 0 ≤ n

-- the lines that end in a chunk are answered and counted: whatever comes behind the chunk, the counts in the end are
-- the same
pub record CountsChunk (image chunk line ledger counts : List ℕ) (calls : ℕ) (line' ledger' counts' : List ℕ) (calls' : ℕ) : Type 0 where
  pub counted : calls' ≤ calls + length chunk
  pub most : Most counts' calls'
  pub size : length counts' ≡ 256
  pub same : (more : List ℕ) → tally image ledger counts (lines_from line (chunk ++ more)) ≡ tally image ledger' counts' (lines_from line' more)

-- where the counting stands between two chunks: a buffer and how many of its bytes are the line that is begun, the
-- ledger and the counts
pub record Standing : Type 0 where
  pub line : List ℕ
  pub kept : ℕ
  pub ledger : List ℕ
  pub counts : List ℕ

-- before the script: no line is begun, the ledger is all zero, and so are the counts
pub record Begins (image : List ℕ) (a : Standing) : Type 0 where
  pub kept : a.kept ≡ 0
  pub ledger : a.ledger ≡ first_ledger (judge image)
  pub counts : a.counts ≡ replicate 256 0

-- the counts in the end, where so many bytes are left (`CountsChunk.same` says of a chunk that it takes one standing
-- to another)
unfoldable pub counts_from : List ℕ → Standing → List ℕ → List ℕ
counts_from image a input = tally image a.ledger a.counts (lines_from (take a.kept a.line) input)
