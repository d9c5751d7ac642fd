-- What the functions over a chunk of the input do to the program's buffers.
-- Assumes nothing.
use Rattle.std.specs.Prelude.{◌≡◌, List, [], ◌++◌, ℕ, ◌+◌, ◌≤◌, ◌<◌, length, take, drop}
use Rattle.model.specs.Judgement.{judge}
use Rattle.model_script.specs.Script.{printed_for, first_ledger}
use Rattle.script_input.specs.Kept.{lines_from}
use Rattle.script_text.specs.declared.Writer.{Writer}
use Rattle.script_answers.specs.declared.lines.Place.{Place}

-- all that is printed in the end: the text so far, and that for the lines that are left, where so many calls are
-- answered
unfoldable pub outcome : List ℕ → List ℕ → ℕ → List ℕ → List (List ℕ) → List ℕ
outcome image ledger calls text ls = text ++ printed_for image ledger (calls + 1) ls

-- there is a byte to read and room for a line, and the calls in the rest of the chunk can be counted in 64 bits
abbrev pub Ready : List ℕ → Writer → Place → Type 0
Ready chunk text p =
    (p.next < length chunk) × (text.at + 160 ≤ length text.out.now) × (p.calls + length chunk ≤ 18446744073709551615 + p.next)

-- a writer goes on in the same buffer, and its place is inside
pub record GoesOn (old new : Writer) : Type 0 where
  pub same_buffer : new.out.ghost_name ≡ old.out.ghost_name
  pub size : length new.out.now ≡ length old.out.now
  pub room : new.at ≤ length new.out.now

-- the lines of a chunk are answered from one place to another, and the line that is begun and the text go on: whatever
-- comes behind the chunk, the same is printed in the end
pub record AnswersLines (image chunk line ledger text : List ℕ) (p : Place) (line' ledger' text' : List ℕ) (r : Place) : Type 0 where
  pub onward : p.next < r.next
  pub inside : r.next ≤ length chunk
  pub counted : r.calls + p.next ≤ p.calls + r.next
  pub same : (more : List ℕ)
      → outcome image ledger p.calls text (lines_from line (drop p.next chunk ++ more))
      ≡ outcome image ledger' r.calls text' (lines_from line' (drop r.next chunk ++ more))

-- where the run stands between two chunks: a buffer and how many of its bytes are the line that is begun, the ledger,
-- how many calls are answered, and all that is printed so far
pub record Standing : Type 0 where
  pub line : List ℕ
  pub kept : ℕ
  pub ledger : List ℕ
  pub calls : ℕ
  pub text : List ℕ

-- before the script: no line is begun, the ledger is all zero, no call is answered, and nothing printed
pub record Begins (image : List ℕ) (a : Standing) : Type 0 where
  pub kept : a.kept ≡ 0
  pub ledger : a.ledger ≡ first_ledger (judge image)
  pub calls : a.calls ≡ 0
  pub text : a.text ≡ []

-- all that is printed in the end, where so many bytes are left
unfoldable pub prints_from : List ℕ → Standing → List ℕ → List ℕ
prints_from image a input = outcome image a.ledger a.calls a.text (lines_from (take a.kept a.line) input)
