-- An answer counted, a chunk of lines counted, and the end of the input.
-- Assumes nothing.
use mathlib.Core.Path.{◌≡◌, sym, ap, ◌∙◌}
use mathlib.Core.List.{List, [], ◌++◌}
use Prim.Native.Nat.{ℕ, ◌+◌, ◌≤◌, ◌<◌}
use native.Mathlib.Omega.{arith}
use lib.Dec.{eqb}
use lib.ListN.{length, get_or, set, drop, replicate, length-set}
use lib.Seq.{get_or-set_same, get_or-set_other, drop-length}
use borrow.Table.Steps.{cases}
use borrow.Author.Tests.{eqb-true, eqb-false}
use Rattle.model.specs.Session.{Reply}
use Rattle.model_laws.proofs.TableLaws.{get_d_filled}
use Rattle.model_script.specs.Script.{answer_to}
use Rattle.script_input.specs.Kept.{lines_from}
use Rattle.script_input.proofs.Steps.{ends, last_none, last_some}
use Rattle.survey_counts.specs.Counting.{noted, tally, Most}

-- ---- one answer

pub noted_is : (counts : List ℕ) (n : ℕ) (r : Reply) → n ≡ r.number → set counts n (get_or counts n 0 + 1) ≡ noted counts r
unfolding noted
noted_is counts n r e = rw e

pub noted-most : (counts : List ℕ) (n calls : ℕ) → length counts ≡ 256 → n < 256 → Most counts calls
    → Most (set counts n (get_or counts n 0 + 1)) (calls + 1)
noted-most counts n calls h l m k =
    cases (eqb k n)
    (λ e. rw (eqb-true k n e, get_or-set_same counts n (get_or counts n 0 + 1) 0 (omega arith)) (omega (arith, m n)))
    (λ e. rw (get_or-set_other counts n k (get_or counts n 0 + 1) 0 (eqb-false k n e)) (omega (arith, m k)))

pub noted_size : (counts : List ℕ) (n a : ℕ) → length counts ≡ 256 → length (set counts n a) ≡ 256
noted_size counts n a h = length-set counts n a ∙ h

-- ---- a chunk

-- a newline has the line answered and counted
pub is_counted : (image chunk : List ℕ) (i : ℕ) (line bytes line' ledger counts ledger' counts' : List ℕ) → i < length chunk → get_or chunk i 0 ≡ 10
    → bytes ≡ line → line' ≡ [] → counts' ≡ noted counts (answer_to image ledger bytes).reply → ledger' ≡ (answer_to image ledger bytes).ledger
    → (more : List ℕ)
    → tally image ledger counts (lines_from line (drop i chunk ++ more))
    ≡ tally image ledger' counts' (lines_from line' (drop (i + 1) chunk ++ more))
unfolding tally
is_counted image chunk i line bytes line' ledger counts ledger' counts' h e b z p q more =
    ap (λ x. tally image ledger counts (lines_from x (drop i chunk ++ more))) (sym b)
    ∙ ap (tally image ledger counts) (ends chunk i bytes more h e)
    ∙ rw (p, q, z)

-- behind a chunk
pub behind_chunk : (chunk : List ℕ) (n : ℕ) (more : List ℕ) → length chunk ≤ n → n ≤ length chunk → drop n chunk ++ more ≡ more
behind_chunk chunk n more h k = let e : n ≡ length chunk = omega arith in rw (e, drop-length chunk)

-- the end of the input
pub last_nothing : (image ledger counts line : List ℕ) → length line < 1 → counts ≡ tally image ledger counts (lines_from line [])
unfolding lines_from tally
last_nothing image ledger counts line h = sym (ap (tally image ledger counts) (last_none line h))

pub last_counted : (image ledger counts line bytes counts' : List ℕ) → bytes ≡ line → 0 < length bytes
    → counts' ≡ noted counts (answer_to image ledger bytes).reply → counts' ≡ tally image ledger counts (lines_from line [])
unfolding lines_from tally
last_counted image ledger counts line bytes counts' b h p =
    p
    ∙ sym (ap (tally image ledger counts) (last_some bytes h))
    ∙ ap (λ x. tally image ledger counts (lines_from x [])) b

-- ---- the counts at the start

-- before any answer no count is more than 0
pub most_none : Most (replicate 256 0) 0
most_none k = omega (arith, get_d_filled {A = ℕ} 0 256 k)
