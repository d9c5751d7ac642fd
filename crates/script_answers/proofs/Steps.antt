-- What is printed in the end stays the same where a line is answered.
-- Assumes nothing.
use mathlib.Core.Path.{◌≡◌, sym, ap, ◌∙◌}
use mathlib.Core.List.{List, [], ◌++◌, append-nil, append_assoc}
use Prim.Native.Nat.{ℕ, ◌+◌, ◌<◌}
use lib.ListN.{length, get_or, drop}
use Rattle.model_script.specs.Script.{answer_to, printed, printed_for}
use Rattle.script_input.specs.Kept.{lines_from}
use Rattle.script_input.proofs.Steps.{ends, last_none, last_some}
use Rattle.script_answers.specs.Buffers.{outcome}

-- a newline has the line answered
pub is_answered : (image chunk : List ℕ) (i : ℕ) (line bytes line' ledger ledger' : List ℕ) (calls : ℕ) (text text' : List ℕ)
    → i < length chunk → get_or chunk i 0 ≡ 10 → bytes ≡ line → line' ≡ []
    → text' ≡ text ++ printed (calls + 1) (answer_to image ledger bytes).reply → ledger' ≡ (answer_to image ledger bytes).ledger
    → (more : List ℕ) → outcome image ledger calls text (lines_from line (drop i chunk ++ more))
    ≡ outcome image ledger' (calls + 1) text' (lines_from line' (drop (i + 1) chunk ++ more))
unfolding outcome printed_for
is_answered image chunk i line bytes line' ledger ledger' calls text text' h e b z p q more =
    let a = answer_to image ledger bytes in
    let rest = lines_from [] (drop (i + 1) chunk ++ more) in
    ap (λ x. outcome image ledger calls text (lines_from x (drop i chunk ++ more))) (sym b)
    ∙ ap (outcome image ledger calls text) (ends chunk i bytes more h e)
    ∙ sym (append_assoc text (printed (calls + 1) a.reply) (printed_for image a.ledger (calls + 1 + 1) rest))
    ∙ ap (λ x. x ++ printed_for image a.ledger (calls + 1 + 1) rest) (sym p)
    ∙ ap (λ x. text' ++ printed_for image x (calls + 1 + 1) rest) (sym q)
    ∙ ap (λ x. outcome image ledger' (calls + 1) text' (lines_from x (drop (i + 1) chunk ++ more))) (sym z)

-- at the end of the input nothing more is printed where no line is begun
pub last_nothing : (image ledger : List ℕ) (calls : ℕ) (text line : List ℕ) → length line < 1
    → text ≡ outcome image ledger calls text (lines_from line [])
unfolding outcome lines_from printed_for
last_nothing image ledger calls text line h =
    sym (ap (outcome image ledger calls text) (last_none line h) ∙ append-nil text)

-- and a line that is begun is answered
pub last_answered : (image ledger : List ℕ) (calls : ℕ) (text text' line bytes : List ℕ) → bytes ≡ line → 0 < length bytes
    → text' ≡ text ++ printed (calls + 1) (answer_to image ledger bytes).reply
    → text' ≡ outcome image ledger calls text (lines_from line [])
unfolding outcome lines_from printed_for
last_answered image ledger calls text text' line bytes b h p =
    p
    ∙ ap (λ x. text ++ x) (sym (append-nil (printed (calls + 1) (answer_to image ledger bytes).reply)))
    ∙ sym (ap (outcome image ledger calls text) (last_some bytes h))
    ∙ ap (λ x. outcome image ledger calls text (lines_from x [])) b
