-- The output line of an answer, from what the call returns and the answer buffer after it, which is all zero before.
-- Assumes nothing.
use mathlib.Core.Path.{◌≡◌, refl, ap, ◌∙◌}
use mathlib.Core.Option.{Option, none, some}
use mathlib.Core.List.{List, [], ◌∷◌}
use Prim.Native.Nat.{ℕ, ◌/◌, ◌%◌}
use lib.ListN.{take, drop, replicate}
use Rattle.model.specs.Bytes.{number}
use Rattle.model.specs.Line.{SESSIONS}
use Rattle.model.specs.Session.{Reply, refuse}
use Rattle.model.specs.Run.{Call, Event, step, returned, filled_with, answered}
use Rattle.std.proofs.Common as code
use Rattle.script_parse.specs.declared.Call as parsed
use Rattle.model_script.specs.Script.{parse, line_of, printed, answer_by, answer_to}
use Rattle.script_parse.specs.Reading.{call_in}
use Rattle.model_script.proofs.ReplyLaws.{step_small, number-returned, extra_returned}
use Rattle.script_text.specs.declared.Writer.{Writer}
use Rattle.script_text.specs.Writing.{Writes}
use Rattle.script_text.proofs.TextLaws.{writes_as}
use Rattle.asks.specs.Asks.{Answers}

-- ---- what fills the answer buffer

-- the answer buffer before a call
abbrev zeros : List ℕ
zeros = replicate 40 0

-- both sets of an answer, in the buffer: 0 where nothing fills it
roles_filled : (fs : List ℕ) → number (take 8 (filled_with zeros fs)) ≡ number (take 8 fs)
unfolding filled_with number
roles_filled [] = refl
roles_filled (b ∷ bs) = refl

permissions_filled : (fs : List ℕ) → number (drop 8 (filled_with zeros fs)) ≡ number (drop 8 fs)
unfolding filled_with number
permissions_filled [] = refl
permissions_filled (b ∷ bs) = refl

-- ---- an answer as a line

-- what a host is returned for an answer holds its number and its extra
record Parts (r : Reply) : Type 0 where
  number_is : returned r % 256 ≡ r.number
  extra_is : returned r / 256 ≡ r.extra

parts : (image ledger : List ℕ) (o : Option Call) → Parts (answer_by image ledger o).reply
unfolding answer_by returned refuse
parts image ledger none = record { number_is = refl; extra_is = refl }
parts image ledger (some c) =
    let r = (step SESSIONS image ledger c).reply in
    let s = step_small SESSIONS image ledger c in
    record { number_is = number-returned r s; extra_is = extra_returned r s }

module _ (image ledger line : List ℕ) (p : code.Option parsed.Call) (n sent : ℕ) (after answer : List ℕ) (q : call_in p ≡ parse line)
    (a : Answers (answer_by image ledger (call_in p)) sent after zeros answer) where
  -- the call of the parsed line is the line's
  event_is : answer_by image ledger (call_in p) ≡ answer_to image ledger line
  unfolding answer_to
  event_is = ap (answer_by image ledger) q

  pub ledger_after : after ≡ (answer_to image ledger line).ledger
  ledger_after = a.bytes ∙ ap (λ (x : Event). x.ledger) event_is

  -- the number of its answer
  pub number-answered : sent % 256 ≡ (answer_to image ledger line).reply.number
  unfolding returned
  number-answered = ap (λ x. x % 256) a.number ∙ (parts image ledger (call_in p)).number_is ∙ ap (λ (x : Event). x.reply.number) event_is

  line-is : line_of n (sent % 256) (sent / 256) (number (take 8 answer)) (number (drop 8 answer)) ≡ printed n (answer_to image ledger line).reply
  unfolding printed answered
  line-is =
      let r = (answer_by image ledger (call_in p)).reply in
      let k = parts image ledger (call_in p) in
      let e = ap (λ (x : Event). printed n x.reply) event_is in
      rw (a.number, a.buffer, k.number_is, k.extra_is, roles_filled r.filled, permissions_filled r.filled) e

  pub line-written : (old new : Writer)
      → Writes old new (line_of n (sent % 256) (sent / 256) (number (take 8 answer)) (number (drop 8 answer)))
      → Writes old new (printed n (answer_to image ledger line).reply)
  line-written old new w = writes_as line-is w
