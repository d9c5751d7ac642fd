-- The call that a parsed line is, by its form: what the calls of a host give is what the script's definition says.
-- Assumes nothing.
use mathlib.Core.Path.{◌≡◌, refl, sym, subst}
use mathlib.Core.Option.{Option, none, some}
use mathlib.Core.List.{List, []}
use Prim.Native.Nat.{ℕ}
use lib.ListN.{length}
use Rattle.model.specs.declared.Checked.{Checked}
use Rattle.model.specs.declared.Checked.TheVariants.{Accepted, Refused}
use Rattle.model.specs.Judgement.{judge}
use Rattle.model.specs.Policy.{Policy, Meaning, policy_of}
use Rattle.model.specs.Line.{SESSIONS}
use Rattle.model.specs.Limits.{Others}
use Rattle.model.specs.Session.{Refusal, Result, Reply, refuse, done, perform, unless, rule}
use Rattle.model.specs.Run.{Call, Event, ruled, step_on, step_by, step, open_by, close_by, show_by, short_ask_by, ask_by, returned, filled_with, answered}
use Rattle.model_laws.proofs.Bools.{pick-case}
use Rattle.model_laws.proofs.FramesProof.{show_keeps}
use Rattle.std.proofs.Common as code
use Rattle.script_parse.specs.declared.Call as line
use Rattle.script_parse.specs.declared.Call.TheVariants.{Open, Close, Show, ShortAsk, Ask}
use Rattle.model_script.specs.Script.{room, answer_by}
use Rattle.script_parse.specs.Reading.{called, call_in}
use Rattle.asks.specs.Asks.{Answers}

-- ---- a call that fills nothing leaves the answer buffer alone

-- an answer fills nothing
abbrev Empty : Event → Type 0
Empty e = e.reply.filled ≡ []

unless_empty : (x : Others) (o : Option Refusal) (bs : List ℕ) (r : Result) → r.reply.filled ≡ [] → (unless x o bs r).reply.filled ≡ []
unfolding unless refuse
unless_empty x none bs r h = h
unless_empty x (some f) bs r h = refl

module _ (W : ℕ) (c : Call) (h : (m : Meaning) (x : Others) (bs : List ℕ) → (rule W m x bs c.operation).reply.filled ≡ []) where
  step_by_empty : (j : Checked) (p : Policy) (ledger : List ℕ) → Empty (step_by W j p ledger c)
  unfolding step_by step_on ruled refuse
  step_by_empty (Refused n place) p ledger = refl
  step_by_empty (Accepted head) p ledger = pick-case Empty _ _ _ (λ _. refl) (λ _. pick-case Empty _ _ _ (λ _. refl) (λ _. h _ _ _))

  step_empty : (image ledger : List ℕ) → Empty (step W image ledger c)
  unfolding step
  step_empty image ledger = step_by_empty (judge image) (policy_of image) ledger

open_empty : (u : ℕ) (image ledger : List ℕ) → Empty (step SESSIONS image ledger (open_by u))
unfolding open_by rule perform done
open_empty u image ledger = step_empty SESSIONS (open_by u) (λ m x bs. unless_empty x _ bs _ refl) image ledger

close_empty : (u k : ℕ) (image ledger : List ℕ) → Empty (step SESSIONS image ledger (close_by u k))
unfolding close_by rule perform done
close_empty u k image ledger = step_empty SESSIONS (close_by u k) (λ m x bs. unless_empty x _ bs _ refl) image ledger

left_alone : (room : List ℕ) (r : Reply) → r.filled ≡ [] → room ≡ answered room r
unfolding answered filled_with
left_alone room r e = rw e

-- ---- by the form of a line

module _ (image ledger room₀ : List ℕ) (p : code.Option line.Call) where
  -- what the call of the form gives, the call of the line gives
  by_form : (f : line.Call) (n : ℕ) (after answer : List ℕ) → p ≡ code.Some f → Answers (answer_by image ledger (some (called f))) n after room₀ answer
      → Answers (answer_by image ledger (call_in p)) n after room₀ answer
  unfolding call_in
  by_form f n after answer g a = rw g a

  pub answers_open : (u n : ℕ) (after : List ℕ) → p ≡ code.Some (Open u)
      → (n ≡ returned (step SESSIONS image ledger (open_by u)).reply) × (after ≡ (step SESSIONS image ledger (open_by u)).ledger)
      → Answers (answer_by image ledger (call_in p)) n after room₀ room₀
  unfolding answer_by called
  answers_open u n after g k =
      by_form (Open u) n after room₀ g (record { number = k.0; bytes = k.1; buffer = left_alone room₀ _ (open_empty u image ledger) })

  pub answers_close : (u s n : ℕ) (after : List ℕ) → p ≡ code.Some (Close u s)
      → (n ≡ returned (step SESSIONS image ledger (close_by u s)).reply) × (after ≡ (step SESSIONS image ledger (close_by u s)).ledger)
      → Answers (answer_by image ledger (call_in p)) n after room₀ room₀
  unfolding answer_by called
  answers_close u s n after g k =
      by_form (Close u s) n after room₀ g (record { number = k.0; bytes = k.1; buffer = left_alone room₀ _ (close_empty u s image ledger) })

  -- an unreadable line makes no call
  pub answers_unreadable : p ≡ code.None → Answers (answer_by image ledger (call_in p)) 21 ledger room₀ room₀
  unfolding answer_by call_in returned refuse answered filled_with
  answers_unreadable g = rw g (record { number = refl; bytes = refl; buffer = refl })

  -- where the answer buffer has the program's room
  module _ (e : length room₀ ≡ 40) where
    -- what a call with the buffer's room gives, the call with 40 bytes of room gives
    in-room : (c : ℕ → Call) (n : ℕ) (after answer : List ℕ) → Answers (step SESSIONS image ledger (c (length room₀))) n after room₀ answer
        → Answers (step SESSIONS image ledger (c 40)) n after room₀ answer
    in-room c n after answer a = subst (λ x. Answers (step SESSIONS image ledger (c x)) n after room₀ answer) e a

    pub answers_show : (u s n : ℕ) (answer : List ℕ) → p ≡ code.Some (Show u s)
        → (n ≡ returned (step SESSIONS image ledger (show_by u s (length room₀))).reply)
        × (answer ≡ answered room₀ (step SESSIONS image ledger (show_by u s (length room₀))).reply)
        → Answers (answer_by image ledger (call_in p)) n ledger room₀ answer
    unfolding answer_by called room
    answers_show u s n answer g k =
        by_form (Show u s) n ledger answer g
        (in-room (show_by u s) n ledger answer (record { number = k.0; bytes = sym (show_keeps SESSIONS image ledger u s (length room₀)); buffer = k.1 }))

    pub answers_short_ask : (u s n : ℕ) (l h after answer : List ℕ) → p ≡ code.Some (ShortAsk u s l h)
        → (n ≡ returned (step SESSIONS image ledger (short_ask_by u s l h (length room₀))).reply)
        × (after ≡ (step SESSIONS image ledger (short_ask_by u s l h (length room₀))).ledger)
        × (answer ≡ answered room₀ (step SESSIONS image ledger (short_ask_by u s l h (length room₀))).reply)
        → Answers (answer_by image ledger (call_in p)) n after room₀ answer
    unfolding answer_by called room
    answers_short_ask u s n l h after answer g k =
        by_form (ShortAsk u s l h) n after answer g
        (in-room (short_ask_by u s l h) n after answer (record { number = k.0; bytes = k.1; buffer = k.2 }))

    pub answers_ask : (u s a b n : ℕ) (l h after answer : List ℕ) → p ≡ code.Some (Ask u s l h a b)
        → (n ≡ returned (step SESSIONS image ledger (ask_by u s l h a b (length room₀))).reply)
        × (after ≡ (step SESSIONS image ledger (ask_by u s l h a b (length room₀))).ledger)
        × (answer ≡ answered room₀ (step SESSIONS image ledger (ask_by u s l h a b (length room₀))).reply)
        → Answers (answer_by image ledger (call_in p)) n after room₀ answer
    unfolding answer_by called room
    answers_ask u s a b n l h after answer g k =
        by_form (Ask u s l h a b) n after answer g
        (in-room (ask_by u s l h a b) n after answer (record { number = k.0; bytes = k.1; buffer = k.2 }))
