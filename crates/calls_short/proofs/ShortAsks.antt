-- A short ask is the ask with `short_aim` for both objectives.
-- Assumes nothing.
use mathlib.Core.Path.{◌≡◌, refl, subst}
use mathlib.Core.List.{List}
use Prim.Native.Nat.{ℕ}
use Rattle.model.specs.declared.Checked.{Checked}
use Rattle.model.specs.declared.Checked.TheVariants.{Accepted, Refused}
use Rattle.model.specs.Tests.{first}
use Rattle.model.specs.Judgement.{judge}
use Rattle.model.specs.Policy.{Meaning, policy_of, meaning}
use Rattle.model.specs.Line.{line_size}
use Rattle.model.specs.Limits.{Others}
use Rattle.model.specs.Session.{short_aim, is_ask, ask, short_ask, session_of, query_of, can_give, applies, perform, unless, rule}
use Rattle.model.specs.Run.{Call, Event, line_at, told, ruled, step_on, step_by, step, ask_by, short_ask_by}
use Rattle.asks.specs.Asks.{Answers}

module _ (W k : ℕ) (lower upper : List ℕ) (room : ℕ) where
  -- the ask that a short ask is
  abbrev longer : ℕ → Call
  longer u = ask_by u k lower upper short_aim short_aim room

  -- the session rules take a short ask as the ask
  short_rule : (m : Meaning) (x : Others) (bs : List ℕ) → rule W m x bs (short_ask k lower upper room)
      ≡ rule W m x bs (ask k (record { lower = lower; upper = upper; permission_aim = short_aim; role_aim = short_aim; room = room }))
  unfolding rule unless short_aim session_of query_of can_give applies first perform
  short_rule m x bs = refl

  module _ (u : ℕ) (image ledger : List ℕ) where
    -- and so does the call
    short_step : (c : Checked) → step_by W c (policy_of image) ledger (longer u) ≡ step_by W c (policy_of image) ledger (short_ask_by u k lower upper room)
    unfolding step_by step_on ruled told is_ask short_ask_by ask_by
    short_step (Refused n place) = refl
    short_step (Accepted h) = rw (short_rule (meaning (policy_of image) u) (told W (policy_of image) ledger (longer u)) (line_at (line_size W) u ledger))

    -- what a host gets of the ask is what it gets of the short ask
    pub short_given : {n : ℕ} {after buffer answer : List ℕ} → Answers (step W image ledger (longer u)) n after buffer answer
        → Answers (step W image ledger (short_ask_by u k lower upper room)) n after buffer answer
    unfolding step
    short_given {n} {after} {buffer} {answer} = subst (λ (x : Event). Answers x n after buffer answer) (short_step (judge image))
