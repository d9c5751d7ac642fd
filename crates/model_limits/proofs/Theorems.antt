-- The theorems on limits, each one claim. The arguments stand in the files that are cited; docs/PROOFS.md says which
-- demand each one meets.
-- Assumes nothing.
use mathlib.Core.Path.{◌≡◌}
use mathlib.Core.Bool.{false}
use mathlib.Core.List.{List}
use Prim.Native.Nat.{ℕ, ◌≤◌}
use Rattle.model.specs.declared.Head.{Head}
use Rattle.model.specs.declared.Checked.TheVariants.{Accepted}
use Rattle.model.specs.Judgement.{judge}
use Rattle.model.specs.Policy.{Meaning}
use Rattle.model.specs.Limits.{Others}
use Rattle.model.specs.Session.{Operation, is_ask, rule}
use Rattle.model.specs.Read.{LimitsRead}
use Rattle.model_laws.proofs.Judgements.{words_pass}
use Rattle.model_limits.specs.Card.{LimitsKept}
use Rattle.model_limits.specs.Eleven.{AsksEleven}
use Rattle.model_limits.specs.Apart.{ApartLimited}
use Rattle.model_limits.proofs.LimitTable
use Rattle.model_limits.proofs.OneLine
use Rattle.model_limits.proofs.CardProof
use Rattle.model_limits.proofs.ElevenProof
use Rattle.model_limits.proofs.ApartProof

module _ (s : List ℕ) (h : Head) (accepted : judge s ≡ Accepted h) where
  -- a role's limit is the smallest that a word gives it
  pub limits_read : LimitsRead s
  limits_read = LimitTable.limits_read s h (words_pass s h accepted)

  -- what an ask puts in is within its limits, and where no role is over its limit before a call, none is after it
  pub limits_kept : (W : ℕ) → W ≤ 64 → LimitsKept W s
  limits_kept W wide = CardProof.limits_kept W wide s h accepted

  -- an ask, an obstacle or a clause text under a policy with limits is refused by 11 exactly if some line is not sound,
  -- and names the lowest user with one
  pub asks_eleven : (W : ℕ) → W ≤ 64 → AsksEleven W s
  asks_eleven W wide = ElevenProof.asks_eleven W wide s h accepted

-- an open, a close, a show and an explain look at one line
pub one_line : (W : ℕ) (m : Meaning) (x y : Others) (bs : List ℕ) (op : Operation) → is_ask op ≡ false → rule W m x bs op ≡ rule W m y bs op
one_line = OneLine.one_line

-- two runs under a policy with limits that differ in all that others may change are the same for a user
pub apart_limited : ApartLimited
apart_limited = ApartProof.apart_limited
