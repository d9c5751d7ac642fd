-- What the theorems on the clauses of an ask are about: an accepted policy, a user's line at which every exclusion is
-- met, as at every sound one, and one of its sessions.
-- Assumes nothing.
use Rattle.std.specs.Prelude.{◌≡◌, true, List, ℕ, ◌<◌, length}
use Rattle.model.specs.declared.Head.{Head}
use Rattle.model.specs.declared.Line.{Line}
use Rattle.model.specs.declared.Checked.TheVariants.{Accepted}
use Rattle.model.specs.Judgement.{judge}
use Rattle.model.specs.Policy.{Meaning, policy_of, meaning}
use Rattle.model.specs.Limits.{Others, unbarred}
use Rattle.model.specs.Line.{exclusions_met}

-- user u may ask for session k of the line l, under the policy of the image s
pub record MayAsk (s : List ℕ) (u : ℕ) (l : Line) (k : ℕ) : Type 0 where
  pub head : Head
  pub accepted : judge s ≡ Accepted head
  pub session : k < length l.sessions
  pub met : exclusions_met (meaning (policy_of s) u) l ≡ true

-- what the policy then means to user u for a choice for session k, given what is told of the other users: barred roles
-- are not u's
abbrev pub left : List ℕ → ℕ → Others → Line → ℕ → Meaning
left s u x l k = unbarred (meaning (policy_of s) u) x l k
