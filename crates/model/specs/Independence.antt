-- The independence rule: what a user sees of a run, what the session rules give that user, and the claim that these are
-- the same, whatever the other users' assignments, lines and calls are. Under a policy with limits the rules go by what
-- the user's asks are told of the other users, and by nothing else of them.
-- Assumes nothing.
use Rattle.std.specs.Prelude.{◌≡◌, Bool, true, false, ◌&&◌, ◌||◌, List, [], ◌∷◌, ℕ, ◌*◌, ◌<◌, eqb, length, get_or, drop}
use Rattle.model.specs.declared.Head.{Head}
use Rattle.model.specs.declared.Checked.TheVariants.{Accepted}
use Rattle.model.specs.Tests.{pick, any}
use Rattle.model.specs.Judgement.{judge}
use Rattle.model.specs.Policy.{Meaning, policy_of, has_limits, meaning, only_for, Agree, Policy}
use Rattle.model.specs.Line.{line_size}
use Rattle.model.specs.Limits.{Others, nobody}
use Rattle.model.specs.Session.{Operation, is_text, Result, done, rule}
use Rattle.model.specs.Run.{Call, Event, line_at, told, run}
use Rattle.model.specs.OwnWords.{policy_in, own_words}

-- ---- the session rules alone

-- the session rules over a list of one user's calls, each on the line that the one before left: every answer, with the
-- line after it; the calls are told the members of xs in turn, and nothing of other users where there is none
unfoldable pub rules : ℕ → Meaning → List ℕ → List Others → List Operation → List Result
rules W m bs xs [] = []
rules W m bs xs (o ∷ os) = let r = rule W m (get_or xs 0 nobody) bs o in r ∷ rules W m r.line (drop 1 xs) os

-- ---- a run

-- a run: an accepted image, a ledger of the fitting length, and calls by anybody
pub record Run (W : ℕ) : Type 0 where
  pub image : List ℕ
  pub head : Head
  pub accepted : judge image ≡ Accepted head
  pub ledger : List ℕ
  pub fits : length ledger ≡ line_size W * head.users
  pub calls : List Call

-- the answers of a run, each with the ledger after it
unfoldable pub events_of : (W : ℕ) → Run W → List Event
events_of W r = run W r.image r.ledger r.calls

-- ---- one user's part of a run

-- the calls of user u, all others struck out
unfoldable pub calls_of : ℕ → List Call → List Operation
calls_of u [] = []
calls_of u (c ∷ cs) = elim (eqb c.user u) [ true ↦ c.operation ∷ calls_of u cs | false ↦ calls_of u cs ]

-- the answers at u's calls, each with u's line after it
unfoldable pub seen_by : ℕ → ℕ → List Call → List Event → List Result
seen_by z u [] es = []
seen_by z u (c ∷ cs) [] = []
seen_by z u (c ∷ cs) (e ∷ es) =
    elim (eqb c.user u) [ true ↦ record { reply = e.reply; line = line_at z u e.ledger } ∷ seen_by z u cs es | false ↦ seen_by z u cs es ]

-- what user u sees of a run: number, extra and filled bytes of each answer, and the line after it
unfoldable pub view_of : (W u : ℕ) → Run W → List Result
view_of W u r = seen_by (line_size W) u r.calls (events_of W r)

-- what each of u's calls is told of the other users, from the ledger before it
unfoldable pub told_by : ℕ → Policy → ℕ → List ℕ → List Call → List Event → List Others
told_by W p u ledger [] es = []
told_by W p u ledger (c ∷ cs) [] = []
told_by W p u ledger (c ∷ cs) (e ∷ es) =
    elim (eqb c.user u) [ true ↦ told W p ledger c ∷ told_by W p u e.ledger cs es | false ↦ told_by W p u e.ledger cs es ]

-- what user u is told of the other users in a run, call by call; nothing at all under a policy without limits
unfoldable pub told_of : (W u : ℕ) → Run W → List Others
told_of W u r =
    elim (has_limits (policy_of r.image)) [
      | true ↦ told_by W (policy_of r.image) u r.ledger r.calls (events_of W r)
      | false ↦ []
    ]

-- the line of user u before the first call
unfoldable pub first_line : (W u : ℕ) → Run W → List ℕ
first_line W u r = line_at (line_size W) u r.ledger

-- No call of another user changes the line of user u, which is bs before the first of the calls.
pub data Steady (z u : ℕ) : List ℕ → List Call → List Event → Type 0 where
  no_call : {bs : List ℕ} → Steady z u bs [] []
  own_call : {bs : List ℕ} {c : Call} {cs : List Call} {e : Event} {es : List Event} → c.user ≡ u
      → Steady z u (line_at z u e.ledger) cs es → Steady z u bs (c ∷ cs) (e ∷ es)
  other_call : {bs : List ℕ} {c : Call} {cs : List Call} {e : Event} {es : List Event} → ¬ (c.user ≡ u) → line_at z u e.ledger ≡ bs
      → Steady z u bs cs es → Steady z u bs (c ∷ cs) (e ∷ es)

-- no call of another user changes u's line in the run
abbrev pub SteadyFor : (W u : ℕ) → Run W → Type 0
SteadyFor W u r = Steady (line_size W) u (first_line W u r) r.calls (events_of W r)

-- ---- the claim

-- a clause text is among the calls
unfoldable pub has_text : List Operation → Bool
has_text os = any is_text os

-- a result without what follows the order of the image's words: of a clause text that is written, or refused by 19 as
-- too long, the line after it is left, and not which of the two it is, nor the text; every other result is left whole
unfoldable pub beside_text : Operation → Result → Result
beside_text o r = pick (is_text o && (eqb r.reply.number 0 || eqb r.reply.number 19)) (record { reply = done 0; line = r.line }) r

-- the results of calls in turn, each so
unfoldable pub beside_texts : List Operation → List Result → List Result
beside_texts [] rs = rs
beside_texts (o ∷ os) [] = []
beside_texts (o ∷ os) (r ∷ rs) = beside_text o r ∷ beside_texts os rs

-- two runs that are the same for user u, who has a line: the policies agree in all but other users' assignments, the
-- first ledgers agree in u's line, u makes the same calls in the same order and, where the policy has limits, is told
-- the same of the other users
pub record SameFor (W u : ℕ) (r s : Run W) : Type 0 where
  pub agree : Agree u (policy_of r.image) (policy_of s.image)
  pub below : u < r.head.users
  pub line : first_line W u r ≡ first_line W u s
  pub calls : calls_of u r.calls ≡ calls_of u s.calls
  pub told : told_of W u r ≡ told_of W u s

-- where a clause text is among u's calls, both images, other users' assignments and the end word left out, are the same
-- words in the same order
abbrev pub SameWords : (W u : ℕ) → Run W → Run W → Type 0
SameWords W u r s = has_text (calls_of u r.calls) ≡ true → own_words u r.image ≡ own_words u s.image

-- User u sees the same in both runs: at every call, texts that are written or too long aside, and at these too where
-- the words are the same. It is what the session rules give from u's own policy, first line, calls and what those are
-- told; nobody else's call changes u's line. The rules may be fed the image's words in place of the policy, other
-- users' assignments and the end word left out.
pub record Independent (W u : ℕ) (r s : Run W) : Type 0 where
  pub beside_texts_lem : beside_texts (calls_of u r.calls) (view_of W u r) ≡ beside_texts (calls_of u s.calls) (view_of W u s)
  pub same : SameWords W u r s → view_of W u r ≡ view_of W u s
  pub by_rules : view_of W u r ≡ rules W (meaning (only_for u (policy_of r.image)) u) (first_line W u r) (told_of W u r) (calls_of u r.calls)
  pub by_words : view_of W u r ≡ rules W (meaning (policy_in (own_words u r.image)) u) (first_line W u r) (told_of W u r) (calls_of u r.calls)
  pub steady : SteadyFor W u r × SteadyFor W u s
