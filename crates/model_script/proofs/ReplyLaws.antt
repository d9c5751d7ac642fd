-- An answer's number is one of the register's, so it and the extra can be told apart in what a call returns.
-- Assumes nothing.
use mathlib.Core.Path.{◌≡◌}
use mathlib.Core.Option.{Option, none, some}
use mathlib.Core.List.{List}
use Prim.Native.Nat.{ℕ, ◌/◌, ◌%◌, ◌<◌}
use native.Mathlib.Omega.{arith}
use Rattle.model.specs.declared.Checked.{Checked}
use Rattle.model.specs.declared.Checked.TheVariants.{Accepted, Refused}
use Rattle.model.specs.Policy.{Policy, Meaning, policy_of, meaning}
use Rattle.model.specs.Judgement.{judge}
use Rattle.model.specs.Limits.{Others}
use Rattle.model.specs.Obstacle.{Obstacle}
use Rattle.model.specs.Session.{Operation, open_session, close_session, ask, short_ask, show, explain, obstacle, clauses, Reply, refuse, done, given, tell, wrote, Result, Refusal, bad_other, bad_line, bad_session, is_closed, is_full, bad_set, bad_permission, bad_bounds, bad_aim, bad_room, no_set, not_below, not_carried, bad_pair, no_obstacle, too_long, refusal_number, asked, explained, obstructed, perform, unless, rule}
use Rattle.model.specs.Run.{Call, Event, step, step_by, step_on, ruled, returned}
use Rattle.model_laws.proofs.Bools.{pick-case}
use Rattle.model_laws.proofs.ImageNumbers.{Numbered}
use Rattle.model_laws.proofs.Judgements.{judge-numbered}

-- ---- of an image

-- a judgement's refusal is below 256
unfoldable Small : Checked → Type 0
Small (Accepted h) = 0 < 256
Small (Refused n x) = n < 256

judge-small : (s : List ℕ) → Small (judge s)
unfolding Small
judge-small s = go (judge s) (judge-numbered s)
  where
    go : (c : Checked) → Numbered 23 c → Small c
    go (Refused n place) k = omega arith
    go (Accepted h) k = omega arith

-- ---- of the session rules

refusal-small : (r : Refusal) → refusal_number r < 256
unfolding refusal_number
refusal-small bad_other = omega arith
refusal-small bad_line = omega arith
refusal-small bad_session = omega arith
refusal-small is_closed = omega arith
refusal-small is_full = omega arith
refusal-small bad_set = omega arith
refusal-small bad_permission = omega arith
refusal-small bad_bounds = omega arith
refusal-small bad_aim = omega arith
refusal-small bad_room = omega arith
refusal-small no_set = omega arith
refusal-small (not_below n) = omega arith
refusal-small (not_carried n) = omega arith
refusal-small bad_pair = omega arith
refusal-small no_obstacle = omega arith
refusal-small too_long = omega arith

asked-small : (m : Meaning) (l : _) (bs : List ℕ) (k : ℕ) (o : Option ℕ) → (asked m l bs k o).reply.number < 256
unfolding asked refuse given
asked-small m l bs k none = omega arith
asked-small m l bs k (some s) = omega arith

explained-small : (bs : List ℕ) (o : Option ℕ) → (explained bs o).reply.number < 256
unfolding explained refuse done
explained-small bs none = omega arith
explained-small bs (some x) = omega arith

obstructed-small : (bs : List ℕ) (o : Option Obstacle) → (obstructed bs o).reply.number < 256
unfolding obstructed refuse tell
obstructed-small bs none = omega arith
obstructed-small bs (some x) = omega arith

perform-small : (W : ℕ) (m : Meaning) (x : Others) (l : _) (bs : List ℕ) (op : Operation) → (perform W m x l bs op).reply.number < 256
unfolding perform done given wrote
perform-small W m x l bs open_session = omega arith
perform-small W m x l bs (close_session k) = omega arith
perform-small W m x l bs (ask k q) = asked-small m l bs k _
perform-small W m x l bs (short_ask k lower upper room) = asked-small m l bs k _
perform-small W m x l bs (show k room) = omega arith
perform-small W m x l bs (explain k n) = explained-small bs _
perform-small W m x l bs (obstacle k lower upper room) = obstructed-small bs _
perform-small W m x l bs (clauses k q) = omega arith

unless-small : (x : Others) (o : Option Refusal) (bs : List ℕ) (r : Result) → r.reply.number < 256 → (unless x o bs r).reply.number < 256
unfolding unless refuse
unless-small x none bs r h = h
unless-small x (some f) bs r h = refusal-small f

rule-small : (W : ℕ) (m : Meaning) (x : Others) (bs : List ℕ) (op : Operation) → (rule W m x bs op).reply.number < 256
unfolding rule
rule-small W m x bs op = unless-small x _ bs _ (perform-small W m x _ bs op)

-- ---- of a call

step_on-small : (W : ℕ) (p : Policy) (ledger : List ℕ) (c : Call) → (step_on W p ledger c).reply.number < 256
unfolding step_on ruled refuse
step_on-small W p ledger c =
    pick-case (λ (e : Event). e.reply.number < 256) _ _ _ (λ _. omega arith)
    (λ _. pick-case (λ (e : Event). e.reply.number < 256) _ _ _ (λ _. omega arith) (λ _. rule-small W (meaning p c.user) _ _ c.operation))

step_by-small : (W : ℕ) (j : Checked) (p : Policy) (ledger : List ℕ) (c : Call) → Small j → (step_by W j p ledger c).reply.number < 256
unfolding step_by refuse Small
step_by-small W (Accepted h) p ledger c s = step_on-small W p ledger c
step_by-small W (Refused n place) p ledger c s = omega arith

-- the number of an answer is below 256
pub step_small : (W : ℕ) (image ledger : List ℕ) (c : Call) → (step W image ledger c).reply.number < 256
unfolding step
step_small W image ledger c = step_by-small W (judge image) (policy_of image) ledger c (judge-small image)

-- the number and the extra, taken out of what a host is returned
pub number-returned : (r : Reply) → r.number < 256 → returned r % 256 ≡ r.number
unfolding returned
number-returned r h = omega arith

pub extra_returned : (r : Reply) → r.number < 256 → returned r / 256 ≡ r.extra
unfolding returned
extra_returned r h = omega arith
