-- A call by what it holds of its image: under a refused image, and under an accepted one by its policy.
-- Assumes nothing.
use mathlib.Core.Path.{◌≡◌, sym, ap, subst, ◌∙◌}
use mathlib.Core.List.{List}
use Prim.Native.Nat.{ℕ, ◌+◌, ◌*◌}
use Rattle.model.specs.declared.Head.{Head}
use Rattle.model.specs.declared.Checked.TheVariants.{Accepted, Refused}
use Rattle.model.specs.Judgement.{judge}
use Rattle.model.specs.Policy.{policy_of}
use Rattle.model.specs.Session.{refuse}
use Rattle.model.specs.Run.{Call, Event, step_on, step_by, step, returned, filled_with, answered, written}
use Rattle.sessions.specs.Calls.{Gives, Shows}
use Rattle.asks.specs.Asks.{Answers}
use Rattle.asks_clauses.specs.Tells.{Tells}

module _ (s : List ℕ) (W : ℕ) (ledger : List ℕ) (c : Call) where
  -- a refused image ends the call there
  module _ {n place : ℕ} (g : judge s ≡ Refused n place) {r : ℕ} (q : r ≡ n + 256 * place) where
    refused : step W s ledger c ≡ record { reply = refuse n place; ledger = ledger }
    unfolding step step_by
    refused = rw g

    pub returned-refused : r ≡ returned (step W s ledger c).reply
    unfolding returned refuse
    returned-refused = q ∙ sym (ap (λ (x : Event). returned x.reply) refused)

    pub gives-refused : Gives (step W s ledger c) r ledger
    gives-refused = record { number = returned-refused; bytes = sym (ap (λ (x : Event). x.ledger) refused) }

    pub shows-refused : (room : List ℕ) → Shows (step W s ledger c) r room room
    unfolding refuse answered filled_with
    shows-refused room = record { number = returned-refused; buffer = sym (ap (λ (x : Event). answered room x.reply) refused) }

    pub answers_refused : (room : List ℕ) → Answers (step W s ledger c) r ledger room room
    answers_refused room = record { number = returned-refused; bytes = gives-refused.bytes; buffer = (shows-refused room).buffer }

    pub tells-refused : (room : List ℕ) → Tells (step W s ledger c) r room room
    unfolding refuse written
    tells-refused room = record { number = returned-refused; buffer = sym (ap (λ (x : Event). written room x.reply) refused) }

  -- under an accepted one it goes by the policy
  module _ {h : Head} (g : judge s ≡ Accepted h) where
    by_policy : step_on W (policy_of s) ledger c ≡ step W s ledger c
    unfolding step step_by
    by_policy = rw g

    pub returned_by : {r : ℕ} → r ≡ returned (step_on W (policy_of s) ledger c).reply → r ≡ returned (step W s ledger c).reply
    returned_by {r} = subst (λ (x : Event). r ≡ returned x.reply) by_policy

    pub gives_by : {r : ℕ} {after : List ℕ} → Gives (step_on W (policy_of s) ledger c) r after → Gives (step W s ledger c) r after
    gives_by {r} {after} = subst (λ (x : Event). Gives x r after) by_policy

    pub shows_by : {r : ℕ} {room out : List ℕ} → Shows (step_on W (policy_of s) ledger c) r room out → Shows (step W s ledger c) r room out
    shows_by {r} {room} {out} = subst (λ (x : Event). Shows x r room out) by_policy

    pub answers_by : {r : ℕ} {after room out : List ℕ} → Answers (step_on W (policy_of s) ledger c) r after room out
        → Answers (step W s ledger c) r after room out
    answers_by {r} {after} {room} {out} = subst (λ (x : Event). Answers x r after room out) by_policy

    pub tells_by : {r : ℕ} {room out : List ℕ} → Tells (step_on W (policy_of s) ledger c) r room out → Tells (step W s ledger c) r room out
    tells_by {r} {room} {out} = subst (λ (x : Event). Tells x r room out) by_policy
