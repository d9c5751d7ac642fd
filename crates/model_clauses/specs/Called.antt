-- What is claimed of the clause text that a call writes, read back: it is about the sets that an ask of the same user,
-- for the same session and on the same ledger, may be answered with.
-- Assumes nothing.
use Rattle.std.specs.Prelude.{◌≡◌, true, false, ◌↔◌, List, ℕ, ◌+◌, ◌≤◌, ◌<◌, get_or}
use Rattle.std.proofs.Math.Option.{some}
use Rattle.model.specs.Sets.{has}
use Rattle.model.specs.Bytes.{number}
use Rattle.model.specs.Policy.{Policy, policy_of, limited, meaning}
use Rattle.model.specs.Line.{holding, put_in}
use Rattle.model.specs.Choice.{carried_by}
use Rattle.model.specs.Conditions.{Admitted}
use Rattle.model.specs.Clauses.{permission_variable}
use Rattle.model.specs.Session.{given}
use Rattle.model.specs.Run.{line_of, held_by_others, step, ask_by, short_ask_by, clauses_by}
use Rattle.model_clauses.specs.Satisfied.{Valuation, satisfies_all, violated, named}
use Rattle.model_clauses.specs.Reading.{Problem, read_text}

-- the sets that an ask for session k of user u may be answered with: 001's conditions, and 001's CARD over the sessions
-- of all users, the user's own other sessions among them
pub record MayAnswer (W : ℕ) (p : Policy) (ledger : List ℕ) (u k lb ub s : ℕ) : Type 0 where
  pub admitted : Admitted p u (line_of W ledger u) k lb ub s
  pub card : (r : ℕ) → has s r ≡ true → limited p.limits r ≡ true
      → held_by_others W p u ledger r + holding r (put_in k s (line_of W ledger u)).sessions < get_or p.limits r 0

-- what a text says of the asks of user u for session k with the same bounds; a model is a valuation that satisfies its
-- hard clauses
pub record TextSays (W : ℕ) (image ledger : List ℕ) (u k : ℕ) (lower upper : List ℕ) (a b : ℕ) (said : Problem) : Type 0 where
  -- each model names a set that may answer
  pub names : (v : Valuation) → satisfies_all v said.hard ≡ true
      → MayAnswer W (policy_of image) ledger u k (number lower) (number upper) (named (meaning (policy_of image) u) v)
  -- and its permissions are those that the set carries
  pub carries : (v : Valuation) → satisfies_all v said.hard ≡ true → (q : ℕ) → q < (policy_of image).head.permissions
      → v (permission_variable (meaning (policy_of image) u) q) ≡ has (carried_by (meaning (policy_of image) u) (named (meaning (policy_of image) u) v)) q
  -- each set that may answer is named by a model
  pub extends : (s : ℕ) → MayAnswer W (policy_of image) ledger u k (number lower) (number upper) s
      → (v : Valuation) × (satisfies_all v said.hard ≡ true) × (named (meaning (policy_of image) u) v ≡ s)
  -- an ask, whatever its objectives, is answered 20 exactly if there is no model
  pub twenty : (c d : ℕ) → c ≤ 2 → d ≤ 2
      → ((step W image ledger (ask_by u k lower upper c d 40)).reply.number ≡ 20) ↔ ((v : Valuation) → satisfies_all v said.hard ≡ false)
  -- so is a short ask
  pub short_twenty : ((step W image ledger (short_ask_by u k lower upper 40)).reply.number ≡ 20) ↔ ((v : Valuation) → satisfies_all v said.hard ≡ false)
  -- an ask with the text's own objectives that is done answers with a set whose models violate the least weight
  pub optimum : (step W image ledger (ask_by u k lower upper a b 40)).reply.number ≡ 0
      → (s : ℕ) × ((step W image ledger (ask_by u k lower upper a b 40)).reply ≡ given s (carried_by (meaning (policy_of image) u) s))
      × ((v : Valuation) → satisfies_all v said.hard ≡ true → named (meaning (policy_of image) u) v ≡ s
      → (w : Valuation) → satisfies_all w said.hard ≡ true → violated v said.soft ≤ violated w said.soft)

-- whatever a clause text that is done fills in is read, and says so
abbrev pub CallSays : ℕ → List ℕ → Type 0
CallSays W image = (ledger : List ℕ) (u k : ℕ) (lower upper : List ℕ) (a b room : ℕ)
    → (step W image ledger (clauses_by u k lower upper a b room)).reply.number ≡ 0
    → (said : Problem) × (read_text (step W image ledger (clauses_by u k lower upper a b room)).reply.filled ≡ some said)
    × TextSays W image ledger u k lower upper a b said
