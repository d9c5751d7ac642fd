-- Calls on a whole ledger, and runs of them: the image is judged, the ledger's length and the user's number are tested,
-- and the session rules are fed the user's line and, at an ask under a policy with limits, what the other users' lines
-- hold.
-- Assumes nothing.
use Rattle.std.specs.Prelude.{not, Bool, true, false, ◌&&◌, List, [], ◌∷◌, ◌++◌, ℕ, ◌+◌, ◌*◌, eqb, ltb, length, take, drop}
use Rattle.model.specs.declared.Line.{Line}
use Rattle.model.specs.declared.Checked.{Checked}
use Rattle.model.specs.declared.Checked.TheVariants.{Accepted, Refused}
use Rattle.model.specs.Tests.{pick, first}
use Rattle.model.specs.Sets.{sum_to}
use Rattle.model.specs.Judgement.{judge}
use Rattle.model.specs.Policy.{Policy, policy_of, table_of, limited, has_limits, meaning}
use Rattle.model.specs.Line.{line_size, read_line, holding, sound}
use Rattle.model.specs.Limits.{Others, nobody}
use Rattle.model.specs.Session.{Operation, open_session, close_session, ask, short_ask, show, explain, obstacle, clauses, is_ask, Reply, refuse, rule}

-- a call is made by the user that it names
pub record Call : Type 0 where
  pub user : ℕ
  pub operation : Operation

-- ---- lines of a ledger, z bytes each

-- the line of user u
unfoldable pub line_at : ℕ → ℕ → List ℕ → List ℕ
line_at z u ledger = take z (drop (z * u) ledger)

-- the ledger with the line of user u replaced
unfoldable pub with_line : ℕ → ℕ → List ℕ → List ℕ → List ℕ
with_line z u bs ledger = take (z * u) ledger ++ (bs ++ drop (z * u + z) ledger)

-- the line of user u as a value, for W sessions
unfoldable pub line_of : ℕ → List ℕ → ℕ → Line
line_of W ledger u = read_line W (line_at (line_size W) u ledger)

-- ---- the other users, under an accepted policy

-- in how many sessions of user v role r is active
unfoldable pub holding_of : ℕ → List ℕ → ℕ → ℕ → ℕ
holding_of W ledger r v = holding r (line_of W ledger v).sessions

-- in how many sessions of users other than u role r is active
unfoldable pub held_by_others : ℕ → Policy → ℕ → List ℕ → ℕ → ℕ
held_by_others W p u ledger r = sum_to (λ v. pick (eqb v u) 0 (holding_of W ledger r v)) p.head.users

-- v is a user other than u whose line is not sound
unfoldable pub unsound_other : ℕ → Policy → ℕ → List ℕ → ℕ → Bool
unsound_other W p u ledger v = not (eqb v u) && not (sound W (meaning p v) (line_of W ledger v))

unfoldable pub others_of : ℕ → Policy → ℕ → List ℕ → Others
others_of W p u ledger =
    record {
      held = λ r. pick (limited p.limits r) (held_by_others W p u ledger r) 0;
      unsound = first (unsound_other W p u ledger) (table_of p.head.users (λ v. v));
    }

-- what a call is told of the other users: nothing, unless it looks at them and the policy has limits
unfoldable pub told : ℕ → Policy → List ℕ → Call → Others
told W p ledger c = elim (is_ask c.operation && has_limits p) [ true ↦ others_of W p c.user ledger | false ↦ nobody ]

-- ---- one call

-- an answer, and the ledger after the call
pub record Event : Type 0 where
  pub reply : Reply
  pub ledger : List ℕ

-- of a user with a line
unfoldable pub ruled : ℕ → Policy → List ℕ → Call → Event
ruled W p ledger c =
    let r = rule W (meaning p c.user) (told W p ledger c) (line_at (line_size W) c.user ledger) c.operation in
    record { reply = r.reply; ledger = with_line (line_size W) c.user r.line ledger }

-- under an accepted policy: 9 for a ledger that does not fit, 10 for a user without a line
unfoldable pub step_on : ℕ → Policy → List ℕ → Call → Event
step_on W p ledger c =
    let e = ruled W p ledger c in
    pick (not (eqb (length ledger) (line_size W * p.head.users))) (record { reply = refuse 9 0; ledger = ledger })
    (pick (not (ltb c.user p.head.users)) (record { reply = refuse 10 0; ledger = ledger }) e)

-- under a judged image: a refused one ends the call there, with its number and what it names
unfoldable pub step_by : ℕ → Checked → Policy → List ℕ → Call → Event
step_by W (Refused n place) p ledger c = record { reply = refuse n place; ledger = ledger }
step_by W (Accepted h) p ledger c = step_on W p ledger c

-- a call, given the bytes of an image and of a ledger
unfoldable pub step : ℕ → List ℕ → List ℕ → Call → Event
step W image ledger c = step_by W (judge image) (policy_of image) ledger c

-- ---- a list of calls under one image, each on the ledger that the one before left

unfoldable pub run : ℕ → List ℕ → List ℕ → List Call → List Event
run W image ledger [] = []
run W image ledger (c ∷ cs) = let e = step W image ledger c in e ∷ run W image e.ledger cs

-- ---- what a host is returned

-- the number plus 256 times the extra
unfoldable pub returned : Reply → ℕ
returned r = r.number + 256 * r.extra

-- the answer buffer after the call: what fills it, else as it was
unfoldable pub filled_with : List ℕ → List ℕ → List ℕ
filled_with room [] = room
filled_with room (b ∷ bs) = b ∷ bs

unfoldable pub answered : List ℕ → Reply → List ℕ
answered room r = filled_with room r.filled

-- the buffer of a clause text after the call: what fills it from its front on, and behind that as it was
unfoldable pub written : List ℕ → Reply → List ℕ
written room r = r.filled ++ drop (length r.filled) room

-- ---- the calls of a host; bounds by their bytes, an answer buffer by its length

unfoldable pub open_by : ℕ → Call
open_by u = record { user = u; operation = open_session }

unfoldable pub close_by : ℕ → ℕ → Call
close_by u k = record { user = u; operation = close_session k }

unfoldable pub ask_by : ℕ → ℕ → List ℕ → List ℕ → ℕ → ℕ → ℕ → Call
ask_by u k lower upper a b room =
    record { user = u; operation = ask k (record { lower = lower; upper = upper; permission_aim = a; role_aim = b; room = room }) }

unfoldable pub short_ask_by : ℕ → ℕ → List ℕ → List ℕ → ℕ → Call
short_ask_by u k lower upper room = record { user = u; operation = short_ask k lower upper room }

unfoldable pub show_by : ℕ → ℕ → ℕ → Call
show_by u k room = record { user = u; operation = show k room }

unfoldable pub explain_by : ℕ → ℕ → ℕ → Call
explain_by u k n = record { user = u; operation = explain k n }

unfoldable pub obstacle_by : ℕ → ℕ → List ℕ → List ℕ → ℕ → Call
obstacle_by u k lower upper room = record { user = u; operation = obstacle k lower upper room }

unfoldable pub clauses_by : ℕ → ℕ → List ℕ → List ℕ → ℕ → ℕ → ℕ → Call
clauses_by u k lower upper a b room =
    record { user = u; operation = clauses k (record { lower = lower; upper = upper; permission_aim = a; role_aim = b; room = room }) }
