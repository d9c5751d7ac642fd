-- The session rules: what a call does to one user's line, and what it answers, given what it is told of the other
-- users.
-- Assumes nothing.
use Rattle.std.specs.Prelude.{Bool, true, false, ◌&&◌, ◌||◌, not, List, [], ◌∷◌, ◌++◌, ℕ, ◌+◌, ◌*◌, ◌^◌, eqb, ltb, leb, length}
use Rattle.std.proofs.Math.Option.{Option, none, some}
use Rattle.model.specs.declared.Line.{Line}
use Rattle.model.specs.Tests.{first, is_some}
use Rattle.model.specs.Sets.{within, count, lowest_in}
use Rattle.model.specs.Bytes.{number, bytes_of}
use Rattle.model.specs.Policy.{Meaning}
use Rattle.model.specs.Line.{read_line, write_line, session_at, is_open, sound, lowest_closed, opening, closing, put_in}
use Rattle.model.specs.Limits.{Others, unbarred}
use Rattle.model.specs.Choice.{carried_by, choose}
use Rattle.model.specs.Obstacle.{Obstacle, obstacle_of}
use Rattle.model.specs.Dimacs.{text_of}

-- ---- calls

-- what an ask or a clause text asks for: the bounds as their bytes, both objectives, and the answer buffer's length
pub record Query : Type 0 where
  pub lower : List ℕ
  pub upper : List ℕ
  pub permission_aim : ℕ
  pub role_aim : ℕ
  pub room : ℕ

-- what a user may call for; a number is a session's, that of a show after it the answer buffer's length, that of an
-- explain after it a permission; a short ask and an obstacle have both bounds as their bytes, then the buffer's length
pub data Operation : Type 0 where
  open_session : Operation
  close_session : ℕ → Operation
  ask : ℕ → Query → Operation
  short_ask : ℕ → List ℕ → List ℕ → ℕ → Operation
  show : ℕ → ℕ → Operation
  explain : ℕ → ℕ → Operation
  obstacle : ℕ → List ℕ → List ℕ → ℕ → Operation
  clauses : ℕ → Query → Operation

-- both objectives of a short ask: fewest permissions, then fewest roles
unfoldable pub short_aim : ℕ
short_aim = 1

-- the session that a call names
unfoldable pub session_of : Operation → ℕ
session_of open_session = 0
session_of (close_session k) = k
session_of (ask k q) = k
session_of (short_ask k lower upper room) = k
session_of (show k room) = k
session_of (explain k n) = k
session_of (obstacle k lower upper room) = k
session_of (clauses k q) = k

-- what a call asks for; a call that asks for nothing has no bounds, and a call with no answer buffer no room
unfoldable pub query_of : Operation → Query
query_of open_session = record { lower = []; upper = []; permission_aim = 0; role_aim = 0; room = 0 }
query_of (close_session k) = record { lower = []; upper = []; permission_aim = 0; role_aim = 0; room = 0 }
query_of (ask k q) = q
query_of (short_ask k lower upper room) = record { lower = lower; upper = upper; permission_aim = short_aim; role_aim = short_aim; room = room }
query_of (show k room) = record { lower = []; upper = []; permission_aim = 0; role_aim = 0; room = room }
query_of (explain k n) = record { lower = []; upper = []; permission_aim = 0; role_aim = 0; room = 0 }
query_of (obstacle k lower upper room) = record { lower = lower; upper = upper; permission_aim = 0; role_aim = 0; room = room }
query_of (clauses k q) = q

-- the call asks for a clause text, which alone goes by the order of the image's words
unfoldable pub is_text : Operation → Bool
is_text open_session = false
is_text (close_session k) = false
is_text (ask k q) = false
is_text (short_ask k lower upper room) = false
is_text (show k room) = false
is_text (explain k n) = false
is_text (obstacle k lower upper room) = false
is_text (clauses k q) = true

-- an ask, of either form, an obstacle or a clause text: the calls that look at the other users, under a policy with
-- limits
unfoldable pub is_ask : Operation → Bool
is_ask open_session = false
is_ask (close_session k) = false
is_ask (ask k q) = true
is_ask (short_ask k lower upper room) = true
is_ask (show k room) = false
is_ask (explain k n) = false
is_ask (obstacle k lower upper room) = true
is_ask (clauses k q) = true

-- an ask, of either form: the calls that put roles in
unfoldable pub puts_in : Operation → Bool
puts_in open_session = false
puts_in (close_session k) = false
puts_in (ask k q) = true
puts_in (short_ask k lower upper room) = true
puts_in (show k room) = false
puts_in (explain k n) = false
puts_in (obstacle k lower upper room) = false
puts_in (clauses k q) = false

-- how many bytes a call fills, where it fills a buffer and is no clause text: two role sets of 8 bytes, else roles and
-- permissions
unfoldable pub answer_size : Operation → ℕ
answer_size open_session = 40
answer_size (close_session k) = 40
answer_size (ask k q) = 40
answer_size (short_ask k lower upper room) = 40
answer_size (show k room) = 40
answer_size (explain k n) = 40
answer_size (obstacle k lower upper room) = 16
answer_size (clauses k q) = 40

-- ---- answers

-- a call's answer: its number, its extra, and the bytes that fill the answer buffer, none where it is left alone
pub record Reply : Type 0 where
  pub number : ℕ
  pub extra : ℕ
  pub filled : List ℕ

unfoldable pub refuse : ℕ → ℕ → Reply
refuse n x = record { number = n; extra = x; filled = [] }

unfoldable pub done : ℕ → Reply
done x = record { number = 0; extra = x; filled = [] }

-- done, with roles and the permissions that they carry
unfoldable pub given : ℕ → ℕ → Reply
given roles permissions = record { number = 0; extra = 0; filled = bytes_of 8 roles ++ bytes_of 32 permissions }

-- done, with what stands in the way: its kind plus 8 times what it is about, and both role sets
unfoldable pub tell : Obstacle → Reply
tell o = record { number = 0; extra = o.kind + 8 * o.about; filled = bytes_of 8 o.first ++ bytes_of 8 o.second }

-- done, with a text and its length
unfoldable pub wrote : List ℕ → Reply
wrote text = record { number = 0; extra = length text; filled = text }

-- an answer, and the line after the call
pub record Result : Type 0 where
  pub reply : Reply
  pub line : List ℕ

-- ---- the refusals 11 to 20, by the words of the register; 11 for another user's line, and for the user's own; two are
-- of one permission,
-- `bad_pair` and `no_obstacle` are of an obstacle, and `too_long` is of a clause text

pub data Refusal : Type 0 where
  bad_other bad_line bad_session is_closed is_full bad_set bad_permission bad_bounds bad_aim bad_room no_set : Refusal
  not_below not_carried : ℕ → Refusal
  bad_pair no_obstacle too_long : Refusal

unfoldable pub refusal_number : Refusal → ℕ
refusal_number bad_other = 11
refusal_number bad_line = 11
refusal_number bad_session = 12
refusal_number is_closed = 13
refusal_number is_full = 14
refusal_number bad_set = 15
refusal_number bad_permission = 16
refusal_number bad_bounds = 17
refusal_number bad_aim = 18
refusal_number bad_room = 19
refusal_number no_set = 20
refusal_number (not_below n) = 16
refusal_number (not_carried n) = 20
refusal_number bad_pair = 19
refusal_number no_obstacle = 20
refusal_number too_long = 19

-- those that a call can give, in number order
unfoldable pub can_give : Operation → List Refusal
can_give open_session = bad_line ∷ is_full ∷ []
can_give (close_session k) = bad_line ∷ bad_session ∷ is_closed ∷ []
can_give (ask k q) = bad_other ∷ bad_line ∷ bad_session ∷ is_closed ∷ bad_set ∷ bad_permission ∷ bad_bounds ∷ bad_aim ∷ bad_room ∷ no_set ∷ []
can_give (short_ask k lower upper room) = bad_other ∷ bad_line ∷ bad_session ∷ is_closed ∷ bad_set ∷ bad_permission ∷ bad_bounds ∷ bad_room ∷ no_set ∷ []
can_give (show k room) = bad_line ∷ bad_session ∷ is_closed ∷ bad_room ∷ []
can_give (explain k n) = bad_line ∷ bad_session ∷ is_closed ∷ not_below n ∷ not_carried n ∷ []
can_give (obstacle k lower upper room) =
    bad_other ∷ bad_line ∷ bad_session ∷ is_closed ∷ bad_set ∷ bad_permission ∷ bad_bounds ∷ bad_pair ∷ no_obstacle ∷ []
can_give (clauses k q) = bad_other ∷ bad_line ∷ bad_session ∷ is_closed ∷ bad_set ∷ bad_permission ∷ bad_bounds ∷ bad_aim ∷ too_long ∷ []

-- the set that a query is answered with: the best one without barred roles
unfoldable pub chosen : Meaning → Others → Line → ℕ → Query → Option ℕ
chosen m x l k q = choose (unbarred m x l k) l k (number q.lower) (number q.upper) q.permission_aim q.role_aim

-- what stands in the way of a query
unfoldable pub obstacle_for : Meaning → Others → Line → ℕ → Query → Option Obstacle
obstacle_for m x l k q = obstacle_of m x l k (number q.lower) (number q.upper)

-- a user's number plus 1, 0 where there is none
unfoldable pub number_after : Option ℕ → ℕ
number_after none = 0
number_after (some v) = v + 1

-- the clause text of a query, in which barred roles are not the user's
unfoldable pub text_for : Meaning → Others → Line → ℕ → Query → List ℕ
text_for m x l k q = text_of (unbarred m x l k) l k (number q.lower) (number q.upper) q.permission_aim q.role_aim

-- there is none
unfoldable pub is_none : {A : Type 0} → Option A → Bool
is_none none = true
is_none (some x) = false

-- the lowest of the roles of s that has a granting role, by the names of these
unfoldable pub carrier : (ℕ → Option ℕ) → ℕ → Option ℕ
carrier name s = lowest_in (λ r. is_some (name r)) s

-- 64 times a role plus its granting role
unfoldable pub two_roles : ℕ → Option ℕ → Option ℕ
two_roles r none = none
two_roles r (some g) = some (64 * r + g)

unfoldable pub with_granter : (ℕ → Option ℕ) → Option ℕ → Option ℕ
with_granter name none = none
with_granter name (some r) = two_roles r (name r)

-- through which roles the roles of s carry a permission, by the name of each role's granting role: the lowest that
-- carries it and its granting role, none where none carries it
unfoldable pub explanation : (ℕ → Option ℕ) → ℕ → Option ℕ
explanation name s = with_granter name (carrier name s)

-- the lowest line that is not sound is that of another user, where `own` says that the user's own is sound
unfoldable pub other_first : Bool → ℕ → Option ℕ → Bool
other_first own u none = false
other_first own u (some v) = own || ltb v u

-- the case of a refusal holds, for W sessions, the meaning of the policy, what is told, the line, the session named and
-- the query
unfoldable pub applies : ℕ → Meaning → Others → Line → ℕ → Query → Refusal → Bool
applies W m x l k q bad_other = other_first (sound W m l) m.user x.unsound
applies W m x l k q bad_line = not (sound W m l)
applies W m x l k q bad_session = leb W k
applies W m x l k q is_closed = not (is_open l k)
applies W m x l k q is_full = eqb (count W l.opened) W
applies W m x l k q bad_set = not (eqb (length q.lower) 32 && eqb (length q.upper) 32)
applies W m x l k q bad_permission = not (ltb (number q.lower) (2 ^ m.permissions) && ltb (number q.upper) (2 ^ m.permissions))
applies W m x l k q bad_bounds = not (within (number q.lower) (number q.upper))
applies W m x l k q bad_aim = ltb 2 q.permission_aim || ltb 2 q.role_aim
applies W m x l k q bad_room = not (eqb q.room 40)
applies W m x l k q no_set = is_none (chosen m x l k q)
applies W m x l k q (not_below n) = not (ltb n m.permissions)
applies W m x l k q (not_carried n) = is_none (explanation (m.granter n) (session_at l k).active)
applies W m x l k q bad_pair = not (eqb q.room 16)
applies W m x l k q no_obstacle = is_none (obstacle_for m x l k q)
applies W m x l k q too_long = ltb q.room (length (text_for m x l k q))

-- ---- a call that nothing refuses; bs are the bytes of the line l

-- the best set is put in, and shown with what it carries
unfoldable pub asked : Meaning → Line → List ℕ → ℕ → Option ℕ → Result
asked m l bs k none = record { reply = refuse 20 0; line = bs }
asked m l bs k (some s) = record { reply = given s (carried_by m s); line = write_line (put_in k s l) }

-- the roles that explain the permission are told
unfoldable pub explained : List ℕ → Option ℕ → Result
explained bs none = record { reply = refuse 20 0; line = bs }
explained bs (some x) = record { reply = done x; line = bs }

-- what stands in the way is told
unfoldable pub obstructed : List ℕ → Option Obstacle → Result
obstructed bs none = record { reply = refuse 20 0; line = bs }
obstructed bs (some o) = record { reply = tell o; line = bs }

unfoldable pub perform : ℕ → Meaning → Others → Line → List ℕ → Operation → Result
perform W m x l bs open_session = let k = lowest_closed l 0 W in record { reply = done k; line = write_line (opening k l) }
perform W m x l bs (close_session k) = record { reply = done 0; line = write_line (closing k l) }
perform W m x l bs (ask k q) = asked m l bs k (chosen m x l k q)
perform W m x l bs (short_ask k lower upper room) = asked m l bs k (chosen m x l k (query_of (short_ask k lower upper room)))
perform W m x l bs (show k room) = record { reply = given (session_at l k).active (carried_by m (session_at l k).active); line = bs }
perform W m x l bs (explain k n) = explained bs (explanation (m.granter n) (session_at l k).active)
perform W m x l bs (obstacle k lower upper room) = obstructed bs (obstacle_for m x l k (query_of (obstacle k lower upper room)))
perform W m x l bs (clauses k q) = record { reply = wrote (text_for m x l k q); line = bs }

-- ---- the rules

-- a refusal's extra: for another user's line that user plus 1, else 0
unfoldable pub refusal_extra : Others → Refusal → ℕ
refusal_extra x bad_other = number_after x.unsound
refusal_extra x bad_line = 0
refusal_extra x bad_session = 0
refusal_extra x is_closed = 0
refusal_extra x is_full = 0
refusal_extra x bad_set = 0
refusal_extra x bad_permission = 0
refusal_extra x bad_bounds = 0
refusal_extra x bad_aim = 0
refusal_extra x bad_room = 0
refusal_extra x no_set = 0
refusal_extra x (not_below n) = 0
refusal_extra x (not_carried n) = 0
refusal_extra x bad_pair = 0
refusal_extra x no_obstacle = 0
refusal_extra x too_long = 0

-- the refusal, which leaves the line alone, or else the work done
unfoldable pub unless : Others → Option Refusal → List ℕ → Result → Result
unless x none bs r = r
unless x (some f) bs r = record { reply = refuse (refusal_number f) (refusal_extra x f); line = bs }

-- the lowest number whose case holds among those that the call can give, else what is written for the call
unfoldable pub rule : ℕ → Meaning → Others → List ℕ → Operation → Result
rule W m x bs op =
    let l = read_line W bs in
    let r = perform W m x l bs op in
    unless x (first (applies W m x l (session_of op) (query_of op)) (can_give op)) bs r
