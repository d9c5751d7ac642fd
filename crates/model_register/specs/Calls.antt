-- The register at a call: 1 to 8 for the image (specs/Faults.antt), 22 and 23, then 9 and up, each in its own words;
-- the first that holds decides, and where none does the call does what is written for it.
-- Assumes nothing.
use Rattle.std.specs.Prelude.{◌≡◌, ◌⊎◌, ◌↔◌, Bool, true, false, ◌&&◌, List, [], ◌∷◌, ◌++◌, ℕ, ◌+◌, ◌*◌, ◌≤◌, ◌<◌, eqb, length}
use Rattle.model.specs.declared.Head.{Head}
use Rattle.model.specs.declared.Line.{Line}
use Rattle.model.specs.Tests.{pick}
use Rattle.model.specs.Sets.{has}
use Rattle.model.specs.Bytes.{number, bytes_of}
use Rattle.model.specs.Policy.{Policy, policy_of, has_limits, meaning}
use Rattle.model.specs.Chains.{Provides, LowestOnLoop}
use Rattle.model.specs.Ordered.{Loopless, FewRoles, LowestOverReach}
use Rattle.model.specs.Line.{line_size, write_line, session_at, opening, closing, put_in}
use Rattle.model.specs.Choice.{better}
use Rattle.model.specs.Conditions.{Permitted}
use Rattle.model.specs.Explained.{Explains}
use Rattle.model.specs.Obstacle.{Obstacle}
use Rattle.model.specs.Obstacles.{Stands}
use Rattle.model.specs.Session.{Query, Operation, open_session, close_session, ask, short_ask, show, explain, obstacle, clauses, Reply, text_for}
use Rattle.model.specs.Run.{Call, Event, with_line, line_of, others_of, step}
use Rattle.model_register.specs.Faults.{Refuses, Accepts}
use Rattle.model_register.specs.Sound.{Sound}

-- ---- the first case that holds

-- a line of the register: its number, and with which extra its case holds
pub record Case : Type 1 where
  pub number : ℕ
  pub holds : ℕ → Type 0

-- one whose extra is 0
abbrev pub case : ℕ → Type 0 → Case
case n H = record { number = n; holds = λ x. (x ≡ 0) × H }

-- a refusal leaves the ledger alone and fills nothing
abbrev pub refusal : List ℕ → ℕ → ℕ → Event
refusal ledger n x = record { reply = record { number = n; extra = x; filled = [] }; ledger = ledger }

-- the event is the refusal by the first case that holds; where none holds, it is as said
abbrev pub Answers : List ℕ → List Case → (Event → Type 0) → Event → Type 0
Answers ledger [] Done e = Done e
Answers ledger (c ∷ cs) Done e =
    ((x : ℕ) × c.holds x × (e ≡ refusal ledger c.number x)) ⊎ (((x : ℕ) → ¬ c.holds x) × Answers ledger cs Done e)

-- ---- the cases of a query

-- 15, set: a bound not 32 bytes
abbrev pub WrongSize : Query → Type 0
WrongSize q = (¬ (length q.lower ≡ 32)) ⊎ (¬ (length q.upper ≡ 32))

-- 16, permission: a bound with a permission not below P
pub record TooHigh (permissions : ℕ) (q : Query) : Type 0 where
  pub permission : ℕ
  pub high : permissions ≤ permission
  pub member : (has (number q.lower) permission ≡ true) ⊎ (has (number q.upper) permission ≡ true)

-- 17, bounds: a permission of the lower bound that the upper has not
pub record NotWithin (q : Query) : Type 0 where
  pub permission : ℕ
  pub lower : has (number q.lower) permission ≡ true
  pub upper : has (number q.upper) permission ≡ false

-- 18, aim: above 2
abbrev pub WrongAim : Query → Type 0
WrongAim q = (2 < q.permission_aim) ⊎ (2 < q.role_aim)

-- a short ask is for the fewest permissions, then for the fewest roles
abbrev pub short_query : List ℕ → List ℕ → ℕ → Query
short_query lower upper room = record { lower = lower; upper = upper; permission_aim = 1; role_aim = 1; room = room }

-- an obstacle has the bounds of an ask, and no aims
abbrev pub unaimed : List ℕ → List ℕ → ℕ → Query
unaimed lower upper room = record { lower = lower; upper = upper; permission_aim = 0; role_aim = 0; room = room }

-- ---- lines that are not sound

-- v is the lowest user whose line is not sound
pub record LowestUnsound (W : ℕ) (p : Policy) (ledger : List ℕ) (v : ℕ) : Type 0 where
  pub below : v < p.head.users
  pub unsound : ¬ Sound W p v (line_of W ledger v)
  pub lowest : (w : ℕ) → w < v → Sound W p w (line_of W ledger w)

-- ---- a call of user u with a line
module _ (W : ℕ) (p : Policy) (ledger : List ℕ) (u : ℕ) where
  -- the user's line
  abbrev pub own : Line
  own = line_of W ledger u

  -- the event with this answer, and with this line put in for the user's, or with the ledger as it was
  abbrev pub after : Reply → Line → Event
  after r l = record { reply = r; ledger = with_line (line_size W) u (write_line l) ledger }

  abbrev pub unchanged : Reply → Event
  unchanged r = record { reply = r; ledger = ledger }

  -- roles and permissions fill the answer buffer
  abbrev pub shown : ℕ → ℕ → Reply
  shown roles permissions = record { number = 0; extra = 0; filled = bytes_of 8 roles ++ bytes_of 32 permissions }

  -- 11, line: this user's line is not sound; for an ask, an obstacle or a clause text under a policy with limits, any
  -- line, and the extra names the lowest user with one, plus 1, unless that is the asker
  pub data Unsound (asks : Bool) (x : ℕ) : Type 0 where
    own_line : (asks && has_limits p) ≡ false → ¬ Sound W p u own → x ≡ 0 → Unsound asks x
    some_line : (asks && has_limits p) ≡ true → (v : ℕ) → LowestUnsound W p ledger v → x ≡ pick (eqb v u) 0 (v + 1) → Unsound asks x

  abbrev pub line_case : Bool → Case
  line_case asks = record { number = 11; holds = Unsound asks }

  -- 13, closed; 14, full
  abbrev pub Closed : ℕ → Type 0
  Closed k = has own.opened k ≡ false

  abbrev pub AllOpen : Type 0
  AllOpen = (j : ℕ) → j < W → has own.opened j ≡ true

  -- the set s, in session k, meets 001's conditions and CARD
  abbrev pub Allowed : ℕ → Query → ℕ → Type 0
  Allowed k q s = Permitted p u (others_of W p u ledger) own k (number q.lower) (number q.upper) s

  -- what stands in the way of these bounds (P14: the first of four kinds that holds)
  abbrev pub InTheWay : ℕ → Query → Obstacle → Type 0
  InTheWay k q o = Stands p u (others_of W p u ledger) own k (number q.lower) (number q.upper) o

  -- the clause text of a query
  abbrev pub text : ℕ → Query → List ℕ
  text k q = text_for (meaning p u) (others_of W p u ledger) own k q

  -- 12 and 13, as for every call that names a session
  abbrev pub named : ℕ → List Case → List Case
  named k cs = case 12 (W ≤ k) ∷ case 13 (Closed k) ∷ cs

  -- 15 to 17, as for every query
  abbrev pub bounded : Query → List Case → List Case
  bounded q cs = case 15 (WrongSize q) ∷ case 16 (TooHigh p.head.permissions q) ∷ case 17 (NotWithin q) ∷ cs

  -- 19 and 20 of an ask: another answer buffer than of 40 bytes; no set is allowed
  abbrev pub answering : ℕ → Query → List Case
  answering k q = case 19 (¬ (q.room ≡ 40)) ∷ case 20 ((s : ℕ) → ¬ Allowed k q s) ∷ []

  -- 19 and 20 of an obstacle: another buffer than of 16 bytes; nothing stands in the way
  abbrev pub naming : ℕ → Query → List Case
  naming k q = case 19 (¬ (q.room ≡ 16)) ∷ case 20 ((o : Obstacle) → ¬ InTheWay k q o) ∷ []

  -- the cases of each call from 11 on, in number order
  abbrev pub cases : Operation → List Case
  cases open_session = line_case false ∷ case 14 AllOpen ∷ []
  cases (close_session k) = line_case false ∷ named k []
  cases (ask k q) = line_case true ∷ named k (bounded q (case 18 (WrongAim q) ∷ answering k q))
  cases (short_ask k lower upper room) = line_case true ∷ named k (bounded (short_query lower upper room) (answering k (short_query lower upper room)))
  cases (show k room) = line_case false ∷ named k (case 19 (¬ (room ≡ 40)) ∷ [])
  cases (explain k n) = line_case false ∷ named k (case 16 (p.head.permissions ≤ n) ∷ case 20 (¬ Provides p (session_at own k).active n) ∷ [])
  cases (obstacle k lower upper room) = line_case true ∷ named k (bounded (unaimed lower upper room) (naming k (unaimed lower upper room)))
  cases (clauses k q) = line_case true ∷ named k (bounded q (case 18 (WrongAim q) ∷ case 19 (q.room < length (text k q)) ∷ []))

  -- ---- what is done

  -- the lowest closed session is opened and told
  pub record Opens (e : Event) : Type 0 where
    pub session : ℕ
    pub below : session < W
    pub closed : Closed session
    pub lowest : (j : ℕ) → j < session → has own.opened j ≡ true
    pub event : e ≡ after (record { number = 0; extra = session; filled = [] }) (opening session own)

  -- the permissions are what the roles s carry
  abbrev pub Carried : ℕ → ℕ → Type 0
  Carried s permissions = (n : ℕ) → (has permissions n ≡ true) ↔ Provides p s n

  -- the best of the allowed sets is shown with what it carries, and put in for session k
  pub record Chooses (k : ℕ) (q : Query) (e : Event) : Type 0 where
    pub set : ℕ
    pub permissions : ℕ
    pub allowed : Allowed k q set
    pub best : (t : ℕ) → Allowed k q t → better (meaning p u) q.permission_aim q.role_aim t set ≡ false
    pub carries : Carried set permissions
    pub event : e ≡ after (shown set permissions) (put_in k set own)

  -- a session's active roles are shown with what they carry
  pub record Shows (k : ℕ) (e : Event) : Type 0 where
    pub permissions : ℕ
    pub carries : Carried (session_at own k).active permissions
    pub event : e ≡ unchanged (shown (session_at own k).active permissions)

  -- the lowest active role that carries the permission is told, and its granting role
  pub record Tells (k n : ℕ) (e : Event) : Type 0 where
    pub carrier : ℕ
    pub giver : ℕ
    pub explains : Explains p (session_at own k).active n carrier giver
    pub event : e ≡ unchanged (record { number = 0; extra = 64 * carrier + giver; filled = [] })

  -- what stands in the way is told, as its kind plus 8 times what it is about, and two role sets
  pub record Names (k : ℕ) (q : Query) (e : Event) : Type 0 where
    pub found : Obstacle
    pub stands : InTheWay k q found
    pub event : e
        ≡ unchanged (record { number = 0; extra = found.kind + 8 * found.about; filled = bytes_of 8 found.first ++ bytes_of 8 found.second })

  abbrev pub Does : Operation → Event → Type 0
  Does open_session e = Opens e
  Does (close_session k) e = e ≡ after (record { number = 0; extra = 0; filled = [] }) (closing k own)
  Does (ask k q) e = Chooses k q e
  Does (short_ask k lower upper room) e = Chooses k (short_query lower upper room) e
  Does (show k room) e = Shows k e
  Does (explain k n) e = Tells k n e
  Does (obstacle k lower upper room) e = Names k (unaimed lower upper room) e
  Does (clauses k q) e = e ≡ unchanged (record { number = 0; extra = length (text k q); filled = text k q })

-- ---- the whole

-- 9, ledger: not as many bytes as the lines of all users have; 10, person: not below U; then those of the call
abbrev pub cases_for : ℕ → Policy → List ℕ → Call → List Case
cases_for W p ledger c =
    case 9 (¬ (length ledger ≡ line_size W * p.head.users)) ∷ case 10 (p.head.users ≤ c.user) ∷ cases W p ledger c.user c.operation

-- what a call answers
pub data Register (W : ℕ) (image ledger : List ℕ) (c : Call) (e : Event) : Type 0 where
  by_words : (n k : ℕ) → Refuses image n k → e ≡ refusal ledger n k → Register W image ledger c e
  by_loop : (h : Head) → Accepts image h → (r : ℕ) → LowestOnLoop (policy_of image) r → e ≡ refusal ledger 22 r → Register W image ledger c e
  by_reach : (h : Head) → Accepts image h → Loopless (policy_of image) → (v : ℕ) → LowestOverReach (policy_of image) v → e ≡ refusal ledger 23 v
      → Register W image ledger c e
  by_call : (h : Head) → Accepts image h → Loopless (policy_of image) → ((v : ℕ) → FewRoles (policy_of image) v)
      → Answers ledger (cases_for W (policy_of image) ledger c) (Does W (policy_of image) ledger c.user c.operation) e → Register W image ledger c e

-- a call's event is the one that the register says, under any image and on any ledger
abbrev pub StepIs : ℕ → Type 0
StepIs W = (image ledger : List ℕ) (c : Call) (e : Event) → (step W image ledger c ≡ e) ↔ Register W image ledger c e
