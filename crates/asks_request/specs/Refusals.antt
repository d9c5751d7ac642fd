-- The refusals of an ask before the search.
-- Assumes nothing.
use Rattle.std.specs.Prelude.{◌≡◌, Bool, true, false, not, ◌&&◌, ◌||◌, List, ℕ, zero, suc, ◌^◌, eqb, ltb, length, Option, Some, None}
use Rattle.model.specs.Tests.{pick}
use Rattle.model.specs.Sets.{within}
use Rattle.model.specs.Bytes.{number}
use Rattle.model.specs.Policy.{Policy}
use Rattle.model.specs.Run.{line_of}
use Rattle.sessions.specs.Calls.{first_refusal, session_refusal}
use Rattle.limits_lines.specs.Lines.{others_refusal}
use Rattle.sets.specs.Words.{value}
use Rattle.asks_request.specs.declared.bounds.Bounds.{Bounds}

-- the first number, where it is a refusal's, else the second
unfoldable pub or_else : ℕ → ℕ → ℕ
or_else zero b = b
or_else (suc a) b = suc a

-- 16 to 19 for bounds as sets, the two objectives and the answer buffer's length, where there are P permissions, else 0
unfoldable pub bounds_refusal : ℕ → ℕ → ℕ → ℕ → ℕ → ℕ → ℕ
bounds_refusal P lower upper a b room =
    pick (not (ltb lower (2 ^ P) && ltb upper (2 ^ P))) 16
    (pick (not (within lower upper)) 17 (pick (ltb 2 a || ltb 2 b) 18 (pick (not (eqb room 40)) 19 0)))

-- both bounds are 32 bytes long
abbrev pub sizes : List ℕ → List ℕ → Bool
sizes lower upper = eqb (length lower) 32 && eqb (length upper) 32

-- bounds as code reads them: whether both are 32 bytes long and, where they are, the sets that they hold
pub record Bounded (sized : Bool) (from to : ℕ) (lower upper : List ℕ) : Type 0 where
  pub sized_is : sized ≡ sizes lower upper
  pub lower-is : sized ≡ true → from ≡ number lower
  pub upper_is : sized ≡ true → to ≡ number upper

-- a bound that is not 32 bytes long, and one that is, with the set that it holds
abbrev pub Unsized : List ℕ → Type 0
Unsized bytes = eqb (length bytes) 32 ≡ false

abbrev pub Sized : List ℕ → ℕ → Type 0
Sized bytes set = (eqb (length bytes) 32 ≡ true) × (set ≡ number bytes)

-- of the bounds that code holds: whether there are any, and the sets
abbrev pub sized_of : Option Bounds → Bool
sized_of None = false
sized_of (Some b) = true

abbrev pub lower_of : Option Bounds → ℕ
lower_of None = 0
lower_of (Some b) = value b.lower

abbrev pub upper_of : Option Bounds → ℕ
upper_of None = 0
upper_of (Some b) = value b.upper

abbrev pub BoundedBy : Option Bounds → List ℕ → List ℕ → Type 0
BoundedBy b = Bounded (sized_of b) (lower_of b) (upper_of b)

-- 15 to 19 for bounds of the right sizes or not, else 0
unfoldable pub query_refusal : ℕ → Bool → ℕ → ℕ → ℕ → ℕ → ℕ → ℕ
query_refusal P sized lower upper a b room = pick (not sized) 15 (bounds_refusal P lower upper a b room)

-- the first of the refusals 9 to 19 that an ask gets, else 0
unfoldable pub ask_refusal : ℕ → Policy → List ℕ → ℕ → ℕ → Bool → ℕ → ℕ → ℕ → ℕ → ℕ → ℕ
ask_refusal W p ledger u k sized lower upper a b room =
    or_else (first_refusal W p ledger u)
    (or_else (session_refusal W (line_of W ledger u) k) (query_refusal p.head.permissions sized lower upper a b room))

-- the same where limits are looked at first: the refusal for a line that is not sound
unfoldable pub limited_refusal : ℕ → Policy → List ℕ → ℕ → ℕ → Bool → ℕ → ℕ → ℕ → ℕ → ℕ → ℕ
limited_refusal W p ledger u k sized lower upper a b room =
    or_else (others_refusal W p ledger u) (ask_refusal W p ledger u k sized lower upper a b room)
