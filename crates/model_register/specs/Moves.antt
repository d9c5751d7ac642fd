-- The register at a move of a ledger from F sessions a user to W, which names no user: as a check, then 9, 19, and the
-- first user whose line cannot go, by 11 or 24.
-- Assumes nothing.
use Rattle.std.specs.Prelude.{◌≡◌, ◌↔◌, true, List, [], ◌∷◌, ℕ, ◌*◌, ◌≤◌, ◌<◌, length}
use Rattle.model.specs.Sets.{has}
use Rattle.model.specs.Policy.{Policy, policy_of}
use Rattle.model.specs.Chains.{LowestOnLoop}
use Rattle.model.specs.Ordered.{Loopless, LowestOverReach}
use Rattle.model.specs.Line.{line_size}
use Rattle.model.specs.Run.{Event, line_of}
use Rattle.model.specs.Moves.{resized_lines, move}
use Rattle.model_register.specs.Faults.{Refuses}
use Rattle.model_register.specs.Sound.{Sound}
use Rattle.model_register.specs.Calls.{Case, case, refusal, Answers}
use Rattle.model_register.specs.AsCheck.{WordsRight, Passes}

module _ (F W : ℕ) (p : Policy) (old : List ℕ) where
  -- the line of user v has a session from W on open
  pub record OpenBeyond (v : ℕ) : Type 0 where
    pub session : ℕ
    pub beyond : W ≤ session
    pub opened : has (line_of F old v).opened session ≡ true

  -- the line of user v can go: it is sound, and no session from W on is open
  pub record Goes (v : ℕ) : Type 0 where
    pub sound : Sound F p v (line_of F old v)
    pub closed : ¬ OpenBeyond v

  -- user v has a line, and every lower user's can go
  pub record Reached (v : ℕ) : Type 0 where
    pub below : v < p.head.users
    pub before : (w : ℕ) → w < v → Goes w

  -- 9, ledger: not as many bytes as the lines of F sessions have; 19, room: nor those of W; 11, line: not sound, for
  -- the first user whose line cannot go; 24, upper sessions: one from W on is open, for the same. The extra of 11 and
  -- 24 is that user
  abbrev pub move_cases : List ℕ → List Case
  move_cases new =
      case 9 (¬ (length old ≡ line_size F * p.head.users)) ∷ case 19 (¬ (length new ≡ line_size W * p.head.users))
      ∷ record { number = 11; holds = λ v. Reached v × ¬ Sound F p v (line_of F old v) }
      ∷ record { number = 24; holds = λ v. Reached v × Sound F p v (line_of F old v) × OpenBeyond v } ∷ []

  -- every line with its bytes as far as W sessions go, and zeros for those that it had not
  abbrev pub Moves : Event → Type 0
  Moves e = e ≡ record { reply = record { number = 0; extra = 0; filled = [] }; ledger = resized_lines F W old 0 p.head.users }

-- what a move answers, given the image, the old ledger and the target; a refused move leaves every byte of the target
pub data MoveAnswers (F W : ℕ) (image old new : List ℕ) (e : Event) : Type 0 where
  by_words : (n k : ℕ) → Refuses image n k → e ≡ refusal new n k → MoveAnswers F W image old new e
  by_loop : WordsRight image → (r : ℕ) → LowestOnLoop (policy_of image) r → e ≡ refusal new 22 r → MoveAnswers F W image old new e
  by_reach : WordsRight image → Loopless (policy_of image) → (v : ℕ) → LowestOverReach (policy_of image) v → e ≡ refusal new 23 v
      → MoveAnswers F W image old new e
  by_move : Passes image → Answers new (move_cases F W (policy_of image) old new) (Moves F W (policy_of image) old) e → MoveAnswers F W image old new e

abbrev pub MovesAre : ℕ → ℕ → Type 0
MovesAre F W = (image old new : List ℕ) (e : Event) → (move F W image old new ≡ e) ↔ MoveAnswers F W image old new e
