-- Soundness is kept: what calls leave of a sound line is a sound line, and a run that begins with the zero ledger never
-- gives 11.
-- Assumes nothing.
use Rattle.std.specs.Prelude.{◌≡◌, true, List, ℕ, ◌*◌, ◌<◌, length, replicate}
use Rattle.model.specs.declared.Kind.{Kind}
use Rattle.model.specs.Sets.{within}
use Rattle.model.specs.Policy.{Policy, policy_of, Meaning, meaning}
use Rattle.model.specs.Line.{line_size, read_line, sound}
use Rattle.model.specs.Limits.{Others}
use Rattle.model.specs.Session.{Operation, rule}
use Rattle.model.specs.Run.{Call, Event, line_at, run}
use Rattle.model.specs.Ranges.{Each}

-- every kind counts fewer roles, or the same
abbrev pub Fewer : (Kind → ℕ) → (Kind → ℕ) → Type 0
Fewer f g = (k : Kind) → within (f k) (g k) ≡ true

-- exclusions pass to smaller counts: where all are met, they are met with fewer roles counted
abbrev pub Antitone : Meaning → Type 0
Antitone m = (f g : Kind → ℕ) → Fewer f g → m.all_met g ≡ true → m.all_met f ≡ true

-- the bytes are a sound line of W sessions
abbrev pub SoundBytes : ℕ → Meaning → List ℕ → Type 0
SoundBytes W m bs = sound W m (read_line W bs) ≡ true

-- one user's line: exclusions pass to smaller counts, the zero line is sound, and every call on a sound line leaves a
-- sound line, whatever it is told of other users
pub record LineKept (W : ℕ) (m : Meaning) : Type 0 where
  pub antitone : Antitone m
  pub zero_line : SoundBytes W m (replicate (line_size W) 0)
  pub call : (x : Others) (bs : List ℕ) → SoundBytes W m bs → (op : Operation) → SoundBytes W m (rule W m x bs op).line

-- the ledger has a line for each user, and every line is sound
pub record SoundLedger (W : ℕ) (p : Policy) (ledger : List ℕ) : Type 0 where
  pub fits : length ledger ≡ line_size W * p.head.users
  pub lines : (u : ℕ) → u < p.head.users → SoundBytes W (meaning p u) (line_at (line_size W) u ledger)

-- an answer other than 11, with a sound ledger after the call
pub record Well (W : ℕ) (p : Policy) (e : Event) : Type 0 where
  pub answer : ¬ (e.reply.number ≡ 11)
  pub ledger : SoundLedger W p e.ledger

-- every call of a run goes well: from a sound ledger, and so from the zero ledger, which is sound
pub record RunKept (W : ℕ) (image : List ℕ) : Type 0 where
  pub zero_ledger : SoundLedger W (policy_of image) (replicate (line_size W * (policy_of image).head.users) 0)
  pub well : (ledger : List ℕ) → SoundLedger W (policy_of image) ledger → (calls : List Call)
      → Each (Well W (policy_of image)) (run W image ledger calls)
  pub from_zero : (calls : List Call)
      → Each (λ e. ¬ (e.reply.number ≡ 11)) (run W image (replicate (line_size W * (policy_of image).head.users) 0) calls)
