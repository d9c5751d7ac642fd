-- The register at the stopped call, which names no user: as a check, then 9, then 19; else it tells the users whose
-- line is not sound.
-- Assumes nothing.
use Rattle.std.specs.Prelude.{◌≡◌, ◌↔◌, true, List, ℕ, ◌*◌, ◌^◌, ◌<◌, length}
use Rattle.model.specs.Sets.{has, count}
use Rattle.model.specs.Bytes.{bytes_of}
use Rattle.model.specs.Policy.{Policy, policy_of}
use Rattle.model.specs.Chains.{LowestOnLoop}
use Rattle.model.specs.Ordered.{Loopless, LowestOverReach}
use Rattle.model.specs.Line.{line_size}
use Rattle.model.specs.Session.{Reply}
use Rattle.model.specs.Run.{line_of, answered}
use Rattle.model_register.specs.Faults.{Refuses}
use Rattle.model_register.specs.Sound.{Sound}
use Rattle.model_register.specs.AsCheck.{WordsRight, Passes}
use Rattle.model_register.specs.Loops.{without}
use Rattle.model_stopped.specs.Stopped.{stopped_call}

-- the set has exactly the users with a line that is not sound
pub record Unsound (W : ℕ) (p : Policy) (ledger : List ℕ) (set : ℕ) : Type 0 where
  pub small : set < 2 ^ 64
  pub members : (u : ℕ) → (has set u ≡ true) ↔ ((u < p.head.users) × ¬ Sound W p u (line_of W ledger u))

-- what the stopped call answers, given an image, a ledger and the length of the buffer
pub data StoppedAnswers (W : ℕ) (image ledger : List ℕ) (room : ℕ) (r : Reply) : Type 0 where
  by_words : (n k : ℕ) → Refuses image n k → r ≡ without n k → StoppedAnswers W image ledger room r
  by_loop : WordsRight image → (x : ℕ) → LowestOnLoop (policy_of image) x → r ≡ without 22 x → StoppedAnswers W image ledger room r
  by_reach : WordsRight image → Loopless (policy_of image) → (v : ℕ) → LowestOverReach (policy_of image) v → r ≡ without 23 v
      → StoppedAnswers W image ledger room r
  -- 9, ledger: not as many bytes as the users' lines have
  by_ledger : Passes image → ¬ (length ledger ≡ line_size W * (policy_of image).head.users) → r ≡ without 9 0 → StoppedAnswers W image ledger room r
  -- 19, room: not 8 bytes
  by_room : Passes image → length ledger ≡ line_size W * (policy_of image).head.users → ¬ (room ≡ 8) → r ≡ without 19 0
      → StoppedAnswers W image ledger room r
  -- the users whose line is not sound, user u as bit u, in 8 bytes; the extra is how many they are
  tells : Passes image → length ledger ≡ line_size W * (policy_of image).head.users → room ≡ 8 → (set : ℕ) → Unsound W (policy_of image) ledger set
      → r ≡ record { number = 0; extra = count 64 set; filled = bytes_of 8 set } → StoppedAnswers W image ledger room r

-- the call's answer is this one and no other, and a call that is not done leaves every byte of the buffer
pub record StoppedAre (W : ℕ) (image ledger : List ℕ) : Type 0 where
  pub answer : (room : ℕ) (r : Reply) → (stopped_call W image ledger room ≡ r) ↔ StoppedAnswers W image ledger room r
  pub untouched : (buffer : List ℕ) → ¬ ((stopped_call W image ledger (length buffer)).number ≡ 0)
      → answered buffer (stopped_call W image ledger (length buffer)) ≡ buffer
