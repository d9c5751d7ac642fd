-- The register at the loop call, which names no user: 1 to 8 for the image, then 19, then 20. It is there for images
-- that 22 refuses, and so neither 22 nor 23 is among its refusals.
-- Assumes nothing.
use Rattle.std.specs.Prelude.{◌≡◌, ◌↔◌, List, [], ◌++◌, ℕ, ◌-◌, length, replicate}
use Rattle.model.specs.Policy.{policy_of}
use Rattle.model.specs.Chains.{LowestOnLoop}
use Rattle.model.specs.Loop.{loop_call}
use Rattle.model.specs.Ordered.{Loopless, ShortestLoop}
use Rattle.model.specs.Session.{Reply}
use Rattle.model.specs.Run.{answered}
use Rattle.model_register.specs.Faults.{Refuses}
use Rattle.model_register.specs.AsCheck.{WordsRight}

-- a refusal fills nothing
abbrev pub without : ℕ → ℕ → Reply
without n x = record { number = n; extra = x; filled = [] }

-- what the loop call answers, given an image and the length of the answer buffer
pub data LoopAnswers (s : List ℕ) (room : ℕ) (r : Reply) : Type 0 where
  by_words : (n k : ℕ) → Refuses s n k → r ≡ without n k → LoopAnswers s room r
  -- 19, room: not 64 bytes
  by_room : WordsRight s → ¬ (room ≡ 64) → r ≡ without 19 0 → LoopAnswers s room r
  -- 20, none: no role is on a loop
  by_none : WordsRight s → room ≡ 64 → Loopless (policy_of s) → r ≡ without 20 0 → LoopAnswers s room r
  -- the shortest loop of the lowest role on one, a byte a role, zeros after it; the extra is its length
  shows : WordsRight s → room ≡ 64 → (role : ℕ) → LowestOnLoop (policy_of s) role → (bytes : List ℕ) → ShortestLoop (policy_of s) role bytes
      → r ≡ record { number = 0; extra = length bytes; filled = bytes ++ replicate (64 - length bytes) 0 } → LoopAnswers s room r

-- the call's answer is this one and no other, and a call that is not done leaves every byte of the buffer
pub record LoopIs (s : List ℕ) : Type 0 where
  pub answer : (room : ℕ) (r : Reply) → (loop_call s room ≡ r) ↔ LoopAnswers s room r
  pub untouched : (buffer : List ℕ) → ¬ ((loop_call s (length buffer)).number ≡ 0) → answered buffer (loop_call s (length buffer)) ≡ buffer
