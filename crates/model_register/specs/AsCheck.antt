-- Calls that first refuse as a check of the image does: 1 to 8, then 22, then 23, each with what it names, in the words
-- of the register.
-- Assumes nothing.
use Rattle.std.specs.Prelude.{◌≡◌, ◌↔◌, List, ℕ, ◌≤◌}
use Rattle.model.specs.declared.Head.{Head}
use Rattle.model.specs.Policy.{policy_of}
use Rattle.model.specs.Chains.{LowestOnLoop}
use Rattle.model.specs.Ordered.{Loopless, FewRoles, LowestOverReach}
use Rattle.model_register.specs.Faults.{Refuses, Accepts}

-- none of 1 to 8 holds of the image
abbrev pub WordsRight : List ℕ → Type 0
WordsRight s = (h : Head) × Accepts s h

-- nor 22 or 23: no role is on a loop, and no user may activate more than 16 roles
pub record Passes (s : List ℕ) : Type 0 where
  pub words : WordsRight s
  pub loopless : Loopless (policy_of s)
  pub few : (u : ℕ) → FewRoles (policy_of s) u

-- a call under the image s that is answered with this number and extra
pub record RefusesAsCheck (s : List ℕ) (number extra : ℕ) : Type 0 where
  -- by 1 to 8, with the place, exactly if that line of the register holds
  pub by_words : (n place : ℕ) → 1 ≤ n → n ≤ 8 → ((number ≡ n) × (extra ≡ place)) ↔ Refuses s n place
  -- by 22 exactly if none does and a role is on a loop, with the lowest such role
  pub by_loop : (r : ℕ) → ((number ≡ 22) × (extra ≡ r)) ↔ (WordsRight s × LowestOnLoop (policy_of s) r)
  -- by 23 exactly if none does, no role is on a loop and a user may activate more than 16 roles, with the lowest such
  -- user
  pub by_reach : (u : ℕ) → ((number ≡ 23) × (extra ≡ u)) ↔ (WordsRight s × Loopless (policy_of s) × LowestOverReach (policy_of s) u)
  -- any other number only where the image passes
  pub otherwise : ¬ ((1 ≤ number) × (number ≤ 8)) → ¬ (number ≡ 22) → ¬ (number ≡ 23) → Passes s
