-- Two images of one policy with their entries in disorder and some twice, their tidy image, and what the call leaves of
-- a buffer; images that are refused.
-- Assumes nothing.
use Rattle.std.specs.Prelude.{◌≡◌, List, [], ◌∷◌, ◌++◌, ℕ, replicate, take}
use Rattle.model.specs.declared.Checked.TheVariants.{Accepted}
use Rattle.model.specs.Words.{head_word, assign_word, grant_word, senior_word, exclusion_word, member_word, limit_word, image_bytes, ended}
use Rattle.model.specs.Judgement.{judge}
use Rattle.model_cases.specs.Refusals.{over_others}
use Rattle.model_tidy.specs.Tidy.{tidy_of, Written, tidy_call}

-- two users, four roles, four permissions; an assignment, a grant and an exclusion stand twice, and role 1 has two
-- limits
unfoldable pub jumbled : List ℕ
jumbled =
    ended
    (head_word 2 4 4 ∷ limit_word 1 3 ∷ senior_word 1 2 ∷ grant_word 1 0 ∷ exclusion_word 1 3 3 ∷ member_word 2 ∷ member_word 0
    ∷ member_word 1 ∷ assign_word 1 0 ∷ grant_word 0 3 ∷ limit_word 0 256 ∷ assign_word 0 1 ∷ exclusion_word 1 2 2
    ∷ member_word 3 ∷ member_word 1 ∷ assign_word 1 0 ∷ exclusion_word 1 2 3 ∷ member_word 1 ∷ member_word 0
    ∷ member_word 2 ∷ exclusion_word 1 2 2 ∷ member_word 1 ∷ member_word 3 ∷ exclusion_word 0 3 3 ∷ member_word 3
    ∷ member_word 2 ∷ member_word 0 ∷ senior_word 0 3 ∷ grant_word 1 0 ∷ limit_word 1 2 ∷ [])

-- the same entries in another order, the exclusion twice
unfoldable pub shuffled : List ℕ
shuffled =
    ended
    (head_word 2 4 4 ∷ limit_word 1 2 ∷ exclusion_word 0 3 3 ∷ member_word 0 ∷ member_word 3 ∷ member_word 2 ∷ assign_word 1 0
    ∷ assign_word 0 1 ∷ exclusion_word 1 2 2 ∷ member_word 3 ∷ member_word 1 ∷ exclusion_word 1 2 3 ∷ member_word 2
    ∷ member_word 1 ∷ member_word 0 ∷ senior_word 0 3 ∷ senior_word 1 2 ∷ grant_word 1 0 ∷ grant_word 0 3
    ∷ exclusion_word 1 2 2 ∷ member_word 3 ∷ member_word 1 ∷ exclusion_word 1 3 3 ∷ member_word 0 ∷ member_word 1
    ∷ member_word 2 ∷ limit_word 0 256 ∷ limit_word 1 3 ∷ [])

-- assignments by user, grants by role, seniors, then exclusions: one of kind 0, though its n is 3; of kind 1 with n 2
-- the members 0, 1, 2 (set 7) before 1, 3 (set 10), though they are more; with n 3 the set 7 again; then the limits,
-- 256 of role 0 and 2 of role 1
unfoldable pub neat : List ℕ
neat =
    ended
    (head_word 2 4 4 ∷ assign_word 0 1 ∷ assign_word 1 0 ∷ grant_word 0 3 ∷ grant_word 1 0 ∷ senior_word 0 3 ∷ senior_word 1 2
    ∷ exclusion_word 0 3 3 ∷ member_word 0 ∷ member_word 2 ∷ member_word 3 ∷ exclusion_word 1 2 3 ∷ member_word 0
    ∷ member_word 1 ∷ member_word 2 ∷ exclusion_word 1 2 2 ∷ member_word 1 ∷ member_word 3 ∷ exclusion_word 1 3 3
    ∷ member_word 0 ∷ member_word 1 ∷ member_word 2 ∷ limit_word 0 256 ∷ limit_word 1 2 ∷ [])

-- role 0 over the loop of the roles 1 and 2; it would be tidy in 20 bytes
unfoldable pub looped : List ℕ
looped = image_bytes (ended (head_word 1 3 1 ∷ senior_word 0 1 ∷ senior_word 1 2 ∷ senior_word 2 1 ∷ []))

-- user 1 has role 0, which is over 16 others; it would be tidy in 76 bytes
unfoldable pub over_reaching : List ℕ
over_reaching = image_bytes (ended (head_word 2 17 1 ∷ assign_word 1 0 ∷ over_others 16))

-- a buffer of n bytes before the call
unfoldable pub sevens : ℕ → List ℕ
sevens n = replicate n 7

-- a call that is refused leaves the buffer as it was
unfoldable pub refusing : ℕ → ℕ → ℕ → Written
refusing number extra n = record { number = number; extra = extra; out = sevens n }

pub record TidyCases : Type 0 where
  pub accepted : judge (image_bytes jumbled) ≡ Accepted (record { users = 2; roles = 4; permissions = 4 })
  pub jumbled_tidy : tidy_of (image_bytes jumbled) ≡ image_bytes neat
  pub shuffled_tidy : tidy_of (image_bytes shuffled) ≡ image_bytes neat
  pub neat_tidy : tidy_of (image_bytes neat) ≡ image_bytes neat
  -- a buffer of the tidy image's 100 bytes, and one with three more
  pub exact : tidy_call (image_bytes jumbled) (sevens 100) ≡ record { number = 0; extra = 25; out = image_bytes neat }
  pub longer : tidy_call (image_bytes jumbled) (sevens 103) ≡ record { number = 0; extra = 25; out = image_bytes neat ++ sevens 3 }
  -- one byte less is refused, after the image's own refusal
  pub short : tidy_call (image_bytes jumbled) (sevens 99) ≡ refusing 19 0 99
  pub bad : tidy_call (take 4 (image_bytes jumbled)) (sevens 0) ≡ refusing 1 0 0
  pub open_ended : tidy_call (image_bytes (take 3 jumbled)) (sevens 8) ≡ refusing 3 2 8
  -- 22 with a role, and 23 with a user, into a buffer that is large enough, and before 19
  pub loop : tidy_call looped (sevens 20) ≡ refusing 22 1 20
  pub loop-short : tidy_call looped (sevens 19) ≡ refusing 22 1 19
  pub reach : tidy_call over_reaching (sevens 76) ≡ refusing 23 1 76
  pub reach_short : tidy_call over_reaching (sevens 75) ≡ refusing 23 1 75
