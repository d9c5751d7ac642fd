-- What single definitions give on small arguments, by computation. Each fact is false of a wrong definition that
-- must-fail/ tries. The cases from the bytes of whole images are those of StoppedCases.antt.
-- Assumes nothing.
use Rattle.std.specs.Prelude.{◌≡◌, refl, List, [], ◌∷◌, ◌++◌, ℕ, replicate}
use Rattle.model.specs.Policy.{Policy}
use Rattle.model.specs.Session.{refuse}
use Rattle.model.specs.Computing.{computing}
use Rattle.model_stopped.specs.Stopped.{stopped_set, telling, stopped_on}

-- two users who may activate role 0, which has the limit t
abbrev policy : ℕ → Policy
policy t =
    record {
      head = record { users = 2; roles = 1; permissions = 1 };
      assigned = 1 ∷ 1 ∷ [];
      granted = 1 ∷ [];
      juniors = 0 ∷ [];
      exclusions = [];
      limits = t ∷ [];
    }

-- lines of one session, 32 bytes each: with these open bits and role 0 active and in the past, if 1
abbrev line : ℕ → ℕ → List ℕ
line opened role =
    opened ∷ (replicate 7 0 ++ (role ∷ (replicate 7 0 ++ (role ∷ (replicate 7 0 ++ (role ∷ replicate 7 0))))))

-- session 1 is none of one: the line of the highest user is not sound, and the other is
pub highest_told : stopped_set 1 (policy 0) (line 1 1 ++ line 2 0) ≡ 2
unfolding computing stopped_set
highest_told = refl

-- both hold role 0, one more than its limit allows
pub limits_stop_nobody : stopped_set 1 (policy 2) (line 1 1 ++ line 1 1) ≡ 0
unfolding computing stopped_set
limits_stop_nobody = refl

-- the second user was added, with a zero line
pub added_not_stopped : stopped_set 1 (policy 0) (line 1 1 ++ replicate 32 0) ≡ 0
unfolding computing stopped_set
added_not_stopped = refl

pub set_and_number : telling 6 ≡ (record { number = 0; extra = 2; filled = 6 ∷ replicate 7 0 })
unfolding computing telling
set_and_number = refl

pub ledger_before_room : stopped_on 1 (policy 0) [] 0 ≡ refuse 9 0
unfolding computing stopped_on
ledger_before_room = refl

pub room_of_eight : stopped_on 1 (policy 0) (line 0 0 ++ line 0 0) 8 ≡ telling 0
unfolding computing stopped_on stopped_set telling
room_of_eight = refl
