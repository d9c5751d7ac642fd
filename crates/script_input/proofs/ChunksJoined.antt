-- What a run comes to does not depend on the chunks in which its input comes.
-- Assumes nothing.
use mathlib.Core.Path.{◌≡◌, refl, ◌∙◌}
use mathlib.Core.List.{List, []}
use Prim.Native.Nat.{ℕ}
use Rattle.script_input.specs.Joined.{joined, TakesAll, none_left, one_taken}

pub all_taken : {S R : Type 0} {result : S → List ℕ → R} {cs : List (List ℕ)} {s t : S} → TakesAll S R result cs s t → result s (joined cs) ≡ result t []
unfolding joined
all_taken none_left = refl
all_taken (one_taken {cs = cs} h k) = h (joined cs) ∙ all_taken k
