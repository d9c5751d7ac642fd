-- A move by what it holds of its image: under a refused image, and under an accepted one by its policy.
-- Assumes nothing.
use mathlib.Core.Path.{◌≡◌, refl}
use mathlib.Core.List.{List}
use Prim.Native.Nat.{ℕ, ◌+◌, ◌*◌}
use Rattle.model.specs.declared.Head.{Head}
use Rattle.model.specs.declared.Checked.TheVariants.{Accepted, Refused}
use Rattle.model.specs.Judgement.{judge}
use Rattle.model.specs.Policy.{policy_of}
use Rattle.model.specs.Session.{refuse}
use Rattle.model.specs.Moves.{move_on, move_by, move}
use Rattle.model.specs.Run.{returned}
use Rattle.sessions.specs.Calls.{Gives}

module _ (s : List ℕ) (F W : ℕ) (old new : List ℕ) where
  pub move-refused : {n place r : ℕ} → judge s ≡ Refused n place → r ≡ n + 256 * place → Gives (move F W s old new) r new
  unfolding returned refuse move move_by
  move-refused g q = rw g (record { number = q; bytes = refl })

  pub move_by_lem : {h : Head} {r : ℕ} {after : List ℕ} → judge s ≡ Accepted h → Gives (move_on F W (policy_of s) old new) r after
      → Gives (move F W s old new) r after
  unfolding move move_by
  move_by_lem g e = rw g e
