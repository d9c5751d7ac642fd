-- What an objective wants of a variable.
-- Assumes nothing.
use mathlib.Core.Path.{◌≡◌, refl, sym, ap}
use mathlib.Core.List.{List}
use Prim.Native.Nat.{ℕ, zero, suc}
use native.Mathlib.Omega.{arith}
use Rattle.model.specs.Clauses.{must, must_not, wanting}
use Rattle.model.specs.Dimacs.{decimal, clauses_text, weighing}
use Rattle.clauses_bytes.specs.Putting.{Puts, packed_text}
use Rattle.clauses_lines.specs.Lines.{line_of, lines_of}
use Rattle.query_rank.specs.declared.objective.Objective.{Objective}
use Rattle.query_rank.specs.declared.objective.Objective.TheVariants.{Any, Fewest, Most}
use Rattle.query_rank.specs.Objectives.{number_of, Stands}
use Rattle.clauses_soft.specs.Soft.{wanted, wanting_permissions, wanting_roles}
use Rattle.clauses_bytes.proofs.WritingLaws.{put_nothing, puts_as}
use Rattle.clauses_lines.proofs.LineLaws.{line_put, lines-weighing}

module _ (w x : ℕ) where
  pub want_nothing : (l : List ℕ) (at : ℕ) → Puts l at (lines_of w (wanted 0 x)) l at
  unfolding wanted lines_of
  want_nothing l at = put_nothing l at

  pub want_false : {l a : List ℕ} {at r : ℕ} → Puts l at (line_of w (must_not x)) a r → Puts l at (lines_of w (wanted 1 x)) a r
  unfolding wanted
  want_false p = line_put w (must_not x) p

  pub want_true : {l a : List ℕ} {at r : ℕ} → Puts l at (line_of w (must x)) a r → Puts l at (lines_of w (wanted 2 x)) a r
  unfolding wanted
  want_true p = line_put w (must x) p

-- what is wanted, by its weight
weighed : (a v x : ℕ) → weighing v (wanted a x) ≡ wanting a v x
unfolding wanted wanting weighing
weighed zero v x = refl
weighed (suc zero) v x = refl
weighed (suc (suc a)) v x = refl

pub wanted_put : {l m : List ℕ} {at r : ℕ} (a w v x y : ℕ) → Puts l at (lines_of w (wanted a y)) m r → packed_text w ≡ decimal v → y ≡ x
    → Puts l at (clauses_text (wanting a v x)) m r
wanted_put a w v x y p e h = rw (← weighed a v x) (puts_as (lines-weighing w v (wanted a x) e) (rw h at p))

-- ---- numbers that stand for one objective want alike
pub permissions_standing : (o : Objective) (R P a : ℕ) → Stands o a → wanting_permissions R P (number_of o) ≡ wanting_permissions R P a
unfolding wanting_permissions wanting
permissions_standing Any R P a h = ap (wanting_permissions R P) (sym h)
permissions_standing Fewest R P a h = ap (wanting_permissions R P) (sym h)
permissions_standing Most R P zero h = absurd (omega arith)
permissions_standing Most R P (suc zero) h = absurd (omega arith)
permissions_standing Most R P (suc (suc a)) h = refl

pub roles_standing : (o : Objective) (R b : ℕ) → Stands o b → wanting_roles R (number_of o) ≡ wanting_roles R b
unfolding wanting_roles wanting
roles_standing Any R b h = ap (wanting_roles R) (sym h)
roles_standing Fewest R b h = ap (wanting_roles R) (sym h)
roles_standing Most R zero h = absurd (omega arith)
roles_standing Most R (suc zero) h = absurd (omega arith)
roles_standing Most R (suc (suc b)) h = refl
