-- The loops of the searches: where a loop through roles stands, what a turn makes of it, and what it hands back.
-- Assumes nothing.
use mathlib.Core.Path.{◌≡◌, refl, sym, ap, ◌∙◌}
use mathlib.Core.Bool.{Bool, true, false}
use Prim.Native.Nat.{ℕ, ◌^◌, ◌<◌}
use native.Mathlib.Nat.{lt_of_le_of_lt}
use native.Mathlib.Omega.{arith}
use Rattle.model.specs.Sets.{has, with, count}
use Rattle.sets.specs.Members.{without}
use Rattle.query_rank.specs.declared.Best.{Best}
use Rattle.query_rank.specs.declared.Node.{Node}
use Rattle.query.specs.Carry.{Sub, Reaches}
use Rattle.query.proofs.Members.{sub-le, sub_count, fewer_sub}
use Rattle.search_steps.specs.Search.{Task, Found, Tried}
use Rattle.search_steps.proofs.Turns.{Falls, tries_on, tries_off, takes_both, takes_one, runs_out, barred_sub, roles_less}

-- one role fewer
less_sub : (s r less : ℕ) → has s r ≡ true → less ≡ without s r → Sub less s
less_sub s r less m e i n = fewer_sub s r m i (ap (λ (x : ℕ). has x i) (sym e) ∙ n)

pub less_free : (free left role less : ℕ) → Sub left free → has left role ≡ true → less ≡ without left role → Sub less free
less_free free left role less h m e i n = h i (less_sub left role less m e i n)

pub reaches_sub : (row reach : ℕ → ℕ) (free left : ℕ) → Sub left free → Reaches row reach free → Reaches row reach left
reaches_sub row reach free left h g = record { rows = λ r i le l m. g.rows r i le l (h i m) }

-- of roles below 64, one that is left fewer
pub fewer_free : (free left role less : ℕ) → free < 2 ^ 64 → Sub left free → role < 64 → has left role ≡ true → less ≡ without left role
    → count 64 less < count 64 free
fewer_free free left role less small h l m e =
    let g = roles_less left role less (lt_of_le_of_lt (sub-le left free h) small) l m e in
    let k = sub_count 64 left free h in
    omega arith

-- ---- the roles of tries: some are left to try, and some still free; the best from here on is the best from the start
pub record Trying (t : Task) (tries chosen free : ℕ) (a : Best) (left still : ℕ) (b : Best) : Type 0 where
  pub inside : Sub left still
  pub fewer : Sub still free
  pub rest : (r : Best) → Tried t left chosen still b r → Tried t tries chosen free a r

pub trying_start : (t : Task) (tries chosen free : ℕ) (a : Best) → Sub tries free → Trying t tries chosen free a tries free a
trying_start t tries chosen free a h = record { inside = h; fewer = λ i m. m; rest = λ r f. f }

pub trying_end : (t : Task) (tries chosen free : ℕ) (a : Best) (left still : ℕ) (b : Best) → Trying t tries chosen free a left still b → left ≡ 0
    → Tried t tries chosen free a b
trying_end t tries chosen free a left still b w e = w.rest b (runs_out t left chosen still b e)

module _ (t : Task) (falls : Falls t) (tries chosen free : ℕ) (a : Best) (left still : ℕ) (c : Best)
    (w : Trying t tries chosen free a left still c)
    (role rest less more : ℕ) (b : Bool) (m : has left role ≡ true) (er : rest ≡ without left role) (el : less ≡ without still role)
    (em : more ≡ with chosen role) (eb : b ≡ t.met more) where
  on : has still role ≡ true
  on = w.inside role m

  barred : Sub rest less
  barred = barred_sub left still role rest less w.inside m er el

  smaller : Sub less free
  smaller = less_free free still role less w.fewer on el

  -- with the role the exclusions are not met
  pub trying_off : b ≡ false → Trying t tries chosen free a rest less c
  trying_off e =
      record {
        inside = barred;
        fewer = smaller;
        rest = λ r f. w.rest r (tries_off t falls chosen still role less more b on el em eb left rest c r m er e f);
      }

  -- it was tried
  pub trying_on : (next : Best) → Found t more less c next → Trying t tries chosen free a rest less next
  trying_on next g =
      record {
        inside = barred;
        fewer = smaller;
        rest = λ r f. w.rest r (tries_on t falls chosen still role less more b on el em eb left rest c next r m er g f);
      }

-- ---- all subsets: some of the free roles are left; the best of the sets with these is the best of all
pub record Walking (t : Task) (chosen free : ℕ) (a : Best) (left : ℕ) (b : Best) : Type 0 where
  pub inside : Sub left free
  pub rest : (r : Best) → Found t chosen left b r → Found t chosen free a r

pub walking_start : (t : Task) (chosen free : ℕ) (a : Best) → Walking t chosen free a free a
walking_start t chosen free a = record { inside = λ i m. m; rest = λ r f. f }

module _ (t : Task) (falls : Falls t) (chosen free : ℕ) (a : Best) (left : ℕ) (c : Best) (w : Walking t chosen free a left c)
    (role less more : ℕ) (b : Bool) (m : has left role ≡ true) (el : less ≡ without left role) (em : more ≡ with chosen role) (eb : b ≡ t.met more) where
  lower : Sub less free
  lower = less_free free left role less w.inside m el

  pub walking_off : b ≡ false → Walking t chosen free a less c
  walking_off e = record { inside = lower; rest = λ r f. w.rest r (takes_one t falls chosen left role less more b m el em eb c r e f) }

  pub walking_on : (next : Best) → Found t more less c next → Walking t chosen free a less next
  walking_on next g = record { inside = lower; rest = λ r f. w.rest r (takes_both t falls chosen left role less more b m el em eb c next r g f) }

-- the node of which some roles are left, with one fewer
pub rest_less : (node rest : Node) (left role fewer less : ℕ) → rest ≡ record node { free = left } → fewer ≡ without rest.free role
    → less ≡ without left role → record rest { free = fewer } ≡ record node { free = less }
rest_less node rest left role fewer less e f g = rw (f, e, g) refl
