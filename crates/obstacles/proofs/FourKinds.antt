-- The four kinds of an obstacle, by what code holds of a policy and a line: the kinds 1 to 3, or else the fourth.
-- Assumes nothing.
use mathlib.Core.Path.{◌≡◌, refl, sym, ap, ap₂, subst, ◌∙◌}
use mathlib.Core.Bool.{true}
use mathlib.Core.List.{List, []}
use mathlib.Core.Option.{Option, none, some}
use Prim.Native.Nat.{ℕ, ◌^◌, ◌<◌}
use Rattle.model.specs.declared.Exclusions.{Exclusions}
use Rattle.model.specs.declared.Line.{Line}
use Rattle.model.specs.Tests.{or_else}
use Rattle.model.specs.Sets.{has}
use Rattle.model.specs.Policy.{Policy, Meaning, below_table, sorted, meaning}
use Rattle.model.specs.Limits.{Others, unbarred}
use Rattle.model.specs.Obstacle.{Obstacle, left, blocking, blocks, obstacle_of}
use Rattle.model_laws.proofs.AnyWidth.{within_iff}
use Rattle.model_laws.proofs.Barred.{left_own}
use Rattle.model_laws.proofs.Blocking.{or_else_none}
use Rattle.model_laws.proofs.ObstacleLaws.{lacks_none, limit_left}
use Rattle.sets.specs.Words.{values}
use Rattle.tables_rows.specs.Carried.{carried_rows}
use Rattle.query.specs.Carry.{rows_of, Carry}
use Rattle.asks.specs.Asks.{left_to, Asked}
use Rattle.asks.proofs.Rows.{carry_rows}
use Rattle.std.specs.Prelude.{Option as Maybe, Some, None}
use Rattle.obstacles_lacks.specs.declared.found.Obstacle.{Obstacle as Found}
use Rattle.obstacles_lacks.specs.declared.found.Obstacle.TheVariants.{Exclusion}
use Rattle.obstacles_lacks.specs.declared.found.Blocking.{Blocking}
use Rattle.obstacles_blocks.specs.Blocking.{blocked_of}
use Rattle.obstacles_lacks.specs.Founds.{found_of, told_of, own_lacks, upper_lacks, limit_lacks}
use Rattle.obstacles_lacks.proofs.Carriers.{carry_less}
use Rattle.obstacles_lacks.proofs.Within.{or_told}
use Rattle.obstacles.specs.Asking.{Asking}

-- the first of three or else a fourth is the first of four
or_four : (a b c d : Option Obstacle) → or_else (or_else a (or_else b c)) d ≡ or_else a (or_else b (or_else c d))
unfolding or_else
or_four (some o) b c d = refl
or_four none (some o) c d = refl
or_four none none c d = refl

module _ (p : Policy) (u : ℕ) (x : Others) (l : Line) (k : ℕ) (granted below : List ℕ) (own free : ℕ) (xs : Exclusions) (rows : List (List ℕ))
    (g : Asking p u x l k granted below own free xs) (w : own < 2 ^ 64) (e : values rows ≡ carried_rows granted below own) where
  abbrev m : Meaning
  m = meaning p u

  -- the rows are what the user's roles carry
  carry : Carry m own (rows_of rows)
  carry = carry_rows p u own rows w (e ∙ ap₂ (λ (y z : List ℕ). carried_rows y z own) g.granted_is g.below_is)

  own_are : m.authorized ≡ own
  unfolding meaning
  own_are = g.own_is

  pub asked : Asked p u x l k free xs (rows_of rows)
  asked =
      record {
        own_is = g.free_is;
        exclusions_are = g.exclusions_are;
        met = g.met;
        carry =
            carry_less m own free (rows_of rows) carry
            ((within_iff free own).1
            (λ r h. subst (λ (s : ℕ). has s r ≡ true) own_are (left_own m x l k r (subst (λ (s : ℕ). has s r ≡ true) (sym g.free_is) h))));
      }

  module _ (lower upper : ℕ) where
    -- the kinds 1 to 3, and the fourth
    abbrev three : Option Obstacle
    three = or_else (own_lacks m lower) (or_else (upper_lacks m lower upper) (limit_lacks m x l k lower upper))

    abbrev fourth : Option Obstacle
    fourth = blocks l k (blocking (left (left_to p u x l k) l k lower upper) [] m.ordered)

    -- the fourth as code tells it
    abbrev sorted_fourth : Option Obstacle
    sorted_fourth = blocks l k (blocking (left (left_to p u x l k) l k lower upper) [] (sorted p.exclusions))

    whole : or_else three fourth ≡ obstacle_of m x l k lower upper
    unfolding obstacle_of own_lacks upper_lacks limit_lacks
    whole = or_four (own_lacks m lower) (upper_lacks m lower upper) (limit_lacks m x l k lower upper) fourth

    -- where the third tells nothing, a set is left without exclusions
    left-nothing : lower < 2 ^ 256 → three ≡ none → left (left_to p u x l k) l k lower upper [] ≡ true
    unfolding limit_lacks
    left-nothing small h = limit_left m x l k lower upper small (lacks_none 3 _ _ (or_else_none _ _ (or_else_none _ _ h).1).1)

    sorted-blocks : (o : Option Obstacle) → o ≡ sorted_fourth → o ≡ fourth
    unfolding meaning
    sorted-blocks o h = h

    -- ---- what code tells of the kinds 1 to 3
    module _ (f : Maybe Found) (q : (p : Policy) (u : ℕ) (x : Others) (l : Line) (k : ℕ) → granted ≡ p.granted → below ≡ below_table p
        → (meaning p u).authorized ≡ own → (unbarred (meaning p u) x l k).authorized ≡ free → Carry (meaning p u) own (rows_of rows)
        → found_of f ≡ or_else (own_lacks (meaning p u) lower) (or_else (upper_lacks (meaning p u) lower upper)
        (limit_lacks (meaning p u) x l k lower upper))) where
      three_is : found_of f ≡ three
      three_is = q p u x l k g.granted_is g.below_is own_are g.free_is carry

      -- it is told
      pub told_three : (t : Found) → f ≡ Some t → found_of (Some t) ≡ obstacle_of m x l k lower upper
      unfolding found_of
      told_three t h = or_told three fourth (told_of t) (sym (ap found_of h) ∙ three_is) ∙ whole

      -- or what it tells of the fourth
      pub told_fourth : f ≡ None → lower < 2 ^ 256 → (o : Option Obstacle) → (left (left_to p u x l k) l k lower upper [] ≡ true → o ≡ sorted_fourth)
          → o ≡ obstacle_of m x l k lower upper
      unfolding found_of or_else
      told_fourth h small o i =
          let clear : three ≡ none = sym three_is ∙ ap found_of h in
          sorted-blocks o (i (left-nothing small clear)) ∙ ap (λ (y : Option Obstacle). or_else y fourth) (sym clear) ∙ whole

-- an exclusion that blocks as what stands in the way
pub found_blocking : (r : Maybe Blocking) (b : Blocking) (a : Option Obstacle) → r ≡ Some b → blocked_of r ≡ a → found_of (Some (Exclusion b)) ≡ a
unfolding found_of blocked_of
found_blocking r b a q e = sym (ap blocked_of q) ∙ e

pub found-nothing : (r : Maybe Blocking) (a : Option Obstacle) → r ≡ None → blocked_of r ≡ a → found_of None ≡ a
unfolding found_of blocked_of
found-nothing r a q e = sym (ap blocked_of q) ∙ e
