-- What is told of an obstacle: the number returned and the bytes of two role sets; and what it is looked for with.
-- Assumes nothing.
use mathlib.Core.Path.{◌≡◌, sym, ap, subst, ◌∙◌}
use mathlib.Core.List.{List, [], ◌∷◌, ◌++◌, append-nil}
use mathlib.Core.Option.{Option}
use Prim.Native.Nat.{ℕ, ◌+◌, ◌*◌, ◌^◌, ◌≤◌, ◌<◌}
use native.Mathlib.Nat.{mod-eq_of_lt}
use native.Mathlib.Omega.{arith}
use lib.ListN.{length, get_or, drop_of_length-le}
use Rattle.model.specs.declared.Head.{Head}
use Rattle.model.specs.declared.Exclusions.{Exclusions}
use Rattle.model.specs.declared.Line.{Line}
use Rattle.model.specs.Bytes.{bytes_of}
use Rattle.model.specs.Policy.{Policy, meaning}
use Rattle.model.specs.Line.{SESSIONS, exclusions_met}
use Rattle.model.specs.Limits.{Others}
use Rattle.model.specs.Obstacle.{Obstacle, obstacle_of}
use Rattle.model.specs.Session.{refuse, tell, obstructed}
use Rattle.model.specs.Run.{line_of, returned, filled_with, answered}
use Rattle.octets.specs.Splice.{splice, bytes_of_all}
use Rattle.sessions.specs.Calls.{Known}
use Rattle.asks.specs.Asks.{left_to, Searched}
use Rattle.std.specs.Prelude.{Option as Maybe, Some, None}
use Rattle.reasons.specs.Numbers.{in_64_bits}
use Rattle.obstacles_lacks.specs.declared.found.Obstacle.{Obstacle as Found}
use Rattle.obstacles_lacks.specs.Founds.{found_of, told_of}
use Rattle.obstacles.specs.Asking.{Asking}
use Rattle.asks_obstacle.specs.Telling.{reply_of, Tells, TellsOf}

-- nothing was found
pub tells-nothing : (f : Maybe Found) (room : List ℕ) → f ≡ None → Tells (found_of f) 20 room room
unfolding found_of reply_of obstructed refuse returned answered filled_with
tells-nothing f room e =
    record {
      number = sym (ap (λ (g : Maybe Found). returned (reply_of (found_of g))) e);
      buffer = sym (ap (λ (g : Maybe Found). answered room (reply_of (found_of g))) e);
    }

-- two numbers take the place of 16 bytes
pub pair_filled : (s : List ℕ) (a b : ℕ) (out : List ℕ) → length s ≡ 16 → out ≡ splice s 0 (bytes_of_all (a ∷ b ∷ [])) → out ≡ bytes_of 8 a ++ bytes_of 8 b
unfolding splice bytes_of_all bytes_of
pair_filled s a b out h e =
    let z : length s ≤ 16 = omega arith in
    e ∙ ap (λ (y : List ℕ). (bytes_of 8 a ++ bytes_of 8 b) ++ y) (drop_of_length-le s z) ∙ append-nil (bytes_of 8 a ++ bytes_of 8 b)

-- an obstacle was found, and both its sets are written
pub tells-one : (f : Maybe Found) (o : Found) (extra first second : ℕ) (room out : List ℕ) → f ≡ Some o → TellsOf o extra first second
    → out ≡ bytes_of 8 first ++ bytes_of 8 second → Tells (found_of f) (in_64_bits (256 * extra)) room out
unfolding found_of reply_of obstructed tell returned answered filled_with bytes_of
tells-one f o extra first second room out e t w =
    let z : in_64_bits (256 * extra) ≡ 0 + 256 * ((told_of o).kind + 8 * (told_of o).about) =
    mod-eq_of_lt (omega (arith, t.small)) ∙ omega (arith, t.extra-is) in
    record {
      number = z ∙ sym (ap (λ (g : Maybe Found). returned (reply_of (found_of g))) e);
      buffer = w ∙ (λ i. bytes_of 8 (t.first_is i) ++ bytes_of 8 (t.second_is i))
          ∙ sym (ap (λ (g : Maybe Found). answered room (reply_of (found_of g))) e);
    }

-- the roles of the user, by the table of them
pub own_of : (p : Policy) (head : Head) (rows : List ℕ) (xs : Exclusions) (u r : ℕ) → Known head rows xs p → u < p.head.users → r ≡ get_or rows u 0
    → r < 2 ^ 64 → (meaning p u).authorized ≡ r
unfolding meaning
own_of p head rows xs u r h l e w = let q : get_or rows u 0 < 2 ^ 64 = subst (λ (y : ℕ). y < 2 ^ 64) e w in sym (e ∙ h.own_is u l q)

-- what is looked with
pub asking_of : (p : Policy) (u : ℕ) (x : Others) (ledger : List ℕ) (k : ℕ) (granted below : List ℕ) (own free : ℕ) (xs : Exclusions) (l : Line)
    → Searched p u x ledger k granted below free xs → (meaning p u).authorized ≡ own → l ≡ line_of SESSIONS ledger u
    → Asking p u x l k granted below own free xs
unfolding meaning
asking_of p u x ledger k granted below own free xs l s o f =
    record {
      granted_is = s.granted_is;
      below_is = s.below_is;
      own_is = o;
      free_is = ap (λ (y : Line). (left_to p u x y k).authorized) f ∙ s.own_is;
      exclusions_are = s.exclusions_are;
      met = ap (exclusions_met (meaning p u)) f ∙ s.met;
    }

-- by the line that code holds
pub found_on : (p : Policy) (u : ℕ) (x : Others) (l n : Line) (k lower upper : ℕ) (o : Option Obstacle) → o ≡ obstacle_of (meaning p u) x l k lower upper
    → l ≡ n → o ≡ obstacle_of (meaning p u) x n k lower upper
found_on p u x l n k lower upper o e f = e ∙ ap (λ (y : Line). obstacle_of (meaning p u) x y k lower upper) f
