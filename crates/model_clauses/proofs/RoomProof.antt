-- No clause text into a buffer of `TEXT_ROOM` bytes is refused by 19: where the line is sound and the session there,
-- the text fits.
-- Assumes nothing.
use mathlib.Core.Path.{◌≡◌}
use mathlib.Core.Bool.{Bool, true, false}
use mathlib.Core.Option.{Option, none, some}
use mathlib.Core.List.{List, [], ◌∷◌}
use Prim.Native.Nat.{ℕ, ◌≤◌, ◌<◌}
use native.Mathlib.Omega.{arith}
use lib.ListN.{length}
use borrow.Author.Tests.{le-ltb, leb-false, not-false}
use Rattle.model.specs.Tests.{first}
use Rattle.model.specs.Bytes.{number}
use Rattle.model.specs.Policy.{Meaning}
use Rattle.model.specs.Line.{read_line, sound, exclusions_met}
use Rattle.model.specs.Limits.{Others, unbarred}
use Rattle.model.specs.Session.{Query, clauses, refuse, wrote, Refusal, bad_other, bad_line, bad_session, is_closed, bad_set, bad_permission, bad_bounds, bad_aim, too_long, refusal_number, can_give, text_for, applies, perform, session_of, query_of, unless, rule}
use borrow.Table.Steps.{cases}
use Rattle.model_laws.proofs.LineLaws.{length-read_sessions}
use Rattle.model_laws.proofs.SoundLaws.{sound-parts}
use Rattle.model_clauses.specs.Texts.{TEXT_ROOM, RoomEnough}
use Rattle.model_clauses.proofs.Meant.{Meant, left_meant}
use Rattle.model_clauses.proofs.DimacsSizes.{text_small}

-- what refuses a call is not of number 19
abbrev Never19 : Option Refusal → Type 0
Never19 none = Unit {0}
Never19 (some f) = ¬ (refusal_number f ≡ 19)

-- a refusal of another number, which passes on what does not hold; one that does not hold
passing : (f : Refusal → Bool) (x : Refusal) (xs : List Refusal) → ¬ (refusal_number x ≡ 19) → (f x ≡ false → Never19 (first f xs))
    → Never19 (first f (x ∷ xs))
unfolding first
passing f x xs n h = cases (f x) (λ e. rw (e, first) n) (λ e. rw (e, first) (h e))

none_left : (f : Refusal → Bool) (x : Refusal) → f x ≡ false → Never19 (first f (x ∷ []))
unfolding first
none_left f x e = rw (e, first) tt

module _ (W : ℕ) (m : Meaning) (range : Meant m) (x : Others) (bs : List ℕ) (k : ℕ) (q : Query) (enough : TEXT_ROOM ≤ q.room) where
  abbrev tests : Refusal → Bool
  tests = applies W m x (read_line W bs) k q

  fits : sound W m (read_line W bs) ≡ true → k < W → tests too_long ≡ false
  unfolding applies text_for read_line unbarred exclusions_met
  fits s l =
      let inside : k < length (read_line W bs).sessions = rw (length-read_sessions W _) l in
      le-ltb q.room _
      (omega (
        arith,
        (text_small (unbarred m x (read_line W bs) k) (left_meant m range x (read_line W bs) k) (read_line W bs) k (number q.lower)
            (number q.upper) inside (sound-parts m (read_line W bs) W s).met q.permission_aim q.role_aim
            ).bytes,
      ))

  never : Never19 (first tests (can_give (clauses k q)))
  unfolding can_give applies refusal_number
  never =
      passing tests bad_other _ (λ e. omega arith) (λ _.
      passing tests bad_line _ (λ e. omega arith) (λ a.
      passing tests bad_session _ (λ e. omega arith) (λ b.
      passing tests is_closed _ (λ e. omega arith) (λ _.
      passing tests bad_set _ (λ e. omega arith) (λ _.
      passing tests bad_permission _ (λ e. omega arith) (λ _.
      passing tests bad_bounds _ (λ e. omega arith) (λ _.
      passing tests bad_aim _ (λ e. omega arith) (λ _.
      none_left tests too_long (fits (not-false (sound W m (read_line W bs)) a) (leb-false W k b))))))))))

  unless_never : (o : Option Refusal) → Never19 o → ¬ ((unless x o bs (perform W m x (read_line W bs) bs (clauses k q))).reply.number ≡ 19)
  unfolding unless refuse perform wrote
  unless_never none h e = omega arith
  unless_never (some f) h e = h e

  room_here : ¬ ((rule W m x bs (clauses k q)).reply.number ≡ 19)
  unfolding rule session_of query_of
  room_here = unless_never (first tests (can_give (clauses k q))) never

pub room_enough : (W : ℕ) (m : Meaning) → Meant m → RoomEnough W m
room_enough W m range x bs k q enough = room_here W m range x bs k q enough
