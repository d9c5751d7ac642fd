-- The calls on tables of 2,048 bytes, a law for each way that they go, and both round trips.
-- Assumes nothing.
use mathlib.Core.Path.{◌≡◌, refl, sym, ap, ◌∙◌}
use mathlib.Core.Bool.{Bool, true, false, ◌&&◌, and-false}
use mathlib.Core.List.{List}
use Prim.Native.Nat.{ℕ}
use native.Mathlib.Omega.{arith}
use lib.Dec.{eqb}
use lib.Pow.{are_bytes}
use lib.ListN.{length, replicate}
use borrow.Author.Tests.{eq-eqb, ne_eqb}
use Rattle.model.specs.Session.{Reply, refuse}
use Rattle.model.specs.Run.{returned, filled_with, answered}
use Rattle.model_laws.proofs.Bools.{both}
use Rattle.std.specs.Prelude.{Option as Maybe, Some, None, Result, Ok, Err}
use Rattle.std.specs.Option.{ok_or}
use Rattle.reasons.specs.declared.Reason.{Reason}
use Rattle.reasons.specs.declared.Reason.TheVariants.{Room}
use Rattle.hierarchy.specs.Replies.{Replies}
use Rattle.hierarchy.proofs.Filling.{filled_whole}
use Rattle.grant_table_turned.specs.Turned.{turned, unturned}
use Rattle.grant_table_turned.specs.Calls.{filling, turn_call, unturn_call, RoundTrips}
use Rattle.grant_table_turned.proofs.TurnProof.{turn-length, turned_back, unturned_back}

-- ---- a reply by the test of a size

-- what a call gives where its sizes are right, else 19
abbrev pub sized : Bool → List ℕ → Reply
sized b bs = elim b [ true ↦ filling bs | false ↦ refuse 19 0 ]

module _ (room bs : List ℕ) (e : Reply) where
  pub done_by : length bs ≡ 2048 → (after : List ℕ) → e ≡ sized true bs → after ≡ bs → Replies e 0 room after
  unfolding filling returned answered
  done_by n after q w =
      record { number = sym (ap returned q); bytes = w ∙ filled_whole room bs (omega arith) ∙ sym (ap (answered room) q) }

  pub left_by_lem : e ≡ sized false bs → Replies e 19 room room
  unfolding refuse returned answered filled_with
  left_by_lem q = record { number = sym (ap returned q); bytes = sym (ap (answered room) q) }

-- the reason where bytes are no table
pub room_reason : {A : Type 0} (o : Maybe A) (r : Reason) → Err r ≡ ok_or o Room → r ≡ Room
room_reason o r e = ap reason_in e ∙ always o
  where
    reason_in : {A : Type 0} → Result A Reason → Reason
    reason_in (Ok x) = Room
    reason_in (Err x) = x

    always : {A : Type 0} (o : Maybe A) → reason_in (ok_or o Room) ≡ Room
    always None = refl
    always (Some x) = refl

-- ---- turned, and back
module _ (source room : List ℕ) where
  -- the test of both sizes
  abbrev fit : Bool
  fit = eqb (length source) 2048 && eqb (length room) 2048

  pub fits : length source ≡ 2048 → length room ≡ 2048 → fit ≡ true
  fits n m = both (eqb (length source) 2048) (eqb (length room) 2048) (eq-eqb (length source) 2048 n) (eq-eqb (length room) 2048 m)

  by_turn : (b : Bool) → fit ≡ b → turn_call source (length room) ≡ sized b (turned source)
  unfolding turn_call
  by_turn b e = ap (λ (x : Bool). sized x (turned source)) e

  by_unturn : (b : Bool) → fit ≡ b → unturn_call source (length room) ≡ sized b (unturned source)
  unfolding unturn_call
  by_unturn b e = ap (λ (x : Bool). sized x (unturned source)) e

  pub source_unfit : (length source ≡ 2048 → ⊥) → fit ≡ false
  source_unfit n = ap (λ (x : Bool). x && eqb (length room) 2048) (ne_eqb (length source) 2048 n)

  pub target_unfit : (length room ≡ 2048 → ⊥) → fit ≡ false
  target_unfit n = ap (λ (x : Bool). eqb (length source) 2048 && x) (ne_eqb (length room) 2048 n) ∙ and-false (eqb (length source) 2048)

  pub turn_19 : fit ≡ false → (19 ≡ returned (turn_call source (length room))) × (room ≡ answered room (turn_call source (length room)))
  turn_19 e =
      let r = left_by_lem room (turned source) (turn_call source (length room)) (by_turn false e) in
      (r.number, r.bytes)

  pub turn-done : fit ≡ true → (after : List ℕ) → after ≡ turned source
      → (0 ≡ returned (turn_call source (length room))) × (after ≡ answered room (turn_call source (length room)))
  turn-done e after w =
      let r = done_by room (turned source) (turn_call source (length room)) (turn-length 32 8 source) after (by_turn true e) w in
      (r.number, r.bytes)

  pub unturn_19 : fit ≡ false → (19 ≡ returned (unturn_call source (length room))) × (room ≡ answered room (unturn_call source (length room)))
  unturn_19 e =
      let r = left_by_lem room (unturned source) (unturn_call source (length room)) (by_unturn false e) in
      (r.number, r.bytes)

  pub unturn_done : fit ≡ true → (after : List ℕ) → after ≡ unturned source
      → (0 ≡ returned (unturn_call source (length room))) × (after ≡ answered room (unturn_call source (length room)))
  unturn_done e after w =
      let r = done_by room (unturned source) (unturn_call source (length room)) (turn-length 8 32 source) after (by_unturn true e) w in
      (r.number, r.bytes)

-- both round trips
pub round_trips : (bs : List ℕ) → are_bytes bs ≡ true → length bs ≡ 2048 → RoundTrips bs
unfolding filling
round_trips bs h n =
    record {
      turned_back =
          ap (λ (e : Reply). unturn_call e.filled 2048) (turn_at bs n) ∙ unturn_at (turned bs) (turn-length 32 8 bs) ∙ ap filling (turned_back bs h n);
      unturned_back =
          ap (λ (e : Reply). turn_call e.filled 2048) (unturn_at bs n) ∙ turn_at (unturned bs) (turn-length 8 32 bs) ∙ ap filling (unturned_back bs h n);
    }
  where
    turn_at : (bs : List ℕ) → length bs ≡ 2048 → turn_call bs 2048 ≡ filling (turned bs)
    turn_at bs n = by_turn bs (replicate 2048 0) true (fits bs (replicate 2048 0) n refl)

    unturn_at : (bs : List ℕ) → length bs ≡ 2048 → unturn_call bs 2048 ≡ filling (unturned bs)
    unturn_at bs n = by_unturn bs (replicate 2048 0) true (fits bs (replicate 2048 0) n refl)
