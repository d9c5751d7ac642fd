-- The refusals of the calls on tables of 2,048 bytes.
-- Assumes nothing.
use mathlib.Core.Path.{◌≡◌, refl, sym, ap, ◌∙◌}
use mathlib.Core.Logic.{inl, inr}
use mathlib.Core.Bool.{Bool, true, false, ◌&&◌}
use mathlib.Core.List.{List}
use Prim.Native.Nat.{ℕ}
use native.Mathlib.Omega.{arith}
use lib.Dec.{eqb}
use lib.ListN.{length}
use borrow.Author.Tests.{eqb-true, eqb-false}
use Rattle.model.specs.Session.{Reply, refuse}
use Rattle.model.specs.Run.{filled_with, answered}
use Rattle.grant_table_turned.specs.Turned.{turned, unturned}
use Rattle.grant_table_turned.specs.Calls.{filling, turn_call, unturn_call, TurnRefuses}

-- a refusal is told from what is done by its number
pub apart : (n x : ℕ) (bs : List ℕ) → ¬ (n ≡ 0) → ¬ (refuse n x ≡ filling bs)
unfolding refuse filling
apart n x bs z e = z (ap (λ (r : Reply). r.number) e)

-- it leaves the buffer
pub left : (buffer : List ℕ) (r : Reply) (n x : ℕ) → r ≡ refuse n x → answered buffer r ≡ buffer
unfolding answered refuse filled_with
left buffer r n x e = ap (λ (r : Reply). answered buffer r) e

-- ---- turned, and back
module _ (call : List ℕ → ℕ → Reply) (f : List ℕ → List ℕ) (source buffer : List ℕ)
    (is : call source (length buffer) ≡ elim (eqb (length source) 2048 && eqb (length buffer) 2048) [ true ↦ filling (f source) | false ↦ refuse 19 0 ]) where
  data Ways : Type 0 where
    fits : length source ≡ 2048 → length buffer ≡ 2048 → call source (length buffer) ≡ filling (f source) → Ways
    not_source : ¬ (length source ≡ 2048) → call source (length buffer) ≡ refuse 19 0 → Ways
    not_buffer : ¬ (length buffer ≡ 2048) → call source (length buffer) ≡ refuse 19 0 → Ways

  ways : Ways
  ways = go (eqb (length source) 2048) (eqb (length buffer) 2048) refl refl is
    where
      go : (a b : Bool) → eqb (length source) 2048 ≡ a → eqb (length buffer) 2048 ≡ b
          → call source (length buffer) ≡ elim (a && b) [ true ↦ filling (f source) | false ↦ refuse 19 0 ] → Ways
      go true true d e i = fits (eqb-true _ _ d) (eqb-true _ _ e) i
      go true false d e i = not_buffer (eqb-false _ _ e) i
      go false b d e i = not_source (eqb-false _ _ d) i

  refuses_by : Ways → TurnRefuses call f source buffer
  unfolding filling
  refuses_by (fits a b i) =
      record {
        room = (λ e. absurd (apart 19 0 (f source) (λ z. omega arith) (sym e ∙ i)), λ w. absurd (elim w [ inl n ↦ n a | inr n ↦ n b ]));
        done = (λ _. (a, b), λ _. i);
        either = inr i;
        untouched = λ n. absurd (n (ap (λ (r : Reply). r.number) i));
      }
  refuses_by (not_source a i) =
      record {
        room = (λ _. inl a, λ _. i);
        done = (λ e. absurd (apart 19 0 (f source) (λ z. omega arith) (sym i ∙ e)), λ w. absurd (a w.0));
        either = inl i;
        untouched = λ _. left buffer (call source (length buffer)) 19 0 i;
      }
  refuses_by (not_buffer b i) =
      record {
        room = (λ _. inr b, λ _. i);
        done = (λ e. absurd (apart 19 0 (f source) (λ z. omega arith) (sym i ∙ e)), λ w. absurd (b w.1));
        either = inl i;
        untouched = λ _. left buffer (call source (length buffer)) 19 0 i;
      }

pub turn-refuses : (source buffer : List ℕ) → TurnRefuses turn_call turned source buffer
unfolding turn_call
turn-refuses source buffer = refuses_by turn_call turned source buffer refl (ways turn_call turned source buffer refl)

pub unturn_refuses : (source buffer : List ℕ) → TurnRefuses unturn_call unturned source buffer
unfolding unturn_call
unturn_refuses source buffer = refuses_by unturn_call unturned source buffer refl (ways unturn_call unturned source buffer refl)
