-- The call that writes a tidy image: what it leaves of the buffer.
-- Assumes nothing.
use mathlib.Core.Path.{◌≡◌, refl, sym, ap, ◌∙◌}
use mathlib.Core.List.{List, ◌++◌}
use Prim.Native.Nat.{ℕ, ◌+◌, ◌-◌, ◌*◌, ◌/◌, ◌≤◌}
use native.Mathlib.Omega.{arith}
use lib.Dec.{ltb}
use lib.ListN.{length, get_or, take, drop, length-append, length-drop}
use lib.Seq.{take_at, get_or-append-add, get_or-drop}
use borrow.Author.Tests.{ltb-false}
use Rattle.model.specs.declared.Checked.{Checked}
use Rattle.model.specs.declared.Checked.TheVariants.{Accepted, Refused}
use Rattle.model.specs.Policy.{Policy, policy_of}
use Rattle.model.specs.Judgement.{judge}
use Rattle.model_tidy.specs.Tidy.{tidy, tidy_of, Written, tidy_by, tidy_call, TidyFrame}
use Rattle.model_laws.proofs.Bools.{pick-case}
use Rattle.model_laws.proofs.ImageNumbers.{Numbered}
use Rattle.model_laws.proofs.Judgements.{judge-numbered}
use Rattle.model_tidy_laws.proofs.TidyImage.{tidy-words}

-- what is left of a buffer by an answer, where w bytes may be written
record Leaves (w : List ℕ) (out : List ℕ) (r : Written) : Type 0 where
  keeps_length : length r.out ≡ length out
  refused : ¬ (r.number ≡ 0) → r.out ≡ out
  beyond : (i : ℕ) → length w ≤ i → get_or r.out i 0 ≡ get_or out i 0
  front : r.number ≡ 0 → take (length w) r.out ≡ w
  counted : r.number ≡ 0 → 4 * r.extra ≡ length w

-- an answer with a number leaves all
left_alone : (w out : List ℕ) (n x : ℕ) → (n ≡ 0 → ⊥) → Leaves w out (record { number = n; extra = x; out = out })
left_alone w out n x z =
    record { keeps_length = refl; refused = λ _. refl; beyond = λ i l. refl; front = λ e. absurd (z e); counted = λ e. absurd (z e) }

-- an answer that is done
written : (p : Policy) (out : List ℕ) → length (tidy p) ≤ length out
    → Leaves (tidy p) out (record { number = 0; extra = length (tidy p) / 4; out = tidy p ++ drop (length (tidy p)) out })
written p out l =
    let w = tidy p in
    let n = length w in
    record {
      keeps_length = let a = length-append w (drop n out) in let b = length-drop n out in omega arith;
      refused = λ z. absurd (z refl);
      beyond =
          λ i k.
          let e : i ≡ n + (i - n) = omega arith in
          ap (λ (j : ℕ). get_or (w ++ drop n out) j 0) e ∙ get_or-append-add w (drop n out) (i - n) 0 ∙ get_or-drop n out (i - n) 0
          ∙ sym (ap (λ (j : ℕ). get_or out j 0) e);
      front = λ _. take_at w (drop n out) n refl;
      counted = λ _. let a = tidy-words p in omega arith;
    }

-- ---- the call
leaves : (v : Checked) (p : Policy) (out : List ℕ) → Numbered 23 v → Leaves (tidy p) out (tidy_by v p out)
unfolding tidy_by
leaves (Refused n place) p out z = left_alone (tidy p) out n place (λ e. omega arith)
leaves (Accepted h) p out z =
    pick-case (Leaves (tidy p) out) (ltb (length out) (length (tidy p))) _ _ (λ _. left_alone (tidy p) out 19 0 (λ e. omega arith))
    (λ e. written p out (ltb-false (length out) (length (tidy p)) e))

pub tidy_frame : (s out : List ℕ) → TidyFrame s out
unfolding tidy_call tidy_of
tidy_frame s out =
    let l = leaves (judge s) (policy_of s) out (judge-numbered s) in
    record { keeps_length = l.keeps_length; refused = l.refused; beyond = l.beyond; front = l.front; counted = l.counted }
