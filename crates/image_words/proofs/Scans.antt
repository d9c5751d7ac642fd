-- One turn of the walk over an image's words, as the scan has it.
-- Assumes nothing.
use mathlib.Core.Path.{◌≡◌, sym, ap, ◌∙◌}
use mathlib.Core.Bool.{Bool, true, false}
use mathlib.Core.List.{List}
use Prim.Native.Nat.{ℕ, suc, ◌+◌, ◌-◌, ◌%◌, ◌^◌, ◌≤◌, ◌<◌}
use native.Mathlib.Omega.{arith}
use lib.Dec.{eqb}
use borrow.Table.Steps.{cases}
use borrow.Author.Tests.{eq-eqb, ne_eqb, eqb-true, eqb-false}
use Rattle.model.specs.declared.Head.{Head}
use Rattle.model.specs.declared.Scan.{Scan}
use Rattle.model.specs.declared.Word.{Word}
use Rattle.model.specs.declared.Checked.{Checked}
use Rattle.model.specs.declared.Checked.TheVariants.{Accepted, Refused}
use Rattle.model.specs.Tests.{pick}
use Rattle.model.specs.Image.{word_at, decode, fault, assigning, next, scan, balanced}

final_is : (n p : ℕ) → p < n → eqb (n - (p + 1)) 0 ≡ eqb (p + 1) n
final_is n p l =
    cases (eqb (p + 1) n) (λ e. eq-eqb (n - (p + 1)) 0 (omega (arith, eqb-true (p + 1) n e)) ∙ sym e)
    (λ e. ne_eqb (n - (p + 1)) 0 (λ z. eqb-false (p + 1) n e (omega arith)) ∙ sym e)

-- the word at p of n is not the last, or is it
module _ (h : Head) (rows : List ℕ) (t : Scan) (d : Word) (n p f : ℕ) where
  pub before_last : p + 1 < n → f ≡ fault h rows t false d → f ≡ fault h rows t (eqb (p + 1) n) d
  before_last l e = e ∙ ap (λ (b : Bool). fault h rows t b d) (sym (ne_eqb (p + 1) n (λ q. omega arith)))

  pub at_last : p + 1 ≡ n → f ≡ fault h rows t true d → f ≡ fault h rows t (eqb (p + 1) n) d
  at_last l e = e ∙ ap (λ (b : Bool). fault h rows t b d) (sym (eq-eqb (p + 1) n l))

-- the sum decides
sum_right : (h : Head) (n sum : ℕ) → sum % 2 ^ 28 ≡ 0 → balanced h n sum ≡ Accepted h
unfolding balanced pick
sum_right h n sum e = rw (eq-eqb _ _ e)

sum_wrong : (h : Head) (n sum : ℕ) → (sum % 2 ^ 28 ≡ 0 → ⊥) → balanced h n sum ≡ Refused 8 (n - 1)
unfolding balanced pick
sum_wrong h n sum e = rw (ne_eqb _ _ e)

module _ (s : List ℕ) (h : Head) (n p : ℕ) (rows : List ℕ) (t : Scan) (sum : ℕ) where
  -- the word at p has the fault f, and m words stand behind it
  abbrev turn : ℕ → ℕ → Bool → Checked
  turn m f right =
      elim right [
        | true ↦ scan s h m (p + 1) (assigning rows (decode (word_at s p)).entry) (next t (decode (word_at s p)).entry) ((sum + word_at s p) % 2 ^ 32)
        | false ↦ Refused f p
      ]

  fault_here : Bool → ℕ
  fault_here final = fault h rows t final (decode (word_at s p))

  opened : (f : ℕ) → p < n → fault_here (eqb (p + 1) n) ≡ f → scan s h (n - p) p rows t sum ≡ turn (n - (p + 1)) f (eqb f 0)
  unfolding scan fault_here
  opened f l e =
      let k : n - p ≡ suc (n - (p + 1)) = omega arith in
      ap (λ (m : ℕ). scan s h m p rows t sum) k
      ∙ ap (λ (x : ℕ). turn (n - (p + 1)) x (eqb x 0)) (ap fault_here (final_is n p l) ∙ e)

  module _ (w : ℕ) (d : Word) (f : ℕ) (l : p < n) (ew : w ≡ word_at s p) (ed : d ≡ decode w)
      (ef : f ≡ fault h rows t (eqb (p + 1) n) d) where
    here : fault_here (eqb (p + 1) n) ≡ f
    unfolding fault_here
    here = cc

    pub stops : (r : Checked) → (f ≡ 0 → ⊥) → scan s h (n - p) p rows t sum ≡ r → Refused f p ≡ r
    stops r z e = sym (opened f l here ∙ ap (turn (n - (p + 1)) f) (ne_eqb f 0 z)) ∙ e

    pub goes : (r : Checked) → f ≡ 0 → (rows' : List ℕ) (t' : Scan) (sum' : ℕ) → rows' ≡ assigning rows d.entry → t' ≡ next t d.entry
        → sum' ≡ (sum + w) % 2 ^ 32 → scan s h (n - p) p rows t sum ≡ r → scan s h (n - (p + 1)) (p + 1) rows' t' sum' ≡ r
    goes r z rows' t' sum' eh es em e = rw (eh, es, em, ed, ew) (sym (opened f l here ∙ ap (turn (n - (p + 1)) f) (eq-eqb f 0 z)) ∙ e)

  ends : n ≤ p → p ≤ n → scan s h (n - p) p rows t sum ≡ balanced h n sum
  unfolding scan
  ends l m = let k : p ≡ n = omega arith in let z : n - n ≡ 0 = omega arith in rw (k, z)

  -- all words read: the sum decides
  pub ends_right_lem : (r : Checked) → n ≤ p → p ≤ n → sum % 2 ^ 28 ≡ 0 → scan s h (n - p) p rows t sum ≡ r → Accepted h ≡ r
  ends_right_lem r l m z e = sym (ends l m ∙ sum_right h n sum z) ∙ e

  pub ends_wrong : (r : Checked) → n ≤ p → p ≤ n → (sum % 2 ^ 28 ≡ 0 → ⊥) → scan s h (n - p) p rows t sum ≡ r → Refused 8 (n - 1) ≡ r
  ends_wrong r l m z e = sym (ends l m ∙ sum_wrong h n sum z) ∙ e
