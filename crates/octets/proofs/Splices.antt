-- Laws of a splice: what it leaves as it was, and splices one behind another are one.
-- Assumes nothing.
use mathlib.Core.Path.{◌≡◌, sym, ap, ap₂, ◌∙◌}
use mathlib.Core.List.{List, [], ◌++◌, append_assoc, append-nil}
use Prim.Native.Nat.{ℕ, ◌+◌, ◌*◌, ◌-◌, ◌≤◌}
use native.Mathlib.Nat.{add-zero}
use native.Mathlib.Omega.{arith}
use lib.ListN.{length, take, drop, length-append, length-drop, take-append-drop, drop_of_length-le}
use lib.Seq.{paste, take_at, drop_at, length-take-le, take-length, drop-drop}
use Rattle.model.specs.Run.{with_line}
use Rattle.octets.specs.Splice.{splice}

-- as a loop that stores byte by byte leaves it
pub splice_paste : (s : List ℕ) (at : ℕ) (bs : List ℕ) → paste s at bs (length bs) ≡ splice s at bs
unfolding splice
splice_paste s at bs =
    ap (λ (x : List ℕ). take at s ++ x ++ drop (at + length bs) s) (take-length bs)
    ∙ append_assoc (take at s) bs (drop (at + length bs) s)

pub splice_nil : (s : List ℕ) (at : ℕ) → splice s at [] ≡ s
unfolding splice
splice_nil s at = ap (λ (k : ℕ). take at s ++ drop k s) (add-zero at) ∙ take-append-drop at s

-- a splice over the whole of a list
pub splice_all : (s bs : List ℕ) → length bs ≡ length s → splice s 0 bs ≡ bs
unfolding splice
splice_all s bs e =
    let h : length s ≤ 0 + length bs = omega arith in
    ap (λ (r : List ℕ). bs ++ r) (drop_of_length-le s h) ∙ append-nil bs

-- user u's line put into the ledger, lines of z bytes
pub splice-line : (z u : ℕ) (bs ledger : List ℕ) → length bs ≡ z → splice ledger (z * u) bs ≡ with_line z u bs ledger
unfolding splice with_line
splice-line z u bs ledger e = ap (λ (n : ℕ). take (z * u) ledger ++ (bs ++ drop (z * u + n) ledger)) e

module _ (s : List ℕ) (at : ℕ) (bs : List ℕ) (h : at + length bs ≤ length s) where
  taken : length (take at s) ≡ at
  taken = length-take-le at s (omega arith)

  ahead : length (take at s ++ bs) ≡ at + length bs
  ahead = length-append (take at s) bs ∙ ap (λ (n : ℕ). n + length bs) taken

  grouped : splice s at bs ≡ (take at s ++ bs) ++ drop (at + length bs) s
  unfolding splice
  grouped = sym (append_assoc (take at s) bs (drop (at + length bs) s))

  pub length-splice : length (splice s at bs) ≡ length s
  length-splice = rw grouped (length-append (take at s ++ bs) (drop (at + length bs) s) ∙ omega (arith, ahead, length-drop (at + length bs) s))

  -- behind it all is as it was
  pub drop-splice : (q : ℕ) → at + length bs ≤ q → drop q (splice s at bs) ≡ drop q s
  drop-splice q k =
      let m : ℕ = q - (at + length bs) in
      let e : (at + length bs) + m ≡ q = omega arith in
      ap (λ (n : ℕ). drop n (splice s at bs)) (sym e) ∙ sym (drop-drop m (at + length bs) (splice s at bs))
      ∙ ap (drop m) (ap (drop (at + length bs)) grouped ∙ drop_at (take at s ++ bs) (drop (at + length bs) s) (at + length bs) ahead)
      ∙ drop-drop m (at + length bs) s ∙ ap (λ (n : ℕ). drop n s) e

-- a splice right behind another is one splice
pub splice-splice : (s : List ℕ) (at : ℕ) (xs ys : List ℕ) → at + length xs + length ys ≤ length s
    → splice (splice s at xs) (at + length xs) ys ≡ splice s at (xs ++ ys)
unfolding splice
splice-splice s at xs ys h =
    let t : length (take at s) ≡ at = length-take-le at s (omega arith) in
    let p : length (take at s ++ xs) ≡ at + length xs = length-append (take at s) xs ∙ ap (λ (n : ℕ). n + length xs) t in
    let rest : List ℕ = drop (at + length xs) s in
    let k : at + length xs ≤ length s = omega arith in
    let e0 : splice s at xs ≡ (take at s ++ xs) ++ rest = sym (append_assoc (take at s) xs rest) in
    let e1 : take (at + length xs) (splice s at xs) ≡ take at s ++ xs
    = ap (take (at + length xs)) e0 ∙ take_at (take at s ++ xs) rest (at + length xs) p in
    let e2 : drop (at + length xs + length ys) (splice s at xs) ≡ drop (at + length xs + length ys) s
    = drop-splice s at xs k (at + length xs + length ys) (omega arith) in
    let e3 : at + length xs + length ys ≡ at + length (xs ++ ys) = omega (arith, length-append xs ys) in
    ap₂ (λ (a b : List ℕ). a ++ (ys ++ b)) e1 (e2 ∙ ap (λ (n : ℕ). drop n s) e3)
    ∙ append_assoc (take at s) xs (ys ++ drop (at + length (xs ++ ys)) s)
    ∙ ap (λ (b : List ℕ). take at s ++ b) (sym (append_assoc xs ys (drop (at + length (xs ++ ys)) s)))
