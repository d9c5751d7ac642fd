-- A ledger is determined by its lines.
-- Assumes nothing.
use mathlib.Core.Path.{◌≡◌, refl, sym, ap, ap₂, ◌∙◌}
use mathlib.Core.List.{List, [], ◌∷◌, ◌++◌}
use Prim.Native.Nat.{ℕ, zero, suc, ◌+◌, ◌*◌, ◌<◌}
use native.Mathlib.Nat.{mul-suc}
use native.Mathlib.Omega.{arith}
use lib.ListN.{length, take, drop, length-drop, take-append-drop}
use lib.Seq.{drop-drop}
use Rattle.model.specs.Run.{line_at}

no_bytes : (l m : List ℕ) → length l ≡ 0 → length m ≡ 0 → l ≡ m
no_bytes [] [] h k = refl
no_bytes [] (b ∷ bs) h k = absurd (omega arith)
no_bytes (a ∷ l) m h k = absurd (omega arith)

-- the first line, and those behind it
front_line : (z : ℕ) (l : List ℕ) → line_at z 0 l ≡ take z l
unfolding line_at
front_line z l = ap (λ (n : ℕ). take z (drop n l)) (let e : z * 0 ≡ 0 = omega arith in e)

later_line : (z u : ℕ) (l : List ℕ) → line_at z u (drop z l) ≡ line_at z (suc u) l
unfolding line_at
later_line z u l =
    ap (λ (bs : List ℕ). take z bs)
    (drop-drop (z * u) z l ∙ ap (λ (n : ℕ). drop n l) (let e : z + z * u ≡ z * suc u = omega (arith, mul-suc z u) in e))

pub by_lines : (z n : ℕ) (l m : List ℕ) → length l ≡ z * n → length m ≡ z * n → ((u : ℕ) → u < n → line_at z u l ≡ line_at z u m) → l ≡ m
by_lines z zero l m hl hm f = no_bytes l m (omega arith) (omega arith)
by_lines z (suc n) l m hl hm f =
    sym (take-append-drop z l)
    ∙ ap₂ ◌++◌ (sym (front_line z l) ∙ f 0 (omega arith) ∙ front_line z m)
    (by_lines z n (drop z l) (drop z m) (rw length-drop (omega (arith, mul-suc z n))) (rw length-drop (omega (arith, mul-suc z n)))
    (λ u h. later_line z u l ∙ f (suc u) (omega arith) ∙ sym (later_line z u m)))
    ∙ take-append-drop z m
