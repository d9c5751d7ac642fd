-- A table of 32 bytes filled with those of a number, the lowest first.
-- Assumes nothing.
use mathlib.Core.Path.{◌≡◌, refl, sym, ap, ◌∙◌}
use mathlib.Core.List.{List, ◌∷◌, ◌++◌}
use Prim.Native.Nat.{ℕ, zero, suc, ◌+◌, ◌-◌, ◌/◌, ◌%◌, ◌<◌}
use native.Mathlib.Numerals.{add-one}
use native.Mathlib.Omega.{arith}
use lib.ListN.{length, set, take, drop, replicate, length-set, take-append-drop}
use lib.Seq.{take-suc-set, drop-set-lt, drop-drop, append_snoc}
use Rattle.model.specs.Bytes.{bytes_of}

-- the bytes before j stand, those from j on are zero, and x is what is left of v
pub record Filling (v : ℕ) (out : List ℕ) (j x : ℕ) : Type 0 where
  pub long : length out ≡ 32
  pub zeros : drop j out ≡ replicate (32 - j) 0
  pub bytes_are : bytes_of 32 v ≡ take j out ++ bytes_of (32 - j) x

pub fill_begins : (v : ℕ) → Filling v (replicate 32 0) 0 v
fill_begins v = record { long = refl; zeros = refl; bytes_are = refl }

pub fill_goes_on : (v : ℕ) (out : List ℕ) (j x : ℕ) → j < 32 → Filling v out j x → Filling v (set out j (x % 256)) (j + 1) (x / 256)
unfolding bytes_of
fill_goes_on v out j x h f =
    let s : 32 - j ≡ suc (32 - (j + 1)) = omega arith in
    let l : j < length out = omega (arith, f.long) in
    record {
      long = length-set out j (x % 256) ∙ f.long;
      zeros =
          drop-set-lt (j + 1) out j (x % 256) (omega arith) ∙ sym (drop-drop 1 j out) ∙ ap (drop 1) f.zeros ∙ ap (λ n. drop 1 (replicate n 0)) s;
      bytes_are =
          f.bytes_are ∙ ap (λ n. take j out ++ bytes_of n x) s ∙ sym (append_snoc (take j out) (x % 256) (bytes_of (32 - (j + 1)) (x / 256)))
          ∙ ap (λ ys. ys ++ bytes_of (32 - (j + 1)) (x / 256)) (sym (take-suc-set out j (x % 256) l) ∙ ap (λ n. take n (set out j (x % 256)))
          (sym (add-one j)));
    }

no_bytes : (n : ℕ) → bytes_of n 0 ≡ replicate n 0
unfolding bytes_of
no_bytes zero = refl
no_bytes (suc n) = ap (λ bs. 0 ∷ bs) (no_bytes n)

pub fill_ends : (v : ℕ) (out : List ℕ) (j x : ℕ) → x ≡ 0 → Filling v out j x → out ≡ bytes_of 32 v
fill_ends v out j x e f =
    sym (take-append-drop j out) ∙ ap (λ bs. take j out ++ bs) (f.zeros ∙ sym (no_bytes (32 - j)) ∙ ap (bytes_of (32 - j)) (sym e)) ∙ sym f.bytes_are
