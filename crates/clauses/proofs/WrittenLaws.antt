-- A text that is written if it fits.
-- Assumes nothing.
use mathlib.Core.Path.{◌≡◌, refl, ◌∙◌}
use mathlib.Core.List.{List, [], ◌∷◌, ◌++◌}
use Prim.Native.Nat.{ℕ, suc, ◌+◌, ◌%◌, ◌^◌, ◌≤◌, ◌<◌}
use native.Mathlib.Nat.{mod-eq_of_lt}
use native.Mathlib.Numerals.{add-one}
use native.Mathlib.Omega.{arith}
use lib.ListN.{length, set, take, drop}
use lib.Seq.{sets, sets-eq}
use Rattle.clauses_bytes.specs.Putting.{behind, stored, Puts}
use Rattle.clauses.specs.Writing.{Needs, Written}

-- ---- where nothing wraps

pub behind_is : (at : ℕ) (text : List ℕ) → at + length text < 2 ^ 64 → behind at text ≡ at + length text
unfolding behind
behind_is at [] h = omega arith
behind_is at (b ∷ bs) h =
    let e : (at + 1) % 2 ^ 64 ≡ at + 1 = mod-eq_of_lt (omega arith) in
    rw e (behind_is (at + 1) bs (omega arith) ∙ omega arith)

pub stored_is : (l : List ℕ) (at : ℕ) (text : List ℕ) → at + length text < 2 ^ 64 → stored l at text ≡ sets l at text
unfolding stored
stored_is l at [] h = refl
stored_is l at (b ∷ bs) h =
    let e : (at + 1) % 2 ^ 64 ≡ suc at = mod-eq_of_lt (omega arith) ∙ add-one at in
    rw e (stored_is (set l at b) (suc at) bs (omega arith))

-- ---- a text that is written if it fits

-- the length of a text
pub needs_size : (room : ℕ) (t : List ℕ) (n : ℕ) → n ≡ length t → Needs room t n
needs_size room t n e = record { too_long = λ q. e; fits = λ q. omega arith }

module _ (l t : List ℕ) (small : length t < 2 ^ 64) where
  size_of : {m a : List ℕ} {n : ℕ} → Puts m 0 t a n → n ≡ length t
  size_of p = p.next-is ∙ behind_is 0 t (omega arith) ∙ omega arith

  pub written : {a : List ℕ} {n : ℕ} → Puts l 0 t a n → length t ≤ length l → Written l t a n
  written {a} {n} p fits =
      record {
        size_is = size_of p;
        fitting = λ h. p.after_is ∙ stored_is l 0 t (omega arith) ∙ sets-eq t l 0 (omega arith) ∙ front;
        refused = λ h. absurd (omega arith);
      }
    where
      front : take 0 l ++ t ++ drop (0 + length t) l ≡ t ++ drop (length t) l
      front = let z : 0 + length t ≡ length t = omega arith in rw z

  pub unwritten : {n : ℕ} → n ≡ length t → length l < n → Written l t l n
  unwritten e h = record { size_is = e; fitting = λ g. absurd (omega arith); refused = λ g. refl }

pub size_told : (t : List ℕ) {m a : List ℕ} {n : ℕ} → length t < 2 ^ 64 → Puts m 0 t a n → n ≡ length t
size_told t small p = size_of [] t small p
