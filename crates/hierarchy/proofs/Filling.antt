-- Rows that are stored one by one, and a buffer that a reply fills.
-- Assumes nothing.
use mathlib.Core.Path.{◌≡◌, refl, ◌∙◌}
use mathlib.Core.List.{List, [], ◌∷◌}
use Prim.Native.Nat.{ℕ, ◌+◌, ◌≤◌, ◌<◌}
use native.Mathlib.Decide.{dec_lt}
use native.Mathlib.Omega.{arith}
use lib.ListN.{length, get_or, set}
use lib.Seq.{get_or-set_same, get_or-set_other}
use Rattle.model.specs.Run.{filled_with}

-- one row more has its value
pub stored_next : (f : ℕ → ℕ) (n x : ℕ) (rows : List ℕ) → n < length rows → x ≡ f n → ((k : ℕ) → k < n → get_or rows k 0 ≡ f k)
    → (k : ℕ) → k < n + 1 → get_or (set rows n x) k 0 ≡ f k
stored_next f n x rows h e all k l =
    elim (dec_lt k n) [
      | yes q ↦ get_or-set_other rows n k x 0 (λ z. absurd (omega arith)) ∙ all k q
      | no q ↦ let z : k ≡ n = omega arith in rw z (get_or-set_same rows n x 0 h ∙ e)
    ]

-- what fills a buffer is there whole
pub filled_whole : (room bs : List ℕ) → 1 ≤ length bs → bs ≡ filled_with room bs
unfolding filled_with
filled_whole room [] l = absurd (omega arith)
filled_whole room (b ∷ bs) l = refl
