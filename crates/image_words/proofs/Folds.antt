-- A table filled word by word, by any step: the fold of the words from here on.
-- Assumes nothing.
use mathlib.Core.Path.{◌≡◌}
use mathlib.Core.List.{List}
use Prim.Native.Nat.{ℕ, suc, ◌+◌, ◌-◌, ◌≤◌, ◌<◌}
use native.Mathlib.Omega.{arith}
use Rattle.model.specs.declared.Word.{Word}
use Rattle.model.specs.declared.Entry.{Entry}
use Rattle.model.specs.Image.{word_at, decode}
use Rattle.model.specs.Policy.{entry_at, entries_from, fold}

module _ {A : Type 0} (step : A → Entry → A) (s : List ℕ) (n p : ℕ) (a : A) where
  pub fold_next : (w : ℕ) (d : Word) (a' r : A) → p < n → w ≡ word_at s p → d ≡ decode w → a' ≡ step a d.entry
      → fold step a (entries_from s (n - p) p) ≡ r → fold step a' (entries_from s (n - (p + 1)) (p + 1)) ≡ r
  unfolding fold entries_from entry_at
  fold_next w d a' r l ew ed ea e = let k : n - p ≡ suc (n - (p + 1)) = omega arith in rw (ea, ed, ew) (rw k at e)

  pub fold_end : (r : A) → n ≤ p → fold step a (entries_from s (n - p) p) ≡ r → a ≡ r
  unfolding fold entries_from
  fold_end r l e = let k : n - p ≡ 0 = omega arith in rw k at e
