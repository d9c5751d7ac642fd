-- The front of an image: its length and its head.
-- Assumes nothing.
use Rattle.std.specs.Prelude.{◌≡◌, ℕ, ◌-◌, ◌*◌, ◌/◌, ◌≤◌, List, length, ◌≢◌}
use Rattle.model.specs.declared.Checked.TheVariants.{Refused}
use Rattle.model.specs.Image.{word_at, head_of, scan, empty_rows, start, judge_words}

-- n is 1 or 2 where the length or the head is wrong; where it is 0, the image has from 2 to 4,096 words, and those
-- behind the head decide
pub record Front (s : List ℕ) (n : ℕ) : Type 0 where
  pub refused : (n ≢ 0) → Refused n 0 ≡ judge_words s
  pub whole : 4 * (length s / 4) ≤ length s
  pub least : n ≡ 0 → 2 ≤ length s / 4
  pub most : n ≡ 0 → length s / 4 ≤ 4096
  pub scanned : n ≡ 0 → scan s (head_of (word_at s 0)) (length s / 4 - 1) 1 empty_rows start (word_at s 0) ≡ judge_words s
