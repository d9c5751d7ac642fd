-- The members of a set from a number on: those in the number's word, the next one, and how many there are.
-- Assumes nothing.
use mathlib.Core.Path.{◌≡◌, sym, ap, ◌∙◌}
use mathlib.Core.Bool.{false}
use mathlib.Core.List.{List}
use Prim.Native.Nat.{ℕ, ◌+◌, ◌-◌, ◌*◌, ◌/◌, ◌%◌, ◌^◌, ◌≤◌, ◌<◌}
use native.Mathlib.Nat.{mod-lt, mod-eq_of_lt}
use native.Mathlib.Decide.{dec_lt}
use native.Mathlib.Omega.{arith}
use lib.Pow.{pow_pos}
use lib.Count.{ones}
use lib.ListN.{get_or}
use mir.Val.{Fits}
use mir.Syntax.{w64}
use Rattle.model.specs.Sets.{has, one, count_to, count}
use Rattle.model_laws.proofs.SetLaws.{has_low, has_high, has_beyond, ones_count, shl_one, count_cong, count_split}
use Rattle.sets.specs.Members.{Lowest}
use Rattle.sets.specs.Words.{value}
use Rattle.sets.proofs.Machine.{value-has}
use Rattle.sets.proofs.Taken.{lowest_least}
use Rattle.clauses_hard.specs.Members.{Rest, Next, Smaller}
use Rattle.model_laws.proofs.Ranks.{count_most}
use Rattle.model_laws.proofs.Bools.{fails}

-- ---- in a number's word

pub rest-is : (ws : List ℕ) → ((i : ℕ) → Fits w64 (get_or ws i 0)) → (from : ℕ) → from < 256 → Rest (value ws) from (get_or ws (from / 64) 0 / 2 ^ (from % 64))
rest-is ws fit from l =
    record {
      same =
          λ k h. sym (value-has ws fit (from + k) (from / 64) (from % 64 + k) (record { whole = omega arith; inside = omega arith; small = omega arith }))
          ∙ has_high (get_or ws (from / 64) 0) (from % 64) k;
      beyond =
          λ k h. sym (has_high (get_or ws (from / 64) 0) (from % 64) k)
          ∙ has_beyond 64 (get_or ws (from / 64) 0) (from % 64 + k) (fit (from / 64)).fits (omega arith);
    }

-- ---- the next member

-- none from a number on below another
abbrev pub Between : ℕ → ℕ → ℕ → Type 0
Between s from at = (k : ℕ) → from ≤ k → k < at → has s k ≡ false

module _ (s from at rest : ℕ) (none : Between s from at) (part : Rest s at rest) where
  -- none before the place, and none in the d numbers from there on: none in all
  between_more : (d : ℕ) → d ≤ 64 - at % 64 → ((k : ℕ) → k < d → has rest k ≡ false) → Between s from (at + d)
  between_more d small free k g h =
      elim (dec_lt k at) [
        | yes q ↦ none k g q
        | no q ↦ let e : at + (k - at) ≡ k = omega arith in ap (has s) (sym e) ∙ part.same (k - at) (omega arith) ∙ free (k - at) (omega arith)
      ]

  -- an empty word is passed
  pub between_word : rest ≡ 0 → Between s from (at + (64 - at % 64))
  between_word e = between_more (64 - at % 64) (omega arith) (λ k h. ap (λ (x : ℕ). has x k) e ∙ has_beyond 0 0 k (omega arith) (omega arith))

  -- the lowest of a word that has one is the next
  pub next_found : (end r next : ℕ) → from ≤ at → at < end → Lowest rest r → Smaller (at + r) end next → Next s from end next
  next_found end r next g l low cut =
      let inside : r < 64 - at % 64 = elim (dec_lt r (64 - at % 64)) [ yes q ↦ q | no q ↦ absurd (differ (part.beyond r (omega arith))) ] in
      record {
        behind = elim (dec_lt next end) [ yes q ↦ omega (arith, cut.reached q) | no q ↦ omega arith ];
        inside = cut.second;
        member = λ h. ap (has s) (cut.reached h) ∙ part.same r inside ∙ low.member;
        between =
            λ k a b. between_more r (omega arith) (λ j h. fails (has rest j) (λ m. omega (arith, lowest_least rest r j low m))) k a
            (omega (arith, cut.first));
      }
    where
      differ : has rest r ≡ false → ⊥
      differ e = let z : ◌≡◌ {A = ℕ} 0 1 = ap one (sym e ∙ low.member) in omega arith

-- ---- how many there are

-- the members of a word below n: the rest of a division
module _ (word n : ℕ) where
  pub low_divides : n < 64 → 0 < (1 * 2 ^ n) % 2 ^ 64
  low_divides h = rw (shl_one 64 n h) (pow_pos n)

  pub low_some : n < 64 → word % ((1 * 2 ^ n) % 2 ^ 64) ≡ word % 2 ^ n
  low_some h = ap (λ (x : ℕ). word % x) (shl_one 64 n h)

  pub low_all : Fits w64 word → 64 ≤ n → n ≤ 64 → word ≡ word % 2 ^ n
  low_all fit g h = let e : n ≡ 64 = omega arith in rw e (sym (mod-eq_of_lt fit.fits))

  pub low_count : (low : ℕ) → low ≡ word % 2 ^ n → (ones low ≡ count n word) × (ones low ≤ n)
  unfolding count
  low_count low e =
      let f : ones low ≡ count_to (has word) n
      = ap ones e ∙ ones_count n (word % 2 ^ n) (mod-lt word (pow_pos n)) ∙ count_cong (has (word % 2 ^ n)) (has word) n (λ k h. has_low word n k h) in
      (f, omega (arith, count_most (has word) n))

-- the members of m numbers more, which stand in one word
pub count_more : (s from rest m n t : ℕ) → Rest s from rest → m ≤ 64 - from % 64 → n ≡ count from s → t ≡ count m rest → n + t ≡ count (from + m) s
unfolding count
count_more s from rest m n t part small e f =
    omega (arith, count_split (has s) from m, count_cong (λ k. has s (from + k)) (has rest) m (λ k h. part.same k (omega arith)))
