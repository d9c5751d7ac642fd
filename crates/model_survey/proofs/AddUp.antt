-- The counts add up to the length of the list of answers, and each fits 64 bits where that does.
-- Assumes nothing.
use mathlib.Core.Path.{◌≡◌, refl, ap, ◌∙◌}
use mathlib.Core.Bool.{Bool, true, false}
use mathlib.Core.List.{List, [], ◌∷◌}
use Prim.Native.Nat.{ℕ, zero, suc, ◌+◌, ◌^◌, ◌≤◌, ◌<◌}
use native.Mathlib.Omega.{arith}
use native.Mathlib.Decide.{dec_lt}
use lib.Dec.{eqb}
use lib.ListN.{length}
use borrow.Author.Tests.{eq-eqb, ne_eqb}
use Rattle.model.specs.Judgement.{judge}
use Rattle.model.specs.Sets.{one}
use Rattle.model.specs.Session.{Reply}
use Rattle.model.specs.Ranges.{Each}
use Rattle.model_script.specs.Script.{lines_of, first_ledger}
use Rattle.model_binomials.specs.Binomial.{sum_below}
use Rattle.model_survey.specs.Survey.{answers_of, count_of}
use Rattle.model_survey.proofs.Answers.{Small, all_small}

-- ---- one answer counts once

-- 1 at n, and 0 elsewhere
abbrev at : ℕ → ℕ → ℕ
at n k = one (eqb n k)

before : (n d : ℕ) → d ≤ n → sum_below (at n) d ≡ 0
unfolding sum_below
before n zero h = refl
before n (suc d) h =
    let e : at n d ≡ 0 = ap one (ne_eqb n d (λ q. omega arith)) in omega (arith, before n d (omega arith))

once : (n d : ℕ) → n < d → sum_below (at n) d ≡ 1
unfolding sum_below
once n zero h = absurd (omega arith)
once n (suc d) h =
    elim (dec_lt n d) [
      | yes i ↦ let e : at n d ≡ 0 = ap one (ne_eqb n d (λ q. omega arith)) in omega (arith, once n d i)
      | no i ↦ let e : at n d ≡ 1 = ap one (eq-eqb n d (omega arith)) in omega (arith, before n d (omega arith))
    ]

-- an answer more
count_more : (r : Reply) (rs : List Reply) (d : ℕ) → sum_below (count_of (r ∷ rs)) d ≡ sum_below (at r.number) d + sum_below (count_of rs) d
unfolding sum_below count_of
count_more r rs zero = refl
count_more r rs (suc d) = omega (arith, count_more r rs d)

count_none : (d : ℕ) → sum_below (count_of []) d ≡ 0
unfolding sum_below count_of
count_none zero = refl
count_none (suc d) = omega (arith, count_none d)

add_up : (rs : List Reply) (d : ℕ) → 256 ≤ d → Each Small rs → sum_below (count_of rs) d ≡ length rs
add_up [] d h s = count_none d
add_up (r ∷ rs) d h s = count_more r rs d ∙ omega (arith, once r.number d (omega (arith, s.0)), add_up rs d h s.1)

-- The counts add up to the number of answers.
pub counts_add_up : (image input : List ℕ) → sum_below (count_of (answers_of image input)) 256 ≡ length (answers_of image input)
unfolding answers_of
counts_add_up image input = add_up (answers_of image input) 256 (omega arith) (all_small image (first_ledger (judge image)) (lines_of input))

-- ---- bounds

one-most : (b : Bool) → one b ≤ 1
one-most true = omega arith
one-most false = omega arith

count_most : (rs : List Reply) (n : ℕ) → count_of rs n ≤ length rs
unfolding count_of
count_most [] n = omega arith
count_most (r ∷ rs) n = omega (arith, one-most (eqb r.number n), count_most rs n)

-- Each count fits 64 bits where there are fewer than 2 ^ 64 answers.
pub count_fits : (image input : List ℕ) → length (answers_of image input) < 2 ^ 64 → (n : ℕ) → count_of (answers_of image input) n < 2 ^ 64
count_fits image input h n = omega (arith, count_most (answers_of image input) n)
