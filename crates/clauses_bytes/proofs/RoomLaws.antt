-- Texts set where there is room, and texts behind the end of a buffer, which are only counted.
-- Assumes nothing.
use Rattle.std.proofs.Common.{◌≡◌, ℕ, suc, ◌+◌, ◌/◌, ◌%◌, ◌^◌, ◌<◌, ◌≤◌, List, [], ◌∷◌, length, set, take, drop, sym, refl, ap, ◌∙◌, mod-eq_of_lt, append_assoc, add-one, arith, length-append, length-drop, length-take-le}
use Rattle.std.proofs.lemmas.List.{drop-drop}
use lib.Seq.{set_out, sets, sets-eq}
use borrow.Rule.Slice.PartMut.{put_mid, same_len_mid}
use Rattle.model.specs.Dimacs.{figure, decimal}
use Rattle.clauses_bytes.specs.Putting.{behind, stored, Puts, Sets}
use Rattle.clauses_bytes.proofs.WritingLaws.{put_one, put_ten, put_hundred, put_thousand, decimal-one, decimal-two, decimal_three, decimal_thousand}

-- ---- digits

pub hundreds_figure : (n : ℕ) → figure (n % 1000 / 100) ≡ figure (n / 10 / 10)
unfolding figure
hundreds_figure n = omega arith

pub tens_figure : (n : ℕ) → figure (n % 1000 % 100 / 10) ≡ figure (n / 10)
unfolding figure
tens_figure n = omega arith

pub ones_figure : (n : ℕ) → figure (n % 1000 % 100) ≡ figure n
unfolding figure
ones_figure n = omega arith

-- the last three digits of a number, from its last three alone
pub last_set : {l a : List ℕ} {at r d e f : ℕ} (n : ℕ) → Sets l at 3 (d ∷ e ∷ f ∷ []) a r → d ≡ figure (n % 1000 / 100) → e ≡ figure (n % 1000 % 100 / 10)
    → f ≡ figure (n % 1000 % 100) → Sets l at 3 (figure (n / 10 / 10) ∷ figure (n / 10) ∷ figure n ∷ []) a r
last_set n s ed ee ef = rw (← hundreds_figure n, ← tens_figure n, ← ones_figure n, ← ed, ← ee, ← ef) s

-- digits that are set make a number below 1,000, by how many there are
pub set_ones : {l a : List ℕ} {at r n d : ℕ} → Sets l at 1 (d ∷ []) a r → d ≡ figure n → n < 10 → Sets l at 3 (decimal n) a r
set_ones s e h = record { puts = put_one s.puts e h; reached = omega arith; size = s.size }

pub set_tens : {l a : List ℕ} {at r n d e : ℕ} → Sets l at 2 (d ∷ e ∷ []) a r → d ≡ figure (n / 10) → e ≡ figure n → 10 ≤ n → n < 100
    → Sets l at 3 (decimal n) a r
set_tens s ed ee g h = record { puts = put_ten s.puts ed ee g h; reached = omega arith; size = s.size }

pub set_hundreds : {l a : List ℕ} {at r n : ℕ} → Sets l at 3 (figure (n / 10 / 10) ∷ figure (n / 10) ∷ figure n ∷ []) a r → 100 ≤ n → n < 1000
    → Sets l at 3 (decimal n) a r
set_hundreds s g h = record { puts = put_hundred s.puts refl refl refl g h; reached = s.reached; size = s.size }

-- a number from 1,000 on by the digits before the last three, and those
pub set_thousands : {l m a : List ℕ} {at next r n : ℕ} → Sets m next 3 (figure (n / 10 / 10) ∷ figure (n / 10) ∷ figure n ∷ []) a r
    → Sets l at 3 (decimal (n / 10 / 10 / 10)) m next → 1000 ≤ n → Sets l at 6 (decimal n) a r
set_thousands s p h =
    record { puts = put_thousand s.puts p.puts refl refl refl h; reached = omega (arith, s.reached, p.reached); size = s.size ∙ p.size }

-- ---- how many digits there are

pub width_one : (n : ℕ) → n < 10 → 1 ≡ length (decimal n)
width_one n h = ap length (decimal-one n (figure n) refl h)

pub width_two : (n : ℕ) → 10 ≤ n → n < 100 → 2 ≡ length (decimal n)
width_two n g h = ap length (decimal-two n (figure (n / 10)) (figure n) refl refl g h)

pub width_three : (n : ℕ) → 100 ≤ n → n < 1000 → 3 ≡ length (decimal n)
width_three n g h = ap length (decimal_three n (figure (n / 10 / 10)) (figure (n / 10)) (figure n) refl refl refl g h)

pub ruleset low_widths = (width_one, width_two, width_three)

pub width_more : {w : ℕ} (n : ℕ) → w ≡ length (decimal (n / 10 / 10 / 10)) → 1000 ≤ n → 3 + w ≡ length (decimal n)
width_more n e h =
    let t = figure (n / 10 / 10) ∷ figure (n / 10) ∷ figure n ∷ [] in
    let j = length-append (decimal (n / 10 / 10 / 10)) t in
    let k = ap length (decimal_thousand n (figure (n / 10 / 10)) (figure (n / 10)) (figure n) refl refl refl h) in
    omega arith

-- ---- texts behind the end of a buffer

behind-far : (at : ℕ) (t : List ℕ) → at + length t < 2 ^ 64 → at + length t ≡ behind at t
unfolding behind
behind-far at [] h = omega arith
behind-far at (b ∷ bs) h =
    let e : (at + 1) % 2 ^ 64 ≡ at + 1 = mod-eq_of_lt (omega arith) in
    let k = behind-far (at + 1) bs (omega arith) in
    rw e (omega arith)

stored-far : (l : List ℕ) (at : ℕ) (t : List ℕ) → length l ≤ at → at + length t < 2 ^ 64 → stored l at t ≡ l
unfolding stored
stored-far l at [] g h = refl
stored-far l at (b ∷ bs) g h =
    let e : (at + 1) % 2 ^ 64 ≡ at + 1 = mod-eq_of_lt (omega arith) in
    rw (e, set_out l at b g) (stored-far l (at + 1) bs (omega arith) (omega arith))

pub put_far : (l : List ℕ) (at : ℕ) (t : List ℕ) (r : ℕ) → length l ≤ at → at + length t < 2 ^ 64 → r ≡ at + length t → Puts l at t l r
put_far l at t r g h e = record { next-is = e ∙ behind-far at t h; after_is = sym (stored-far l at t g h) }

-- ---- texts for which there is room

stored-sets : (l : List ℕ) (at : ℕ) (t : List ℕ) → at + length t < 2 ^ 64 → stored l at t ≡ sets l at t
unfolding stored
stored-sets l at [] h = refl
stored-sets l at (b ∷ bs) h =
    let e : (at + 1) % 2 ^ 64 ≡ suc at = mod-eq_of_lt (omega arith) ∙ add-one at in
    rw e (stored-sets (set l at b) (suc at) bs (omega arith))

-- bytes copied into the part of the buffer that is as long
pub copied : (l t m : List ℕ) (at n : ℕ) → at + length t ≤ length l → length l < 2 ^ 64 → n ≡ length t → m ≡ t
    → Sets l at (length t) t (put_mid at n l m) (at + length t)
copied l t m at n h f e em =
    let w : at + length t < 2 ^ 64 = omega arith in
    let whole = sets-eq t l at h in
    let rest : drop n (drop at l) ≡ drop (at + length t) l = rw e (drop-drop (length t) at l) in
    let made : put_mid at n l m ≡ stored l at t =
    rw (em, rest) (sym (append_assoc (take at l) t (drop (at + length t) l)) ∙ sym whole ∙ sym (stored-sets l at t w)) in
    let as_long : length m ≡ length (take n (drop at l)) =
    rw (em, e) (sym (length-take-le (length t) (drop at l) (simp length-drop (omega arith)))) in
    record {
      puts = record { next-is = behind-far at t w; after_is = made };
      reached = omega arith;
      size = same_len_mid at n l m as_long;
    }
