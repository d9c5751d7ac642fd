-- A readable line is short: its words are those of a form, each form bounds each of its words, and the longest form is
-- an ask with both objectives, of at most 173 bytes.
-- Assumes nothing.
use mathlib.Core.Path.{◌≡◌, refl, sym, ap, ◌∙◌}
use mathlib.Core.Bool.{Bool, true, false, true≢false}
use mathlib.Core.Option.{none}
use mathlib.Core.List.{List, [], ◌∷◌}
use Prim.Native.Nat.{ℕ, suc, ◌+◌, ◌≤◌, ◌<◌}
use native.Mathlib.Omega.{arith}
use lib.Dec.{eqb, leb}
use lib.ListN.{length, take, length-take}
use borrow.Author.Tests.{leb-true}
use Rattle.model.specs.Tests.{pick, between, all}
use Rattle.model.specs.Tests.{same_list}
use Rattle.model_laws.proofs.Bools.{and_l, and_r}
use Rattle.model_script.specs.Script.{ascii, begun, words, is_digit, is_numeral, Part, keyword, decimal, hexadecimal, suits, matches, open_form, close_form, show_form, short_ask_form, ask_form, call_of, parse}

-- ---- a line by its words

-- the bytes of the words, with one more behind each
unfoldable spread : List (List ℕ) → ℕ
spread [] = 0
spread (w ∷ ws) = length w + 1 + spread ws

begun-spread : (c : ℕ) (ws : List (List ℕ)) → spread ws < spread (begun c ws)
unfolding spread begun
begun-spread c [] = omega arith
begun-spread c (w ∷ ws) = omega arith

-- the words of a line and the blanks between them are all of it
words_spread : (line : List ℕ) → length line < spread (words line)
unfolding spread words
words_spread [] = omega arith
words_spread (c ∷ cs) = go (eqb c 32) (words_spread cs)
  where
    go : (b : Bool) → length cs < spread (words cs) → suc (length cs) < spread (elim b [ true ↦ [] ∷ words cs | false ↦ begun c (words cs) ])
    go true h = omega arith
    go false h = omega (arith, begun-spread c (words cs))

-- ---- the words of a form

-- the most bytes of a word that a form has at a place, and of all its words with one more behind each
unfoldable longest : Part → ℕ
longest (keyword k) = length (ascii k)
longest decimal = 9
longest hexadecimal = 64

unfoldable widest : List Part → ℕ
widest [] = 0
widest (p ∷ ps) = longest p + 1 + widest ps

same_length : (a b : List ℕ) → same_list a b ≡ true → length a ≡ length b
unfolding same_list
same_length [] [] e = refl
same_length [] (y ∷ ys) e = absurd (true≢false (sym e))
same_length (x ∷ xs) [] e = absurd (true≢false (sym e))
same_length (x ∷ xs) (y ∷ ys) e = ap suc (same_length xs ys (and_r (eqb x y) (same_list xs ys) e))

numeral_short : (b most : ℕ) (w : List ℕ) → is_numeral b most w ≡ true → length w ≤ most
unfolding is_numeral
numeral_short b most w e = leb-true (length w) most (and_r (leb 1 (length w)) _ (and_l (between 1 (length w) most) (all (is_digit b) w) e))

suits_short : (p : Part) (w : List ℕ) → suits p w ≡ true → length w ≤ longest p
unfolding suits longest
suits_short (keyword k) w e = omega (arith, same_length w (ascii k) e)
suits_short decimal w e = numeral_short 10 9 w e
suits_short hexadecimal w e = numeral_short 16 64 w e

matches_short : (ps : List Part) (ws : List (List ℕ)) → matches ps ws ≡ true → spread ws ≤ widest ps
unfolding matches spread widest
matches_short [] [] e = omega arith
matches_short [] (w ∷ ws) e = absurd (true≢false (sym e))
matches_short (p ∷ ps) [] e = omega arith
matches_short (p ∷ ps) (w ∷ ws) e =
    omega (arith, suits_short p w (and_l (suits p w) (matches ps ws) e), matches_short ps ws (and_r (suits p w) (matches ps ws) e))

-- words that are too long for a form are not its words
unmatched : (ps : List Part) (ws : List (List ℕ)) → widest ps < spread ws → matches ps ws ≡ false
unmatched ps ws h = go (matches ps ws) refl
  where
    go : (b : Bool) → matches ps ws ≡ b → b ≡ false
    go true e = absurd (omega (arith, matches_short ps ws e))
    go false e = refl

-- ---- lines

-- words of more than 174 bytes, one behind each counted, are no call
long_words : (ws : List (List ℕ)) → 174 < spread ws → call_of ws ≡ none
unfolding call_of pick widest longest ascii open_form close_form show_form short_ask_form ask_form
long_words ws h =
    rw (
      unmatched open_form ws (omega arith),
      unmatched close_form ws (omega arith),
      unmatched show_form ws (omega arith),
      unmatched short_ask_form ws (omega arith),
      unmatched ask_form ws (omega arith),
    )

-- A line of more than 173 bytes is unreadable.
pub long_unreadable : (line : List ℕ) → 173 < length line → parse line ≡ none
unfolding parse
long_unreadable line h = long_words (words line) (omega (arith, words_spread line))

-- The first 174 bytes of such a line are the call that it is: none.
pub first_bytes_parse : (line : List ℕ) → 173 < length line → parse (take 174 line) ≡ parse line
first_bytes_parse line h = long_unreadable (take 174 line) (rw (length-take 174 line) (omega arith)) ∙ sym (long_unreadable line h)
