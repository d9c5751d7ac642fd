-- Lines of bytes that agree byte by byte, a byte behind the last counted as 0: they are read alike, for any number of
-- sessions, and a resized line agrees with the one that it came from.
-- Assumes nothing.
use mathlib.Core.Path.{◌≡◌, refl, sym, ap, ap₂, ◌∙◌}
use mathlib.Core.List.{List, [], ◌∷◌, ◌++◌}
use Prim.Native.Nat.{ℕ, zero, suc, ◌+◌, ◌*◌, ◌≤◌, ◌<◌}
use native.Mathlib.Nat.{mul-suc}
use native.Mathlib.Omega.{arith}
use native.Mathlib.Decide.{dec_lt}
use lib.ListN.{length, get_or, take, drop, replicate, length-append, length-replicate, length-drop, get_or-eq_default}
use lib.Seq.{take-nil, drop-nil, drop-drop, get_or-take, get_or-drop, length-take-le, ext_get_or}
use Rattle.model.specs.declared.Session.{Session}
use Rattle.model.specs.declared.Line.{Line}
use Rattle.model.specs.Bytes.{number}
use Rattle.model.specs.Line.{line_size, read_sessions, read_line, empty_session}
use Rattle.model.specs.Moves.{resized}
use Rattle.model_laws.proofs.TableLaws.{get_d_filled}

-- ---- the number of n bytes

-- two lists of bytes with the same bytes
abbrev pub SameBytes : List ℕ → List ℕ → Type 0
SameBytes xs ys = (i : ℕ) → get_or xs i 0 ≡ get_or ys i 0

-- the lowest byte, and the others
number-next : (n : ℕ) (xs : List ℕ) → number (take (suc n) xs) ≡ get_or xs 0 0 + 256 * number (take n (drop 1 xs))
unfolding number
number-next n [] = rw take-nil
number-next n (x ∷ xs) = refl

-- what is behind the first n bytes has the same bytes too
same_drop : (n : ℕ) (xs ys : List ℕ) → SameBytes xs ys → SameBytes (drop n xs) (drop n ys)
same_drop n xs ys h i = get_or-drop n xs i 0 ∙ h (n + i) ∙ sym (get_or-drop n ys i 0)

-- the same bytes make the same number
pub number_same : (n : ℕ) (xs ys : List ℕ) → SameBytes xs ys → number (take n xs) ≡ number (take n ys)
number_same zero xs ys h = refl
number_same (suc n) xs ys h =
    number-next n xs
    ∙ ap₂ (λ (a b : ℕ). a + 256 * b) (h 0) (number_same n (drop 1 xs) (drop 1 ys) (same_drop 1 xs ys h))
    ∙ sym (number-next n ys)

-- a number that is zero has zero bytes
pub number_zero : (n : ℕ) (xs : List ℕ) → number (take n xs) ≡ 0 → (i : ℕ) → i < n → get_or xs i 0 ≡ 0
unfolding number
number_zero zero xs e i h = absurd (omega arith)
number_zero (suc n) [] e i h = refl
number_zero (suc n) (x ∷ xs) e zero h = omega arith
number_zero (suc n) (x ∷ xs) e (suc i) h = number_zero n xs (omega arith) i (omega arith)

-- ---- sessions and lines read

-- the session that sixteen bytes make
unfoldable pub session_from : List ℕ → Session
session_from bs = record { active = number (take 8 bs); history = number (take 8 (drop 8 bs)) }

session_same : (xs ys : List ℕ) → SameBytes xs ys → session_from xs ≡ session_from ys
unfolding session_from
session_same xs ys h =
    λ i. record { active = number_same 8 xs ys h i; history = number_same 8 (drop 8 xs) (drop 8 ys) (same_drop 8 xs ys h) i }

-- session j is read from its sixteen bytes, one behind the last from none
pub session_read : (W : ℕ) (bs : List ℕ) → length bs ≡ 16 * W → (j : ℕ)
    → get_or (read_sessions W bs) j empty_session ≡ session_from (drop (16 * j) bs)
unfolding read_sessions session_from empty_session number
session_read zero [] h j = ap session_from (sym (drop-nil (16 * j)))
session_read zero (b ∷ bs) h j = absurd (omega arith)
session_read (suc W) bs h zero = refl
session_read (suc W) bs h (suc j) =
    let e : 16 * suc W ≡ 16 * W + 16 = mul-suc 16 W in
    let f : 16 * suc j ≡ 16 + 16 * j = omega (arith, mul-suc 16 j) in
    session_read W (drop 16 bs) (rw length-drop (omega arith)) j
    ∙ ap session_from (drop-drop (16 * j) 16 bs ∙ ap (λ (n : ℕ). drop n bs) (sym f))

-- lines that agree: the same open sessions, history, and sessions, those behind the last counted as closed
pub record Agreeing (k l : Line) : Type 0 where
  pub opened : k.opened ≡ l.opened
  pub history : k.history ≡ l.history
  pub sessions : (j : ℕ) → get_or k.sessions j empty_session ≡ get_or l.sessions j empty_session

-- lines with the same bytes are read as lines that agree
module _ (F W : ℕ) (xs ys : List ℕ) (hx : length xs ≡ line_size F) (hy : length ys ≡ line_size W) (h : SameBytes xs ys) where
  pub read_agreeing : Agreeing (read_line F xs) (read_line W ys)
  unfolding read_line line_size
  read_agreeing =
      record {
        opened = number_same 8 xs ys h;
        history = number_same 8 (drop 8 xs) (drop 8 ys) (same_drop 8 xs ys h);
        sessions = λ j.
            session_read F (drop 16 xs) (rw length-drop (omega arith)) j
            ∙ session_same (drop (16 * j) (drop 16 xs)) (drop (16 * j) (drop 16 ys))
            (same_drop (16 * j) (drop 16 xs) (drop 16 ys) (same_drop 16 xs ys h))
            ∙ sym (session_read W (drop 16 ys) (rw length-drop (omega arith)) j);
      }

-- ---- a line resized

-- what counts behind the last may be put there
pub get_d_padded : {A : Type 0} (a : A) (xs : List A) (n i : ℕ) → get_or (xs ++ replicate n a) i a ≡ get_or xs i a
get_d_padded a [] n i = get_d_filled a n i
get_d_padded a (x ∷ xs) n zero = refl
get_d_padded a (x ∷ xs) n (suc i) = get_d_padded a xs n i

pub length-resized : (W : ℕ) (bs : List ℕ) → length (resized W bs) ≡ line_size W
unfolding resized
length-resized W bs = length-take-le (line_size W) _ (simp (length-append, length-replicate) (omega arith))

-- below the new size, every byte is the old one
pub byte_resized : (W : ℕ) (bs : List ℕ) (i : ℕ) → i < line_size W → get_or (resized W bs) i 0 ≡ get_or bs i 0
unfolding resized
byte_resized W bs i h = get_or-take (line_size W) (bs ++ replicate (line_size W) 0) i 0 h ∙ get_d_padded 0 bs (line_size W) i

-- where all that is cut off is zero, every byte is
pub same_resized : (W : ℕ) (bs : List ℕ) → ((i : ℕ) → line_size W ≤ i → get_or bs i 0 ≡ 0) → SameBytes (resized W bs) bs
same_resized W bs z i =
    elim (dec_lt i (line_size W)) [
      | yes h ↦ byte_resized W bs i h
      | no h ↦ get_or-eq_default (resized W bs) 0 (omega (arith, length-resized W bs)) ∙ sym (z i (omega arith))
    ]

-- and the line resized back is the old one
pub resized_back : (F W : ℕ) (bs : List ℕ) → length bs ≡ line_size F → ((i : ℕ) → line_size W ≤ i → get_or bs i 0 ≡ 0)
    → resized F (resized W bs) ≡ bs
resized_back F W bs n z =
    ext_get_or 0 (resized F (resized W bs)) bs (length-resized F (resized W bs) ∙ sym n)
    (λ i h. byte_resized F (resized W bs) i (omega (arith, length-resized F (resized W bs))) ∙ same_resized W bs z i)
