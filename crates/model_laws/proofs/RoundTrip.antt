-- Numbers and lines as bytes, there and back.
-- Assumes nothing.
use mathlib.Core.Path.{◌≡◌, refl, sym, ap, ap₂, ◌∙◌}
use mathlib.Core.Bool.{true, ◌&&◌}
use mathlib.Core.List.{List, [], ◌∷◌, ◌++◌}
use Prim.Native.Nat.{ℕ, zero, suc, ◌+◌, ◌*◌, ◌/◌, ◌^◌, ◌≤◌, ◌<◌, suc-le-suc}
use native.Mathlib.Nat.{mul-suc, pow-suc, div-lt_iff_lt-mul, zero-lt-suc}
use native.Mathlib.Omega.{arith}
use lib.Dec.{ltb, lit<}
use lib.Arith.{lt-one}
use lib.ListN.{length, get_or, take, drop, length-drop, take-append-drop}
use lib.Pow.{are_bytes}
use lib.Seq.{drop-drop, take_at, drop_at, length-take-le}
use borrow.Author.Tests.{ltb-true, lt-ltb}
use Rattle.model.specs.declared.Session.{Session}
use Rattle.model.specs.declared.Line.{Line}
use Rattle.model.specs.Tests.{all}
use Rattle.model.specs.Bytes.{number, bytes_of}
use Rattle.model.specs.Line.{read_sessions, read_line, write_sessions, write_line, line_size}
use Rattle.model.specs.Frames.{fits_session, fits_line, LineBytes}
use Rattle.model_laws.proofs.Bools.{and_l, and_r, both}
use Rattle.model_laws.proofs.LineLaws.{length-bytes_of, behind-sixteen}

-- ---- numbers

-- bytes read as a number and written again
pub bytes_number : (bs : List ℕ) → are_bytes bs ≡ true → bytes_of (length bs) (number bs) ≡ bs
unfolding bytes_of number
bytes_number [] h = refl
bytes_number (b ∷ bs) h =
    let k = ltb-true b 256 (and_l (ltb b 256) (are_bytes bs) h) in
    let ih = bytes_number bs (and_r (ltb b 256) (are_bytes bs) h) in
    ap₂ {C = List ℕ} (λ (x : ℕ) (xs : List ℕ). x ∷ xs) (omega arith) (ap (λ (v : ℕ). bytes_of (length bs) v) (omega arith) ∙ ih)

-- a number of n bytes written and read again
pub number_bytes : (n v : ℕ) → v < 256 ^ n → number (bytes_of n v) ≡ v
unfolding bytes_of number
number_bytes zero v h = sym (lt-one h)
number_bytes (suc n) v h =
    let ih = number_bytes n (v / 256) ((div-lt_iff_lt-mul (lit< tt)).1 (rw pow-suc at h)) in
    omega (arith, ih)

-- ---- lists of bytes

-- each element is a byte
pub are_bytes_lem : (bs : List ℕ) → ((i : ℕ) → i < length bs → get_or bs i 0 < 256) → are_bytes bs ≡ true
are_bytes_lem [] h = refl
are_bytes_lem (b ∷ bs) h = both (ltb b 256) (are_bytes bs) (lt-ltb b 256 (h 0 (zero-lt-suc (length bs)))) (are_bytes_lem bs (λ i l. h (suc i) (suc-le-suc l)))

-- so is each of a part
pub bytes_take : (n : ℕ) (bs : List ℕ) → are_bytes bs ≡ true → are_bytes (take n bs) ≡ true
bytes_take zero bs h = refl
bytes_take (suc n) [] h = refl
bytes_take (suc n) (b ∷ bs) h =
    both (ltb b 256) (are_bytes (take n bs)) (and_l (ltb b 256) (are_bytes bs) h) (bytes_take n bs (and_r (ltb b 256) (are_bytes bs) h))

pub bytes_drop : (n : ℕ) (bs : List ℕ) → are_bytes bs ≡ true → are_bytes (drop n bs) ≡ true
bytes_drop zero bs h = h
bytes_drop (suc n) [] h = refl
bytes_drop (suc n) (b ∷ bs) h = bytes_drop n bs (and_r (ltb b 256) (are_bytes bs) h)

-- ---- a line read and written again

-- the first eight bytes
eight : (bs : List ℕ) → are_bytes bs ≡ true → 8 ≤ length bs → bytes_of 8 (number (take 8 bs)) ≡ take 8 bs
eight bs h k = rw (length-take-le 8 bs k) at (bytes_number (take 8 bs) (bytes_take 8 bs h))

-- the first sixteen, before the rest
sixteen : (bs rest : List ℕ) → are_bytes bs ≡ true → 16 ≤ length bs → rest ≡ drop 16 bs
    → bytes_of 8 (number (take 8 bs)) ++ (bytes_of 8 (number (take 8 (drop 8 bs))) ++ rest) ≡ bs
sixteen bs rest h k e =
    rw (eight bs h (omega arith), eight (drop 8 bs) (bytes_drop 8 bs h) (rw length-drop (omega arith)), e, ← drop-drop 8 8 bs)
    (ap (λ (x : List ℕ). take 8 bs ++ x) (take-append-drop 8 (drop 8 bs)) ∙ take-append-drop 8 bs)

-- the sessions
sessions_written : (W : ℕ) (bs : List ℕ) → are_bytes bs ≡ true → length bs ≡ 16 * W → write_sessions (read_sessions W bs) ≡ bs
unfolding read_sessions write_sessions
sessions_written zero [] h k = refl
sessions_written zero (b ∷ bs) h k = absurd (omega arith)
sessions_written (suc W) bs h k =
    let n : 16 * suc W ≡ 16 * W + 16 = mul-suc 16 W in
    sixteen bs (write_sessions (read_sessions W (drop 16 bs))) h (omega arith)
    (sessions_written W (drop 16 bs) (bytes_drop 16 bs h) (rw length-drop (omega arith)))

-- the line
pub write_read : (W : ℕ) (bs : List ℕ) → are_bytes bs ≡ true → length bs ≡ line_size W → write_line (read_line W bs) ≡ bs
unfolding write_line read_line line_size
write_read W bs h k =
    sixteen bs (write_sessions (read_sessions W (drop 16 bs))) h (omega arith)
    (sessions_written W (drop 16 bs) (bytes_drop 16 bs h) (rw length-drop (omega arith)))

-- ---- a line written and read again

-- two numbers of eight bytes before the rest
module _ (a b : ℕ) (rest : List ℕ) where
  first-number : a < 256 ^ 8 → number (take 8 (bytes_of 8 a ++ (bytes_of 8 b ++ rest))) ≡ a
  first-number h =
      ap number (take_at (bytes_of 8 a) (bytes_of 8 b ++ rest) 8 (length-bytes_of 8 a)) ∙ number_bytes 8 a h

  second_number : b < 256 ^ 8 → number (take 8 (drop 8 (bytes_of 8 a ++ (bytes_of 8 b ++ rest)))) ≡ b
  second_number h =
      ap (λ (x : List ℕ). number (take 8 x)) (drop_at (bytes_of 8 a) (bytes_of 8 b ++ rest) 8 (length-bytes_of 8 a))
      ∙ ap number (take_at (bytes_of 8 b) rest 8 (length-bytes_of 8 b)) ∙ number_bytes 8 b h

-- the sessions
sessions_read : (ss : List Session) → all fits_session ss ≡ true → read_sessions (length ss) (write_sessions ss) ≡ ss
unfolding read_sessions write_sessions all fits_session
sessions_read [] h = refl
sessions_read (s ∷ ss) h =
    let f = and_l (fits_session s) (all fits_session ss) h in
    ap₂ {C = List Session} (λ (x : Session) (xs : List Session). x ∷ xs)
    (λ i. record {
      active = first-number s.active s.history (write_sessions ss) (ltb-true _ _ (and_l _ _ f)) i;
      history = second_number s.active s.history (write_sessions ss) (ltb-true _ _ (and_r (ltb s.active (2 ^ 64)) _ f)) i;
    })
    (ap (read_sessions (length ss)) (behind-sixteen s.active s.history (write_sessions ss))
    ∙ sessions_read ss (and_r (fits_session s) (all fits_session ss) h))

-- the line
pub read-write : (W : ℕ) (l : Line) → length l.sessions ≡ W → fits_line l ≡ true → read_line W (write_line l) ≡ l
unfolding read_line write_line fits_line
read-write W l n h =
    let o = ltb-true l.opened (2 ^ 64) (and_l _ _ (and_l _ _ h)) in
    let p = ltb-true l.history (2 ^ 64) (and_r (ltb l.opened (2 ^ 64)) _ (and_l _ _ h)) in
    λ i. record {
      opened = first-number l.opened l.history (write_sessions l.sessions) o i;
      history = second_number l.opened l.history (write_sessions l.sessions) p i;
      sessions =
          (ap (read_sessions W) (behind-sixteen l.opened l.history (write_sessions l.sessions))
          ∙ ap (λ (x : ℕ). read_sessions x (write_sessions l.sessions)) (sym n)
          ∙ sessions_read l.sessions (and_r (ltb l.opened (2 ^ 64) && ltb l.history (2 ^ 64)) _ h)) i;
    }

-- a line's bytes and its value determine each other
pub line_bytes_lem : (W : ℕ) → LineBytes W
line_bytes_lem W = record { write_read = write_read W; read-write = read-write W }
