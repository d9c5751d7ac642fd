-- Laws of a line's bytes: sessions read and written one by one, and a line where its user's bytes stand in the ledger.
-- Assumes nothing.
use mathlib.Core.Path.{◌≡◌, refl, sym, ap, ap₂, ◌∙◌}
use mathlib.Core.List.{List, [], ◌∷◌, ◌++◌, append_assoc, append-nil}
use Prim.Native.Nat.{ℕ, zero, suc, ◌+◌, ◌-◌, ◌*◌, ◌≤◌, ◌<◌}
use native.Mathlib.Nat.{zero-add, suc-add}
use native.Mathlib.Numerals.{add-one}
use native.Mathlib.Omega.{arith}
use lib.ListN.{length, get_or, set, take, drop, length-append, length-drop}
use lib.Seq.{take-nil, drop-nil, take-take, drop-drop, take-suc, take-suc-set, length-take-le}
use Rattle.model.specs.declared.Session.{Session}
use Rattle.model.specs.declared.Line.{Line}
use Rattle.model.specs.Bytes.{number, bytes_of}
use Rattle.model.specs.Line.{line_size, read_sessions, read_line, write_sessions, write_line}
use Rattle.model.specs.Run.{line_at, with_line}
use Rattle.model_laws.proofs.LineLaws.{length-bytes_of, length-write_sessions, length-write_line}
use Rattle.model_laws.proofs.LedgerLaws.{apart, line_at-length}
use Rattle.octets.specs.Splice.{splice, number_at}
use Rattle.octets.proofs.Splices.{splice-splice, splice-line}
use Rattle.ledger.specs.Places.{session_in, session_bytes}

-- ---- a part of a part
drop-take : (n m : ℕ) (l : List ℕ) → drop n (take (n + m) l) ≡ take m (drop n l)
drop-take zero m l = ap (λ (k : ℕ). take k l) (zero-add m)
drop-take (suc n) m [] = ap (drop (suc n)) (take-nil (suc n + m)) ∙ drop-nil (suc n) ∙ sym (take-nil m)
drop-take (suc n) m (x ∷ l) = ap (λ (k : ℕ). drop (suc n) (take k (x ∷ l))) (suc-add n m) ∙ drop-take n m l

-- behind the first n of the first z elements
part : (n z : ℕ) (l : List ℕ) → n ≤ z → drop n (take z l) ≡ take (z - n) (drop n l)
part n z l h =
    let e : z ≡ n + (z - n) = omega arith in
    ap (λ (k : ℕ). drop n (take k l)) e ∙ drop-take n (z - n) l

-- ---- reads

-- W sessions are read off the first 16 bytes for each
read_part : (W z : ℕ) (l : List ℕ) → 16 * W ≤ z → read_sessions W (take z l) ≡ read_sessions W l
unfolding read_sessions
read_part zero z l h = refl
read_part (suc W) z l h =
    let e1 : take 8 (take z l) ≡ take 8 l = take-take 8 z l (omega arith) in
    let e2 : take 8 (drop 8 (take z l)) ≡ take 8 (drop 8 l) = ap (take 8) (part 8 z l (omega arith)) ∙ take-take 8 (z - 8) (drop 8 l) (omega arith) in
    let e3 : read_sessions W (drop 16 (take z l)) ≡ read_sessions W (drop 16 l)
    = ap (read_sessions W) (part 16 z l (omega arith)) ∙ read_part W (z - 16) (drop 16 l) (omega arith) in
    ap₂ (λ (s : Session) (ss : List Session). s ∷ ss)
    (ap₂ (λ (a b : List ℕ). record { active = number a; history = number b }) e1 e2) e3

-- one session more
read_snoc : (k : ℕ) (bs : List ℕ) → read_sessions (suc k) bs ≡ read_sessions k bs ++ (session_in (drop (16 * k) bs) ∷ [])
unfolding read_sessions session_in
read_snoc zero bs = refl
read_snoc (suc k) bs =
    let e : 16 * suc k ≡ 16 + 16 * k = omega arith in
    ap (λ (ss : List Session). record { active = number (take 8 bs); history = number (take 8 (drop 8 bs)) } ∷ ss)
    (read_snoc k (drop 16 bs)
    ∙ ap (λ (x : List ℕ). read_sessions k (drop 16 bs) ++ (session_in x ∷ []))
    (drop-drop (16 * k) 16 bs ∙ ap (λ (n : ℕ). drop n bs) (sym e)))

-- one session of those read
read_at : (n k : ℕ) (bs : List ℕ) (d : Session) → k < n → get_or (read_sessions n bs) k d ≡ session_in (drop (16 * k) bs)
unfolding read_sessions session_in
read_at zero k bs d h = absurd (omega arith)
read_at (suc n) zero bs d h = refl
read_at (suc n) (suc k) bs d h =
    let e : 16 * suc k ≡ 16 + 16 * k = omega arith in
    read_at n k (drop 16 bs) d (omega arith) ∙ ap session_in (drop-drop (16 * k) 16 bs ∙ ap (λ (i : ℕ). drop i bs) (sym e))

-- session k of a line of n, by where its bytes stand
pub session_there : (n k : ℕ) (bytes : List ℕ) (d s : Session) → k < n → s ≡ session_in (drop (16 + 16 * k) bytes)
    → s ≡ get_or (read_sessions n (drop 16 bytes)) k d
session_there n k bytes d s h e = e ∙ ap session_in (sym (drop-drop (16 * k) 16 bytes)) ∙ sym (read_at n k (drop 16 bytes) d h)

-- a turn of the loop that reads sessions
pub read_next : (l : List ℕ) (at k : ℕ) (ss : List Session) (s : Session) → take k ss ≡ read_sessions k (drop at l) → k < length ss
    → s ≡ session_in (drop (at + 16 * k) l) → take (k + 1) (set ss k s) ≡ read_sessions (k + 1) (drop at l)
read_next l at k ss s inv h e =
    ap (λ (n : ℕ). take n (set ss k s)) (add-one k) ∙ take-suc-set ss k s h
    ∙ ap₂ (λ (x : List Session) (y : Session). x ++ (y ∷ [])) inv (e ∙ ap session_in (sym (drop-drop (16 * k) at l)))
    ∙ sym (read_snoc k (drop at l)) ∙ ap (λ (n : ℕ). read_sessions n (drop at l)) (sym (add-one k))

-- the line of user u has its bytes, where the ledger does
pub length-line : (z u : ℕ) (ledger : List ℕ) → z * u + z ≤ length ledger → length (line_at z u ledger) ≡ z
unfolding line_at
length-line z u ledger h = length-take-le z (drop (z * u) ledger) (omega (arith, length-drop (z * u) ledger))

-- the line of user u, of n with S sessions each
module _ (S u n : ℕ) (ledger : List ℕ) (whole : length ledger ≡ line_size S * n) (h : u < n) where
  -- has its bytes there
  pub line_there : (16 + 16 * S) * u + (16 + 16 * S) ≤ length ledger
  unfolding line_size
  line_there = rw whole (apart (16 + 16 * S) u n h)

  -- has its size
  pub line_whole : (bs : List ℕ) → bs ≡ line_at (line_size S) u ledger → length bs ≡ line_size S
  line_whole bs e = ap length e ∙ line_at-length (line_size S) u n ledger whole h

-- the line of user u, by where its numbers stand
pub line_read : (W u : ℕ) (ledger : List ℕ)
    → read_line W (line_at (line_size W) u ledger)
    ≡ record {
      opened = number_at ledger (line_size W * u);
      history = number_at ledger (line_size W * u + 8);
      sessions = read_sessions W (drop (line_size W * u + 16) ledger);
    }
unfolding read_line line_at line_size number_at
line_read W u ledger =
    let at = line_size W * u in
    let z = line_size W in
    let l : List ℕ = drop at ledger in
    let e1 : take 8 (take z l) ≡ take 8 l = take-take 8 z l (omega arith) in
    let e2 : take 8 (drop 8 (take z l)) ≡ take 8 (drop (at + 8) ledger)
    = ap (take 8) (part 8 z l (omega arith)) ∙ take-take 8 (z - 8) (drop 8 l) (omega arith) ∙ ap (take 8) (drop-drop 8 at ledger) in
    let e3 : read_sessions W (drop 16 (take z l)) ≡ read_sessions W (drop (at + 16) ledger)
    = ap (read_sessions W) (part 16 z l (omega arith)) ∙ read_part W (z - 16) (drop 16 l) (omega arith) ∙ ap (read_sessions W) (drop-drop 16 at ledger) in
    rw (e1, e2, e3)

-- ---- writes

pub length-session : (s : Session) → length (session_bytes s) ≡ 16
unfolding session_bytes
length-session s =
    omega (arith, length-append (bytes_of 8 s.active) (bytes_of 8 s.history), length-bytes_of 8 s.active, length-bytes_of 8 s.history)

-- two numbers one behind the other
pub put_two : (l : List ℕ) (at a b : ℕ) → at + 16 ≤ length l
    → splice (splice l at (bytes_of 8 a)) (at + 8) (bytes_of 8 b) ≡ splice l at (bytes_of 8 a ++ bytes_of 8 b)
put_two l at a b h =
    ap (λ (n : ℕ). splice (splice l at (bytes_of 8 a)) (at + n) (bytes_of 8 b)) (sym (length-bytes_of 8 a))
    ∙ splice-splice l at (bytes_of 8 a) (bytes_of 8 b) (omega (arith, length-bytes_of 8 a, length-bytes_of 8 b))

write_snoc : (ss : List Session) (s : Session) → write_sessions (ss ++ (s ∷ [])) ≡ write_sessions ss ++ session_bytes s
unfolding write_sessions session_bytes
write_snoc [] s = ap (λ (l : List ℕ). bytes_of 8 s.active ++ l) (append-nil (bytes_of 8 s.history))
write_snoc (t ∷ ss) s =
    ap (λ (l : List ℕ). bytes_of 8 t.active ++ (bytes_of 8 t.history ++ l)) (write_snoc ss s)
    ∙ ap (λ (l : List ℕ). bytes_of 8 t.active ++ l) (sym (append_assoc (bytes_of 8 t.history) (write_sessions ss) (session_bytes s)))
    ∙ sym (append_assoc (bytes_of 8 t.active) (bytes_of 8 t.history ++ write_sessions ss) (session_bytes s))

-- a turn of the loop that writes sessions
pub write_next : (l : List ℕ) (at : ℕ) (ss : List Session) (d : Session) (k : ℕ) → k < length ss → at + 16 * length ss ≤ length l
    → splice (splice l at (write_sessions (take k ss))) (at + 16 * k) (session_bytes (get_or ss k d)) ≡ splice l at (write_sessions (take (k + 1) ss))
write_next l at ss d k h room =
    let t : length (take k ss) ≡ k = length-take-le k ss (omega arith) in
    let n : at + length (write_sessions (take k ss)) ≡ at + 16 * k = omega (arith, length-write_sessions (take k ss)) in
    let e : take (k + 1) ss ≡ take k ss ++ (get_or ss k d ∷ []) = rw (add-one k) (take-suc ss k d h) in
    ap (λ (x : ℕ). splice (splice l at (write_sessions (take k ss))) x (session_bytes (get_or ss k d))) (sym n)
    ∙ splice-splice l at (write_sessions (take k ss)) (session_bytes (get_or ss k d)) (omega (arith, length-session (get_or ss k d)))
    ∙ ap (splice l at) (sym (write_snoc (take k ss) (get_or ss k d)) ∙ ap write_sessions (sym e))

-- the three parts of a line, put in one behind the other at its user's place
pub line-written : (W u : ℕ) (l : Line) (ledger : List ℕ) → length l.sessions ≡ W → line_size W * u + line_size W ≤ length ledger
    → splice (splice (splice ledger (line_size W * u) (bytes_of 8 l.opened)) (line_size W * u + 8) (bytes_of 8 l.history))
    (line_size W * u + 16) (write_sessions l.sessions)
    ≡ with_line (line_size W) u (write_line l) ledger
unfolding write_line line_size
line-written W u l ledger n h =
    let at = line_size W * u in
    let z = line_size W in
    let o = bytes_of 8 l.opened in
    let p = bytes_of 8 l.history in
    let ss = write_sessions l.sessions in
    let i : length (o ++ p) ≡ 16 = omega (arith, length-append o p, length-bytes_of 8 l.opened, length-bytes_of 8 l.history) in
    ap (λ (x : List ℕ). splice x (at + 16) ss) (put_two ledger at l.opened l.history (omega arith))
    ∙ ap (λ (k : ℕ). splice (splice ledger at (o ++ p)) (at + k) ss) (sym i)
    ∙ splice-splice ledger at (o ++ p) ss (omega (arith, length-write_sessions l.sessions))
    ∙ ap (splice ledger at) (append_assoc o p ss)
    ∙ splice-line z u (write_line l) ledger (length-write_line l ∙ ap line_size n)
