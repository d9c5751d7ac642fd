-- The bytes of a line: their number, which the session rules keep, and where those of each session stand.
-- Assumes nothing.
use mathlib.Core.Path.{◌≡◌, refl, sym, ap, ap₂, ◌∙◌}
use mathlib.Core.Option.{Option, none, some}
use mathlib.Core.List.{List, [], ◌∷◌, ◌++◌, append_assoc}
use Prim.Native.Nat.{ℕ, zero, suc, ◌+◌, ◌*◌}
use native.Mathlib.Nat.{mul-suc}
use native.Mathlib.Omega.{arith}
use lib.ListN.{length, take, drop, set, length-append, length-set}
use lib.Seq.{drop-drop, take_at, drop_at}
use Rattle.model.specs.declared.Session.{Session}
use Rattle.model.specs.declared.Line.{Line}
use Rattle.model.specs.Bytes.{bytes_of}
use Rattle.model.specs.Policy.{Meaning}
use Rattle.model.specs.Line.{read_sessions, read_line, write_sessions, write_line, line_size, put_in, opening, closing}
use Rattle.model.specs.Frames.{session_bytes}
use Rattle.model.specs.Limits.{Others}
use Rattle.model.specs.Obstacle.{Obstacle}
use Rattle.model.specs.Session.{Operation, open_session, close_session, ask, short_ask, show, explain, obstacle, clauses, refuse, refusal_number, Refusal, refusal_extra, Result, asked, explained, obstructed, perform, unless, rule}

-- ---- lengths

-- n bytes are written of a number
pub length-bytes_of : (n v : ℕ) → length (bytes_of n v) ≡ n
unfolding bytes_of
length-bytes_of zero v = refl
length-bytes_of (suc n) v = ap suc (length-bytes_of n _)

-- W sessions are read
pub length-read_sessions : (W : ℕ) (bs : List ℕ) → length (read_sessions W bs) ≡ W
unfolding read_sessions
length-read_sessions zero bs = refl
length-read_sessions (suc W) bs = ap suc (length-read_sessions W (drop 16 bs))

-- 16 bytes are written for each session
pub length-write_sessions : (ss : List Session) → length (write_sessions ss) ≡ 16 * length ss
unfolding write_sessions
length-write_sessions [] = refl
length-write_sessions (s ∷ ss) =
    simp (length-append, length-bytes_of, length-write_sessions ss) (omega (arith, mul-suc 16 (length ss)))

-- a line of W sessions has its size
pub length-write_line : (l : Line) → length (write_line l) ≡ line_size (length l.sessions)
unfolding write_line line_size
length-write_line l = simp (length-append, length-bytes_of, length-write_sessions) (omega arith)

-- ---- the sessions of a line

-- two numbers of eight bytes before the rest
module _ (a b : ℕ) (rest : List ℕ) where
  -- the two numbers alone
  pub first-sixteen : take 16 (bytes_of 8 a ++ (bytes_of 8 b ++ rest)) ≡ bytes_of 8 a ++ bytes_of 8 b
  first-sixteen =
      ap (λ (x : List ℕ). take 16 x) (sym (append_assoc (bytes_of 8 a) (bytes_of 8 b) rest))
      ∙ take_at (bytes_of 8 a ++ bytes_of 8 b) rest 16
      (length-append (bytes_of 8 a) (bytes_of 8 b) ∙ ap₂ ◌+◌ (length-bytes_of 8 a) (length-bytes_of 8 b))

  -- the rest, and what stands further behind
  pub behind-sixteen : drop 16 (bytes_of 8 a ++ (bytes_of 8 b ++ rest)) ≡ rest
  behind-sixteen =
      sym (drop-drop 8 8 (bytes_of 8 a ++ (bytes_of 8 b ++ rest)))
      ∙ ap (λ (x : List ℕ). drop 8 x) (drop_at (bytes_of 8 a) (bytes_of 8 b ++ rest) 8 (length-bytes_of 8 a))
      ∙ drop_at (bytes_of 8 b) rest 8 (length-bytes_of 8 b)

  pub skip_sixteen : (n : ℕ) → drop (16 + n) (bytes_of 8 a ++ (bytes_of 8 b ++ rest)) ≡ drop n rest
  skip_sixteen n =
      sym (drop-drop n 16 (bytes_of 8 a ++ (bytes_of 8 b ++ rest))) ∙ ap (λ (x : List ℕ). drop n x) behind-sixteen

-- the bytes of session j, in those of the sessions alone
unfoldable pub block_at : ℕ → List Session → List ℕ
block_at j ss = take 16 (drop (16 * j) (write_sessions ss))

-- behind the first session's bytes come those of the others
pub block_suc : (j : ℕ) (s : Session) (ss : List Session) → block_at (suc j) (s ∷ ss) ≡ block_at j ss
unfolding block_at write_sessions
block_suc j s ss =
    let e : 16 * suc j ≡ 16 + 16 * j = omega (arith, mul-suc 16 j) in
    ap (λ (n : ℕ). take 16 (drop n (write_sessions (s ∷ ss)))) e
    ∙ ap (λ (x : List ℕ). take 16 x) (skip_sixteen s.active s.history (write_sessions ss) (16 * j))

-- a session replaced leaves the others
pub block_set : (ss : List Session) (k j : ℕ) (x : Session) → ¬ (j ≡ k) → block_at j (set ss k x) ≡ block_at j ss
block_set [] k j x h = refl
block_set (s ∷ ss) zero zero x h = absurd (h refl)
block_set (s ∷ ss) zero (suc j) x h = block_suc j x ss ∙ sym (block_suc j s ss)
block_set (s ∷ ss) (suc k) zero x h =
    unfold block_at write_sessions in
    (first-sixteen s.active s.history (write_sessions (set ss k x)) ∙ sym (first-sixteen s.active s.history (write_sessions ss)))
block_set (s ∷ ss) (suc k) (suc j) x h =
    block_suc j s (set ss k x) ∙ block_set ss k j x (λ e. h (ap suc e)) ∙ sym (block_suc j s ss)

-- the same bytes, in those of the line
pub block_line : (l : Line) (j : ℕ) → session_bytes j (write_line l) ≡ block_at j l.sessions
unfolding session_bytes write_line block_at
block_line l j = ap (λ (x : List ℕ). take 16 x) (skip_sixteen l.opened l.history (write_sessions l.sessions) (16 * j))

-- what stands behind the first eight bytes of a line that is written
pub behind_opened : (l : Line) → drop 8 (write_line l) ≡ bytes_of 8 l.history ++ write_sessions l.sessions
unfolding write_line
behind_opened l = drop_at (bytes_of 8 l.opened) _ 8 (length-bytes_of 8 l.opened)

-- the eight bytes of the user's history
pub history_part : (l : Line) → take 8 (drop 8 (write_line l)) ≡ bytes_of 8 l.history
history_part l = ap (λ (x : List ℕ). take 8 x) (behind_opened l) ∙ take_at (bytes_of 8 l.history) _ 8 (length-bytes_of 8 l.history)

-- ---- a line under the session rules

-- a fact about a call, from that about the work done and that about each refusal
pub unless-case : (P : Result → Type 0) (x : Others) (o : Option Refusal) (bs : List ℕ) (r : Result) → (o ≡ none → P r)
    → ((f : Refusal) → o ≡ some f → P (record { reply = refuse (refusal_number f) (refusal_extra x f); line = bs })) → P (unless x o bs r)
unfolding unless
unless-case P x none bs r g h = g refl
unless-case P x (some f) bs r g h = h f refl

-- what the work done keeps of a line, the call keeps
pub unless-part : (x : Others) (bs : List ℕ) (part : List ℕ → List ℕ) (o : Option Refusal) (r : Result) → part r.line ≡ part bs
    → part (unless x o bs r).line ≡ part bs
unless-part x bs part o r h = unless-case (λ y. part y.line ≡ part bs) x o bs r (λ _. h) (λ f _. refl)

-- an explain keeps the line
pub explained-line : (bs : List ℕ) (o : Option ℕ) → (explained bs o).line ≡ bs
unfolding explained
explained-line bs none = refl
explained-line bs (some x) = refl

-- and so does an obstacle
pub obstructed-line : (bs : List ℕ) (o : Option Obstacle) → (obstructed bs o).line ≡ bs
unfolding obstructed
obstructed-line bs none = refl
obstructed-line bs (some x) = refl

module _ (W : ℕ) (m : Meaning) (x : Others) (bs : List ℕ) (h : length bs ≡ line_size W) where
  -- an ask, any call that nothing refuses, and any call
  asked-length : (k : ℕ) (o : Option ℕ) → length (asked m (read_line W bs) bs k o).line ≡ line_size W
  unfolding asked
  asked-length k none = h
  asked-length k (some s) =
      unfold read_line put_in in (length-write_line (put_in k s (read_line W bs)) ∙ simp (length-set, length-read_sessions))

  perform-length : (op : Operation) → length (perform W m x (read_line W bs) bs op).line ≡ line_size W
  unfolding perform opening closing read_line
  perform-length open_session = length-write_line _ ∙ simp length-read_sessions
  perform-length (close_session k) = length-write_line _ ∙ simp (length-set, length-read_sessions)
  perform-length (ask k q) = asked-length k _
  perform-length (short_ask k lower upper room) = asked-length k _
  perform-length (show k room) = h
  perform-length (explain k n) = ap length (explained-line bs _) ∙ h
  perform-length (obstacle k lower upper room) = ap length (obstructed-line bs _) ∙ h
  perform-length (clauses k q) = h

  -- every call leaves a line of the same length
  pub rule-length : (op : Operation) → length (rule W m x bs op).line ≡ line_size W
  unfolding rule
  rule-length op = unless-case (λ r. length r.line ≡ line_size W) x _ bs _ (λ _. perform-length op) (λ f _. h)
