-- A line's sets at their bytes, and buffers byte by byte.
-- Assumes nothing.
use mathlib.Core.Path.{◌≡◌, refl, sym, ap, ◌∙◌}
use mathlib.Core.Bool.{true}
use mathlib.Core.List.{List, [], ◌∷◌, ◌++◌}
use Prim.Native.Nat.{ℕ, zero, suc, ◌+◌, ◌-◌, ◌*◌, ◌/◌, ◌%◌, ◌≤◌, ◌<◌}
use native.Mathlib.Omega.{arith}
use lib.Pow.{are_bytes}
use lib.ListN.{length, get_or, take, drop, get_or-append}
use lib.Seq.{get_or-take, get_or-drop, get_or-append-add, drop-drop}
use Rattle.model.specs.declared.Session.{Session}
use Rattle.model.specs.Sets.{has}
use Rattle.model.specs.Bytes.{number}
use Rattle.model.specs.Line.{line_size, empty_session, session_at, read_sessions, read_line}
use Rattle.model.specs.Session.{Reply}
use Rattle.model.specs.Run.{line_at, line_of, filled_with, answered, written}
use Rattle.model_laws.proofs.RoundTrip.{bytes_take, bytes_drop}
use Rattle.model_register.specs.Ledger.{bit_at, LedgerIs, BuffersAre}
use Rattle.model_register.proofs.BitsProof.{bits_are}

-- the session at place j of those that are read
session_read : (W : ℕ) (bs : List ℕ) (j : ℕ) → j < W
    → get_or (read_sessions W bs) j empty_session ≡ record { active = number (take 8 (drop (16 * j) bs)); history = number (take 8 (drop (16 * j + 8) bs)) }
unfolding read_sessions
session_read zero bs j l = absurd (omega arith)
session_read (suc W) bs zero l = refl
session_read (suc W) bs (suc j) l =
    session_read W (drop 16 bs) j (omega arith)
    ∙ (λ i. record {
      active = number (take 8 (apart (16 * j) (16 * suc j) (omega arith) i));
      history = number (take 8 (apart (16 * j + 8) (16 * suc j + 8) (omega arith) i));
    })
  where
    apart : (a b : ℕ) → b ≡ 16 + a → drop a (drop 16 bs) ≡ drop b bs
    apart a b e = drop-drop a 16 bs ∙ ap (λ (n : ℕ). drop n bs) (sym e)

module _ (W : ℕ) (ledger : List ℕ) (bytes : are_bytes ledger ≡ true) (u : ℕ) where
  -- eight bytes of the line, from byte b on
  eight : (b i : ℕ) → b + 8 ≤ 16 + 16 * W → i < 64 → has (number (take 8 (drop b (line_at (line_size W) u ledger)))) i ≡ bit_at W ledger u b i
  unfolding bit_at line_at line_size
  eight b i h l =
      let line = take (16 + 16 * W) (drop ((16 + 16 * W) * u) ledger) in
      let whole = bytes_take (16 + 16 * W) (drop ((16 + 16 * W) * u) ledger) (bytes_drop ((16 + 16 * W) * u) ledger bytes) in
      let are = bytes_take 8 (drop b line) (bytes_drop b line whole) in
      bits_are.read (take 8 (drop b line)) are i
      ∙ ap (λ (x : ℕ). has x (i % 8))
      (get_or-take 8 (drop b line) (i / 8) 0 (omega arith) ∙ get_or-drop b line (i / 8) 0
      ∙ get_or-take (16 + 16 * W) (drop ((16 + 16 * W) * u) ledger) (b + i / 8) 0 (omega arith)
      ∙ get_or-drop ((16 + 16 * W) * u) ledger (b + i / 8) 0)

  pub ledger_is : LedgerIs W ledger u
  unfolding line_of read_line session_at line_size
  ledger_is =
      record {
        size = refl;
        opened = λ k l. eight 0 k (omega arith) l;
        history = λ r l. eight 8 r (omega arith) l;
        active = λ j r a l.
            let line = line_at (line_size W) u ledger in
            ap (λ (s : Session). has s.active r) (session_read W (drop 16 line) j a)
            ∙ ap (λ (bs : List ℕ). has (number (take 8 bs)) r) (drop-drop (16 * j) 16 line) ∙ eight (16 + 16 * j) r (omega arith) l;
        past = λ j r a l.
            let line = line_at (line_size W) u ledger in
            let e : 16 + (16 * j + 8) ≡ 24 + 16 * j = omega arith in
            ap (λ (s : Session). has s.history r) (session_read W (drop 16 line) j a)
            ∙ ap (λ (bs : List ℕ). has (number (take 8 bs)) r) (drop-drop (16 * j + 8) 16 line ∙ ap (λ (n : ℕ). drop n line) e)
            ∙ eight (24 + 16 * j) r (omega arith) l;
      }

filled_or_left : (buffer bs : List ℕ) → (length bs ≡ 0 → filled_with buffer bs ≡ buffer) × (0 < length bs → filled_with buffer bs ≡ bs)
unfolding filled_with
filled_or_left buffer [] = (λ e. refl, λ l. absurd (omega arith))
filled_or_left buffer (b ∷ bs) = (λ e. absurd (omega arith), λ l. refl)

pub buffers_are : (buffer : List ℕ) (r : Reply) → BuffersAre buffer r
unfolding answered written
buffers_are buffer r =
    let n = length r.filled in
    record {
      left = (filled_or_left buffer r.filled).0;
      filled = (filled_or_left buffer r.filled).1;
      text = λ i l. get_or-append r.filled (drop n buffer) 0 i l;
      behind = λ i l.
          let e : i ≡ n + (i - n) = omega arith in
          ap (λ (j : ℕ). get_or (r.filled ++ drop n buffer) j 0) e ∙ get_or-append-add r.filled (drop n buffer) (i - n) 0
          ∙ get_or-drop n buffer (i - n) 0 ∙ ap (λ (j : ℕ). get_or buffer j 0) (sym e);
    }
