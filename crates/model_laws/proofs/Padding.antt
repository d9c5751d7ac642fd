-- A line resized: with empty sessions behind it, or cut; and the soundness of the padded line.
-- Assumes nothing.
use mathlib.Core.Path.{◌≡◌, refl, sym, ◌∙◌}
use mathlib.Core.Bool.{◌&&◌}
use mathlib.Core.List.{List, ◌++◌}
use Prim.Native.Nat.{ℕ, ◌+◌, ◌*◌, ◌^◌, ◌≤◌, ◌<◌}
use native.Mathlib.Nat.{lt_of_lt_of_le}
use native.Mathlib.Omega.{arith}
use lib.Dec.{ltb}
use lib.Pow.{pow_mono}
use lib.ListN.{length, take, drop, replicate, length-append, length-replicate, get_or-eq_default}
use lib.Seq.{ext_get_or, take-append-le}
use borrow.Author.Tests.{ltb-true, lt-ltb}
use Rattle.model.specs.declared.Session.{Session}
use Rattle.model.specs.declared.Line.{Line}
use Rattle.model.specs.Policy.{Meaning}
use Rattle.model.specs.Line.{line_size, read_sessions, read_line, empty_session, sound}
use Rattle.model.specs.Kept.{Antitone}
use Rattle.model.specs.Moves.{resized, padded, Resized}
use Rattle.model_laws.proofs.Bools.{and_l, and_r, both, bool_ext}
use Rattle.model_laws.proofs.LineLaws.{length-read_sessions}
use Rattle.model_laws.proofs.SoundLaws.{sound-parts}
use Rattle.model_laws.proofs.Resizing.{Agreeing, read_agreeing, get_d_padded, length-resized, byte_resized, same_resized}
use Rattle.model_laws.proofs.Agreeing.{sound_same}

-- empty sessions behind the last are there already
pub padded_agreeing : (d : ℕ) (l : Line) → Agreeing l (padded d l)
unfolding padded
padded_agreeing d l = record { opened = refl; history = refl; sessions = λ j. sym (get_d_padded empty_session l.sessions d j) }

back_agreeing : (k l : Line) → Agreeing k l → Agreeing l k
back_agreeing k l h = record { opened = sym h.opened; history = sym h.history; sessions = λ j. sym (h.sessions j) }

-- lines that agree and have as many sessions are the same
same_line : (k l : Line) → Agreeing k l → length k.sessions ≡ length l.sessions → k ≡ l
same_line k l h n =
    λ i. record { opened = h.opened i; history = h.history i; sessions = ext_get_or empty_session k.sessions l.sessions n (λ j _. h.sessions j) i }

-- the law of both moves: a line of F sessions with empty ones behind it is sound for F + d exactly if it is sound for
-- F, given that no open bit is above F
pub padded-sound : (F d : ℕ) (m : Meaning) → Antitone m → (l : Line) → 0 < length l.sessions
    → sound F m l ≡ (ltb l.opened (2 ^ F) && sound (F + d) m (padded d l))
padded-sound F d m anti l pos =
    let k : Line = padded d l in
    let more : F ≤ F + d = omega arith in
    let o : k.opened ≡ l.opened = sym (padded_agreeing d l).opened in
    bool_ext (sound F m l) (ltb l.opened (2 ^ F) && sound (F + d) m k)
    (λ e. let low = (sound-parts m l F e).opened in
    both (ltb l.opened (2 ^ F)) (sound (F + d) m k) (lt-ltb l.opened (2 ^ F) low)
    (sound_same m anti l k (padded_agreeing d l) F (F + d) pos
    (rw o (lt_of_lt_of_le low (pow_mono more))) e))
    (λ e. sound_same m anti k l (back_agreeing l k (padded_agreeing d l)) (F + d) F
    (unfold padded in (rw (length-append l.sessions (replicate d empty_session)) (omega arith)))
    (ltb-true l.opened (2 ^ F) (and_l _ _ e)) (and_r (ltb l.opened (2 ^ F)) (sound (F + d) m k) e))

module _ (F : ℕ) (pos : 0 < F) (m : Meaning) (anti : Antitone m) (bs : List ℕ) (n : length bs ≡ line_size F) where
  resized_longer : (d : ℕ) → resized (F + d) bs ≡ bs ++ replicate (16 * d) 0
  unfolding line_size
  resized_longer d =
      let size : length (bs ++ replicate (16 * d) 0) ≡ 16 + 16 * (F + d) =
      length-append bs (replicate (16 * d) 0) ∙ omega (arith, length-replicate {A = ℕ} (16 * d) 0) in
      ext_get_or 0 (resized (F + d) bs) (bs ++ replicate (16 * d) 0) (length-resized (F + d) bs ∙ sym size)
      (λ i h. byte_resized (F + d) bs i (omega (arith, length-resized (F + d) bs)) ∙ sym (get_d_padded 0 bs (16 * d) i))

  resized_reads : (d : ℕ) → read_line (F + d) (resized (F + d) bs) ≡ padded d (read_line F bs)
  unfolding padded
  resized_reads d =
      let g = read_agreeing (F + d) F (resized (F + d) bs) bs (length-resized (F + d) bs) n
      (same_resized (F + d) bs (λ i h. get_or-eq_default bs 0 {n = i} (unfold line_size in omega arith))) in
      let f = padded_agreeing d (read_line F bs) in
      same_line (read_line (F + d) (resized (F + d) bs)) (padded d (read_line F bs))
      (record { opened = g.opened; history = g.history; sessions = λ j. g.sessions j ∙ f.sessions j })
      (unfold read_line in (length-read_sessions (F + d) _
      ∙ sym (length-append (read_sessions F (drop 16 bs)) (replicate d empty_session)
      ∙ omega (arith, length-read_sessions F (drop 16 bs), length-replicate {A = Session} d empty_session))))

  resized_shorter : (W : ℕ) → W ≤ F → resized W bs ≡ take (line_size W) bs
  unfolding resized
  resized_shorter W h = take-append-le (line_size W) bs (replicate (line_size W) 0) (unfold line_size in omega arith)

  pub resizing : Resized F m bs
  resizing =
      record {
        longer = resized_longer;
        reads = resized_reads;
        is_sound = λ d. padded-sound F d m anti (read_line F bs)
            (unfold read_line in (rw (length-read_sessions F (drop 16 bs)) pos));
        shorter = resized_shorter;
      }
