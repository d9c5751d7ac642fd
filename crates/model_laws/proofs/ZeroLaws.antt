-- The zero line is sound, and a ledger of zeros is made of zero lines.
-- Assumes nothing.
use mathlib.Core.Path.{◌≡◌, refl, sym, ap, ap₂, ◌∙◌, subst}
use mathlib.Core.Bool.{Bool, true}
use mathlib.Core.List.{List, [], ◌∷◌}
use Prim.Native.Nat.{ℕ, zero, suc, ◌+◌, ◌*◌, ◌<◌}
use native.Mathlib.Omega.{arith}
use lib.Pow.{pow_pos}
use lib.Bits.{or_zero_l}
use lib.ListN.{get_or, take, drop, replicate, length-replicate}
use lib.Seq.{get_or-take, get_or-drop, ext_get_or}
use Rattle.model.specs.declared.Kind.TheVariants.{SsDmer, MsDmer, SsHmer, MsHmer}
use Rattle.model.specs.declared.Session.{Session}
use Rattle.model.specs.declared.Line.{Line}
use Rattle.model.specs.Bytes.{number}
use Rattle.model.specs.Sets.{one}
use Rattle.model.specs.Policy.{Meaning}
use Rattle.model.specs.Line.{line_size, read_sessions, read_line, empty_session, active_in, holding, counted, exclusions_met}
use Rattle.model.specs.Run.{line_at}
use Rattle.model.specs.Kept.{Fewer, Antitone, SoundBytes}
use Rattle.model_laws.proofs.Every.{at_all}
use Rattle.model_laws.proofs.TableLaws.{get_d_filled}
use Rattle.model_laws.proofs.UnionLaws.{has_none}
use Rattle.model_laws.proofs.Inclusion.{none_within}
use Rattle.model_laws.proofs.SoundLaws.{SoundSession, SoundLine, empty_sound, parts-sound}
use Rattle.model_laws.proofs.LedgerLaws.{line_at-length}
use Rattle.model_laws.proofs.Resizing.{number_same}

-- ---- bytes that are all zero
abbrev Zeros : List ℕ → Type 0
Zeros bs = (i : ℕ) → get_or bs i 0 ≡ 0

-- n zeros
zeros : (n : ℕ) → Zeros (replicate n 0)
zeros n = get_d_filled 0 n

-- all but the first n
zeros_drop : (n : ℕ) (bs : List ℕ) → Zeros bs → Zeros (drop n bs)
zeros_drop n bs z i = get_or-drop n bs i 0 ∙ z (n + i)

-- the number of the first eight, and of the eight behind them
first_zero : (bs : List ℕ) → Zeros bs → number (take 8 bs) ≡ 0
unfolding number
first_zero bs z = number_same 8 bs [] z

second_zero : (bs : List ℕ) → Zeros bs → number (take 8 (drop 8 bs)) ≡ 0
second_zero bs z = first_zero (drop 8 bs) (zeros_drop 8 bs z)

-- zeros are read as empty sessions
sessions_zero : (W : ℕ) (bs : List ℕ) → Zeros bs → read_sessions W bs ≡ replicate W empty_session
unfolding read_sessions empty_session
sessions_zero zero bs z = refl
sessions_zero (suc W) bs z =
    ap₂ {C = List Session} (λ (s : Session) (ss : List Session). s ∷ ss)
    (λ i. record { active = first_zero bs z i; history = second_zero bs z i }) (sessions_zero W (drop 16 bs) (zeros_drop 16 bs z))

-- ---- the line without an open session, a role or a history
empty_line : ℕ → Line
empty_line W = record { opened = 0; history = 0; sessions = replicate W empty_session }

-- and as that line
line_zero : (W : ℕ) (bs : List ℕ) → Zeros bs → read_line W bs ≡ empty_line W
unfolding read_line empty_line
line_zero W bs z = λ i. record { opened = first_zero bs z i; history = second_zero bs z i; sessions = sessions_zero W (drop 16 bs) (zeros_drop 16 bs z) i }

-- no role is active in it
none_active : (W : ℕ) → active_in (replicate W empty_session) ≡ 0
unfolding active_in empty_session
none_active zero = refl
none_active (suc W) = or_zero_l (active_in (replicate W empty_session)) ∙ none_active W

none_holding : (W r : ℕ) → holding r (replicate W empty_session) ≡ 0
unfolding holding empty_session
none_holding zero r = refl
none_holding (suc W) r =
    ap (λ (b : Bool). one b + holding r (replicate W empty_session)) (has_none r) ∙ omega (arith, none_holding W r)

-- nor in the zero line
pub zero_holding : (W r : ℕ) → holding r (read_line W (replicate (line_size W) 0)).sessions ≡ 0
unfolding empty_line
zero_holding W r = ap (λ (l : Line). holding r l.sessions) (line_zero W (replicate (line_size W) 0) (zeros (line_size W))) ∙ none_holding W r

module _ (W : ℕ) (m : Meaning) (anti : Antitone m) (none : m.all_met (λ k. 0) ≡ true) where
  -- no kind of exclusion counts a role in it
  none_counted : Fewer (counted (empty_line W) empty_session) (λ k. 0)
  unfolding counted empty_line empty_session
  none_counted SsDmer = none_within 0
  none_counted MsDmer = rw (none_active W) (none_within 0)
  none_counted SsHmer = none_within 0
  none_counted MsHmer = none_within 0

  -- every exclusion is met in it
  empty_met : exclusions_met m (empty_line W) ≡ true
  unfolding exclusions_met empty_line
  empty_met =
      at_all (λ s. m.all_met (counted (empty_line W) s)) (replicate W empty_session) empty_session
      (λ j i. rw (get_d_filled empty_session W j) (anti (counted (empty_line W) empty_session) (λ k. 0) none_counted none))

  -- it is sound
  empty_line_lem : SoundLine W m (empty_line W)
  unfolding empty_line
  empty_line_lem =
      record {
        opened = pow_pos W;
        history = pow_pos m.roles;
        each = λ j. subst (SoundSession m (empty_line W) j) (sym (get_d_filled empty_session W j)) (empty_sound m (empty_line W) j);
        met = empty_met;
      }

  -- the zero line is sound
  pub zero_sound : SoundBytes W m (replicate (line_size W) 0)
  zero_sound =
      rw (line_zero W (replicate (line_size W) 0) (zeros (line_size W))) (parts-sound m (empty_line W) W empty_line_lem)

-- ---- the lines of a ledger of zeros

-- each user's line is a zero line
pub zero_lines : (z u n : ℕ) → u < n → line_at z u (replicate (z * n) 0) ≡ replicate z 0
unfolding line_at
zero_lines z u n h =
    let e = line_at-length z u n (replicate (z * n) 0) (length-replicate (z * n) 0) h in
    ext_get_or 0 (take z (drop (z * u) (replicate (z * n) 0))) (replicate z 0) (unfold line_at in e ∙ sym (length-replicate z 0))
    (λ i l. get_or-take z _ i 0 (unfold line_at in omega (arith, e)) ∙ zeros_drop (z * u) _ (zeros (z * n)) i ∙ sym (zeros z i))
