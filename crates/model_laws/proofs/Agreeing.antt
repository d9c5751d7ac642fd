-- Lines that agree are sound together, whatever the number of their sessions: the law that both moves stand on.
-- Assumes nothing.
use mathlib.Core.Path.{◌≡◌, refl, sym, ap, ap₂, ◌∙◌, subst}
use mathlib.Core.Logic.{inl, inr}
use mathlib.Core.Bool.{Bool, true, ◌&&◌}
use mathlib.Core.List.{List, [], ◌∷◌}
use Prim.Native.Nat.{ℕ, suc, ◌+◌, ◌-◌, ◌*◌, ◌/◌, ◌%◌, ◌^◌, ◌≤◌, ◌<◌}
use native.Mathlib.Omega.{arith}
use native.Mathlib.Decide.{dec_lt}
use lib.Dec.{eqb}
use lib.Bits.{or_zero_l}
use lib.ListN.{length, get_or, drop, length-drop, get_or-eq_default}
use lib.Seq.{drop-drop, get_or-drop}
use borrow.Author.Tests.{eqb-true}
use Rattle.model.specs.declared.Kind.TheVariants.{SsDmer, MsDmer, SsHmer, MsHmer}
use Rattle.model.specs.declared.Session.{Session}
use Rattle.model.specs.declared.Line.{Line}
use Rattle.model.specs.Sets.{has, union}
use Rattle.model.specs.Policy.{Meaning}
use Rattle.model.specs.Line.{line_size, read_line, empty_session, is_open, active_in, counted, exclusions_met, sound}
use Rattle.model.specs.Kept.{Fewer, Antitone}
use Rattle.model_laws.proofs.Bools.{and_l, and_r, or_cases, not_both}
use Rattle.model_laws.proofs.SetLaws.{has_beyond}
use Rattle.model_laws.proofs.Every.{all-at, at_all}
use Rattle.model_laws.proofs.Inclusion.{within_refl, none_within}
use Rattle.model_laws.proofs.SoundLaws.{SoundSession, SoundLine, session_grows, sound-parts, parts-sound}
use Rattle.model_laws.proofs.Resizing.{Agreeing, session_from, session_read, number_zero}

-- ---- what is counted

-- sessions that agree have the same roles active
active_same : (a b : List Session) → ((j : ℕ) → get_or a j empty_session ≡ get_or b j empty_session) → active_in a ≡ active_in b
unfolding active_in empty_session
active_same [] [] h = refl
active_same [] (t ∷ b) h =
    active_same [] b (λ j. h (suc j))
    ∙ sym (or_zero_l (active_in b)) ∙ ap (λ (s : Session). union s.active (active_in b)) (h 0)
active_same (s ∷ a) [] h =
    ap (λ (t : Session). union t.active (active_in a)) (h 0) ∙ or_zero_l (active_in a) ∙ active_same a [] (λ j. h (suc j))
active_same (s ∷ a) (t ∷ b) h =
    ap₂ (λ (x : Session) (y : ℕ). union x.active y) (h 0) (active_same a b (λ j. h (suc j)))

module _ (m : Meaning) (anti : Antitone m) (k l : Line) (h : Agreeing k l) where
  -- the same is counted at a session
  same_counted : (s : Session) → Fewer (counted l s) (counted k s)
  unfolding counted
  same_counted s SsDmer = within_refl s.active
  same_counted s MsDmer =
      rw (active_same k.sessions l.sessions h.sessions) (within_refl (active_in l.sessions))
  same_counted s SsHmer = within_refl s.history
  same_counted s MsHmer = rw h.history (within_refl l.history)

  -- no more is counted at an empty session than at another
  empty_counted : (s : Session) → Fewer (counted k empty_session) (counted k s)
  unfolding counted empty_session
  empty_counted s SsDmer = none_within s.active
  empty_counted s MsDmer = within_refl (active_in k.sessions)
  empty_counted s SsHmer = none_within s.history
  empty_counted s MsHmer = within_refl k.history

  -- where every exclusion is met at every session, of which there is at least one, all are met at any session number
  met_at_lem : 0 < length k.sessions → exclusions_met m k ≡ true → (j : ℕ) → m.all_met (counted k (get_or k.sessions j empty_session)) ≡ true
  unfolding exclusions_met
  met_at_lem pos e j =
      let test : Session → Bool = λ s. m.all_met (counted k s) in
      elim (dec_lt j (length k.sessions)) [
        | yes i ↦ all-at test k.sessions empty_session e j i
        | no i ↦
            let first = get_or k.sessions 0 empty_session in
            rw (get_or-eq_default k.sessions empty_session {n = j} (omega arith))
            (anti (counted k empty_session) (counted k first) (empty_counted first) (all-at test k.sessions empty_session e 0 pos))
      ]

  met_same : 0 < length k.sessions → exclusions_met m k ≡ true → exclusions_met m l ≡ true
  met_same pos e =
      unfold exclusions_met in
      (at_all (λ s. m.all_met (counted l s)) l.sessions empty_session
      (λ j i. rw (h.sessions j) at (anti (counted l (get_or k.sessions j empty_session)) (counted k (get_or k.sessions j empty_session))
      (same_counted (get_or k.sessions j empty_session)) (met_at_lem pos e j))))

  -- ---- soundness
  module _ (F W : ℕ) (pos : 0 < length k.sessions) (o : l.opened < 2 ^ W) where
    parts_same : SoundLine F m k → SoundLine W m l
    unfolding is_open
    parts_same p =
        record {
          opened = o;
          history = rw h.history at p.history;
          each = λ j. subst (SoundSession m l j) (h.sessions j)
              (session_grows m k l j (get_or k.sessions j empty_session) (λ e. ap (λ (x : ℕ). has x j) (sym h.opened) ∙ e)
              (rw h.history (within_refl l.history)) (p.each j));
          met = met_same pos p.met;
        }

    -- a sound line's soundness passes to a line that agrees with it and has no session from W on open
    pub sound_same : sound F m k ≡ true → sound W m l ≡ true
    sound_same e = parts-sound m l W (parts_same (sound-parts m k F e))

-- ---- sessions that are not open

-- a session of a sound line from W on, none of which is open, is empty
closed_empty : (F W : ℕ) (m : Meaning) (l : Line) → SoundLine F m l → l.opened < 2 ^ W → (j : ℕ) → W ≤ j
    → ((get_or l.sessions j empty_session).active ≡ 0) × ((get_or l.sessions j empty_session).history ≡ 0)
unfolding is_open
closed_empty F W m l p o j h =
    let s = get_or l.sessions j empty_session in
    elim (or_cases (is_open l j) (eqb s.active 0 && eqb s.history 0) (p.each j).closed) [
      | inl e ↦ not_both (has l.opened j) e (has_beyond W l.opened j o h)
      | inr e ↦ (eqb-true s.active 0 (and_l _ _ e), eqb-true s.history 0 (and_r (eqb s.active 0) _ e))
    ]

-- so its bytes are zero
pub cut_zero : (F W : ℕ) (m : Meaning) (bs : List ℕ) → length bs ≡ line_size F → sound F m (read_line F bs) ≡ true
    → (read_line F bs).opened < 2 ^ W → (i : ℕ) → line_size W ≤ i → get_or bs i 0 ≡ 0
unfolding line_size read_line session_from
cut_zero F W m bs n e o i h =
    let j = (i - 16) / 16 in
    let r = (i - 16) % 16 in
    let z = closed_empty F W m (read_line F bs) (sound-parts m (read_line F bs) F e) o j (omega arith) in
    let q = session_read F (drop 16 bs) (rw length-drop (omega arith)) j in
    let at : drop (16 * j) (drop 16 bs) ≡ drop (16 + 16 * j) bs = drop-drop (16 * j) 16 bs in
    let active = ap (λ (s : Session). s.active) (sym q) ∙ z.0 in
    let history = ap (λ (s : Session). s.history) (sym q) ∙ z.1 in
    elim (dec_lt r 8) [
      | yes k ↦
          let e : i ≡ 16 + 16 * j + r = omega arith in
          rw e (sym (get_or-drop (16 + 16 * j) bs r 0) ∙ number_zero 8 (drop (16 + 16 * j) bs) (rw at at active) r k)
      | no k ↦
          let e : i ≡ 16 + 16 * j + 8 + (r - 8) = omega arith in
          rw e (sym (get_or-drop (16 + 16 * j + 8) bs (r - 8) 0)
          ∙ number_zero 8 (drop (16 + 16 * j + 8) bs) (rw (at, drop-drop 8 (16 + 16 * j) bs) at history) (r - 8) (omega arith))
    ]
