-- The soundness of a line, session by session, and which changes of a line keep it.
-- Assumes nothing.
use mathlib.Core.Path.{◌≡◌, refl, ◌∙◌}
use mathlib.Core.Logic.{inl, inr}
use mathlib.Core.Bool.{true, false, ◌&&◌, ◌||◌}
use mathlib.Core.List.{List, [], ◌∷◌}
use Prim.Native.Nat.{ℕ, zero, suc, ◌+◌, ◌^◌, ◌<◌}
use native.Mathlib.Nat.{add-zero, add-suc, suc-add, zero-add}
use native.Mathlib.Decide.{ℕ_discrete}
use native.Mathlib.Omega.{arith}
use lib.Dec.{eqb, ltb}
use lib.Pow.{pow-lt}
use lib.Bits.{or_lt}
use lib.ListN.{length, get_or, set, length-set}
use lib.Seq.{get_or-set_same, get_or-set_other}
use borrow.Author.Tests.{ltb-true, lt-ltb}
use Rattle.model.specs.declared.Kind.TheVariants.{SsDmer, MsDmer, SsHmer, MsHmer}
use Rattle.model.specs.declared.Session.{Session}
use Rattle.model.specs.declared.Line.{Line}
use Rattle.model.specs.Sets.{has, union, within}
use Rattle.model.specs.Policy.{Meaning}
use Rattle.model.specs.Line.{empty_session, session_at, is_open, active_in, counted, exclusions_met, session_sound, sessions_sound, sound, opening, closing, put_in}
use Rattle.model.specs.Kept.{Fewer, Antitone}
use Rattle.model_laws.proofs.Bools.{and_l, and_r, both, four, all_four, or_l, or_r, or_cases, not_both}
use Rattle.model_laws.proofs.SetLaws.{union_l}
use Rattle.model_laws.proofs.AnyWidth.{within_iff}
use Rattle.model_laws.proofs.Every.{all-at, at_all}
use Rattle.model_laws.proofs.Actives.{active_at_lem, at_active}
use Rattle.model_laws.proofs.Choices.{within_below}
use Rattle.model_laws.proofs.UnionLaws.{has_none}
use Rattle.model_laws.proofs.TableLaws.{set-case}
use Rattle.model_laws.proofs.Inclusion.{within_refl, within_trans, none_within, within_union_l, within_union_r, union-within, add_member, drop_member}

-- ---- soundness in parts

-- of session j: zero where closed; active within its history, that within the user's; active within the roles that may
-- be active
pub record SoundSession (m : Meaning) (l : Line) (j : ℕ) (s : Session) : Type 0 where
  pub closed : (is_open l j || (eqb s.active 0 && eqb s.history 0)) ≡ true
  pub active : within s.active s.history ≡ true
  pub history : within s.history l.history ≡ true
  pub authorized : within s.active m.authorized ≡ true

-- of a line: sessions beyond the list count as empty ones
pub record SoundLine (W : ℕ) (m : Meaning) (l : Line) : Type 0 where
  pub opened : l.opened < 2 ^ W
  pub history : l.history < 2 ^ m.roles
  pub each : (j : ℕ) → SoundSession m l j (get_or l.sessions j empty_session)
  pub met : exclusions_met m l ≡ true

module _ (m : Meaning) (l : Line) where
  -- the test of a session, taken apart
  session-parts : (j : ℕ) (s : Session) → session_sound m l j s ≡ true → SoundSession m l j s
  unfolding session_sound
  session-parts j s e =
      let a = is_open l j || (eqb s.active 0 && eqb s.history 0) in
      let p = four a (within s.active s.history) (within s.history l.history) (within s.active m.authorized) e in
      record { closed = p.0; active = p.1; history = p.2; authorized = p.3 }

  -- and put together
  parts-session : (j : ℕ) (s : Session) → SoundSession m l j s → session_sound m l j s ≡ true
  unfolding session_sound
  parts-session j s p = all_four _ _ _ _ p.closed p.active p.history p.authorized

  -- an empty session is sound
  pub empty_sound : (j : ℕ) → SoundSession m l j empty_session
  unfolding empty_session
  empty_sound j =
      record {
        closed = or_r (is_open l j) true refl;
        active = none_within 0;
        history = none_within l.history;
        authorized = none_within m.authorized;
      }

  -- the test of the sessions from k on says it of each
  sessions_each : (k : ℕ) (ss : List Session) → sessions_sound m l k ss ≡ true → (j : ℕ) → SoundSession m l (k + j) (get_or ss j empty_session)
  unfolding sessions_sound
  sessions_each k [] e j = empty_sound (k + j)
  sessions_each k (s ∷ ss) e zero = rw (add-zero k) (session-parts k s (and_l (session_sound m l k s) (sessions_sound m l (suc k) ss) e))
  sessions_each k (s ∷ ss) e (suc j) =
      rw (add-suc k j, ← suc-add k j) (sessions_each (suc k) ss (and_r (session_sound m l k s) (sessions_sound m l (suc k) ss) e) j)

  -- and holds where it is so of each
  each_sessions : (k : ℕ) (ss : List Session) → ((j : ℕ) → SoundSession m l (k + j) (get_or ss j empty_session)) → sessions_sound m l k ss ≡ true
  unfolding sessions_sound
  each_sessions k [] h = refl
  each_sessions k (s ∷ ss) h =
      both (session_sound m l k s) (sessions_sound m l (suc k) ss)
      (parts-session k s (rw (add-zero k) at (h 0))) (each_sessions (suc k) ss (λ j. rw (suc-add k j, ← add-suc k j) (h (suc j))))

  module _ (W : ℕ) where
    -- the test of a line, taken apart
    pub sound-parts : sound W m l ≡ true → SoundLine W m l
    unfolding sound
    sound-parts e =
        let p = four (ltb l.opened (2 ^ W)) (ltb l.history (2 ^ m.roles)) (sessions_sound m l 0 l.sessions) (exclusions_met m l) e in
        record {
          opened = ltb-true l.opened (2 ^ W) p.0;
          history = ltb-true l.history (2 ^ m.roles) p.1;
          each = λ j. rw (zero-add j) at (sessions_each 0 l.sessions p.2 j);
          met = p.3;
        }

    -- and put together
    pub parts-sound : SoundLine W m l → sound W m l ≡ true
    unfolding sound
    parts-sound p =
        all_four _ _ _ _ (lt-ltb l.opened (2 ^ W) p.opened) (lt-ltb l.history (2 ^ m.roles) p.history)
        (each_sessions 0 l.sessions (λ j. rw (zero-add j) (p.each j))) p.met

-- ---- changes of a line

-- a session stays sound where the line keeps it open and loses no history
module _ (m : Meaning) (k l : Line) (j : ℕ) (s : Session) where
  pub session_grows : (is_open k j ≡ true → is_open l j ≡ true) → within k.history l.history ≡ true → SoundSession m k j s
      → SoundSession m l j s
  session_grows o h p =
      let z = eqb s.active 0 && eqb s.history 0 in
      record {
        closed = elim (or_cases (is_open k j) z p.closed) [ inl e ↦ or_l (is_open l j) z (o e) | inr e ↦ or_r (is_open l j) z e ];
        active = p.active;
        history = within_trans s.history k.history l.history p.history h;
        authorized = p.authorized;
      }

-- exclusions stay met where each session counts fewer roles
pub met_kept : (m : Meaning) → Antitone m → (k l : Line) → length l.sessions ≡ length k.sessions
    → ((j : ℕ) → Fewer (counted l (get_or l.sessions j empty_session)) (counted k (get_or k.sessions j empty_session)))
    → exclusions_met m k ≡ true → exclusions_met m l ≡ true
unfolding exclusions_met
met_kept m anti k l n h e =
    at_all (λ s. m.all_met (counted l s)) l.sessions empty_session
    (λ j i. anti (counted l (get_or l.sessions j empty_session)) (counted k (get_or k.sessions j empty_session)) (h j)
    (all-at (λ s. m.all_met (counted k s)) k.sessions empty_session e j (rw n at i)))

-- ---- a session opened
module _ (W : ℕ) (m : Meaning) (l : Line) (anti : Antitone m) (k : ℕ) (p : SoundLine W m l) where
  -- an open counts what was counted
  same_counted : (s : Session) → Fewer (counted (opening k l) s) (counted l s)
  unfolding counted opening
  same_counted s SsDmer = within_refl s.active
  same_counted s MsDmer = within_refl (active_in l.sessions)
  same_counted s SsHmer = within_refl s.history
  same_counted s MsHmer = within_refl l.history

  -- a closed session opened leaves the line sound
  pub opening-sound : k < W → is_open l k ≡ false → SoundLine W m (opening k l)
  unfolding opening is_open
  opening-sound i c =
      let e = add_member l.opened k c in
      record {
        opened = rw e (or_lt W l.opened (2 ^ k) p.opened (pow-lt i));
        history = p.history;
        each = λ j. session_grows m l (opening k l) j (get_or l.sessions j empty_session)
            (λ o. rw e (union_l l.opened (2 ^ k) j o))
            (within_refl l.history) (p.each j);
        met = met_kept m anti l (opening k l) refl (λ j. same_counted (get_or l.sessions j empty_session)) p.met;
      }

-- ---- a session closed

-- the k-th session made empty is an empty one
emptied_at : (ss : List Session) (k : ℕ) → get_or (set ss k empty_session) k empty_session ≡ empty_session
emptied_at [] k = refl
emptied_at (s ∷ ss) zero = refl
emptied_at (s ∷ ss) (suc k) = emptied_at ss k

-- fewer roles are active
active_emptied : (ss : List Session) (k : ℕ) → within (active_in (set ss k empty_session)) (active_in ss) ≡ true
unfolding empty_session
active_emptied ss k =
    (within_iff (active_in (set ss k empty_session)) (active_in ss)).1
    (λ r e. let w = active_at_lem r (set ss k empty_session) e in
    at_active r ss w.0 (rw length-set at w.1)
    (set-case (λ _ s. has s.active r ≡ true → has (get_or ss w.0 empty_session).active r ≡ true) ss empty_session k empty_session w.0
    (λ e. not_both (has 0 r) e (has_none r)) (λ e. e) w.2))

module _ (W : ℕ) (m : Meaning) (l : Line) (anti : Antitone m) (k : ℕ) (p : SoundLine W m l) where
  -- a close counts fewer roles, or the same
  fewer-counted : (j : ℕ)
      → Fewer (counted (closing k l) (get_or (closing k l).sessions j empty_session)) (counted l (get_or l.sessions j empty_session))
  unfolding counted closing empty_session
  fewer-counted j SsDmer =
      set-case (λ _ t. within t.active (get_or l.sessions j empty_session).active ≡ true) l.sessions empty_session k empty_session j
      (none_within _) (within_refl _)
  fewer-counted j MsDmer = active_emptied l.sessions k
  fewer-counted j SsHmer =
      set-case (λ _ t. within t.history (get_or l.sessions j empty_session).history ≡ true) l.sessions empty_session k empty_session j
      (none_within _) (within_refl _)
  fewer-counted j MsHmer = within_refl l.history

  -- an open session closed leaves the line sound
  pub closing-sound : is_open l k ≡ true → SoundLine W m (closing k l)
  unfolding closing is_open
  closing-sound o =
      record {
        opened = omega (arith, p.opened);
        history = p.history;
        each = λ j. elim (ℕ_discrete j k) [
          | yes e ↦ rw (e, emptied_at l.sessions k) (empty_sound m (closing k l) k)
          | no n ↦
              rw (get_or-set_other l.sessions k j empty_session empty_session n)
              (session_grows m l (closing k l) j (get_or l.sessions j empty_session) (λ i. drop_member l.opened k o j n ∙ i)
              (within_refl l.history) (p.each j))
        ];
        met = met_kept m anti l (closing k l) (length-set l.sessions k empty_session) fewer-counted p.met;
      }

-- ---- a role set put in
module _ (W : ℕ) (m : Meaning) (l : Line) (k s : ℕ) (own : m.authorized < 2 ^ m.roles) (p : SoundLine W m l) where
  -- roles that may be active and leave every exclusion met, put in for an open session, leave the line sound
  pub putting_sound : k < length l.sessions → is_open l k ≡ true → within s m.authorized ≡ true → exclusions_met m (put_in k s l) ≡ true
      → SoundLine W m (put_in k s l)
  unfolding put_in session_at is_open
  putting_sound i o w e =
      record {
        opened = p.opened;
        history = or_lt m.roles l.history s p.history (within_below s m.authorized m.roles own w);
        each = λ j. elim (ℕ_discrete j k) [
          | yes q ↦ rw (q, get_or-set_same l.sessions k new empty_session i) at_new
          | no n ↦
              rw (get_or-set_other l.sessions k j new empty_session n)
              (session_grows m l (put_in k s l) j (get_or l.sessions j empty_session) (λ x. x) (within_union_l l.history s) (p.each j))
        ];
        met = e;
      }
    where
      old : Session
      old = get_or l.sessions k empty_session

      new : Session
      new = record { active = s; history = union old.history s }

      at_new : SoundSession m (put_in k s l) k new
      at_new =
          record {
            closed = or_l (has l.opened k) _ o;
            active = within_union_r old.history s;
            history =
                union-within old.history s (union l.history s)
                (within_trans old.history l.history (union l.history s) (p.each k).history (within_union_l l.history s))
                (within_union_r l.history s);
            authorized = w;
          }
