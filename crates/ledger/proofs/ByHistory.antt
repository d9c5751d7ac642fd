-- A line that is plainly sound: where its sessions are sound, it names no role outside the user's history, so that an
-- exclusion that the history meets is met at every session.
-- Assumes nothing.
use mathlib.Core.Path.{◌≡◌, refl, sym, ap, ◌∙◌}
use mathlib.Core.Bool.{Bool, true, ◌&&◌, ◌||◌}
use mathlib.Core.List.{List, [], ◌∷◌}
use Prim.Native.Nat.{ℕ, suc, ◌^◌}
use native.Mathlib.Omega.{arith}
use lib.Dec.{eqb, ltb}
use lib.ListN.{take, drop}
use borrow.Author.Tests.{ltb-true, lt-ltb}
use Rattle.model.specs.declared.Exclusion.{Exclusion}
use Rattle.model.specs.declared.Exclusions.{Exclusions}
use Rattle.model.specs.declared.Session.{Session}
use Rattle.model.specs.declared.Line.{Line}
use Rattle.model.specs.Sets.{union, inter, within, count}
use Rattle.model.specs.Policy.{Meaning}
use Rattle.model.specs.Line.{read_sessions, read_line, is_open, session_sound, sessions_sound, sound}
use Rattle.model_laws.proofs.Bools.{and_l, and_r, all_four}
use Rattle.model_laws.proofs.SetLaws.{count-within}
use Rattle.model_laws.proofs.Inclusion.{within_refl, within_trans, none_within, union-within, inter-within}
use Rattle.octets.specs.Splice.{number_at}
use Rattle.ledger.specs.Held.{met_at, named_in, named_by, few_in, Held}
use Rattle.ledger.proofs.All.{all_then}
use Rattle.ledger.proofs.Named.{met_by_all_lem}
use Rattle.ledger.proofs.Soundness.{by_exclusion}

-- fewer than n members of the exclusion are in the set
abbrev pub few : ℕ → Exclusion → Bool
few set x = ltb (count 64 (inter x.members set)) x.n

-- ---- what sound sessions name
module _ (m : Meaning) (l : Line) where
  one_inside : (k : ℕ) (s : Session) → session_sound m l k s ≡ true → within (union s.active s.history) l.history ≡ true
  unfolding session_sound
  one_inside k s e =
      let a = is_open l k || (eqb s.active 0 && eqb s.history 0) in
      let b = within s.active s.history in
      let o = within s.history l.history in
      let formed = and_l (a && b && o) (within s.active m.authorized) e in
      let inner = and_r a b (and_l (a && b) o formed) in
      let outer = and_r (a && b) o formed in
      union-within s.active s.history l.history (within_trans s.active s.history l.history inner outer) outer

  all_inside : (k : ℕ) (ss : List Session) → sessions_sound m l k ss ≡ true → within (named_in ss) l.history ≡ true
  unfolding sessions_sound named_in
  all_inside k [] e = none_within l.history
  all_inside k (s ∷ ss) e =
      union-within _ (named_in ss) l.history (one_inside k s (and_l _ _ e)) (all_inside (suc k) ss (and_r (session_sound m l k s) _ e))

-- ---- what the history meets
module _ (m : Meaning) (l : Line) (formed : sessions_sound m l 0 l.sessions ≡ true) where
  named_inside : within (named_by l) l.history ≡ true
  unfolding named_by
  named_inside = union-within l.history (named_in l.sessions) l.history (within_refl l.history) (all_inside m l 0 l.sessions formed)

  met_by_history : (x : Exclusion) → ltb (count 64 (inter x.members l.history)) x.n ≡ true → met_at l x ≡ true
  met_by_history x few =
      let s = x.members in
      let least = count-within 64 (inter s (named_by l)) (inter s l.history) (inter-within s (named_by l) l.history named_inside) in
      let all = lt-ltb (count 64 (inter s (named_by l))) x.n (omega (arith, least, ltb-true (count 64 (inter s l.history)) x.n few)) in
      sym (met_by_all_lem l x refl (sym all) refl)

-- ---- the whole
all_plain : (W roles authorized : ℕ) (xs : Exclusions) (m : Meaning) (l : Line) → Held roles authorized xs m → ltb l.opened (2 ^ W) ≡ true
    → ltb l.history (2 ^ roles) ≡ true → sessions_sound m l 0 l.sessions ≡ true → few_in l.history xs ≡ true → sound W m l ≡ true
unfolding sound few_in
all_plain W roles authorized xs m l h opens below formed few =
    all_four _ _ _ _ opens (rw h.number below) formed
    (sym (by_exclusion m l xs h.exclusions) ∙ all_then _ (met_at l) (take xs.count xs.list) (met_by_history m l formed) few)

-- by the tests that code makes of a line's bytes
pub plain-line : (W roles authorized : ℕ) (xs : Exclusions) (bs : List ℕ) {opened history : ℕ} {a b s r : Bool} → opened ≡ number_at bs 0
    → history ≡ number_at bs 8 → a ≡ ltb opened (2 ^ W) → b ≡ ltb history (2 ^ roles) → (a && b) ≡ true
    → ((m : Meaning) (l : Line) → m.authorized ≡ authorized → l.opened ≡ opened → l.history ≡ history
    → s ≡ sessions_sound m l 0 (read_sessions W (drop 16 bs))) → s ≡ true → r ≡ few_in history xs → r ≡ true
    → (m : Meaning) → Held roles authorized xs m → sound W m (read_line W bs) ≡ true
unfolding read_line number_at
plain-line W roles authorized xs bs {a = a} {b = b} eo eh ea eb ab es ns er t m h =
    let l = read_line W bs in
    let two = ab in
    all_plain W roles authorized xs m l h (ap (λ (x : ℕ). ltb x (2 ^ W)) (sym eo) ∙ sym ea ∙ and_l a b two)
    (ap (λ (x : ℕ). ltb x (2 ^ roles)) (sym eh) ∙ sym eb ∙ and_r a b two)
    (sym (es m l h.allowed (sym eo) (sym eh)) ∙ ns) (ap (λ (x : ℕ). few_in x xs) (sym eh) ∙ sym er ∙ t)
