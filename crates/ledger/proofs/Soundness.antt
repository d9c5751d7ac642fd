-- Laws of a line's soundness: the roles active in any session and the soundness of every session, one session a turn;
-- the exclusions one by one.
-- Assumes nothing.
use mathlib.Core.Path.{◌≡◌, refl, sym, ap, ◌∙◌}
use mathlib.Core.Bool.{Bool, true, false, ◌&&◌, ◌||◌}
use mathlib.Core.List.{List}
use Prim.Native.Nat.{ℕ, suc, ◌+◌, ◌≤◌, ◌<◌}
use native.Mathlib.Omega.{arith}
use native.Mathlib.Numerals.{add-one}
use lib.Bits.{bit_or, bit_and, and_zero_r, or_comm, or_zero_r}
use lib.Dec.{eqb, ltb}
use lib.ListN.{length, get_or, take, drop, drop_of_length-le}
use lib.Seq.{drop-cons}
use borrow.Author.Tests.{eqb-true}
use Rattle.model.specs.declared.Kind.{Kind}
use Rattle.model.specs.declared.Exclusion.{Exclusion}
use Rattle.model.specs.declared.Exclusions.{Exclusions}
use Rattle.model.specs.declared.Session.{Session}
use Rattle.model.specs.declared.Line.{Line}
use Rattle.model.specs.Tests.{all}
use Rattle.model.specs.Sets.{has, count, within}
use Rattle.model.specs.Policy.{Meaning, met}
use Rattle.model.specs.Line.{is_open, active_in, counted, exclusions_met, session_sound, sessions_sound}
use Rattle.model_laws.proofs.Bools.{and_l, and_r, or_r, all_four}
use Rattle.model_laws.proofs.Inclusion.{none_within}
use Rattle.model_laws.proofs.AnyWidth.{union_swap}
use Rattle.model_laws.proofs.TableLaws.{count_empty}
use Rattle.ledger.specs.Held.{met_at, Listed}
use Rattle.ledger.proofs.All.{all_cong, all_same, all_swap}

pub or_assoc : (a b c : ℕ) → bit_or (bit_or a b) c ≡ bit_or a (bit_or b c)
or_assoc a b c = or_comm (bit_or a b) c ∙ union_swap c a b ∙ ap (bit_or a) (or_comm c b)

-- ---- the roles active in the sessions from k on, put to those before
pub active_next : (ss : List Session) (d : Session) (k r : ℕ) → k < length ss
    → bit_or (bit_or r (get_or ss k d).active) (active_in (drop (k + 1) ss)) ≡ bit_or r (active_in (drop k ss))
unfolding active_in
active_next ss d k r h = rw (add-one k, drop-cons ss k d h) (or_assoc r (get_or ss k d).active (active_in (drop (suc k) ss)))

pub active_end : (ss : List Session) (k r : ℕ) → length ss ≤ k → bit_or r (active_in (drop k ss)) ≡ r
unfolding active_in
active_end ss k r h = rw (drop_of_length-le ss h, or_zero_r r)

-- ---- a session that is empty, and one that is not
module _ (m : Meaning) (l : Line) (k : ℕ) (s : Session) where
  pub empty_sound : (eqb s.active 0 && eqb s.history 0) ≡ true → true ≡ session_sound m l k s
  unfolding session_sound
  empty_sound z =
      let a : s.active ≡ 0 = eqb-true _ _ (and_l (eqb s.active 0) _ z) in
      let h : s.history ≡ 0 = eqb-true _ _ (and_r (eqb s.active 0) _ z) in
      let inside : (x t : ℕ) → x ≡ 0 → within x t ≡ true = λ x t e. rw e (none_within t) in
      sym (all_four (is_open l k || (eqb s.active 0 && eqb s.history 0)) (within s.active s.history) (within s.history l.history) _
      (or_r (is_open l k) _ z) (inside _ _ a) (inside _ _ h) (inside _ _ a))

  pub filled_sound : (eqb s.active 0 && eqb s.history 0) ≡ false
      → (is_open l k && within s.active s.history && within s.history l.history && within s.active m.authorized) ≡ session_sound m l k s
  unfolding session_sound
  filled_sound z = rw (z, unless (is_open l k)) refl
    where
      unless : (o : Bool) → (o || false) ≡ o
      unless true = refl
      unless false = refl

  -- by the four tests of a session that is not empty, of a line with these open bits and this history
  pub tests_sound : {f i o w : Bool} (opened history authorized : ℕ) → m.authorized ≡ authorized → l.opened ≡ opened → l.history ≡ history
      → (eqb s.active 0 && eqb s.history 0) ≡ false → f ≡ has opened k → i ≡ within s.active s.history → o ≡ within s.history history
      → w ≡ within s.active authorized → (f && i && o && w) ≡ session_sound m l k s
  unfolding is_open
  tests_sound opened history authorized ea eo eh z ef ei eu ew =
      rw (ef, ei, eu, ew, ← ea, ← eo, ← eh) (filled_sound z)

-- ---- the sessions from k on are sound, by a test b of session k
module _ (m : Meaning) (l : Line) (d : Session) (ss : List Session) (k : ℕ) where
  sound_at_lem : k < length ss → sessions_sound m l k (drop k ss) ≡ (session_sound m l k (get_or ss k d) && sessions_sound m l (k + 1) (drop (k + 1) ss))
  unfolding sessions_sound
  sound_at_lem h = rw (add-one k, drop-cons ss k d h)

  pub sound-next : {b : Bool} → k < length ss → b ≡ session_sound m l k (get_or ss k d) → b ≡ true
      → sessions_sound m l (k + 1) (drop (k + 1) ss) ≡ sessions_sound m l k (drop k ss)
  sound-next h e t = sym (sound_at_lem h ∙ ap (λ (x : Bool). x && sessions_sound m l (k + 1) (drop (k + 1) ss)) (sym e ∙ t))

  pub sound_stop : {b : Bool} → k < length ss → b ≡ session_sound m l k (get_or ss k d) → b ≡ false → false ≡ sessions_sound m l k (drop k ss)
  sound_stop h e t = sym (sound_at_lem h ∙ ap (λ (x : Bool). x && sessions_sound m l (k + 1) (drop (k + 1) ss)) (sym e ∙ t))

  pub sound_end : length ss ≤ k → true ≡ sessions_sound m l k (drop k ss)
  unfolding sessions_sound
  sound_end h = rw (drop_of_length-le ss h)

-- ---- an exclusion where no role is counted
pub met_none : (counted : Kind → ℕ) (x : Exclusion) → counted x.kind ≡ 0 → ltb 0 x.n ≡ met counted x
unfolding met
met_none counted x e =
    ap (λ (n : ℕ). ltb n x.n) (sym (ap (λ (s : ℕ). count 64 (bit_and x.members s)) e ∙ ap (count 64) (and_zero_r x.members) ∙ count_empty 64))

-- ---- an exclusion of a kind that counts the same at all sessions, tested at one of them
pub met_once : (l : Line) (x : Exclusion) (s : Session) (n : ℕ) → length l.sessions ≡ suc n
    → ((t : Session) → counted l t x.kind ≡ counted l s x.kind) → met (counted l s) x ≡ met_at l x
unfolding met_at met
met_once l x s n some same = sym (all_same (λ t. met (counted l t) x) (met (counted l s) x) l.sessions (omega arith) (λ t. rw (same t)))

-- ---- every exclusion at every session, by the exclusions
pub by_exclusion : (m : Meaning) (l : Line) (xs : Exclusions) → Listed xs m → all (met_at l) (take xs.count xs.list) ≡ exclusions_met m l
unfolding exclusions_met met_at
by_exclusion m l xs h =
    sym (all_swap (λ s. met (counted l s)) l.sessions (take xs.count xs.list))
    ∙ sym (all_cong (λ s. m.all_met (counted l s)) (λ s. all (met (counted l s)) (take xs.count xs.list)) l.sessions
    (λ s. h (counted l s)))
