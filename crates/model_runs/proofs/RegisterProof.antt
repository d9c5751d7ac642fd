-- The stopped call answers as the register says: as a check by the model's judgement, and the set told is the one of
-- its members.
-- Assumes nothing.
use mathlib.Core.Path.{◌≡◌, refl, sym, ap, ◌∙◌, subst}
use mathlib.Core.Bool.{Bool, true, false, not, true≢false}
use mathlib.Core.List.{List}
use Prim.Native.Nat.{ℕ, ◌*◌, ◌<◌}
use lib.Dec.{eqb}
use lib.ListN.{length, drop}
use borrow.Author.Tests.{eqb-true, eqb-false, eq-eqb, ne_eqb, not-true}
use Rattle.model.specs.declared.Head.{Head}
use Rattle.model.specs.declared.Checked.{Checked}
use Rattle.model.specs.declared.Checked.TheVariants.{Accepted, Refused}
use Rattle.model.specs.Sets.{has, count}
use Rattle.model.specs.Bytes.{bytes_of}
use Rattle.model.specs.Judgement.{judge}
use Rattle.model.specs.Policy.{policy_of, meaning}
use Rattle.model.specs.Line.{line_size, read_line, sound}
use Rattle.model.specs.Session.{Reply, refuse}
use Rattle.model.specs.Run.{line_at, line_of, filled_with, answered}
use Rattle.model_laws.proofs.Bools.{bool_ext}
use Rattle.model_laws.proofs.SetLaws.{same_members}
use Rattle.model_laws.proofs.LineLaws.{length-read_sessions}
use Rattle.model_laws.proofs.Judgements.{judge_is, Verdict, words, loops, reaches, passes, verdict}
use Rattle.model_register.specs.Sound.{Sound}
use Rattle.model_register.specs.Loops.{without}
use Rattle.model_register.proofs.FaultsProof.{register_is}
use Rattle.model_register.proofs.SoundProof.{sound_is}
use Rattle.model_register.proofs.AsCheckProof.{words_right, words_first, passes_is}
use Rattle.model_stopped.specs.Stopped.{stopped_set, telling, stopped_on, stopped_by, stopped_call}
use Rattle.model_runs.specs.Register.{Unsound, StoppedAnswers, by_words, by_loop, by_reach, by_ledger, by_room, tells, StoppedAre}
use Rattle.model_runs.proofs.StoppedProof.{own_bit, bit_below, small}

-- ---- the set, under an accepted image and on a ledger that fits
module _ (W : ℕ) (s : List ℕ) (h : Head) (accepted : judge s ≡ Accepted h) (l : List ℕ) (fits : length l ≡ line_size W * (policy_of s).head.users) where
  abbrev set : ℕ
  set = stopped_set W (policy_of s) l

  sound-line : (u : ℕ) → sound W (meaning (policy_of s) u) (line_of W l u) ≡ true → Sound W (policy_of s) u (line_of W l u)
  unfolding line_of read_line
  sound-line u = (sound_is s h accepted W u (line_of W l u) (length-read_sessions W (drop 16 (line_at (line_size W) u l)))).0

  line-sound : (u : ℕ) → Sound W (policy_of s) u (line_of W l u) → sound W (meaning (policy_of s) u) (line_of W l u) ≡ true
  unfolding line_of read_line
  line-sound u = (sound_is s h accepted W u (line_of W l u) (length-read_sessions W (drop 16 (line_at (line_size W) u l)))).1

  told : (u : ℕ) → has set u ≡ true → (u < (policy_of s).head.users) × ¬ Sound W (policy_of s) u (line_of W l u)
  told u e =
      let k = bit_below W s h accepted l fits u e in
      (k, λ w. true≢false (sym (line-sound u w) ∙ not-true _ (sym (own_bit W s h accepted l fits u k) ∙ e)))

  tell : (u : ℕ) → (u < (policy_of s).head.users) × ¬ Sound W (policy_of s) u (line_of W l u) → has set u ≡ true
  tell u (k, w) = go (sound W (meaning (policy_of s) u) (line_of W l u)) refl
    where
      go : (b : Bool) → sound W (meaning (policy_of s) u) (line_of W l u) ≡ b → has set u ≡ true
      go true e = absurd (w (sound-line u e))
      go false e = own_bit W s h accepted l fits u k ∙ ap not e

  pub unsound : Unsound W (policy_of s) l set
  unsound = record { small = small W s h accepted l fits; members = λ u. (told u, tell u) }

  -- a set with these members is this one
  one_set : (t : ℕ) → Unsound W (policy_of s) l t → set ≡ t
  one_set t w =
      same_members 64 set t (small W s h accepted l fits) w.small
      (λ u _. bool_ext (has set u) (has t u) (λ e. (w.members u).1 (told u e)) (λ e. tell u ((w.members u).0 e)))

-- ---- the call
module _ (W : ℕ) (s l : List ℕ) (room : ℕ) where
  abbrev fitting : Type 0
  fitting = length l ≡ line_size W * (policy_of s).head.users

  refused : (n x : ℕ) → judge s ≡ Refused n x → stopped_call W s l room ≡ without n x
  unfolding stopped_call stopped_by refuse
  refused n x e = ap (λ (v : Checked). stopped_by W v (policy_of s) l room) e

  accepted_by : (h : Head) → judge s ≡ Accepted h → stopped_call W s l room ≡ stopped_on W (policy_of s) l room
  unfolding stopped_call stopped_by
  accepted_by h e = ap (λ (v : Checked). stopped_by W v (policy_of s) l room) e

  no_fit : ¬ fitting → stopped_on W (policy_of s) l room ≡ without 9 0
  unfolding stopped_on refuse
  no_fit n = rw (ne_eqb (length l) (line_size W * (policy_of s).head.users) n, stopped_on)

  no_room : fitting → ¬ (room ≡ 8) → stopped_on W (policy_of s) l room ≡ without 19 0
  unfolding stopped_on refuse
  no_room f n = rw (eq-eqb (length l) (line_size W * (policy_of s).head.users) f, stopped_on, ne_eqb room 8 n)

  done : fitting → room ≡ 8 → stopped_on W (policy_of s) l room ≡ telling (stopped_set W (policy_of s) l)
  unfolding stopped_on
  done f n = rw (eq-eqb (length l) (line_size W * (policy_of s).head.users) f, stopped_on, eq-eqb room 8 n)

  passed : (h : Head) → judge s ≡ Accepted h → StoppedAnswers W s l room (stopped_call W s l room)
  unfolding telling
  passed h e = go (eqb (length l) (line_size W * (policy_of s).head.users)) refl (eqb room 8) refl
    where
      go : (a : Bool) → eqb (length l) (line_size W * (policy_of s).head.users) ≡ a → (b : Bool) → eqb room 8 ≡ b
          → StoppedAnswers W s l room (stopped_call W s l room)
      go false p b q = let n = eqb-false _ _ p in by_ledger ((passes_is s).1 (h, e)) n (accepted_by h e ∙ no_fit n)
      go true p false q =
          let f = eqb-true _ _ p in
          let n = eqb-false _ _ q in
          by_room ((passes_is s).1 (h, e)) f n (accepted_by h e ∙ no_room f n)
      go true p true q =
          let f = eqb-true _ _ p in
          let n = eqb-true _ _ q in
          tells ((passes_is s).1 (h, e)) f n (stopped_set W (policy_of s) l) (unsound W s h e l f) (accepted_by h e ∙ done f n)

  to : StoppedAnswers W s l room (stopped_call W s l room)
  to = go (verdict s)
    where
      go : Verdict s → StoppedAnswers W s l room (stopped_call W s l room)
      go (words n k i e t) = by_words n k (((register_is s).refused n k).0 e) (refused n k t)
      go (loops h r e w t) = by_loop ((words_right s).0 (h, e)) r w (refused 22 r t)
      go (reaches h v e n w t) = by_reach ((words_right s).0 (h, e)) n v w (refused 23 v t)
      go (passes h e n f t) = passed h t

  back : (r : Reply) → StoppedAnswers W s l room r → stopped_call W s l room ≡ r
  unfolding telling
  back r (by_words n k w q) = refused n k (words_first s n k w) ∙ sym q
  back r (by_loop a x w q) = refused 22 x (((judge_is s).by_loop x).1 ((words_right s).1 a, w)) ∙ sym q
  back r (by_reach a n v w q) = refused 23 v (((judge_is s).by_reach v).1 ((words_right s).1 a, n, w)) ∙ sym q
  back r (by_ledger a n q) = let (h, e) = (passes_is s).0 a in accepted_by h e ∙ no_fit n ∙ sym q
  back r (by_room a f n q) = let (h, e) = (passes_is s).0 a in accepted_by h e ∙ no_room f n ∙ sym q
  back r (tells a f n t w q) =
      let (h, e) = (passes_is s).0 a in
      accepted_by h e ∙ done f n
      ∙ ap (λ (x : ℕ). record { number = 0; extra = count 64 x; filled = bytes_of 8 x }) (one_set W s h e l f t w) ∙ sym q

-- a call that is not done leaves the buffer
left : (W : ℕ) (s l buffer : List ℕ) → ¬ ((stopped_call W s l (length buffer)).number ≡ 0)
    → StoppedAnswers W s l (length buffer) (stopped_call W s l (length buffer)) → answered buffer (stopped_call W s l (length buffer)) ≡ buffer
unfolding answered filled_with
left W s l buffer z (by_words n k w q) = ap (λ (r : Reply). answered buffer r) q
left W s l buffer z (by_loop a x w q) = ap (λ (r : Reply). answered buffer r) q
left W s l buffer z (by_reach a n v w q) = ap (λ (r : Reply). answered buffer r) q
left W s l buffer z (by_ledger a n q) = ap (λ (r : Reply). answered buffer r) q
left W s l buffer z (by_room a f n q) = ap (λ (r : Reply). answered buffer r) q
left W s l buffer z (tells a f n t w q) = absurd (z (ap (λ (r : Reply). r.number) q))

pub stopped_are : (W : ℕ) (s l : List ℕ) → StoppedAre W s l
stopped_are W s l =
    record {
      answer = λ room r. (λ q. subst (StoppedAnswers W s l room) q (to W s l room), back W s l room r);
      untouched = λ buffer z. left W s l buffer z (to W s l (length buffer));
    }
