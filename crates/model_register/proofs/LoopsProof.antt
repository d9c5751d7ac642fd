-- The loop call answers as the register says: its laws are the model's, and one shortest loop is the lowest.
-- Assumes nothing.
use mathlib.Core.Path.{◌≡◌, refl, sym, ap, ◌∙◌, subst}
use mathlib.Core.Logic.{inl, inr}
use mathlib.Core.List.{List, ◌++◌}
use Prim.Native.Nat.{ℕ, zero, suc, ◌-◌, ◌<◌}
use native.Mathlib.Decide.{dec_lt, ℕ_discrete}
use native.Mathlib.Omega.{arith}
use lib.ListN.{length, get_or, replicate}
use lib.Seq.{ext_get_or}
use Rattle.model.specs.declared.Head.{Head}
use Rattle.model.specs.declared.Checked.{Checked}
use Rattle.model.specs.declared.Checked.TheVariants.{Accepted, Refused}
use Rattle.model.specs.Image.{judge_words}
use Rattle.model.specs.Policy.{Policy, policy_of}
use Rattle.model.specs.Session.{Reply, refuse}
use Rattle.model.specs.Loop.{loop_call}
use Rattle.model.specs.Run.{filled_with, answered}
use Rattle.model.specs.Chains.{roles_of, LowestOnLoop}
use Rattle.model.specs.Ordered.{NotAbove, ShortestLoop}
use Rattle.model_laws.proofs.UnionLaws.{below_or_last}
use Rattle.model_laws.proofs.OrderedProof.{loop-call, shown_or_none}
use Rattle.model_register.specs.Loops.{without, LoopAnswers, by_words, by_room, by_none, shows, LoopIs}
use Rattle.model_register.proofs.FaultsProof.{register_is}
use Rattle.model_register.proofs.AsCheckProof.{words_right}

-- ---- one role, and one loop of it

one-role : (p : Policy) (a b : ℕ) → LowestOnLoop p a → LowestOnLoop p b → a ≡ b
one-role p a b v w =
    elim (dec_lt a b) [
      | yes i ↦ absurd (w.lowest a i v.loop)
      | no i ↦ elim (dec_lt b a) [ yes j ↦ absurd (v.lowest b j w.loop) | no j ↦ omega arith ]
    ]

-- lists neither of which is above the other have the same numbers
same_at : (bs cs : List ℕ) → NotAbove bs cs → NotAbove cs bs → (n j : ℕ) → j < n → get_or bs j 0 ≡ get_or cs j 0
same_at bs cs a b zero j l = absurd (omega arith)
same_at bs cs a b (suc n) j l =
    elim (below_or_last j n l) [
      | inl i ↦ same_at bs cs a b n j i
      | inr i ↦
          let low = same_at bs cs a b n in
          let e : get_or bs n 0 ≡ get_or cs n 0 = omega (arith, a n low, b n (λ k m. sym (low k m))) in
          subst (λ (k : ℕ). get_or bs k 0 ≡ get_or cs k 0) (sym i) e
    ]

one-loop : (p : Policy) (r : ℕ) (bs cs : List ℕ) → ShortestLoop p r bs → ShortestLoop p r cs → bs ≡ cs
one-loop p r bs cs v w =
    let b : length (roles_of v.chain) ≡ length bs = ap length v.roles in
    let c : length (roles_of w.chain) ≡ length cs = ap length w.roles in
    let e : length bs ≡ length cs =
    omega (arith, b, c, v.size.0, w.size.0, v.shortest w.chain (omega (arith, c, w.size.0)), w.shortest v.chain (omega (arith, b, v.size.0))) in
    let below = subst (NotAbove bs) w.roles (v.lowest w.chain (c ∙ sym e)) in
    let above = subst (NotAbove cs) v.roles (w.lowest v.chain (b ∙ e)) in
    ext_get_or 0 bs cs e (λ i _. same_at bs cs below above (suc i) i (omega arith))

-- ---- the call
module _ (s : List ℕ) where
  to : (room : ℕ) → LoopAnswers s room (loop_call s room)
  unfolding refuse
  to room = go (judge_words s) refl
    where
      full : (h : Head) → judge_words s ≡ Accepted h → room ≡ 64 → LoopAnswers s room (loop_call s room)
      full h e q =
          let a = (words_right s).0 (h, e) in
          elim (shown_or_none s h e) [
            | inl w ↦ shows a q w.role w.is_lowest w.bytes w.is_shortest (ap (loop_call s) q ∙ w.answer)
            | inr n ↦ by_none a q n.1 (ap (loop_call s) q ∙ n.0)
          ]

      go : (v : Checked) → judge_words s ≡ v → LoopAnswers s room (loop_call s room)
      go (Refused n k) e = by_words n k (((register_is s).refused n k).0 e) ((loop-call s).by_words n k room e)
      go (Accepted h) e =
          elim (ℕ_discrete room 64) [ yes q ↦ full h e q | no n ↦ by_room ((words_right s).0 (h, e)) n ((loop-call s).by_room (h, e) room n) ]

  back : (room : ℕ) (r : Reply) → LoopAnswers s room r → loop_call s room ≡ r
  unfolding refuse
  back room r (by_words n k f q) = (loop-call s).by_words n k room (((register_is s).refused n k).1 f) ∙ sym q
  back room r (by_room a n q) = (loop-call s).by_room ((words_right s).1 a) room n ∙ sym q
  back room r (by_none a e n q) =
      let (h, w) = (words_right s).1 a in
      elim (shown_or_none s h w) [ inl v ↦ absurd (n v.role v.is_lowest.loop) | inr m ↦ ap (loop_call s) e ∙ m.0 ∙ sym q ]
  back room r (shows a e i low bs short q) =
      let w = (loop-call s).shows ((words_right s).1 a) i low.loop in
      let same : w.bytes ≡ bs =
      one-loop (policy_of s) i w.bytes bs
      (subst (λ (k : ℕ). ShortestLoop (policy_of s) k w.bytes) (one-role (policy_of s) w.role i w.is_lowest low) w.is_shortest) short in
      ap (loop_call s) e ∙ w.answer
      ∙ ap (λ (c : List ℕ). record { number = 0; extra = length c; filled = c ++ replicate (64 - length c) 0 }) same ∙ sym q

  -- a refusal leaves the buffer
  left : (buffer : List ℕ) (r : Reply) (n x : ℕ) → r ≡ without n x → answered buffer r ≡ buffer
  unfolding answered filled_with
  left buffer r n x e = ap (λ (r : Reply). answered buffer r) e

  pub loop-is : LoopIs s
  loop-is =
      record {
        answer = λ room r. (λ e. subst (LoopAnswers s room) e (to room), back room r);
        untouched = λ buffer z. kept buffer z (to (length buffer));
      }
    where
      kept : (buffer : List ℕ) → ¬ ((loop_call s (length buffer)).number ≡ 0) → LoopAnswers s (length buffer) (loop_call s (length buffer))
          → answered buffer (loop_call s (length buffer)) ≡ buffer
      kept buffer z (by_words n k f q) = left buffer (loop_call s (length buffer)) n k q
      kept buffer z (by_room a n q) = left buffer (loop_call s (length buffer)) 19 0 q
      kept buffer z (by_none a e n q) = left buffer (loop_call s (length buffer)) 20 0 q
      kept buffer z (shows a e i low bs short q) = absurd (z (ap (λ (r : Reply). r.number) q))
