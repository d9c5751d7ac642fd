-- The judgement of an image taken apart: by its words, then by the lowest role on a loop, then by the lowest user with
-- too many roles.
-- Assumes nothing.
use mathlib.Core.Path.{◌≡◌, refl, sym, ap, ap₂, ◌∙◌, subst}
use mathlib.Core.Logic.{◌⊎◌, inl, inr}
use mathlib.Core.Option.{Option, none, some}
use mathlib.Core.List.{List}
use Prim.Native.Nat.{ℕ, zero-le}
use native.Mathlib.Decide.{dec_lt}
use native.Mathlib.Omega.{arith}
use lib.Dec.{ltb}
use lib.ListN.{get_or}
use borrow.Author.Tests.{ltb-true, ltb-false}
use Rattle.model.specs.declared.Head.{Head}
use Rattle.model.specs.declared.Checked.{Checked}
use Rattle.model.specs.declared.Checked.TheVariants.{Accepted, Refused}
use Rattle.model.specs.Tests.{lowest}
use Rattle.model.specs.Sets.{has, count}
use Rattle.model.specs.Image.{judge_words}
use Rattle.model.specs.Policy.{Policy, policy_of, below_table, authorized}
use Rattle.model.specs.Judgement.{lowest_on_loop, lowest_over_reach, refusing, judge_meaning, judge}
use Rattle.model.specs.Chains.{LowestOnLoop}
use Rattle.model.specs.Ranges.{OneTo, InRange}
use Rattle.model.specs.Ordered.{WordsPass, Loopless, FewRoles, LowestOverReach, JudgeIs}
use Rattle.model_laws.proofs.Bools.{not_both}
use Rattle.model_laws.proofs.ImageNumbers.{Numbered, words-numbered}
use Rattle.model_laws.proofs.Accepted.{words_head, words_in_range}
use Rattle.model_laws.proofs.Closure.{below, below_is}
use Rattle.model_laws.proofs.Reaches.{no_user}
use Rattle.model_laws.proofs.LowestLaws.{lowest_is, lowest_found, is_below, is_beyond}

-- there is one lowest
one-loop : {p : Policy} (a b : ℕ) → LowestOnLoop p a → LowestOnLoop p b → a ≡ b
one-loop a b v w =
    elim (dec_lt a b) [
      | yes l ↦ absurd (w.lowest a l v.loop)
      | no l ↦ elim (dec_lt b a) [ yes m ↦ absurd (v.lowest b m w.loop) | no m ↦ omega arith ]
    ]

one_reach : {p : Policy} (a b : ℕ) → LowestOverReach p a → LowestOverReach p b → a ≡ b
one_reach a b v w =
    elim (dec_lt a b) [
      | yes l ↦ absurd (v.wide (w.lowest a l))
      | no l ↦ elim (dec_lt b a) [ yes m ↦ absurd (w.wide (v.lowest b m)) | no m ↦ omega arith ]
    ]

-- ---- a policy in range
module _ (p : Policy) (range : InRange p) where
  -- a role that is found is the lowest on a loop
  pub lowest-loop : (r : ℕ) → lowest_on_loop p ≡ some r → LowestOnLoop p r
  unfolding lowest_on_loop
  lowest-loop r e =
      let x = lowest (λ a. has (get_or (below_table p) a 0) a) 0 p.head.roles in
      let w = lowest_is (λ a. has (get_or (below_table p) a 0) a) 0 p.head.roles in
      let (l, q) = is_below p.head.roles x r e in
      subst (LowestOnLoop p) q (record {
        loop = (below_is p range x x).0 (w.passes (omega arith));
        lowest = λ a k b. not_both (has (get_or (below_table p) a 0) a) ((below_is p range a a).1 b) (w.before a zero-le k);
      })

  -- where none is found none is on a loop
  no_loop : lowest_on_loop p ≡ none → Loopless p
  unfolding lowest_on_loop
  no_loop e a b =
      let x = lowest (λ i. has (get_or (below_table p) i 0) i) 0 p.head.roles in
      let k = (below p range a b.junior b.word).0 in
      let f = (lowest_found (λ i. has (get_or (below_table p) i 0) i) 0 p.head.roles a zero-le (omega arith) ((below_is p range a a).1 b)).1 in
      omega (arith, is_beyond p.head.roles x e)

  -- so one is found, or none is there
  pub some_or_none : ((r : ℕ) × (lowest_on_loop p ≡ some r) × LowestOnLoop p r) ⊎ ((lowest_on_loop p ≡ none) × Loopless p)
  some_or_none = go (lowest_on_loop p) refl
    where
      go : (o : Option ℕ) → lowest_on_loop p ≡ o → ((r : ℕ) × (lowest_on_loop p ≡ some r) × LowestOnLoop p r) ⊎ ((lowest_on_loop p ≡ none) × Loopless p)
      go (some r) e = inl (r, e, lowest-loop r e)
      go none e = inr (e, no_loop e)

  -- a user who is found is the lowest with more than 16 roles
  lowest_reach : (u : ℕ) → lowest_over_reach p ≡ some u → LowestOverReach p u
  unfolding lowest_over_reach
  lowest_reach u e =
      let x = lowest (λ v. ltb 16 (count 64 (authorized p v))) 0 p.head.users in
      let w = lowest_is (λ v. ltb 16 (count 64 (authorized p v))) 0 p.head.users in
      let (l, q) = is_below p.head.users x u e in
      subst (LowestOverReach p) q (record {
        wide = λ f. let k = ltb-true 16 (count 64 (authorized p x)) (w.passes (omega arith)) in omega arith;
        lowest = λ v k. ltb-false 16 (count 64 (authorized p v)) (w.before v zero-le k);
      })

  -- where none is found nobody has
  no_reach : lowest_over_reach p ≡ none → (u : ℕ) → FewRoles p u
  unfolding lowest_over_reach
  no_reach e u =
      let x = lowest (λ v. ltb 16 (count 64 (authorized p v))) 0 p.head.users in
      let w = lowest_is (λ v. ltb 16 (count 64 (authorized p v))) 0 p.head.users in
      let n = is_beyond p.head.users x e in
      elim (dec_lt u p.head.users) [
        | yes l ↦ ltb-false 16 (count 64 (authorized p u)) (w.before u zero-le (omega arith))
        | no l ↦ no_user p range u l
      ]

-- ---- how an image is judged: one of four
pub data Verdict (s : List ℕ) : Type 0 where
  words : (n place : ℕ) → OneTo 8 n → judge_words s ≡ Refused n place → judge s ≡ Refused n place → Verdict s
  loops : (h : Head) (r : ℕ) → judge_words s ≡ Accepted h → LowestOnLoop (policy_of s) r → judge s ≡ Refused 22 r → Verdict s
  reaches : (h : Head) (u : ℕ) → judge_words s ≡ Accepted h → Loopless (policy_of s) → LowestOverReach (policy_of s) u → judge s ≡ Refused 23 u
      → Verdict s
  passes : (h : Head) → judge_words s ≡ Accepted h → Loopless (policy_of s) → ((u : ℕ) → FewRoles (policy_of s) u) → judge s ≡ Accepted h → Verdict s

module _ (s : List ℕ) where
  -- by its meaning, where its words pass
  by_meaning : (h : Head) → judge_words s ≡ Accepted h → Verdict s
  unfolding judge judge_meaning refusing
  by_meaning h e = go (some_or_none p range) (lowest_over_reach p) refl
    where
      p : Policy
      p = policy_of s

      range : InRange p
      range = words_in_range s h e

      on : judge s ≡ refusing 22 (lowest_on_loop p) (refusing 23 (lowest_over_reach p) (Accepted h))
      on = ap (judge_meaning p) e

      go : ((r : ℕ) × (lowest_on_loop p ≡ some r) × LowestOnLoop p r) ⊎ ((lowest_on_loop p ≡ none) × Loopless p)
          → (o : Option ℕ) → lowest_over_reach p ≡ o → Verdict s
      go (inl (r, l, w)) o k = loops h r e w (on ∙ ap (λ (x : Option ℕ). refusing 22 x (refusing 23 (lowest_over_reach p) (Accepted h))) l)
      go (inr (l, n)) (some u) k =
          reaches h u e n (lowest_reach p range u k) (on ∙ ap₂ (λ (x y : Option ℕ). refusing 22 x (refusing 23 y (Accepted h))) l k)
      go (inr (l, n)) none k = passes h e n (no_reach p range k) (on ∙ ap₂ (λ (x y : Option ℕ). refusing 22 x (refusing 23 y (Accepted h))) l k)

  pub verdict : Verdict s
  unfolding judge judge_meaning
  verdict = go (judge_words s) refl
    where
      go : (v : Checked) → judge_words s ≡ v → Verdict s
      go (Refused n place) e = words n place (subst (Numbered 8) e (words-numbered s)) e (ap (judge_meaning (policy_of s)) e)
      go (Accepted h) e = by_meaning h e

  -- a refusal has one of the numbers from 1 to 23
  pub judge-numbered : Numbered 23 (judge s)
  judge-numbered = go verdict
    where
      go : Verdict s → Numbered 23 (judge s)
      go (words n place k e t) = rw t (omega arith, omega arith)
      go (loops h r e w t) = rw t (omega arith, omega arith)
      go (reaches h u e n w t) = rw t (omega arith, omega arith)
      go (passes h e n f t) = rw t tt

  -- and none has the number 20
  pub never_twenty : (n place : ℕ) → judge s ≡ Refused n place → ¬ (n ≡ 20)
  never_twenty n place q z = go verdict
    where
      go : Verdict s → ⊥
      go (words i at k e t) = let w : i ≡ n = cc in omega arith
      go (loops h r e w t) = let w : 22 ≡ n = cc in omega arith
      go (reaches h u e i w t) = let w : 23 ≡ n = cc in omega arith
      go (passes h e i f t) = let w : ◌≡◌ {A = ℕ} 0 1 = cc in omega arith

  -- what each answer tells
  by_loop : (r : ℕ) → judge s ≡ Refused 22 r → Verdict s → WordsPass s × LowestOnLoop (policy_of s) r
  by_loop r q (words n place k e t) = let z : n ≡ 22 = cc in absurd (omega arith)
  by_loop r q (loops h a e w t) = let z : a ≡ r = cc in ((h, e), subst (LowestOnLoop (policy_of s)) z w)
  by_loop r q (reaches h u e n w t) = let z : ◌≡◌ {A = ℕ} 23 22 = cc in absurd (omega arith)
  by_loop r q (passes h e n f t) = let z : ◌≡◌ {A = ℕ} 0 1 = cc in absurd (omega arith)

  by_reach : (u : ℕ) → judge s ≡ Refused 23 u → Verdict s → WordsPass s × Loopless (policy_of s) × LowestOverReach (policy_of s) u
  by_reach u q (words n place k e t) = let z : n ≡ 23 = cc in absurd (omega arith)
  by_reach u q (loops h a e w t) = let z : ◌≡◌ {A = ℕ} 22 23 = cc in absurd (omega arith)
  by_reach u q (reaches h v e n w t) = let z : v ≡ u = cc in ((h, e), n, subst (LowestOverReach (policy_of s)) z w)
  by_reach u q (passes h e n f t) = let z : ◌≡◌ {A = ℕ} 0 1 = cc in absurd (omega arith)

  by_none : (h : Head) → judge s ≡ Accepted h → Verdict s → (judge_words s ≡ Accepted h) × Loopless (policy_of s) × ((u : ℕ) → FewRoles (policy_of s) u)
  by_none h q (words n place k e t) = let z : ◌≡◌ {A = ℕ} 0 1 = cc in absurd (omega arith)
  by_none h q (loops g a e w t) = let z : ◌≡◌ {A = ℕ} 0 1 = cc in absurd (omega arith)
  by_none h q (reaches g u e n w t) = let z : ◌≡◌ {A = ℕ} 0 1 = cc in absurd (omega arith)
  by_none h q (passes g e n f t) = (e ∙ sym t ∙ q, n, f)

  -- and what is so leads to its answer
  loop-by : (r : ℕ) (h : Head) → judge_words s ≡ Accepted h → LowestOnLoop (policy_of s) r → Verdict s → judge s ≡ Refused 22 r
  loop-by r h q w (words n place k e t) = let z : ◌≡◌ {A = ℕ} 0 1 = cc in absurd (omega arith)
  loop-by r h q w (loops g a e v t) = t ∙ ap (Refused 22) (one-loop a r v w)
  loop-by r h q w (reaches g u e n v t) = absurd (n r w.loop)
  loop-by r h q w (passes g e n f t) = absurd (n r w.loop)

  reach_by : (u : ℕ) (h : Head) → judge_words s ≡ Accepted h → Loopless (policy_of s) → LowestOverReach (policy_of s) u → Verdict s
      → judge s ≡ Refused 23 u
  reach_by u h q n w (words m place k e t) = let z : ◌≡◌ {A = ℕ} 0 1 = cc in absurd (omega arith)
  reach_by u h q n w (loops g a e v t) = absurd (n a v.loop)
  reach_by u h q n w (reaches g a e m v t) = t ∙ ap (Refused 23) (one_reach a u v w)
  reach_by u h q n w (passes g e m f t) = absurd (w.wide (f u))

  none_by : (h : Head) → judge_words s ≡ Accepted h → Loopless (policy_of s) → ((u : ℕ) → FewRoles (policy_of s) u) → Verdict s
      → judge s ≡ Accepted h
  none_by h q n f (words m place k e t) = let z : ◌≡◌ {A = ℕ} 0 1 = cc in absurd (omega arith)
  none_by h q n f (loops g a e v t) = absurd (n a v.loop)
  none_by h q n f (reaches g u e m v t) = absurd (v.wide (f u))
  none_by h q n f (passes g e m k t) = t ∙ sym e ∙ q

  -- 22, 23 and 0 exactly then
  pub judge_is : JudgeIs s
  judge_is =
      record {
        by_loop = λ r. (λ q. by_loop r q verdict, λ ((h, e), w). loop-by r h e w verdict);
        by_reach = λ u. (λ q. by_reach u q verdict, λ ((h, e), n, w). reach_by u h e n w verdict);
        accepted = λ h. (λ q. by_none h q verdict, λ (e, n, f). none_by h e n f verdict);
      }

-- ---- an accepted image
module _ (s : List ℕ) (h : Head) (accepted : judge s ≡ Accepted h) where
  -- its words pass, no role is on a loop, and nobody has more than 16 roles
  pub words_pass : judge_words s ≡ Accepted h
  words_pass = (((judge_is s).accepted h).0 accepted).0

  pub loopless : Loopless (policy_of s)
  loopless = (((judge_is s).accepted h).0 accepted).1

  pub few_authorized : (u : ℕ) → FewRoles (policy_of s) u
  few_authorized = (((judge_is s).accepted h).0 accepted).2

  -- so its policy has the head's numbers, and is in range
  pub accepted-head : (policy_of s).head ≡ h
  accepted-head = words_head s h words_pass

  pub accepted_in_range : InRange (policy_of s)
  accepted_in_range = words_in_range s h words_pass
