-- Seniority is an order in an accepted policy, and the loop call shows the shortest loop of the lowest role on one.
-- Assumes nothing.
use mathlib.Core.Path.{◌≡◌, refl, sym, ap, ◌∙◌}
use mathlib.Core.Logic.{◌⊎◌, inl, inr}
use mathlib.Core.Bool.{true}
use mathlib.Core.List.{List, []}
use Prim.Native.Nat.{ℕ, suc, ◌-◌, ◌≤◌}
use native.Mathlib.Decide.{dec_lt, ℕ_discrete}
use native.Mathlib.Omega.{arith}
use lib.ListN.{length, replicate, length-append, length-replicate}
use borrow.Author.Tests.{ne_eqb}
use Rattle.model.specs.declared.Head.{Head}
use Rattle.model.specs.declared.Checked.{Checked}
use Rattle.model.specs.declared.Checked.TheVariants.{Accepted, Refused}
use Rattle.model.specs.Sets.{has}
use Rattle.model.specs.Image.{judge_words}
use Rattle.model.specs.Policy.{Policy, policy_of}
use Rattle.model.specs.Session.{Reply, refuse}
use Rattle.model.specs.Judgement.{lowest_on_loop}
use Rattle.model.specs.Loop.{level, loop_length, chain_down, shown_chain, loop_from, loop_on, loop_by, loop_call}
use Rattle.model.specs.Run.{answered}
use Rattle.model.specs.Chains.{roles_of, Below}
use Rattle.model.specs.Ranges.{InRange}
use Rattle.model.specs.Ordered.{WordsPass, Loopless, Antisymmetric, ShortestLoop, Shown, LoopCallIs}
use Rattle.model_laws.proofs.Bools.{not_both}
use Rattle.model_laws.proofs.AnswerProof.{filled_length}
use Rattle.model_laws.proofs.Closure.{join, chain-cases}
use Rattle.model_laws.proofs.LowestLaws.{lowest_is, lowest_found}
use Rattle.model_laws.proofs.Levels.{chain-level, down_length, down_chain, down_at, down_lowest, level-first, loop-level}
use Rattle.model_laws.proofs.Accepted.{words_in_range}
use Rattle.model_laws.proofs.Judgements.{some_or_none}

-- ---- two roles reached from each other are the same, where no role is below itself
pub antisymmetric : (p : Policy) → ((r : ℕ) → ¬ Below p r r) → Antisymmetric p
antisymmetric p n a b c d =
    elim (chain-cases c) [ inl e ↦ e | inr w ↦ absurd (n a (record { junior = w.junior; word = w.word; chain = join w.chain d })) ]

-- ---- the chain of the loop call
module _ (p : Policy) (range : InRange p) (r : ℕ) (loop : Below p r r) where
  -- its length is one at which the role is in its own level, at most 64, and the lowest such
  found : (has (level p.juniors r (loop_length p.juniors r)) r ≡ true)
      × (1 ≤ loop_length p.juniors r) × (loop_length p.juniors r ≤ 64)
  unfolding loop_length
  found =
      let w = loop-level p range r loop in
      let f = lowest_found (λ n. has (level p.juniors r n) r) 1 64 w.0 w.1 (omega (arith, w.2)) w.3 in
      (f.0, (lowest_is (λ n. has (level p.juniors r n) r) 1 64).from, omega (arith, f.1, w.2))

  pub loop-fits : (1 ≤ loop_length p.juniors r) × (loop_length p.juniors r ≤ 64)
  loop-fits = (found.1, found.2)

  first-level : (m : ℕ) → 1 ≤ m → has (level p.juniors r m) r ≡ true → loop_length p.juniors r ≤ m
  unfolding loop_length
  first-level m l e =
      elim (dec_lt m (loop_length p.juniors r)) [
        | yes q ↦ not_both (has (level p.juniors r m) r) e ((lowest_is (λ n. has (level p.juniors r n) r) 1 64).before m l q)
        | no q ↦ omega arith
      ]

  pub shortest_loop : ShortestLoop p r (chain_down p.juniors r r (loop_length p.juniors r))
  shortest_loop =
      let n = loop_length p.juniors r in
      let e = down_length p range r n r in
      let c = down_chain p range r n r found.0 in
      record {
        chain = c.chain;
        roles = c.roles;
        last = λ i l.
            let at = down_at p range r n r found.0 i (omega (arith, e)) in (
              (λ q. elim (dec_lt (suc i) n) [
                | yes m ↦ absurd (omega (arith, first-level (n - suc i) (omega arith) (rw q at at)))
                | no m ↦ omega (arith, e)
              ]),
              (λ q. let z : n - suc i ≡ 0 = omega (arith, e) in level-first p range r _ (rw z at at)),
            );
        shortest = λ q l. omega (arith, e, first-level (length (roles_of q)) l (chain-level p range q));
        lowest = λ q l. rw (l ∙ e) at (down_lowest p range q);
        size = (omega (arith, e, found.1), omega (arith, e, found.2));
      }

-- ---- the call
module _ (s : List ℕ) where
  -- where the words pass
  call_on : (room : ℕ) (h : Head) → judge_words s ≡ Accepted h → loop_call s room ≡ loop_on (policy_of s) room
  unfolding loop_call loop_by
  call_on room h e = ap (λ (v : Checked). loop_by v (policy_of s) room) e

  -- in a buffer of 64 bytes
  call_from : (h : Head) → judge_words s ≡ Accepted h → loop_call s 64 ≡ loop_from (policy_of s) (lowest_on_loop (policy_of s))
  unfolding loop_on
  call_from h e = call_on 64 h e

  -- a loop is shown, or there is none
  pub shown_or_none : (h : Head) → judge_words s ≡ Accepted h → Shown s ⊎ ((loop_call s 64 ≡ refuse 20 0) × Loopless (policy_of s))
  unfolding loop_from shown_chain
  shown_or_none h e =
      let p = policy_of s in
      let range = words_in_range s h e in
      elim (some_or_none p range) [
        | inl (r, l, w) ↦
            inl (record {
              role = r;
              bytes = chain_down p.juniors r r (loop_length p.juniors r);
              is_lowest = w;
              is_shortest = shortest_loop p range r w.loop;
              answer = call_from h e ∙ ap (loop_from p) l;
            })
        | inr (l, n) ↦ inr (call_from h e ∙ ap (loop_from p) l, n)
      ]

  -- in another
  wrong_room : WordsPass s → (room : ℕ) → ¬ (room ≡ 64) → loop_call s room ≡ refuse 19 0
  unfolding loop_on
  wrong_room (h, e) room n = call_on room h e ∙ rw (ne_eqb room 64 n, loop_on)

  -- the buffer is left alone, or filled
  call_filled : (room : ℕ) → ((loop_call s room).filled ≡ []) ⊎ (length (loop_call s room).filled ≡ room)
  unfolding loop_call loop_by refuse
  call_filled room = go (judge_words s) refl
    where
      full : (h : Head) → judge_words s ≡ Accepted h → ((loop_call s 64).filled ≡ []) ⊎ (length (loop_call s 64).filled ≡ 64)
      full h e =
          elim (shown_or_none h e) [
            | inl w ↦
                inr
                (ap (λ (x : Reply). length x.filled) w.answer ∙ length-append w.bytes (replicate (64 - length w.bytes) 0)
                ∙ omega (arith, length-replicate {A = ℕ} (64 - length w.bytes) 0, w.is_shortest.size.1))
            | inr n ↦ inl (ap (λ (x : Reply). x.filled) n.0)
          ]

      go : (v : Checked) → judge_words s ≡ v → ((loop_call s room).filled ≡ []) ⊎ (length (loop_call s room).filled ≡ room)
      go (Refused n place) e = inl (ap (λ (v : Checked). (loop_by v (policy_of s) room).filled) e)
      go (Accepted h) e =
          elim (ℕ_discrete room 64) [ yes q ↦ rw q (full h e) | no n ↦ inl (ap (λ (x : Reply). x.filled) (wrong_room (h, e) room n)) ]

  pub loop-call : LoopCallIs s
  unfolding loop_call loop_by loop_on refuse answered
  loop-call =
      let p = policy_of s in
      record {
        by_words = λ n place room e. ap (λ (v : Checked). loop_by v p room) e;
        by_room = wrong_room;
        by_none = λ (h, e). (
          λ q. elim (shown_or_none h e) [
            | inl w ↦ let z = sym q ∙ ap (λ (x : Reply). x.number) w.answer in absurd (omega (arith, z))
            | inr n ↦ n.1
          ],
          λ n. elim (shown_or_none h e) [
            | inl w ↦ absurd (n w.role w.is_lowest.loop)
            | inr m ↦ ap (λ (x : Reply). x.number) m.0
          ],
        );
        keeps_length = λ buffer. filled_length buffer (loop_call s (length buffer)).filled (call_filled (length buffer));
        shows = λ (h, e) r b. elim (shown_or_none h e) [ inl w ↦ w | inr n ↦ absurd (n.1 r b) ];
      }
