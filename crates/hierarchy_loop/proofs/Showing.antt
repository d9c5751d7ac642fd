-- The loop call under a policy in range, a law for each way that it goes.
-- Assumes nothing.
use mathlib.Core.Path.{◌≡◌, refl, sym, ap, subst, ◌∙◌}
use mathlib.Core.Bool.{Bool, true, false}
use mathlib.Core.Option.{Option, none, some}
use mathlib.Core.List.{List, ◌++◌}
use Prim.Native.Nat.{ℕ, ◌-◌, ◌*◌, ◌≤◌, ◌<◌}
use native.Mathlib.Omega.{arith}
use lib.ListN.{length, get_or, replicate, length-append}
use borrow.Author.Tests.{eq-eqb, ne_eqb}
use Rattle.model.specs.Tests.{if_below}
use Rattle.model.specs.Sets.{has}
use Rattle.model.specs.Policy.{Policy, closure_by}
use Rattle.model.specs.Session.{refuse}
use Rattle.model.specs.Judgement.{lowest_on_loop}
use Rattle.model.specs.Loop.{level, loop_length, chain_down, shown_chain, loop_from, loop_on}
use Rattle.model.specs.Run.{returned, filled_with, answered}
use Rattle.model.specs.Ranges.{InRange}
use Rattle.model_laws.proofs.LowestLaws.{lowest_is, is_below, is_beyond}
use Rattle.model_laws.proofs.AnyWidth.{no_members}
use Rattle.model_laws.proofs.Judgements.{lowest-loop}
use Rattle.model_laws.proofs.Levels.{down_length}
use Rattle.model_laws.proofs.OrderedProof.{loop-fits}
use Rattle.reasons.specs.Numbers.{in_64_bits}
use Rattle.hierarchy.specs.Upper.{EmptyFrom}
use Rattle.hierarchy.specs.Replies.{Replies}
use Rattle.hierarchy.proofs.Filling.{filled_whole}
use Rattle.hierarchy_judged.proofs.Judging.{on_loop, on_loop_lem}
use Rattle.hierarchy_loop.specs.Chained.{Ranged}

-- the rows of no role are empty
pub empty_above : {juniors : List ℕ} {roles : ℕ} → Ranged juniors roles → EmptyFrom roles juniors
empty_above q = λ r l.
    no_members _
    (λ k e. let h = (q.range.juniors r k (ap (λ (x : List ℕ). has (get_or x r 0) k) (sym q.juniors_are) ∙ e)).0 in omega (arith, h, q.roles_are))

-- ---- by the length of the buffer
module _ (p : Policy) (room : List ℕ) where
  -- 19
  pub shows_19 : ¬ (length room ≡ 64) → Replies (loop_on p (length room)) 19 room room
  unfolding loop_on returned answered filled_with refuse
  shows_19 n =
      let e : loop_on p (length room) ≡ refuse 19 0 =
      ap (λ (b : Bool). elim b [ true ↦ loop_from p (lowest_on_loop p) | false ↦ refuse 19 0 ]) (ne_eqb (length room) 64 n) in
      record { number = sym (ap returned e); bytes = sym (ap (answered room) e) }

  loop-on : length room ≡ 64 → loop_on p (length room) ≡ loop_from p (lowest_on_loop p)
  unfolding loop_on
  loop-on e = ap (λ (b : Bool). elim b [ true ↦ loop_from p (lowest_on_loop p) | false ↦ refuse 19 0 ]) (eq-eqb (length room) 64 e)

  -- ---- by the lowest role on a loop
  module _ (roles : ℕ) (x : Option ℕ) (juniors below : List ℕ) (size : length room ≡ 64) (ej : juniors ≡ p.juniors) (en : p.head.roles ≡ roles)
      (eb : below ≡ closure_by roles juniors) (ex : x ≡ if_below roles (on_loop below roles)) where
    found : x ≡ lowest_on_loop p
    found =
        let k = on_loop_lem p p.head juniors below refl ej (eb ∙ ap (λ (n : ℕ). closure_by n juniors) (sym en)) in
        ex ∙ ap (λ (n : ℕ). if_below n (on_loop below n)) (sym en) ∙ k

    reply : loop_on p (length room) ≡ loop_from p x
    reply = loop-on size ∙ ap (loop_from p) (sym found)

    -- 20
    pub shows_20 : x ≡ none → Replies (loop_on p (length room)) 20 room room
    unfolding loop_from returned answered filled_with refuse
    shows_20 q =
        let e : loop_on p (length room) ≡ refuse 20 0 = reply ∙ ap (loop_from p) q in
        record { number = sym (ap returned e); bytes = sym (ap (answered room) e) }

    module _ (range : InRange p) (r : ℕ) (er : x ≡ some r) where
      -- the chain of a policy in range fits
      pub chain_fits : (1 ≤ loop_length juniors r) × (loop_length juniors r ≤ 64)
      chain_fits =
          subst (λ (n : ℕ). (1 ≤ n) × (n ≤ 64)) (ap (λ (j : List ℕ). loop_length j r) (sym ej))
          (loop-fits p range r (lowest-loop p range r (sym found ∙ er)).loop)

      -- so the role is in a level
      pub levels_found : ¬ (none ≡ if_below 65 (loop_length juniors r))
      levels_found e = let l = is_beyond 65 (loop_length juniors r) (sym e) in omega (arith, chain_fits.1)

      -- and the chain is shown
      pub shows-chain : (n : ℕ) (bytes : List ℕ) → some n ≡ if_below 65 (loop_length juniors r)
          → bytes ≡ chain_down juniors r r n ++ replicate (64 - n) 0 → Replies (loop_on p (length room)) (in_64_bits (256 * n)) room bytes
      unfolding loop_from returned answered shown_chain
      shows-chain n bytes e w =
          let q : loop_length juniors r ≡ n = (is_below 65 (loop_length juniors r) n (sym e)).1 in
          let bs : List ℕ = chain_down juniors r r n in
          let d : length bs ≡ n = ap (λ (j : List ℕ). length (chain_down j r r n)) ej ∙ down_length p range r n r in
          let f : loop_on p (length room) ≡ shown_chain bs =
          reply ∙ ap (loop_from p) er
          ∙ ap (λ (j : List ℕ). shown_chain (chain_down j r r (loop_length j r))) (sym ej)
          ∙ ap (λ (k : ℕ). shown_chain (chain_down juniors r r k)) q in
          let z : bytes ≡ bs ++ replicate (64 - length bs) 0 = w ∙ ap (λ (k : ℕ). bs ++ replicate (64 - k) 0) (sym d) in
          let some = length-append bs (replicate (64 - length bs) 0) in
          record {
            number = omega (arith, d, q, chain_fits.1) ∙ sym (ap returned f);
            bytes =
                z
                ∙ filled_whole room (bs ++ replicate (64 - length bs) 0) (omega (arith, some, d, q, chain_fits.0))
                ∙ sym (ap (answered room) f);
          }

-- the role is in the level of its shortest loop
pub level_reached : (juniors : List ℕ) (r n : ℕ) → some n ≡ if_below 65 (loop_length juniors r) → (n ≤ 64) × (has (level juniors r n) r ≡ true)
unfolding loop_length
level_reached juniors r n e =
    let b = is_below 65 (loop_length juniors r) n (sym e) in
    let w = lowest_is (λ k. has (level juniors r k) r) 1 64 in
    (omega (arith, b.0, b.1), subst (λ (k : ℕ). has (level juniors r k) r ≡ true) b.1 (w.passes b.0))

-- a role that is found among so many is one of 64
pub role_small : (r roles k : ℕ) → some r ≡ if_below roles k → roles ≤ 64 → r < 64
role_small r roles k e l = let b = is_below roles k r (sym e) in omega (arith, b.0, b.1)
