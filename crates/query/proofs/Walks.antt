-- A walk through a role set by its members: those that pass a test are kept.
-- Assumes nothing.
use mathlib.Core.Path.{◌≡◌, refl, sym, ap, ◌∙◌}
use mathlib.Core.Bool.{Bool, true, false, ◌&&◌, ◌||◌, or-false}
use Prim.Native.Nat.{ℕ}
use lib.Dec.{eqb}
use borrow.Author.Tests.{eqb-true, eqb-false, ne_eqb}
use Rattle.model.specs.Tests.{pick}
use Rattle.model.specs.Sets.{has, with}
use Rattle.model_laws.proofs.Bools.{not_both}
use Rattle.model_laws.proofs.SetLaws.{has-with, with_new}
use Rattle.model_laws.proofs.UnionLaws.{has_none}
use Rattle.sets.specs.Members.{without}
use Rattle.sets.proofs.Taken.{without_gone, without_other}
use Rattle.query.specs.Carry.{Sub, Keeps}
use Rattle.query.proofs.Members.{fewer_sub}

-- of the set s the members of left are still to come, and found has those before them that pass
pub record Walk (test : ℕ → Bool) (s left found : ℕ) : Type 0 where
  pub inside : Sub left s
  pub come : (i : ℕ) → has left i ≡ true → has found i ≡ false
  pub gone : (i : ℕ) → has left i ≡ false → has found i ≡ (has s i && test i)

module _ (test : ℕ → Bool) (s : ℕ) where
  pub walk_starts : Walk test s s 0
  walk_starts = record { inside = λ i m. m; come = λ i m. has_none i; gone = λ i m. has_none i ∙ rw m }

  pub walk_ends : (left found : ℕ) → left ≡ 0 → Walk test s left found → Keeps test s found
  walk_ends left found e w i = w.gone i (ap (λ (x : ℕ). has x i) e ∙ has_none i)

  module _ (left found r : ℕ) (m : has left r ≡ true) (w : Walk test s left found) where
    -- the role r joins found where it passes
    joined : ℕ
    joined = pick (test r) (with found r) found

    other : (i : ℕ) → (i ≡ r → ⊥) → has (pick (test r) (with found r) found) i ≡ has found i
    unfolding pick
    other i n = go (test r)
      where
        go : (b : Bool) → has (pick b (with found r) found) i ≡ has found i
        go true = has-with found r i ∙ ap (λ (x : Bool). has found i || x) (ne_eqb i r n) ∙ or-false (has found i)
        go false = refl

    itself : has (pick (test r) (with found r) found) r ≡ test r
    unfolding pick
    itself = go (test r)
      where
        go : (b : Bool) → has (pick b (with found r) found) r ≡ b
        go true = with_new found r
        go false = w.come r m

    pub walk-next : Walk test s (without left r) (pick (test r) (with found r) found)
    walk-next =
        record {
          inside = λ i n. w.inside i (fewer_sub left r m i n);
          come = λ i n. other i (apart i n) ∙ w.come i (fewer_sub left r m i n);
          gone = λ i n. go i n (eqb i r) refl;
        }
      where
        apart : (i : ℕ) → has (without left r) i ≡ true → i ≡ r → ⊥
        apart i n e = not_both (has (without left r) r) (ap (has (without left r)) (sym e) ∙ n) (without_gone left r m)

        go : (i : ℕ) → has (without left r) i ≡ false → (b : Bool) → eqb i r ≡ b → has (pick (test r) (with found r) found) i ≡ (has s i && test i)
        go i n true e =
            let q : i ≡ r = eqb-true i r e in
            ap (has (pick (test r) (with found r) found)) q ∙ itself ∙ sym (rw (q, w.inside r m))
        go i n false e =
            let q = eqb-false i r e in
            other i q ∙ w.gone i (sym (without_other left r i m q) ∙ n)
