-- The turns of the loops that fill the levels of a role and write its chain.
-- Assumes nothing.
use mathlib.Core.Path.{◌≡◌, sym, ap, ap₂, subst, ◌∙◌}
use mathlib.Core.Bool.{Bool, true, false}
use mathlib.Core.Logic.{inl, inr}
use mathlib.Core.List.{List, [], ◌∷◌, ◌++◌, append_assoc, append-nil}
use Prim.Native.Nat.{ℕ, zero, suc, ◌+◌, ◌-◌, ◌^◌, ◌≤◌, ◌<◌}
use native.Mathlib.Nat.{le_antisymm, eq-zero-or-pos}
use native.Mathlib.Decide.{dec_le}
use native.Mathlib.Omega.{arith}
use native.Mathlib.Numerals.{add-one}
use lib.Bits.{or_zero_l, or_zero_r}
use lib.ListN.{length, get_or, set, take, drop, replicate, length-set}
use lib.Seq.{take-suc-set}
use Rattle.std.proofs.Common.{Some}
use Rattle.std.proofs.lemmas.List.{length-take-le, take_all, drop-replicate}
use Rattle.model.specs.Tests.{pick, lowest}
use Rattle.model.specs.Sets.{has, union, inter, with, meets, set_of}
use Rattle.model.specs.Loop.{seniors_of, level, chain_down}
use Rattle.model_laws.proofs.Bools.{not_both}
use Rattle.model_laws.proofs.LowestLaws.{lowest_is, lowest_found, set_of-has, meets-has}
use Rattle.model_laws.proofs.SetLaws.{inter_both, inter-parts}
use Rattle.model_laws.proofs.UnionLaws.{has_none}
use Rattle.sets.specs.Members.{Lowest}
use Rattle.sets.proofs.Taken.{lowest_least}
use Rattle.hierarchy.proofs.Filling.{stored_next}
use Rattle.hierarchy_loop.specs.Chained.{Levels}

-- ---- levels

-- a set made by a test is made by that of the first n, where those from n on fail it
pub set_of_rest : (f : ℕ → Bool) (n m : ℕ) → n ≤ m → ((a : ℕ) → n ≤ a → f a ≡ false) → set_of f m ≡ set_of f n
unfolding set_of pick
set_of_rest f n zero l h = let z : n ≡ 0 = omega arith in ap (set_of f) (sym z)
set_of_rest f n (suc m) l h =
    elim (dec_le n m) [
      | yes q ↦ ap (λ (b : Bool). union (set_of f m) (pick b (2 ^ m) 0)) (h m q) ∙ or_zero_r (set_of f m) ∙ set_of_rest f n m q h
      | no q ↦ let z : n ≡ suc m = omega arith in ap (set_of f) (sym z)
    ]

pub level_none : (juniors : List ℕ) (r : ℕ) → with 0 r ≡ level juniors r 0
unfolding level
level_none juniors r = or_zero_l (2 ^ r)

pub level-next : (juniors : List ℕ) (r k here next : ℕ) → here ≡ level juniors r k → next ≡ seniors_of juniors here → next ≡ level juniors r (k + 1)
unfolding level
level-next juniors r k here next e q = q ∙ ap (seniors_of juniors) e ∙ ap (level juniors r) (sym (add-one k))

module _ (juniors : List ℕ) (r : ℕ) (rows : List ℕ) where
  -- one level more is stored
  pub levels_next : (n here : ℕ) → n < length rows → here ≡ level juniors r n → Levels juniors r n rows → Levels juniors r (n + 1) (set rows n here)
  levels_next n here h e ls = stored_next (level juniors r) n here rows h e ls

  pub levels_found : (n here : ℕ) → n < length rows → here ≡ level juniors r n → Levels juniors r n rows → (m : ℕ) → Some (n + 1) ≡ Some m
      → Levels juniors r m (set rows n here)
  levels_found n here h e ls m q =
      let z : n + 1 ≡ m = cc in subst (λ (k : ℕ). Levels juniors r k (set rows n here)) z (levels_next n here h e ls)

-- ---- the chain

-- so many bytes of the chain are written, role a is the last, and a chain leads on from it
pub record Down (juniors : List ℕ) (r n i a : ℕ) (bytes : List ℕ) : Type 0 where
  pub role : a < 64
  pub size : length bytes ≡ n
  pub front : take i bytes ++ chain_down juniors r a (n - i) ≡ chain_down juniors r r n
  pub leads : has (level juniors r (n - i)) a ≡ true

module _ (juniors : List ℕ) (r n : ℕ) where
  pub down_none : (bytes : List ℕ) → r < 64 → n ≤ length bytes → has (level juniors r n) r ≡ true → Down juniors r n 0 r (take n bytes)
  down_none bytes l m e =
      let z : n - 0 ≡ n = omega arith in
      record {
        role = l;
        size = length-take-le n bytes m;
        front = ap (chain_down juniors r r) z;
        leads = ap (λ (k : ℕ). has (level juniors r k) r) z ∙ e;
      }

  pub below_all : (i a : ℕ) (bytes : List ℕ) {k : ℕ} → Down juniors r n i a bytes → length bytes ≡ k → i < k → i < n
  below_all i a bytes d e l = omega (arith, d.size)

  module _ (i a : ℕ) (bytes : List ℕ) (row : ℕ) (l : i < n) (el : row ≡ level juniors r (n - 1 - i)) (d : Down juniors r n i a bytes) where
    -- the level that leads on has a junior of role a
    pub down_some : 0 < inter (get_or juniors a 0) row
    unfolding level seniors_of
    down_some =
        let z : n - i ≡ suc (n - 1 - i) = omega arith in
        let m : has (seniors_of juniors (level juniors r (n - 1 - i))) a ≡ true = ap (λ (k : ℕ). has (level juniors r k) a) (sym z) ∙ d.leads in
        let q = (set_of-has (λ b. meets (get_or juniors b 0) (level juniors r (n - 1 - i))) 64 a m).0 in
        let w = meets-has (get_or juniors a 0) (level juniors r (n - 1 - i)) q in
        pos (inter (get_or juniors a 0) row) w.0 (inter_both (get_or juniors a 0) row w.0 w.1 (ap (λ (x : ℕ). has x w.0) el ∙ w.2))
      where
        pos : (s k : ℕ) → has s k ≡ true → 0 < s
        pos s k h = elim (eq-zero-or-pos s) [ inl e ↦ not_both (has s k) h (ap (λ (x : ℕ). has x k) e ∙ has_none k) | inr p ↦ p ]

    module _ (b : ℕ) (low : Lowest (inter (get_or juniors a 0) row) b) where
      lowest-is : b ≡ lowest (has (inter (get_or juniors a 0) row)) 0 64
      lowest-is =
          let w = lowest_is (has (inter (get_or juniors a 0) row)) 0 64 in
          let least = lowest_found (has (inter (get_or juniors a 0) row)) 0 64 b (omega arith) low.small low.member in
          le_antisymm (lowest_least _ b _ low least.0) least.1

      pub down_next : Down juniors r n (i + 1) b (set bytes i b)
      unfolding chain_down
      down_next =
          record {
            role = low.small;
            size = simp length-set d.size;
            front =
                ap (λ (k : ℕ). take k (set bytes i b) ++ chain_down juniors r b (n - (i + 1))) (add-one i)
                ∙ ap (λ (t : List ℕ). t ++ chain_down juniors r b (n - (i + 1))) (take-suc-set bytes i b (omega (arith, d.size)))
                ∙ append_assoc (take i bytes) (b ∷ []) (chain_down juniors r b (n - (i + 1)))
                ∙ ap (λ (t : List ℕ). take i bytes ++ t) turn
                ∙ d.front;
            leads =
                let y : n - (i + 1) ≡ n - 1 - i = omega arith in
                ap (λ (k : ℕ). has (level juniors r k) b) y ∙ ap (λ (x : ℕ). has x b) (sym el) ∙ (inter-parts _ _ b low.member).1;
          }
        where
          turn : b ∷ chain_down juniors r b (n - (i + 1)) ≡ chain_down juniors r a (n - i)
          turn =
              let z : n - i ≡ suc (n - 1 - i) = omega arith in
              let y : n - (i + 1) ≡ n - 1 - i = omega arith in
              let w = lowest-is ∙ ap (λ (x : ℕ). lowest (has (inter (get_or juniors a 0) x)) 0 64) el in
              ap₂ (λ (x k : ℕ). x ∷ chain_down juniors r x k) w y ∙ ap (chain_down juniors r a) (sym z)

  pub down_end : (i a : ℕ) (bytes tail : List ℕ) → n ≤ i → Down juniors r n i a bytes → tail ≡ drop n (replicate 64 0)
      → bytes ++ tail ≡ chain_down juniors r r n ++ replicate (64 - n) 0
  unfolding chain_down
  down_end i a bytes tail m d e =
      let z : n - i ≡ 0 = omega arith in
      let whole : bytes ≡ chain_down juniors r r n =
      sym (take_all i bytes (omega (arith, d.size))) ∙ sym (append-nil (take i bytes))
      ∙ ap (λ (k : ℕ). take i bytes ++ chain_down juniors r a k) (sym z) ∙ d.front in
      ap₂ ◌++◌ whole (e ∙ drop-replicate n 64 0)
