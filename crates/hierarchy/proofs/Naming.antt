-- The lowest role that two sets have in common is the granting role.
-- Assumes nothing.
use mathlib.Core.Path.{◌≡◌, sym, ap, ◌∙◌}
use mathlib.Core.List.{List}
use mathlib.Core.Option.{none, some}
use Prim.Native.Nat.{ℕ, ◌≤◌, ◌<◌}
use native.Mathlib.Omega.{arith}
use lib.ListN.{get_or}
use Rattle.model.specs.Sets.{has, inter, with, lowest_in}
use Rattle.model.specs.Policy.{with_selves, granter_by}
use Rattle.model_laws.proofs.Bools.{and_l, and_r, both, not_both}
use Rattle.model_laws.proofs.SetLaws.{has-inter}
use Rattle.model_laws.proofs.UnionLaws.{has_none}
use Rattle.model_laws.proofs.LowestLaws.{lowest_some, lowest-named, unnamed_none}
use Rattle.model_laws.proofs.Closure.{get_d_table_of}
use Rattle.sets.specs.Members.{Lowest}
use Rattle.sets.proofs.Taken.{lowest_least}

-- row r with the role r
pub selves_at : (rows : List ℕ) (r : ℕ) → r < 64 → get_or (with_selves rows) r 0 ≡ with (get_or rows r 0) r
unfolding with_selves
selves_at rows r l = get_d_table_of 64 (λ a. with (get_or rows a 0) a) r l

module _ (reached : List ℕ) (holding r common : ℕ) (e : common ≡ inter (get_or reached r 0) holding) where
  s : ℕ
  s = get_or reached r 0

  shared : (g : ℕ) → has common g ≡ has (inter (get_or reached r 0) holding) g
  shared g = ap (λ (x : ℕ). has x g) e

  pub granter_by_lem : (g : ℕ) → Lowest common g → some g ≡ granter_by reached (has holding) r
  unfolding granter_by s
  granter_by_lem g l =
      let m = sym (has-inter s holding g) ∙ sym (shared g) ∙ l.member in
      sym
      ((lowest_some (has holding) s g).1
      (record {
        small = l.small;
        member = and_l (has s g) (has holding g) m;
        passes = and_r (has s g) (has holding g) m;
        least = λ j c i q. let h : g ≤ j = lowest_least common g j l (shared j ∙ has-inter s holding j ∙ both (has s j) (has holding j) i q) in omega arith;
      }))

  pub granter-nobody : common ≡ 0 → none ≡ granter_by reached (has holding) r
  unfolding granter_by s
  granter-nobody z =
      sym
      (unnamed_none (lowest_in (has holding) s)
      (λ q. let n = lowest-named (has holding) s q in
      let w = (lowest_some (has holding) s n.0).0 n.1 in
      not_both (has common n.0) (shared n.0 ∙ has-inter s holding n.0 ∙ both (has s n.0) (has holding n.0) w.member w.passes)
      (ap (λ (x : ℕ). has x n.0) z ∙ has_none n.0)))
