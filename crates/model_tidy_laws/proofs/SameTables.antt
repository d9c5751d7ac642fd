-- Two images, accepted or not, whose words name the same bits have the same tables.
-- Assumes nothing.
use mathlib.Core.Path.{◌≡◌, refl, sym, ◌∙◌, subst}
use mathlib.Core.Logic.{◌↔◌}
use mathlib.Core.Bool.{true}
use mathlib.Core.List.{List, [], ◌∷◌, map, Memᴰ}
use Prim.Native.Nat.{ℕ, ◌/◌, ◌^◌, ◌<◌}
use native.Mathlib.Nat.{mod-lt}
use lib.Pow.{pow_pos}
use lib.ListN.{length, get_or}
use lib.Seq.{ext_get_or}
use Rattle.model.specs.declared.Exclusion.{Exclusion}
use Rattle.model.specs.declared.Entry.{Entry}
use Rattle.model.specs.declared.Entry.TheVariants.{Assignment, Grant, Senior}
use Rattle.model.specs.Sets.{has}
use Rattle.model.specs.Image.{user, role, permission, field, assigning, empty_rows}
use Rattle.model.specs.Policy.{granting, ordering, fold, entries_of, policy_of, excludes}
use Rattle.model.specs.Ranges.{RowsBelow}
use Rattle.model_tidy.specs.Groups.{entry_of, words_behind}
use Rattle.model_tidy.specs.Same.{SamePolicy}
use Rattle.model_laws.proofs.Bools.{bool_ext}
use Rattle.model_laws.proofs.SetLaws.{same_members}
use Rattle.model_laws.proofs.TableLaws.{get_d_filled, put_below}
use Rattle.model_laws.proofs.Tables.{assigning-length, granting-length, ordering-length, decoded, read_off}
use Rattle.model_tidy_laws.proofs.AcceptableProof.{entries_behind_lem}

-- ---- a table has 64 rows
fold_size : (step : List ℕ → Entry → List ℕ) → ((rows : List ℕ) (e : Entry) → length (step rows e) ≡ length rows)
    → (es : List Entry) (rows : List ℕ) → length (fold step rows es) ≡ length rows
unfolding fold
fold_size step size [] rows = refl
fold_size step size (e ∷ es) rows = fold_size step size es (step rows e) ∙ size rows e

-- ---- each row is a set of numbers that a field can hold: roles below 64, permissions below 256
assigning_below : (w : ℕ) (rows : List ℕ) → RowsBelow 64 rows → RowsBelow 64 (assigning rows (entry_of w))
unfolding assigning
assigning_below w rows b =
    decoded (λ e. RowsBelow 64 (assigning rows e))
    (λ v. (put_below rows (field v 22 6) (field v 16 6) 64 b (mod-lt (v / 2 ^ 16) (pow_pos 6)), b, b, b, b, b, b, b)) w

granting_below : (w : ℕ) (rows : List ℕ) → RowsBelow 256 rows → RowsBelow 256 (granting rows (entry_of w))
unfolding granting
granting_below w rows b =
    decoded (λ e. RowsBelow 256 (granting rows e))
    (λ v. (b, put_below rows (field v 22 6) (field v 14 8) 256 b (mod-lt (v / 2 ^ 14) (pow_pos 8)), b, b, b, b, b, b)) w

ordering_below : (w : ℕ) (rows : List ℕ) → RowsBelow 64 rows → RowsBelow 64 (ordering rows (entry_of w))
unfolding ordering
ordering_below w rows b =
    decoded (λ e. RowsBelow 64 (ordering rows e))
    (λ v. (b, b, put_below rows (field v 22 6) (field v 16 6) 64 b (mod-lt (v / 2 ^ 16) (pow_pos 6)), b, b, b, b, b)) w

fold_below : (n : ℕ) (step : List ℕ → Entry → List ℕ) → ((w : ℕ) (rows : List ℕ) → RowsBelow n rows → RowsBelow n (step rows (entry_of w)))
    → (ws : List ℕ) (rows : List ℕ) → RowsBelow n rows → RowsBelow n (fold step rows (map entry_of ws))
unfolding fold
fold_below n step f [] rows b = b
fold_below n step f (w ∷ ws) rows b = fold_below n step f ws (step rows (entry_of w)) (f w rows b)

empty_below : (n : ℕ) → RowsBelow n empty_rows
unfolding empty_rows
empty_below n i = subst (λ (s : ℕ). s < 2 ^ n) (sym (get_d_filled 0 64 i)) (pow_pos n)

-- ---- tables whose bits are the same, from a step that takes in entries
module _ (n : ℕ) (step : List ℕ → Entry → List ℕ) (size : (rows : List ℕ) (e : Entry) → length (step rows e) ≡ length rows)
    (below : (w : ℕ) (rows : List ℕ) → RowsBelow n rows → RowsBelow n (step rows (entry_of w))) where
  rows-below : (s : List ℕ) → RowsBelow n (fold step empty_rows (entries_of s))
  rows-below s =
      subst (λ (es : List Entry). RowsBelow n (fold step empty_rows es)) (sym (entries_behind_lem s))
      (fold_below n step below (words_behind s) empty_rows (empty_below n))

  table_same : (s t : List ℕ)
      → ((i j : ℕ) → (has (get_or (fold step empty_rows (entries_of s)) i 0) j ≡ true) ↔ (has (get_or (fold step empty_rows (entries_of t)) i 0) j ≡ true))
      → fold step empty_rows (entries_of s) ≡ fold step empty_rows (entries_of t)
  table_same s t e =
      let a = fold step empty_rows (entries_of s) in
      let b = fold step empty_rows (entries_of t) in
      ext_get_or 0 a b (fold_size step size (entries_of s) empty_rows ∙ sym (fold_size step size (entries_of t) empty_rows))
      (λ i l. same_members n (get_or a i 0) (get_or b i 0) (rows-below s i) (rows-below t i)
      (λ j k. bool_ext (has (get_or a i 0) j) (has (get_or b i 0) j) (e i j).0 (e i j).1))

-- ---- the same policy, from the same head, the same entries of each sort and the same exclusions
module _ (s t : List ℕ) where
  pub same_policy : (policy_of s).head ≡ (policy_of t).head
      → ((u r : ℕ) → Memᴰ (Assignment (user u) (role r)) (entries_of s) ↔ Memᴰ (Assignment (user u) (role r)) (entries_of t))
      → ((r p : ℕ) → Memᴰ (Grant (role r) (permission p)) (entries_of s) ↔ Memᴰ (Grant (role r) (permission p)) (entries_of t))
      → ((r q : ℕ) → Memᴰ (Senior (role r) (role q)) (entries_of s) ↔ Memᴰ (Senior (role r) (role q)) (entries_of t))
      → ((x : Exclusion) → excludes (policy_of s) x ≡ excludes (policy_of t) x) → (policy_of s).limits ≡ (policy_of t).limits → SamePolicy (policy_of s)
      (policy_of t)
  unfolding policy_of
  same_policy eh ea eg ej ex el =
      let f = read_off s in
      let g = read_off t in
      record {
        heads = eh;
        assigned =
            table_same 64 assigning assigning-length assigning_below s t
            (λ u r. ((λ q. (g.assigned u r).1 ((ea u r).0 ((f.assigned u r).0 q))), (λ q. (f.assigned u r).1 ((ea u r).1 ((g.assigned u r).0 q)))));
        granted =
            table_same 256 granting granting-length granting_below s t
            (λ u r. ((λ q. (g.granted u r).1 ((eg u r).0 ((f.granted u r).0 q))), (λ q. (f.granted u r).1 ((eg u r).1 ((g.granted u r).0 q)))));
        juniors =
            table_same 64 ordering ordering-length ordering_below s t
            (λ u r. ((λ q. (g.juniors u r).1 ((ej u r).0 ((f.juniors u r).0 q))), (λ q. (f.juniors u r).1 ((ej u r).1 ((g.juniors u r).0 q)))));
        exclusions = ex;
        limits = el;
      }
