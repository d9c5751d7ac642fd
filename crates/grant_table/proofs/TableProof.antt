-- The closed grant table and the turned one say what each role carries.
-- Assumes nothing.
use mathlib.Core.Path.{◌≡◌, sym, ap, ◌∙◌}
use mathlib.Core.Logic.{◌↔◌}
use mathlib.Core.Bool.{Bool, true}
use mathlib.Core.List.{List}
use Prim.Native.Nat.{ℕ, ◌%◌, ◌^◌, ◌≤◌, ◌<◌}
use native.Mathlib.Nat.{zero-add, mod-lt}
use native.Mathlib.Omega.{arith}
use lib.Pow.{are_bytes, pow_pos}
use lib.ListN.{length, get_or, get_or-map}
use Rattle.model.specs.Sets.{has, union_at}
use Rattle.model.specs.Bytes.{number, bytes_of}
use Rattle.model.specs.Policy.{Policy, below_table, reached, carried_table}
use Rattle.model.specs.Chains.{over, grants, Chain, here, step, Carries}
use Rattle.model.specs.Ranges.{InRange}
use Rattle.model_laws.proofs.AnyWidth.{lt-two-pow}
use Rattle.model_laws.proofs.Bools.{bool_ext, not_both}
use Rattle.model_laws.proofs.SetLaws.{has_low, same_members}
use Rattle.model_laws.proofs.UnionLaws.{has_none, union_at_none}
use Rattle.model_laws.proofs.LineLaws.{length-bytes_of}
use Rattle.model_laws.proofs.RoundTrip.{number_bytes}
use Rattle.model_laws.proofs.Closure.{carried_is, carried-named}
use Rattle.grant_table_turned.specs.Turned.{row_at, turned}
use Rattle.grant_table.specs.Table.{grant_table, row_bytes, TableIs}
use Rattle.grant_table_turned.proofs.Rows.{length-joined, line-joined, joined_bytes}
use Rattle.grant_table_turned.proofs.TurnProof.{bytes_of_bytes, turns}
use Rattle.grant_table_turned.proofs.Parts.{bytes_of_low}

module _ (p : Policy) where
  row : ℕ → List ℕ
  row r = bytes_of 32 (get_or (carried_table p) r 0)

  row_size_lem : (r : ℕ) → length (row r) ≡ 32
  unfolding row
  row_size_lem r = length-bytes_of 32 (get_or (carried_table p) r 0)

  pub table_size : length (grant_table p) ≡ 2048
  unfolding grant_table row
  table_size = length-joined row 32 row_size_lem 0 64

  table_bytes : are_bytes (grant_table p) ≡ true
  unfolding grant_table
  table_bytes = joined_bytes (λ r. bytes_of 32 (get_or (carried_table p) r 0)) (λ r. bytes_of_bytes 32 (get_or (carried_table p) r 0)) 0 64

  -- 32 bytes hold the 256 lowest bits
  table_bit : (r k : ℕ) → r < 64 → k < 256 → has (row_at 32 (grant_table p) r) k ≡ has (get_or (carried_table p) r 0) k
  unfolding row_at grant_table row
  table_bit r k h i =
      let v = get_or (carried_table p) r 0 in
      ap (λ (x : List ℕ). has (number x) k) (line-joined row 32 row_size_lem 0 64 r h ∙ ap row (zero-add r) ∙ bytes_of_low 32 v)
      ∙ ap (λ (x : ℕ). has x k) (number_bytes 32 (v % 2 ^ 256) (mod-lt v (pow_pos 256)))
      ∙ has_low v 256 k i

  -- a row that the code makes
  pub row_made : (r : ℕ) → row_bytes p.granted (below_table p) r ≡ bytes_of 32 (get_or (carried_table p) r 0)
  unfolding row_bytes carried_table reached
  row_made r =
      ap (bytes_of 32)
      (sym (get_or-map (union_at p.granted) (reached p) r 0) ∙ ap (λ (d : ℕ). get_or (carried_table p) r d) (union_at_none p.granted))

  -- ---- a role that the policy does not have carries nothing
  module _ (range : InRange p) where
    none_carried : (r k g : ℕ) → p.head.roles ≤ r → Chain p r g → grants p g k ≡ true → ⊥
    unfolding over grants
    none_carried r k g l here e = omega (arith, (range.granted r k e).0)
    none_carried r k g l (step {b = b} e q) f = omega (arith, (range.juniors r b e).0)

    pub row_empty : (r : ℕ) → p.head.roles ≤ r → r < 64 → get_or (carried_table p) r 0 ≡ 0
    row_empty r l h =
        let v = get_or (carried_table p) r 0 in
        same_members v v 0 (lt-two-pow v) (pow_pos v) (λ k i. bool_ext (has v k) (has 0 k)
        (λ e. let c = (carried_is p range r k h).0 e in absurd (none_carried r k c.giver l c.chain c.grant))
        (λ e. not_both (has 0 k) e (has_none k)))

    row_beyond : (r : ℕ) → p.head.roles ≤ r → r < 64 → row_at 32 (grant_table p) r ≡ 0
    unfolding row_at grant_table row
    row_beyond r l h =
        ap number (line-joined row 32 row_size_lem 0 64 r h ∙ ap row (zero-add r) ∙ ap (bytes_of 32) (row_empty r l h)) ∙ number_bytes 32 0 (pow_pos 256)

    -- ---- the claims
    said : (r k : ℕ) {b : Bool} → b ≡ has (get_or (carried_table p) r 0) k → r < 64 → (b ≡ true) ↔ Carries p r k
    said r k e i = let c = carried_is p range r k i in (λ q. c.0 (sym e ∙ q), λ q. e ∙ c.1 q)

    turned_bit : (r k : ℕ) → r < 64 → k < 256 → has (row_at 8 (turned (grant_table p)) k) r ≡ has (get_or (carried_table p) r 0) k
    turned_bit r k i j = (turns 32 8 (grant_table p) table_bytes table_size).bit r k i j ∙ table_bit r k i j

    pub table_is : TableIs p
    table_is =
        record {
          size = table_size;
          table = λ r k i j. said r k (table_bit r k i j) i;
          turned_table = λ r k i j. said r k (turned_bit r k i j) i;
          turned_named = λ r k i j. turned_bit r k i j ∙ carried-named p range r k;
          beyond = row_beyond;
        }
