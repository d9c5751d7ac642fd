-- The roles that carry a permission, by rows; and what is told of a permission that is lacking.
-- Assumes nothing.
use mathlib.Core.Path.{◌≡◌, refl, sym, ap, ap₂, ◌∙◌}
use mathlib.Core.Bool.{Bool, true, false, ◌&&◌}
use mathlib.Core.List.{List}
use mathlib.Core.Option.{Option, some}
use Prim.Native.Nat.{ℕ, ◌^◌, ◌<◌}
use lib.Dec.{lit<}
use lib.ListN.{get_or}
use Rattle.model.specs.Sets.{has, inter, set_of, within}
use Rattle.model.specs.Policy.{Policy, Meaning, below_table, meaning}
use Rattle.model.specs.Obstacle.{carriers_of, fitting, lacks}
use Rattle.model_laws.proofs.Bools.{and_l, and_r, both, bool_ext}
use Rattle.model_laws.proofs.SetLaws.{has-inter, within_has}
use Rattle.model_laws.proofs.UnionLaws.{has_below}
use Rattle.model_laws.proofs.AnyWidth.{same_sets}
use Rattle.model_laws.proofs.LowestLaws.{set_of-has, has-set_of}
use Rattle.sets.specs.Words.{values}
use Rattle.sets.proofs.Unions.{values_at}
use Rattle.tables_rows.specs.Carried.{carried_rows}
use Rattle.tables_rows.specs.Holding.{holders_of}
use Rattle.query.specs.Carry.{rows_of, number_of, Carry, Keeps}
use Rattle.query_reduced.proofs.MetLaws.{every_has, every}
use Rattle.asks.proofs.Rows.{carry_rows}
use Rattle.std.specs.Prelude.{Option as Maybe, Some, None}
use Rattle.model.specs.declared.Permission.{Permission}
use Rattle.obstacles_lacks.specs.Founds.{lacks_of}

-- where a test holds, others that agree there give the same
under : (a x y : Bool) → (a ≡ true → x ≡ y) → (a && x) ≡ (a && y)
under true x y h = h refl
under false x y h = refl

module _ (m : Meaning) (rows : List (List ℕ)) (set : ℕ) (small : set < 2 ^ 64) (carry : Carry m set (rows_of rows)) where
  -- the roles of the set that hold the permission by their rows
  pub carriers_are : (p x s : ℕ) → x ≡ holders_of (values rows) p → s ≡ inter set x → s ≡ carriers_of m (has set) p
  unfolding holders_of carriers_of
  carriers_are p x s ex es =
      same_sets s (carriers_of m (has set) p)
      (λ r. ap (λ (y : ℕ). has y r) es ∙ has-inter set x r
      ∙ bool_ext (has set r && has x r) (has (carriers_of m (has set) p) r)
      (λ e. let a = and_l (has set r) (has x r) e in
      let w = set_of-has (λ g. has (get_or (values rows) g 0) p) 64 r (ap (λ (y : ℕ). has y r) (sym ex) ∙ and_r (has set r) (has x r) e) in
      has-set_of (λ g. has set g && has (get_or m.carried g 0) p) 64 r w.1
      (both (has set r) _ a (ap (λ (y : ℕ). has y p) (carry r a ∙ sym (values_at rows r)) ∙ w.0)))
      (λ e. let w = set_of-has (λ g. has set g && has (get_or m.carried g 0) p) 64 r e in
      let a = and_l (has set r) (has (get_or m.carried r 0) p) w.0 in
      both (has set r) (has x r) a
      (ap (λ (y : ℕ). has y r) ex
      ∙ has-set_of (λ g. has (get_or (values rows) g 0) p) 64 r w.1
      (ap (λ (y : ℕ). has y p) (values_at rows r ∙ sym (carry r a)) ∙ and_r (has set r) (has (get_or m.carried r 0) p) w.0))))

  -- those of a user's roles that carry nothing outside the upper bound
  pub fitting_is : m.authorized ≡ set → (upper s : ℕ) → Keeps (λ i. within (rows_of rows i) upper) set s → s ≡ fitting m upper
  unfolding fitting
  fitting_is own upper s keeps =
      same_sets s (fitting m upper)
      (λ r. keeps r
      ∙ under (has set r) (within (rows_of rows r) upper) (within (get_or m.carried r 0) upper) (λ e. ap (λ (y : ℕ). within y upper) (sym (carry r e)))
      ∙ bool_ext (has set r && within (get_or m.carried r 0) upper) (has (fitting m upper) r)
      (λ e. let a = and_l (has set r) (within (get_or m.carried r 0) upper) e in
      has-set_of fits 64 r (has_below 64 set r small a) (ap (λ (y : ℕ). has y r && within (get_or m.carried r 0) upper) own ∙ e))
      (λ e. ap (λ (y : ℕ). has y r && within (get_or m.carried r 0) upper) (sym own) ∙ (set_of-has fits 64 r e).0))
    where
      fits : ℕ → Bool
      fits r = has m.authorized r && within (get_or m.carried r 0) upper

-- fewer roles carry what their rows say
pub carry_less : (m : Meaning) (all less : ℕ) (row : ℕ → ℕ) → Carry m all row → within less all ≡ true → Carry m less row
carry_less m all less row h w r e = h r (within_has less all w r e)

-- ---- all roles

-- by rows of all roles
pub carry_all : (p : Policy) (u : ℕ) (rows : List (List ℕ)) (granted below : List ℕ) → granted ≡ p.granted → below ≡ below_table p
    → values rows ≡ carried_rows granted below every → Carry (meaning p u) every (rows_of rows)
carry_all p u rows granted below g b e = carry_rows p u every rows (lit< tt) (e ∙ ap₂ (λ (y z : List ℕ). carried_rows y z every) g b)

module _ (m : Meaning) (p : ℕ) where
  abbrev carrier : ℕ → Bool
  carrier r = has (get_or m.carried r 0) p

  abbrev in_every : ℕ → Bool
  in_every r = has every r && carrier r

  pub every_carriers : carriers_of m (has every) p ≡ carriers_of m (λ r. true) p
  unfolding carriers_of
  every_carriers =
      same_sets (set_of in_every 64) (set_of carrier 64)
      (λ r. bool_ext (has (set_of in_every 64) r) (has (set_of carrier 64) r)
      (λ e. let w = set_of-has in_every 64 r e in has-set_of carrier 64 r w.1 (and_r (has every r) (carrier r) w.0))
      (λ e. let w = set_of-has carrier 64 r e in has-set_of in_every 64 r w.1 (both (has every r) (carrier r) (every_has r w.1) w.0)))

-- ---- what is told

-- where nothing is lacking, nothing is told
pub told-nothing : (kind : ℕ) (roles : ℕ → ℕ) (r : Maybe Permission) (o : Option ℕ) → r ≡ None → number_of r ≡ o → lacks_of kind None ≡ lacks kind roles o
unfolding lacks_of lacks
told-nothing kind roles r o q e = ap (lacks kind roles) (sym (ap number_of q) ∙ e)

-- the permission p, with its roles s
pub told-one : (kind : ℕ) (roles : ℕ → ℕ) (r : Maybe Permission) (p : Permission) (s : ℕ) (o : Option ℕ) → r ≡ Some p → number_of r ≡ o → s ≡ roles p.0
    → lacks_of kind (Some (record { permission = p; roles = s })) ≡ lacks kind roles o
unfolding lacks_of lacks
told-one kind roles r p s o q e f =
    ap (λ (x : ℕ). some (record { kind = kind; about = p.0; first = x; second = 0 })) f ∙ ap (lacks kind roles) (sym (ap number_of q) ∙ e)
