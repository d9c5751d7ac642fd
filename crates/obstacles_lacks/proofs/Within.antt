-- The kinds 1 to 3, by what code holds of a user's roles, and the first of them that holds.
-- Assumes nothing.
use mathlib.Core.Path.{◌≡◌, sym, ap, subst, ◌∙◌}
use mathlib.Core.Bool.{true}
use mathlib.Core.List.{List}
use mathlib.Core.Option.{Option, none, some}
use Prim.Native.Nat.{ℕ, ◌^◌, ◌<◌}
use Rattle.model.specs.declared.Line.{Line}
use Rattle.model.specs.Tests.{or_else}
use Rattle.model.specs.Sets.{has, within}
use Rattle.model.specs.Policy.{Meaning}
use Rattle.model.specs.Limits.{Others, unbarred}
use Rattle.model.specs.Obstacle.{Obstacle, lacking, carriers_of, fitting, lacks}
use Rattle.model_laws.proofs.Bools.{and_l, and_r, both}
use Rattle.model_laws.proofs.SetLaws.{within_has}
use Rattle.model_laws.proofs.AnyWidth.{within_iff}
use Rattle.model_laws.proofs.Barred.{left_own}
use Rattle.model_laws.proofs.ObstacleLaws.{upper_none, own_none}
use Rattle.query.specs.Carry.{rows_of, number_of, Carry, Keeps}
use Rattle.std.specs.Prelude.{Option as Maybe, Some, None}
use Rattle.model.specs.declared.Permission.{Permission}
use Rattle.obstacles_lacks.specs.declared.found.Lack.{Lack}
use Rattle.obstacles_lacks.specs.Founds.{found_of, lack_of, lacks_of, own_lacks, upper_lacks, limit_lacks}
use Rattle.obstacles_lacks.proofs.Carriers.{carry_less, fitting_is}

-- ---- one kind before the others

-- a lack as what stands in the way
pub found_lack : (kind : ℕ) (r : Maybe Lack) (t : Lack) (a : Option Obstacle) → r ≡ Some t → lacks_of kind r ≡ a → some (lack_of kind t) ≡ a
unfolding lacks_of
found_lack kind r t a q e = sym (ap (lacks_of kind) q) ∙ e

pub found-nothing : (kind : ℕ) (r : Maybe Lack) (a : Option Obstacle) → r ≡ None → lacks_of kind r ≡ a → found_of None ≡ a
unfolding found_of lacks_of
found-nothing kind r a q e = sym (ap (lacks_of kind) q) ∙ e

-- where one is told, it is the first
pub or_told : (a b : Option Obstacle) (t : Obstacle) → some t ≡ a → some t ≡ or_else a b
unfolding or_else
or_told a b t e = ap (λ (o : Option Obstacle). or_else o b) e

-- where nothing is, the others decide
pub or_clear : (kind : ℕ) (r : Maybe Lack) (a b o : Option Obstacle) → r ≡ None → lacks_of kind r ≡ a → o ≡ b → o ≡ or_else a b
unfolding lacks_of or_else
or_clear kind r a b o q e h = h ∙ ap (λ (y : Option Obstacle). or_else y b) (sym (ap (lacks_of kind) q) ∙ e)

-- ---- the kinds
pub own_lacks_lem : (m : Meaning) (lower own : ℕ) (o : Option Obstacle) → m.authorized ≡ own
    → o ≡ lacks 1 (carriers_of m (λ r. true)) (lacking m lower own) → o ≡ own_lacks m lower
unfolding own_lacks
own_lacks_lem m lower own o e h = h ∙ ap (λ (s : ℕ). lacks 1 (carriers_of m (λ r. true)) (lacking m lower s)) (sym e)

module _ (m : Meaning) (x : Others) (l : Line) (k own free : ℕ) (rows : List (List ℕ)) (lower upper : ℕ) (own_is : m.authorized ≡ own)
    (free_is : (unbarred m x l k).authorized ≡ free) (w : own < 2 ^ 64) (v : free < 2 ^ 64) (carry : Carry m own (rows_of rows)) where
  -- free roles are the user's, and carry what their rows say
  free_own : within free own ≡ true
  free_own =
      (within_iff free own).1
      (λ r h. subst (λ (s : ℕ). has s r ≡ true) own_is (left_own m x l k r (subst (λ (s : ℕ). has s r ≡ true) (sym free_is) h)))

  free_carry : Carry (unbarred m x l k) free (rows_of rows)
  unfolding unbarred
  free_carry = carry_less m own free (rows_of rows) carry free_own

  -- where those that fit lack nothing, none of the three kinds holds
  pub clear_lacks : lower < 2 ^ 256 → (left : ℕ) → Keeps (λ i. within (rows_of rows i) upper) free left → (r : Maybe Permission) → r ≡ None
      → (Carry m left (rows_of rows) → number_of r ≡ lacking m lower left)
      → found_of None ≡ or_else (own_lacks m lower) (or_else (upper_lacks m lower upper) (limit_lacks m x l k lower upper))
  unfolding found_of or_else own_lacks upper_lacks limit_lacks lacks
  clear_lacks small left kept r q e =
      let inside = (within_iff left own).1 (λ r i. within_has free own free_own r (and_l (has free r) _ (sym (kept r) ∙ i))) in
      let c : lacking m lower (fitting (unbarred m x l k) upper) ≡ none =
      ap (lacking m lower) (sym (fitting_is (unbarred m x l k) rows free v free_carry free_is upper left kept))
      ∙ sym (e (carry_less m own left (rows_of rows) carry inside)) ∙ ap number_of q in
      let b = upper_none m x l k lower upper small c in
      let a = own_none m x l k lower upper small b in
      (λ i. or_else (lacks 1 (carriers_of m (λ r. true)) (sym a i))
      (or_else (lacks 2 (carriers_of m (has m.authorized)) (sym b i)) (lacks 3 (carriers_of m (has (fitting m upper))) (sym c i))))

  module _ (fit : ℕ) (keeps : Keeps (λ i. within (rows_of rows i) upper) own fit) where
    fit_own : within fit own ≡ true
    fit_own = (within_iff fit own).1 (λ r h. and_l (has own r) _ (sym (keeps r) ∙ h))

    fit_is : fit ≡ fitting m upper
    fit_is = fitting_is m rows own w carry own_is upper fit keeps

    pub upper-lacks : (f : Maybe Lack) → (Carry m own (rows_of rows) → within fit own ≡ true
        → lacks_of 2 f ≡ lacks 2 (carriers_of m (has own)) (lacking m lower fit))
        → lacks_of 2 f ≡ upper_lacks m lower upper
    unfolding upper_lacks
    upper-lacks f h = h carry fit_own ∙ (λ i. lacks 2 (carriers_of m (has (sym own_is i))) (lacking m lower (fit_is i)))

    pub limit_lacks_lem : (left : ℕ) → Keeps (λ i. within (rows_of rows i) upper) free left → (f : Maybe Lack)
        → (Carry m fit (rows_of rows) → within left fit ≡ true → lacks_of 3 f ≡ lacks 3 (carriers_of m (has fit)) (lacking m lower left))
        → lacks_of 3 f ≡ limit_lacks m x l k lower upper
    unfolding limit_lacks
    limit_lacks_lem left kept f h =
        h (carry_less m own fit (rows_of rows) carry fit_own)
        ((within_iff left fit).1
        (λ r e. let q = sym (kept r) ∙ e in
        keeps r ∙ both (has own r) _ (within_has free own free_own r (and_l (has free r) _ q)) (and_r (has free r) _ q)))
        ∙ (λ i. lacks 3 (carriers_of m (has (fit_is i)))
        (lacking m lower (fitting_is (unbarred m x l k) rows free v free_carry free_is upper left kept i)))
