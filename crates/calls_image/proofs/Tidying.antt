-- The call that tidies, by its image: refused as the image is, or done by the tables that its words fill.
-- Assumes nothing.
use mathlib.Core.Path.{◌≡◌, refl, sym, ap, subst, ◌∙◌}
use mathlib.Core.Bool.{false}
use mathlib.Core.List.{List}
use Prim.Native.Nat.{ℕ, ◌≤◌, ◌+◌, ◌*◌}
use native.Mathlib.Omega.{arith}
use lib.Dec.{eqb}
use lib.ListN.{length, get_or}
use borrow.Table.Steps.{cases}
use borrow.Author.Tests.{eqb-true, not-false}
use Rattle.model.specs.declared.Head.{Head}
use Rattle.model.specs.declared.Checked.TheVariants.{Accepted, Refused}
use Rattle.model.specs.Sets.{has}
use Rattle.model.specs.Policy.{Policy, policy_of, limited}
use Rattle.model.specs.Ranges.{TableInRange, LimitsInRange}
use Rattle.model.specs.Judgement.{judge}
use Rattle.model_laws.proofs.Judgements.{accepted_in_range}
use Rattle.image.proofs.Turns.{length_assigned, length_juniors}
use Rattle.tables.specs.Tables.{Read}
use Rattle.tables.proofs.Fills.{length_granted, length_limits}
use Rattle.model_tidy.specs.Tidy.{tidy_by, tidy_call}
use Rattle.tidy_words.specs.Tables.{Table, Limited}
use Rattle.tidy_words.specs.Whole.{FittedTables}
use Rattle.tidy.specs.Whole.{policy_by, policy_held, Writes}
use Rattle.sets.specs.Words.{values}
use Rattle.policy_tables.specs.declared.PolicyTables.{PolicyTables}

-- no limit is a small one
unlimited_small : (rows : List ℕ) (r : ℕ) → limited rows r ≡ false → get_or rows r 0 ≤ 256
unfolding limited
unlimited_small rows r e = let z = eqb-true (get_or rows r 0) 0 (not-false (eqb (get_or rows r 0) 0) e) in omega arith

module _ (s : List ℕ) where
  -- a refused image ends the call there
  pub tidy-refused : (out : List ℕ) {n place r : ℕ} → judge s ≡ Refused n place → r ≡ n + 256 * place → Writes (tidy_call s out) r out
  unfolding tidy_call tidy_by
  tidy-refused out g q = rw g (record { number = q; bytes = refl })

  module _ (p : PolicyTables) (e : judge s ≡ Accepted p.head) (t : Read (policy_of s) p) where
    -- the policy of the tables is the image's
    tables_policy : policy_held p ≡ policy_of s
    unfolding policy_by
    tables_policy =
        λ i. record {
          head = sym t.head_is i;
          assigned = t.assigned_is i;
          granted = t.granted_is i;
          juniors = t.juniors_is i;
          exclusions = t.exclusions_are i;
          limits = t.limits_is i;
        }

    -- under an accepted one it goes by the tables
    pub tidy_accepted : (out : List ℕ) (r : ℕ) (after : List ℕ) → Writes (tidy_by (Accepted p.head) (policy_held p) out) r after
        → Writes (tidy_call s out) r after
    unfolding tidy_call
    tidy_accepted out r after w = rw e (subst (λ (x : Policy). Writes (tidy_by (Accepted p.head) x out) r after) tables_policy w)

    table_fits : (m k : ℕ) (rows table : List ℕ) → table ≡ rows → length rows ≡ 64 → TableInRange m k rows → Table m table
    table_fits m k rows table q z f =
        record { size = ap length q ∙ z; inside = λ i j b. (f i j (ap (λ (x : List ℕ). has (get_or x i 0) j) (sym q) ∙ b)).0 }

    limits_fitted : (m : ℕ) (rows table : List ℕ) → table ≡ rows → length rows ≡ 64 → LimitsInRange m rows → Limited m table
    limits_fitted m rows table q z f =
        subst (Limited m) (sym q)
        (record { size = z; inside = λ r b. (f r b).0; most = λ r. cases (limited rows r) (λ e. (f r e).2) (λ e. unlimited_small rows r e) })

    -- which fit the head
    pub tables_fit : FittedTables p
    tables_fit =
        let range = accepted_in_range s p.head e in
        let head = t.head_is in
        let a = p.authorized in
        let g = values p.granted in
        let j = p.below in
        let l = p.limits in
        record {
          users = subst (λ (x : Head). x.users ≤ 64) head range.users.1;
          roles = subst (λ (x : Head). x.roles ≤ 64) head range.roles.1;
          assigned_fits = subst (λ (x : Head). Table x.users a) head (table_fits _ _ _ a t.assigned_is (length_assigned s) range.assigned);
          granted_fits = subst (λ (x : Head). Table x.roles g) head (table_fits _ _ _ g t.granted_is (length_granted s) range.granted);
          juniors_fits = subst (λ (x : Head). Table x.roles j) head (table_fits _ _ _ j t.juniors_is (length_juniors s) range.juniors);
          limits_fit = subst (λ (x : Head). Limited x.roles l) head (limits_fitted _ _ l t.limits_is (length_limits s) range.limits);
        }
