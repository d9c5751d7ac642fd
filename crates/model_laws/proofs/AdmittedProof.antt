-- The admissible sets of a policy in range in its own words: 001's conditions by chains of senior words, and CARD.
-- Assumes nothing.
use mathlib.Core.Path.{◌≡◌}
use mathlib.Core.Logic.{◌↔◌}
use mathlib.Core.Bool.{true}
use Prim.Native.Nat.{ℕ, ◌^◌, ◌<◌}
use native.Mathlib.Nat.{lt_of_lt_of_le}
use lib.Pow.{pow_mono}
use lib.ListN.{length}
use Rattle.model.specs.declared.Line.{Line}
use Rattle.model.specs.Sets.{has}
use Rattle.model.specs.Policy.{Policy, authorized, meaning}
use Rattle.model.specs.Limits.{Others}
use Rattle.model.specs.Choice.{carried_by, admissible}
use Rattle.model.specs.Chains.{Provides}
use Rattle.model.specs.Ranges.{InRange}
use Rattle.model.specs.Chosen.{Unbarred}
use Rattle.model.specs.Conditions.{Conditions, Admitted, Permitted}
use Rattle.model_laws.proofs.AnyWidth.{within_iff}
use Rattle.model_laws.proofs.Closure.{provided_is}
use Rattle.model_laws.proofs.Reaches.{authorized_is, authorized_below}
use Rattle.model_laws.proofs.Choices.{within_below}
use Rattle.model_laws.proofs.ConditionsProof
use Rattle.model_laws.proofs.Barred.{card_is}

module _ (p : Policy) (range : InRange p) where
  -- the roles that a user may activate are below 64
  pub own_below : (u : ℕ) → authorized p u < 2 ^ 64
  own_below u = lt_of_lt_of_le (authorized_below p range u) (pow_mono range.roles.1)

  module _ (u : ℕ) (l : Line) (k lb ub t : ℕ) (open_k : k < length l.sessions) where
    -- below 2 ^ 64, what the set's roles carry is what the set provides
    provided : t < 2 ^ 64 → (q : ℕ) → (has (carried_by (meaning p u) t) q ≡ true) ↔ Provides p t q
    unfolding carried_by meaning
    provided small q = provided_is p range t q small

    own_small : ((r : ℕ) → has t r ≡ true → has (authorized p u) r ≡ true) → t < 2 ^ 64
    own_small own = within_below t (authorized p u) 64 (own_below u) ((within_iff t (authorized p u)).1 own)

    admitted : Conditions p u l k lb ub t → Admitted p u l k lb ub t
    admitted c =
        let small = own_small c.own in
        record {
          own = λ r e. (authorized_is p range u r).0 (c.own r e);
          lower = λ q e. (provided small q).0 (c.lower q e);
          upper = λ q e. c.upper q ((provided small q).1 e);
          exclusions = c.exclusions;
        }

    conditions : Admitted p u l k lb ub t → Conditions p u l k lb ub t
    conditions c =
        let own : (r : ℕ) → has t r ≡ true → has (authorized p u) r ≡ true = λ r e. (authorized_is p range u r).1 (c.own r e) in
        let small = own_small own in
        record {
          own = own;
          lower = λ q e. (provided small q).1 (c.lower q e);
          upper = λ q e. c.upper q ((provided small q).0 e);
          exclusions = c.exclusions;
        }

    -- admissible is 001's conditions 1 to 6
    pub admissible_is : (admissible (meaning p u) l k lb ub t ≡ true) ↔ Admitted p u l k lb ub t
    admissible_is =
        let c = ConditionsProof.conditions p u l k lb ub t open_k in
        (λ e. admitted (c.0 e), λ a. c.1 (conditions a))

    -- admissible without barred roles is those conditions and 001's CARD
    pub permitted_is : (x : Others)
        → ((admissible (meaning p u) l k lb ub t ≡ true) × Unbarred (meaning p u) x l k t) ↔ Permitted p u x l k lb ub t
    permitted_is x =
        let c = card_is (meaning p u) x l k t open_k in
        (λ e. record { admitted = admissible_is.0 e.0; card = c.0 e.1 }, λ w. (admissible_is.1 w.admitted, c.1 w.card))
