-- What holds of the meaning of an accepted policy, as far as the clauses of an ask go by it.
-- Assumes nothing.
use mathlib.Core.Path.{◌≡◌, sym, ap, ◌∙◌, subst}
use mathlib.Core.Bool.{true}
use mathlib.Core.Logic.{◌↔◌}
use mathlib.Core.List.{Memᴰ}
use Prim.Native.Nat.{ℕ, ◌^◌, ◌≤◌, ◌<◌}
use lib.ListN.{length, get_or, get_or-map}
use Rattle.model.specs.declared.Exclusion.{Exclusion}
use Rattle.model.specs.declared.Line.{Line}
use Rattle.model.specs.Sets.{has, within, union_at}
use Rattle.model.specs.Policy.{Policy, Meaning, reached, carried_table, meaning}
use Rattle.model.specs.Line.{counted, session_at, exclusions_met}
use Rattle.model.specs.Limits.{Others, unbarred}
use Rattle.model.specs.Choice.{carried_by, admissible}
use Rattle.model.specs.Conditions.{MetAfter}
use Rattle.model.specs.Ranges.{Each, OneTo, ExclusionInRange, InRange}
use Rattle.model_laws.proofs.UnionLaws.{has_below, union_to_lt, union_at_none}
use Rattle.model_laws.proofs.AnyWidth.{within_iff, members_below_lem}
use Rattle.model_laws.proofs.Reaches.{authorized_below}
use Rattle.model_laws.proofs.ConditionsProof.{Met, exclusions_met_iff, solution}
use Rattle.model_laws.proofs.Barred.{change_first, first_of, left_own}

-- 001's conditions for session k alone (specs/Conditions.antt), by a policy's meaning
pub record Solved (p : Meaning) (l : Line) (k lb ub s : ℕ) : Type 0 where
  pub own : (r : ℕ) → has s r ≡ true → has p.authorized r ≡ true
  pub lower : (q : ℕ) → has lb q ≡ true → has (carried_by p s) q ≡ true
  pub upper : (q : ℕ) → has (carried_by p s) q ≡ true → has ub q ≡ true
  pub exclusions : (x : Exclusion) → Memᴰ x p.exclusions → MetAfter l k s k x

pub record Meant (p : Meaning) : Type 0 where
  pub roles : OneTo 64 p.roles
  pub permissions : OneTo 256 p.permissions
  pub own : p.authorized < 2 ^ p.roles
  pub rows : (r : ℕ) → get_or p.carried r 0 < 2 ^ p.permissions
  pub few_exclusions : length p.exclusions ≤ 32
  pub exclusions : Each (ExclusionInRange p.roles) p.exclusions
  -- on a line that meets the exclusions each is met at each session, and the admissible sets are those that meet the
  -- conditions
  pub met_now : (l : Line) → exclusions_met p l ≡ true → (x : Exclusion) → Memᴰ x p.exclusions → (j : ℕ) → j < length l.sessions
      → Met (counted l (session_at l j)) x
  pub solution : (l : Line) (k lb ub s : ℕ) → k < length l.sessions → exclusions_met p l ≡ true
      → (admissible p l k lb ub s ≡ true) ↔ Solved p l k lb ub s

module _ (p : Policy) (range : InRange p) (u : ℕ) where
  -- a role carries permissions alone
  row_below : (r : ℕ) → get_or (carried_table p) r 0 < 2 ^ p.head.permissions
  unfolding carried_table union_at
  row_below r =
      subst (λ (n : ℕ). n < 2 ^ p.head.permissions)
      (sym (ap (get_or (carried_table p) r) (sym (union_at_none p.granted)) ∙ get_or-map (union_at p.granted) (reached p) r 0))
      (union_to_lt p.head.permissions (λ i. get_or p.granted i 0) (get_or (reached p) r 0) 64 (λ i l. range.granted_rows i))

  pub meant : Meant (meaning p u)
  unfolding meaning
  meant =
      record {
        roles = range.roles;
        permissions = range.permissions;
        own = authorized_below p range u;
        rows = row_below;
        few_exclusions = range.few_exclusions;
        exclusions = range.exclusions;
        met_now = λ l met x m j inside. (exclusions_met_iff p u l).0 met x m j inside;
        solution = λ l k lb ub s inside met.
            let c = solution p u l k lb ub s inside met in (
              (λ e. let d = c.0 e in record { own = d.own; lower = d.lower; upper = d.upper; exclusions = d.exclusions }),
              (λ d. c.1 (record { own = d.own; lower = d.lower; upper = d.upper; exclusions = d.exclusions })),
            );
      }

-- the same where limits bar roles: those that are left are the user's
module _ (m : Meaning) (h : Meant m) (x : Others) (l₀ : Line) (k₀ : ℕ) where
  abbrev left : Meaning
  left = unbarred m x l₀ k₀

  left_solution : (l : Line) (k lb ub s : ℕ) → k < length l.sessions → exclusions_met m l ≡ true
      → (admissible left l k lb ub s ≡ true) ↔ Solved left l k lb ub s
  unfolding admissible carried_by exclusions_met unbarred
  left_solution l k lb ub s inside met = (
    (λ e. let own = (within_iff s left.authorized).0 (first_of (within s left.authorized) _ _ _ e) in
        let d = (h.solution l k lb ub s inside met).0
        (change_first (within s left.authorized) (within s m.authorized) _ _ _
        (λ _. (within_iff s m.authorized).1 (λ r q. left_own m x l₀ k₀ r (own r q))) e) in
        record { own = own; lower = d.lower; upper = d.upper; exclusions = d.exclusions }),
    (λ d. change_first (within s m.authorized) (within s left.authorized) _ _ _ (λ _. (within_iff s left.authorized).1 d.own)
        ((h.solution l k lb ub s inside met).1
        (record { own = λ r q. left_own m x l₀ k₀ r (d.own r q); lower = d.lower; upper = d.upper; exclusions = d.exclusions }))),
  )

  pub left_meant : Meant left
  unfolding exclusions_met unbarred
  left_meant =
      record {
        roles = h.roles;
        permissions = h.permissions;
        own = members_below_lem m.roles left.authorized (λ r e. has_below m.roles m.authorized r h.own (left_own m x l₀ k₀ r e));
        rows = h.rows;
        few_exclusions = h.few_exclusions;
        exclusions = h.exclusions;
        met_now = h.met_now;
        solution = left_solution;
      }
