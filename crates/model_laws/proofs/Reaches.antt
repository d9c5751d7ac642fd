-- What a user may activate: exactly the roles that chains of senior words lead to from the assigned ones, each of them
-- a role of the policy; where no assigned role stands over another, the assigned ones alone.
-- Assumes nothing.
use mathlib.Core.Path.{◌≡◌, refl, ap, ◌∙◌}
use mathlib.Core.Logic.{◌↔◌, inl, inr}
use mathlib.Core.Bool.{true}
use mathlib.Core.List.{List, [], map}
use Prim.Native.Nat.{ℕ, zero, suc, ◌^◌, ◌≤◌, ◌<◌, zero-le}
use native.Mathlib.Nat.{lt_of_lt_of_le}
use lib.ListN.{get_or}
use Rattle.model.specs.Sets.{has, with, union_at}
use Rattle.model.specs.Policy.{Policy, taking, through, closure_by, below_table, with_selves, reached, authorized, meaning}
use Rattle.model.specs.Chains.{Chain, here, step, Authorized}
use Rattle.model.specs.Ranges.{InRange}
use Rattle.model.specs.Ordered.{FewRoles}
use Rattle.model_laws.proofs.Bools.{not_both, bool_ext}
use Rattle.model_laws.proofs.SetLaws.{with_cases, with_new}
use Rattle.model_laws.proofs.UnionLaws.{has_none, has_below, has-union_at, union_at_none}
use Rattle.model_laws.proofs.TableLaws.{count_empty}
use Rattle.model_laws.proofs.AnyWidth.{same_sets, members_below_lem, no_members}
use Rattle.model_laws.proofs.Closure.{get_d_table_of, few, below, reached_is}

-- ---- roles that stand over nobody

-- a set of such roles reaches itself alone
pub reaches_itself : (rows : List ℕ) (s : ℕ) → s < 2 ^ 64 → ((r : ℕ) → has s r ≡ true → get_or rows r 0 ≡ 0) → union_at (with_selves rows) s ≡ s
unfolding with_selves
reaches_itself rows s small none = same_sets (union_at (with_selves rows) s) s (λ k. bool_ext _ _ (to k) (from k))
  where
    self : (r : ℕ) → r < 64 → get_or (with_selves rows) r 0 ≡ with (get_or rows r 0) r
    self r l = get_d_table_of 64 (λ a. with (get_or rows a 0) a) r l

    to : (k : ℕ) → has (union_at (with_selves rows) s) k ≡ true → has s k ≡ true
    to k e =
        let w = (has-union_at (with_selves rows) s k).0 e in
        let row : get_or (with_selves rows) w.member 0 ≡ with 0 w.member =
        self w.member w.below ∙ ap (λ (x : ℕ). with x w.member) (none w.member w.chosen) in
        elim (with_cases 0 w.member k (rw row at w.holds)) [ inl h ↦ not_both (has 0 k) h (has_none k) | inr h ↦ rw h w.chosen ]

    from : (k : ℕ) → has s k ≡ true → has (union_at (with_selves rows) s) k ≡ true
    from k e =
        let l = has_below 64 s k small e in
        (has-union_at (with_selves rows) s k).1 (record { member = k; below = l; chosen = e; holds = rw (self k l) (with_new (get_or rows k 0) k) })

-- the empty table is closed
closed_empty : (n : ℕ) → closure_by n [] ≡ []
unfolding closure_by through
closed_empty zero = refl
closed_empty (suc n) = ap (λ (rows : List ℕ). map (taking n (get_or rows n 0)) rows) (closed_empty n)

-- without senior words a user may activate the assigned roles alone
pub authorized_alone : (p : Policy) (u : ℕ) → p.juniors ≡ [] → get_or p.assigned u 0 < 2 ^ 64 → authorized p u ≡ get_or p.assigned u 0
unfolding authorized reached below_table
authorized_alone p u e l =
    reaches_itself (below_table p) (get_or p.assigned u 0) l
    (λ r h. ap (λ (rows : List ℕ). get_or rows r 0) (ap (closure_by p.head.roles) e ∙ closed_empty p.head.roles))

-- ---- chains

module _ (p : Policy) (range : InRange p) where
  -- the authorized roles are those that chains lead to from the assigned ones
  pub authorized_is : (u b : ℕ) → (has (authorized p u) b ≡ true) ↔ Authorized p u b
  unfolding authorized
  authorized_is u b = (
    λ e.
        let w = (has-union_at (reached p) (get_or p.assigned u 0) b).0 e in
        record { senior = w.member; assigned = w.chosen; chain = (reached_is p range w.member b w.below).0 w.holds },
    λ w.
        let l = lt_of_lt_of_le (range.assigned u w.senior w.assigned).1 (few p range) in
        (has-union_at (reached p) (get_or p.assigned u 0) b).1
        (record { member = w.senior; below = l; chosen = w.assigned; holds = (reached_is p range w.senior b l).1 w.chain }),
  )

  -- a chain from a role leads to a role
  chain-role : {a b : ℕ} → a < p.head.roles → Chain p a b → b < p.head.roles
  chain-role l here = l
  chain-role l (step {a} {b} e c) = chain-role (below p range a b e).1 c

  -- so the authorized roles are roles
  pub authorized_below : (u : ℕ) → authorized p u < 2 ^ p.head.roles
  authorized_below u =
      members_below_lem p.head.roles (authorized p u)
      (λ b e. let w = (authorized_is u b).0 e in chain-role (range.assigned u w.senior w.assigned).1 w.chain)

  -- the same of what the policy means for a user
  pub own_below : (u : ℕ) → (meaning p u).authorized < 2 ^ (meaning p u).roles
  unfolding meaning
  own_below u = authorized_below u

  pub few_roles : (u : ℕ) → (meaning p u).roles ≤ 64
  unfolding meaning
  few_roles u = few p range

  -- who is no user may activate none
  pub no_user : (u : ℕ) → ¬ (u < p.head.users) → FewRoles p u
  unfolding authorized
  no_user u n =
      rw (no_members (get_or p.assigned u 0) (λ b e. n (range.assigned u b e).0), union_at_none (reached p), count_empty 64) zero-le
