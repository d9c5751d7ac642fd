-- The closed table of seniority holds exactly the roles below each role, with itself those that chains of senior words
-- reach, the carried table exactly what a role carries, and the union of its rows exactly what a set of roles carries.
-- Assumes nothing.
use mathlib.Core.Path.{◌≡◌, refl, sym, ap, ◌∙◌}
use mathlib.Core.Logic.{◌⊎◌, inl, inr, ◌↔◌}
use mathlib.Core.Bool.{Bool, true, ◌&&◌, ◌||◌, or-false}
use mathlib.Core.Option.{some}
use mathlib.Core.List.{List, [], ◌∷◌}
use Prim.Native.Nat.{ℕ, zero, suc, ◌^◌, ◌≤◌, ◌<◌}
use native.Mathlib.Nat.{lt_of_lt_of_le}
use native.Mathlib.Omega.{arith}
use lib.ListN.{get_or, length, get_or-map, length-append, get_or-append}
use lib.Seq.{get_or_at}
use borrow.Table.Steps.{cases}
use Rattle.model.specs.Tests.{pick, is_some}
use Rattle.model.specs.Sets.{has, union, with, union_at}
use Rattle.model.specs.Policy.{Policy, taking, through, closure_by, table_of, below_table, with_selves, reached, carried_table, granter_by, granter}
use Rattle.model.specs.Chains.{over, grants, Chain, here, step, Below, Carries, Provides, Granting, GranterIs}
use Rattle.model.specs.Ranges.{InRange}
use Rattle.model_laws.proofs.Bools.{and_l, and_r, both, or_l, or_r, or_cases}
use Rattle.model_laws.proofs.SetLaws.{has-union, union_l, with_new, with_cases}
use Rattle.model_laws.proofs.UnionLaws.{has_none, has_below, below_or_last, has-union_at, union_at_none}
use Rattle.model_laws.proofs.LowestLaws.{named, some_named, none_unnamed, unnamed_none, lowest_some, union-named}

-- ---- a table made row by row
-- its number of rows
pub length-table_of : (n : ℕ) (f : ℕ → ℕ) → length (table_of n f) ≡ n
unfolding table_of
length-table_of zero f = refl
length-table_of (suc n) f = length-append (table_of n f) (f n ∷ []) ∙ omega (arith, length-table_of n f)

-- its row i
pub get_d_table_of : (n : ℕ) (f : ℕ → ℕ) (i : ℕ) → i < n → get_or (table_of n f) i 0 ≡ f i
unfolding table_of
get_d_table_of zero f i h = absurd (omega arith)
get_d_table_of (suc n) f i h =
    elim (below_or_last i n h) [
      | inl k ↦ get_or-append (table_of n f) (f n ∷ []) 0 i (omega (arith, length-table_of n f)) ∙ get_d_table_of n f i k
      | inr k ↦ get_or_at (table_of n f) (f n) [] 0 i (length-table_of n f ∙ sym k) ∙ ap f (sym k)
    ]

-- ---- one pass of the closure: row i takes in row k where it has k
-- a row that takes in another where it has k
has-taking : (k other row j : ℕ) → has (taking k other row) j ≡ (has row j || (has row k && has other j))
unfolding taking pick
has-taking k other row j =
    cases (has row k) (λ e. rw (e, pick) (has-union row other j)) (λ e. rw (e, pick) (sym (or-false (has row j))))

-- the empty row takes in nothing
pub taking_none : (k other : ℕ) → taking k other 0 ≡ 0
unfolding taking pick
taking_none k other = ap (λ (b : Bool). pick b (union 0 other) 0) (has_none k)

-- every row of the table after the pass
has-through : (k : ℕ) (rows : List ℕ) (i j : ℕ)
    → has (get_or (through k rows) i 0) j ≡ (has (get_or rows i 0) j || (has (get_or rows i 0) k && has (get_or rows k 0) j))
unfolding through
has-through k rows i j =
    ap (λ (x : ℕ). has x j)
    (ap (λ (d : ℕ). get_or (through k rows) i d) (sym (taking_none k (get_or rows k 0))) ∙ get_or-map (taking k (get_or rows k 0)) rows i 0)
    ∙ has-taking k (get_or rows k 0) (get_or rows i 0) j

-- ---- Warshall's closure of a table: after the passes below n it is transitive through every role below n
module _ (rows : List ℕ) where
  -- row i holds j after the passes below k
  at : ℕ → ℕ → ℕ → Bool
  at k i j = has (get_or (closure_by k rows) i 0) j

  -- pass k
  at_suc : (k i j : ℕ) → at (suc k) i j ≡ (at k i j || (at k i k && at k k j))
  unfolding at closure_by
  at_suc k i j = has-through k (closure_by k rows) i j

  -- what pass k leaves was there before it, or goes by k
  at_cases : (k i j : ℕ) → at (suc k) i j ≡ true → (at k i j ≡ true) ⊎ ((at k i k ≡ true) × (at k k j ≡ true))
  at_cases k i j e =
      elim (or_cases (at k i j) (at k i k && at k k j) (sym (at_suc k i j) ∙ e))
      [ inl h ↦ inl h | inr h ↦ inr (and_l (at k i k) (at k k j) h, and_r (at k i k) (at k k j) h) ]

  -- what was there stays
  at_old : (k i j : ℕ) → at k i j ≡ true → at (suc k) i j ≡ true
  at_old k i j e = at_suc k i j ∙ or_l (at k i j) (at k i k && at k k j) e

  -- what goes by k comes in
  at_new : (k i j : ℕ) → at k i k ≡ true → at k k j ≡ true → at (suc k) i j ≡ true
  at_new k i j e f = at_suc k i j ∙ or_r (at k i j) (at k i k && at k k j) (both (at k i k) (at k k j) e f)

  -- pass k adds nothing to what reaches k and to what k reaches
  to_pass : (k i : ℕ) → at (suc k) i k ≡ true → at k i k ≡ true
  to_pass k i e = elim (at_cases k i k e) [ inl h ↦ h | inr h ↦ h.0 ]

  from_pass : (k j : ℕ) → at (suc k) k j ≡ true → at k k j ≡ true
  from_pass k j e = elim (at_cases k k j e) [ inl h ↦ h | inr h ↦ h.1 ]

  -- two steps by a role below k are one
  at_trans : (k i m j : ℕ) → m < k → at k i m ≡ true → at k m j ≡ true → at k i j ≡ true
  at_trans zero i m j h e f = absurd (omega arith)
  at_trans (suc k) i m j h e f =
      elim (below_or_last m k h) [
        | inr q ↦ at_new k i j (to_pass k i (rw q at e)) (from_pass k j (rw q at f))
        | inl q ↦ elim (at_cases k i m e) [
          | inl a ↦ elim (at_cases k m j f) [
            | inl b ↦ at_old k i j (at_trans k i m j q a b)
            | inr b ↦ at_new k i j (at_trans k i m k q a b.0) b.1
          ]
          | inr a ↦ elim (at_cases k m j f) [
            | inl b ↦ at_new k i j a.0 (at_trans k k m j q a.1 b)
            | inr b ↦ at_new k i j a.0 b.1
          ]
        ]
      ]

  -- what the table held at first stays
  at_first : (k i j : ℕ) → at zero i j ≡ true → at k i j ≡ true
  at_first zero i j e = e
  at_first (suc k) i j e = at_old k i j (at_first k i j e)

-- ---- chains
-- two chains, one behind the other
pub join : {p : Policy} {a b c : ℕ} → Chain p a b → Chain p b c → Chain p a c
join here q = q
join (step e c) q = step e (join c q)

-- so too chains of at least one senior word
join_below : {p : Policy} {a b c : ℕ} → Below p a b → Below p b c → Below p a c
join_below x y = record { junior = x.junior; word = x.word; chain = join x.chain (step y.word y.chain) }

-- a chain is of no word, or of at least one
pub chain-cases : {p : Policy} {a b : ℕ} → Chain p a b → (a ≡ b) ⊎ Below p a b
chain-cases here = inl refl
chain-cases (step {b = b} e c) = inr (record { junior = b; word = e; chain = c })

-- ---- the tables of a policy in range
module _ (p : Policy) (range : InRange p) where
  -- there are at most 64 roles, and senior words name roles
  pub few : p.head.roles ≤ 64
  few = range.roles.1

  pub below : (a b : ℕ) → over p a b ≡ true → (a < p.head.roles) × (b < p.head.roles)
  unfolding over
  below a b e = range.juniors a b e

  -- a chain from a role below 64 stays below 64
  pub chain-below : {a b : ℕ} → a < 64 → Chain p a b → b < 64
  chain-below h here = h
  chain-below h (step {a} {b} e c) = chain-below (lt_of_lt_of_le (below a b e).1 few) c

  -- what a row holds after the passes below k stands below its role
  at_below : (k i j : ℕ) → at p.juniors k i j ≡ true → Below p i j
  unfolding at closure_by over
  at_below zero i j e = record { junior = j; word = e; chain = here }
  at_below (suc k) i j e =
      elim (at_cases p.juniors k i j e)
      [ inl h ↦ at_below k i j h | inr h ↦ join_below (at_below k i k h.0) (at_below k k j h.1) ]

  -- a senior word is held from the first
  word_at : (i j : ℕ) → over p i j ≡ true → at p.juniors p.head.roles i j ≡ true
  unfolding at closure_by over
  word_at i j e = at_first p.juniors p.head.roles i j e

  -- what a chain of at least one senior word reaches is held after the passes below R
  chain_at : (i : ℕ) {b j : ℕ} → over p i b ≡ true → Chain p b j → at p.juniors p.head.roles i j ≡ true
  chain_at i {b} e here = word_at i b e
  chain_at i {b} {j} e (step f c) = at_trans p.juniors p.head.roles i b j (below i b e).1 (word_at i b e) (chain_at b f c)

  -- a row of the closed table holds the roles below its own
  pub below_is : (a b : ℕ) → (has (get_or (below_table p) a 0) b ≡ true) ↔ Below p a b
  unfolding below_table at
  below_is a b = (at_below p.head.roles a b, λ w. chain_at a w.word w.chain)

  -- a row of the table of roles reached holds the roles that chains reach
  pub reached_is : (a b : ℕ) → a < 64 → (has (get_or (reached p) a 0) b ≡ true) ↔ Chain p a b
  unfolding reached with_selves
  reached_is a b h =
      let below = get_or (below_table p) a 0 in
      let row : get_or (reached p) a 0 ≡ with below a = get_d_table_of 64 (λ i. with (get_or (below_table p) i 0) i) a h in (
        λ e. elim (with_cases below a b (rw row at e)) [ inl q ↦ let w = (below_is a b).0 q in step w.word w.chain | inr q ↦ rw q here ],
        λ c. rw row (elim (chain-cases c) [ inl q ↦ rw (← q) (with_new below a) | inr w ↦ union_l below (2 ^ a) b ((below_is a b).1 w) ]),
      )

  -- row a of the carried table joins the grants of the roles reached from a
  carried_at : (a : ℕ) → get_or (carried_table p) a 0 ≡ union_at p.granted (get_or (reached p) a 0)
  unfolding carried_table
  carried_at a =
      ap (λ (d : ℕ). get_or (carried_table p) a d) (sym (union_at_none p.granted)) ∙ get_or-map (union_at p.granted) (reached p) a 0

  -- a row of the carried table holds what the role carries
  pub carried_is : (a m : ℕ) → a < 64 → (has (get_or (carried_table p) a 0) m ≡ true) ↔ Carries p a m
  unfolding grants
  carried_is a m h = (
    λ e.
        let w = (has-union_at p.granted (get_or (reached p) a 0) m).0 (ap (λ (x : ℕ). has x m) (sym (carried_at a)) ∙ e) in
        record { giver = w.member; chain = (reached_is a w.member h).0 w.chosen; grant = w.holds },
    λ c.
        ap (λ (x : ℕ). has x m) (carried_at a)
        ∙ (has-union_at p.granted (get_or (reached p) a 0) m).1
        (record {
          member = c.giver;
          below = chain-below h c.chain;
          chosen = (reached_is a c.giver h).1 c.chain;
          holds = c.grant;
        }),
  )

  -- the union of the carried table's rows at a set of roles holds what the set carries
  pub provided_is : (s m : ℕ) → s < 2 ^ 64 → (has (union_at (carried_table p) s) m ≡ true) ↔ Provides p s m
  provided_is s m h = (
    λ e.
        let w = (has-union_at (carried_table p) s m).0 e in
        record { member = w.member; chosen = w.chosen; carries = (carried_is w.member m w.below).0 w.holds },
    λ c.
        let l = has_below 64 s c.member h c.chosen in
        (has-union_at (carried_table p) s m).1
        (record { member = c.member; below = l; chosen = c.chosen; holds = (carried_is c.member m l).1 c.carries }),
  )

  -- ---- through which role

  -- a row of the carried table holds the permission exactly if there is a granting role
  pub carried-named : (a m : ℕ) → has (get_or (carried_table p) a 0) m ≡ is_some (granter p m a)
  unfolding granter granter_by
  carried-named a m = ap (λ (x : ℕ). has x m) (carried_at a) ∙ union-named p.granted (get_or (reached p) a 0) m

  -- the granting role is the lowest that a chain reaches and that holds the grant
  pub granter-names : (a m g : ℕ) → a < 64 → (granter p m a ≡ some g) ↔ Granting p a m g
  unfolding granter granter_by grants
  granter-names a m g h = (
    λ e.
        let w = (lowest_some (λ k. has (get_or p.granted k 0) m) (get_or (reached p) a 0) g).0 e in
        record {
          chain = (reached_is a g h).0 w.member;
          grant = w.passes;
          lowest = λ j b c q. w.least j b ((reached_is a j h).1 c) q;
        },
    λ c.
        (lowest_some (λ k. has (get_or p.granted k 0) m) (get_or (reached p) a 0) g).1
        (record {
          small = chain-below h c.chain;
          member = (reached_is a g h).1 c.chain;
          passes = c.grant;
          least = λ j b i q. c.lowest j b ((reached_is a j h).0 i) q;
        }),
  )

  -- it is there exactly if the role carries the permission
  pub granter_is : (a m : ℕ) → a < 64 → GranterIs p a m
  granter_is a m h =
      record {
        there = (
          λ e. (carried_is a m h).0 (carried-named a m ∙ some_named e.0 (granter p m a) e.1),
          λ c. named (granter p m a) (sym (carried-named a m) ∙ (carried_is a m h).1 c),
        );
        none_there = (
          λ e c. none_unnamed (granter p m a) e (sym (carried-named a m) ∙ (carried_is a m h).1 c),
          λ n. unnamed_none (granter p m a) (λ e. n ((carried_is a m h).0 (carried-named a m ∙ e))),
        );
        names = λ g. granter-names a m g h;
      }
