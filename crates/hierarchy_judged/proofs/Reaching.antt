-- What users reach: the roles that stand over nobody, and the turns of the loop that makes the table of assigned roles
-- that of the roles that each user may activate.
-- Assumes nothing.
use mathlib.Core.Path.{◌≡◌, sym, ap, subst, ◌∙◌}
use mathlib.Core.Bool.{true, false, not}
use mathlib.Core.Option.{none, some}
use mathlib.Core.List.{List, ◌++◌}
use Prim.Native.Nat.{ℕ, ◌+◌, ◌-◌, ◌^◌, ◌≤◌, ◌<◌}
use native.Mathlib.Nat.{lt_of_lt_of_le}
use native.Mathlib.Decide.{dec_lt}
use native.Mathlib.Omega.{arith}
use lib.Dec.{eqb}
use Rattle.std.proofs.lemmas.List.{get_or-take, length-take-le, get_or_append_left}
use lib.ListN.{length, get_or, set, take, length-set}
use lib.Pow.{pow_mono}
use lib.Seq.{get_or-set_same, get_or-set_other}
use borrow.Table.Steps.{cases}
use borrow.Author.Tests.{eqb-true, lt-ltb, le-ltb}
use Rattle.model.specs.Tests.{lowest}
use Rattle.model.specs.Sets.{has, inter, set_of, count, union_at}
use Rattle.model.specs.Policy.{with_selves}
use Rattle.model_laws.proofs.Bools.{both, not_both}
use Rattle.model_laws.proofs.SetLaws.{has-inter}
use Rattle.model_laws.proofs.UnionLaws.{has_none, has_below}
use Rattle.model_laws.proofs.LowestLaws.{lowest_is, has-set_of}
use Rattle.model_laws.proofs.Reaches.{reaches_itself}
use Rattle.hierarchy_judged.specs.Reach.{stands_over, Over, Few, reach_at, wide_at, Authorizes}
use Rattle.hierarchy_judged.proofs.Lowest.{lowest-all, lowest_passes, lowest_goes, lowest_ends, below_found, below_none}

-- ---- a set of roles that stand over nobody

pub reach_alone : (below : List ℕ) (seniors s : ℕ) → s < 2 ^ 64 → Over below seniors s → inter s seniors ≡ 0 → s ≡ union_at (with_selves below) s
reach_alone below seniors s small over e = sym (reaches_itself below s small (λ r h. over r h (apart r h)))
  where
    apart : (r : ℕ) → has s r ≡ true → has seniors r ≡ false
    apart r h =
        cases (has seniors r)
        (λ q. not_both (has (inter s seniors) r) (has-inter s seniors r ∙ both (has s r) (has seniors r) h q)
        (ap (λ (x : ℕ). has x r) e ∙ has_none r))
        (λ q. q)

-- the seniors among so many roles are those of a set of them
pub over-of : (below : List ℕ) (roles seniors s : ℕ) → seniors ≡ set_of (stands_over below) roles → s < 2 ^ roles → Over below seniors s
over-of below roles seniors s e small r h n =
    cases (eqb (get_or below r 0) 0) (eqb-true (get_or below r 0) 0)
    (λ q. not_both (has seniors r)
    (ap (λ (x : ℕ). has x r) e ∙ has-set_of (stands_over below) roles r (has_below roles s r small h) (ap not q)) n)

-- ---- user by user

module _ (below : List ℕ) (users : ℕ) (assigned₀ : List ℕ) where
  -- the users below u may activate at most 16 roles each, which their rows have; the other users' rows are as they were
  pub record Sofar (u : ℕ) (assigned : List ℕ) : Type 0 where
    pub lowest_so : lowest (wide_at below assigned₀) u (users - u) ≡ lowest (wide_at below assigned₀) 0 users
    pub before : (v : ℕ) → v < u → get_or assigned v 0 ≡ reach_at below assigned₀ v
    pub after : (v : ℕ) → u ≤ v → v < users → get_or assigned v 0 ≡ get_or assigned₀ v 0
    pub size : length assigned ≡ users

  pub sofar_start : users ≤ length assigned₀ → Sofar 0 (take users assigned₀)
  sofar_start l =
      record {
        lowest_so = lowest-all (wide_at below assigned₀) users;
        before = λ v k. absurd (omega arith);
        after = λ v k i. get_or-take users assigned₀ v 0 i;
        size = length-take-le users assigned₀ l;
      }

  module _ (u : ℕ) (assigned : List ℕ) (s : Sofar u assigned) where
    pub below_users : {n : ℕ} → length assigned ≡ n → u < n → u < users
    below_users e l = omega (arith, s.size)

    -- the row of user u is still that of the assigned roles
    pub over_at : (roles seniors : ℕ) → u < users → seniors ≡ set_of (stands_over below) roles → Few roles assigned₀
        → Over below seniors (get_or assigned u 0)
    over_at roles seniors l e f = over-of below roles seniors (get_or assigned u 0) e (rw (s.after u (omega arith) l) (f u).0)

    module _ (reached n : ℕ) (l : u < users) (er : reached ≡ union_at (with_selves below) (get_or assigned u 0)) (en : n ≡ count 64 reached) where
      reached_is : reached ≡ reach_at below assigned₀ u
      reached_is = er ∙ ap (union_at (with_selves below)) (s.after u (omega arith) l)

      counted : n ≡ count 64 (reach_at below assigned₀ u)
      counted = en ∙ ap (count 64) reached_is

      -- user u may activate more than 16
      pub sofar_stops : 16 < n → (own : List ℕ) → Authorizes below users assigned₀ (some u) own
      sofar_stops h own =
          let wide = lt-ltb 16 (count 64 (reach_at below assigned₀ u)) (omega (arith, counted)) in
          record {
            lowest_is = below_found users u _ l (lowest_passes (wide_at below assigned₀) users u l wide ∙ s.lowest_so);
            rows = λ e. cc;
          }

      -- else the row is stored
      pub sofar_next : n ≤ 16 → Sofar (u + 1) (set assigned u reached)
      sofar_next h =
          let narrow = le-ltb 16 (count 64 (reach_at below assigned₀ u)) (omega (arith, counted)) in
          record {
            lowest_so = lowest_goes (wide_at below assigned₀) users u l narrow ∙ s.lowest_so;
            before = λ v k.
                elim (dec_lt v u) [
                  | yes q ↦ get_or-set_other assigned u v reached 0 (λ e. absurd (omega arith)) ∙ s.before v q
                  | no q ↦
                      let e : v ≡ u = omega arith in
                      subst (λ (x : ℕ). get_or (set assigned u reached) x 0 ≡ reach_at below assigned₀ x) (sym e)
                      (get_or-set_same assigned u reached 0 (omega (arith, s.size)) ∙ reached_is)
                ];
            after = λ v k i. get_or-set_other assigned u v reached 0 (λ e. absurd (omega arith)) ∙ s.after v (omega arith) i;
            size = simp length-set s.size;
          }

    -- no user is left
    pub sofar_ends : users ≤ u → (tail : List ℕ) → Authorizes below users assigned₀ none (assigned ++ tail)
    sofar_ends h tail =
        record {
          lowest_is = below_none users _ (omega (arith, lowest_ends (wide_at below assigned₀) users u h, s.lowest_so));
          rows = λ k v l. get_or_append_left assigned tail 0 v (omega (arith, s.size)) ∙ s.before v (omega arith);
        }

  -- where no role stands over another, each row is right as it is
  pub flat_alone : (roles : ℕ) → roles ≤ 64 → ((r : ℕ) → r < roles → get_or below r 0 ≡ 0) → Few roles assigned₀
      → Authorizes below users assigned₀ none assigned₀
  flat_alone roles r flat f =
      let w = lowest_is (wide_at below assigned₀) 0 users in
      let u : ℕ = lowest (wide_at below assigned₀) 0 users in
      record {
        lowest_is =
            elim (dec_lt u users) [
              | yes q ↦ not_both (wide_at below assigned₀ u) (w.passes (omega arith)) (narrow u)
              | no q ↦ below_none users u (omega arith)
            ];
        rows = λ k v l. alone v;
      }
    where
      alone : (v : ℕ) → get_or assigned₀ v 0 ≡ reach_at below assigned₀ v
      alone v =
          let s = get_or assigned₀ v 0 in
          sym (reaches_itself below s (lt_of_lt_of_le (f v).0 (pow_mono r)) (λ a h. flat a (has_below roles s a (f v).0 h)))

      narrow : (v : ℕ) → wide_at below assigned₀ v ≡ false
      narrow v = le-ltb 16 (count 64 (reach_at below assigned₀ v)) (omega (arith, ap (count 64) (alone v), (f v).1))

  -- by the seniors, of whom there are none
  pub all_alone : (roles seniors : ℕ) → roles ≤ 64 → seniors ≡ set_of (stands_over below) roles → Few roles assigned₀ → seniors ≡ 0
      → Authorizes below users assigned₀ none assigned₀
  all_alone roles seniors r e f z = flat_alone roles r flat f
    where
      flat : (a : ℕ) → a < roles → get_or below a 0 ≡ 0
      flat a l =
          cases (eqb (get_or below a 0) 0) (eqb-true (get_or below a 0) 0)
          (λ q. not_both (has seniors a) (ap (λ (x : ℕ). has x a) e ∙ has-set_of (stands_over below) roles a l (ap not q))
          (ap (λ (x : ℕ). has x a) z ∙ has_none a))
