-- The roles that no limit bars: by the counts of other sessions, and all of the user's own where no role has a limit.
-- Assumes nothing.
use mathlib.Core.Path.{◌≡◌, refl, sym, ap, ◌∙◌, subst}
use mathlib.Core.Bool.{Bool, true, false, ◌&&◌, ◌||◌, not}
use mathlib.Core.Logic.{◌⊎◌, inl, inr}
use mathlib.Core.List.{List}
use Prim.Native.Nat.{ℕ, ◌+◌, ◌-◌, ◌^◌, ◌≤◌, ◌<◌}
use native.Mathlib.Numerals.{add-one}
use native.Mathlib.Decide.{dec_lt}
use native.Mathlib.Omega.{arith}
use lib.Bits.{bit_and, bit_or, and_zero_r, or_zero_r}
use lib.Dec.{eqb, ltb, leb}
use lib.ListN.{length, get_or, drop, drop_of_length-le}
use lib.Seq.{drop-cons}
use borrow.Author.Tests.{eqb-true, eqb-false, eq-eqb, ne_eqb, lt-ltb, le-ltb, lt-leb, le-leb}
use borrow.Table.Steps.{cases}
use Rattle.model.specs.Tests.{pick, any}
use Rattle.model.specs.Sets.{has, within, set_of, sum_to, count}
use Rattle.model.specs.Policy.{Policy, limited, has_limits, authorized, meaning}
use Rattle.model.specs.Line.{SESSIONS, holding, others}
use Rattle.model.specs.Limits.{elsewhere, barred, unbarred}
use Rattle.model.specs.Session.{is_ask}
use Rattle.model.specs.Run.{Call, line_of, holding_of, held_by_others, others_of, told}
use Rattle.model_laws.proofs.Bools.{or_r, and_l, bool_ext, not_both}
use Rattle.model_laws.proofs.AnyWidth.{same_sets}
use Rattle.model_laws.proofs.UnionLaws.{has_none, has_below}
use Rattle.model_laws.proofs.LowestLaws.{set_of-has, has-set_of}
use Rattle.model_laws.proofs.Inclusion.{within_union_r}
use Rattle.model_laws.proofs.Barred.{some_limited_lem}
use Rattle.model_limits.proofs.CardProof.{sum_same, sum_split}
use Rattle.limits_held.specs.Held.{held_but, held_by_all}
use Rattle.sets.specs.Members.{without, Lowest}
use Rattle.sets.proofs.Taken.{without_lt, without_other}
use Rattle.limits_left.specs.Left.{stays, Unlimited, Left}

-- ---- some role has a limit, from role i on
abbrev pub given : ℕ → Bool
given t = not (eqb t 0)

-- a union is empty where both sets are
second_none : (a b : ℕ) → bit_or a b ≡ 0 → b ≡ 0
unfolding within
second_none a b o = sym (eqb-true (bit_and b (bit_or a b)) b (within_union_r a b)) ∙ ap (bit_and b) o ∙ and_zero_r b

or-none : (x : Bool) → x ≡ (x || false)
or-none true = refl
or-none false = refl

given_or : (a b : ℕ) → given (bit_or a b) ≡ (given a || given b)
given_or a b = go (eqb b 0) refl
  where
    go : (x : Bool) → eqb b 0 ≡ x → given (bit_or a b) ≡ (given a || given b)
    go true e = rw (eqb-true b 0 e, or_zero_r a) (or-none (given a))
    go false e = ap not (ne_eqb (bit_or a b) 0 (λ o. eqb-false b 0 e (second_none a b o))) ∙ sym (or_r (given a) (given b) (ap not e))

-- what is found before role i and what comes from it on, with one role more
pub any_next : (ls : List ℕ) (found i : ℕ) → i < length ls
    → (given (bit_or found (get_or ls i 0)) || any given (drop (i + 1) ls)) ≡ (given found || any given (drop i ls))
unfolding any
any_next ls found i h =
    rw (add-one i, drop-cons ls i 0 h, given_or found (get_or ls i 0)) (again (given found) (given (get_or ls i 0)) _)
  where
    again : (x y z : Bool) → ((x || y) || z) ≡ (x || (y || z))
    again true y z = refl
    again false y z = refl

pub any_end : (ls : List ℕ) (found i : ℕ) → length ls ≤ i → given found ≡ (given found || any given (drop i ls))
unfolding any
any_end ls found i h = rw (drop_of_length-le ls h) (or-none (given found))

-- ---- a role stays, or does not
ltb_not : (a b : ℕ) → ltb a b ≡ not (leb b a)
ltb_not a b =
    elim (dec_lt a b) [
      | yes l ↦ lt-ltb a b l ∙ sym (ap not (lt-leb b a l))
      | no l ↦ le-ltb a b (omega arith) ∙ sym (ap not (le-leb b a (omega arith)))
    ]

module _ (own t n r : ℕ) where
  pub stays_none : has own r ≡ false → false ≡ stays own t n r
  unfolding stays
  stays_none e = rw e

  pub stays_free : has own r ≡ true → t ≡ 0 → true ≡ stays own t n r
  unfolding stays
  stays_free e z = rw (e, eq-eqb t 0 z)

  pub stays-under : (m : ℕ) → has own r ≡ true → (t ≡ 0 → ⊥) → m ≡ n → ltb m (t - 1) ≡ stays own t n r
  unfolding stays
  stays-under m h e f = rw (h, ne_eqb t 0 e) (ap (λ (i : ℕ). ltb i (t - 1)) f ∙ ltb_not n (t - 1))

-- ---- the counts are those that an ask is told
module _ (p : Policy) (ledger : List ℕ) (u k : ℕ) (below : u < p.head.users) where
  -- session k of the user left out, the user's other sessions and the others'
  all_split : (r : ℕ) → held_by_all ledger u k p.head.users r
      ≡ holding r (others k (line_of SESSIONS ledger u).sessions) + held_by_others SESSIONS p u ledger r
  unfolding held_by_all held_by_others held_but pick
  all_split r =
      sum_split (held_but ledger u k r) u p.head.users below
      ∙ ap (λ (b : Bool). pick b (holding r (others k (line_of SESSIONS ledger u).sessions)) (holding_of SESSIONS ledger r u)
      + sum_to (λ v. pick (eqb v u) 0 (held_but ledger u k r v)) p.head.users) (eq-eqb u u refl)
      ∙ ap (λ (n : ℕ). holding r (others k (line_of SESSIONS ledger u).sessions) + n)
      (sum_same (λ v. pick (eqb v u) 0 (held_but ledger u k r v)) (λ v. pick (eqb v u) 0 (holding_of SESSIONS ledger r v)) p.head.users
      (λ v. go (eqb v u) (holding r (others k (line_of SESSIONS ledger u).sessions)) (holding_of SESSIONS ledger r v)))
    where
      go : (b : Bool) (m n : ℕ) → pick b 0 (pick b m n) ≡ pick b 0 n
      go true m n = refl
      go false m n = refl

  module _ (c : Call) (same : c.user ≡ u) (a : is_ask c.operation ≡ true) (limits : has_limits p ≡ true) where
    told-held : (r : ℕ) → limited p.limits r ≡ true → (told SESSIONS p ledger c).held r ≡ held_by_others SESSIONS p u ledger r
    unfolding told others_of pick
    told-held r e =
        rw (limits, a, told)
        (ap (λ (b : Bool). pick b (held_by_others SESSIONS p c.user ledger r) 0) e ∙ ap (λ (v : ℕ). held_by_others SESSIONS p v ledger r) same)

    elsewhere_is : (r : ℕ) → limited p.limits r ≡ true
        → elsewhere (told SESSIONS p ledger c) (line_of SESSIONS ledger u) k r ≡ held_by_all ledger u k p.head.users r
    unfolding elsewhere
    elsewhere_is r e = omega (arith, told-held r e, all_split r)

    -- the same roles are barred
    stays_same : (count : ℕ → ℕ) → ((r : ℕ) → count r ≡ held_by_all ledger u k p.head.users r) → (r : ℕ)
        → (has (authorized p u) r && not (barred (meaning p u) (told SESSIONS p ledger c) (line_of SESSIONS ledger u) k r))
        ≡ stays (authorized p u) (get_or p.limits r 0) (count r) r
    unfolding barred stays limited meaning
    stays_same count e r = cases (limited p.limits r) (λ q. rw (q, elsewhere_is r q, e r)) (λ q. rw q)

-- by the counts
pub left-counted : (p : Policy) (ledger : List ℕ) (u k own : ℕ) (limits : List ℕ) (count : ℕ → ℕ) (s : ℕ) → u < p.head.users
    → authorized p u ≡ own → p.limits ≡ limits → any given limits ≡ true → ((r : ℕ) → count r ≡ held_by_all ledger u k p.head.users r)
    → s ≡ set_of (λ r. stays own (get_or limits r 0) (count r) r) 64 → Left p ledger u k s
unfolding unbarred has_limits meaning
left-counted p ledger u k own limits count s below eo el some e es c same a =
    (λ i. set_of (λ r. stays_same p ledger u k below c same a (ap (any given) el ∙ some) count e r i) 64)
    ∙ (λ i. set_of (λ r. stays (eo i) (get_or (el i) r 0) (count r) r) 64) ∙ sym es

-- where none of the user's own roles has a limit
pub left-all : (p : Policy) (ledger : List ℕ) (u k own : ℕ) (limits : List ℕ) → authorized p u ≡ own → own < 2 ^ 64 → p.limits ≡ limits
    → Unlimited limits own → Left p ledger u k own
unfolding unbarred barred meaning
left-all p ledger u k own limits eo small el free c same a =
    same_sets _ own (λ r. bool_ext _ (has own r)
    (λ h. subst (λ (s : ℕ). has s r ≡ true) eo (and_l (has (authorized p u) r) _ (set_of-has _ 64 r h).0))
    (λ h. has-set_of _ 64 r (has_below 64 own r small h)
    (rw (eo, el, h, free r h))))

-- ---- a walk through the roles of a set: those that are passed have no limit
pub record Walked (limits : List ℕ) (set left : ℕ) : Type 0 where
  pub small : left < 2 ^ 64
  pub rest : (r : ℕ) → has set r ≡ true → (has left r ≡ true) ⊎ (limited limits r ≡ false)

pub walked_none : (limits : List ℕ) (set : ℕ) → set < 2 ^ 64 → Walked limits set set
walked_none limits set h = record { small = h; rest = λ r m. inl m }

pub walked_end : (limits : List ℕ) (set left : ℕ) → Walked limits set left → left ≡ 0 → Unlimited limits set
walked_end limits set left w e r h = go (w.rest r h)
  where
    go : (has left r ≡ true) ⊎ (limited limits r ≡ false) → limited limits r ≡ false
    go (inl m) = not_both (has 0 r) (ap (λ (s : ℕ). has s r) (sym e) ∙ m) (has_none r)
    go (inr f) = f

module _ (limits : List ℕ) (set left i less : ℕ) (w : Walked limits set left) (low : Lowest left i) (e : less ≡ without left i) where
  -- one role more is passed
  pub walked_next : get_or limits i 0 ≡ 0 → Walked limits set less
  unfolding limited
  walked_next z =
      record {
        small = rw e (without_lt 64 left i w.small low.small);
        rest = λ r h. cases (eqb r i) (λ x. inr (rw (eqb-true r i x) (ap not (eq-eqb (get_or limits i 0) 0 z)))) (λ x. go r x (w.rest r h));
      }
    where
      go : (r : ℕ) → eqb r i ≡ false → (has left r ≡ true) ⊎ (limited limits r ≡ false) → (has less r ≡ true) ⊎ (limited limits r ≡ false)
      go r x (inr f) = inr f
      go r x (inl h) = inl (ap (λ (s : ℕ). has s r) e ∙ without_other left i r low.member (eqb-false r i x) ∙ h)

pub one-limited : (limits : List ℕ) (i : ℕ) → (get_or limits i 0 ≡ 0 → ⊥) → any given limits ≡ true
unfolding limited
one-limited limits i z = some_limited_lem limits i (ap not (ne_eqb (get_or limits i 0) 0 z))
