-- The refusals of an ask before the search, case by case, and what holds where there is none.
-- Assumes nothing.
use mathlib.Core.Path.{◌≡◌, refl, sym, ap, ◌∙◌}
use mathlib.Core.Bool.{Bool, true, false, not, ◌&&◌, ◌||◌}
use mathlib.Core.Option.{none}
use mathlib.Core.List.{List, []}
use Prim.Native.Nat.{ℕ, zero, suc, ◌+◌, ◌*◌, ◌^◌, ◌≤◌, ◌<◌}
use native.Mathlib.Omega.{arith}
use lib.Dec.{eqb, ltb}
use lib.ListN.{length, take}
use borrow.Table.Steps.{cases}
use borrow.Author.Tests.{not-true, not-false, lt-ltb, le-ltb, eq-eqb, ne_eqb, eqb-true}
use Rattle.model.specs.declared.Head.{Head}
use Rattle.model.specs.declared.Exclusions.{Exclusions}
use Rattle.model.specs.Tests.{pick}
use Rattle.model.specs.Sets.{within}
use Rattle.model.specs.Bytes.{number}
use Rattle.model.specs.Policy.{Policy}
use Rattle.model.specs.Line.{line_size}
use Rattle.model.specs.Session.{is_ask}
use Rattle.model.specs.Run.{Call, line_of, told}
use Rattle.model_laws.proofs.Reaches.{authorized_alone}
use Rattle.sessions.specs.Calls.{Known, first_refusal, session_refusal}
use Rattle.limits_lines.specs.Lines.{others_refusal}
use Rattle.query_rank.specs.declared.objective.Objective.{Objective}
use Rattle.query_rank.specs.declared.objective.Objective.TheVariants.{Any, Fewest, Most}
use Rattle.query_rank.specs.Objectives.{number_of}
use Rattle.reasons.specs.declared.Refusal.{Refusal}
use Rattle.reasons.specs.Numbers.{code_of}
use Rattle.reasons.proofs.Small.{number_of-numbered}
use Rattle.asks_request.specs.Refusals.{or_else, bounds_refusal, sizes, Bounded, query_refusal, ask_refusal, limited_refusal}
use Rattle.sessions.proofs.FirstSteps.{pick-none, Ready, ready, room as first-room}
use Rattle.sessions.proofs.SessionTests.{Session, session_open}
use Rattle.limits_lines.proofs.Blaming.{others-quiet}

-- ---- one refusal before others
pub or_first : (n a b : ℕ) → n ≡ a → (n ≡ 0 → ⊥) → n ≡ or_else a b
unfolding or_else
or_first n zero b e z = absurd (z e)
or_first n (suc a) b e z = e

pub or_second : (n a m b : ℕ) → n ≡ a → n ≡ 0 → m ≡ b → m ≡ or_else a b
unfolding or_else
or_second n zero m b e z f = f
or_second n (suc a) m b e z f = absurd (omega arith)

-- none of them
or-none : (a b : ℕ) → 0 ≡ or_else a b → (0 ≡ a) × (0 ≡ b)
unfolding or_else
or-none zero b e = (refl, e)
or-none (suc a) b e = absurd (omega arith)

-- a refusal has a number
pub coded : (r : Refusal) → code_of r ≡ 0 → ⊥
coded r z = let h = number_of-numbered r.reason in absurd (omega (arith, h, z))

-- ---- 16 to 19, by the tests that code makes one after the other

-- an objective's number
pub aim_small : (o : Objective) (n : ℕ) → number_of o ≡ n → n ≤ 2
aim_small Any n e = omega arith
aim_small Fewest n e = omega arith
aim_small Most n e = omega arith

module _ (P lower upper a b room : ℕ) (x : Bool) (ex : x ≡ ltb lower (2 ^ P)) where
  pub bounds16_lower : x ≡ false → 16 ≡ bounds_refusal P lower upper a b room
  unfolding bounds_refusal pick
  bounds16_lower e = simp (sym ex ∙ e)

  module _ (e : x ≡ true) (y : Bool) (ey : y ≡ ltb upper (2 ^ P)) where
    pub bounds16_upper : y ≡ false → 16 ≡ bounds_refusal P lower upper a b room
    unfolding bounds_refusal pick
    bounds16_upper f = simp (sym ex ∙ e, sym ey ∙ f)

    module _ (f : y ≡ true) (z : Bool) (ez : z ≡ within lower upper) where
      pub bounds17 : z ≡ false → 17 ≡ bounds_refusal P lower upper a b room
      unfolding bounds_refusal pick
      bounds17 g = simp (sym ex ∙ e, sym ey ∙ f, sym ez ∙ g)

      module _ (g : z ≡ true) where
        -- the bounds are right: the objectives and the buffer are left
        nested : bounds_refusal P lower upper a b room ≡ pick (ltb 2 a || ltb 2 b) 18 (pick (not (eqb room 40)) 19 0)
        unfolding bounds_refusal pick
        nested = simp (sym ex ∙ e, sym ey ∙ f, sym ez ∙ g)

        pub bounds18_first : 2 < a → 18 ≡ bounds_refusal P lower upper a b room
        unfolding pick
        bounds18_first h = rw nested (simp (lt-ltb 2 a h))

        pub bounds18_second : a ≤ 2 → 2 < b → 18 ≡ bounds_refusal P lower upper a b room
        unfolding pick
        bounds18_second h i = rw nested (simp (le-ltb 2 a h, lt-ltb 2 b i))

        pub bounds19 : a ≤ 2 → b ≤ 2 → (room ≡ 40 → ⊥) → 19 ≡ bounds_refusal P lower upper a b room
        unfolding pick
        bounds19 h i r = rw nested (simp (le-ltb 2 a h, le-ltb 2 b i, ne_eqb room 40 r))

        pub bounds0 : a ≤ 2 → b ≤ 2 → room ≡ 40 → 0 ≡ bounds_refusal P lower upper a b room
        unfolding pick
        bounds0 h i r = rw nested (simp (le-ltb 2 a h, le-ltb 2 b i, eq-eqb room 40 r))

-- ---- 15, and the bounds behind it
module _ (P : ℕ) (sized : Bool) (lower upper a b room : ℕ) where
  pub query15 : not sized ≡ true → 15 ≡ query_refusal P sized lower upper a b room
  unfolding query_refusal pick
  query15 e = simp (not-true sized e)

  pub query_bounds : (n : ℕ) → not sized ≡ false → n ≡ bounds_refusal P lower upper a b room → n ≡ query_refusal P sized lower upper a b room
  unfolding query_refusal pick
  query_bounds n e g = simp (not-false sized e) g

  -- nothing about the query refuses it: the tests of 15 to 19
  pub record Query : Type 0 where
    pub lengths : sized ≡ true
    pub permissions : (ltb lower (2 ^ P) && ltb upper (2 ^ P)) ≡ true
    pub nested : within lower upper ≡ true
    pub aims : (ltb 2 a || ltb 2 b) ≡ false
    pub space : eqb room 40 ≡ true

  query_right : 0 ≡ query_refusal P sized lower upper a b room → Query
  unfolding query_refusal bounds_refusal
  query_right h =
      let s = pick-none _ 14 _ h in
      let t = pick-none _ 15 _ s.1 in
      let w = pick-none _ 16 _ t.1 in
      let x = pick-none _ 17 _ w.1 in
      let r = pick-none _ 18 _ x.1 in
      record {
        lengths = not-false _ s.0;
        permissions = not-false _ t.0;
        nested = not-false _ w.0;
        aims = x.0;
        space = not-false _ r.0;
      }

  -- what the tests say
  module _ (q : Query) where
    room_40 : room ≡ 40
    room_40 = eqb-true _ _ q.space

-- ---- bounds read from bytes
module _ (sized : Bool) (from to : ℕ) (lower upper : List ℕ) (e : Bounded sized from to lower upper) where
  -- what refuses them is what refuses the bytes
  query-of : (P a b room : ℕ) → query_refusal P sized from to a b room ≡ query_refusal P (sizes lower upper) (number lower) (number upper) a b room
  unfolding query_refusal pick
  query-of P a b room =
      cases sized
      (λ t. rw (sym e.sized_is ∙ t, t, e.lower-is t, e.upper_is t))
      (λ f. rw (sym e.sized_is ∙ f, f))

  pub limited-of : (W : ℕ) (p : Policy) (ledger : List ℕ) (u k a b room : ℕ)
      → limited_refusal W p ledger u k sized from to a b room
      ≡ limited_refusal W p ledger u k (sizes lower upper) (number lower) (number upper) a b room
  unfolding limited_refusal ask_refusal
  limited-of W p ledger u k a b room = rw (query-of p.head.permissions a b room)

-- ---- the whole
module _ (W : ℕ) (p : Policy) (ledger : List ℕ) (u k : ℕ) (sized : Bool) (lower upper a b room : ℕ) where
  -- an ask that nothing before the search refuses
  pub record AskReady : Type 0 where
    pub first : Ready W p ledger u
    pub session : Session W (line_of W ledger u) k
    pub query : Query p.head.permissions sized lower upper a b room

  pub ask_ready : 0 ≡ ask_refusal W p ledger u k sized lower upper a b room → AskReady
  unfolding ask_refusal
  ask_ready h =
      let x = or-none (first_refusal W p ledger u) (or_else (session_refusal W (line_of W ledger u) k)
      (query_refusal p.head.permissions sized lower upper a b room)) h in
      let y = or-none (session_refusal W (line_of W ledger u) k) (query_refusal p.head.permissions sized lower upper a b room) x.1 in
      record {
        first = ready W p ledger u x.0;
        session = session_open W (line_of W ledger u) k y.0;
        query = query_right p.head.permissions sized lower upper a b room y.1;
      }

-- a policy that has these parts and limits
unfoldable pub limited_by : Head → List ℕ → Exclusions → List ℕ → Policy
limited_by head own xs limits =
    record {
      head = head;
      assigned = own;
      granted = [];
      juniors = [];
      exclusions = take xs.count xs.list;
      limits = limits;
    }

known_limited : (head : Head) (own : List ℕ) (xs : Exclusions) (limits : List ℕ) → Known head own xs (limited_by head own xs limits)
unfolding limited_by
known_limited head own xs limits =
    record { head_is = refl; own_is = λ u l w. sym (authorized_alone (limited_by head own xs limits) u refl w); exclusions_are = refl }

-- what code that got 0 of them holds: numbers and lengths within their bounds, and for the policy of its parts an ask
-- that may be searched
pub record Passed (W : ℕ) (head : Head) (own : List ℕ) (xs : Exclusions) (limits ledger : List ℕ) (u k : ℕ) (sized : Bool)
    (from to a b room : ℕ) : Type 0 where
  pub user : u < head.users
  pub fits : length ledger ≡ line_size W * head.users
  pub line : line_size W * u + line_size W ≤ length ledger
  pub session : k < W
  pub lengths : sized ≡ true
  pub space : room ≡ 40
  pub ready : (p : Policy) → Known head own xs p → p.limits ≡ limits → (lower upper : List ℕ) → Bounded sized from to lower upper
      → AskReady W p ledger u k (sizes lower upper) (number lower) (number upper) a b room
  pub quiet : (p : Policy) → Known head own xs p → p.limits ≡ limits → (c : Call) → c.user ≡ u → is_ask c.operation ≡ true
      → (told W p ledger c).unsound ≡ none

module _ (W : ℕ) (head : Head) (own : List ℕ) (xs : Exclusions) (limits ledger : List ℕ) (u k : ℕ) (sized : Bool) (from to a b room n : ℕ)
    (e : (p : Policy) → Known head own xs p → p.limits ≡ limits → n ≡ limited_refusal W p ledger u k sized from to a b room) (z : n ≡ 0) where
  none_of : (p : Policy) → Known head own xs p → p.limits ≡ limits
      → (0 ≡ others_refusal W p ledger u) × (0 ≡ ask_refusal W p ledger u k sized from to a b room)
  unfolding limited_refusal
  none_of p h l = or-none (others_refusal W p ledger u) (ask_refusal W p ledger u k sized from to a b room) (sym z ∙ e p h l)

  ask_for : (p : Policy) → Known head own xs p → p.limits ≡ limits → AskReady W p ledger u k sized from to a b room
  ask_for p h l = ask_ready W p ledger u k sized from to a b room (none_of p h l).1

  ready_of : (p : Policy) → Known head own xs p → p.limits ≡ limits → (lower upper : List ℕ) → Bounded sized from to lower upper
      → AskReady W p ledger u k (sizes lower upper) (number lower) (number upper) a b room
  ready_of p h l lower upper e =
      let r = ask_for p h l in
      let t = r.query.lengths in
      rw (← e.sized_is, ← e.lower-is t, ← e.upper_is t) r

  -- it is told of no line that is not sound
  quiet_for : (p : Policy) → Known head own xs p → p.limits ≡ limits → (c : Call) → c.user ≡ u → is_ask c.operation ≡ true
      → (told W p ledger c).unsound ≡ none
  quiet_for p h l c same a =
      let r = (ask_for p h l).first in
      let i : c.user < p.head.users = rw same r.below in
      others-quiet W p ledger c a ((none_of p h l).0 ∙ ap (others_refusal W p ledger) (sym same)) r.fits i

  pub passed : Passed W head own xs limits ledger u k sized from to a b room
  unfolding limited_by
  passed =
      let p = limited_by head own xs limits in
      let r = ask_for p (known_limited head own xs limits) refl in
      let q = r.query in
      let P = head.permissions in
      record {
        user = r.first.below;
        fits = r.first.fits;
        line = first-room W p ledger u r.first;
        session = r.session.below;
        lengths = q.lengths;
        space = room_40 P sized from to a b room q;
        ready = λ p h l lower upper e. ready_of p h l lower upper e;
        quiet = quiet_for;
      }
