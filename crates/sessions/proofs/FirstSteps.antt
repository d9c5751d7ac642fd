-- The first steps of a call: the refusals 9 to 11, which leave the ledger and the answer buffer alone.
-- Assumes nothing.
use mathlib.Core.Path.{◌≡◌, refl, sym, ap, ◌∙◌}
use mathlib.Core.Bool.{Bool, true, false, not}
use mathlib.Core.Option.{none, some}
use mathlib.Core.List.{List, [], ◌∷◌}
use Prim.Native.Nat.{ℕ, suc, ◌+◌, ◌*◌, ◌^◌, ◌≤◌, ◌<◌}
use native.Mathlib.Nat.{add-zero}
use native.Mathlib.Omega.{arith}
use lib.Dec.{eqb, ltb, leb}
use lib.ListN.{length, get_or}
use borrow.Author.Tests.{eq-eqb, ne_eqb, lt-ltb, le-ltb, eqb-true, ltb-true, le-leb, lt-leb, leb-true, leb-false, not-false}
use Rattle.model.specs.declared.Head.{Head}
use Rattle.model.specs.declared.Exclusions.{Exclusions}
use Rattle.model.specs.declared.Line.{Line}
use Rattle.model.specs.Tests.{pick, all, first}
use Rattle.model.specs.Policy.{Policy, Meaning, authorized, met, meaning}
use Rattle.model.specs.Line.{line_size, read_line, is_open, sound}
use Rattle.model.specs.Limits.{Others, nobody}
use Rattle.model.specs.Session.{Operation, open_session, close_session, ask, short_ask, show, explain, obstacle, clauses, is_ask, session_of, query_of, refuse, Result, Refusal, bad_line, bad_session, is_closed, refusal_number, can_give, other_first, applies, perform, refusal_extra, unless, rule}
use Rattle.model.specs.Run.{Call, Event, line_at, with_line, line_of, told, ruled, step_on, returned, filled_with, answered}
use Rattle.model_laws.proofs.Bools.{and_l}
use Rattle.model_laws.proofs.LedgerLaws.{apart, own_line, step_below}
use Rattle.model_laws.proofs.Reaches.{authorized_alone}
use Rattle.ledger.specs.Held.{Held}
use Rattle.sessions.specs.Calls.{Known, policy_by, first_refusal, session_refusal, Gives, Shows}

-- nested `pick`s of refusals' numbers: where they give 0, no test holds
pub pick-none : (b : Bool) (n x : ℕ) → 0 ≡ pick b (suc n) x → (b ≡ false) × (0 ≡ x)
unfolding pick
pick-none false n x h = (refl, h)
pick-none true n x h = absurd (omega arith)

-- ---- a refusal, which leaves the ledger alone
abbrev pub refused_by : ℕ → List ℕ → Event
refused_by n ledger = record { reply = refuse n 0; ledger = ledger }

pub gives-refusal : (e : Event) (n : ℕ) (ledger : List ℕ) → e ≡ refused_by n ledger → Gives e n ledger
unfolding returned refuse
gives-refusal e n ledger h =
    record { number = sym (ap (λ (x : Event). returned x.reply) h ∙ add-zero n); bytes = sym (ap (λ (x : Event). x.ledger) h) }

pub shows-refusal : (e : Event) (n : ℕ) (ledger room : List ℕ) → e ≡ refused_by n ledger → Shows e n room room
unfolding returned refuse answered filled_with
shows-refusal e n ledger room h =
    record { number = sym (ap (λ (x : Event). returned x.reply) h ∙ add-zero n); buffer = sym (ap (λ (x : Event). answered room x.reply) h) }

-- ---- 9, 10 and 11
module _ (W : ℕ) (p : Policy) (ledger : List ℕ) (u : ℕ) where
  pub first9 : (length ledger ≡ line_size W * p.head.users → ⊥) → 9 ≡ first_refusal W p ledger u
  unfolding first_refusal pick
  first9 h = simp (ne_eqb _ _ h)

  pub first10 : length ledger ≡ line_size W * p.head.users → p.head.users ≤ u → 10 ≡ first_refusal W p ledger u
  unfolding first_refusal pick
  first10 h i = simp (eq-eqb _ _ h, le-ltb _ _ i)

  pub first11 : length ledger ≡ line_size W * p.head.users → u < p.head.users → sound W (meaning p u) (line_of W ledger u) ≡ false
      → 11 ≡ first_refusal W p ledger u
  unfolding first_refusal pick
  first11 h i s = simp (eq-eqb _ _ h, lt-ltb _ _ i, s)

  pub first0 : length ledger ≡ line_size W * p.head.users → u < p.head.users → sound W (meaning p u) (line_of W ledger u) ≡ true
      → 0 ≡ first_refusal W p ledger u
  unfolding first_refusal pick
  first0 h i s = simp (eq-eqb _ _ h, lt-ltb _ _ i, s)

  -- a call that none of them refuses: the ledger fits, the user has a line, and it is sound
  pub record Ready : Type 0 where
    pub fits : length ledger ≡ line_size W * p.head.users
    pub below : u < p.head.users
    pub sound-line : sound W (meaning p u) (line_of W ledger u) ≡ true

  pub ready : 0 ≡ first_refusal W p ledger u → Ready
  unfolding first_refusal
  ready h =
      let x = pick-none _ 8 _ h in
      let y = pick-none _ 9 _ x.1 in
      let z = pick-none _ 10 _ y.1 in
      record { fits = eqb-true _ _ (not-false _ x.0); below = ltb-true _ _ (not-false _ y.0); sound-line = not-false _ z.0 }

-- ---- the session rules: the first refusal whose case holds, or the work
module _ (f : Refusal → Bool) (x : Refusal) (xs : List Refusal) where
  pub holds : f x ≡ true → first f (x ∷ xs) ≡ some x
  unfolding first
  holds e = rw (first, e)

  pub fails : f x ≡ false → first f (x ∷ xs) ≡ first f xs
  unfolding first
  fails e = rw (first, e)

pub ends : (f : Refusal → Bool) → first f [] ≡ none
unfolding first
ends f = refl

module _ (W : ℕ) (m : Meaning) (o : Others) (bs : List ℕ) (op : Operation) where
  pub rule-refuses : (x : Refusal) → first (applies W m o (read_line W bs) (session_of op) (query_of op)) (can_give op) ≡ some x
      → rule W m o bs op ≡ record { reply = refuse (refusal_number x) (refusal_extra o x); line = bs }
  unfolding rule unless
  rule-refuses x e = rw e

  pub rule_performs : first (applies W m o (read_line W bs) (session_of op) (query_of op)) (can_give op) ≡ none
      → rule W m o bs op ≡ perform W m o (read_line W bs) bs op
  unfolding rule unless
  rule_performs e = rw e

-- a line that is not sound refuses every call that is told of no other such line
rule11 : (W : ℕ) (m : Meaning) (o : Others) (bs : List ℕ) (op : Operation) → o.unsound ≡ none → sound W m (read_line W bs) ≡ false
    → rule W m o bs op ≡ record { reply = refuse 11 0; line = bs }
unfolding can_give applies refusal_number refusal_extra other_first
rule11 W m o bs op quiet e = rule-refuses W m o bs op bad_line (go op)
  where
    calm : (own : Bool) → other_first own m.user o.unsound ≡ false
    calm own = ap (other_first own m.user) quiet

    go : (op : Operation) → first (applies W m o (read_line W bs) (session_of op) (query_of op)) (can_give op) ≡ some bad_line
    go open_session = holds _ _ _ (ap not e)
    go (close_session k) = holds _ _ _ (ap not e)
    go (ask k q) = fails _ _ _ (calm _) ∙ holds _ _ _ (ap not e)
    go (short_ask k lower upper room) = fails _ _ _ (calm _) ∙ holds _ _ _ (ap not e)
    go (show k room) = holds _ _ _ (ap not e)
    go (explain k n) = holds _ _ _ (ap not e)
    go (obstacle k lower upper room) = fails _ _ _ (calm _) ∙ holds _ _ _ (ap not e)
    go (clauses k q) = fails _ _ _ (calm _) ∙ holds _ _ _ (ap not e)

module _ (W : ℕ) (p : Policy) (ledger : List ℕ) (c : Call) where
  -- under a refusal of the session rules the ledger stays
  pub ruled-refused : (n : ℕ)
      → rule W (meaning p c.user) (told W p ledger c) (line_at (line_size W) c.user ledger) c.operation
      ≡ record { reply = refuse n 0; line = line_at (line_size W) c.user ledger }
      → ruled W p ledger c ≡ refused_by n ledger
  unfolding ruled
  ruled-refused n e =
      ap (λ (r : Result). record { reply = r.reply; ledger = with_line (line_size W) c.user r.line ledger }) e
      ∙ ap (λ (l : List ℕ). record { reply = refuse n 0; ledger = l }) (own_line (line_size W) c.user ledger)

  -- a call whose first refusal is n, told of no other line that is not sound
  pub stopped : (length ledger ≡ line_size W * p.head.users → c.user < p.head.users → (told W p ledger c).unsound ≡ none)
      → (n : ℕ) → n ≡ first_refusal W p ledger c.user → (n ≡ 0 → ⊥) → step_on W p ledger c ≡ refused_by n ledger
  unfolding step_on first_refusal pick line_of
  stopped quiet n h z =
      go (eqb (length ledger) (line_size W * p.head.users)) refl (ltb c.user p.head.users) refl
      (sound W (meaning p c.user) (line_of W ledger c.user)) refl h
    where
      go : (a : Bool) → eqb (length ledger) (line_size W * p.head.users) ≡ a → (b : Bool) → ltb c.user p.head.users ≡ b
          → (x : Bool) → sound W (meaning p c.user) (line_of W ledger c.user) ≡ x
          → n ≡ pick {X = ℕ} (not a) 9 (pick {X = ℕ} (not b) 10 (pick {X = ℕ} (not x) 11 0))
          → pick (not a) (refused_by 9 ledger) (pick (not b) (refused_by 10 ledger) (ruled W p ledger c)) ≡ refused_by n ledger
      go false f b g x k h = ap (λ (i : ℕ). refused_by i ledger) (sym h)
      go true f false g x k h = ap (λ (i : ℕ). refused_by i ledger) (sym h)
      go true f true g true k h = absurd (z h)
      go true f true g false k h =
          ruled-refused 11
          (rule11 W (meaning p c.user) (told W p ledger c) (line_at (line_size W) c.user ledger) c.operation
          (quiet (eqb-true (length ledger) (line_size W * p.head.users) f) (ltb-true c.user p.head.users g)) k)
          ∙ ap (λ (i : ℕ). refused_by i ledger) (sym h)

  -- a call that is no ask is told nothing
  pub stopped_first : is_ask c.operation ≡ false → (n : ℕ) → n ≡ first_refusal W p ledger c.user → (n ≡ 0 → ⊥)
      → step_on W p ledger c ≡ refused_by n ledger
  stopped_first e = stopped (λ l b. unfold told nobody in rw (e, told))

  -- a call that none of them refuses goes by the session rules
  pub by_rules : Ready W p ledger c.user → step_on W p ledger c ≡ ruled W p ledger c
  by_rules r = step_below W p ledger r.fits c r.below

  -- the session rules' refusal, given in the case of the call
  pub refuses : Ready W p ledger c.user → (x : Refusal) → refusal_extra (told W p ledger c) x ≡ 0
      → first (applies W (meaning p c.user) (told W p ledger c) (line_of W ledger c.user) (session_of c.operation) (query_of c.operation))
      (can_give c.operation) ≡ some x
      → step_on W p ledger c ≡ refused_by (refusal_number x) ledger
  unfolding line_of
  refuses r x q e =
      by_rules r
      ∙ ruled-refused (refusal_number x)
      (rule-refuses W (meaning p c.user) (told W p ledger c) (line_at (line_size W) c.user ledger) c.operation x e
      ∙ ap (λ (n : ℕ). record { reply = refuse (refusal_number x) n; line = line_at (line_size W) c.user ledger }) q)

  -- the work, where nothing refuses
  pub performs : Ready W p ledger c.user
      → first (applies W (meaning p c.user) (told W p ledger c) (line_of W ledger c.user) (session_of c.operation) (query_of c.operation))
      (can_give c.operation) ≡ none
      → step_on W p ledger c
      ≡ (let r = perform W (meaning p c.user) (told W p ledger c) (line_of W ledger c.user) (line_at (line_size W) c.user ledger) c.operation in
      record { reply = r.reply; ledger = with_line (line_size W) c.user r.line ledger })
  unfolding line_of ruled
  performs r e =
      by_rules r
      ∙ ap (λ (x : Result). record { reply = x.reply; ledger = with_line (line_size W) c.user x.line ledger })
      (rule_performs W (meaning p c.user) (told W p ledger c) (line_at (line_size W) c.user ledger) c.operation e)

  -- a call on a session, whose first tests are the line's, the session's number and whether it is open
  module _ (r : Ready W p ledger c.user) (rest : List Refusal) (e : can_give c.operation ≡ bad_line ∷ bad_session ∷ is_closed ∷ rest) where
    refuses12 : W ≤ session_of c.operation → step_on W p ledger c ≡ refused_by 12 ledger
    unfolding applies refusal_number refusal_extra
    refuses12 h = refuses r bad_session refl (rw e (fails _ _ _ (ap not r.sound-line) ∙ holds _ _ _ (le-leb _ _ h)))

    module _ (below : session_of c.operation < W) where
      refuses13 : is_open (line_of W ledger c.user) (session_of c.operation) ≡ false → step_on W p ledger c ≡ refused_by 13 ledger
      unfolding applies refusal_number refusal_extra
      refuses13 o =
          refuses r is_closed refl
          (rw e (fails _ _ _ (ap not r.sound-line) ∙ fails _ _ _ (lt-leb _ _ below) ∙ holds _ _ _ (ap not o)))

      -- an open session: the tests that are left
      pub passes : is_open (line_of W ledger c.user) (session_of c.operation) ≡ true
          → (let test = applies W (meaning p c.user) (told W p ledger c) (line_of W ledger c.user) (session_of c.operation) (query_of c.operation) in
          first test (can_give c.operation) ≡ first test rest)
      unfolding applies
      passes o = rw e (fails _ _ _ (ap not r.sound-line) ∙ fails _ _ _ (lt-leb _ _ below) ∙ fails _ _ _ (ap not o))

    -- 12 or 13, by the line that code holds
    pub session_stopped : (l : Line) → l ≡ line_of W ledger c.user → (n : ℕ) → n ≡ session_refusal W l (session_of c.operation) → (n ≡ 0 → ⊥)
        → step_on W p ledger c ≡ refused_by n ledger
    unfolding session_refusal pick
    session_stopped l el n h z =
        go (leb W (session_of c.operation)) refl (is_open l (session_of c.operation)) refl h
      where
        go : (a : Bool) → leb W (session_of c.operation) ≡ a → (b : Bool) → is_open l (session_of c.operation) ≡ b
            → n ≡ pick {X = ℕ} a 12 (pick {X = ℕ} (not b) 13 0) → step_on W p ledger c ≡ refused_by n ledger
        go true f b g h = refuses12 (leb-true _ _ f) ∙ ap (λ (i : ℕ). refused_by i ledger) (sym h)
        go false f false g h = refuses13 (leb-false _ _ f) (rw (← el) g) ∙ ap (λ (i : ℕ). refused_by i ledger) (sym h)
        go false f true g h = absurd (z h)

-- ---- what code knows of a call that none of them refuses

-- the policy of the parts that code holds has them
pub known : (head : Head) (own : List ℕ) (xs : Exclusions) → Known head own xs (policy_by head own xs)
unfolding policy_by
known head own xs =
    record { head_is = refl; own_is = λ u l w. sym (authorized_alone (policy_by head own xs) u refl w); exclusions_are = refl }

-- the user's bytes are in the ledger
pub room : (W : ℕ) (p : Policy) (ledger : List ℕ) (u : ℕ) → Ready W p ledger u → line_size W * u + line_size W ≤ length ledger
room W p ledger u r = rw r.fits (apart (line_size W) u p.head.users r.below)

-- a row of the table of what users may activate
pub own_known : (head : Head) (rows : List ℕ) (xs : Exclusions) (p : Policy) (u own : ℕ) → Known head rows xs p → u < p.head.users
    → (own ≡ get_or rows u 0) × (own < 2 ^ 64) → own ≡ authorized p u
own_known head rows xs p u own k l e = e.0 ∙ k.own_is u l (rw (← e.0) e.1)

-- what code holds of the policy is what it holds of its meaning for a user
pub held : (head : Head) (rows : List ℕ) (xs : Exclusions) (p : Policy) (u own : ℕ) → Known head rows xs p → u < p.head.users
    → (own ≡ get_or rows u 0) × (own < 2 ^ 64) → Held head.roles own xs (meaning p u)
unfolding meaning
held head rows xs p u own k l e =
    record {
      number = ap (λ (h : Head). h.roles) k.head_is;
      allowed = sym (own_known head rows xs p u own k l e);
      exclusions = λ counted. ap (all (met counted)) (sym k.exclusions_are);
    }

-- the open bits of a sound line are those of its sessions
open_bits : (W : ℕ) (m : Meaning) (l : Line) → sound W m l ≡ true → l.opened < 2 ^ W
unfolding sound
open_bits W m l e = ltb-true l.opened (2 ^ W) (and_l _ _ (and_l _ _ (and_l _ _ e)))

-- what code that got 0 of the first refusals holds: the user's bytes are in the ledger, no bit stands for a session too
-- many, and the policy of its parts has no first refusal
pub record Passed (W : ℕ) (head : Head) (own : List ℕ) (xs : Exclusions) (ledger : List ℕ) (u : ℕ) : Type 0 where
  pub line : line_size W * u + line_size W ≤ length ledger
  pub bits : (line_of W ledger u).opened < 2 ^ W
  pub ready : (p : Policy) → Known head own xs p → Ready W p ledger u

pub passed : (W : ℕ) (head : Head) (own : List ℕ) (xs : Exclusions) (ledger : List ℕ) (u n : ℕ)
    → ((p : Policy) → Known head own xs p → n ≡ first_refusal W p ledger u) → n ≡ 0 → Passed W head own xs ledger u
passed W head own xs ledger u n e z =
    let p = policy_by head own xs in
    let r = ready W p ledger u (sym z ∙ e p (known head own xs)) in
    record {
      line = room W p ledger u r;
      bits = open_bits W (meaning p u) (line_of W ledger u) r.sound-line;
      ready = λ q k. ready W q ledger u (sym z ∙ e q k);
    }
