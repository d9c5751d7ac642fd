-- Limits are kept: a call changes how many sessions hold a role on one line alone, and there it puts in no role over
-- its limit.
-- Assumes nothing.
use mathlib.Core.Path.{◌≡◌, refl, sym, ap, ◌∙◌, subst}
use mathlib.Core.Logic.{inl, inr}
use mathlib.Core.Bool.{Bool, true, false, not}
use mathlib.Core.Option.{Option, none, some}
use mathlib.Core.List.{List, [], ◌∷◌}
use Prim.Native.Nat.{ℕ, zero, suc, ◌+◌, ◌*◌, ◌^◌, ◌≤◌, ◌<◌}
use native.Mathlib.Nat.{le_refl}
use native.Mathlib.Omega.{arith}
use lib.Dec.{eqb, ltb}
use lib.ListN.{length, get_or, replicate}
use borrow.Author.Tests.{eqb-true, eqb-false, eq-eqb, ne_eqb, ltb-true, not-true, not-false}
use borrow.Table.Steps.{cases}
use Rattle.model.specs.declared.Head.{Head}
use Rattle.model.specs.declared.Line.{Line}
use Rattle.model.specs.declared.Checked.TheVariants.{Accepted}
use Rattle.model.specs.Tests.{pick, first}
use Rattle.model.specs.Sets.{has, sum_to}
use Rattle.model.specs.Judgement.{judge}
use Rattle.model.specs.Policy.{Policy, policy_of, limited, has_limits, Meaning, meaning}
use Rattle.model.specs.Line.{line_size, read_line, session_at, holding, sound}
use Rattle.model.specs.Limits.{Others}
use Rattle.model.specs.Session.{Operation, open_session, close_session, ask, short_ask, show, explain, obstacle, clauses, session_of, query_of, is_ask, puts_in, refuse, Result, Refusal, bad_other, bad_line, can_give, applies, perform, unless, rule}
use Rattle.model.specs.Run.{Call, Event, line_at, line_of, holding_of, held_by_others, others_of, told, step_on, step, run}
use Rattle.model.specs.Ranges.{Each, InRange}
use Rattle.model.specs.Kept.{Antitone}
use Rattle.model_limits.specs.Card.{holding_all, WithinLimit, WithinLimits, active_at, LimitsKept}
use Rattle.model_laws.proofs.Bools.{pick-case}
use Rattle.model_laws.proofs.LedgerLaws.{step_below, step_own, step_other, step_on_lem}
use Rattle.model_laws.proofs.Reaches.{few_roles, own_below}
use Rattle.model_laws.proofs.Judgements.{accepted_in_range}
use Rattle.model_laws.proofs.MetLaws.{meaning_antitone}
use Rattle.model_laws.proofs.ZeroLaws.{zero_holding, zero_lines}
use Rattle.model_laws.proofs.CallLaws.{first-none, refusal-number}
use Rattle.model_laws.proofs.Barred.{some_limited_lem}
use Rattle.model_laws.proofs.CallsKept.{Carded, RoleKept, line, performed_kept, performed_card}

-- ---- sums over users
pub sum_same : (f g : ℕ → ℕ) (n : ℕ) → ((v : ℕ) → f v ≡ g v) → sum_to f n ≡ sum_to g n
unfolding sum_to
sum_same f g zero h = refl
sum_same f g (suc n) h = λ i. h n i + sum_same f g n h i

sum-zero : (f : ℕ → ℕ) (n : ℕ) → ((v : ℕ) → v < n → f v ≡ 0) → sum_to f n ≡ 0
unfolding sum_to
sum-zero f zero h = refl
sum-zero f (suc n) h = omega (arith, h n (le_refl (suc n)), sum-zero f n (λ v i. h v (omega arith)))

-- the others, where u is not among the first n
sum_none : (f : ℕ → ℕ) (u n : ℕ) → n ≤ u → sum_to (λ v. pick (eqb v u) 0 (f v)) n ≡ sum_to f n
unfolding sum_to pick
sum_none f u zero h = refl
sum_none f u (suc n) h =
    ap (λ (b : Bool). pick b 0 (f n) + sum_to (λ v. pick (eqb v u) 0 (f v)) n) (ne_eqb n u (λ e. omega arith))
    ∙ ap (λ (k : ℕ). f n + k) (sum_none f u n (omega arith))

-- u and the others
pub sum_split : (f : ℕ → ℕ) (u n : ℕ) → u < n → sum_to f n ≡ f u + sum_to (λ v. pick (eqb v u) 0 (f v)) n
unfolding sum_to pick
sum_split f u zero h = absurd (omega arith)
sum_split f u (suc n) h =
    cases (eqb n u)
    (λ e. rw e (ap (λ (k : ℕ). f k + sum_to f n) (eqb-true n u e) ∙ omega (arith, eqb-true n u e, sum_none f u n (omega (arith, eqb-true n u e)))))
    (λ e. let q = eqb-false n u e in rw e (omega (arith, sum_split f u n (omega arith))))

-- a call that puts roles in looks at the other users
putting_asks : (op : Operation) → puts_in op ≡ true → is_ask op ≡ true
unfolding puts_in is_ask
putting_asks open_session e = e
putting_asks (close_session k) e = e
putting_asks (ask k q) e = e
putting_asks (short_ask k lower upper room) e = e
putting_asks (show k room) e = e
putting_asks (explain k n) e = e
putting_asks (obstacle k lower upper room) e = refl
putting_asks (clauses k q) e = refl

-- ---- one call on a line, sound or not
module _ (W : ℕ) (m : Meaning) (wide : W ≤ 64) (small : m.roles ≤ 64) (own : m.authorized < 2 ^ m.roles) (anti : Antitone m)
    (x : Others) (bs : List ℕ) where
  -- what is not refused finds a sound line
  free_sound : (op : Operation) → first (applies W m x (read_line W bs) (session_of op) (query_of op)) (can_give op) ≡ none
      → sound W m (read_line W bs) ≡ true
  unfolding can_give
  free_sound op e = not-false (sound W m (read_line W bs)) (unfold applies in (go op e))
    where
      go : (op : Operation) → first (applies W m x (read_line W bs) (session_of op) (query_of op)) (can_give op) ≡ none
          → applies W m x (read_line W bs) (session_of op) (query_of op) bad_line ≡ false
      go open_session e = (first-none _ bad_line _ e).0
      go (close_session k) e = (first-none _ bad_line _ e).0
      go (ask k q) e = (first-none _ bad_line _ (first-none _ bad_other _ e).1).0
      go (short_ask k lower upper room) e = (first-none _ bad_line _ (first-none _ bad_other _ e).1).0
      go (show k room) e = (first-none _ bad_line _ e).0
      go (explain k n) e = (first-none _ bad_line _ e).0
      go (obstacle k lower upper room) e = (first-none _ bad_line _ (first-none _ bad_other _ e).1).0
      go (clauses k q) e = (first-none _ bad_line _ (first-none _ bad_other _ e).1).0

  rule_kept : (op : Operation) (r : ℕ) → RoleKept m x op (read_line W bs) r (read_line W (rule W m x bs op).line)
  unfolding rule
  rule_kept op r = go (first (applies W m x (read_line W bs) (session_of op) (query_of op)) (can_give op)) refl
    where
      go : (o : Option Refusal) → first (applies W m x (read_line W bs) (session_of op) (query_of op)) (can_give op) ≡ o
          → RoleKept m x op (read_line W bs) r (read_line W (unless x o bs (perform W m x (read_line W bs) bs op)).line)
      go none e = unfold unless line in performed_kept W m wide small own anti x bs (free_sound op e) op r e
      go (some f) e = unfold unless in inl (le_refl (holding r (read_line W bs).sessions))

  rule_card : (op : Operation) (r : ℕ) → puts_in op ≡ true → (rule W m x bs op).reply.number ≡ 0
      → has (session_at (read_line W (rule W m x bs op).line) (session_of op)).active r ≡ true → Carded m x r (read_line W (rule W m x bs op).line)
  unfolding rule
  rule_card op r a = go (first (applies W m x (read_line W bs) (session_of op) (query_of op)) (can_give op)) refl
    where
      go : (o : Option Refusal) → first (applies W m x (read_line W bs) (session_of op) (query_of op)) (can_give op) ≡ o
          → (unless x o bs (perform W m x (read_line W bs) bs op)).reply.number ≡ 0
          → has (session_at (read_line W (unless x o bs (perform W m x (read_line W bs) bs op)).line) (session_of op)).active r ≡ true
          → Carded m x r (read_line W (unless x o bs (perform W m x (read_line W bs) bs op)).line)
      go none e = unfold unless line in performed_card W m wide small own anti x bs (free_sound op e) op r a e
      go (some f) e = unfold unless refuse in (λ z h. absurd (refusal-number f z))

-- ---- one call on a ledger, under a policy in range

module _ (W : ℕ) (wide : W ≤ 64) (p : Policy) (g : InRange p) (l : List ℕ) (c : Call) where
  -- what an ask is told of a limited role
  told-held : (r : ℕ) → is_ask c.operation ≡ true → limited p.limits r ≡ true → (told W p l c).held r ≡ held_by_others W p c.user l r
  unfolding told others_of has_limits pick
  told-held r a e = rw (some_limited_lem p.limits r e, a, told) (ap (λ (b : Bool). pick b (held_by_others W p c.user l r) 0) e)

  -- the user's answer and line, by the session rules
  abbrev rule_of : Result
  rule_of = rule W (meaning p c.user) (told W p l c) (line_at (line_size W) c.user l) c.operation

  module _ (hl : length l ≡ line_size W * p.head.users) (hu : c.user < p.head.users) where
    own_is : ◌≡◌ {A = Result} (record { reply = (step_on W p l c).reply; line = line_at (line_size W) c.user (step_on W p l c).ledger }) rule_of
    own_is = step_own W p l hl c c.user (eq-eqb c.user c.user refl) hu

    own_line : line_of W (step_on W p l c).ledger c.user ≡ read_line W rule_of.line
    unfolding line_of
    own_line = ap (λ (x : Result). read_line W x.line) own_is

    -- the others' sessions stay
    others_same : (r : ℕ) → held_by_others W p c.user (step_on W p l c).ledger r ≡ held_by_others W p c.user l r
    unfolding held_by_others holding_of line_of pick
    others_same r =
        sum_same _ _ p.head.users
        (λ v.
        cases (eqb v c.user) (λ e. rw e)
        (λ e.
        rw e
        (ap (λ (ys : List ℕ). holding r (read_line W ys).sessions)
        (step_other W p l hl c v (ne_eqb c.user v (λ q. eqb-false v c.user e (sym q)))))))

    -- all of them: the user's and the others'
    all_split : (ledger : List ℕ) (r : ℕ)
        → holding_all W p ledger r ≡ holding r (line_of W ledger c.user).sessions + held_by_others W p c.user ledger r
    unfolding holding_all held_by_others holding_of
    all_split ledger r = sum_split (λ v. holding r (line_of W ledger v).sessions) c.user p.head.users hu

    all_after : (r : ℕ) → holding_all W p (step_on W p l c).ledger r ≡ holding r (read_line W rule_of.line).sessions + held_by_others W p c.user l r
    all_after r =
        all_split (step_on W p l c).ledger r ∙ (λ i. holding r (own_line i).sessions + others_same r i)

    -- a role within its limit on the user's line is within it
    carded : (r : ℕ) → is_ask c.operation ≡ true → Carded (meaning p c.user) (told W p l c) r (read_line W rule_of.line)
        → WithinLimit W p (step_on W p l c).ledger r
    unfolding meaning
    carded r a f e =
        let k = f e in
        let h = told-held r a e in
        omega (arith, all_after r)

    ruled_kept : WithinLimits W p l → WithinLimits W p (step_on W p l c).ledger
    unfolding meaning line_of
    ruled_kept f r =
        elim (rule_kept W (meaning p c.user) wide (few_roles p g c.user) (own_below p g c.user) (meaning_antitone p c.user)
        (told W p l c) (line_at (line_size W) c.user l) c.operation r) [
          | inl k ↦ (λ e. let h = f r e in omega (arith, all_after r, all_split l r))
          | inr k ↦ carded r k.0 k.1
        ]

    ruled_card : (r : ℕ) → puts_in c.operation ≡ true → (step_on W p l c).reply.number ≡ 0
        → has (active_at W (step_on W p l c).ledger c) r ≡ true → WithinLimit W p (step_on W p l c).ledger r
    unfolding active_at
    ruled_card r a z h =
        carded r (putting_asks c.operation a)
        (rule_card W (meaning p c.user) wide (few_roles p g c.user) (own_below p g c.user) (meaning_antitone p c.user) (told W p l c)
        (line_at (line_size W) c.user l) c.operation r a (ap (λ (x : Result). x.reply.number) (sym own_is) ∙ z)
        (ap (λ (y : Line). has (session_at y (session_of c.operation)).active r) (sym own_line) ∙ h))

  -- a call is refused by 9 or 10, or goes by the session rules
  step-cases : (P : Event → Type 0) → ((n : ℕ) → ¬ (n ≡ 0) → P (record { reply = refuse n 0; ledger = l }))
      → (length l ≡ line_size W * p.head.users → c.user < p.head.users → P (step_on W p l c)) → P (step_on W p l c)
  unfolding step_on pick
  step-cases P f h =
      pick-case P (not (eqb (length l) (line_size W * p.head.users))) _ _ (λ e. f 9 (λ q. omega arith))
      (λ e.
      pick-case P (not (ltb c.user p.head.users)) _ _ (λ k. f 10 (λ q. omega arith))
      (λ k.
      let hl = eqb-true (length l) (line_size W * p.head.users) (not-false _ e) in
      let hu = ltb-true c.user p.head.users (not-false _ k) in
      subst P (step_below W p l hl c hu) (h hl hu)))

  step_on_kept : WithinLimits W p l → WithinLimits W p (step_on W p l c).ledger
  step_on_kept f = step-cases (λ e. WithinLimits W p e.ledger) (λ n h. f) (λ hl hu. ruled_kept hl hu f)

  step_on_card : (r : ℕ) → puts_in c.operation ≡ true → (step_on W p l c).reply.number ≡ 0
      → has (active_at W (step_on W p l c).ledger c) r ≡ true → WithinLimit W p (step_on W p l c).ledger r
  step_on_card r a =
      step-cases (λ e. e.reply.number ≡ 0 → has (active_at W e.ledger c) r ≡ true → WithinLimit W p e.ledger r)
      (λ i h z k. unfold refuse in absurd (h z)) (λ hl hu. ruled_card hl hu r a)

-- ---- runs under an accepted image
module _ (W : ℕ) (wide : W ≤ 64) (s : List ℕ) (h : Head) (accepted : judge s ≡ Accepted h) where
  ranged : InRange (policy_of s)
  ranged = accepted_in_range s h accepted

  call_kept : (l : List ℕ) → WithinLimits W (policy_of s) l → (c : Call) → WithinLimits W (policy_of s) (step W s l c).ledger
  call_kept l f c = rw (step_on_lem W s h accepted l c) (step_on_kept W wide (policy_of s) ranged l c f)

  call_card : (l : List ℕ) (c : Call) → puts_in c.operation ≡ true → (step W s l c).reply.number ≡ 0
      → (r : ℕ) → has (active_at W (step W s l c).ledger c) r ≡ true → WithinLimit W (policy_of s) (step W s l c).ledger r
  call_card l c a z r =
      subst
      (λ (e : Event). e.reply.number ≡ 0 → has (active_at W e.ledger c) r ≡ true → WithinLimit W (policy_of s) e.ledger r)
      (sym (step_on_lem W s h accepted l c)) (step_on_card W wide (policy_of s) ranged l c r a) z

  along : (l : List ℕ) → WithinLimits W (policy_of s) l → (cs : List Call)
      → Each (λ e. WithinLimits W (policy_of s) e.ledger) (run W s l cs)
  unfolding run
  along l f [] = tt
  along l f (c ∷ cs) = let k = call_kept l f c in (k, along (step W s l c).ledger k cs)

  -- nobody holds a role in the zero ledger
  zero_within : WithinLimits W (policy_of s) (replicate (line_size W * (policy_of s).head.users) 0)
  unfolding holding_all holding_of line_of limited
  zero_within r e =
      let z = sum-zero (λ v. holding r (read_line W (line_at (line_size W) v (replicate (line_size W * (policy_of s).head.users) 0))).sessions)
      (policy_of s).head.users
      (λ v i. ap (λ (ys : List ℕ). holding r (read_line W ys).sessions) (zero_lines (line_size W) v (policy_of s).head.users i) ∙ zero_holding W r) in
      let n = eqb-false (get_or (policy_of s).limits r 0) 0 (not-true (eqb (get_or (policy_of s).limits r 0) 0) e) in
      omega arith

  -- Limits are kept.
  pub limits_kept : LimitsKept W s
  limits_kept = record { card = call_card; call = call_kept; along = along; from_zero = λ cs. along _ zero_within cs }
