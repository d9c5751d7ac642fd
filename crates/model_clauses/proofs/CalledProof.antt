-- The clause text of a call, read back, is about the sets that an ask of the same session may be answered with.
-- Assumes nothing.
use mathlib.Core.Path.{◌≡◌, refl, sym, ap, ◌∙◌, subst}
use mathlib.Core.Bool.{Bool, true, false, ◌&&◌, ◌||◌, not, true≢false}
use mathlib.Core.Logic.{◌↔◌}
use mathlib.Core.Option.{Option, none, some}
use mathlib.Core.List.{List, [], ◌∷◌}
use Prim.Native.Nat.{ℕ, ◌+◌, ◌*◌, ◌^◌, ◌≤◌, ◌<◌}
use native.Mathlib.Nat.{lt_of_lt_of_le}
use native.Mathlib.Omega.{arith}
use lib.Pow.{pow_mono}
use lib.Dec.{eqb, ltb}
use lib.ListN.{length, get_or}
use borrow.Author.Tests.{eqb-true, ltb-true, ltb-false, le-ltb, leb-false, not-false}
use Rattle.model.specs.declared.Head.{Head}
use Rattle.model.specs.declared.Line.{Line}
use Rattle.model.specs.declared.Checked.{Checked}
use Rattle.model.specs.declared.Checked.TheVariants.{Accepted, Refused}
use Rattle.model.specs.Tests.{pick, first}
use Rattle.model.specs.Sets.{has}
use Rattle.model.specs.Bytes.{number}
use Rattle.model.specs.Judgement.{judge}
use Rattle.model.specs.Policy.{Policy, policy_of, limited, has_limits, Meaning, meaning}
use Rattle.model.specs.Line.{line_size, read_line, sound, holding, put_in, exclusions_met}
use Rattle.model.specs.Limits.{Others, unbarred}
use Rattle.model.specs.Choice.{carried_by, admissible}
use Rattle.model.specs.Chosen.{Unbarred}
use Rattle.model.specs.Conditions.{Permitted}
use Rattle.model.specs.Session.{Query, ask, short_ask, short_aim, clauses, is_ask, Reply, refuse, given, wrote, Result, Refusal, bad_other, bad_line, bad_session, is_closed, bad_set, bad_permission, bad_bounds, bad_aim, bad_room, no_set, refusal_number, refusal_extra, can_give, chosen, text_for, is_none, applies, asked, perform, session_of, query_of, unless, rule}
use Rattle.model.specs.Run.{Call, Event, line_at, line_of, held_by_others, others_of, told, ruled, step_on, step_by, step, ask_by, short_ask_by, clauses_by}
use Rattle.model_laws.proofs.Bools.{and_l}
use Rattle.model_laws.proofs.CallLaws.{first-none, refusal-number}
use Rattle.model_laws.proofs.LineLaws.{length-read_sessions}
use Rattle.model_laws.proofs.SoundLaws.{sound-parts}
use Rattle.model_laws.proofs.LedgerLaws.{step_below, step_on_lem}
use Rattle.model_laws.proofs.Barred.{some_limited_lem, admissible-unbarred}
use Rattle.model_laws.proofs.ImageNumbers.{Numbered}
use Rattle.model_laws.proofs.Judgements.{judge-numbered, accepted_in_range}
use Rattle.model_laws.proofs.Theorems.{chosen_is, permitted_is}
use Rattle.model.specs.Clauses.{permission_variable, hard, soft, top}
use Rattle.model.specs.Dimacs.{variables_of}
use Rattle.model_clauses.specs.Satisfied.{Valuation, satisfies_all, named, violated, HardIs, SoftIs}
use Rattle.model_clauses.specs.Reading.{Problem, read_text}
use Rattle.model_clauses.specs.Called.{MayAnswer, TextSays, CallSays}
use Rattle.model_clauses.proofs.Meant.{Meant, meant, left_meant}
use Rattle.model_clauses.proofs.ClauseProof
use Rattle.model_clauses.proofs.ClauseWeights
use Rattle.model_clauses.proofs.DimacsProof
use Rattle.model_clauses.proofs.ReadingProof

skip : (f : Refusal → Bool) (r : Refusal) (rs : List Refusal) → f r ≡ false → first f (r ∷ rs) ≡ first f rs
unfolding first
skip f r rs e = rw (e, first)

hit : (f : Refusal → Bool) (r : Refusal) (rs : List Refusal) → f r ≡ true → first f (r ∷ rs) ≡ some r
unfolding first
hit f r rs e = rw (e, first)

-- ---- the session rules: what a done clause text tells of an ask with the same bounds
module _ (W : ℕ) (m : Meaning) (x : Others) (bs : List ℕ) (k : ℕ) (lower upper : List ℕ) where
  abbrev line : Line
  line = read_line W bs

  abbrev query : ℕ → ℕ → ℕ → Query
  query a b room = record { lower = lower; upper = upper; permission_aim = a; role_aim = b; room = room }

  -- the refusals that do not apply, at a call that is done
  record Free (q : Query) : Type 0 where
    other : applies W m x line k q bad_other ≡ false
    own : applies W m x line k q bad_line ≡ false
    session : applies W m x line k q bad_session ≡ false
    closed : applies W m x line k q is_closed ≡ false
    bounds : applies W m x line k q bad_set ≡ false
    permission : applies W m x line k q bad_permission ≡ false
    within : applies W m x line k q bad_bounds ≡ false
    aim : applies W m x line k q bad_aim ≡ false

  text_free : (q : Query) → (rule W m x bs (clauses k q)).reply.number ≡ 0
      → Free q × ((rule W m x bs (clauses k q)).reply.filled ≡ text_for m x line k q)
  unfolding rule session_of query_of can_give
  text_free q = go (first (applies W m x line k q) (can_give (clauses k q))) refl
    where
      go : (o : Option Refusal) → first (applies W m x line k q) (can_give (clauses k q)) ≡ o
          → (unless x o bs (perform W m x line bs (clauses k q))).reply.number ≡ 0
          → Free q × ((unless x o bs (perform W m x line bs (clauses k q))).reply.filled ≡ text_for m x line k q)
      go none e z =
          let f = applies W m x line k q in
          let a1 = first-none f bad_other _ e in
          let a2 = first-none f bad_line _ a1.1 in
          let a3 = first-none f bad_session _ a2.1 in
          let a4 = first-none f is_closed _ a3.1 in
          let a5 = first-none f bad_set _ a4.1 in
          let a6 = first-none f bad_permission _ a5.1 in
          let a7 = first-none f bad_bounds _ a6.1 in
          let a8 = first-none f bad_aim _ a7.1 in (
            record {
              other = a1.0;
              own = a2.0;
              session = a3.0;
              closed = a4.0;
              bounds = a5.0;
              permission = a6.0;
              within = a7.0;
              aim = a8.0;
            },
            unfold unless perform wrote in refl,
          )
      go (some f) e z = absurd (refusal-number f (unfold unless refuse in z))

  -- the same for an ask with the same bounds and the objectives given
  ask_free : (a b room c d : ℕ) → c ≤ 2 → d ≤ 2 → Free (query a b room) → Free (query c d 40)
  unfolding applies
  ask_free a b room c d hc hd free =
      record {
        other = free.other;
        own = free.own;
        session = free.session;
        closed = free.closed;
        bounds = free.bounds;
        permission = free.permission;
        within = free.within;
        aim = rw (le-ltb 2 c hc, le-ltb 2 d hd);
      }

  -- so it is refused by 20 or done, by what the choice gives
  by_choice : (q : Query) (o : Option ℕ) → chosen m x line k q ≡ o
      → unless x (first (applies W m x line k q) (no_set ∷ [])) bs (asked m line bs k o) ≡ asked m line bs k o
  unfolding applies is_none unless refusal_number refusal_extra asked first
  by_choice q none e = ap (λ o. unless x o bs (asked m line bs k none)) (hit (applies W m x line k q) no_set [] (ap is_none e))
  by_choice q (some s) e = ap (λ o. unless x o bs (asked m line bs k (some s))) (skip (applies W m x line k q) no_set [] (ap is_none e))

  ask_is : (c d : ℕ) → Free (query c d 40) → rule W m x bs (ask k (query c d 40)) ≡ asked m line bs k (chosen m x line k (query c d 40))
  unfolding rule session_of query_of can_give perform
  ask_is c d free =
      let f = applies W m x line k (query c d 40) in
      ap (λ o. unless x o bs (asked m line bs k (chosen m x line k (query c d 40))))
      (skip f bad_other _ free.other ∙ skip f bad_line _ free.own ∙ skip f bad_session _ free.session ∙ skip f is_closed _ free.closed
      ∙ skip f bad_set _ free.bounds ∙ skip f bad_permission _ free.permission ∙ skip f bad_bounds _ free.within
      ∙ skip f bad_aim _ free.aim ∙ skip f bad_room _ right_room)
      ∙ by_choice (query c d 40) (chosen m x line k (query c d 40)) refl
    where
      right_room : applies W m x line k (query c d 40) bad_room ≡ false
      right_room = unfold applies in refl

  -- and so is a short ask, whose objectives are both 1
  short_is : (c d : ℕ) → Free (query c d 40) → rule W m x bs (short_ask k lower upper 40) ≡ asked m line bs k (chosen m x line k (query 1 1 40))
  unfolding rule session_of query_of can_give perform short_aim
  short_is c d free =
      let f = applies W m x line k (query 1 1 40) in
      let g = ask_free c d 40 1 1 (omega arith) (omega arith) free in
      ap (λ o. unless x o bs (asked m line bs k (chosen m x line k (query 1 1 40))))
      (skip f bad_other _ g.other ∙ skip f bad_line _ g.own ∙ skip f bad_session _ g.session ∙ skip f is_closed _ g.closed
      ∙ skip f bad_set _ g.bounds ∙ skip f bad_permission _ g.permission ∙ skip f bad_bounds _ g.within ∙ skip f bad_room _ right_room)
      ∙ by_choice (query 1 1 40) (chosen m x line k (query 1 1 40)) refl
    where
      right_room : applies W m x line k (query 1 1 40) bad_room ≡ false
      right_room = unfold applies in refl

-- ---- the call on a ledger

-- an answer's number tells whether there was a choice
asked-number : (m : Meaning) (l : Line) (bs : List ℕ) (k : ℕ) (o : Option ℕ) → ((asked m l bs k o).reply.number ≡ 20) ↔ (o ≡ none)
unfolding asked refuse given
asked-number m l bs k none = (λ e. refl, λ e. refl)
asked-number m l bs k (some s) = (λ e. absurd (omega arith), λ e. let z : ◌≡◌ {A = ℕ} 0 1 = cc in absurd (omega arith))

asked-given : (m : Meaning) (l : Line) (bs : List ℕ) (k : ℕ) (o : Option ℕ) → (asked m l bs k o).reply.number ≡ 0
    → (s : ℕ) × (o ≡ some s) × ((asked m l bs k o).reply ≡ given s (carried_by m s))
unfolding asked refuse
asked-given m l bs k none e = absurd (omega arith)
asked-given m l bs k (some s) e = (s, refl, refl)

-- a call that is done is of a user with a line, on a ledger that fits
done-fits : (W : ℕ) (p : Policy) (ledger : List ℕ) (c : Call) → (step_on W p ledger c).reply.number ≡ 0
    → (length ledger ≡ line_size W * p.head.users) × (c.user < p.head.users)
unfolding step_on pick refuse
done-fits W p ledger c = go (eqb (length ledger) (line_size W * p.head.users)) (ltb c.user p.head.users) refl refl
  where
    go : (y z : Bool) → eqb (length ledger) (line_size W * p.head.users) ≡ y → ltb c.user p.head.users ≡ z
        → (pick (not y) (record { reply = refuse 9 0; ledger = ledger })
        (pick (not z) (record { reply = refuse 10 0; ledger = ledger }) (ruled W p ledger c))).reply.number
        ≡ 0
        → (length ledger ≡ line_size W * p.head.users) × (c.user < p.head.users)
    go false z d e n = absurd (omega arith)
    go true false d e n = absurd (omega arith)
    go true true d e n = (eqb-true _ _ d, ltb-true _ _ e)

-- a call of a user with a line is answered by the session rules
by_rules : (W : ℕ) (image : List ℕ) (h : Head) → judge image ≡ Accepted h → (ledger : List ℕ) (c : Call)
    → length ledger ≡ line_size W * (policy_of image).head.users → c.user < (policy_of image).head.users
    → (step W image ledger c).reply
    ≡ (rule W (meaning (policy_of image) c.user) (told W (policy_of image) ledger c) (line_at (line_size W) c.user ledger) c.operation).reply
unfolding ruled
by_rules W image h e ledger c fits below =
    ap (λ (v : Event). v.reply) (step_on_lem W image h e ledger c ∙ step_below W (policy_of image) ledger fits c below)

module _ (W : ℕ) (image : List ℕ) (h : Head) (accepted : judge image ≡ Accepted h) (ledger : List ℕ) (u k : ℕ) (lower upper : List ℕ) (a b room : ℕ)
    (fits : length ledger ≡ line_size W * (policy_of image).head.users) (below : u < (policy_of image).head.users) where
  abbrev p : Policy
  p = policy_of image

  abbrev m : Meaning
  m = meaning (policy_of image) u

  -- the text is told what an ask is told
  abbrev x : Others
  x = told W (policy_of image) ledger (clauses_by u k lower upper a b room)

  abbrev bs : List ℕ
  bs = line_at (line_size W) u ledger

  abbrev l : Line
  l = read_line W (line_at (line_size W) u ledger)

  abbrev asks : ℕ → ℕ → Query
  asks c d = record { lower = lower; upper = upper; permission_aim = c; role_aim = d; room = 40 }

  abbrev texts : Query
  texts = record { lower = lower; upper = upper; permission_aim = a; role_aim = b; room = room }

  text_reply : (step W image ledger (clauses_by u k lower upper a b room)).reply ≡ (rule W m x bs (clauses k texts)).reply
  unfolding clauses_by
  text_reply = by_rules W image h accepted ledger (clauses_by u k lower upper a b room) fits below

  ask_reply : (c d : ℕ) → (step W image ledger (ask_by u k lower upper c d 40)).reply ≡ (rule W m x bs (ask k (asks c d))).reply
  unfolding ask_by clauses_by told is_ask
  ask_reply c d = by_rules W image h accepted ledger (ask_by u k lower upper c d 40) fits below

  short_reply : (step W image ledger (short_ask_by u k lower upper 40)).reply ≡ (rule W m x bs (short_ask k lower upper 40)).reply
  unfolding short_ask_by clauses_by told is_ask
  short_reply = by_rules W image h accepted ledger (short_ask_by u k lower upper 40) fits below

  -- what it is told of a limited role
  told-held : (r : ℕ) → limited p.limits r ≡ true → x.held r ≡ held_by_others W p u ledger r
  unfolding told others_of has_limits pick clauses_by is_ask
  told-held r e = rw (some_limited_lem p.limits r e, told) (ap (λ (y : Bool). pick y (held_by_others W p u ledger r) 0) e)

  -- the sets that may answer are those permitted under what is told
  may_answer : (s : ℕ) → Permitted p u x l k (number lower) (number upper) s ↔ MayAnswer W p ledger u k (number lower) (number upper) s
  unfolding line_of meaning
  may_answer s = (
    λ w. record {
      admitted = w.admitted;
      card = λ r i e. subst (λ (n : ℕ). n + holding r (put_in k s l).sessions < get_or p.limits r 0) (told-held r e) (w.card r i e);
    },
    λ w. record {
      admitted = w.admitted;
      card = λ r i e. subst (λ (n : ℕ). n + holding r (put_in k s l).sessions < get_or p.limits r 0) (sym (told-held r e)) (w.card r i e);
    },
  )

  -- what the policy means without barred roles, and the sets that are admissible then
  means : Meant m
  means = meant p (accepted_in_range image h accepted) u

  left_means : Meant (unbarred m x l k)
  left_means = left_meant m means x l k

  left-admissible : (t : ℕ) → (admissible (unbarred m x l k) l k (number lower) (number upper) t ≡ true)
      ↔ ((admissible m l k (number lower) (number upper) t ≡ true) × Unbarred m x l k t)
  left-admissible = admissible-unbarred m x l k (lt_of_lt_of_le means.own (pow_mono means.roles.1)) (number lower) (number upper)

  -- where the text is done
  module _ (free : Free W m x bs k lower upper texts) where
    is_sound : sound W m l ≡ true
    unfolding applies
    is_sound = not-false (sound W m l) free.own

    inside : k < length l.sessions
    unfolding applies read_line
    inside = rw (length-read_sessions W _) (leb-false W k free.session)

    low : number lower < 2 ^ p.head.permissions
    unfolding applies meaning
    low =
        ltb-true _ _
        (and_l (ltb (number lower) (2 ^ p.head.permissions)) (ltb (number upper) (2 ^ p.head.permissions))
        (not-false (ltb (number lower) (2 ^ p.head.permissions) && ltb (number upper) (2 ^ p.head.permissions)) free.permission))

    met-left : exclusions_met (unbarred m x l k) l ≡ true
    unfolding exclusions_met unbarred
    met-left = (sound-parts m l W is_sound).met

    low_left : number lower < 2 ^ (unbarred m x l k).permissions
    unfolding unbarred meaning
    low_left = low

    hard_is : HardIs (unbarred m x l k) l k (number lower) (number upper)
    hard_is = ClauseProof.hard_is (unbarred m x l k) left_means l k (number lower) (number upper) inside met-left low_left

    soft_is : (c d : ℕ) → SoftIs (unbarred m x l k) l k (number lower) (number upper) c d
    soft_is = ClauseWeights.soft_is (unbarred m x l k) left_means l k (number lower) (number upper) inside met-left low_left

    abbrev models : Valuation → Bool
    models v = satisfies_all v (hard (unbarred m x l k) l k (number lower) (number upper))

    abbrev said : Problem
    said =
        record {
          heading = record {
            variables = variables_of (unbarred m x l k) l k;
            clauses = length (hard (unbarred m x l k) l k (number lower) (number upper)) + length (soft (unbarred m x l k) a b);
            top = top (soft (unbarred m x l k) a b);
          };
          hard = hard (unbarred m x l k) l k (number lower) (number upper);
          soft = soft (unbarred m x l k) a b;
        }

    text_said : read_text (text_for m x l k texts) ≡ some said
    unfolding text_for
    text_said =
        ReadingProof.reads (unbarred m x l k) l k (number lower) (number upper) a b
        (DimacsProof.text_is (unbarred m x l k) left_means l k (number lower) (number upper) inside met-left a b)

    -- a model names a set that is admissible without barred roles, and such a set has a model
    model_names : (v : Valuation) → models v ≡ true
        → (admissible m l k (number lower) (number upper) (named m v) ≡ true) × Unbarred m x l k (named m v)
    unfolding named unbarred
    model_names v e = (left-admissible (named m v)).0 (hard_is.names v e).0

    set_model : (s : ℕ) → (admissible m l k (number lower) (number upper) s ≡ true) × Unbarred m x l k s
        → (v : Valuation) × (models v ≡ true) × (named m v ≡ s)
    unfolding named unbarred
    set_model s w =
        let e = hard_is.extends s ((left-admissible s).1 w) in (e.0, e.1, e.2)

    permitted : (s : ℕ) → ((admissible m l k (number lower) (number upper) s ≡ true) × Unbarred m x l k s)
        ↔ MayAnswer W p ledger u k (number lower) (number upper) s
    permitted s =
        let e = permitted_is image h accepted u l k (number lower) (number upper) s inside x in
        let f = may_answer s in
        (λ w. f.0 (e.0 w), λ w. e.1 (f.1 w))

    -- an ask has no set exactly if there is no model
    no_model : (c d : ℕ) → (chosen m x l k (asks c d) ≡ none) ↔ ((v : Valuation) → models v ≡ false)
    no_model c d =
        let e = (chosen_is image h accepted u x l k (asks c d)).is-none in
        (λ n v. go n v (models v) refl, λ f. e.1 (λ t a b. let w = set_model t (a, b) in true≢false (sym w.1 ∙ f w.0)))
      where
        go : chosen m x l k (asks c d) ≡ none → (v : Valuation) (y : Bool) → models v ≡ y → models v ≡ false
        go n v false q = q
        go n v true q =
            let w = model_names v q in absurd ((chosen_is image h accepted u x l k (asks c d)).is-none.0 n (named m v) w.0 w.1)

    asked_is : (c d : ℕ) → c ≤ 2 → d ≤ 2
        → (step W image ledger (ask_by u k lower upper c d 40)).reply ≡ (asked m l bs k (chosen m x l k (asks c d))).reply
    asked_is c d i j =
        ask_reply c d ∙ ap (λ (r : Result). r.reply) (ask_is W m x bs k lower upper c d (ask_free W m x bs k lower upper a b room c d i j free))

    short_asked : (step W image ledger (short_ask_by u k lower upper 40)).reply ≡ (asked m l bs k (chosen m x l k (asks 1 1))).reply
    short_asked =
        short_reply
        ∙ ap (λ (r : Result). r.reply)
        (short_is W m x bs k lower upper 1 1 (ask_free W m x bs k lower upper a b room 1 1 (omega arith) (omega arith) free))

    -- a model's permissions
    model_carries : (v : Valuation) → models v ≡ true → (q : ℕ) → q < p.head.permissions
        → v (permission_variable m q) ≡ has (carried_by m (named m v)) q
    unfolding named unbarred carried_by meaning
    model_carries v e q i = (hard_is.names v e).1.permissions q i

    low_aims : (a ≤ 2) × (b ≤ 2)
    unfolding applies
    low_aims = go (ltb 2 a) (ltb 2 b) refl refl free.aim
      where
        go : (y z : Bool) → ltb 2 a ≡ y → ltb 2 b ≡ z → (y || z) ≡ false → (a ≤ 2) × (b ≤ 2)
        go true z d e f = absurd (true≢false f)
        go false true d e f = absurd (true≢false f)
        go false false d e f = (ltb-false 2 a d, ltb-false 2 b e)

    best : (s : ℕ) → chosen m x l k (asks a b) ≡ some s → (v : Valuation) → models v ≡ true → named m v ≡ s → (w : Valuation) → models w ≡ true
        → violated v (soft (unbarred m x l k) a b) ≤ violated w (soft (unbarred m x l k) a b)
    unfolding chosen named unbarred
    best s e v i n w j = (soft_is a b).least v i (e ∙ ap {B = Option ℕ} some (sym n)) w j

    says : TextSays W image ledger u k lower upper a b said
    says =
        record {
          names = λ v e. (permitted (named m v)).0 (model_names v e);
          carries = model_carries;
          extends = λ s w. set_model s ((permitted s).1 w);
          twenty = λ c d i j.
              let q = asked-number m l bs k (chosen m x l k (asks c d)) in
              let f = no_model c d in
              let e = ap (λ (r : Reply). r.number) (asked_is c d i j) in
              (λ n. f.0 (q.0 (sym e ∙ n)), λ n. e ∙ q.1 (f.1 n));
          short_twenty =
              let q = asked-number m l bs k (chosen m x l k (asks 1 1)) in
              let f = no_model 1 1 in
              let e = ap (λ (r : Reply). r.number) short_asked in
              (λ n. f.0 (q.0 (sym e ∙ n)), λ n. e ∙ q.1 (f.1 n));
          optimum = λ e.
              let q = asked_is a b low_aims.0 low_aims.1 in
              let w = asked-given m l bs k (chosen m x l k (asks a b)) (sym (ap (λ (r : Reply). r.number) q) ∙ e) in
              (w.0, q ∙ w.2, best w.0 w.1);
        }

-- ---- any image

-- a call that is done has an accepted image
done_accepted : (W : ℕ) (image ledger : List ℕ) (c : Call) → (step W image ledger c).reply.number ≡ 0 → (h : Head) × (judge image ≡ Accepted h)
unfolding step
done_accepted W image ledger c = go (judge image) refl
  where
    go : (v : Checked) → judge image ≡ v → (step_by W v (policy_of image) ledger c).reply.number ≡ 0 → (h : Head) × (judge image ≡ Accepted h)
    go (Accepted h) e n = (h, e)
    go (Refused n place) e z =
        let i = subst (Numbered 23) e (judge-numbered image) in absurd (let y : n ≡ 0 = unfold step_by refuse in z in omega (arith, i.0))

pub call_says : (W : ℕ) (image : List ℕ) → CallSays W image
call_says W image ledger u k lower upper a b room z =
    let (h, accepted) = done_accepted W image ledger (clauses_by u k lower upper a b room) z in
    let f = fitting h accepted in
    let e = text_reply W image h accepted ledger u k lower upper a b room f.0 f.1 in
    let t = text_free W _ _ _ k lower upper _ (sym (ap (λ (r : Reply). r.number) e) ∙ z) in (
      said W image h accepted ledger u k lower upper a b room f.0 f.1 t.0,
      ap (λ (r : Reply). read_text r.filled) e ∙ ap read_text t.1 ∙ text_said W image h accepted ledger u k lower upper a b room f.0 f.1 t.0,
      says W image h accepted ledger u k lower upper a b room f.0 f.1 t.0,
    )
  where
    fitting : (h : Head) → judge image ≡ Accepted h → (length ledger ≡ line_size W * (policy_of image).head.users) × (u < (policy_of image).head.users)
    fitting h accepted =
        unfold clauses_by in
        (done-fits W (policy_of image) ledger (clauses_by u k lower upper a b room)
        (sym (ap (λ (v : Event). v.reply.number) (step_on_lem W image h accepted ledger (clauses_by u k lower upper a b room))) ∙ z))
