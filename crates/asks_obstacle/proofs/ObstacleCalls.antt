-- The cases of an obstacle: refused as an ask is up to 17, a buffer of another length, nothing in the way, and told.
-- Assumes nothing.
use mathlib.Core.Path.{◌≡◌, refl, sym, ap, ap₂, ◌∙◌}
use mathlib.Core.Bool.{Bool, not}
use mathlib.Core.Option.{Option, none, some}
use mathlib.Core.List.{List, [], ◌∷◌}
use Prim.Native.Nat.{ℕ, ◌+◌, ◌*◌}
use lib.ListN.{length}
use borrow.Author.Tests.{lt-leb, eq-eqb, ne_eqb}
use Rattle.model.specs.declared.Head.{Head}
use Rattle.model.specs.declared.Exclusions.{Exclusions}
use Rattle.model.specs.Tests.{pick, first}
use Rattle.model.specs.Bytes.{number}
use Rattle.model.specs.Policy.{Policy, meaning}
use Rattle.model.specs.Line.{SESSIONS, line_size}
use Rattle.model.specs.Limits.{Others}
use Rattle.model.specs.Obstacle.{Obstacle, obstacle_of}
use Rattle.model.specs.Session.{Refusal, bad_session, is_closed, bad_set, bad_permission, bad_bounds, bad_pair, no_obstacle, refuse, refusal_number, refusal_extra, is_ask, can_give, obstacle_for, is_none, applies, obstructed, perform, session_of, query_of}
use Rattle.model.specs.Session as rules
use Rattle.model.specs.Run.{Call, Event, line_at, step_on, obstacle_by, returned, filled_with, answered, line_of, told}
use Rattle.sessions.specs.Calls.{Known, Shows}
use Rattle.sessions.proofs.FirstSteps.{shows-refusal, refuses, performs, holds, fails, ends}
use Rattle.asks_request.specs.Refusals.{sizes, query_refusal, bounds_refusal, limited_refusal}
use Rattle.asks_request.proofs.Requests.{AskReady, Passed, passed}
use Rattle.asks_request.proofs.Refused.{number_of, extras, or_session, test, own_tests, refused}
use Rattle.asks_obstacle.specs.Telling.{reply_of, Tells}

-- a refusal leaves the buffer alone, with an extra too
shows-refused : (e : Event) (n m x : ℕ) (ledger room : List ℕ) → n ≡ m + 256 * x → e ≡ record { reply = refuse m x; ledger = ledger }
    → Shows e n room room
unfolding returned refuse answered filled_with
shows-refused e n m x ledger room q h =
    record { number = q ∙ sym (ap (λ (y : Event). returned y.reply) h); buffer = sym (ap (λ (y : Event). answered room y.reply) h) }

-- what code holds that was not refused an ask with the objectives 0
pub passed_unaimed : {W : ℕ} {head : Head} {own : List ℕ} {xs : Exclusions} {limits ledger : List ℕ} {u k : ℕ} {sized : Bool} {low high a b room n : ℕ}
    → ((p : Policy) → Known head own xs p → p.limits ≡ limits → n ≡ limited_refusal W p ledger u k sized low high a b room)
    → a ≡ 0 → b ≡ 0 → n ≡ 0 → Passed W head own xs limits ledger u k sized low high 0 0 room
passed_unaimed {W = W} {ledger = ledger} {u = u} {k = k} {sized = sized} {low = low} {high = high} {room = room} e x y z =
    passed _ _ _ _ _ _ _ _ _ _ _ _ _ _ _
    (λ p h l. e p h l ∙ ap₂ (λ (i j : ℕ). limited_refusal W p ledger u k sized low high i j room) x y) z

module _ (W : ℕ) (p : Policy) (ledger : List ℕ) (u k : ℕ) (lower upper : List ℕ) (room : ℕ) where
  abbrev pub call : Call
  call = record { user = u; operation = rules.obstacle k lower upper room }

  -- what it is told of the other users
  abbrev pub others : Others
  others = told W p ledger call

  -- the tests from 12 to 17, and those behind them
  abbrev tests : List Refusal
  tests = bad_session ∷ is_closed ∷ bad_set ∷ bad_permission ∷ bad_bounds ∷ []

  abbrev behind : List Refusal
  behind = bad_pair ∷ no_obstacle ∷ []

  -- it is told of no other line that is not sound
  abbrev pub Quiet : Type 0
  Quiet = others.unsound ≡ none

  -- refused as an ask is whose objectives and answer buffer are right
  pub obstacle_refused : (n : ℕ) (before : List ℕ) → n ≡ limited_refusal W p ledger u k (sizes lower upper) (number lower) (number upper) 0 0 40 → (n ≡ 0 → ⊥)
      → Shows (step_on W p ledger (obstacle_by u k lower upper room)) n before before
  unfolding obstacle_by is_ask can_give session_of query_of applies refusal_number refusal_extra number_of extras query_refusal bounds_refusal meaning pick
  obstacle_refused n before h z =
      let w = refused W p ledger call tests behind refl refl refl k (sizes lower upper) (number lower) (number upper) 0 0 40 (or_session W _ k _) n h z in
      shows-refused _ n w.number w.extra ledger before w.sum w.step

  -- not refused so
  module _ (r : AskReady W p ledger u k (sizes lower upper) (number lower) (number upper) 0 0 40) (quiet : Quiet) where
    passes : (let f = test W p ledger call tests behind (unfold can_give in refl) in first f (can_give call.operation) ≡ first f behind)
    unfolding applies meaning can_give session_of query_of
    passes =
        own_tests W p ledger call tests behind refl r.first quiet
        ∙ fails _ _ _ (lt-leb _ _ r.session.below) ∙ fails _ _ _ (ap not r.session.opened) ∙ fails _ _ _ (ap not r.query.lengths)
        ∙ fails _ _ _ (ap not r.query.permissions) ∙ fails _ _ _ (ap not r.query.nested)

    -- a buffer of another length
    pub obstacle_room : (room ≡ 16 → ⊥) → (before : List ℕ) → Shows (step_on W p ledger (obstacle_by u k lower upper room)) 19 before before
    unfolding obstacle_by can_give applies session_of query_of refusal_number refusal_extra
    obstacle_room h before =
        shows-refusal _ 19 ledger before
        (refuses W p ledger call r.first bad_pair refl (passes ∙ holds _ _ _ (ap not (ne_eqb room 16 h))))

    -- what stands in the way, or nothing
    abbrev found : Option Obstacle
    found = obstacle_of (meaning p u) others (line_of W ledger u) k (number lower) (number upper)

    obstacle_reply : room ≡ 16 → (step_on W p ledger (obstacle_by u k lower upper room)).reply ≡ reply_of found
    unfolding obstacle_by can_give applies refusal_number refusal_extra session_of query_of obstacle_for is_none perform obstructed reply_of
    obstacle_reply h = go found refl
      where
        go : (o : Option Obstacle) → found ≡ o → (step_on W p ledger call).reply ≡ reply_of o
        go none e =
            ap (λ (y : Event). y.reply)
            (refuses W p ledger call r.first no_obstacle refl (passes ∙ fails _ _ _ (ap not (eq-eqb room 16 h)) ∙ holds _ _ _ (ap is_none e)))
        go (some o) e =
            ap (λ (y : Event). y.reply)
            (performs W p ledger call r.first (passes ∙ fails _ _ _ (ap not (eq-eqb room 16 h)) ∙ fails _ _ _ (ap is_none e) ∙ ends _))
            ∙ ap (λ (y : Option Obstacle). (obstructed (line_at (line_size W) u ledger) y).reply) e

-- what code finds and tells is what the call shows
pub shows-told : (p : Policy) (ledger : List ℕ) (u k : ℕ) (lower upper : List ℕ) (lo hi n : ℕ) (o : Option Obstacle) (before after : List ℕ)
    → AskReady SESSIONS p ledger u k (sizes lower upper) (number lower) (number upper) 0 0 40
    → Quiet SESSIONS p ledger u k lower upper (length before) → length before ≡ 16
    → lo ≡ number lower → hi ≡ number upper
    → o ≡ obstacle_of (meaning p u) (others SESSIONS p ledger u k lower upper (length before)) (line_of SESSIONS ledger u) k lo hi
    → Tells o n before after → Shows (step_on SESSIONS p ledger (obstacle_by u k lower upper (length before))) n before after
shows-told p ledger u k lower upper lo hi n o before after r quiet h el eh e t =
    let m = meaning p u in
    let x = others SESSIONS p ledger u k lower upper (length before) in
    let l = line_of SESSIONS ledger u in
    let f : o ≡ obstacle_of m x l k (number lower) (number upper) = e ∙ (λ i. obstacle_of m x l k (el i) (eh i)) in
    let q : (step_on SESSIONS p ledger (obstacle_by u k lower upper (length before))).reply ≡ reply_of o =
    obstacle_reply SESSIONS p ledger u k lower upper (length before) r quiet h ∙ ap reply_of (sym f) in
    record { number = t.number ∙ sym (ap returned q); buffer = t.buffer ∙ sym (ap (answered before) q) }
