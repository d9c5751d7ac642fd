-- The cases of an ask: refused before the search, no admissible set, and the best set put in and answered.
-- Assumes nothing.
use mathlib.Core.Path.{◌≡◌, refl, sym, ap, ◌∙◌}
use mathlib.Core.Bool.{not}
use mathlib.Core.Option.{Option, none, some}
use mathlib.Core.List.{List, [], ◌∷◌, ◌++◌}
use Prim.Native.Nat.{ℕ, ◌+◌, ◌*◌}
use borrow.Author.Tests.{lt-leb}
use Rattle.model.specs.declared.Line.{Line}
use Rattle.model.specs.Tests.{first}
use Rattle.model.specs.Bytes.{number, bytes_of}
use Rattle.model.specs.Policy.{Policy, meaning}
use Rattle.model.specs.Line.{SESSIONS, line_size, write_line, put_in}
use Rattle.model.specs.Limits.{Others}
use Rattle.model.specs.Choice.{carried_by, choose}
use Rattle.model.specs.Session.{Refusal, bad_session, is_closed, bad_set, bad_permission, bad_bounds, bad_aim, bad_room, no_set, refuse, given, refusal_number, refusal_extra, is_ask, can_give, applies, perform, asked, chosen, is_none, session_of, query_of}
use Rattle.model.specs.Session as rules
use Rattle.model.specs.Run.{Call, Event, line_at, with_line, step_on, ask_by, returned, filled_with, answered, line_of, told}
use Rattle.model_laws.proofs.LedgerLaws.{own_line}
use Rattle.asks_request.specs.Refusals.{sizes, query_refusal, bounds_refusal, limited_refusal}
use Rattle.asks.specs.Asks.{left_to, asked_on, Answers}
use Rattle.sessions.proofs.FirstSteps.{refuses, performs, holds, fails, ends}
use Rattle.asks_request.proofs.Requests.{AskReady}
use Rattle.asks_request.proofs.Refused.{number_of, extras, or_session, test, own_tests, refused}

-- a refusal leaves the ledger and the buffer alone
answers_refusal : (e : Event) (n m x : ℕ) (ledger room : List ℕ) → n ≡ m + 256 * x → e ≡ record { reply = refuse m x; ledger = ledger }
    → Answers e n ledger room room
unfolding returned refuse answered filled_with
answers_refusal e n m x ledger room q h =
    record {
      number = q ∙ sym (ap (λ (y : Event). returned y.reply) h);
      bytes = sym (ap (λ (y : Event). y.ledger) h);
      buffer = sym (ap (λ (y : Event). answered room y.reply) h);
    }

module _ (W : ℕ) (p : Policy) (ledger : List ℕ) (u k : ℕ) (lower upper : List ℕ) (a b room : ℕ) where
  abbrev pub call : Call
  call = record { user = u; operation = rules.ask k (record { lower = lower; upper = upper; permission_aim = a; role_aim = b; room = room }) }

  -- what it is told of the other users
  abbrev pub others : Others
  others = told W p ledger call

  -- the tests from 12 to 19
  abbrev tests : List Refusal
  tests = bad_session ∷ is_closed ∷ bad_set ∷ bad_permission ∷ bad_bounds ∷ bad_aim ∷ bad_room ∷ []

  -- it is told of no other line that is not sound
  abbrev pub Quiet : Type 0
  Quiet = others.unsound ≡ none

  -- refused before the search
  pub ask_refused_lem : (n : ℕ) (before : List ℕ) → n ≡ limited_refusal W p ledger u k (sizes lower upper) (number lower) (number upper) a b room → (n ≡ 0 → ⊥)
      → Answers (step_on W p ledger (ask_by u k lower upper a b room)) n ledger before before
  unfolding ask_by is_ask can_give session_of query_of applies refusal_number refusal_extra number_of extras query_refusal bounds_refusal meaning
  ask_refused_lem n before h z =
      let w = refused W p ledger call tests (no_set ∷ []) refl refl refl k (sizes lower upper) (number lower) (number upper) a b room
      (or_session W _ k _) n h z in
      answers_refusal _ n w.number w.extra ledger before w.sum w.step

  -- not refused before the search
  module _ (r : AskReady W p ledger u k (sizes lower upper) (number lower) (number upper) a b room) (quiet : Quiet) where
    passes : (let f = test W p ledger call tests (no_set ∷ []) (unfold can_give in refl) in
        first f (can_give call.operation) ≡ first f (no_set ∷ []))
    unfolding applies meaning can_give session_of query_of
    passes =
        own_tests W p ledger call tests (no_set ∷ []) refl r.first quiet
        ∙ fails _ _ _ (lt-leb _ _ r.session.below) ∙ fails _ _ _ (ap not r.session.opened) ∙ fails _ _ _ (ap not r.query.lengths)
        ∙ fails _ _ _ (ap not r.query.permissions) ∙ fails _ _ _ (ap not r.query.nested) ∙ fails _ _ _ r.query.aims
        ∙ fails _ _ _ (ap not r.query.space)

    -- what the search chooses from, and what a choice makes of the ledger
    abbrev chosen_is : Option ℕ
    chosen_is = choose (left_to p u others (line_of W ledger u) k) (line_of W ledger u) k (number lower) (number upper) a b

    abbrev after : Option ℕ → Event
    after o =
        let x = asked (meaning p u) (line_of W ledger u) (line_at (line_size W) u ledger) k o in
        record { reply = x.reply; ledger = with_line (line_size W) u x.line ledger }

    -- the choice is put in and answered, or 20 is
    ask_searched : step_on W p ledger (ask_by u k lower upper a b room) ≡ after chosen_is
    unfolding ask_by can_give applies refusal_number refusal_extra session_of query_of chosen is_none perform asked
    ask_searched = go chosen_is refl
      where
        go : (o : Option ℕ) → chosen_is ≡ o → step_on W p ledger call ≡ after o
        go none e =
            refuses W p ledger call r.first no_set refl (passes ∙ holds _ _ _ (ap is_none e))
            ∙ ap (λ (l : List ℕ). record { reply = refuse 20 0; ledger = l }) (sym (own_line (line_size W) u ledger))
        go (some s) e = performs W p ledger call r.first (passes ∙ fails _ _ _ (ap is_none e) ∙ ends _) ∙ ap after e

-- ---- the search's answers

-- no set is admissible
pub answers_none : (p : Policy) (ledger : List ℕ) (u k : ℕ) (room : List ℕ) (o : Option ℕ) → none ≡ o
    → Answers (asked_on p ledger u k o) 20 ledger room room
unfolding asked_on asked
answers_none p ledger u k room o e =
    answers_refusal _ 20 20 0 ledger room refl
    (ap (asked_on p ledger u k) (sym e) ∙ ap (λ (l : List ℕ). record { reply = refuse 20 0; ledger = l }) (own_line (line_size SESSIONS) u ledger))

-- the set s, which carries c, put into the line that code holds
pub answers_some : (p : Policy) (ledger : List ℕ) (u k s c : ℕ) (l next : Line) (after room answer : List ℕ) (o : Option ℕ) → some s ≡ o
    → c ≡ carried_by (meaning p u) s → l ≡ line_of SESSIONS ledger u → next ≡ put_in k s l
    → after ≡ with_line (line_size SESSIONS) u (write_line next) ledger → answer ≡ bytes_of 8 s ++ bytes_of 32 c
    → Answers (asked_on p ledger u k o) 0 after room answer
unfolding asked_on asked returned given answered filled_with bytes_of
answers_some p ledger u k s c l next after room answer o e f el en g h =
    let q = ap (asked_on p ledger u k) (sym e) in
    record {
      number = sym (ap (λ (x : Event). returned x.reply) q);
      bytes = rw (g, en, el) (sym (ap (λ (x : Event). x.ledger) q));
      buffer = rw (h, f) (sym (ap (λ (x : Event). answered room x.reply) q));
    }

-- the call's answers are the search's
pub answers_searched : (p : Policy) (ledger : List ℕ) (u k : ℕ) (lower upper : List ℕ) (a b room lo hi n : ℕ) (after before answer : List ℕ)
    → AskReady SESSIONS p ledger u k (sizes lower upper) (number lower) (number upper) a b room
    → Quiet SESSIONS p ledger u k lower upper a b room → lo ≡ number lower → hi ≡ number upper
    → (let m = left_to p u (others SESSIONS p ledger u k lower upper a b room) (line_of SESSIONS ledger u) k in
    Answers (asked_on p ledger u k (choose m (line_of SESSIONS ledger u) k lo hi a b)) n after before answer)
    → Answers (step_on SESSIONS p ledger (ask_by u k lower upper a b room)) n after before answer
unfolding asked_on
answers_searched p ledger u k lower upper a b room lo hi n after before answer r quiet e f g =
    rw (ask_searched SESSIONS p ledger u k lower upper a b room r quiet, ← e, ← f) g
