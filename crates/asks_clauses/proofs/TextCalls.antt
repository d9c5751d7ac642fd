-- The cases of a clause text: refused as an ask is up to 18, longer than the buffer, and written.
-- Assumes nothing.
use mathlib.Core.Path.{◌≡◌, refl, sym, ap, subst, ◌∙◌}
use mathlib.Core.Bool.{true, false, not}
use mathlib.Core.Option.{none}
use mathlib.Core.List.{List, [], ◌∷◌}
use Prim.Native.Nat.{ℕ, ◌+◌, ◌*◌, ◌%◌, ◌^◌, ◌≤◌, ◌<◌}
use native.Mathlib.Nat.{mod-eq_of_lt}
use native.Mathlib.Omega.{arith}
use lib.Dec.{ltb}
use lib.ListN.{length}
use borrow.Table.Steps.{cases}
use borrow.Author.Tests.{lt-leb, ltb-true, ltb-false, lt-ltb, le-ltb}
use Rattle.model.specs.declared.Line.{Line}
use Rattle.model.specs.Tests.{pick, first}
use Rattle.model.specs.Bytes.{number}
use Rattle.model.specs.Policy.{Policy, Meaning, meaning}
use Rattle.model.specs.Line.{SESSIONS, exclusions_met}
use Rattle.model.specs.Limits.{Others, unbarred}
use Rattle.model.specs.Dimacs.{text_of}
use Rattle.model.specs.Ranges.{InRange}
use Rattle.model.specs.Session.{Query, Refusal, bad_session, is_closed, bad_set, bad_permission, bad_bounds, bad_aim, too_long, refuse, wrote, refusal_number, refusal_extra, is_ask, can_give, text_for, applies, perform, session_of, query_of}
use Rattle.model.specs.Session as rules
use Rattle.model.specs.Run.{Call, Event, step_on, clauses_by, returned, written, line_of, told}
use Rattle.model_laws.proofs.SoundLaws.{sound-parts}
use Rattle.sessions.proofs.FirstSteps.{refused_by, refuses, performs, holds, fails, ends}
use Rattle.asks_request.specs.Refusals.{sizes, query_refusal, bounds_refusal, limited_refusal}
use Rattle.asks.specs.Asks.{left_to}
use Rattle.asks_request.proofs.Requests.{AskReady}
use Rattle.asks_request.proofs.Refused.{number_of, extras, or_session, test, own_tests, refused}
use Rattle.model_clauses.specs.Texts.{TEXT_ROOM}
use Rattle.model_clauses.proofs.Meant.{meant, left_meant}
use Rattle.model_clauses.proofs.DimacsSizes.{text_small}
use Rattle.clauses.specs.Writing.{Written}
use Rattle.asks_clauses.specs.Tells.{Tells}
use Rattle.asks_clauses.proofs.Standing.{line_sessions}

-- a refusal leaves the buffer alone
tells-refusal : (e : Event) (n m x : ℕ) (ledger room : List ℕ) → n ≡ m + 256 * x → e ≡ record { reply = refuse m x; ledger = ledger }
    → Tells e n room room
unfolding returned refuse written
tells-refusal e n m x ledger room q h =
    record { number = q ∙ sym (ap (λ (y : Event). returned y.reply) h); buffer = sym (ap (λ (y : Event). written room y.reply) h) }

module _ (W : ℕ) (p : Policy) (ledger : List ℕ) (u k : ℕ) (lower upper : List ℕ) (a b room : ℕ) where
  abbrev query : Query
  query = record { lower = lower; upper = upper; permission_aim = a; role_aim = b; room = room }

  abbrev pub call : Call
  call = record { user = u; operation = rules.clauses k query }

  -- what it is told of the other users
  abbrev pub others : Others
  others = told W p ledger call

  -- the tests from 12 to 18
  abbrev tests : List Refusal
  tests = bad_session ∷ is_closed ∷ bad_set ∷ bad_permission ∷ bad_bounds ∷ bad_aim ∷ []

  -- it is told of no other line that is not sound
  abbrev pub Quiet : Type 0
  Quiet = others.unsound ≡ none

  -- refused as an ask is whose answer buffer is right
  pub clauses_refused : (n : ℕ) (before : List ℕ) → n ≡ limited_refusal W p ledger u k (sizes lower upper) (number lower) (number upper) a b 40 → (n ≡ 0 → ⊥)
      → Tells (step_on W p ledger (clauses_by u k lower upper a b room)) n before before
  unfolding clauses_by is_ask can_give session_of query_of applies refusal_number refusal_extra number_of extras query_refusal bounds_refusal meaning pick
  clauses_refused n before h z =
      let w = refused W p ledger call tests (too_long ∷ []) refl refl refl k (sizes lower upper) (number lower) (number upper) a b 40
      (or_session W _ k _) n h z in
      tells-refusal _ n w.number w.extra ledger before w.sum w.step

  -- not refused so
  module _ (r : AskReady W p ledger u k (sizes lower upper) (number lower) (number upper) a b 40) (quiet : Quiet) where
    passes : (let f = test W p ledger call tests (too_long ∷ []) (unfold can_give in refl) in
        first f (can_give call.operation) ≡ first f (too_long ∷ []))
    unfolding applies meaning can_give session_of query_of
    passes =
        own_tests W p ledger call tests (too_long ∷ []) refl r.first quiet
        ∙ fails _ _ _ (lt-leb _ _ r.session.below) ∙ fails _ _ _ (ap not r.session.opened) ∙ fails _ _ _ (ap not r.query.lengths)
        ∙ fails _ _ _ (ap not r.query.permissions) ∙ fails _ _ _ (ap not r.query.nested) ∙ fails _ _ _ r.query.aims

    abbrev text : List ℕ
    text = text_for (meaning p u) others (line_of W ledger u) k query

    -- longer than the buffer
    clauses_long : room < length text → step_on W p ledger (clauses_by u k lower upper a b room) ≡ refused_by 19 ledger
    unfolding clauses_by can_give applies session_of query_of refusal_number refusal_extra
    clauses_long h = refuses W p ledger call r.first too_long refl (passes ∙ holds _ _ _ (lt-ltb room (length text) h))

    -- written
    clauses_done : length text ≤ room → (step_on W p ledger (clauses_by u k lower upper a b room)).reply ≡ wrote text
    unfolding clauses_by can_give applies session_of query_of perform
    clauses_done h =
        ap (λ (e : Event). e.reply) (performs W p ledger call r.first (passes ∙ fails _ _ _ (le-ltb room (length text) h) ∙ ends _))

-- what the code returns
pub told_long : (size room x : ℕ) → room < size → 19 ≡ pick {X = ℕ} (ltb room size) 19 x
unfolding pick
told_long size room x h = simp (lt-ltb room size h)

pub told_short : (size room x : ℕ) → size ≤ room → x ≡ pick {X = ℕ} (ltb room size) 19 x
unfolding pick
told_short size room x h = simp (le-ltb room size h)

told_extra : (size n : ℕ) → size ≡ n → 256 * size ≡ 0 + 256 * n
told_extra size n e = omega (arith, e)

-- what the code returns and writes is what the call tells
module _ (p : Policy) (ledger : List ℕ) (u k : ℕ) (lower upper : List ℕ) (a b lo hi size n : ℕ) (before after : List ℕ) where
  abbrev m : Meaning
  m = left_to p u (others SESSIONS p ledger u k lower upper a b (length before)) (line_of SESSIONS ledger u) k

  abbrev told_by_lem : Event
  told_by_lem = step_on SESSIONS p ledger (clauses_by u k lower upper a b (length before))

  pub tells_text : {l : Line} → InRange p → AskReady SESSIONS p ledger u k (sizes lower upper) (number lower) (number upper) a b 40
      → Quiet SESSIONS p ledger u k lower upper a b (length before)
      → lo ≡ number lower → hi ≡ number upper → l ≡ line_of SESSIONS ledger u
      → Written before (text_of (left_to p u (others SESSIONS p ledger u k lower upper a b (length before)) l k) l k lo hi a b) after size
      → n ≡ pick {X = ℕ} (ltb (length before) size) 19 (256 * size % 2 ^ 64) → Tells told_by_lem n before after
  unfolding text_for pick returned wrote written unbarred exclusions_met
  tells_text range r quiet el eh there found e = cases (ltb (length before) size) long fits
    where
      t : List ℕ
      t = text_of m (line_of SESSIONS ledger u) k (number lower) (number upper) a b

      w : Written before (text_of m (line_of SESSIONS ledger u) k lo hi a b) after size
      w =
          let x = others SESSIONS p ledger u k lower upper a b (length before) in
          subst (λ (y : Line). Written before (text_of (left_to p u x y k) y k lo hi a b) after size) there found

      wrote_it : Written before t after size
      wrote_it = rw (← el, ← eh) w

      short : length t ≤ TEXT_ROOM
      short =
          let meant_for = left_meant (meaning p u) (meant p range u) _ (line_of SESSIONS ledger u) k in
          let met = (sound-parts (meaning p u) (line_of SESSIONS ledger u) SESSIONS r.first.sound-line).met in
          let below : k < length (line_of SESSIONS ledger u).sessions = rw (line_sessions SESSIONS ledger u) r.session.below in
          (text_small m meant_for (line_of SESSIONS ledger u) k (number lower) (number upper) below met a b).bytes

      long : ltb (length before) size ≡ true → Tells told_by_lem n before after
      long q =
          let h : length before < length t = omega (arith, ltb-true (length before) size q, wrote_it.size_is) in
          let f : n ≡ 19 = rw q at e in
          rw (f, wrote_it.refused h)
          (tells-refusal _ 19 19 0 ledger before refl (clauses_long SESSIONS p ledger u k lower upper a b (length before) r quiet h))

      fits : ltb (length before) size ≡ false → Tells told_by_lem n before after
      fits q =
          let h : length t ≤ length before = omega (arith, ltb-false (length before) size q, wrote_it.size_is) in
          let d = clauses_done SESSIONS p ledger u k lower upper a b (length before) r quiet h in
          let f : n ≡ 256 * size % 2 ^ 64 = rw q at e in
          record {
            number = f ∙ mod-eq_of_lt (omega (arith, short, wrote_it.size_is)) ∙ told_extra size (length t) wrote_it.size_is ∙ sym (ap returned d);
            buffer = wrote_it.fitting h ∙ sym (ap (written before) d);
          }
