-- The answer buffer of a call keeps its length: an answer fills nothing, or all the bytes of a buffer that was tested
-- to have as many, or the front of a buffer that was tested to have room for it.
-- Assumes nothing.
use mathlib.Core.Path.{◌≡◌, refl, sym, ap, ◌∙◌}
use mathlib.Core.Logic.{◌⊎◌, inl, inr}
use mathlib.Core.Bool.{Bool, true, false, true≢false}
use mathlib.Core.Option.{none}
use mathlib.Core.List.{List, [], ◌∷◌, ◌++◌}
use Prim.Native.Nat.{ℕ, zero, suc, ◌+◌, ◌-◌, ◌≤◌, ◌<◌}
use native.Mathlib.Omega.{arith}
use lib.Dec.{eqb}
use lib.ListN.{length, get_or, drop}
use lib.Seq.{length-take-le, length_front, get_or-append-add, get_or-drop}
use borrow.Author.Tests.{eqb-true, ltb-false, not-false}
use Rattle.model.specs.Tests.{first}
use Rattle.model.specs.Judgement.{judge}
use Rattle.model.specs.Policy.{Meaning, policy_of}
use Rattle.model.specs.Line.{read_line}
use Rattle.model.specs.Limits.{Others}
use Rattle.model.specs.Session.{Query, Operation, open_session, close_session, ask, short_ask, show, explain, obstacle, clauses, session_of, query_of, is_text, answer_size, Reply, refuse, done, Refusal, bad_room, bad_pair, too_long, can_give, text_for, wrote, applies, perform, rule}
use Rattle.model.specs.Run.{Call, ruled, step, filled_with, answered, written}
use Rattle.model.specs.Frames.{AnswerKeepsLength, TextsKeep}
use Rattle.model_laws.proofs.CallLaws.{first-none}
use Rattle.model_laws.proofs.LineLaws.{unless-case}
use Rattle.model_laws.proofs.LedgerLaws.{step_case}
use Rattle.model_laws.proofs.FramesProof.{explained-fills, step_frame}

-- where none of a list passes the test, the one at place i does not
none_at : (f : Refusal → Bool) (xs : List Refusal) → first f xs ≡ none → (i : ℕ) (d : Refusal) → i < length xs → f (get_or xs i d) ≡ false
none_at f [] e i d l = absurd (omega arith)
none_at f (x ∷ xs) e zero d l = (first-none f x xs e).0
none_at f (x ∷ xs) e (suc i) d l = none_at f xs (first-none f x xs e).1 i d (omega arith)

-- an answer fills nothing, or the buffer of the call has the size of its answer; a clause text fits
abbrev Roomy : Operation → Reply → Type 0
Roomy op r = (r.filled ≡ []) ⊎ ((is_text op ≡ false → (query_of op).room ≡ answer_size op) × (is_text op ≡ true → length r.filled ≤ (query_of op).room))

-- ---- the session rules
module _ (W : ℕ) (m : Meaning) (x : Others) (bs : List ℕ) where
  -- the refusals whose case holds
  abbrev tests : Operation → Refusal → Bool
  tests op = applies W m x (read_line W bs) (session_of op) (query_of op)

  -- where the room is not refused, it is 40 bytes
  room_right : (op : Operation) → tests op bad_room ≡ false → (query_of op).room ≡ 40
  unfolding applies
  room_right op e = eqb-true (query_of op).room 40 (not-false (eqb (query_of op).room 40) e)

  -- that of an obstacle is 16
  pair_right : (op : Operation) → tests op bad_pair ≡ false → (query_of op).room ≡ 16
  unfolding applies
  pair_right op e = eqb-true (query_of op).room 16 (not-false (eqb (query_of op).room 16) e)

  -- where a text is not too long, it fits
  text_room : (k : ℕ) (q : Query) → tests (clauses k q) too_long ≡ false → length (text_for m x (read_line W bs) k q) ≤ q.room
  unfolding applies session_of query_of
  text_room k q e = ltb-false q.room (length (text_for m x (read_line W bs) k q)) e

  -- so has a call that is no clause text
  plain-room : (op : Operation) → is_text op ≡ false → (query_of op).room ≡ answer_size op → Roomy op (perform W m x (read_line W bs) bs op).reply
  plain-room op t e = inr (λ _. e, λ f. absurd (true≢false (sym f ∙ t)))

  -- a call that fills can refuse the room
  perform_roomy : (op : Operation) → first (tests op) (can_give op) ≡ none → Roomy op (perform W m x (read_line W bs) bs op).reply
  unfolding perform done can_give is_text answer_size wrote text_for query_of
  perform_roomy open_session e = inl refl
  perform_roomy (close_session k) e = inl refl
  perform_roomy (ask k q) e =
      let op = ask k q in
      plain-room op refl (room_right op (none_at (tests op) (can_give op) e 8 bad_room (omega arith)))
  perform_roomy (short_ask k lower upper room) e =
      let op = short_ask k lower upper room in
      plain-room op refl (room_right op (none_at (tests op) (can_give op) e 7 bad_room (omega arith)))
  perform_roomy (show k room) e =
      let op = show k room in
      plain-room op refl (room_right op (none_at (tests op) (can_give op) e 3 bad_room (omega arith)))
  perform_roomy (explain k n) e = inl (explained-fills bs _)
  perform_roomy (obstacle k lower upper room) e =
      let op = obstacle k lower upper room in
      plain-room op refl (pair_right op (none_at (tests op) (can_give op) e 7 bad_pair (omega arith)))
  perform_roomy (clauses k q) e =
      inr (λ f. absurd (true≢false f), λ f. text_room k q (none_at (tests (clauses k q)) (can_give (clauses k q)) e 8 too_long (omega arith)))

  rule_roomy : (op : Operation) → Roomy op (rule W m x bs op).reply
  unfolding rule refuse
  rule_roomy op = unless-case (λ r. Roomy op r.reply) x _ bs _ (perform_roomy op) (λ f _. inl refl)

-- ---- a call on a ledger

-- a buffer that is left alone, or filled with as many bytes, keeps its length
pub filled_length : (buffer fs : List ℕ) → (fs ≡ []) ⊎ (length fs ≡ length buffer) → length (filled_with buffer fs) ≡ length buffer
unfolding filled_with
filled_length buffer [] h = refl
filled_length buffer (b ∷ bs) (inl e) = let z : suc (length bs) ≡ 0 = ap length e in absurd (omega arith)
filled_length buffer (b ∷ bs) (inr e) = e

-- how much room a call has tested
step_roomy : (W : ℕ) (image ledger : List ℕ) (c : Call) → Roomy c.operation (step W image ledger c).reply
unfolding step ruled refuse
step_roomy W image ledger c =
    step_case (λ e. Roomy c.operation e.reply) W (policy_of image) ledger c (λ n x. inl refl)
    (λ _ _. rule_roomy W _ _ _ c.operation) (judge image)

-- A call leaves an answer buffer of the same length.
pub answer_keeps_length : (W : ℕ) → AnswerKeepsLength W
unfolding answered
answer_keeps_length W image ledger c buffer t h =
    filled_length buffer (step W image ledger c).reply.filled
    (elim (step_roomy W image ledger c) [
      | inl q ↦ inl q
      | inr q ↦ elim ((step_frame W image ledger c).filled t) [ inl e ↦ inl e | inr e ↦ inr (e ∙ sym (q.0 t) ∙ sym h) ]
    ])

-- ---- the front of a buffer
front_length : (fs buffer : List ℕ) → length fs ≤ length buffer → length (fs ++ drop (length fs) buffer) ≡ length buffer
front_length fs buffer h = length_front buffer fs (length fs) (sym (length-take-le (length fs) buffer h))

front_behind : (fs buffer : List ℕ) (i : ℕ) → length fs ≤ i → get_or (fs ++ drop (length fs) buffer) i 0 ≡ get_or buffer i 0
front_behind fs buffer i h =
    let k = i - length fs in
    let e : length fs + k ≡ i = omega arith in
    rw e at (get_or-append-add fs (drop (length fs) buffer) k 0 ∙ get_or-drop (length fs) buffer k 0)

-- A clause text leaves a buffer of the same length, and what stands behind it.
pub texts_keep : (W : ℕ) → TextsKeep W
unfolding written
texts_keep W image ledger c buffer t h =
    record { keeps_length = front_length r.filled buffer (fits (step_roomy W image ledger c)); behind = front_behind r.filled buffer }
  where
    r : Reply
    r = (step W image ledger c).reply

    fits : Roomy c.operation r → length r.filled ≤ length buffer
    fits (inl e) = omega (arith, ap length e)
    fits (inr q) = omega (arith, q.1 t)
