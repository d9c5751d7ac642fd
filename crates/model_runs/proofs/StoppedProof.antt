-- The stopped call tells whose open is refused by 11: an open of a user with a line is, exactly if the line is not
-- sound.
-- Assumes nothing.
use mathlib.Core.Path.{◌≡◌, refl, sym, ap, ◌∙◌, subst}
use mathlib.Core.Bool.{Bool, true, false, not}
use mathlib.Core.Option.{none, some}
use mathlib.Core.List.{List, [], ◌∷◌}
use Prim.Native.Nat.{ℕ, ◌*◌, ◌^◌, ◌≤◌, ◌<◌}
use native.Mathlib.Nat.{lt_of_lt_of_le}
use native.Mathlib.Omega.{arith}
use lib.Dec.{eqb, ltb}
use lib.ListN.{length, get_or, drop, replicate}
use lib.Pow.{pow_mono}
use borrow.Author.Tests.{eqb-true, eq-eqb, le-ltb, ltb-true, ltb-false, not-true, not-false}
use Rattle.model.specs.declared.Head.{Head}
use Rattle.model.specs.declared.Checked.{Checked}
use Rattle.model.specs.declared.Checked.TheVariants.{Accepted}
use Rattle.model.specs.Tests.{pick, first}
use Rattle.model.specs.Sets.{has, set_of, count}
use Rattle.model.specs.Bytes.{number}
use Rattle.model.specs.Judgement.{judge}
use Rattle.model.specs.Policy.{Policy, policy_of, Meaning, has_limits, meaning}
use Rattle.model.specs.Line.{line_size, read_line, write_line, sound, opening}
use Rattle.model.specs.Limits.{Others, nobody}
use Rattle.model.specs.Session.{Query, Reply, refuse, done, Result, Operation, open_session, close_session, ask, short_ask, show, explain, obstacle, clauses, Refusal, bad_other, bad_line, is_full, session_of, query_of, applies, can_give, perform, unless, refusal_number, rule}
use Rattle.model.specs.Run.{Event, line_at, line_of, open_by, told, ruled, step_on, step}
use Rattle.model.specs.Ranges.{Each, InRange}
use Rattle.model.specs.Kept.{SoundBytes, SoundLedger, Well}
use Rattle.model.specs.Independence.{Run, events_of, rules, calls_of, told_of, view_of, first_line}
use Rattle.model_laws.proofs.Bools.{bool_ext}
use Rattle.model_laws.proofs.SetLaws.{has_beyond, count_cong}
use Rattle.model_laws.proofs.LowestLaws.{set_of-has, has-set_of, set_of_below}
use Rattle.model_laws.proofs.RoundTrip.{number_bytes}
use Rattle.model_laws.proofs.LineLaws.{length-bytes_of}
use Rattle.model_laws.proofs.Judgements.{accepted_in_range}
use Rattle.model_laws.proofs.LedgerLaws.{step_on_lem, step_below}
use Rattle.model_laws.proofs.Reaches.{own_below, few_roles}
use Rattle.model_laws.proofs.MetLaws.{meaning_antitone, meaning_none}
use Rattle.model_laws.proofs.ZeroLaws.{zero_sound}
use Rattle.model_laws.proofs.CallsKept.{call_well, call_answer}
use Rattle.model_laws.proofs.KeptProof.{run_kept}
use Rattle.model_laws.proofs.IndependenceProof.{view_by_rules, untold}
use Rattle.model_stopped.specs.Stopped.{stopped_set, telling, stopped_on, stopped_by, stopped_call, stopped_bits, StoppedIs, StoppedStays}
use Rattle.model_runs.proofs.EndLaws.{fits-policy}
use Rattle.model_runs.proofs.Strangers.{strange, users_in, without-line}

-- an open is refused by 11 exactly if the line is not sound
open_eleven : (W : ℕ) (m : Meaning) (x : Others) (bs : List ℕ) → eqb (rule W m x bs open_session).reply.number 11 ≡ not (sound W m (read_line W bs))
unfolding rule can_give first applies perform query_of session_of
open_eleven W m x bs = go (sound W m (read_line W bs)) (eqb (count W (read_line W bs).opened) W) _
  where
    go : (a b : Bool) (k : ℕ)
        → eqb
        (unless x (elim (not a) [ true ↦ some bad_line | false ↦ elim b [ true ↦ some is_full | false ↦ none ] ]) bs
        (record { reply = done k; line = write_line (opening k (read_line W bs)) })).reply.number 11
        ≡ not a
    go true true k = unfold unless refuse refusal_number in refl
    go true false k = unfold unless done in refl
    go false b k = unfold unless refuse refusal_number in refl

-- a set made by a test goes by the test
set_bit : (f : ℕ → Bool) (n u : ℕ) → u < n → has (set_of f n) u ≡ f u
set_bit f n u h = bool_ext (has (set_of f n) u) (f u) (λ e. (set_of-has f n u e).0) (λ e. has-set_of f n u h e)

module _ (W : ℕ) (s : List ℕ) (h : Head) (accepted : judge s ≡ Accepted h) (l : List ℕ) (fits : length l ≡ line_size W * (policy_of s).head.users) where
  -- what an open of u is answered with
  abbrev opens : ℕ → ℕ
  opens u = (step W s l (open_by u)).reply.number

  abbrev users : ℕ
  users = (policy_of s).head.users

  -- a user with a line, and one without
  opens_below : (u : ℕ) → u < users → eqb (opens u) 11 ≡ not (sound W (meaning (policy_of s) u) (line_of W l u))
  unfolding open_by ruled line_of
  opens_below u k =
      ap (λ (e : Event). eqb e.reply.number 11) (step_on_lem W s h accepted l (open_by u) ∙ step_below W (policy_of s) l fits (open_by u) k)
      ∙ open_eleven W (meaning (policy_of s) u) (told W (policy_of s) l (open_by u)) (line_at (line_size W) u l)

  opens_above : (u : ℕ) → users ≤ u → eqb (opens u) 11 ≡ false
  unfolding open_by step_on pick refuse
  opens_above u k =
      ap (λ (e : Event). eqb e.reply.number 11) (step_on_lem W s h accepted l (open_by u))
      ∙ rw (eq-eqb (length l) (line_size W * users) fits, le-ltb u users k) refl

  -- a bit of the set
  bit : (u : ℕ) → has (stopped_set W (policy_of s) l) u ≡ eqb (opens u) 11
  unfolding stopped_set
  bit u = go (ltb u users) refl
    where
      go : (b : Bool) → ltb u users ≡ b → has (stopped_set W (policy_of s) l) u ≡ eqb (opens u) 11
      go true e = let k = ltb-true u users e in set_bit _ users u k ∙ sym (opens_below u k)
      go false e =
          let k = ltb-false u users e in
          has_beyond users (stopped_set W (policy_of s) l) u (set_of_below _ users) k ∙ sym (opens_above u k)

  -- that of a user with a line goes by the line, and no other is set
  pub own_bit : (u : ℕ) → u < users → has (stopped_set W (policy_of s) l) u ≡ not (sound W (meaning (policy_of s) u) (line_of W l u))
  own_bit u k = bit u ∙ opens_below u k

  pub bit_below : (u : ℕ) → has (stopped_set W (policy_of s) l) u ≡ true → u < users
  unfolding stopped_set
  bit_below u e = (set_of-has _ users u e).1

  -- a zero line is sound
  zero_bit : (u : ℕ) → line_at (line_size W) u l ≡ replicate (line_size W) 0 → has (stopped_set W (policy_of s) l) u ≡ false
  unfolding stopped_set line_of
  zero_bit u e = go (ltb u users) refl
    where
      m : Meaning
      m = meaning (policy_of s) u

      going : sound W m (line_of W l u) ≡ true
      going =
          ap (λ (bs : List ℕ). sound W m (read_line W bs)) e
          ∙ zero_sound W m (meaning_antitone (policy_of s) u) (meaning_none (policy_of s) u (accepted_in_range s h accepted))

      go : (b : Bool) → ltb u users ≡ b → has (stopped_set W (policy_of s) l) u ≡ false
      go true t = own_bit u (ltb-true u users t) ∙ ap not going
      go false t = has_beyond users (stopped_set W (policy_of s) l) u (set_of_below _ users) (ltb-false u users t)

  -- the bytes hold the set
  pub small : stopped_set W (policy_of s) l < 256 ^ 8
  unfolding stopped_set
  small = lt_of_lt_of_le (set_of_below _ users) (pow_mono (accepted_in_range s h accepted).users.1)

  pub call : stopped_call W s l 8 ≡ telling (stopped_set W (policy_of s) l)
  unfolding stopped_call stopped_by stopped_on
  call =
      ap (λ (v : Checked). stopped_by W v (policy_of s) l 8) accepted
      ∙ rw (eq-eqb (length l) (line_size W * users) fits, stopped_on) refl

  pub bits : stopped_bits W s l ≡ stopped_set W (policy_of s) l
  unfolding telling
  bits = ap (λ (r : Reply). number r.filled) call ∙ number_bytes 8 (stopped_set W (policy_of s) l) small

  pub stopped_is : StoppedIs W s l
  unfolding telling count
  stopped_is =
      record {
        done = ap (λ (r : Reply). r.number) call;
        bytes = ap (λ (r : Reply). length r.filled) call ∙ length-bytes_of 8 (stopped_set W (policy_of s) l);
        bit = λ u. (
          λ e. eqb-true (opens u) 11 (sym (bit u) ∙ ap (λ (t : ℕ). has t u) (sym bits) ∙ e),
          λ e. ap (λ (t : ℕ). has t u) bits ∙ bit u ∙ eq-eqb (opens u) 11 e,
        );
        extra = ap (λ (r : Reply). r.extra) call ∙ count_cong (has (stopped_set W (policy_of s) l)) (λ u. eqb (opens u) 11) 64 (λ u _. bit u);
        zero = λ u e. ap (λ (t : ℕ). has t u) bits ∙ zero_bit u e;
      }

-- ---- from then on

-- on a line that is not sound every call is refused by 11, and the line stays
abbrev Halted : List ℕ → Result → Type 0
Halted bs r = (r.reply.number ≡ 11) × (r.line ≡ bs)

module _ (W : ℕ) (m : Meaning) (bs : List ℕ) (bad : sound W m (read_line W bs) ≡ false) where
  module _ (x : Others) (k : ℕ) (q : Query) (fs : List Refusal) (r : Result) where
    -- the refusals that a call can give, as they hold on the line
    abbrev holding : Refusal → Bool
    holding = applies W m x (read_line W bs) k q

    -- that of the line comes first
    halted : Halted bs (unless x (first holding (bad_line ∷ fs)) bs r)
    unfolding first applies unless refuse refusal_number
    halted = rw (bad, first) (refl, refl)

    -- that of another user's line before it is by 11 too
    halted_ask : Halted bs (unless x (first holding (bad_other ∷ bad_line ∷ fs)) bs r)
    unfolding first
    halted_ask = go (holding bad_other)
      where
        go : (b : Bool) → Halted bs (unless x (elim b [ true ↦ some bad_other | false ↦ first holding (bad_line ∷ fs) ]) bs r)
        go true = unfold unless refuse refusal_number in (refl, refl)
        go false = halted

  rule_halted : (x : Others) (op : Operation) → Halted bs (rule W m x bs op)
  unfolding rule can_give
  rule_halted x open_session = halted x _ _ _ _
  rule_halted x (close_session k) = halted x _ _ _ _
  rule_halted x (ask k q) = halted_ask x _ _ _ _
  rule_halted x (short_ask k lower upper room) = halted_ask x _ _ _ _
  rule_halted x (show k room) = halted x _ _ _ _
  rule_halted x (explain k n) = halted x _ _ _ _
  rule_halted x (obstacle k lower upper room) = halted_ask x _ _ _ _
  rule_halted x (clauses k q) = halted_ask x _ _ _ _

  rules_halted : (xs : List Others) (os : List Operation) → Each (Halted bs) (rules W m bs xs os)
  unfolding rules
  rules_halted xs [] = tt
  rules_halted xs (o ∷ os) =
      let h = rule_halted (get_or xs 0 nobody) o in
      (h, subst (λ (ys : List ℕ). Each (Halted bs) (rules W m ys (drop 1 xs) os)) (sym h.1) (rules_halted (drop 1 xs) os))

-- on a sound line no call is, where it is told of no line that is not sound
module _ (W : ℕ) (wide : W ≤ 64) (p : Policy) (g : InRange p) (u : ℕ) where
  rules_going : (bs : List ℕ) → SoundBytes W (meaning p u) bs → (os : List Operation)
      → Each (λ (e : Result). ¬ (e.reply.number ≡ 11)) (rules W (meaning p u) bs [] os)
  unfolding rules nobody
  rules_going bs s [] = tt
  rules_going bs s (o ∷ os) =
      let m = meaning p u in
      let few = few_roles p g u in
      let own = own_below p g u in
      let anti = meaning_antitone p u in (
        call_answer W m wide few own anti nobody bs s refl o,
        rules_going (rule W m nobody bs o).line (call_well W m wide few own anti nobody bs s o) os,
      )

-- 10 is no 11
strange_going : (os : List Operation) → Each (λ (e : Result). ¬ (e.reply.number ≡ 11)) (strange os)
unfolding refuse
strange_going [] = tt
strange_going (o ∷ os) = (λ e. omega arith, strange_going os)

module _ (W : ℕ) (wide : W ≤ 64) (r : Run W) (u : ℕ) where
  abbrev m : Meaning
  m = meaning (policy_of r.image) u

  -- whether the user's line is sound at the start
  starts : u < r.head.users
      → has (stopped_bits W r.image r.ledger) u ≡ not (sound W m (read_line W (first_line W u r)))
  unfolding first_line line_of
  starts below =
      ap (λ (t : ℕ). has t u) (bits W r.image r.head r.accepted r.ledger (fits-policy W r))
      ∙ own_bit W r.image r.head r.accepted r.ledger (fits-policy W r) u
      (rw (users_in W r) below)

  below_if : has (stopped_bits W r.image r.ledger) u ≡ true → u < r.head.users
  below_if e =
      rw (users_in W r) at
      (bit_below W r.image r.head r.accepted r.ledger (fits-policy W r) u
      (ap (λ (t : ℕ). has t u) (sym (bits W r.image r.head r.accepted r.ledger (fits-policy W r))) ∙ e))

  stopped : has (stopped_bits W r.image r.ledger) u ≡ true → Each (Halted (first_line W u r)) (view_of W u r)
  stopped e =
      let below = below_if e in
      let bad = not-true _ (sym (starts below) ∙ e) in
      subst (Each (Halted (first_line W u r))) (sym (view_by_rules W u r below))
      (rules_halted W m (first_line W u r) bad (told_of W u r) (calls_of u r.calls))

  going_on : u < r.head.users → has (stopped_bits W r.image r.ledger) u ≡ false → has_limits (policy_of r.image) ≡ false
      → Each (λ (e : Result). ¬ (e.reply.number ≡ 11)) (view_of W u r)
  going_on below e free =
      let well = not-false _ (sym (starts below) ∙ e) in
      subst (Each (λ (e : Result). ¬ (e.reply.number ≡ 11)))
      (sym
      (view_by_rules W u r below
      ∙ ap (λ (xs : List Others). rules W m (first_line W u r) xs (calls_of u r.calls)) (untold W u r free)))
      (rules_going W wide (policy_of r.image) (accepted_in_range r.image r.head r.accepted) u (first_line W u r) well (calls_of u r.calls))

  going : has (stopped_bits W r.image r.ledger) u ≡ false → has_limits (policy_of r.image) ≡ false
      → Each (λ (e : Result). ¬ (e.reply.number ≡ 11)) (view_of W u r)
  going e free = go (ltb u r.head.users) refl
    where
      go : (b : Bool) → ltb u r.head.users ≡ b → Each (λ (e : Result). ¬ (e.reply.number ≡ 11)) (view_of W u r)
      go true t = going_on (ltb-true u r.head.users t) e free
      go false t =
          subst (Each (λ (e : Result). ¬ (e.reply.number ≡ 11))) (sym (without-line W r u (ltb-false u r.head.users t)))
          (strange_going (calls_of u r.calls))

-- where nobody is told, every line is sound, and so every call of a run goes well
module _ (W : ℕ) (wide : W ≤ 64) (r : Run W) (quiet : (u : ℕ) → has (stopped_bits W r.image r.ledger) u ≡ false) where
  all_sound : SoundLedger W (policy_of r.image) r.ledger
  unfolding first_line
  all_sound =
      record { fits = fits-policy W r; lines = λ u k. not-false _ (sym (starts W wide r u (rw (users_in W r) at k)) ∙ quiet u) }

  answers : (es : List Event) → Each (Well W (policy_of r.image)) es → Each (λ (e : Event). ¬ (e.reply.number ≡ 11)) es
  answers [] w = tt
  answers (e ∷ es) w = (w.0.answer, answers es w.1)

  nobody_halted : Each (λ (e : Event). ¬ (e.reply.number ≡ 11)) (events_of W r)
  unfolding events_of
  nobody_halted = answers (events_of W r) ((run_kept W wide r.image r.head r.accepted).well r.ledger all_sound r.calls)

pub stopped_stays : (W : ℕ) → W ≤ 64 → (r : Run W) → StoppedStays W r
stopped_stays W wide r = record { stopped = stopped W wide r; going = going W wide r; nobody = nobody_halted W wide r }
