-- What an ask, an obstacle or a clause text under a policy with limits says of lines that are not sound.
-- Assumes nothing.
use mathlib.Core.Path.{◌≡◌, refl, sym, ap, ◌∙◌, subst}
use mathlib.Core.Logic.{◌⊎◌, inl, inr}
use mathlib.Core.Bool.{Bool, true, false, ◌&&◌, not, true≢false, and-false}
use mathlib.Core.Option.{Option, none, some}
use mathlib.Core.List.{List}
use Prim.Native.Nat.{ℕ, zero, suc, ◌+◌, ◌≤◌, ◌<◌}
use native.Mathlib.Nat.{le_refl}
use native.Mathlib.Decide.{dec_lt}
use native.Mathlib.Omega.{arith}
use lib.Dec.{eqb}
use borrow.Author.Tests.{eqb-true, eqb-false, ne_eqb, lt-ltb, le-ltb, not-true}
use borrow.Table.Steps.{cases}
use Rattle.model.specs.declared.Head.{Head}
use Rattle.model.specs.declared.Checked.{Checked}
use Rattle.model.specs.declared.Checked.TheVariants.{Accepted}
use Rattle.model.specs.Tests.{pick, first}
use Rattle.model.specs.Judgement.{judge}
use Rattle.model.specs.Policy.{Policy, policy_of, table_of, has_limits, Meaning, meaning}
use Rattle.model.specs.Line.{line_size, read_line, sound}
use Rattle.model.specs.Limits.{Others}
use Rattle.model.specs.Session.{Operation, open_session, close_session, ask, short_ask, show, explain, obstacle, clauses, is_ask, Result, refuse, refusal_number, refusal_extra, number_after, can_give, other_first, applies, unless, rule}
use Rattle.model.specs.Run.{Call, Event, line_at, line_of, unsound_other, others_of, told, ruled, step_on, step_by, step}
use Rattle.model_limits.specs.Eleven.{LowestUnsound, AsksEleven}
use Rattle.model_laws.proofs.Bools.{and_r, both}
use Rattle.model_laws.proofs.UnionLaws.{below_or_last}
use Rattle.model_laws.proofs.CallLaws.{first_some, first-lowest}
use Rattle.model_laws.proofs.LedgerLaws.{step_below}
use Rattle.model_laws.proofs.Judgements.{accepted_in_range}
use Rattle.model_laws.proofs.KeptProof.{step_well}

-- ---- of the numbers below n all pass a test, or there is a lowest that does not
pub record Lowest (f : ℕ → Bool) (n : ℕ) : Type 0 where
  pub at : ℕ
  pub below : at < n
  pub fails : f at ≡ false
  pub lowest : (k : ℕ) → k < at → f k ≡ true

pub lowest-of : (f : ℕ → Bool) (n : ℕ) → ((k : ℕ) → k < n → f k ≡ true) ⊎ Lowest f n
lowest-of f zero = inl (λ k i. absurd (omega arith))
lowest-of f (suc n) = go (f n) refl (lowest-of f n)
  where
    all_so_far : f n ≡ true → ((k : ℕ) → k < n → f k ≡ true) → (k : ℕ) → k < suc n → f k ≡ true
    all_so_far e h k i = elim (below_or_last k n i) [ inl q ↦ h k q | inr q ↦ ap f q ∙ e ]

    go : (b : Bool) → f n ≡ b → ((k : ℕ) → k < n → f k ≡ true) ⊎ Lowest f n → ((k : ℕ) → k < suc n → f k ≡ true) ⊎ Lowest f (suc n)
    go b e (inr w) = inr (record { at = w.at; below = omega (arith, w.below); fails = w.fails; lowest = w.lowest })
    go true e (inl h) = inl (all_so_far e h)
    go false e (inl h) = inr (record { at = n; below = le_refl (suc n); fails = e; lowest = h })

-- ---- the session rules: an ask tests other lines first, then its own
module _ (W : ℕ) (m : Meaning) (x : Others) (bs : List ℕ) where
  abbrev own : Bool
  own = sound W m (read_line W bs)

  -- the lowest line that is not sound is another's
  rule_other : (op : Operation) → is_ask op ≡ true → other_first own m.user x.unsound ≡ true
      → rule W m x bs op ≡ record { reply = refuse 11 (number_after x.unsound); line = bs }
  unfolding rule is_ask can_give first applies unless refusal_number refusal_extra
  rule_other open_session a e = absurd (true≢false (sym a))
  rule_other (close_session k) a e = absurd (true≢false (sym a))
  rule_other (ask k q) a e = rw (e, first)
  rule_other (short_ask k lower upper room) a e = rw (e, first)
  rule_other (show k room) a e = absurd (true≢false (sym a))
  rule_other (explain k n) a e = absurd (true≢false (sym a))
  rule_other (obstacle k lower upper room) a e = rw (e, first)
  rule_other (clauses k q) a e = rw (e, first)

  -- it is the user's own
  rule_own : (op : Operation) → is_ask op ≡ true → other_first own m.user x.unsound ≡ false → own ≡ false
      → rule W m x bs op ≡ record { reply = refuse 11 0; line = bs }
  unfolding rule is_ask can_give first applies unless refusal_number refusal_extra
  rule_own open_session a e f = absurd (true≢false (sym a))
  rule_own (close_session k) a e f = absurd (true≢false (sym a))
  rule_own (ask k q) a e f = rw (e, f, first)
  rule_own (short_ask k lower upper room) a e f = rw (e, f, first)
  rule_own (show k room) a e f = absurd (true≢false (sym a))
  rule_own (explain k n) a e f = absurd (true≢false (sym a))
  rule_own (obstacle k lower upper room) a e f = rw (e, f, first)
  rule_own (clauses k q) a e f = rw (e, f, first)

-- ---- a ledger, under a policy with limits
module _ (W : ℕ) (p : Policy) (l : List ℕ) (c : Call) (limits : has_limits p ≡ true) (a : is_ask c.operation ≡ true) where
  told_is : told W p l c ≡ others_of W p c.user l
  unfolding told
  told_is = rw (limits, a, told)

  -- the lowest of the others
  other_lowest : (v : ℕ) → ¬ (v ≡ c.user) → LowestUnsound W p l v → (told W p l c).unsound ≡ some v
  unfolding others_of unsound_other
  other_lowest v n w =
      ap (λ (x : Others). x.unsound) told_is
      ∙ first-lowest (unsound_other W p c.user l) p.head.users v w.below
      (both (not (eqb v c.user)) _ (ap not (ne_eqb v c.user n)) (ap not w.unsound))
      (λ k i. ap (λ (b : Bool). not (eqb k c.user) && not b) (w.lowest k i) ∙ and-false (not (eqb k c.user)))

  -- the user's own is before any other
  own_lowest : LowestUnsound W p l c.user → (o : Option ℕ) → (told W p l c).unsound ≡ o → other_first false c.user o ≡ false
  unfolding others_of unsound_other other_first
  own_lowest w none e = refl
  own_lowest w (some v) e =
      let h = first_some (unsound_other W p c.user l) (table_of p.head.users (λ k. k)) v (sym (ap (λ (x : Others). x.unsound) told_is) ∙ e) in
      let bad = not-true (sound W (meaning p v) (line_of W l v)) (and_r (not (eqb v c.user)) _ h) in
      le-ltb v c.user (elim (dec_lt v c.user) [ yes i ↦ absurd (true≢false (sym (w.lowest v i) ∙ bad)) | no i ↦ omega arith ])

  -- another's is before the user's own, or that is sound
  other_first_lem : (v : ℕ) → ¬ (v ≡ c.user) → LowestUnsound W p l v → (b : Bool) → sound W (meaning p c.user) (line_of W l c.user) ≡ b
      → other_first b c.user (some v) ≡ true
  unfolding other_first
  other_first_lem v n w true e = refl
  other_first_lem v n w false e =
      lt-ltb v c.user
      (elim (dec_lt v c.user) [
        | yes i ↦ i
        | no i ↦ let k : c.user < v = omega arith in absurd (true≢false (sym (w.lowest c.user k) ∙ e))
      ])

  -- the answer of the session rules, and the line after it
  abbrev result : Result
  result = rule W (meaning p c.user) (told W p l c) (line_at (line_size W) c.user l) c.operation

  abbrev refused_with : ℕ → Result
  refused_with n = record { reply = refuse 11 n; line = line_at (line_size W) c.user l }

  pub answer : (v : ℕ) → LowestUnsound W p l v → result ≡ refused_with (pick (eqb v c.user) 0 (v + 1))
  unfolding line_of meaning pick number_after
  answer v w =
      cases (eqb v c.user)
      (λ e.
      let w' = subst (LowestUnsound W p l) (eqb-true v c.user e) w in
      rw e
      (rule_own W (meaning p c.user) (told W p l c) (line_at (line_size W) c.user l) c.operation a
      (ap (λ (b : Bool). other_first b c.user (told W p l c).unsound) w'.unsound ∙ own_lowest w' _ refl) w'.unsound))
      (λ e.
      let n = eqb-false v c.user e in
      let q = other_lowest v n w in
      rw e
      (rule_other W (meaning p c.user) (told W p l c) (line_at (line_size W) c.user l) c.operation a
      (ap (other_first (sound W (meaning p c.user) (line_of W l c.user)) c.user) q ∙ other_first_lem v n w _ refl)
      ∙ ap (λ (o : Option ℕ). refused_with (number_after o)) q))

  -- where some line is not sound, it is 11
  eleven : (v : ℕ) → v < p.head.users → sound W (meaning p v) (line_of W l v) ≡ false → result.reply.number ≡ 11
  unfolding refuse
  eleven v i e =
      elim (lowest-of (λ k. sound W (meaning p k) (line_of W l k)) p.head.users) [
        | inl h ↦ absurd (true≢false (sym (h v i) ∙ e))
        | inr w ↦ ap (λ (r : Result). r.reply.number) (answer w.at (record { below = w.below; unsound = w.fails; lowest = w.lowest }))
      ]

-- ---- an accepted image
pub asks_eleven : (W : ℕ) → W ≤ 64 → (s : List ℕ) (h : Head) → judge s ≡ Accepted h → AsksEleven W s
unfolding refuse ruled line_of
asks_eleven W wide s h accepted limits l hl c hu a =
    let e : step W s l c ≡ step_on W (policy_of s) l c = unfold step step_by in (ap (λ (v : Checked). step_by W v (policy_of s) l c) accepted) in
    let r = e ∙ step_below W (policy_of s) l hl c hu in
    record {
      number = λ v i f. ap (λ (k : Event). k.reply.number) r ∙ eleven W (policy_of s) l c limits a v i f;
      extra = λ v w. ap (λ (k : Event). k.reply.extra) r ∙ ap (λ (k : Result). k.reply.extra) (answer W (policy_of s) l c limits a v w);
      otherwise = λ f. subst (λ (k : Event). ¬ (k.reply.number ≡ 11)) (sym e)
          (step_well W wide (policy_of s) (accepted_in_range s h accepted) l (record { fits = hl; lines = f }) c).answer;
    }
