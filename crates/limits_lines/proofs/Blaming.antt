-- The lowest line that is not sound: an ask under a policy with limits is refused for it, and where there is none it is
-- told of none.
-- Assumes nothing.
use mathlib.Core.Path.{◌≡◌, sym, ap, ◌∙◌, subst}
use mathlib.Core.Bool.{Bool, true, false, ◌&&◌, not, and-false}
use mathlib.Core.Logic.{inl, inr}
use mathlib.Core.Option.{none}
use mathlib.Core.List.{List}
use Prim.Native.Nat.{ℕ, zero, suc, ◌+◌, ◌-◌, ◌*◌, ◌≤◌, ◌<◌}
use native.Mathlib.Decide.{dec_lt}
use native.Mathlib.Numerals.{add-one}
use native.Mathlib.Omega.{arith}
use lib.Dec.{eqb, ltb}
use lib.ListN.{length}
use borrow.Author.Tests.{eqb-true, ltb-true, eq-eqb, ne_eqb, lt-ltb, le-ltb}
use borrow.Table.Steps.{cases}
use Rattle.model.specs.Tests.{pick, any}
use Rattle.model.specs.Policy.{Policy, has_limits, meaning}
use Rattle.model.specs.Line.{line_size, sound}
use Rattle.model.specs.Limits.{Others, nobody}
use Rattle.model.specs.Session.{is_ask, refuse, Result}
use Rattle.model.specs.Run.{Call, with_line, line_of, unsound_other, others_of, told, ruled, step_on}
use Rattle.model_laws.proofs.Bools.{and_l, and_r, both}
use Rattle.model_laws.proofs.UnionLaws.{below_or_last}
use Rattle.model_laws.proofs.CallLaws.{first_below}
use Rattle.model_laws.proofs.LedgerLaws.{own_line, step_below}
use Rattle.model_laws.proofs.IndependenceProof.{told-nothing}
use Rattle.model_limits.specs.Eleven.{LowestUnsound}
use Rattle.model_limits.proofs.ElevenProof.{answer}
use Rattle.limits_left.proofs.Leaving.{given}
use Rattle.limits_lines.specs.Lines.{blamed, lines_refusal, others_refusal}

-- the extra of a refusal
blames : (u v : ℕ) → blamed u v ≡ 11 + 256 * pick (eqb v u) 0 (v + 1)
unfolding blamed pick
blames u v = cases (eqb v u) (λ e. rw e) (λ e. rw e)

-- ---- the lines from v on, of n
module _ (W : ℕ) (p : Policy) (ledger : List ℕ) (u : ℕ) where
  -- the lines from v on, by whether that of v is sound
  abbrev tried : ℕ → ℕ → Bool → ℕ
  tried v d b = elim b [ true ↦ lines_refusal W p ledger u (suc v) d | false ↦ blamed u v ]

  first-line : (v d : ℕ) (b : Bool) → sound W (meaning p v) (line_of W ledger v) ≡ b → lines_refusal W p ledger u v (suc d) ≡ tried v d b
  unfolding lines_refusal
  first-line v d b e = ap (tried v d) e

  -- by a test b of the line of v
  module _ {b : Bool} (v n : ℕ) (l : v < n) (t : b ≡ sound W (meaning p v) (line_of W ledger v)) where
    pub lines_next : b ≡ true → lines_refusal W p ledger u (v + 1) (n - (v + 1)) ≡ lines_refusal W p ledger u v (n - v)
    lines_next e =
        ap (λ (i : ℕ). lines_refusal W p ledger u i (n - (v + 1))) (add-one v) ∙ sym (first-line v (n - (v + 1)) true (sym t ∙ e))
        ∙ ap (lines_refusal W p ledger u v) (omega arith)

    pub lines_stop : b ≡ false → blamed u v ≡ lines_refusal W p ledger u v (n - v)
    lines_stop e = sym (first-line v (n - (v + 1)) false (sym t ∙ e)) ∙ ap (lines_refusal W p ledger u v) (omega arith)

  pub lines_end : (v n : ℕ) → n ≤ v → 0 ≡ lines_refusal W p ledger u v (n - v)
  unfolding lines_refusal
  lines_end v n l = let k : 0 ≡ n - v = omega arith in ap (lines_refusal W p ledger u v) k

  -- where they refuse nothing, all are sound
  abbrev SoundFrom : ℕ → ℕ → Type 0
  SoundFrom v d = (w : ℕ) → v ≤ w → w < v + d → sound W (meaning p w) (line_of W ledger w) ≡ true

  lines-sound : (d v : ℕ) → 0 ≡ lines_refusal W p ledger u v d → SoundFrom v d
  lines-sound zero v e w a b = absurd (omega arith)
  lines-sound (suc d) v e w a b =
      cases (sound W (meaning p v) (line_of W ledger v))
      (λ q.
      elim (dec_lt v w) [
        | yes l ↦ lines-sound d (suc v) (e ∙ first-line v d true q) w l (omega arith)
        | no l ↦ let i : v ≡ w = omega arith in subst (λ (j : ℕ). sound W (meaning p j) (line_of W ledger j) ≡ true) i q
      ])
      (λ q. let z = e ∙ first-line v d false q ∙ blames u v in absurd (omega arith))

  -- where they refuse, it is for the lowest
  abbrev SoundBelow : ℕ → Type 0
  SoundBelow v = (w : ℕ) → w < v → sound W (meaning p w) (line_of W ledger w) ≡ true

  abbrev Blames : ℕ → Type 0
  Blames n = (w : ℕ) × LowestUnsound W p ledger w × (n ≡ blamed u w)

  lines-lowest : (d v n : ℕ) → v + d ≡ p.head.users → SoundBelow v → n ≡ lines_refusal W p ledger u v d → (n ≡ 0 → ⊥) → Blames n
  unfolding lines_refusal
  lines-lowest zero v n k h e z = absurd (z e)
  lines-lowest (suc d) v n k h e z =
      cases (sound W (meaning p v) (line_of W ledger v))
      (λ q.
      lines-lowest d (suc v) n (omega arith)
      (λ w l.
      elim (below_or_last w v l) [
        | inl i ↦ h w i
        | inr i ↦ subst (λ (j : ℕ). sound W (meaning p j) (line_of W ledger j) ≡ true) (sym i) q
      ])
      (e ∙ first-line v d true q) z)
      (λ q. (v, record { below = omega arith; unsound = q; lowest = h }, e ∙ first-line v d false q))

-- ---- whether lines are looked at
module _ (W : ℕ) (p : Policy) (ledger : List ℕ) (u : ℕ) where
  abbrev looked : Bool
  looked = has_limits p && (eqb (length ledger) (line_size W * p.head.users) && ltb u p.head.users)

  abbrev refusal_if : Bool → ℕ
  refusal_if b = elim b [ true ↦ lines_refusal W p ledger u 0 p.head.users | false ↦ 0 ]

  by_looked : {b : Bool} → looked ≡ b → others_refusal W p ledger u ≡ refusal_if b
  unfolding others_refusal
  by_looked e = ap refusal_if e

  not_looked : looked ≡ false → 0 ≡ others_refusal W p ledger u
  not_looked e = sym (by_looked e)

  -- by a test b of the limits, as read
  pub no_limits : {ls : List ℕ} {b : Bool} → p.limits ≡ ls → b ≡ any given ls → b ≡ false → 0 ≡ others_refusal W p ledger u
  unfolding has_limits
  no_limits l t e = not_looked (rw (ap (any given) l ∙ sym t ∙ e))

  -- by the number n of users, as read
  pub no_fit : {n : ℕ} → p.head.users ≡ n → (length ledger ≡ line_size W * n → ⊥) → 0 ≡ others_refusal W p ledger u
  no_fit q e =
      let k = ne_eqb (length ledger) (line_size W * p.head.users) (λ x. e (x ∙ ap (λ (n : ℕ). line_size W * n) q)) in
      not_looked (rw k (and-false (has_limits p)))

  pub no_line : {n : ℕ} → p.head.users ≡ n → n ≤ u → 0 ≡ others_refusal W p ledger u
  no_line q e =
      let k = le-ltb u p.head.users (omega arith) in
      not_looked (rw (k, and-false (eqb (length ledger) (line_size W * p.head.users))) (and-false (has_limits p)))

  pub lines_looked : (r : ℕ) {ls : List ℕ} {b : Bool} {n : ℕ} → p.limits ≡ ls → b ≡ any given ls → b ≡ true → p.head.users ≡ n
      → length ledger ≡ line_size W * n → u < n → r ≡ lines_refusal W p ledger u 0 n → r ≡ others_refusal W p ledger u
  unfolding has_limits
  lines_looked r l t h q f i e =
      let some = ap (any given) l ∙ sym t ∙ h in
      let fits = eq-eqb _ _ (f ∙ ap (λ (n : ℕ). line_size W * n) (sym q)) in
      let k = lt-ltb u p.head.users (omega arith) in
      e ∙ ap (lines_refusal W p ledger u 0) (sym q) ∙ sym (by_looked (both (has_limits p) _ some (both _ _ fits k)))

-- ---- an ask
module _ (W : ℕ) (p : Policy) (ledger : List ℕ) (c : Call) (a : is_ask c.operation ≡ true) where
  -- the lowest line that is not sound refuses it
  blamed-step : has_limits p ≡ true → length ledger ≡ line_size W * p.head.users → c.user < p.head.users → (v : ℕ) → LowestUnsound W p ledger v
      → step_on W p ledger c ≡ record { reply = refuse 11 (pick (eqb v c.user) 0 (v + 1)); ledger = ledger }
  unfolding ruled
  blamed-step q fits below v w =
      step_below W p ledger fits c below
      ∙ ap (λ (r : Result). record { reply = r.reply; ledger = with_line (line_size W) c.user r.line ledger }) (answer W p ledger c q a v w)
      ∙ ap (λ (l : List ℕ). record { reply = refuse 11 (pick (eqb v c.user) 0 (v + 1)); ledger = l }) (own_line (line_size W) c.user ledger)

  -- refused for a line
  pub others-refused : (n : ℕ) → n ≡ others_refusal W p ledger c.user → (n ≡ 0 → ⊥)
      → (x : ℕ) × (n ≡ 11 + 256 * x) × (step_on W p ledger c ≡ record { reply = refuse 11 x; ledger = ledger })
  others-refused n e z =
      cases (looked W p ledger c.user)
      (λ k.
      let w = lines-lowest W p ledger c.user p.head.users 0 n (omega arith) (λ v l. absurd (omega arith)) (e ∙ by_looked W p ledger c.user k) z in
      let fitting = eqb (length ledger) (line_size W * p.head.users) in
      let fits = eqb-true _ _ (and_l fitting _ (and_r (has_limits p) _ k)) in
      let below = ltb-true _ _ (and_r fitting _ (and_r (has_limits p) _ k)) in
      (pick (eqb w.0 c.user) 0 (w.0 + 1), w.2 ∙ blames c.user w.0, blamed-step (and_l (has_limits p) _ k) fits below w.0 w.1))
      (λ k. absurd (z (e ∙ by_looked W p ledger c.user k)))

  -- told of no line
  pub others-quiet : 0 ≡ others_refusal W p ledger c.user → length ledger ≡ line_size W * p.head.users → c.user < p.head.users
      → (told W p ledger c).unsound ≡ none
  unfolding told others_of unsound_other nobody
  others-quiet e fits below =
      cases (has_limits p)
      (λ q.
      let h = e ∙ by_looked W p ledger c.user (both (has_limits p) _ q (both _ _ (eq-eqb _ _ fits) (lt-ltb _ _ below))) in
      rw (q, a, told)
      (first_below (unsound_other W p c.user ledger) p.head.users
      (λ v l. rw (lines-sound W p ledger c.user p.head.users 0 h v (omega arith) (omega arith)) (and-false (not (eqb v c.user))))))
      (λ q. ap (λ (x : Others). x.unsound) (told-nothing W p q ledger c))
