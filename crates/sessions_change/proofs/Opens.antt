-- The cases of an open on a sound line: all sessions open, and a session opened.
-- Assumes nothing.
use mathlib.Core.Path.{◌≡◌, refl, sym, ap, ◌∙◌}
use mathlib.Core.Bool.{true, false, not}
use mathlib.Core.Logic.{inl, inr}
use mathlib.Core.List.{List}
use Prim.Native.Nat.{ℕ, zero, suc, ◌*◌, ◌<◌}
use native.Mathlib.Nat.{zero-add}
use native.Mathlib.Omega.{arith}
use lib.Dec.{eqb}
use borrow.Author.Tests.{ne_eqb}
use borrow.Table.Steps.{cases}
use Rattle.model.specs.Sets.{has, count, count_to}
use Rattle.model.specs.Policy.{Policy}
use Rattle.model.specs.declared.Line.{Line}
use Rattle.model.specs.Line.{line_size, write_line, is_open, lowest_closed, opening}
use Rattle.model.specs.Session.{done, is_full, refusal_number, refusal_extra, can_give, applies, perform, session_of, query_of}
use Rattle.model.specs.Run.{Event, with_line, step_on, open_by, returned, line_of}
use Rattle.model_laws.proofs.CallLaws.{lowest_closed_lem}
use Rattle.model_laws.proofs.Ranks.{count-le}
use Rattle.model_laws.proofs.SetLaws.{one-most}
use Rattle.model_laws.proofs.UnionLaws.{below_or_last}
use Rattle.sessions.specs.Calls.{Gives}
use Rattle.sessions.proofs.FirstSteps.{refused_by, Ready, refuses, performs, holds, fails, ends}

-- where one number below d is no member, not all are counted
count-less : (d s k : ℕ) → k < d → has s k ≡ false → count d s < d
unfolding count count_to
count-less zero s k h e = absurd (omega arith)
count-less (suc d) s k h e =
    elim (below_or_last k d h) [
      | inl i ↦ let l = count-less d s k i e in let o = one-most (has s d) in omega (arith, l, o)
      | inr i ↦ let z : has s d ≡ false = ap (has s) (sym i) ∙ e in rw z (omega (arith, count-le d s))
    ]

-- the rule that all sessions are open, by the lowest closed one
module _ (W : ℕ) (l : Line) where
  all_open : lowest_closed l 0 W ≡ W → eqb (count W l.opened) W ≡ true
  all_open f = cases (eqb (count W l.opened) W) (λ e. e) (λ e. let h = lowest_closed_lem W l e in absurd (omega (arith, h.0)))

  some_closed : (k : ℕ) → k < W → is_open l k ≡ false → eqb (count W l.opened) W ≡ false
  unfolding is_open
  some_closed k h e = let f = count-less W l.opened k h e in ne_eqb _ _ (λ q. absurd (omega (arith, f, q)))

module _ (W : ℕ) (p : Policy) (ledger : List ℕ) (u : ℕ) (r : Ready W p ledger u) (l : Line) (el : l ≡ line_of W ledger u) where
  -- no session of the line that code holds is closed
  pub open14 : lowest_closed l 0 W ≡ W → step_on W p ledger (open_by u) ≡ refused_by 14 ledger
  unfolding open_by can_give applies refusal_number refusal_extra session_of query_of
  open14 f =
      refuses W p ledger (open_by u) r is_full refl
      (fails _ _ _ (ap not r.sound-line) ∙ holds _ _ _ (all_open W (line_of W ledger u) (rw (← el) f)))

  -- the lowest closed session of the line is opened, and the line written back
  pub open0 : (k : ℕ) (next : Line) (after : List ℕ) → k ≡ lowest_closed l 0 W → k < W → is_open l k ≡ false → next ≡ opening k l
      → after ≡ with_line (line_size W) u (write_line next) ledger → Gives (step_on W p ledger (open_by u)) (256 * k) after
  unfolding open_by can_give applies session_of query_of perform done returned
  open0 k next after ek h o en ea =
      let f = some_closed W (line_of W ledger u) k h (rw (← el) o) in
      let e = performs W p ledger (open_by u) r (fails _ _ _ (ap not r.sound-line) ∙ fails _ _ _ f ∙ ends _) in
      record {
        number = rw (ek, el) (sym (ap (λ (x : Event). returned x.reply) e ∙ zero-add _));
        bytes = rw (ea, en, ek, el) (sym (ap (λ (x : Event). x.ledger) e));
      }
