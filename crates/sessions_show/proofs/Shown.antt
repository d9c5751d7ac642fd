-- The cases of a show of an open session of a sound line: a buffer of another length, and the session shown.
-- Assumes nothing.
use mathlib.Core.Path.{◌≡◌, refl, sym, ap, ◌∙◌}
use mathlib.Core.Bool.{true, not}
use mathlib.Core.List.{List, [], ◌∷◌, ◌++◌}
use Prim.Native.Nat.{ℕ, ◌<◌}
use lib.ListN.{length}
use borrow.Author.Tests.{eq-eqb, ne_eqb}
use Rattle.model.specs.declared.Line.{Line}
use Rattle.model.specs.Sets.{union_at}
use Rattle.model.specs.Policy.{Policy, below_table, reached, carried_table, meaning}
use Rattle.model.specs.Bytes.{bytes_of}
use Rattle.model.specs.Line.{session_at, is_open}
use Rattle.model.specs.Choice.{carried_by}
use Rattle.model.specs.Session.{given, bad_room, refusal_number, refusal_extra, can_give, applies, perform, session_of, query_of}
use Rattle.model.specs.Run.{Event, step_on, show_by, returned, filled_with, answered, line_of}
use Rattle.tables_rows.specs.Carried.{carried_of}
use Rattle.sessions.specs.Calls.{Shows}
use Rattle.sessions.proofs.FirstSteps.{refused_by, Ready, refuses, performs, passes, holds, fails, ends}

-- what the active roles carry by the tables is what the policy says that they carry
set-carries : (p : Policy) (u active : ℕ) (granted below : List ℕ) → granted ≡ p.granted → below ≡ below_table p
    → union_at (carried_of granted below) active ≡ carried_by (meaning p u) active
unfolding carried_by meaning carried_of carried_table reached
set-carries p u active granted below eg eb =
    let q : carried_of granted below ≡ carried_of p.granted (below_table p) = cc in
    ap (λ (x : List ℕ). union_at x active) q

module _ (W : ℕ) (p : Policy) (ledger : List ℕ) (u k : ℕ) (room : List ℕ) (r : Ready W p ledger u) (h : k < W)
    (o : is_open (line_of W ledger u) k ≡ true) where
  pub show19 : (length room ≡ 40 → ⊥) → step_on W p ledger (show_by u k (length room)) ≡ refused_by 19 ledger
  unfolding show_by can_give applies refusal_number refusal_extra session_of query_of
  show19 n =
      refuses W p ledger (show_by u k (length room)) r bad_room refl
      (passes W p ledger (show_by u k (length room)) r (bad_room ∷ []) refl h o ∙ holds _ _ _ (ap not (ne_eqb _ _ n)))

  -- the active roles of the line that code holds, and what they carry by the tables, fill the buffer
  pub show0 : length room ≡ 40 → (l : Line) (c : ℕ) (granted below answer : List ℕ) → l ≡ line_of W ledger u → granted ≡ p.granted
      → below ≡ below_table p → c ≡ union_at (carried_of granted below) (session_at l k).active
      → answer ≡ bytes_of 8 (session_at l k).active ++ bytes_of 32 c → Shows (step_on W p ledger (show_by u k (length room))) 0 room answer
  unfolding show_by can_give applies session_of query_of perform given returned answered filled_with bytes_of
  show0 n l c granted below answer el eg eb ec ea =
      let e = performs W p ledger (show_by u k (length room)) r
      (passes W p ledger (show_by u k (length room)) r (bad_room ∷ []) refl h o ∙ fails _ _ _ (ap not (eq-eqb _ _ n)) ∙ ends _) in
      record {
        number = sym (ap (λ (x : Event). returned x.reply) e);
        buffer = rw (ea, ec, set-carries p u _ granted below eg eb, el) (sym (ap (λ (x : Event). answered room x.reply) e));
      }
