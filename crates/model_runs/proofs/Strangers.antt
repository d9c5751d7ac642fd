-- A user without a line is refused by 10 at every call of a run.
-- Assumes nothing.
use mathlib.Core.Path.{◌≡◌, refl, ap, ap₂, ◌∙◌}
use mathlib.Core.Bool.{Bool, true, false}
use mathlib.Core.List.{List, [], ◌∷◌, map}
use Prim.Native.Nat.{ℕ, ◌*◌, ◌≤◌}
use native.Mathlib.Nat.{mul-le-mul_left}
use lib.Dec.{eqb}
use lib.ListN.{length, take, drop_of_length-le}
use lib.Seq.{take-nil}
use borrow.Author.Tests.{eqb-true, eq-eqb, le-ltb}
use Rattle.model.specs.declared.Head.{Head}
use Rattle.model.specs.declared.Checked.TheVariants.{Accepted}
use Rattle.model.specs.Tests.{pick}
use Rattle.model.specs.Judgement.{judge}
use Rattle.model.specs.Policy.{policy_of}
use Rattle.model.specs.Line.{line_size}
use Rattle.model.specs.Session.{Operation, refuse, Result}
use Rattle.model.specs.Run.{Call, line_at, step_on, run}
use Rattle.model.specs.Independence.{Run, events_of, calls_of, seen_by, view_of}
use Rattle.model_laws.proofs.Judgements.{accepted-head}
use Rattle.model_laws.proofs.LedgerLaws.{step_on_lem, step-length}
use Rattle.model_runs.specs.Histories.{WithoutLine}
use Rattle.model_runs.proofs.EndLaws.{fits-policy}

-- every answer to one: 10, with no line
abbrev pub strange : List Operation → List Result
strange os = map (λ o. record { reply = refuse 10 0; line = [] }) os

pub no_line : (z u n : ℕ) (l : List ℕ) → length l ≡ z * n → n ≤ u → line_at z u l ≡ []
unfolding line_at
no_line z u n l hl h =
    let k : length l ≤ z * u = rw hl (mul-le-mul_left z h) in
    ap (λ (bs : List ℕ). take z bs) (drop_of_length-le l k) ∙ take-nil z

module _ (W u : ℕ) (s : List ℕ) (g : Head) (e : judge s ≡ Accepted g) (above : (policy_of s).head.users ≤ u) where
  stranger : (l : List ℕ) → length l ≡ line_size W * (policy_of s).head.users → (c : Call) → eqb c.user u ≡ true
      → step_on W (policy_of s) l c ≡ record { reply = refuse 10 0; ledger = l }
  unfolding step_on pick
  stranger l hl c t =
      rw (eq-eqb (length l) (line_size W * (policy_of s).head.users) hl, eqb-true c.user u t, le-ltb u (policy_of s).head.users above)

  strange_view : (l : List ℕ) → length l ≡ line_size W * (policy_of s).head.users → (cs : List Call)
      → seen_by (line_size W) u cs (run W s l cs) ≡ strange (calls_of u cs)
  unfolding seen_by run calls_of
  strange_view l hl [] = refl
  strange_view l hl (c ∷ cs) =
      rw (step_on_lem W s g e l c)
      (go (eqb c.user u) refl (strange_view (step_on W (policy_of s) l c).ledger (step-length W (policy_of s) l hl c ∙ hl) cs))
    where
      after : List ℕ
      after = (step_on W (policy_of s) l c).ledger

      go : (b : Bool) → eqb c.user u ≡ b → seen_by (line_size W) u cs (run W s after cs) ≡ strange (calls_of u cs)
          → seen_by (line_size W) u (c ∷ cs) (step_on W (policy_of s) l c ∷ run W s after cs) ≡ strange (calls_of u (c ∷ cs))
      go true t ih =
          rw (t, seen_by, calls_of)
          (ap₂ {C = List Result} (λ (r : Result) (rs : List Result). r ∷ rs)
          (λ i. record {
            reply = (stranger l hl c t i).reply;
            line = no_line (line_size W) u (policy_of s).head.users after (step-length W (policy_of s) l hl c ∙ hl) above i;
          }) ih)
      go false t ih = rw (t, seen_by, calls_of) ih

-- the number of users
pub users_in : (W : ℕ) (r : Run W) → (policy_of r.image).head.users ≡ r.head.users
users_in W r = ap (λ (k : Head). k.users) (accepted-head r.image r.head r.accepted)

pub without-line : (W : ℕ) (r : Run W) → WithoutLine W r
unfolding view_of events_of
without-line W r u above =
    strange_view W u r.image r.head r.accepted (rw (users_in W r) above) r.ledger (fits-policy W r) r.calls
