-- The refusals of the call that gives the closed grant table.
-- Assumes nothing.
use mathlib.Core.Path.{◌≡◌, refl, sym, ap, ◌∙◌}
use mathlib.Core.Logic.{◌⊎◌, inl, inr}
use mathlib.Core.Bool.{Bool, true, false}
use mathlib.Core.List.{List}
use Prim.Native.Nat.{ℕ}
use native.Mathlib.Omega.{arith}
use lib.Dec.{eqb}
use lib.ListN.{length}
use borrow.Author.Tests.{eqb-true, eqb-false, eq-eqb, ne_eqb}
use Rattle.model.specs.declared.Head.{Head}
use Rattle.model.specs.declared.Checked.{Checked}
use Rattle.model.specs.declared.Checked.TheVariants.{Accepted, Refused}
use Rattle.model.specs.Policy.{policy_of}
use Rattle.model.specs.Judgement.{judge}
use Rattle.model.specs.Session.{Reply, refuse}
use Rattle.model.specs.Run.{answered}
use Rattle.model_register.specs.AsCheck.{Passes}
use Rattle.model_register.proofs.AsCheckProof.{as_check, passes_is, refused_else, else-0-19}
use Rattle.grant_table_turned.specs.Calls.{filling}
use Rattle.grant_table_turned.proofs.RefusalsProof.{left}
use Rattle.grant_table.specs.Table.{grant_table}
use Rattle.grant_table.specs.TableCalls.{table_on, table_by, table_call, TableRefuses}

-- ---- the closed grant table
module _ (s buffer : List ℕ) where
  abbrev reply : Reply
  reply = table_call s (length buffer)

  refused : (n x : ℕ) → judge s ≡ Refused n x → table_call s (length buffer) ≡ refuse n x
  unfolding table_call table_by
  refused n x e = ap (λ v. table_by v (policy_of s) (length buffer)) e

  wrong : (h : Head) → judge s ≡ Accepted h → ¬ (length buffer ≡ 2048) → table_call s (length buffer) ≡ refuse 19 0
  unfolding table_call table_by table_on
  wrong h e n = ap (λ v. table_by v (policy_of s) (length buffer)) e ∙ rw (ne_eqb (length buffer) 2048 n, table_on)

  right : (h : Head) → judge s ≡ Accepted h → length buffer ≡ 2048 → table_call s (length buffer) ≡ filling (grant_table (policy_of s))
  unfolding table_call table_by table_on
  right h e n = ap (λ v. table_by v (policy_of s) (length buffer)) e ∙ rw (eq-eqb (length buffer) 2048 n, table_on)

  data Answers : Type 0 where
    as_check_does : (n x : ℕ) → judge s ≡ Refused n x → reply ≡ refuse n x → Answers
    no_room : (h : Head) → judge s ≡ Accepted h → ¬ (length buffer ≡ 2048) → reply ≡ refuse 19 0 → Answers
    is_done : (h : Head) → judge s ≡ Accepted h → length buffer ≡ 2048 → reply ≡ filling (grant_table (policy_of s)) → Answers

  answers : Answers
  answers = go (judge s) refl
    where
      sized : (h : Head) → judge s ≡ Accepted h → (b : Bool) → eqb (length buffer) 2048 ≡ b → Answers
      sized h e true q = let n = eqb-true _ _ q in is_done h e n (right h e n)
      sized h e false q = let n = eqb-false _ _ q in no_room h e n (wrong h e n)

      go : (v : Checked) → judge s ≡ v → Answers
      go (Refused n x) e = as_check_does n x e (refused n x e)
      go (Accepted h) e = sized h e (eqb (length buffer) 2048) refl

  number_of : (n x : ℕ) → reply ≡ refuse n x → (reply.number ≡ n) × (reply.extra ≡ x)
  unfolding refuse
  number_of n x e = (ap (λ (r : Reply). r.number) e, ap (λ (r : Reply). r.extra) e)

  number-done : reply ≡ filling (grant_table (policy_of s)) → reply.number ≡ 0
  unfolding filling
  number-done e = ap (λ (r : Reply). r.number) e

  room_of : reply.number ≡ 19 → Answers → (Passes s × ¬ (length buffer ≡ 2048)) × (reply ≡ refuse 19 0)
  room_of q (as_check_does n x e i) = absurd (refused_else s n x e (else-0-19 n (inr (sym (number_of n x i).0 ∙ q))))
  room_of q (no_room h e n i) = (((passes_is s).1 (h, e), n), i)
  room_of q (is_done h e n i) = absurd (let z : 0 ≡ 19 = sym (number-done i) ∙ q in omega arith)

  done-of : reply.number ≡ 0 → Answers → (Passes s × (length buffer ≡ 2048)) × (reply ≡ filling (grant_table (policy_of s)))
  done-of q (as_check_does n x e i) = absurd (refused_else s n x e (else-0-19 n (inl (sym (number_of n x i).0 ∙ q))))
  done-of q (no_room h e n i) = absurd (let z : 19 ≡ 0 = sym (number_of 19 0 i).0 ∙ q in omega arith)
  done-of q (is_done h e n i) = (((passes_is s).1 (h, e), n), i)

  untouched_by : ¬ (reply.number ≡ 0) → Answers → answered buffer reply ≡ buffer
  untouched_by z (as_check_does n x e i) = left buffer reply n x i
  untouched_by z (no_room h e n i) = left buffer reply 19 0 i
  untouched_by z (is_done h e n i) = absurd (z (number-done i))

  by_size : (h : Head) → judge s ≡ Accepted h → Answers → (reply.number ≡ 0) ⊎ (reply.number ≡ 19)
  by_size h a (as_check_does n x e i) = let z : ◌≡◌ {A = ℕ} 0 1 = cc in absurd (omega arith)
  by_size h a (no_room g e n i) = inr (number_of 19 0 i).0
  by_size h a (is_done g e n i) = inl (number-done i)

  pub table_refuses : TableRefuses s buffer
  table_refuses =
      record {
        check = as_check s reply.number reply.extra (λ n x e. number_of n x (refused n x e)) (λ h e. else-0-19 reply.number (by_size h e answers));
        room = (λ q. (room_of (number_of 19 0 q).0 answers).0, λ (w, n). let (h, e) = (passes_is s).0 w in wrong h e n);
        done = (λ q. (done-of (number-done q) answers).0, λ (w, n). let (h, e) = (passes_is s).0 w in right h e n);
        by_19 = λ q. (room_of q answers).1;
        by_0 = λ q. (done-of q answers).1;
        untouched = λ z. untouched_by z answers;
      }
