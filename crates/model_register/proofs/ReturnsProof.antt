-- Every number of the register is below 256, so that what is returned tells the number and its extra apart.
-- Assumes nothing.
use mathlib.Core.Path.{◌≡◌, refl, sym, ap, subst}
use mathlib.Core.Logic.{inl, inr}
use mathlib.Core.List.{List, [], ◌∷◌}
use Prim.Native.Nat.{ℕ, ◌+◌, ◌*◌, ◌≤◌, ◌<◌}
use native.Mathlib.Omega.{arith}
use lib.Dec.{lit<}
use Rattle.model.specs.declared.Checked.{Checked}
use Rattle.model.specs.declared.Checked.TheVariants.{Refused}
use Rattle.model.specs.Image.{check_number}
use Rattle.model.specs.Judgement.{judge, judge_meaning}
use Rattle.model.specs.Policy.{Policy, policy_of}
use Rattle.model.specs.Session.{Operation, open_session, close_session, ask, short_ask, show, explain, obstacle, clauses}
use Rattle.model.specs.Run.{Call, Event, step, returned}
use Rattle.model_laws.proofs.ImageNumbers.{Numbered, words-numbered}
use Rattle.model_laws.proofs.Judgements.{judge_is}
use Rattle.model_register.specs.Faults.{Refuses}
use Rattle.model_register.specs.Calls.{Case, Answers, cases, Does, cases_for, Register, by_words, by_loop, by_reach, by_call}
use Rattle.model_register.specs.Returns.{Returns, CheckIs, CallReturns}
use Rattle.model_register.proofs.FaultsProof.{register_is}
use Rattle.model_register.proofs.CallsProof.{steps_are}

apart : (n x : ℕ) → n < 256 → Returns (n + 256 * x) n x
apart n x l = (omega arith, omega arith)

module _ (s : List ℕ) where
  -- 1 to 8
  small : (n k : ℕ) → Refuses s n k → n < 256
  small n k r = let q : (1 ≤ n) × (n ≤ 8) = subst (Numbered 8) (((register_is s).refused n k).1 r) (words-numbered s) in omega arith

  told : (n x : ℕ) → n < 256 → judge s ≡ Refused n x → Returns (check_number (judge s)) n x
  unfolding check_number
  told n x l e = subst (λ (v : Checked). Returns (check_number v) n x) (sym e) (apart n x l)

  pub check_is : CheckIs s
  unfolding judge judge_meaning check_number
  check_is =
      record {
        by_words = λ n k r. told n k (small n k r) (ap (judge_meaning (policy_of s)) (((register_is s).refused n k).1 r));
        by_loop = λ h a r w. told 22 r (lit< tt) (((judge_is s).by_loop r).1 ((h, ((register_is s).accepted h).1 a), w));
        by_reach = λ h a n v w. told 23 v (lit< tt) (((judge_is s).by_reach v).1 ((h, ((register_is s).accepted h).1 a), n, w));
        accepted = λ h a n f. ap check_number (((judge_is s).accepted h).1 (((register_is s).accepted h).1 a, n, f));
      }

-- ---- the numbers of a call
abbrev Small : Event → Type 0
Small e = e.reply.number < 256

abbrev AllSmall : List Case → Type 0
AllSmall [] = Unit {0}
AllSmall (c ∷ cs) = (c.number < 256) × AllSmall cs

answers_small : (ledger : List ℕ) (cs : List Case) (Done : Event → Type 0) (e : Event) → AllSmall cs → (Done e → Small e) → Answers ledger cs Done e → Small e
answers_small ledger [] Done e a d w = d w
answers_small ledger (c ∷ cs) Done e a d (inl (x, v, q)) = subst Small (sym q) a.0
answers_small ledger (c ∷ cs) Done e a d (inr (n, w)) = answers_small ledger cs Done e a.1 d w

module _ (W : ℕ) (p : Policy) (ledger : List ℕ) (u : ℕ) where
  cases-small : (op : Operation) → AllSmall (cases W p ledger u op)
  cases-small open_session = (lit< tt, (lit< tt, tt))
  cases-small (close_session k) = (lit< tt, (lit< tt, (lit< tt, tt)))
  cases-small (ask k q) = (lit< tt, (lit< tt, (lit< tt, (lit< tt, (lit< tt, (lit< tt, (lit< tt, (lit< tt, (lit< tt, tt)))))))))
  cases-small (short_ask k lower upper room) = (lit< tt, (lit< tt, (lit< tt, (lit< tt, (lit< tt, (lit< tt, (lit< tt, (lit< tt, tt))))))))
  cases-small (show k room) = (lit< tt, (lit< tt, (lit< tt, (lit< tt, tt))))
  cases-small (explain k n) = (lit< tt, (lit< tt, (lit< tt, (lit< tt, (lit< tt, tt)))))
  cases-small (obstacle k lower upper room) = (lit< tt, (lit< tt, (lit< tt, (lit< tt, (lit< tt, (lit< tt, (lit< tt, (lit< tt, tt))))))))
  cases-small (clauses k q) = (lit< tt, (lit< tt, (lit< tt, (lit< tt, (lit< tt, (lit< tt, (lit< tt, (lit< tt, tt))))))))

  done-small : (op : Operation) (e : Event) → Does W p ledger u op e → Small e
  done-small open_session e w = subst Small (sym w.event) (lit< tt)
  done-small (close_session k) e w = subst Small (sym w) (lit< tt)
  done-small (ask k q) e w = subst Small (sym w.event) (lit< tt)
  done-small (short_ask k lower upper room) e w = subst Small (sym w.event) (lit< tt)
  done-small (show k room) e w = subst Small (sym w.event) (lit< tt)
  done-small (explain k n) e w = subst Small (sym w.event) (lit< tt)
  done-small (obstacle k lower upper room) e w = subst Small (sym w.event) (lit< tt)
  done-small (clauses k q) e w = subst Small (sym w) (lit< tt)

register_small : (W : ℕ) (image ledger : List ℕ) (c : Call) (e : Event) → Register W image ledger c e → Small e
register_small W image ledger c e (by_words n k r q) = subst Small (sym q) (small image n k r)
register_small W image ledger c e (by_loop h a r w q) = subst Small (sym q) (lit< tt)
register_small W image ledger c e (by_reach h a n v w q) = subst Small (sym q) (lit< tt)
register_small W image ledger c e (by_call h a n f w) =
    answers_small ledger (cases_for W (policy_of image) ledger c) (Does W (policy_of image) ledger c.user c.operation) e
    (lit< tt, (lit< tt, cases-small W (policy_of image) ledger c.user c.operation))
    (done-small W (policy_of image) ledger c.user c.operation e) w

pub call_returns : (W : ℕ) → CallReturns W
unfolding returned
call_returns W image ledger c =
    let e = step W image ledger c in
    apart e.reply.number e.reply.extra (register_small W image ledger c e ((steps_are W image ledger c e).0 refl))
