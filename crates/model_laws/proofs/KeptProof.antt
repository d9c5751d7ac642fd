-- Soundness is kept: every call on a sound line leaves a sound line, and a run from the zero ledger never gives 11.
-- Assumes nothing.
use mathlib.Core.Path.{◌≡◌, refl, sym, ap, ◌∙◌, subst}
use mathlib.Core.Bool.{false, ◌&&◌, not, and-false}
use mathlib.Core.Option.{none}
use mathlib.Core.List.{List, [], ◌∷◌}
use Prim.Native.Nat.{ℕ, ◌*◌, ◌≤◌, ◌<◌}
use native.Mathlib.Omega.{arith}
use lib.Dec.{eqb, ltb}
use lib.ListN.{length, length-replicate, replicate}
use borrow.Author.Tests.{ltb-true, eq-eqb}
use borrow.Table.Steps.{cases}
use Rattle.model.specs.declared.Head.{Head}
use Rattle.model.specs.declared.Checked.TheVariants.{Accepted}
use Rattle.model.specs.Tests.{pick}
use Rattle.model.specs.Judgement.{judge}
use Rattle.model.specs.Policy.{Policy, policy_of, has_limits, meaning}
use Rattle.model.specs.Line.{line_size}
use Rattle.model.specs.Limits.{nobody}
use Rattle.model.specs.Session.{refuse, Result, is_ask}
use Rattle.model.specs.Run.{Call, Event, line_at, line_of, unsound_other, others_of, told, step_on, step, run}
use Rattle.model.specs.Ranges.{Each, InRange}
use Rattle.model.specs.Kept.{SoundBytes, LineKept, SoundLedger, Well, RunKept}
use Rattle.model_laws.proofs.Bools.{elim_case}
use Rattle.model_laws.proofs.Reaches.{own_below, few_roles}
use Rattle.model_laws.proofs.LedgerLaws.{step_on_lem, step-length, step_own, step_other}
use Rattle.model_laws.proofs.Judgements.{accepted_in_range}
use Rattle.model_laws.proofs.MetLaws.{meaning_antitone, meaning_none}
use Rattle.model_laws.proofs.ZeroLaws.{zero_sound, zero_lines}
use Rattle.model_laws.proofs.CallLaws.{first_below}
use Rattle.model_laws.proofs.CallsKept.{call_well, call_answer}

-- ---- the meaning of a policy in range
module _ (W : ℕ) (wide : W ≤ 64) (p : Policy) (r : InRange p) where
  -- soundness is kept on each user's line
  pub line_kept : (u : ℕ) → LineKept W (meaning p u)
  line_kept u =
      record {
        antitone = meaning_antitone p u;
        zero_line = zero_sound W (meaning p u) (meaning_antitone p u) (meaning_none p u r);
        call = λ x bs s op. call_well W (meaning p u) wide (few_roles p r u) (own_below p r u) (meaning_antitone p u) x bs s op;
      }

  -- ---- one call on a ledger
  module _ (l : List ℕ) (k : SoundLedger W p l) (c : Call) where
    -- a user without a line
    step-refused : ltb c.user p.head.users ≡ false → step_on W p l c ≡ record { reply = refuse 10 0; ledger = l }
    unfolding step_on pick
    step-refused h = rw (eq-eqb (length l) (line_size W * p.head.users) k.fits, h)

    -- the refusal 10 is another number, and changes nothing
    refused_well : Well W p (record { reply = refuse 10 0; ledger = l })
    unfolding refuse
    refused_well = record { answer = λ e. omega arith; ledger = k }

    -- each user's line stays sound: that of the user of the call by the session rules, any other as it was
    lines_well : (u : ℕ) → u < p.head.users → SoundBytes W (meaning p u) (line_at (line_size W) u (step_on W p l c).ledger)
    lines_well u i =
        cases (eqb c.user u)
        (λ e. subst (SoundBytes W (meaning p u)) (sym (ap (λ (x : Result). x.line) (step_own W p l k.fits c u e i)))
        ((line_kept u).call (told W p l c) (line_at (line_size W) u l) (k.lines u i) c.operation))
        (λ e. subst (SoundBytes W (meaning p u)) (sym (step_other W p l k.fits c u e)) (k.lines u i))

    -- a call is told of no line that is not sound
    others-quiet : (u : ℕ) → (others_of W p u l).unsound ≡ none
    unfolding others_of unsound_other line_of
    others-quiet u =
        first_below (unsound_other W p u l) p.head.users
        (λ v i. rw (k.lines v i) (and-false (not (eqb v u))))

    told-quiet : (told W p l c).unsound ≡ none
    unfolding told nobody
    told-quiet =
        elim_case (λ o. o.unsound ≡ none) (is_ask c.operation && has_limits p) (others_of W p c.user l) nobody (λ _. others-quiet c.user) (λ _. refl)

    -- the answer to a user with a line is that of the session rules
    answered_well : c.user < p.head.users → ¬ ((step_on W p l c).reply.number ≡ 11)
    answered_well i =
        let m = meaning p c.user in
        let own = ap (λ (x : Result). x.reply) (step_own W p l k.fits c c.user (eq-eqb c.user c.user refl) i) in
        rw own
        (call_answer W m wide (few_roles p r c.user) (own_below p r c.user) (meaning_antitone p c.user) (told W p l c)
        (line_at (line_size W) c.user l) (k.lines c.user i) told-quiet c.operation)

    -- a call on a sound ledger goes well
    pub step_well : Well W p (step_on W p l c)
    step_well =
        cases (ltb c.user p.head.users)
        (λ e. record {
          answer = answered_well (ltb-true c.user p.head.users e);
          ledger = record { fits = step-length W p l k.fits c ∙ k.fits; lines = lines_well };
        })
        (λ e. subst (Well W p) (sym (step-refused e)) refused_well)

  -- the zero ledger
  zero_well : SoundLedger W p (replicate (line_size W * p.head.users) 0)
  zero_well =
      record {
        fits = length-replicate (line_size W * p.head.users) 0;
        lines = λ u i. subst (SoundBytes W (meaning p u)) (sym (zero_lines (line_size W) u p.head.users i)) (line_kept u).zero_line;
      }

-- ---- runs under an accepted image
module _ (W : ℕ) (wide : W ≤ 64) (s : List ℕ) (h : Head) (accepted : judge s ≡ Accepted h) where
  -- its policy is in range
  ranged : InRange (policy_of s)
  ranged = accepted_in_range s h accepted

  -- from a sound ledger every call of a run goes well
  well : (l : List ℕ) → SoundLedger W (policy_of s) l → (cs : List Call) → Each (Well W (policy_of s)) (run W s l cs)
  unfolding run
  well l k [] = tt
  well l k (c ∷ cs) =
      let w = subst (Well W (policy_of s)) (sym (step_on_lem W s h accepted l c)) (step_well W wide (policy_of s) ranged l k c) in
      (w, well (step W s l c).ledger w.ledger cs)

  -- so no answer is 11
  answers : (es : List Event) → Each (Well W (policy_of s)) es → Each (λ e. ¬ (e.reply.number ≡ 11)) es
  answers [] w = tt
  answers (e ∷ es) w = (w.0.answer, answers es w.1)

  -- soundness is kept through every run, so that a run from the zero ledger never gives 11
  pub run_kept : RunKept W s
  run_kept =
      let z : List ℕ = replicate (line_size W * (policy_of s).head.users) 0 in
      let k = zero_well W wide (policy_of s) ranged in
      record { zero_ledger = k; well = well; from_zero = λ cs. answers (run W s z cs) (well z k cs) }

  -- the same for each user's line
  pub accepted_kept : (u : ℕ) → LineKept W (meaning (policy_of s) u)
  accepted_kept u = line_kept W wide (policy_of s) ranged u
