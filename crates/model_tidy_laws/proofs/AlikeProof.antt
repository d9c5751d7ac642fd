-- Calls answer alike under two accepted images whose policies are the same, exclusions as a set.
-- Assumes nothing.
use mathlib.Core.Path.{◌≡◌, refl, sym, ap, ap₂, ◌∙◌}
use mathlib.Core.Bool.{Bool, true, false, not, ◌&&◌}
use mathlib.Core.List.{List, [], ◌∷◌}
use Prim.Native.Nat.{ℕ, ◌*◌}
use lib.Dec.{eqb, ltb}
use lib.ListN.{length, get_or}
use Rattle.model.specs.declared.Head.{Head}
use Rattle.model.specs.declared.Line.{Line}
use Rattle.model.specs.declared.Checked.{Checked}
use Rattle.model.specs.declared.Checked.TheVariants.{Accepted}
use Rattle.model.specs.Tests.{pick, any, first}
use Rattle.model.specs.Policy.{Policy, Meaning, policy_of, meaning, Agree, has_limits, limited, table_of}
use Rattle.model.specs.Judgement.{judge}
use Rattle.model.specs.Line.{line_size, sound}
use Rattle.model.specs.Session.{Operation, is_text, Result, refuse, rule, is_ask}
use Rattle.model.specs.Run.{Call, Event, line_at, with_line, ruled, step_on, step_by, step, run, held_by_others, holding_of, line_of, others_of, told, unsound_other}
use Rattle.model_tidy.specs.Same.{SamePolicy, asks_text, Alike}
use Rattle.model_laws.proofs.Judgements.{accepted-head}
use Rattle.model_laws.proofs.Bools.{neither}
use Rattle.model_laws.proofs.Listed.{sound_listed}
use Rattle.model_laws.proofs.Meanings.{agree_listed, agree_rule}
use Rattle.model.specs.Sets.{sum_to}
use Rattle.model.specs.Limits.{Others, nobody}

-- the same policy agrees for every user
pub agree : (u : ℕ) (p q : Policy) → SamePolicy p q → Agree u p q
agree u p q s =
    record {
      heads = s.heads;
      own = ap (λ (l : List ℕ). get_or l u 0) s.assigned;
      grants = s.granted;
      seniors = s.juniors;
      exclusions = s.exclusions;
      limits = s.limits;
    }

-- what the session rules give by the same policy, for a call that is no clause text
rule_same : (W u : ℕ) (p q : Policy) → SamePolicy p q → (x : Others) (bs : List ℕ) (op : Operation) → is_text op ≡ false
    → rule W (meaning p u) x bs op ≡ rule W (meaning q u) x bs op
rule_same W u p q s x bs op e = agree_rule u p q (agree u p q s) W x bs op e

-- a line is sound by the same policy alike
sound_same : (W u : ℕ) (p q : Policy) → SamePolicy p q → (l : Line) → sound W (meaning p u) l ≡ sound W (meaning q u) l
sound_same W u p q s l =
    sound_listed (meaning p u) [] W l ∙ ap (λ (m : Meaning). sound W m l) (agree_listed u p q (agree u p q s) []) ∙ sym (sound_listed (meaning q u) [] W l)

-- what a call is told goes by the number of users, the limits and which lines are sound
told_with : ℕ → ℕ → List ℕ → (ℕ → Bool) → List ℕ → Call → Others
told_with W n limits whole ledger c =
    elim (is_ask c.operation && any (λ t. not (eqb t 0)) limits) [
      | true ↦
          record {
            held = λ r. pick (limited limits r) (sum_to (λ v. pick (eqb v c.user) 0 (holding_of W ledger r v)) n) 0;
            unsound = first (λ v. not (eqb v c.user) && not (whole v)) (table_of n (λ v. v));
          }
      | false ↦ nobody
    ]

told_with_lem : (W : ℕ) (p : Policy) (ledger : List ℕ) (c : Call)
    → told W p ledger c ≡ told_with W p.head.users p.limits (λ v. sound W (meaning p v) (line_of W ledger v)) ledger c
unfolding told told_with has_limits others_of held_by_others unsound_other
told_with_lem W p ledger c = refl

told_same : (W : ℕ) (p q : Policy) → SamePolicy p q → (ledger : List ℕ) (c : Call) → told W p ledger c ≡ told W q ledger c
told_same W p q s ledger c =
    told_with_lem W p ledger c
    ∙ (λ i. told_with W (s.heads i).users (s.limits i) (λ v. sound_same W v p q s (line_of W ledger v) i) ledger c)
    ∙ sym (told_with_lem W q ledger c)

-- a call goes by the head and by what the rules give
step_with : ℕ → Head → Result → List ℕ → Call → Event
step_with W h r ledger c =
    let e : Event = record { reply = r.reply; ledger = with_line (line_size W) c.user r.line ledger } in
    pick (not (eqb (length ledger) (line_size W * h.users))) (record { reply = refuse 9 0; ledger = ledger })
    (pick (not (ltb c.user h.users)) (record { reply = refuse 10 0; ledger = ledger }) e)

step-with : (W : ℕ) (p : Policy) (ledger : List ℕ) (c : Call)
    → step_on W p ledger c
    ≡ step_with W p.head (rule W (meaning p c.user) (told W p ledger c) (line_at (line_size W) c.user ledger) c.operation) ledger c
unfolding step_on ruled step_with
step-with W p ledger c = refl

pub same_step_on : (W : ℕ) (p q : Policy) → SamePolicy p q → (ledger : List ℕ) (c : Call) → is_text c.operation ≡ false
    → step_on W p ledger c ≡ step_on W q ledger c
same_step_on W p q s ledger c e =
    let bs = line_at (line_size W) c.user ledger in
    step-with W p ledger c
    ∙ ap₂ (λ (h : Head) (r : Result). step_with W h r ledger c) s.heads
    (rule_same W c.user p q s (told W p ledger c) bs c.operation e
    ∙ ap (λ (x : Others). rule W (meaning q c.user) x bs c.operation) (told_same W p q s ledger c))
    ∙ sym (step-with W q ledger c)

module _ (s t : List ℕ) (h k : Head) (a : judge s ≡ Accepted h) (b : judge t ≡ Accepted k) (same : SamePolicy (policy_of s) (policy_of t)) where
  same_check : judge s ≡ judge t
  same_check = a ∙ ap Accepted (sym (accepted-head s h a) ∙ same.heads ∙ accepted-head t k b) ∙ sym b

  same_step : (W : ℕ) (ledger : List ℕ) (c : Call) → asks_text c ≡ false → step W s ledger c ≡ step W t ledger c
  unfolding step step_by asks_text
  same_step W ledger c e =
      ap (λ (v : Checked). step_by W v (policy_of s) ledger c) a ∙ same_step_on W (policy_of s) (policy_of t) same ledger c e
      ∙ sym (ap (λ (v : Checked). step_by W v (policy_of t) ledger c) b)

  same_run : (W : ℕ) (ledger : List ℕ) (cs : List Call) → any asks_text cs ≡ false → run W s ledger cs ≡ run W t ledger cs
  unfolding run any asks_text
  same_run W ledger [] n = refl
  same_run W ledger (c ∷ cs) n =
      let f = neither (is_text c.operation) (any asks_text cs) n in
      let q = same_step W ledger c f.0 in
      ap₂ {C = List Event} (λ (e : Event) (es : List Event). e ∷ es) q
      (same_run W (step W s ledger c).ledger cs f.1 ∙ ap (λ (e : Event). run W t e.ledger cs) q)

  pub same_alike : Alike s t
  same_alike = record { checks = same_check; steps = same_step; runs = same_run }
