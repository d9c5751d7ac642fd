-- The independence rule, proved by induction on the calls: a call changes only the line of the user it names, and goes
-- by that line and by the policy's meaning for that user.
-- Assumes nothing.
use mathlib.Core.Path.{◌≡◌, refl, sym, ap, ap₂, ◌∙◌}
use mathlib.Core.Bool.{false, not, and-false}
use mathlib.Core.List.{List, [], ◌∷◌}
use Prim.Native.Nat.{ℕ, ◌*◌, ◌<◌}
use native.Mathlib.Nat.{lt_of_lt_of_le}
use lib.Dec.{eqb}
use lib.ListN.{length, get_or}
use borrow.Author.Tests.{eqb-true, eqb-false}
use borrow.Table.Steps.{cases}
use Rattle.model.specs.declared.Head.{Head}
use Rattle.model.specs.declared.Checked.TheVariants.{Accepted}
use Rattle.model.specs.Tests.{any}
use Rattle.model.specs.Judgement.{judge}
use Rattle.model.specs.Policy.{Policy, Meaning, policy_of, has_limits, meaning, only_for, excludes, Agree}
use Rattle.model.specs.Line.{line_size}
use Rattle.model.specs.Limits.{Others, nobody}
use Rattle.model.specs.Session.{Result, rule, is_ask}
use Rattle.model.specs.Run.{Call, Event, line_at, told, step_on, run}
use Rattle.model.specs.OwnWords.{policy_in, own_words}
use Rattle.model.specs.Independence.{rules, calls_of, seen_by, told_by, told_of, Steady, no_call, own_call, other_call, SteadyFor, Run, events_of, view_of, first_line, has_text, beside_texts, SameFor, SameWords, Independent}
use Rattle.model_laws.proofs.Judgements.{accepted-head, accepted_in_range}
use Rattle.model_laws.proofs.LedgerLaws.{step-length, step_own, step_other, step_on_lem}
use Rattle.model_laws.proofs.Listed.{rules_listed, rules-beside}
use Rattle.model_laws.proofs.Meanings.{agree_listed, only_meaning}
use Rattle.model_laws.proofs.OwnWords.{words_agree, words-meaning}
use Rattle.model_laws.proofs.Bools.{elim_case}

-- ---- a policy without limits
module _ (W : ℕ) (p : Policy) (free : has_limits p ≡ false) where
  -- a call is told nothing
  pub told-nothing : (l : List ℕ) (c : Call) → told W p l c ≡ nobody
  unfolding told
  told-nothing l c = rw (free, told) (rw (and-false (is_ask c.operation)))

  -- so the session rules go by nothing told
  rules_untold : (m : Meaning) (u : ℕ) (bs l : List ℕ) (cs : List Call) (es : List Event)
      → rules W m bs (told_by W p u l cs es) (calls_of u cs) ≡ rules W m bs [] (calls_of u cs)
  unfolding told_by calls_of rules
  rules_untold m u bs l [] es = refl
  rules_untold m u bs l (c ∷ cs) [] = refl
  rules_untold m u bs l (c ∷ cs) (e ∷ es) =
      let x = rule W m nobody bs c.operation in
      cases (eqb c.user u)
      (λ t. rw (t, told_by, calls_of, told-nothing l c)
      (ap {B = List Result} (λ (rs : List Result). x ∷ rs) (rules_untold m u x.line e.ledger cs es)))
      (λ t. rw (t, told_by, calls_of) (rules_untold m u bs e.ledger cs es))

-- ---- a run under an accepted image, by induction on the calls
module _ (W u : ℕ) (s : List ℕ) (g : Head) (e : judge s ≡ Accepted g) (hu : u < (policy_of s).head.users) where
  -- what u is told after a first call
  after : List ℕ → Call → List Call → List Others
  after l c cs = told_by W (policy_of s) u (step_on W (policy_of s) l c).ledger cs (run W s (step_on W (policy_of s) l c).ledger cs)

  -- what u sees is what the session rules give
  run_view : (l : List ℕ) → length l ≡ line_size W * (policy_of s).head.users → (cs : List Call)
      → seen_by (line_size W) u cs (run W s l cs)
      ≡ rules W (meaning (policy_of s) u) (line_at (line_size W) u l) (told_by W (policy_of s) u l cs (run W s l cs)) (calls_of u cs)
  unfolding seen_by run rules calls_of told_by after
  run_view l hl [] = refl
  run_view l hl (c ∷ cs) =
      let ih = run_view (step_on W (policy_of s) l c).ledger (step-length W (policy_of s) l hl c ∙ hl) cs in
      rw (step_on_lem W s g e l c)
      (cases (eqb c.user u)
      (λ t. let q = step_own W (policy_of s) l hl c u t hu in
      rw (t, seen_by, calls_of, told_by)
      (ap₂ {C = List Result} (λ (r : Result) (rs : List Result). r ∷ rs) q
      (ih ∙ ap (λ (r : Result). rules W (meaning (policy_of s) u) r.line (after l c cs) (calls_of u cs)) q)))
      (λ t. rw (t, seen_by, calls_of, told_by)
      (ih ∙ ap (λ (x : List ℕ). rules W (meaning (policy_of s) u) x (after l c cs) (calls_of u cs)) (step_other W (policy_of s) l hl c u t))))

  -- nobody else's call changes u's line
  run_steady : (l : List ℕ) → length l ≡ line_size W * (policy_of s).head.users → (cs : List Call)
      → Steady (line_size W) u (line_at (line_size W) u l) cs (run W s l cs)
  unfolding run
  run_steady l hl [] = no_call
  run_steady l hl (c ∷ cs) =
      let ih = run_steady (step_on W (policy_of s) l c).ledger (step-length W (policy_of s) l hl c ∙ hl) cs in
      rw (step_on_lem W s g e l c)
      (cases (eqb c.user u) (λ t. own_call (eqb-true c.user u t) ih)
      (λ t. let q = step_other W (policy_of s) l hl c u t in other_call (eqb-false c.user u t) q (rw q at ih)))

-- ---- one run
module _ (W u : ℕ) (r : Run W) (hu : u < r.head.users) where
  -- the run's head is its policy's
  head_is : (policy_of r.image).head ≡ r.head
  head_is = accepted-head r.image r.head r.accepted

  -- so the user has a line and the ledger fits
  in_policy : u < (policy_of r.image).head.users
  in_policy = rw head_is hu

  fits-policy : length r.ledger ≡ line_size W * (policy_of r.image).head.users
  fits-policy = r.fits ∙ ap (λ (h : Head). line_size W * h.users) (sym head_is)

  -- what the user sees goes by the session rules
  pub view_by_rules : view_of W u r ≡ rules W (meaning (policy_of r.image) u) (first_line W u r) (told_of W u r) (calls_of u r.calls)
  unfolding view_of events_of first_line told_of
  view_by_rules =
      let p = policy_of r.image in
      let es = run W r.image r.ledger r.calls in
      let line = line_at (line_size W) u r.ledger in
      let by_told = run_view W u r.image r.head r.accepted in_policy r.ledger fits-policy r.calls in
      elim_case (λ xs. seen_by (line_size W) u r.calls es ≡ rules W (meaning p u) line xs (calls_of u r.calls)) (has_limits p) _ []
      (λ _. by_told) (λ t. by_told ∙ rules_untold W p t (meaning p u) u line r.ledger r.calls es)

  -- nobody else's call changes the user's line
  steady_run : SteadyFor W u r
  unfolding events_of first_line
  steady_run = run_steady W u r.image r.head r.accepted in_policy r.ledger fits-policy r.calls

  user-small : u < 64
  user-small = lt_of_lt_of_le hu (rw head_is at (accepted_in_range r.image r.head r.accepted).users.1)

  -- other users' assignments have no say in what the policy means for the user
  only_means : meaning (policy_of r.image) u ≡ meaning (only_for u (policy_of r.image)) u
  only_means = only_meaning u user-small (policy_of r.image)

  -- nor has the end word
  words_mean : meaning (policy_of r.image) u ≡ meaning (policy_in (own_words u r.image)) u
  words_mean = words-meaning u user-small r.image r.head r.accepted

-- ---- two runs

-- images of the same words, other users' assignments and the end word left out, have policies that agree
pub same_words_agree : (u : ℕ) (s t : List ℕ) (g h : Head) → judge s ≡ Accepted g → judge t ≡ Accepted h → u < 64 → own_words u s ≡ own_words u t
    → Agree u (policy_of s) (policy_of t)
same_words_agree u s t g h a b small e =
    let x = words_agree u small s g a in
    let y = words_agree u small t h b in
    let p = ap policy_in e in
    record {
      heads = x.heads ∙ ap (λ (q : Policy). q.head) p ∙ sym y.heads;
      own = x.own ∙ ap (λ (q : Policy). get_or q.assigned u 0) p ∙ sym y.own;
      grants = x.grants ∙ ap (λ (q : Policy). q.granted) p ∙ sym y.grants;
      seniors = x.seniors ∙ ap (λ (q : Policy). q.juniors) p ∙ sym y.seniors;
      exclusions = λ z. x.exclusions z ∙ ap (λ (q : Policy). excludes q z) p ∙ sym (y.exclusions z);
      limits = x.limits ∙ ap (λ (q : Policy). q.limits) p ∙ sym y.limits;
    }

-- the session rules give the same: texts aside whatever the order of the exclusions; where no clause text is asked for
-- that is all, else the rest is by the same words
module _ (W u : ℕ) (r s : Run W) (h : SameFor W u r s) (below : u < s.head.users) where
  abbrev given : Meaning → List Result
  given m = rules W m (first_line W u r) (told_of W u r) (calls_of u r.calls)

  abbrev beside : Meaning → List Result
  beside m = beside_texts (calls_of u r.calls) (given m)

  beside-rules : beside (meaning (policy_of r.image) u) ≡ beside (meaning (policy_of s.image) u)
  beside-rules =
      rules-beside (meaning (policy_of r.image) u) [] W (first_line W u r) (told_of W u r) (calls_of u r.calls)
      ∙ ap beside (agree_listed u (policy_of r.image) (policy_of s.image) h.agree [])
      ∙ sym (rules-beside (meaning (policy_of s.image) u) [] W (first_line W u r) (told_of W u r) (calls_of u r.calls))

  same_rules : SameWords W u r s → given (meaning (policy_of r.image) u) ≡ given (meaning (policy_of s.image) u)
  same_rules words =
      cases (has_text (calls_of u r.calls))
      (λ e. ap given (words_mean W u r h.below ∙ ap (λ (ws : List ℕ). meaning (policy_in ws) u) (words e) ∙ sym (words_mean W u s below)))
      (λ e. rules_listed (meaning (policy_of r.image) u) [] W (first_line W u r) (told_of W u r) (calls_of u r.calls) e
      ∙ ap given (agree_listed u (policy_of r.image) (policy_of s.image) h.agree [])
      ∙ sym (rules_listed (meaning (policy_of s.image) u) [] W (first_line W u r) (told_of W u r) (calls_of u r.calls) e))

  -- the other run starts from the same line, with the same calls that are told the same
  other_given : given (meaning (policy_of s.image) u) ≡ view_of W u s
  other_given = (λ i. rules W (meaning (policy_of s.image) u) (h.line i) (h.told i) (h.calls i)) ∙ sym (view_by_rules W u s below)

-- The independence rule (demand 3).
pub independence : (W u : ℕ) (r s : Run W) → SameFor W u r s → Independent W u r s
independence W u r s h =
    let below : u < s.head.users =
    rw (sym (head_is W u r h.below) ∙ h.agree.heads ∙ accepted-head s.image s.head s.accepted) at h.below in
    let seen = view_by_rules W u r h.below in
    record {
      beside_texts_lem =
          ap (beside_texts (calls_of u r.calls)) seen ∙ beside-rules W u r s h below ∙ (λ i. beside_texts (h.calls i) (other_given W u r s h below i));
      same = λ words. seen ∙ same_rules W u r s h below words ∙ other_given W u r s h below;
      by_rules = seen ∙ ap (given W u r s h below) (only_means W u r h.below);
      by_words = seen ∙ ap (given W u r s h below) (words_mean W u r h.below);
      steady = (steady_run W u r h.below, steady_run W u s below);
    }

-- ---- what is told

-- nothing, under a policy without limits
pub untold : (W u : ℕ) (r : Run W) → has_limits (policy_of r.image) ≡ false → told_of W u r ≡ []
unfolding told_of
untold W u r e = rw (e, told_of)

pub untold_same : (W u : ℕ) (r s : Run W) → Agree u (policy_of r.image) (policy_of s.image) → has_limits (policy_of r.image) ≡ false
    → told_of W u r ≡ told_of W u s
untold_same W u r s h e =
    untold W u r e
    ∙ sym (untold W u s (unfold has_limits in (ap (λ (limits : List ℕ). any (λ t. not (eqb t 0)) limits) (sym h.limits) ∙ e)))
