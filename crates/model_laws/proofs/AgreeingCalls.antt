-- Calls that only read a session answer alike on sound lines that agree, whatever the number of their sessions; they
-- are told nothing of other users.
-- Assumes nothing.
use mathlib.Core.Path.{◌≡◌, refl, sym, ap, ◌∙◌}
use mathlib.Core.Bool.{Bool, true, not}
use mathlib.Core.Option.{Option, none, some}
use mathlib.Core.List.{List}
use Prim.Native.Nat.{ℕ, ◌<◌}
use borrow.Author.Tests.{lt-leb}
use Rattle.model.specs.declared.Session.{Session}
use Rattle.model.specs.Tests.{first}
use Rattle.model.specs.Sets.{has}
use Rattle.model.specs.Policy.{Meaning}
use Rattle.model.specs.Choice.{carried_by}
use Rattle.model.specs.Line.{read_line, session_at, is_open, sound}
use Rattle.model.specs.Limits.{nobody}
use Rattle.model.specs.Session.{Operation, show, explain, Query, query_of, session_of, given, Refusal, bad_line, bad_session, is_closed, can_give, applies, is_none, explanation, explained, Result, perform, unless, rule}
use Rattle.model.specs.Ranges.{Each}
use Rattle.model_laws.proofs.Listed.{first-same}
use Rattle.model_laws.proofs.Resizing.{Agreeing}

-- the answer is the refusal's, or that of the work done
unless_same : (o : Option Refusal) (bs cs : List ℕ) (r s : Result) → r.reply ≡ s.reply → (unless nobody o bs r).reply ≡ (unless nobody o cs s).reply
unfolding unless
unless_same none bs cs r s e = e
unless_same (some f) bs cs r s e = refl

-- what an explain tells is no matter of the line's bytes
told_same : (bs cs : List ℕ) (x : Option ℕ) → (explained bs x).reply ≡ (explained cs x).reply
unfolding explained
told_same bs cs none = refl
told_same bs cs (some k) = refl

-- ---- a line of F sessions and one of W that agree
module _ (F W : ℕ) (m : Meaning) (bs cs : List ℕ) (before : sound F m (read_line F bs) ≡ true) (after : sound W m (read_line W cs) ≡ true)
    (h : Agreeing (read_line F bs) (read_line W cs)) (j : ℕ) (f : j < F) (w : j < W) where
  -- the active roles of the session, and whether it is open
  active_same : (session_at (read_line W cs) j).active ≡ (session_at (read_line F bs) j).active
  unfolding session_at
  active_same = sym (ap (λ (s : Session). s.active) (h.sessions j))

  open_same : is_open (read_line W cs) j ≡ is_open (read_line F bs) j
  unfolding is_open
  open_same = ap (λ (x : ℕ). has x j) (sym h.opened)

  abbrev late : Query → Refusal → Bool
  late q = applies W m nobody (read_line W cs) j q

  abbrev early : Query → Refusal → Bool
  early q = applies F m nobody (read_line F bs) j q

  -- a refusal applies to both or to neither
  abbrev Same : Query → Refusal → Type 0
  Same q r = late q r ≡ early q r

  -- neither is refused for its line or its session's number; each is for a closed session where the other is
  same_three : (q : Query) → Same q bad_line × Same q bad_session × Same q is_closed
  unfolding applies
  same_three q = (ap not (after ∙ sym before), lt-leb W j w ∙ sym (lt-leb F j f), ap not open_same)

  rule_same : (op : Operation) → session_of op ≡ j → Each (Same (query_of op)) (can_give op)
      → (perform W m nobody (read_line W cs) cs op).reply ≡ (perform F m nobody (read_line F bs) bs op).reply
      → (rule W m nobody cs op).reply ≡ (rule F m nobody bs op).reply
  unfolding rule
  rule_same op s e r =
      rw (s, first-same (late (query_of op)) (early (query_of op)) (can_give op) e)
      (unless_same (first (early (query_of op)) (can_give op)) cs bs (perform W m nobody (read_line W cs) cs op) (perform F m nobody (read_line F bs) bs op) r)

  pub show_same : (room : ℕ) → (rule W m nobody cs (show j room)).reply ≡ (rule F m nobody bs (show j room)).reply
  unfolding session_of can_give applies perform
  show_same room =
      let t = same_three (query_of (show j room)) in
      rule_same (show j room) refl (t.0, (t.1, (t.2, (refl, tt)))) (ap (λ (s : ℕ). given s (carried_by m s)) active_same)

  pub explain_same : (n : ℕ) → (rule W m nobody cs (explain j n)).reply ≡ (rule F m nobody bs (explain j n)).reply
  unfolding session_of can_give applies perform
  explain_same n =
      let t = same_three (query_of (explain j n)) in
      rule_same (explain j n) refl
      (t.0, (t.1, (t.2, (refl, (ap (λ (s : ℕ). is_none (explanation (m.granter n) s)) active_same, tt)))))
      (ap (λ (s : ℕ). (explained cs (explanation (m.granter n) s)).reply) active_same ∙ told_same cs bs (explanation (m.granter n) _))
