-- A close of an open session of a sound line.
-- Assumes nothing.
use mathlib.Core.Path.{◌≡◌, refl, sym, ap, ◌∙◌}
use mathlib.Core.Bool.{true}
use mathlib.Core.List.{List, []}
use Prim.Native.Nat.{ℕ, ◌<◌}
use Rattle.model.specs.declared.Line.{Line}
use Rattle.model.specs.Policy.{Policy}
use Rattle.model.specs.Line.{line_size, write_line, is_open, closing}
use Rattle.model.specs.Session.{done, can_give, perform, session_of}
use Rattle.model.specs.Run.{Event, with_line, step_on, close_by, returned, line_of}
use Rattle.sessions.specs.Calls.{Gives}
use Rattle.sessions.proofs.FirstSteps.{Ready, performs, passes, ends}

-- the line that code holds is closed and written back
pub close0 : (W : ℕ) (p : Policy) (ledger : List ℕ) (u k : ℕ) → Ready W p ledger u → k < W → is_open (line_of W ledger u) k ≡ true
    → (l next : Line) (after : List ℕ) → l ≡ line_of W ledger u → next ≡ closing k l → after ≡ with_line (line_size W) u (write_line next) ledger
    → Gives (step_on W p ledger (close_by u k)) 0 after
unfolding close_by can_give session_of perform done returned
close0 W p ledger u k r h o l next after el en ea =
    let e = performs W p ledger (close_by u k) r (passes W p ledger (close_by u k) r [] refl h o ∙ ends _) in
    record { number = sym (ap (λ (x : Event). returned x.reply) e); bytes = rw (ea, en, el) (sym (ap (λ (x : Event). x.ledger) e)) }
