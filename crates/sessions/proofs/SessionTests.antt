-- The refusals 12 and 13 of a call on a session, case by case, and what holds where there is none.
-- Assumes nothing.
use mathlib.Core.Path.{◌≡◌, sym, ◌∙◌}
use mathlib.Core.Bool.{Bool, true, false}
use Prim.Native.Nat.{ℕ, ◌≤◌, ◌<◌}
use borrow.Author.Tests.{not-false, le-leb, lt-leb, leb-false}
use Rattle.model.specs.declared.Line.{Line}
use Rattle.model.specs.Tests.{pick}
use Rattle.model.specs.Line.{is_open}
use Rattle.sessions.specs.Calls.{session_refusal}
use Rattle.sessions.proofs.FirstSteps.{pick-none}

module _ (W : ℕ) (l : Line) (k : ℕ) where
  pub session12 : W ≤ k → 12 ≡ session_refusal W l k
  unfolding session_refusal pick
  session12 h = simp (le-leb _ _ h)

  module _ (h : k < W) (o : Bool) (e : o ≡ is_open l k) where
    pub session13 : o ≡ false → 13 ≡ session_refusal W l k
    unfolding session_refusal pick
    session13 t = simp (lt-leb _ _ h, sym e ∙ t)

    pub session0 : o ≡ true → 0 ≡ session_refusal W l k
    unfolding session_refusal pick
    session0 t = simp (lt-leb _ _ h, sym e ∙ t)

  -- the session is one of the W and open
  pub record Session : Type 0 where
    pub below : k < W
    pub opened : is_open l k ≡ true

  pub session_open : 0 ≡ session_refusal W l k → Session
  unfolding session_refusal
  session_open h =
      let x = pick-none _ 11 _ h in
      let y = pick-none _ 12 _ x.1 in
      record { below = leb-false _ _ x.0; opened = not-false _ y.0 }
