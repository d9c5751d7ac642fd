-- `asks_request::request::ask_refusal` meets its contract: each return names the refusals that come first.
-- Assumes nothing.
use mathlib.Core.Path.{refl}
use Rattle.std.proofs.lemmas.Result.{err_from_is_err_and}
use Rattle.model.specs.Run.{line_of}
use Rattle.sessions.proofs.FirstSteps.{passed}
use Rattle.sessions.proofs.Reasons.{numbered}
use Rattle.asks_request.specs.Refusals.{ask_refusal}
use Rattle.asks_request.proofs.Requests.{or_first, or_second}
use Rattle.asks_request.proofs.request.ask_refusal.Goals as goal

pub returns-in_err-first_refusal-clause-refused : goal.returns-in_err-first_refusal-clause-refused
unfolding ask_refusal
returns-in_err-first_refusal-clause-refused c q h =
    let p = err_from_is_err_and c.from_residual.result c.from_residual.ensures.1 in
    rw (p.1, p.2) (or_first _ _ _ (c.in_err-first_refusal.ensures q h) (numbered _))

pub line_of-line-requires : goal.line_of-line-requires
line_of-line-requires c = (passed _ _ _ _ _ _ _ c.in_ok-first_refusal.ensures refl).line

pub returns-in_err-session_refusal-clause-refused : goal.returns-in_err-session_refusal-clause-refused
unfolding ask_refusal line_of
returns-in_err-session_refusal-clause-refused c q h =
    let p = err_from_is_err_and c.from_residual-in_err-session_refusal.result c.from_residual-in_err-session_refusal.ensures.1 in
    rw (p.1, p.2)
    (or_second _ _ _ _ (c.in_ok-first_refusal.ensures q h) refl
    (or_first _ _ _ (rw (← c.line_of-line.ensures) c.in_err-session_refusal.ensures) (numbered _)))

pub returns-clause-refused : goal.returns-clause-refused
unfolding ask_refusal line_of
returns-clause-refused c q h =
    or_second _ _ _ _ (c.in_ok-first_refusal.ensures q h) refl
    (or_second _ _ _ _ (rw (← c.line_of-line.ensures) c.in_ok-session_refusal.ensures) refl (rw h.head_is c.query_refusal.ensures.refused))
