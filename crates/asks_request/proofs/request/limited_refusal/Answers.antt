-- `asks_request::request::limited_refusal` meets its contract: each return names the refusals that come first.
-- Assumes nothing.
use mathlib.Core.Path.{refl, ◌∙◌}
use Rattle.std.proofs.lemmas.Result.{err_from_is_err_and}
use Rattle.sessions.proofs.Reasons.{plain_code}
use Rattle.asks_request.specs.Refusals.{limited_refusal}
use Rattle.asks_request.proofs.Requests.{or_first, or_second, coded}
use Rattle.asks_request.proofs.request.limited_refusal.Goals as goal

pub returns-in_err-refusal-clause-refused : goal.returns-in_err-refusal-clause-refused
unfolding limited_refusal
returns-in_err-refusal-clause-refused c q h l =
    let p = err_from_is_err_and c.from_residual.result c.from_residual.ensures.1 in
    rw (p.1, p.2) (or_first _ _ _ (c.in_err-refusal.ensures q h l) (coded _))

pub returns-in_err-ask_refusal-clause-refused : goal.returns-in_err-ask_refusal-clause-refused
unfolding limited_refusal
returns-in_err-ask_refusal-clause-refused c q h l =
    let p = err_from_is_err_and c.from_residual-in_err-ask_refusal.result c.from_residual-in_err-ask_refusal.ensures.1 in
    rw p.1 (or_second _ _ _ _ (c.in_ok-refusal.ensures q h l) refl (plain_code _ _ p.2 ∙ c.in_err-ask_refusal.ensures.refused q h))

pub returns-clause-refused : goal.returns-clause-refused
unfolding limited_refusal
returns-clause-refused c q h l = or_second _ _ _ _ (c.in_ok-refusal.ensures q h l) refl (c.in_ok-ask_refusal.ensures.refused q h)
