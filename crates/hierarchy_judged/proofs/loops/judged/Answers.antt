-- `hierarchy_judged::loops::judged` meets its contract.
-- Assumes nothing.
use mathlib.Core.Path.{◌≡◌, refl, sym}
use Rattle.std.proofs.Common.{Err}
use borrow.Author.Rules.{rules}
use native.Mathlib.Omega.{arith}
use Rattle.model_laws.proofs.LowestLaws.{is_below}
use Rattle.hierarchy_judged.proofs.Judging.{words_refused, words_accepted, judged-loop, judged_reach, judged_ordered}
use Rattle.hierarchy_judged.proofs.loops.judged.Goals as goal

pub returns-in_err-head : goal.returns-in_err-head
returns-in_err-head g c = λ p q.
    let e : c.from_residual.result ≡ Err c.in_err-head.field-0.0 = search rules in
    words_refused p _ _ _ _ _ c.in_err-head.was e

pub close-requires : goal.close-requires
close-requires g c = (c.requires _ c.in_ok-head.was).roles

pub lowest_on_loop-requires : goal.lowest_on_loop-requires
lowest_on_loop-requires g c = (c.requires _ c.in_ok-head.was).roles

pub returns-in-Some : goal.returns-in-Some
returns-in-Some g c = λ p q.
    words_accepted p _ _ _ _ _ _ c.in_ok-head.was refl
    (judged-loop p _ _ _ _ (q _ c.in_ok-head.was) c.close.ensures _ refl _ _ c.in-Some.ensures)

pub authorize-requires : goal.authorize-requires
authorize-requires g c =
    let f = c.requires _ c.in_ok-head.was in
    (f.roles, f.users, f.few)

pub overflow_cast-result-in-Some-authorize : goal.overflow_cast-result-in-Some-authorize
overflow_cast-result-in-Some-authorize g c =
    let b = is_below _ _ _ (sym c.in-Some-authorize.ensures.lowest_is) in
    omega (arith, b.0, b.1, (c.requires _ c.in_ok-head.was).users)

pub returns-in-Some-authorize : goal.returns-in-Some-authorize
returns-in-Some-authorize g c = λ p q.
    words_accepted p _ _ _ _ _ _ c.in_ok-head.was refl
    (judged_reach p _ _ _ _ (q _ c.in_ok-head.was) c.close.ensures _ refl c.in_default.ensures _ _ c.in-Some-authorize.ensures _ refl)

pub returns : goal.returns
returns g c = λ p q.
    words_accepted p _ _ _ _ _ _ c.in_ok-head.was refl
    (judged_ordered p _ _ _ _ (q _ c.in_ok-head.was) c.close.ensures _ refl c.in_default.ensures _ _ c.in_default-authorize.ensures refl)
