-- `tables_words::take::step` meets its contract.
-- Assumes nothing.
use Rattle.std.proofs.Common.{◌≡◌, false, refl, rules}
use Rattle.std.proofs.lemmas.Result.{err_from_is_err_and}
use Rattle.model.specs.Tests.{pick}
use Rattle.model.specs.Image.{wrong_kind, assigning, entry_fault, in_range, repeats, crowds}
use Rattle.model.specs.Policy.{granting, ordering, limiting}
use Rattle.image_words.specs.Bounds.{Small}
use Rattle.tables_words.specs.Step.{noting}
use Rattle.reasons.proofs.Small.{number_of-numbered}
use Rattle.image.proofs.Turns.{kind_right}
use Rattle.tables_words.proofs.Steps.{took, mistook}
use Rattle.tables_words.proofs.take.step.Goals as goal

pub returns-in_err-kind_fault : goal.returns-in_err-kind_fault
returns-in_err-kind_fault c =
    let p = err_from_is_err_and c.from_residual.result c.from_residual.ensures.1 in
    rw (p.1, p.2) (mistook c.in_err-kind_fault.ensures (number_of-numbered c.in_err-kind_fault.field-0.0).some)

pub take_assignment-requires : goal.take_assignment-requires
unfolding Small assigning granting ordering limiting noting entry_fault in_range repeats crowds pick
take_assignment-requires c = rw c.in-Assignment.is at c.requires

pub take_grant-requires : goal.take_grant-requires
unfolding Small assigning granting ordering limiting noting entry_fault in_range repeats crowds pick
take_grant-requires c = rw c.in-Grant.is at c.requires

pub take_senior-requires : goal.take_senior-requires
unfolding Small assigning granting ordering limiting noting entry_fault in_range repeats crowds pick
take_senior-requires c = rw c.in-Senior.is at c.requires

pub member_fault-requires : goal.member_fault-requires
unfolding Small assigning granting ordering limiting noting entry_fault in_range repeats crowds pick
member_fault-requires c = rw c.in-Member.is at c.requires

pub take_limit-requires : goal.take_limit-requires
unfolding Small assigning granting ordering limiting noting entry_fault in_range repeats crowds pick
take_limit-requires c = rw c.in-Limit.is at c.requires

pub returns-in-Assignment : goal.returns-in-Assignment
unfolding Small assigning granting ordering limiting noting entry_fault in_range repeats crowds pick
returns-in-Assignment c =
    let k : wrong_kind false c.args.t.due c.args.at.word.entry ≡ false = kind_right _ _ c.in_ok-kind_fault.ensures refl in
    search (rules, took, c.take_assignment.ensures.0, c.take_assignment.ensures.1)

pub returns-in-Grant : goal.returns-in-Grant
unfolding Small assigning granting ordering limiting noting entry_fault in_range repeats crowds pick
returns-in-Grant c =
    let k : wrong_kind false c.args.t.due c.args.at.word.entry ≡ false = kind_right _ _ c.in_ok-kind_fault.ensures refl in
    search (rules, took, c.take_grant.ensures.0, c.take_grant.ensures.1)

pub returns-in-Senior : goal.returns-in-Senior
unfolding Small assigning granting ordering limiting noting entry_fault in_range repeats crowds pick
returns-in-Senior c =
    let k : wrong_kind false c.args.t.due c.args.at.word.entry ≡ false = kind_right _ _ c.in_ok-kind_fault.ensures refl in
    search (rules, took, c.take_senior.ensures.0, c.take_senior.ensures.1)

pub returns-in-Exclude : goal.returns-in-Exclude
unfolding Small assigning granting ordering limiting noting entry_fault in_range repeats crowds pick
returns-in-Exclude c =
    let k : wrong_kind false c.args.t.due c.args.at.word.entry ≡ false = kind_right _ _ c.in_ok-kind_fault.ensures refl in
    search (rules, took, c.take_exclusion.ensures.0, c.take_exclusion.ensures.1)

pub returns-in-Member : goal.returns-in-Member
unfolding Small assigning granting ordering limiting noting entry_fault in_range repeats crowds pick
returns-in-Member c =
    let k : wrong_kind false c.args.t.due c.args.at.word.entry ≡ false = kind_right _ _ c.in_ok-kind_fault.ensures refl in
    search (rules, took, ← c.member_fault.ensures)

pub returns-in-Limit : goal.returns-in-Limit
unfolding Small assigning granting ordering limiting noting entry_fault in_range repeats crowds pick
returns-in-Limit c =
    let k : wrong_kind false c.args.t.due c.args.at.word.entry ≡ false = kind_right _ _ c.in_ok-kind_fault.ensures refl in
    search (rules, took, c.take_limit.ensures.0, c.take_limit.ensures.1)

pub returns-in-End : goal.returns-in-End
unfolding Small assigning granting ordering limiting noting entry_fault in_range repeats crowds pick
returns-in-End c =
    let k : wrong_kind false c.args.t.due c.args.at.word.entry ≡ false = kind_right _ _ c.in_ok-kind_fault.ensures refl in
    search (rules, took)

pub returns-in-Unknown : goal.returns-in-Unknown
unfolding Small assigning granting ordering limiting noting entry_fault in_range repeats crowds pick
returns-in-Unknown c =
    let k : wrong_kind false c.args.t.due c.args.at.word.entry ≡ false = kind_right _ _ c.in_ok-kind_fault.ensures refl in
    search (rules, took)
