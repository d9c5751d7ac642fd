-- `image_usual::usual::orders` meets its contract.
-- Assumes nothing.
use Rattle.std.proofs.Common.{refl, ap, ◌∙◌, true≢false, arith}
use mathlib.Core.Bool.{false≢true}
use Rattle.model.specs.declared.Word.{Word}
use Rattle.model.specs.Image.{assigning}
use Rattle.model.specs.Policy.{granting, ordering}
use Rattle.image_usual.specs.Usual.{Usual}
use Rattle.image_usual.proofs.Words.{senior_said}
use Rattle.image_usual.proofs.Runs.{quick}
use Rattle.image_usual.proofs.usual.orders.Goals as goal

pub returns-then-x-ne-SENIOR : goal.returns-then-x-ne-SENIOR
returns-then-x-ne-SENIOR c = (λ e. absurd (false≢true e), λ e. refl)

pub returns : goal.returns
unfolding Usual assigning ordering granting
returns c =
    let e = c.turned-x.ensures in
    let said = senior_said c.args.w (omega arith) (rw e at c.if-x-ne-SENIOR.false) in (
      λ o. (
        λ assigned. quick _ said (omega arith) (λ t. rw e at (c.in-Ok.ensures assigned t)) refl (rw (c.with-row.ensures, e)),
        λ step un granted. ap (λ (x : Word). step granted x.entry) said ∙ un.senior granted _ _,
      ),
      λ o. absurd (true≢false o),
    )
