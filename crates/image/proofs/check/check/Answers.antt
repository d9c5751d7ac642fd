-- `image::check::check` meets its contract.
-- Assumes nothing.
use Rattle.std.proofs.Common.{refl, ◌∙◌, arith}
use Rattle.std.proofs.lemmas.Result.{err_from_is_err_and}
use Rattle.model_laws.proofs.Accepted.{not_accepted}
use Rattle.reasons.proofs.Small.{number_of-numbered}
use Rattle.image.proofs.Turns.{assigned_of, juniors_of_lem}
use Rattle.image.proofs.check.check.Goals as goal

pub returns-in_err-front : goal.returns-in_err-front
returns-in_err-front c =
    let p = err_from_is_err_and c.from_residual.result c.from_residual.ensures.1 in
    let k = c.in_err-front.ensures in
    rw (p.1, p.2) (k.front.refused (λ z. absurd (omega (arith, (number_of-numbered c.in_err-front.field-0.0).some, z))), λ g e. not_accepted _ _ g e)

pub check_words-requires : goal.check_words-requires
check_words-requires c =
    let k = c.in_ok-front.ensures in rw k.words.1 (k.front.least refl)

pub returns : goal.returns
returns c =
    let k = c.in_ok-front.ensures in
    let e = simp (k.words.0, k.words.1, k.head, c.word.ensures, c.requires.0) at c.check_words.ensures.0 in (
      e ∙ k.front.scanned refl,
      λ g z. let f = rw (k.words.0, k.words.1) at (c.check_words.ensures.1 g z) in
          (f.0 ∙ assigned_of c.args.image.now _ c.requires.0, f.1 ∙ juniors_of_lem c.args.image.now _ c.requires.1),
    )
