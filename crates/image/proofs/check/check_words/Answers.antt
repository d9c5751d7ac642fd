use Rattle.std.proofs.Common.{◌≡◌, ◌+◌, ◌<◌, refl, ◌∙◌, arith, rules}
use Rattle.std.proofs.lemmas.Result.{err_from_is_err_and}
use Rattle.model.specs.Image.{assigning, start}
use Rattle.model.specs.Policy.{ordering}
use Rattle.model_laws.proofs.Accepted.{not_accepted}
use Rattle.image_words.proofs.Folds.{fold_next}
use Rattle.image_words.proofs.Scans.{before_last, stops, goes}
use Rattle.reasons.proofs.Small.{number_of-numbered}
use Rattle.image.proofs.Last.{last_scan, last_entry, fold_last}
use Rattle.image.proofs.check.check_words.Goals as goal

pub loop-at-init : goal.loop-at-init
unfolding start
loop-at-init c = let e : c.default-t.result ≡ start = search rules in rw e (omega arith, omega (arith, c.requires), refl, refl, refl)

pub returns-in_err-left : goal.returns-in_err-left
returns-in_err-left c =
    let p = err_from_is_err_and c.from_residual.result c.from_residual.ensures.1 in
    let k = c.in_err-left.ensures.refused in
    let f = rw k.0 at c.take.ensures.0 in
    let some = (number_of-numbered c.in_err-left.field-0.0.reason).some in
    let more : c.pass-here.result.place + 1 < c.args.image.now.count = omega (arith, c.if-end-here.false, c.last-end.ensures) in
    let lt : c.pass-here.result.place < c.args.image.now.count = omega (arith, more) in
    rw (p.1, p.2, k.1) (
      stops _ _ _ _ _ _ _ _ _ _ lt c.word-w.ensures refl (before_last _ _ _ _ _ _ _ more f.faulty) _ (λ z. absurd (omega (arith, some, z)))
          (c.pass-here.ensures.passed.scanned _ refl ∙ c.loop-at.invariant.2),
      λ g e. not_accepted _ _ g e,
    )

pub loop-at-preserved : goal.loop-at-preserved
unfolding assigning ordering
loop-at-preserved c =
    let k = rw c.in_ok-left.ensures.done at c.take.ensures in
    let more : c.pass-here.result.place + 1 < c.args.image.now.count = omega (arith, c.if-end-here.false, c.last-end.ensures) in
    let lt : c.pass-here.result.place < c.args.image.now.count = omega (arith, more) in
    let f = before_last _ _ _ _ _ _ _ more k.0.faulty in
    let ep = c.past.ensures.place in
    let joined = rw ep at c.members-joined.ensures in (
      omega (arith, c.pass-here.ensures.passed.onward, c.members-joined.ensures.onward, ep),
      c.members-joined.ensures.inside _ (omega arith) (omega (arith, more, ep)),
      joined.scanned _ _ refl
          ∙ goes _ _ _ _ _ _ _ _ _ _ lt c.word-w.ensures refl f _ refl _ _ _ (k.0.assigned_is refl) k.1 c.past.ensures.sum
          (c.pass-here.ensures.passed.scanned _ refl ∙ c.loop-at.invariant.2),
      joined.folded assigning (λ x y. refl) _ ∙ fold_next _ _ _ _ _ _ _ _ _ lt c.word-w.ensures refl
          (k.0.assigned_is refl) (c.pass-here.ensures.passed.assigned_is ∙ c.loop-at.invariant.3),
      joined.folded ordering (λ x y. refl) _ ∙ fold_next _ _ _ _ _ _ _ _ _ lt c.word-w.ensures refl
          (k.0.juniors_is refl) (c.pass-here.ensures.passed.juniors_is ∙ c.loop-at.invariant.4),
    )

pub returns : goal.returns
unfolding assigning ordering
returns c =
    let end : c.loop-at.at.place + 1 ≡ c.args.image.now.count =
    omega (arith, c.loop-at-test.false, c.requires, c.loop-at.invariant.1, c.last-end.ensures) in (
      last_scan _ _ _ end _ _ _ _ _ _ (c.closing.ensures.scanned _ _ refl) c.loop-at.invariant.2,
      λ g e.
          let ee = last_entry _ _ _ end _ (c.closing.ensures.ended g e) in
          (fold_last _ _ _ end ee assigning _ _ refl c.loop-at.invariant.3, fold_last _ _ _ end ee ordering _ _ refl c.loop-at.invariant.4),
    )
