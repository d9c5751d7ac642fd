-- `image::ending::closing` meets its contract.
-- Assumes nothing.
use Rattle.std.proofs.Common.{◌≡◌, ℕ, ◌+◌, ◌-◌, ◌≤◌, refl, sym, ap, ◌∙◌, arith}
use Rattle.std.proofs.lemmas.Result.{err_from_is_err_and}
use Rattle.model.specs.declared.Word.{Word}
use Rattle.model.specs.Image.{decode}
use Rattle.model.specs.Policy.{entry_at}
use Rattle.model_laws.proofs.Accepted.{not_accepted}
use Rattle.reasons.proofs.Small.{number_of-numbered}
use Rattle.image.proofs.Last.{last_stops, last_right, last_wrong}
use Rattle.image.proofs.ending.closing.Goals as goal

last : (n : ℕ) → 1 ≤ n → n - 1 + 1 ≡ n
last n l = omega arith

pub returns-in_err-at_place : goal.returns-in_err-at_place
returns-in_err-at_place c =
    let p = err_from_is_err_and c.from_residual.result c.from_residual.ensures.1 in
    let k = c.in_err-at_place.ensures.refused in
    let f = rw k.0 at c.end_fault.ensures in
    let some = (number_of-numbered c.in_err-at_place.field-0.0.reason).some in
    let w = rw c.last-end.ensures at c.word-w.ensures in
    rw (p.1, p.2, k.1, c.last-end.ensures) (record {
      scanned = λ rows t e. last_stops _ _ _ _ rows t _ _ _ _ (last _ c.args.image.now.least) w c.decode.ensures.0 (f.0 _ rows t e)
          (λ z. absurd (omega (arith, some, z)));
      ended = λ g e. not_accepted _ _ g e;
    })

pub returns-then-sum-w-ne0 : goal.returns-then-sum-w-ne0
returns-then-sum-w-ne0 c =
    let f = rw c.in_ok-at_place.ensures.done at c.end_fault.ensures in
    let w = rw c.last-end.ensures at c.word-w.ensures in
    rw c.last-end.ensures (record {
      scanned = λ rows t e. last_wrong _ _ _ _ rows t _ _ _ _ (last _ c.args.image.now.least) w c.decode.ensures.0 (f.0 _ rows t e)
          refl (f.1 refl) _ refl c.if-sum-w-ne0.true;
      ended = λ g e. not_accepted _ _ g e;
    })

pub returns : goal.returns
unfolding entry_at
returns c =
    let f = rw c.in_ok-at_place.ensures.done at c.end_fault.ensures in
    let w = rw c.last-end.ensures at c.word-w.ensures in
    record {
      scanned = λ rows t e. last_right _ _ _ _ rows t _ _ _ _ (last _ c.args.image.now.least) w c.decode.ensures.0 (f.0 _ rows t e)
          refl (f.1 refl) _ refl c.if-sum-w-ne0.false;
      ended = λ g e. sym (ap (λ (x : Word). x.entry) (c.decode.ensures.0 ∙ ap decode w)) ∙ f.1 refl;
    }
