-- `image::check::take` meets its contract.
-- Assumes nothing.
use Rattle.std.proofs.Common.{refl}
use Rattle.std.proofs.lemmas.Result.{err_from_is_err_and}
use Rattle.image.proofs.Turns.{due_of, opened}
use Rattle.image.proofs.check.take.Goals as goal

pub returns-in-Some : goal.returns-in-Some
returns-in-Some c = (opened c.in-Some.ensures, c.in-Some.ensures.scan_is)

pub returns-in_err-taken : goal.returns-in_err-taken
returns-in_err-taken c =
    let p = err_from_is_err_and c.from_residual.result c.from_residual.ensures.1 in
    rw (p.1, p.2) (rw c.decode-word.ensures.0 at c.in_err-taken.ensures, tt)

pub next-requires : goal.next-requires
next-requires c = (c.decode-word.ensures.1, due_of _ _ _ _ _ _ c.in_ok-taken.ensures.faulty refl)

pub returns : goal.returns
returns c = (rw c.decode-word.ensures.0 at c.in_ok-taken.ensures, rw c.decode-word.ensures.0 at c.next.ensures)
