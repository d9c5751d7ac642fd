-- `tables::judge::judge` meets its contract.
-- Assumes nothing.
use Rattle.std.proofs.Common.{◌≡◌, Err, refl, sym, ap, ◌∙◌, rules}
use Rattle.model.specs.Image.{empty_rows}
use Rattle.reasons.specs.Numbers.{checked_of}
use Rattle.hierarchy_judged.proofs.Judging.{told, stands_told, comes_told}
use Rattle.tables.proofs.Fills.{words_fit, read_judged}
use Rattle.tables.proofs.judge.judge.Goals as goal

pub check-words-requires : goal.check-words-requires
unfolding empty_rows
check-words-requires c = (refl, refl)

pub settled-requires : goal.settled-requires
settled-requires c = λ h e. (words_fit _ _ c.check-words.ensures.0 _ _ (λ h e. c.check-words.ensures.1 h (ap checked_of e)) h e).roles

pub returns-then-settled : goal.returns-then-settled
returns-then-settled c =
    let had = words_fit _ _ c.check-words.ensures.0 _ _ (λ h e. c.check-words.ensures.1 h (ap checked_of e)) in
    read_judged _ _ c.check-words.ensures.0 _ _ (λ h e. c.check-words.ensures.1 h (ap checked_of e)) _ _ _
    (stands_told _ _ _ (λ p. c.settled.ensures c.if-settled.true p _ had))

pub judged-requires : goal.judged-requires
judged-requires c = words_fit _ _ c.check-words.ensures.0 _ _ (λ h e. c.check-words.ensures.1 h (ap checked_of e))

pub returns-in_err-judged : goal.returns-in_err-judged
returns-in_err-judged c =
    let e : c.from_residual.result ≡ Err c.in_err-judged.field-0.0 = search rules in
    ap checked_of (e ∙ sym (ap told c.in_err-judged.was))
    ∙ read_judged _ _ c.check-words.ensures.0 _ _ (λ h e. c.check-words.ensures.1 h (ap checked_of e)) _ _ _
    (comes_told _ _ _ _ _ _ c.judged.ensures)

pub returns : goal.returns
returns c =
    ap checked_of (sym (ap told c.in_ok-judged.was))
    ∙ read_judged _ _ c.check-words.ensures.0 _ _ (λ h e. c.check-words.ensures.1 h (ap checked_of e)) _ _ _
    (comes_told _ _ _ _ _ _ c.judged.ensures)
