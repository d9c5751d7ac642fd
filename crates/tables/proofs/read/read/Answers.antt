-- `tables::read::read` meets its contract.
-- Assumes nothing.
use Rattle.std.proofs.Common.{◌≡◌, Err, refl, ap, ◌∙◌, rules}
use Rattle.hierarchy_judged.proofs.Judging.{told, stands_told, comes_told}
use Rattle.tables.proofs.Fills.{tables_fit, tables_refused, tables_accepted, tables_own, tables_hold}
use Rattle.tables.proofs.read.read.Goals as goal

pub settled-requires : goal.settled-requires
settled-requires c = λ h e. (tables_fit _ _ c.gather-words.ensures.0 _ c.gather-words.ensures.1 h e).roles

pub returns-in_err-words-clause-refused : goal.returns-in_err-words-clause-refused
returns-in_err-words-clause-refused c =
    let fit = tables_fit _ _ c.gather-words.ensures.0 _ c.gather-words.ensures.1 in
    let stood = stands_told _ _ _ (λ p. c.settled.ensures c.if-settled.true p _ fit) in
    let e : c.from_residual.result ≡ Err c.in_err-words.field-0.0 = search rules in
    rw e (tables_refused _ _ c.gather-words.ensures.0 _ c.gather-words.ensures.1 _ _ _ stood _ c.in_err-words.was)

pub returns-then-settled-clause-accepted : goal.returns-then-settled-clause-accepted
returns-then-settled-clause-accepted c =
    let fit = tables_fit _ _ c.gather-words.ensures.0 _ c.gather-words.ensures.1 in
    let stood = stands_told _ _ _ (λ p. c.settled.ensures c.if-settled.true p _ fit) in (
      tables_accepted _ _ c.gather-words.ensures.0 _ c.gather-words.ensures.1 _ _ _ stood _ c.in_ok-words.was,
      tables_hold _ _ c.gather-words.ensures.0 _ c.gather-words.ensures.1 _ _ _ stood _ c.in_ok-words.was _ refl refl refl refl refl refl,
    )

pub judged-requires : goal.judged-requires
judged-requires c = tables_fit _ _ c.gather-words.ensures.0 _ c.gather-words.ensures.1

pub returns-in_err-judged-clause-refused : goal.returns-in_err-judged-clause-refused
returns-in_err-judged-clause-refused c =
    let came = comes_told _ _ _ _ _ _ c.judged.ensures in
    let e : c.from_residual-in_err-judged.result ≡ Err c.in_err-judged.field-0.0 = search rules in
    rw e (tables_refused _ _ c.gather-words.ensures.0 _ c.gather-words.ensures.1 _ _ _ came _ (ap told c.in_err-judged.was))

pub returns-in_err-branch-clause-refused : goal.returns-in_err-branch-clause-refused
returns-in_err-branch-clause-refused c =
    let came = comes_told _ _ _ _ _ _ c.judged.ensures in
    let e : c.from_residual-in_err-branch.result ≡ Err c.in_err-branch.field-0.0 = search rules in
    rw e
    (tables_refused _ _ c.gather-words.ensures.0 _ c.gather-words.ensures.1 _ _ _ came _
    (ap told c.in_ok-judged.was ∙ c.in_err-branch.was))

pub returns-clause-accepted : goal.returns-clause-accepted
returns-clause-accepted c =
    let came = comes_told _ _ _ _ _ _ c.judged.ensures in
    let e = ap told c.in_ok-judged.was ∙ c.in_ok-branch.was in (
      tables_accepted _ _ c.gather-words.ensures.0 _ c.gather-words.ensures.1 _ _ _ came _ e,
      tables_hold _ _ c.gather-words.ensures.0 _ c.gather-words.ensures.1 _ _ _ came _ e _ refl refl refl refl refl refl,
    )

pub returns-then-settled-clause-own : goal.returns-then-settled-clause-own
returns-then-settled-clause-own c =
    let fit = tables_fit _ _ c.gather-words.ensures.0 _ c.gather-words.ensures.1 in
    let stood = stands_told _ _ _ (λ p. c.settled.ensures c.if-settled.true p _ fit) in
    tables_own _ _ c.gather-words.ensures.0 _ c.gather-words.ensures.1 _ _ _ stood _ c.in_ok-words.was

pub returns-clause-own : goal.returns-clause-own
returns-clause-own c =
    let came = comes_told _ _ _ _ _ _ c.judged.ensures in
    tables_own _ _ c.gather-words.ensures.0 _ c.gather-words.ensures.1 _ _ _ came _ (ap told c.in_ok-judged.was ∙ c.in_ok-branch.was)
