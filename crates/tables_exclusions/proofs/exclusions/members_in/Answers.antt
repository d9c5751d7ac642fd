use borrow.Author.Rules.{rules}
use Rattle.image_words.proofs.Folds.{fold_next, fold_end}
use Rattle.tables_exclusions.proofs.exclusions.members_in.Goals as goal

pub loop-place-preserved : goal.loop-place-preserved
loop-place-preserved c = search (rules, fold_next)

pub returns : goal.returns
returns c = search (rules, fold_end)
