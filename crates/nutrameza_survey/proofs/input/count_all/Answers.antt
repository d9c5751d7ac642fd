-- The counts are zeros at the start.
-- Assumes nothing.
use borrow.Author.Rules.{rules}
use Rattle.nutrameza_survey.proofs.Zeros.{zeros_most}
use Rattle.nutrameza_survey.proofs.input.count_all.Goals as goal

pub count_each-requires : goal.count_each-requires
count_each-requires g c = search (rules, zeros_most)
