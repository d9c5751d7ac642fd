-- `ledger::sound::counted` meets its contract.
-- Assumes nothing.
use borrow.Author.Rules.{rules}
use Rattle.model.specs.Line.{counted}
use Rattle.ledger.proofs.sound.counted.Goals as goal

pub returns-in-SsDmer : goal.returns-in-SsDmer
unfolding counted
returns-in-SsDmer c = search rules

pub returns-in-MsDmer : goal.returns-in-MsDmer
unfolding counted
returns-in-MsDmer c = rw c.in-MsDmer.is c.active_in.ensures

pub returns-in-SsHmer : goal.returns-in-SsHmer
unfolding counted
returns-in-SsHmer c = search rules

pub returns-in-MsHmer : goal.returns-in-MsHmer
unfolding counted
returns-in-MsHmer c = search rules
