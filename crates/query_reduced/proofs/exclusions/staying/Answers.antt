-- `query_reduced::exclusions::staying` meets its contract.
-- Assumes nothing.
use Rattle.model.specs.Reduced.{stay}
use Rattle.query_reduced.proofs.exclusions.staying.Goals as goal

pub returns-in-SsDmer : goal.returns-in-SsDmer
unfolding stay
returns-in-SsDmer c = rw c.in-SsDmer.is

pub returns-in-MsDmer : goal.returns-in-MsDmer
unfolding stay
returns-in-MsDmer c = rw c.in-MsDmer.is

pub returns-in-SsHmer : goal.returns-in-SsHmer
unfolding stay
returns-in-SsHmer c = rw c.in-SsHmer.is

pub returns-in-MsHmer : goal.returns-in-MsHmer
unfolding stay
returns-in-MsHmer c = rw c.in-MsHmer.is
