-- `asks_clauses::write_clauses` meets its contract: the rows and the reduced exclusions stand for the ask.
-- Assumes nothing.
use Rattle.exclusion_rows.specs.Table.{exclusions_of}
use Rattle.query_rank.proofs.Numbers.{stands}
use Rattle.asks_clauses.proofs.Standing.{wrote_text}
use Rattle.asks_clauses.proofs.write_clauses.Goals as goal

pub returns : goal.returns
returns c p x ledger range e g el =
    wrote_text p _ x _ _ _ _ _ (exclusions_of c.args.tables.now.exclusions) _ _ _ _ _ _ _ _ range e g el c.requires.2
    (rw (← c.grants.ensures.granted, ← c.grants.ensures.below) c.carried-rows.ensures) c.reduce-reduced.ensures.1
    (c.write.ensures _ _ (stands _) (stands _))
