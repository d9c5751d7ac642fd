-- `clauses_bytes::bytes::packed` meets its contract: one to five digits.
-- Assumes nothing.
use Rattle.std.proofs.Common.{rules}
use Rattle.model.specs.Dimacs.{figure}
use Rattle.clauses_bytes.proofs.PackedLaws.{ones_packed, tens_packed, hundreds_packed, thousands_packed, myriads_packed}
use Rattle.clauses_bytes.proofs.bytes.packed.Goals as goal

pub returns-then-n-lt10 : goal.returns-then-n-lt10
returns-then-n-lt10 c = unfold figure in search (rules, ones_packed)

pub returns-then-n-lt100 : goal.returns-then-n-lt100
returns-then-n-lt100 c = unfold figure in search (rules, tens_packed)

pub returns-then-n-lt1000 : goal.returns-then-n-lt1000
returns-then-n-lt1000 c = unfold figure in search (rules, hundreds_packed)

pub returns-then-n-lt10000 : goal.returns-then-n-lt10000
returns-then-n-lt10000 c = unfold figure in search (rules, thousands_packed)

pub returns : goal.returns
returns c = unfold figure in search (rules, myriads_packed)
