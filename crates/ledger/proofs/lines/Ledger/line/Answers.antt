-- `ledger::lines::Ledger::line` meets its contract.
-- Assumes nothing.
use mathlib.Core.Path.{refl}
use Rattle.model.specs.Line.{line_size}
use Rattle.ledger.proofs.Places.{line_there, line_whole}
use Rattle.ledger.proofs.lines.Ledger.line.Goals as goal

pub line_bytes-requires : goal.line_bytes-requires
line_bytes-requires c =
    let l = c.args.self.now in
    line_there l.sessions c.args.user l.users l.bytes.now l.whole c.requires

pub invariant_of-result-clause-whole : goal.invariant_of-result-clause-whole
unfolding line_size
invariant_of-result-clause-whole c =
    let l = c.args.self.now in
    line_whole l.sessions c.args.user l.users l.bytes.now l.whole c.requires _ c.line_bytes.ensures

pub returns : goal.returns
unfolding line_size
returns c = (c.line_bytes.ensures, refl)
