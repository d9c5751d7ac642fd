-- `moves_line::line_fault` meets its contract: each return names the tests that led there.
-- Assumes nothing.
use native.Mathlib.Omega.{arith}
use Rattle.model.specs.Line.{line_size}
use Rattle.moves_line.proofs.OneLine.{fault11, fault24, fault0}
use Rattle.moves_line.proofs.line_fault.Goals as goal

pub get_u64-requires : goal.get_u64-requires
unfolding line_size
get_u64-requires c = omega arith

pub returns-then-not-formed : goal.returns-then-not-formed
returns-then-not-formed c m anti h =
    fault11 c.args.line.now.sessions c.args.to m c.args.line.now.bytes.now (c.line_sound-formed.ensures m anti h)
    c.get_u64.ensures c.below-low.ensures c.if-not-formed.true

pub returns-then-not-low : goal.returns-then-not-low
returns-then-not-low c m anti h =
    fault24 c.args.line.now.sessions c.args.to m c.args.line.now.bytes.now (c.line_sound-formed.ensures m anti h)
    c.get_u64.ensures c.below-low.ensures c.if-not-formed.false
    c.if-not-low.true

pub returns : goal.returns
returns c m anti h =
    fault0 c.args.line.now.sessions c.args.to m c.args.line.now.bytes.now (c.line_sound-formed.ensures m anti h)
    c.get_u64.ensures c.below-low.ensures c.if-not-formed.false
    c.if-not-low.false
