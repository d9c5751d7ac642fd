-- A line, or none.
-- Assumes nothing.
use borrow.Author.Rules.{rules}
use native.Mathlib.Omega.{arith}
use Rattle.script_text.proofs.TextLaws.{writes_as}
use Rattle.survey_counts.proofs.CountLines.{count_none, count_some_lem}
use Rattle.survey_counts.proofs.counts.put_count.Goals as goal

pub returns-then-count-lt1 : goal.returns-then-count-lt1
returns-then-count-lt1 c =
    (count_none c.args.text.now c.args.n c.args.count (search rules), omega arith)

pub returns : goal.returns
returns c =
    (writes_as (count_some_lem c.args.n c.args.count (search rules)) c.put_two.ensures.0, c.put_two.ensures.1)
