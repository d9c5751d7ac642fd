use Rattle.std.proofs.Common.{arith, rules, below_more}
use Rattle.query.proofs.Lacking.{word_missing, words-within, word_least, words_least}
use Rattle.query.proofs.carry.missing.Goals as goal

pub loop-i-init : goal.loop-i-init
loop-i-init c j l = absurd (omega arith)

pub returns-then-x-ne0-clause-found : goal.returns-then-x-ne0-clause-found
returns-then-x-ne0-clause-found c = search (rules, word_missing)

pub returns-then-x-ne0-clause-least : goal.returns-then-x-ne0-clause-least
returns-then-x-ne0-clause-least c = word_least _ _ (search rules) (search rules) _ _ _ (search rules) c.lowest_bit.ensures (search rules) c.loop-i.invariant

pub loop-i-preserved : goal.loop-i-preserved
loop-i-preserved c = below_more _ _ c.loop-i.invariant c.if-x-ne0.false

pub returns-clause-found : goal.returns-clause-found
returns-clause-found c = words-within _ _ (search rules) (search rules) (λ j l. c.loop-i.invariant j (omega arith))

pub returns-clause-least : goal.returns-clause-least
returns-clause-least c = words_least _ _ (search rules) (search rules) (λ j l. c.loop-i.invariant j (omega arith))
