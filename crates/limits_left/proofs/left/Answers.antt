-- `limits_left::left` meets its contract: by the counts of other sessions, or all of the roles.
-- Assumes nothing.
use mathlib.Core.Path.{sym, ap, subst, ◌∙◌}
use Prim.Native.Nat.{ℕ, ◌<◌}
use Rattle.limits_counts.specs.Counted.{count_at}
use Rattle.limits_held.specs.Held.{held_by_all}
use Rattle.limits_left.proofs.Leaving.{left-counted, left-all}
use Rattle.limits_left.proofs.left.Goals as goal

pub returns-then-some_limited : goal.returns-then-some_limited
returns-then-some_limited c p eu eo el =
    left-counted p c.args.ledger.now c.args.user c.args.k c.args.own c.args.limits.now (count_at c.held.result) _
    (subst (λ (n : ℕ). c.args.user < n) (sym eu) c.requires.1) eo el (c.some_limited.ensures.0 c.if-some_limited.true)
    (λ r. c.held.ensures r ∙ ap (λ (n : ℕ). held_by_all c.args.ledger.now c.args.user c.args.k n r) (sym eu)) c.left_by.ensures

pub returns : goal.returns
returns c p eu eo el =
    left-all p c.args.ledger.now c.args.user c.args.k c.args.own c.args.limits.now eo c.ranges.own.fits el
    (c.some_limited.ensures.1 c.if-some_limited.false)
