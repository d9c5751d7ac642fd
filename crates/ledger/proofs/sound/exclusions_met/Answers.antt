use mathlib.Core.Path.{ap, ◌∙◌}
use native.Mathlib.Omega.{arith}
use lib.Bits.{bit_or}
use Rattle.model.specs.Tests.{all}
use Rattle.exclusion_rows.specs.Table.{exclusions_of}
use Rattle.ledger.specs.Held.{met_at, named_by}
use Rattle.ledger.proofs.All.{all-next, all-stop, all_end}
use Rattle.ledger.proofs.Soundness.{by_exclusion}
use Rattle.ledger.proofs.sound.exclusions_met.Goals as goal

pub loop-x-init : goal.loop-x-init
unfolding named_by
loop-x-init c = (
  ap (bit_or c.args.l.history) c.named_in.ensures,
  λ m h. ap (all (met_at c.args.l)) c.listed-x-items.ensures ∙ by_exclusion m c.args.l (exclusions_of c.args.xs.now) h,
)

pub returns-then-not-met_by_all : goal.returns-then-not-met_by_all
returns-then-not-met_by_all c m h =
    all-stop _ _ _ c.loop-x.x-index (omega arith) c.met_by_all.ensures c.if-not-met_by_all.true ∙ c.loop-x.invariant.1 m h

pub loop-x-preserved : goal.loop-x-preserved
loop-x-preserved c =
    let e = all-next _ _ _ c.loop-x.x-index (omega arith) c.met_by_all.ensures c.if-not-met_by_all.false in
    (c.loop-x.invariant.0, λ m h. e ∙ c.loop-x.invariant.1 m h)

pub returns : goal.returns
returns c m h = all_end _ _ c.loop-x.x-index (omega arith) ∙ c.loop-x.invariant.1 m h
