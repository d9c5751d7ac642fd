-- `ledger::plainly::plainly_sound` meets its contract.
-- Assumes nothing.
use mathlib.Core.Path.{refl}
use mathlib.Core.Bool.{false}
use native.Mathlib.Omega.{arith}
use Rattle.model.specs.Line.{line_size}
use Rattle.model_laws.proofs.Bools.{not_both}
use Rattle.exclusion_rows.specs.Table.{exclusions_of}
use Rattle.ledger.proofs.ByHistory.{plain-line}
use Rattle.ledger.proofs.plainly.plainly_sound.Goals as goal

pub get_u64-opened-requires : goal.get_u64-opened-requires
unfolding line_size
get_u64-opened-requires c = omega arith

pub get_u64-history-requires : goal.get_u64-history-requires
unfolding line_size
get_u64-history-requires c = omega arith

pub returns-then-not-formed : goal.returns-then-not-formed
returns-then-not-formed c t m h = not_both false t refl

pub sessions_sound_in-requires : goal.sessions_sound_in-requires
sessions_sound_in-requires c = c.requires

pub returns-then-not-sessions_sound_in : goal.returns-then-not-sessions_sound_in
returns-then-not-sessions_sound_in c t m h = not_both false t refl

pub returns : goal.returns
returns c t m h =
    plain-line c.args.sessions c.args.roles c.args.own (exclusions_of c.args.xs.now) c.args.bytes.now c.get_u64-opened.ensures
    c.get_u64-history.ensures
    c.below.ensures c.below-2.ensures c.if-not-formed.false c.sessions_sound_in.ensures
    c.if-not-sessions_sound_in.false c.few_in.ensures t m h
