-- The bytes as far as the first newline are kept, or all of them.
-- Assumes nothing.
use Rattle.std.proofs.Common.{rules, ap, ◌∙◌, arith, tests}
use Prim.Native.Nat.{◌-◌}
use mathlib.Core.Path.{◌≡◌}
use lib.ListN.{length, take, drop, length-drop}
use lib.Seq.{take_all}
use Rattle.std.proofs.lemmas.Iterator.{YieldsList-from_slice}
use Rattle.std.proofs.lemmas.Iterator.Search.{position_from_yields_List}
use Rattle.std.specs.List.{position_or_len}
use Rattle.script_input.specs.Buffers.{keeping_all}
use Rattle.script_input.proofs.Steps.{is_newline, newline_place, gathered}
use Rattle.script_input.proofs.lines.BegunLine.gather.Goals as goal

pub returns : goal.returns
returns c =
    let xs = take (length c.args.chunk.now - c.args.next) (drop c.args.next c.args.chunk.now) in
    let e = position_from_yields_List is_newline _ _ c.position.result c.position.ensures.ran (YieldsList-from_slice xs c.iter.ensures.rest)
    (λ x b q k. search (rules, tests)) in
    let t : xs ≡ drop c.args.next c.args.chunk.now = take_all _ _ (omega (arith, length-drop c.args.next c.args.chunk.now)) in
    gathered c.args.chunk.now c.args.next c.unwrap_or-count.result c.args.self.now c.keep_all.new.self c.requires
    (newline_place xs _ _ e c.unwrap_or-count.ensures ∙ ap (position_or_len is_newline) t)
    (c.keep_all.ensures ∙ ap (λ x. keeping_all c.args.self.now (take c.unwrap_or-count.result x)) t)
