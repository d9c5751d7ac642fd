use mathlib.Core.Path.{◌≡◌, sym, ap, ◌∙◌}
use Prim.Native.Nat.{ℕ}
use native.Mathlib.Omega.{arith}
use Rattle.model.specs.Line.{line_size}
use Rattle.model.specs.Moves.{resized_lines}
use Rattle.model_laws.proofs.MoveLines.{length-lines}
use Rattle.octets.specs.Splice.{splice}
use Rattle.octets.proofs.Splices.{splice_nil, splice_all}
use Rattle.moves.proofs.AllLines.{line_inside, lines_put}
use Rattle.moves.proofs.lines.put_lines.Goals as goal

pub loop-u-init : goal.loop-u-init
unfolding resized_lines
loop-u-init c = sym (splice_nil c.args.new.now 0)

pub put_resized-requires : goal.put_resized-requires
put_resized-requires c =
    line_inside (line_size c.args.to) _ c.args.old.now.users c.loop-u.new (c.loop-u.auto.new ∙ c.requires) (omega arith)

pub loop-u-preserved : goal.loop-u-preserved
loop-u-preserved c =
    lines_put c.args.old.now.sessions c.args.to c.args.old.now.bytes.now c.args.new.now _ _ _ c.loop-u.u c.args.old.now.users (omega arith)
    c.requires c.loop-u.invariant c.line.ensures.0 c.put_resized.ensures

pub returns : goal.returns
returns c =
    let o = c.args.old.now in
    let e : c.loop-u.u ≡ o.users = omega arith in
    let lines = resized_lines o.sessions c.args.to o.bytes.now 0 in
    c.loop-u.invariant ∙ ap (λ (n : ℕ). splice c.args.new.now 0 (lines n)) e
    ∙ splice_all c.args.new.now (lines o.users) (length-lines o.sessions c.args.to o.bytes.now 0 o.users ∙ sym c.requires)
