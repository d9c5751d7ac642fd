-- Two bytes, one behind the other.
-- Assumes nothing.
use mathlib.Core.Path.{◌≡◌}
use mathlib.Core.List.{[], ◌∷◌}
use Rattle.script_text.specs.Writing.{pair_of}
use Rattle.script_text.proofs.TextLaws.{writes-joined, writes_as}
use Rattle.script_text.proofs.Writer.put_pair.Goals as goal

pub returns : goal.returns
unfolding pair_of
returns c =
    let e : c.glyph-high.result ∷ c.glyph-low.result ∷ [] ≡ pair_of c.args.b = rw (c.glyph-high.ensures, c.glyph-low.ensures) in
    writes_as e (writes-joined c.put.ensures c.put-2.ensures)
