-- A figure or a small letter.
-- Assumes nothing.
use native.Mathlib.Omega.{arith}
use Rattle.script_text.proofs.TextLaws.{glyph-figure, glyph_letter}
use Rattle.script_text.proofs.glyph.Goals as goal

pub returns-in-0-to-9 : goal.returns-in-0-to-9
returns-in-0-to-9 c = glyph-figure _ (omega arith)

pub returns-in_default : goal.returns-in_default
returns-in_default c = glyph_letter _ (omega arith)
