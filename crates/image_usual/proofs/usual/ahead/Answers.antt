-- `image_usual::usual::ahead` meets its contract.
-- Assumes nothing.
use Rattle.std.proofs.Common.{sym, ap, ◌∙◌, arith}
use Rattle.model.specs.declared.Word.{Word}
use Rattle.image_usual.proofs.Runs.{quick_grant, filled_one}
use Rattle.image_usual.proofs.usual.ahead.Goals as goal

pub returns-in-Some : goal.returns-in-Some
returns-in-Some g c =
    let k = c.in-Some.ensures in (
      omega (arith, c.past.ensures.place),
      rw c.past.ensures.place (filled_one c.word-w.result c.requires.0 c.word-w.ensures (quick_grant _ _ k.said k.within)
          (c.take.ensures ∙ ap (λ (x : Word). g.G.TakesGrants.step (g.G.TakesGrants.rows c.args.granted.now) x.entry) (sym k.said)) c.past.ensures.sum),
    )
