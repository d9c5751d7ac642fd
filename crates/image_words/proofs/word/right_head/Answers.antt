-- `image_words::word::right_head` meets its contract.
-- Assumes nothing.
use Rattle.std.proofs.Common.{◌≡◌, Bool, true, false, refl, MatchOption}
use Rattle.std.specs.Bool.{then_some}
use Rattle.model.specs.declared.Head.{Head}
use Rattle.model.specs.Image.{head_right, head_of}
use Rattle.image_words.proofs.word.right_head.Goals as goal

-- what is given where a test holds
given : (b : Bool) (h : Head) → MatchOption (then_some b h) (b ≡ false) (λ g. (b ≡ true) × (g ≡ h))
given true h = (refl, refl)
given false h = refl

pub returns : goal.returns
unfolding head_right head_of
returns c =
    let e : c.then_some.result ≡ then_some (head_right c.args.w) (head_of c.args.w) = rw c.head_of-h.ensures at c.then_some.ensures in
    rw e (given (head_right c.args.w) (head_of c.args.w))
