-- `tidy_words::image::put_image` meets its contract.
-- Assumes nothing.
use Rattle.std.proofs.Common.{refl, sym, rules}
use Rattle.tidy_words.proofs.Wholes.{room_body, room_end, end_put, image_put}
use Rattle.tidy_words.proofs.image.put_image.Goals as goal

pub put_body-requires : goal.put_body-requires
put_body-requires c = (c.requires.0, room_body _ _ _ _ _ _ _ c.requires.1)

pub put_word-requires : goal.put_word-requires
put_word-requires c = room_end _ _ _ _ _ _ _ refl refl c.requires.1 c.put_body.ensures

pub returns : goal.returns
returns c =
    let p = end_put _ _ _ _ _ _ _ refl refl c.requires.1 c.put_body.ensures c.end_word.ensures c.put_word.ensures in
    let n = sym p.same_bytes in
    let w = image_put _ _ _ _ _ _ _ refl refl c.requires.1 p in
    search rules
