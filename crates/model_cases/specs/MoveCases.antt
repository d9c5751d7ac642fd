-- Moves of a ledger of two users, with their answers and what they leave in a target of sevens.
-- Assumes nothing.
use Rattle.std.specs.Prelude.{Bool, ◌&&◌, List, [], ◌∷◌, ◌++◌, ℕ, eqb, length, take, replicate}
use Rattle.model.specs.Bytes.{bytes_of}
use Rattle.model.specs.Line.{line_size}
use Rattle.model.specs.Words.{image_bytes}
use Rattle.model.specs.Tests.{same_list}
use Rattle.model_cases.specs.Ward.{image_of_two, loop}
use Rattle.model.specs.Moves.{move}

pub record MoveCase : Type 0 where
  pub from : ℕ
  pub to : ℕ
  pub image : List ℕ
  pub old : List ℕ
  pub room : ℕ
  pub number : ℕ
  pub extra : ℕ
  pub target : List ℕ

unfoldable pub sevens : ℕ → List ℕ
sevens n = replicate n 7

unfoldable pub moves_so : MoveCase → Bool
moves_so c =
    let e = move c.from c.to (image_bytes c.image) c.old (sevens c.room) in
    eqb e.reply.number c.number && (eqb e.reply.extra c.extra && same_list e.ledger c.target)

-- a line of W sessions with these open, this history, the roles s active in session 0, and nothing else
unfoldable pub line_with : ℕ → ℕ → ℕ → ℕ → List ℕ
line_with W opened history s =
    take (line_size W) (bytes_of 8 opened ++ (bytes_of 8 history ++ (bytes_of 8 s ++ (bytes_of 8 s ++ replicate (line_size W) 0))))

-- a line of W sessions with four open, each with other bytes
unfoldable pub busy_line : ℕ → List ℕ
busy_line W =
    take (line_size W)
    (bytes_of 8 15 ++ (bytes_of 8 3 ++ (bytes_of 8 1 ++ (bytes_of 8 1 ++ (bytes_of 8 0 ++ (bytes_of 8 2 ++ (bytes_of 8 1 ++ (bytes_of 8 3 ++ (bytes_of 8 0
    ++ (bytes_of 8 3 ++ replicate (line_size W) 0))))))))))

-- two good lines, for four sessions or for eight
unfoldable pub good_lines : ℕ → List ℕ
good_lines W = busy_line W ++ line_with W 1 2 2

-- one that is done, and one that is refused
unfoldable pub moving : ℕ → ℕ → List ℕ → List ℕ → MoveCase
moving from to old target =
    record { from = from; to = to; image = image_of_two; old = old; room = length target; number = 0; extra = 0; target = target }

unfoldable pub stopping : ℕ → ℕ → List ℕ → List ℕ → ℕ → ℕ → ℕ → MoveCase
stopping from to image old room n x =
    record { from = from; to = to; image = image; old = old; room = room; number = n; extra = x; target = sevens room }

unfoldable pub move_cases : List MoveCase
move_cases =
    -- there and back
    moving 4 8 (good_lines 4) (good_lines 8)
    ∷ moving 8 4 (good_lines 8) (good_lines 4)
    -- 24: a session from 4 on is open, of user 1, of both
    ∷ stopping 8 4 image_of_two (line_with 8 1 1 1 ++ line_with 8 16 0 0) 160 24 1
    ∷ stopping 8 4 image_of_two (line_with 8 128 0 0 ++ line_with 8 16 0 0) 160 24 0
    -- 11: an active role that is not in the history; both in one line, and in two lines in both orders
    ∷ stopping 8 4 image_of_two (line_with 8 1 1 1 ++ line_with 8 17 0 1) 160 11 1
    ∷ stopping 8 4 image_of_two (line_with 8 16 0 0 ++ line_with 8 1 0 1) 160 24 0
    ∷ stopping 8 4 image_of_two (line_with 8 1 0 1 ++ line_with 8 16 0 0) 160 11 0
    -- an open bit above the old sessions is unsound, though the new ones would have it
    ∷ stopping 4 8 image_of_two (line_with 4 0 0 0 ++ line_with 4 16 0 0) 288 11 1
    -- 9 and 19, and both; a line's fault comes after them
    ∷ stopping 4 8 image_of_two (good_lines 8) 288 9 0
    ∷ stopping 4 8 image_of_two (good_lines 4) 160 19 0
    ∷ stopping 4 8 image_of_two (good_lines 8) 160 9 0
    ∷ stopping 8 4 image_of_two (line_with 8 1 0 1 ++ line_with 8 16 0 0) 161 19 0
    -- a refused image, by its number and what it names
    ∷ stopping 4 8 (0x104080A0 ∷ 0x20800000 ∷ []) (good_lines 4) 160 3 1
    ∷ stopping 4 8 loop (good_lines 4) 160 22 0
    ∷ []
