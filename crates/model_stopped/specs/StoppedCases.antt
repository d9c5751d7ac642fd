-- Cases of the stopped call, with what it answers and fills.
-- Assumes nothing.
use Rattle.std.specs.Prelude.{Bool, ◌&&◌, List, [], ◌∷◌, ◌++◌, ℕ, ◌*◌, ◌^◌, eqb, replicate}
use Rattle.model.specs.Tests.{same_list}
use Rattle.model.specs.Bytes.{bytes_of}
use Rattle.model.specs.Words.{head_word, grant_word, ended, image_bytes}
use Rattle.model.specs.Line.{SESSIONS}
use Rattle.model_cases.specs.Ward.{image_a, image_of_kind, image_of_two, image_limited, doctors, doctor_line, ward_head, loop, damaged, active_role}
use Rattle.model_stopped.specs.Stopped.{stopped_call}

-- the words of an image, a ledger and a buffer's length, and the number, the extra and the bytes filled
pub record Case : Type 0 where
  pub image : List ℕ
  pub ledger : List ℕ
  pub room : ℕ
  pub number : ℕ
  pub extra : ℕ
  pub filled : List ℕ

unfoldable pub answers_so : Case → Bool
answers_so c =
    let r = stopped_call SESSIONS (image_bytes c.image) c.ledger c.room in
    eqb r.number c.number && eqb r.extra c.extra && same_list r.filled c.filled

-- done, with so many users and their set
unfoldable pub tells : List ℕ → List ℕ → ℕ → ℕ → Case
tells image ledger n s = record { image = image; ledger = ledger; room = 8; number = 0; extra = n; filled = bytes_of 8 s }

-- refused, with nothing filled
unfoldable pub refuses : List ℕ → List ℕ → ℕ → ℕ → ℕ → Case
refuses image ledger room n x = record { image = image; ledger = ledger; room = room; number = n; extra = x; filled = [] }

unfoldable pub stopped_cases : List Case
stopped_cases =
    -- nobody; the second of two users; both
    tells image_of_two (replicate 288 0) 0 0
    ∷ tells image_of_two (replicate 144 0 ++ damaged) 1 2
    ∷ tells image_of_two (damaged ++ damaged) 2 3
    -- a role that the user may activate, and one that the user may not
    ∷ tells ward_head (active_role 0x2) 0 0
    ∷ tells ward_head (active_role 0x4) 1 1
    -- both roles of an exclusion in the past: met where it counts active roles, and not where it counts the past
    ∷ tells image_a (bytes_of 8 0 ++ (bytes_of 8 3 ++ replicate 128 0)) 0 0
    ∷ tells (image_of_kind 3) (bytes_of 8 0 ++ (bytes_of 8 3 ++ replicate 128 0)) 1 1
    -- a role over its limit stops nobody
    ∷ tells (image_limited (doctors 2 ∷ [])) (doctor_line ++ replicate 144 0) 0 0
    -- the highest of 64 users
    ∷ tells (ended (head_word 64 1 1 ∷ grant_word 0 0 ∷ [])) (replicate (63 * 144) 0 ++ damaged) 1 (2 ^ 63)
    -- a refused image, before 9; a ledger that does not fit, before 19; another buffer
    ∷ refuses [] (replicate 143 0) 7 1 0
    ∷ refuses loop (replicate 143 0) 7 22 0
    ∷ refuses image_a (replicate 143 0) 7 9 0
    ∷ refuses image_a (replicate 288 0) 8 9 0
    ∷ refuses image_a damaged 7 19 0
    ∷ refuses image_a damaged 9 19 0
    ∷ []
