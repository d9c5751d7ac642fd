-- What stands in the way of asks, listed: each kind, their order, and the refusals of the call, with the ward's images.
-- Assumes nothing.
use Rattle.std.specs.Prelude.{List, [], ◌∷◌, ◌++◌, ℕ, ◌+◌, ◌*◌, replicate, take, drop}
use Rattle.model.specs.Bytes.{bytes_of}
use Rattle.model.specs.Words.{ended}
use Rattle.model.specs.Run.{Call, open_by, obstacle_by}
use Rattle.model_cases.specs.Ward.{image_a, image_of_kind, ward_head, doctors, opens, closes, asks, asks_short, Case, case, lines, done_with, chose, refused, refused_for, damaged, case_of_two}

-- image A with another exclusion behind its own, of the same members
unfoldable pub image_and : ℕ → List ℕ
image_and x = ended (take 12 image_a ++ (x ∷ 0x60000000 ∷ 0x60400000 ∷ []))

-- image A where the user is Doctor alone
unfoldable pub doctor_alone : List ℕ
doctor_alone = ended (take 2 image_a ++ drop 3 (take 12 image_a))

-- the call by a user, with the bounds as set numbers; and by user 0
unfoldable pub obstacle_of_user : ℕ → ℕ → ℕ → ℕ → Call
obstacle_of_user u k lower upper = obstacle_by u k (bytes_of 32 lower) (bytes_of 32 upper) 16

unfoldable pub obstacles : ℕ → ℕ → ℕ → Call
obstacles k lower upper = obstacle_of_user 0 k lower upper

-- its answer: the kind and what it is about, and two role sets
unfoldable pub names : ℕ → ℕ → ℕ → ℕ → List ℕ
names kind about roles members = 0 ∷ (kind + 8 * about) ∷ roles ∷ members ∷ []

-- an exclusion of image A's members with n of 2, by its kind; and the roles of it that are counted already
unfoldable pub excludes : ℕ → ℕ → List ℕ
excludes kind counted = names 4 (kind + 4 * 2) counted 3

unfoldable pub obstacle_cases : List Case
obstacle_cases =
    -- 01's lines: Doctor is active in the other session, and so Data_Manager is barred, until that session is closed
    case image_a (take 3 lines ++ (obstacles 1 0x12 0x1f ∷ asks 1 0x12 0x1f 1 0 ∷ closes 0 ∷ obstacles 1 0x12 0x1f ∷ asks 1 0x12 0x1f 1 0 ∷ []))
    (done_with 0 ∷ chose 1 0xf ∷ done_with 1 ∷ excludes 1 1 ∷ refused 20 ∷ done_with 0 ∷ refused 20 ∷ chose 2 0x12 ∷ [])
    -- kind 3 counts Doctor for good, kind 2 in this session alone; where both roles are asked for, nothing is counted
    -- beforehand
    ∷ case (image_of_kind 3) (opens ∷ asks 0 0x3 0x1f 0 0 ∷ closes 0 ∷ opens ∷ obstacles 0 0x10 0x1f ∷ [])
    (done_with 0 ∷ chose 1 0xf ∷ done_with 0 ∷ done_with 0 ∷ excludes 3 1 ∷ [])
    ∷ case (image_of_kind 2) (opens ∷ asks 0 0x3 0x1f 0 0 ∷ obstacles 0 0x10 0x1f ∷ opens ∷ obstacles 1 0x10 0x1f ∷ obstacles 1 0x11 0x1f ∷ [])
    (done_with 0 ∷ chose 1 0xf ∷ excludes 2 1 ∷ done_with 1 ∷ refused 20 ∷ excludes 2 0 ∷ [])
    -- Data_Manager is none of the user's roles; that comes before Doctor's carrying more than the upper bound, about a
    -- lower permission
    ∷ case doctor_alone (opens ∷ obstacles 0 0x12 0x1f ∷ obstacles 0 0x11 0x11 ∷ obstacles 0 0x1 0x11 ∷ [])
    (done_with 0 ∷ names 1 4 2 0 ∷ names 1 4 2 0 ∷ names 2 0 1 0 ∷ [])
    -- the ward head may take Nurse and not Surgeon
    ∷ case ward_head (opens ∷ obstacles 0 0x6 0x7 ∷ []) (done_with 0 ∷ names 1 2 4 0 ∷ [])
    -- Doctor carries more than the upper bound, and so does Data_Manager; nothing stands in the way of empty bounds
    ∷ case image_a (opens ∷ obstacles 0 0x3 0x3 ∷ obstacles 0 0x2 0x2 ∷ obstacles 0 0 0 ∷ [])
    (done_with 0 ∷ names 2 0 1 0 ∷ names 2 1 3 0 ∷ refused 20 ∷ [])
    -- the other user's session holds Doctor, which one session may; Data_Manager carries permission 1 too, and is not
    -- barred
    ∷ case_of_two (doctors 2 ∷ []) (replicate 288 0)
    (opens ∷ asks_short 0 0x3 0x1f ∷ open_by 1 ∷ obstacle_of_user 1 0 0x6 0x1f ∷ obstacle_of_user 1 0 0x2 0x1f ∷ [])
    (done_with 0 ∷ chose 1 0xf ∷ done_with 0 ∷ names 3 2 1 0 ∷ refused 20 ∷ [])
    -- the order is that of the tidy image, by kind first, and a repeated exclusion adds nothing; one that leaves a set
    -- is passed over
    ∷ case (image_and 0x50102000) (opens ∷ obstacles 0 0x11 0x1f ∷ []) (done_with 0 ∷ excludes 0 0 ∷ [])
    ∷ case (image_and 0x54102000) (opens ∷ obstacles 0 0x11 0x1f ∷ []) (done_with 0 ∷ excludes 1 0 ∷ [])
    ∷ case (image_and 0x50102000) (opens ∷ asks 0 0x3 0x1f 0 0 ∷ opens ∷ obstacles 1 0x10 0x1f ∷ [])
    (done_with 0 ∷ chose 1 0xf ∷ done_with 1 ∷ excludes 1 1 ∷ [])
    -- tests run in number order
    ∷ case image_a
    (obstacle_by 0 8 (bytes_of 31 0) (bytes_of 32 0x20) 0 ∷ obstacles 0 0x3 0x3 ∷ opens ∷ obstacle_by 0 0 (bytes_of 31 0) (bytes_of 32 0x20) 0
    ∷ obstacles 0 0x3f 0x1f ∷ obstacle_by 0 0 (bytes_of 32 0x3) (bytes_of 32 0x1) 0 ∷ obstacle_by 0 0 (bytes_of 32 0) (bytes_of 32 0) 40 ∷ [])
    (refused 12 ∷ refused 13 ∷ done_with 0 ∷ refused 15 ∷ refused 16 ∷ refused 17 ∷ refused 19 ∷ [])
    -- under a limit another user's damaged line is named, as to an ask
    ∷ case_of_two (doctors 2 ∷ []) (replicate 144 0 ++ damaged) (opens ∷ obstacles 0 0x3 0x1f ∷ []) (done_with 0 ∷ refused_for 11 2 ∷ [])
    ∷ []
