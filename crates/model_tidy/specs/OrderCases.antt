-- An image with all kinds of words but a senior's, its entries moved about, and moves that are none of these.
-- Assumes nothing.
use Rattle.std.specs.Prelude.{◌≡◌, List, [], ◌∷◌, ℕ}
use Rattle.model.specs.declared.Head.{Head}
use Rattle.model.specs.declared.Checked.TheVariants.{Accepted, Refused}
use Rattle.model.specs.Bytes.{bytes_of}
use Rattle.model.specs.Words.{head_word, assign_word, grant_word, exclusion_word, member_word, limit_word, image_bytes, ended}
use Rattle.model.specs.Judgement.{judge}
use Rattle.model.specs.Line.{SESSIONS}
use Rattle.model.specs.Session.{Reply}
use Rattle.model.specs.Run.{Call, step, short_ask_by, clauses_by}
use Rattle.model_cases.specs.Ward.{active_role}
use Rattle.model_tidy.specs.Order.{Reordered}

-- ---- images

-- one user, four roles, all of them hers, and two permissions; role 0 is granted permission 0, role 2 permission 1; the
-- roles 0 and 1 exclude each other in all her open sessions, 2 and 3 in each one; two limits on role 0
unfoldable pub plain : List ℕ
plain =
    ended
    (head_word 1 4 2 ∷ assign_word 0 0 ∷ assign_word 0 1 ∷ assign_word 0 2 ∷ assign_word 0 3 ∷ grant_word 0 0 ∷ grant_word 2 1
    ∷ exclusion_word 1 2 2 ∷ member_word 0 ∷ member_word 1 ∷ exclusion_word 0 2 2 ∷ member_word 2 ∷ member_word 3
    ∷ limit_word 0 2 ∷ limit_word 0 3 ∷ [])

-- the last limit in front, the exclusions exchanged, and the members of each turned round
unfoldable pub turned : List ℕ
turned =
    ended
    (head_word 1 4 2 ∷ limit_word 0 3 ∷ assign_word 0 0 ∷ assign_word 0 1 ∷ assign_word 0 2 ∷ assign_word 0 3 ∷ grant_word 0 0
    ∷ grant_word 2 1 ∷ exclusion_word 0 2 2 ∷ member_word 3 ∷ member_word 2 ∷ exclusion_word 1 2 2 ∷ member_word 1
    ∷ member_word 0 ∷ limit_word 0 2 ∷ [])

-- a member of each exclusion moved into the other: 0 and 2 exclude each other, and so do 1 and 3
unfoldable pub crossed : List ℕ
crossed =
    ended
    (head_word 1 4 2 ∷ assign_word 0 0 ∷ assign_word 0 1 ∷ assign_word 0 2 ∷ assign_word 0 3 ∷ grant_word 0 0 ∷ grant_word 2 1
    ∷ exclusion_word 1 2 2 ∷ member_word 0 ∷ member_word 2 ∷ exclusion_word 0 2 2 ∷ member_word 1 ∷ member_word 3
    ∷ limit_word 0 2 ∷ limit_word 0 3 ∷ [])

-- the last member moved out of its exclusion, behind a limit
unfoldable pub strayed : List ℕ
strayed =
    ended
    (head_word 1 4 2 ∷ assign_word 0 0 ∷ assign_word 0 1 ∷ assign_word 0 2 ∷ assign_word 0 3 ∷ grant_word 0 0 ∷ grant_word 2 1
    ∷ exclusion_word 1 2 2 ∷ member_word 0 ∷ member_word 1 ∷ exclusion_word 0 2 2 ∷ member_word 2 ∷ limit_word 0 2
    ∷ member_word 3 ∷ limit_word 0 3 ∷ [])

-- the head moved behind the first assignment
unfoldable pub headless : List ℕ
headless =
    ended
    (assign_word 0 0 ∷ head_word 1 4 2 ∷ assign_word 0 1 ∷ assign_word 0 2 ∷ assign_word 0 3 ∷ grant_word 0 0 ∷ grant_word 2 1
    ∷ exclusion_word 1 2 2 ∷ member_word 0 ∷ member_word 1 ∷ exclusion_word 0 2 2 ∷ member_word 2 ∷ member_word 3
    ∷ limit_word 0 2 ∷ limit_word 0 3 ∷ [])

-- another end word
unfoldable pub unbalanced : List ℕ
unbalanced =
    head_word 1 4 2 ∷ assign_word 0 0 ∷ assign_word 0 1 ∷ assign_word 0 2 ∷ assign_word 0 3 ∷ grant_word 0 0 ∷ grant_word 2 1
    ∷ exclusion_word 1 2 2 ∷ member_word 0 ∷ member_word 1 ∷ exclusion_word 0 2 2 ∷ member_word 2 ∷ member_word 3
    ∷ limit_word 0 2 ∷ limit_word 0 3 ∷ 0xF9B7DFC1 ∷ []

-- ---- calls with session 0 open

-- a short ask for both permissions, which takes the roles 0 and 2
unfoldable pub asks_both : Call
asks_both = short_ask_by 0 0 (bytes_of 32 3) (bytes_of 32 3) 40

-- the clause text of an ask
unfoldable pub texts_both : Call
texts_both = clauses_by 0 0 (bytes_of 32 3) (bytes_of 32 3) 0 0 4096

unfoldable pub reply_to : Call → List ℕ → Reply
reply_to c image = (step SESSIONS (image_bytes image) (active_role 0) c).reply

-- ---- the cases

unfoldable pub head_of_plain : Head
head_of_plain = record { users = 1; roles = 4; permissions = 2 }

pub record OrderCases : Type 0 where
  pub accepted : judge (image_bytes plain) ≡ Accepted head_of_plain
  pub reordered : Reordered (image_bytes plain) (image_bytes turned)
  -- the clause texts are written, and differ
  pub text_plain : (reply_to texts_both plain).number ≡ 0
  pub text_turned : (reply_to texts_both turned).number ≡ 0
  pub texts_differ : ¬ ((reply_to texts_both plain).filled ≡ (reply_to texts_both turned).filled)
  -- members moved across exclusions: accepted, and an ask is answered otherwise
  pub crossed_accepted : judge (image_bytes crossed) ≡ Accepted head_of_plain
  pub asked_plain : (reply_to asks_both plain).number ≡ 0
  pub asked_crossed : (reply_to asks_both crossed).number ≡ 20
  pub not_crossed : ¬ Reordered (image_bytes plain) (image_bytes crossed)
  -- a member moved out of its exclusion, the head moved, another end word: refused
  pub strayed_refused : judge (image_bytes strayed) ≡ Refused 3 12
  pub not_strayed : ¬ Reordered (image_bytes plain) (image_bytes strayed)
  pub headless_refused : judge (image_bytes headless) ≡ Refused 2 0
  pub not_headless : ¬ Reordered (image_bytes plain) (image_bytes headless)
  pub unbalanced_refused : judge (image_bytes unbalanced) ≡ Refused 8 15
  pub not_unbalanced : ¬ Reordered (image_bytes plain) (image_bytes unbalanced)
