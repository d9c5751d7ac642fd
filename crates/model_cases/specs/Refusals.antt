-- Images and how they are judged: image A with words replaced, put in or left out, each with its refusal's number and
-- place (0, 0: accepted). The words are written as in specs/Words.antt of model. Each clause of the register's lines 1
-- to 8 has a case, and so has each tie; 22 comes after them with a role, 23 with a user.
-- Assumes nothing.
use Rattle.std.specs.Prelude.{Bool, List, [], ◌∷◌, ◌++◌, ℕ, zero, suc, ◌+◌, ◌-◌, ◌*◌, ◌^◌, take, drop, replicate}
use Rattle.model.specs.declared.Checked.{Checked}
use Rattle.model.specs.declared.Checked.TheVariants.{Accepted, Refused}
use Rattle.model.specs.Judgement.{judge}
use Rattle.model.specs.Session.{Reply}
use Rattle.model.specs.Loop.{loop_call}
use Rattle.model.specs.Words.{head_word, assign_word, grant_word, senior_word, exclusion_word, member_word, limit_word, end_word, sum_of, ended, image_bytes}
use Rattle.model.specs.Tests.{same_list}
use Rattle.model_cases.specs.Ward.{image_a, fewer_of, loop}

unfoldable pub verdict : Checked → List ℕ
verdict (Accepted h) = 0 ∷ 0 ∷ []
verdict (Refused n place) = n ∷ place ∷ []

-- ---- words that are wrong, beside those of 01's table (specs/Words.antt of model)

-- a word of kind k, all else zero
unfoldable pub word_of_kind : ℕ → ℕ
word_of_kind k = k * 2 ^ 28

-- the word with bit b set, which is spare in it
unfoldable pub spare : ℕ → ℕ → ℕ
spare b w = w + 2 ^ b

-- ---- images

-- image A without its end word
unfoldable pub body_a : List ℕ
body_a = take 12 image_a

-- the low 28 bits that balance it
unfoldable pub balance : ℕ
balance = end_word (sum_of body_a) - word_of_kind 15

-- image A with the word at place i replaced by ws, balanced
unfoldable pub edited : ℕ → List ℕ → List ℕ
edited i ws = image_bytes (ended (take i body_a ++ (ws ++ drop (suc i) body_a)))

-- by the one word w
unfoldable pub replaced : ℕ → ℕ → List ℕ
replaced i w = edited i (w ∷ [])

-- an end word that balances none of the images below
unfoldable pub unbalancing : ℕ
unbalancing = word_of_kind 15 + 1

-- image A with the word at place i replaced by ws, not balanced
unfoldable pub unbalanced : ℕ → List ℕ → List ℕ
unbalanced i ws = image_bytes (take i body_a ++ (ws ++ drop (suc i) body_a) ++ (unbalancing ∷ []))

-- user 0 assigned to the roles 0 to n - 1
unfoldable pub assignments : ℕ → List ℕ
assignments zero = []
assignments (suc n) = assignments n ++ (assign_word 0 n ∷ [])

-- n times image A's exclusion
unfoldable pub exclusion_words : ℕ → List ℕ
exclusion_words zero = []
exclusion_words (suc n) = exclusion_word 1 2 2 ∷ member_word 0 ∷ member_word 1 ∷ exclusion_words n

-- image A with this last word
unfoldable pub ended_by : ℕ → List ℕ
ended_by w = image_bytes (body_a ++ (w ∷ []))

-- image A's head, 32 exclusions and the words
unfoldable pub after_thirty_two : List ℕ → List ℕ
after_thirty_two ws = image_bytes (ended (head_word 1 2 5 ∷ (exclusion_words 32 ++ ws)))

-- one user, 17 roles
unfoldable pub wide : List ℕ → List ℕ
wide ws = head_word 1 17 5 ∷ ws

-- role 0 over the roles 1 to n
unfoldable pub over_others : ℕ → List ℕ
over_others zero = []
over_others (suc n) = over_others n ++ (senior_word 0 (suc n) ∷ [])

-- one user and four roles, with the words
unfoldable pub hierarchy_of : List ℕ → List ℕ
hierarchy_of ws = image_bytes (ended (head_word 1 4 1 ∷ ws))

pub record Judged : Type 0 where
  pub image : List ℕ
  pub verdict : List ℕ

unfoldable pub is_judged : Judged → Bool
is_judged j = same_list (verdict (judge j.image)) j.verdict

unfoldable pub judged : List ℕ → ℕ → ℕ → Judged
judged image n place = record { image = image; verdict = n ∷ place ∷ [] }

unfoldable pub judged_images : List Judged
judged_images =
    -- nothing wrong: image A
    judged (image_bytes image_a) 0 0
    -- 1, length: no bytes at all
    ∷ judged [] 1 0
    -- a byte too many, in front; a byte too few; two too many
    ∷ judged (0 ∷ image_bytes image_a) 1 0
    ∷ judged (take 51 (image_bytes image_a)) 1 0
    ∷ judged (image_bytes image_a ++ (0 ∷ 0 ∷ [])) 1 0
    -- below 8; above 16,384
    ∷ judged (take 4 (image_bytes image_a)) 1 0
    ∷ judged (replicate 16388 0) 1 0
    -- 2, head: of kind 2
    ∷ judged (replaced 0 (head_word 1 2 5 + word_of_kind 1)) 2 0
    -- U of 0, of 65
    ∷ judged (replaced 0 (head_word 0 2 5)) 2 0
    ∷ judged (replaced 0 (head_word 65 2 5)) 2 0
    -- R of 0, of 65
    ∷ judged (replaced 0 (head_word 1 0 5)) 2 0
    ∷ judged (replaced 0 (head_word 1 65 5)) 2 0
    -- P of 0, of 257
    ∷ judged (replaced 0 (head_word 1 2 0)) 2 0
    ∷ judged (replaced 0 (head_word 1 2 257)) 2 0
    -- the lowest spare bit, one in the middle, the highest
    ∷ judged (replaced 0 (spare 0 (head_word 1 2 5))) 2 0
    ∷ judged (replaced 0 (spare 2 (head_word 1 2 5))) 2 0
    ∷ judged (replaced 0 (spare 4 (head_word 1 2 5))) 2 0
    -- accepted: the largest head
    ∷ judged (replaced 0 (head_word 64 64 256)) 0 0
    -- 3, kind: 0, 1, 8 and 14
    ∷ judged (replaced 3 (word_of_kind 0)) 3 3
    ∷ judged (replaced 3 (head_word 1 2 5)) 3 3
    ∷ judged (replaced 3 (word_of_kind 8)) 3 3
    ∷ judged (replaced 3 (word_of_kind 14)) 3 3
    -- a member not due
    ∷ judged (replaced 3 (member_word 0)) 3 3
    -- no member where due: an assignment, an exclusion, the end
    ∷ judged (replaced 10 (assign_word 0 0)) 3 10
    ∷ judged (replaced 10 (exclusion_word 1 2 2)) 3 10
    ∷ judged (edited 11 []) 3 11
    -- an end before the end
    ∷ judged (replaced 3 (word_of_kind 15)) 3 3
    -- a last word that is no end: a member, a grant
    ∷ judged (image_bytes body_a) 3 11
    ∷ judged (image_bytes (take 9 body_a)) 3 8
    -- a last word of kind 0, 1 and 14, which balances the image
    ∷ judged (ended_by (balance + word_of_kind 0)) 3 12
    ∷ judged (ended_by (balance + word_of_kind 1)) 3 12
    ∷ judged (ended_by (balance + word_of_kind 14)) 3 12
    -- 4, spare: of an assignment the lowest bit, one in the middle, the highest
    ∷ judged (replaced 1 (spare 0 (assign_word 0 0))) 4 1
    ∷ judged (replaced 1 (spare 8 (assign_word 0 0))) 4 1
    ∷ judged (replaced 1 (spare 15 (assign_word 0 0))) 4 1
    -- of a grant
    ∷ judged (replaced 3 (spare 0 (grant_word 0 0))) 4 3
    ∷ judged (replaced 3 (spare 7 (grant_word 0 0))) 4 3
    ∷ judged (replaced 3 (spare 13 (grant_word 0 0))) 4 3
    -- of a senior word
    ∷ judged (replaced 1 (spare 0 (senior_word 0 1))) 4 1
    ∷ judged (replaced 1 (spare 8 (senior_word 0 1))) 4 1
    ∷ judged (replaced 1 (spare 15 (senior_word 0 1))) 4 1
    -- of an exclusion
    ∷ judged (replaced 9 (spare 0 (exclusion_word 1 2 2))) 4 9
    ∷ judged (replaced 9 (spare 6 (exclusion_word 1 2 2))) 4 9
    ∷ judged (replaced 9 (spare 11 (exclusion_word 1 2 2))) 4 9
    -- of a member
    ∷ judged (replaced 10 (spare 0 (member_word 0))) 4 10
    ∷ judged (replaced 10 (spare 11 (member_word 0))) 4 10
    ∷ judged (replaced 10 (spare 21 (member_word 0))) 4 10
    -- 5, range: the user of an assignment, its role
    ∷ judged (replaced 1 (assign_word 1 0)) 5 1
    ∷ judged (replaced 1 (assign_word 0 2)) 5 1
    -- the role of a grant, its permission
    ∷ judged (replaced 3 (grant_word 2 0)) 5 3
    ∷ judged (replaced 3 (grant_word 0 5)) 5 3
    -- the senior, the junior
    ∷ judged (replaced 1 (senior_word 2 0)) 5 1
    ∷ judged (replaced 1 (senior_word 0 2)) 5 1
    -- m of 0; of 1, with n of 1 and of 2; above R
    ∷ judged (replaced 9 (exclusion_word 1 2 0)) 5 9
    ∷ judged (replaced 9 (exclusion_word 1 1 1)) 5 9
    ∷ judged (replaced 9 (exclusion_word 1 2 1)) 5 9
    ∷ judged (replaced 9 (exclusion_word 1 2 3)) 5 9
    -- n of 0, of 1, above m
    ∷ judged (replaced 9 (exclusion_word 1 0 2)) 5 9
    ∷ judged (replaced 9 (exclusion_word 1 1 2)) 5 9
    ∷ judged (replaced 9 (exclusion_word 1 3 2)) 5 9
    -- the role of a member
    ∷ judged (replaced 10 (member_word 2)) 5 10
    -- accepted: n of 2 and m of 3, by each kind
    ∷ judged (image_bytes (fewer_of 0 2 3)) 0 0
    ∷ judged (image_bytes (fewer_of 1 2 3)) 0 0
    ∷ judged (image_bytes (fewer_of 2 2 3)) 0 0
    ∷ judged (image_bytes (fewer_of 3 2 3)) 0 0
    -- accepted: n of 3 and m of 4, by each kind
    ∷ judged (image_bytes (fewer_of 0 3 4)) 0 0
    ∷ judged (image_bytes (fewer_of 1 3 4)) 0 0
    ∷ judged (image_bytes (fewer_of 2 3 4)) 0 0
    ∷ judged (image_bytes (fewer_of 3 3 4)) 0 0
    -- 6, repeat: a member again
    ∷ judged (replaced 11 (member_word 0)) 6 11
    -- a senior over itself
    ∷ judged (replaced 1 (senior_word 0 0)) 6 1
    ∷ judged (replaced 1 (senior_word 1 1)) 6 1
    -- accepted: an entry said twice
    ∷ judged (edited 1 (assign_word 0 0 ∷ assign_word 0 0 ∷ grant_word 0 0 ∷ [])) 0 0
    -- 7, crowd: accepted with 16 roles, and with the same 16 twice
    ∷ judged (image_bytes (ended (wide (assignments 16)))) 0 0
    ∷ judged (image_bytes (ended (wide (assignments 16 ++ assignments 16)))) 0 0
    -- a 17th role
    ∷ judged (image_bytes (ended (wide (assignments 17)))) 7 17
    -- accepted: entries of each other kind behind the 32nd exclusion
    ∷ judged (after_thirty_two (assign_word 0 0 ∷ grant_word 0 0 ∷ senior_word 0 1 ∷ limit_word 0 2 ∷ [])) 0 0
    -- a 33rd exclusion
    ∷ judged (after_thirty_two (exclusion_word 1 2 2 ∷ member_word 0 ∷ member_word 1 ∷ [])) 7 97
    -- limits, accepted: the smallest t, the largest
    ∷ judged (replaced 3 (limit_word 0 2)) 0 0
    ∷ judged (replaced 1 (limit_word 1 256)) 0 0
    -- accepted: in front of an exclusion; behind it, several for one role
    ∷ judged (edited 9 (limit_word 0 2 ∷ exclusion_word 1 2 2 ∷ [])) 0 0
    ∷ judged (edited 12 (limit_word 0 2 ∷ limit_word 0 3 ∷ limit_word 0 2 ∷ [])) 0 0
    -- 3: where a member is due, the first or the second
    ∷ judged (replaced 10 (limit_word 0 2)) 3 10
    ∷ judged (replaced 11 (limit_word 0 2)) 3 11
    -- 3: as the last word
    ∷ judged (image_bytes (take 9 body_a ++ (limit_word 0 2 ∷ []))) 3 9
    -- 4: the lowest spare bit, one in the middle, the highest
    ∷ judged (replaced 3 (spare 0 (limit_word 0 2))) 4 3
    ∷ judged (replaced 3 (spare 6 (limit_word 0 2))) 4 3
    ∷ judged (replaced 3 (spare 12 (limit_word 0 2))) 4 3
    -- 5: the role
    ∷ judged (replaced 3 (limit_word 2 2)) 5 3
    -- 5: t of 0, 1, 257 and 511
    ∷ judged (replaced 3 (limit_word 0 0)) 5 3
    ∷ judged (replaced 3 (limit_word 0 1)) 5 3
    ∷ judged (replaced 3 (limit_word 0 257)) 5 3
    ∷ judged (replaced 3 (limit_word 0 511)) 5 3
    -- 3 before 4 and 5; 4 before 5
    ∷ judged (replaced 10 (spare 0 (limit_word 2 1))) 3 10
    ∷ judged (replaced 3 (spare 0 (limit_word 2 1))) 4 3
    -- 8, balance: the lowest bit of the end word, the highest of its 28; the sum with 32 exclusions drops its carries
    ∷ judged (ended_by (balance + word_of_kind 15 + 1)) 8 12
    ∷ judged (ended_by (balance + word_of_kind 15 - 2 ^ 27)) 8 12
    -- two faults of one word, the lower number: 3 before 4 and 5
    ∷ judged (replaced 10 (spare 0 (assign_word 1 0))) 3 10
    -- 4 before 5
    ∷ judged (replaced 1 (spare 0 (assign_word 1 0))) 4 1
    -- 5 before 6
    ∷ judged (replaced 1 (senior_word 2 2)) 5 1
    -- 4 before 6
    ∷ judged (replaced 11 (spare 0 (member_word 0))) 4 11
    -- 4 before 5, by n
    ∷ judged (replaced 9 (spare 0 (exclusion_word 1 1 2))) 4 9
    -- 3 before 6: a senior over itself where a member is due; a member again and not due
    ∷ judged (replaced 10 (senior_word 0 0)) 3 10
    ∷ judged (replaced 12 (member_word 0)) 3 12
    -- 3 before 7: a 17th role where a member is due; as the last word
    ∷ judged (image_bytes (ended (wide (assignments 16 ++ (exclusion_word 1 2 2 ∷ assign_word 0 16 ∷ []))))) 3 18
    ∷ judged (image_bytes (wide (assignments 17))) 3 17
    -- 4 before 7: a 17th role with a spare bit
    ∷ judged (image_bytes (ended (wide (assignments 16 ++ (spare 0 (assign_word 0 16) ∷ []))))) 4 17
    -- 5 before 7: a 17th role not below R; a 33rd exclusion with n of 1, with n above m
    ∷ judged (image_bytes (ended (wide (assignments 16 ++ (assign_word 0 17 ∷ []))))) 5 17
    ∷ judged (after_thirty_two (exclusion_word 1 1 2 ∷ [])) 5 97
    ∷ judged (after_thirty_two (exclusion_word 1 3 2 ∷ [])) 5 97
    -- two bad words, the earlier: 6 before 4, 5 before 3
    ∷ judged (edited 1 (senior_word 0 0 ∷ spare 0 (assign_word 0 0) ∷ [])) 6 1
    ∷ judged (edited 1 (assign_word 1 0 ∷ word_of_kind 8 ∷ [])) 5 1
    -- 8 last: behind 5, behind 7
    ∷ judged (unbalanced 1 (assign_word 1 0 ∷ [])) 5 1
    ∷ judged (image_bytes (wide (assignments 17) ++ (unbalancing ∷ []))) 7 17
    -- a head of kind 0, and so an image that does not balance
    ∷ judged (take 4 (image_bytes (0 ∷ [])) ++ image_bytes (drop 1 image_a)) 2 0
    -- 22, loop: of two roles
    ∷ judged (edited 1 (senior_word 0 1 ∷ senior_word 1 0 ∷ senior_word 0 1 ∷ [])) 22 0
    -- of three, with a role above it that is not on it
    ∷ judged (hierarchy_of (senior_word 0 1 ∷ senior_word 1 2 ∷ senior_word 2 3 ∷ senior_word 3 1 ∷ [])) 22 1
    -- two loops, the lowest role
    ∷ judged (hierarchy_of (senior_word 2 3 ∷ senior_word 3 2 ∷ senior_word 1 0 ∷ senior_word 0 1 ∷ [])) 22 0
    -- accepted: two ways down
    ∷ judged (hierarchy_of (senior_word 0 1 ∷ senior_word 0 2 ∷ senior_word 1 3 ∷ senior_word 2 3 ∷ [])) 0 0
    -- 8 before 22
    ∷ judged (unbalanced 1 (senior_word 0 1 ∷ senior_word 1 0 ∷ [])) 8 13
    -- 23, reach: a role over 16 others
    ∷ judged (image_bytes (ended (wide (assignments 1 ++ over_others 16)))) 23 0
    -- accepted: over 15
    ∷ judged (image_bytes (ended (wide (assignments 1 ++ over_others 15)))) 0 0
    -- 16 assigned, one of them over a further one
    ∷ judged (image_bytes (ended (wide (assignments 16 ++ (senior_word 3 16 ∷ []))))) 23 0
    -- accepted: over one of the 16
    ∷ judged (image_bytes (ended (wide (assignments 16 ++ (senior_word 3 5 ∷ []))))) 0 0
    -- the lowest user of two
    ∷ judged (image_bytes (ended (head_word 3 17 5 ∷ assign_word 1 0 ∷ assign_word 2 0 ∷ over_others 16))) 23 1
    -- accepted: nobody has the wide role
    ∷ judged (image_bytes (ended (wide (over_others 16)))) 0 0
    -- 22 before 23
    ∷ judged (image_bytes (ended (wide (assignments 1 ++ over_others 16 ++ (senior_word 5 0 ∷ []))))) 22 0
    -- 8 before 23
    ∷ judged (image_bytes (wide (assignments 1 ++ over_others 16) ++ (unbalancing ∷ []))) 8 18
    ∷ []

-- ---- the loop call

pub record Looped : Type 0 where
  pub image : List ℕ
  pub room : ℕ
  pub answer : List ℕ

-- number, extra, and the bytes that fill the answer buffer
unfoldable pub answer_of : Reply → List ℕ
answer_of r = r.number ∷ r.extra ∷ r.filled

unfoldable pub is_looped : Looped → Bool
is_looped l = same_list (answer_of (loop_call l.image l.room)) l.answer

-- the chain that an image with a loop has, in a buffer of 64 bytes
unfoldable pub chained : List ℕ → ℕ → List ℕ → Looped
chained image n bs = record { image = image; room = 64; answer = 0 ∷ n ∷ (bs ++ replicate (64 - n) 0) }

unfoldable pub unchained : List ℕ → ℕ → ℕ → ℕ → Looped
unchained image room n x = record { image = image; room = room; answer = n ∷ x ∷ [] }

unfoldable pub looped_images : List Looped
looped_images =
    chained (image_bytes loop) 3 (1 ∷ 2 ∷ 0 ∷ [])
    -- a role above a loop is not on it
    ∷ chained (hierarchy_of (senior_word 0 1 ∷ senior_word 1 2 ∷ senior_word 2 3 ∷ senior_word 3 1 ∷ [])) 3 (2 ∷ 3 ∷ 1 ∷ [])
    -- of two loops of one role the shorter, though its first role is higher; of two as short the one with the lower
    -- role
    ∷ chained (hierarchy_of (senior_word 0 1 ∷ senior_word 1 2 ∷ senior_word 2 0 ∷ senior_word 0 3 ∷ senior_word 3 0 ∷ [])) 2 (3 ∷ 0 ∷ [])
    ∷ chained (hierarchy_of (senior_word 0 2 ∷ senior_word 2 3 ∷ senior_word 2 1 ∷ senior_word 3 0 ∷ senior_word 1 0 ∷ [])) 3 (2 ∷ 1 ∷ 0 ∷ [])
    -- the lowest role on a loop, though a higher one is on a shorter
    ∷ chained (hierarchy_of (senior_word 2 3 ∷ senior_word 3 2 ∷ senior_word 2 0 ∷ senior_word 0 1 ∷ senior_word 1 3 ∷ [])) 4 (1 ∷ 3 ∷ 2 ∷ 0 ∷ [])
    -- no loop; another buffer, before that is looked for; an image that its words refuse, before the buffer
    ∷ unchained (hierarchy_of (senior_word 0 1 ∷ senior_word 0 2 ∷ senior_word 1 3 ∷ senior_word 2 3 ∷ [])) 64 20 0
    ∷ unchained (image_bytes image_a) 63 19 0
    ∷ unchained (image_bytes loop) 65 19 0
    ∷ unchained (unbalanced 1 (senior_word 0 1 ∷ senior_word 1 0 ∷ [])) 63 8 13
    ∷ []
