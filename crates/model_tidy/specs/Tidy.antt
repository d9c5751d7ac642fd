-- The tidy image of a policy: head, assignments, grants, seniors, exclusions, limits, each sort ascending by its fields
-- and without repeats, a limit for each role that has one.
-- Assumes nothing.
use Rattle.std.specs.Prelude.{◌≡◌, refl, ◌↔◌, true, not, List, [], ◌∷◌, ◌++◌, map, ℕ, zero, suc, ◌+◌, ◌*◌, ◌/◌, ◌≤◌, ◌<◌, ltb, eqb, length, get_or, take, drop, replicate}
use Rattle.model.specs.declared.Head.{Head}
use Rattle.model.specs.declared.Kind.{Kind}
use Rattle.model.specs.declared.Kind.TheVariants.{SsDmer, MsDmer}
use Rattle.model.specs.declared.Exclusion.{Exclusion}
use Rattle.model.specs.declared.Checked.{Checked}
use Rattle.model.specs.declared.Checked.TheVariants.{Accepted, Refused}
use Rattle.model.specs.Tests.{pick, earlier}
use Rattle.model.specs.Bytes.{bytes_of}
use Rattle.model.specs.Sets.{has, count, count_to, one}
use Rattle.model.specs.Words.{head_word, assign_word, grant_word, senior_word, exclusion_word, member_word, limit_word, sum_of, end_word, ended, image_bytes}
use Rattle.model.specs.Policy.{Policy, policy_of, kind_number, before, insert, sorted}
use Rattle.model.specs.Judgement.{judge}
use Rattle.model_register.specs.AsCheck.{Passes, RefusesAsCheck}
use Rattle.model.specs.Ranges.{Ascending, LimitsInRange}
use Rattle.model.specs.Computing.{computing}
use Rattle.model_tidy.specs.Groups.{Group, spread}
use Rattle.model_tidy.specs.Same.{SameSets}

-- ---- groups

-- the members of s below d, ascending
unfoldable pub members_to : ℕ → ℕ → List ℕ
members_to zero s = []
members_to (suc d) s = members_to d s ++ pick (has s d) (d ∷ []) []

-- those of the set 5
pub members_of_five : members_to 3 5 ≡ 0 ∷ 2 ∷ []
unfolding members_to has pick
members_of_five = refl

abbrev pub single : ℕ → Group
single w = record { word = w; members = [] }

-- a word for each member below d of each row, where the first row has number i
unfoldable pub table_groups : (ℕ → ℕ → ℕ) → ℕ → ℕ → List ℕ → List Group
table_groups word d i [] = []
table_groups word d i (row ∷ rows) = map (λ j. single (word i j)) (members_to d row) ++ table_groups word d (suc i) rows

unfoldable pub exclusion_group : Exclusion → Group
exclusion_group x =
    record {
      word = exclusion_word (kind_number x.kind) x.n (count 64 x.members);
      members = map member_word (members_to 64 x.members);
    }

-- the roles 0 and 1 exclude each other, by a kind and an n
abbrev pub both_of : Kind → ℕ → Exclusion
both_of kind n = record { kind = kind; n = n; members = 3 }

-- the roles that have a limit, as a table of one column
unfoldable pub limited_rows : List ℕ → List ℕ
limited_rows limits = map (λ t. one (not (eqb t 0))) limits

-- a word for each of them, with its limit
unfoldable pub limit_groups : List ℕ → List Group
limit_groups limits = table_groups (λ r j. limit_word r (get_or limits r 0)) 1 0 (limited_rows limits)

unfoldable pub tidy_groups : Policy → List Group
tidy_groups p =
    table_groups assign_word 64 0 p.assigned
    ++ (table_groups grant_word 256 0 p.granted
    ++ (table_groups senior_word 64 0 p.juniors ++ (map exclusion_group (sorted p.exclusions) ++ limit_groups p.limits)))

-- one user with role 1, a grant of each of two roles, role 1 over role 0, two exclusions of the two and a limit on role
-- 1
abbrev pub two_roles : Policy
two_roles =
    record {
      head = record { users = 1; roles = 2; permissions = 2 };
      assigned = 2 ∷ [];
      granted = 2 ∷ 1 ∷ [];
      juniors = 0 ∷ 1 ∷ [];
      exclusions = both_of MsDmer 2 ∷ both_of SsDmer 2 ∷ [];
      limits = 0 ∷ 3 ∷ [];
    }

-- role 0's grant first, though its permission is higher; the exclusions by kind, and the limit behind them
pub two_roles_spread : spread (tidy_groups two_roles)
    ≡ assign_word 0 1 ∷ grant_word 0 1 ∷ grant_word 1 0 ∷ senior_word 1 0 ∷ exclusion_word 0 2 2 ∷ member_word 0 ∷ member_word 1
    ∷ exclusion_word 1 2 2 ∷ member_word 0 ∷ member_word 1 ∷ limit_word 1 3 ∷ []
unfolding spread tidy_groups table_groups members_to has pick exclusion_group count count_to sorted insert before earlier kind_number limit_groups limited_rows
two_roles_spread = refl

-- ---- the image

-- the words before the end word
unfoldable pub tidy_words : Policy → List ℕ
tidy_words p = head_word p.head.users p.head.roles p.head.permissions ∷ spread (tidy_groups p)

unfoldable pub tidy : Policy → List ℕ
tidy p = image_bytes (ended (tidy_words p))

-- a policy with a head and no entries
abbrev pub bare : Head → Policy
bare h = record { head = h; assigned = []; granted = []; juniors = []; exclusions = []; limits = [] }

-- its end word balances the head
pub bare_balanced : tidy (bare (record { users = 1; roles = 1; permissions = 1 })) ≡ image_bytes (head_word 1 1 1 ∷ end_word (head_word 1 1 1) ∷ [])
unfolding tidy tidy_words ended sum_of head_word spread tidy_groups table_groups sorted limit_groups limited_rows
bare_balanced = refl

-- the tidy image of an image
unfoldable pub tidy_of : List ℕ → List ℕ
tidy_of s = tidy (policy_of s)

-- ---- the call

-- what a call that writes a buffer leaves: its number, its extra, and the buffer
pub record Written : Type 0 where
  pub number : ℕ
  pub extra : ℕ
  pub out : List ℕ

-- a refused image ends the call there; 19 for a buffer smaller than the tidy image; else the image in front of what was
-- there, and the number of words written
unfoldable pub tidy_by : Checked → Policy → List ℕ → Written
tidy_by (Refused n place) p out = record { number = n; extra = place; out = out }
tidy_by (Accepted h) p out =
    let done : Written = record { number = 0; extra = length (tidy p) / 4; out = tidy p ++ drop (length (tidy p)) out } in
    pick (ltb (length out) (length (tidy p))) (record { number = 19; extra = 0; out = out }) done

-- head and end are two words
pub bare_extra : (h : Head) → (tidy_by (Accepted h) (bare (record { users = 1; roles = 1; permissions = 1 })) (replicate 8 7)).extra ≡ 2
unfolding tidy_by pick tidy tidy_words ended sum_of image_bytes bytes_of spread tidy_groups table_groups sorted limit_groups limited_rows
bare_extra h = refl

unfoldable pub tidy_call : List ℕ → List ℕ → Written
tidy_call image out = tidy_by (judge image) (policy_of image) out

-- two roles each over the other are refused by 22, whatever the buffer
pub loop-refused : (tidy_call (image_bytes (ended (head_word 1 2 1 ∷ senior_word 0 1 ∷ senior_word 1 0 ∷ []))) []).number ≡ 22
unfolding computing tidy_call tidy_by
loop-refused = refl

-- ---- the claims

-- the bytes of a tidy image are four for each word: the head, those of the groups, and the end
abbrev pub TidyWords : Policy → Type 0
TidyWords p = length (tidy p) ≡ 4 * (2 + length (spread (tidy_groups p)))

-- ascending, and so nothing repeated: words of one kind as numbers, which is by their fields; exclusions by kind, n and
-- member set; the member words of each exclusion; limit words in range
pub record TidyOrder (p : Policy) : Type 0 where
  pub assignments : Ascending ◌<◌ (spread (table_groups assign_word 64 0 p.assigned))
  pub grants : Ascending ◌<◌ (spread (table_groups grant_word 256 0 p.granted))
  pub seniors : Ascending ◌<◌ (spread (table_groups senior_word 64 0 p.juniors))
  pub exclusions : Ascending (λ x y. before x y ≡ true) (sorted p.exclusions)
  pub members : (x : Exclusion) → Ascending ◌<◌ (exclusion_group x).members
  pub limits : LimitsInRange p.head.roles p.limits → Ascending ◌<◌ (spread (limit_groups p.limits))

-- two accepted images share their tidy image exactly if head, sets of assignments, grants, senior pairs and exclusions,
-- and smallest limits are the same
abbrev pub Shared : List ℕ → List ℕ → Type 0
Shared s t = (tidy_of s ≡ tidy_of t) ↔ SameSets s t

-- what a call leaves of the buffer: its length, every byte where it is refused, and every byte beyond the tidy image
pub record TidyFrame (s out : List ℕ) : Type 0 where
  pub keeps_length : length (tidy_call s out).out ≡ length out
  pub refused : ¬ ((tidy_call s out).number ≡ 0) → (tidy_call s out).out ≡ out
  pub beyond : (i : ℕ) → length (tidy_of s) ≤ i → get_or (tidy_call s out).out i 0 ≡ get_or out i 0
  -- where it is done, the tidy image stands in front, and the extra counts its words
  pub front : (tidy_call s out).number ≡ 0 → take (length (tidy_of s)) (tidy_call s out).out ≡ tidy_of s
  pub counted : (tidy_call s out).number ≡ 0 → 4 * (tidy_call s out).extra ≡ length (tidy_of s)

-- how the call is answered, beside the register: it refuses as a check does, whatever the buffer; then by 19 with extra
-- 0 exactly if the buffer is smaller than the tidy image; it is done exactly if neither is so; and a call that is not
-- done leaves every byte of the buffer
pub record TidyRefuses (s out : List ℕ) : Type 0 where
  pub check : RefusesAsCheck s (tidy_call s out).number (tidy_call s out).extra
  pub room : ((tidy_call s out).number ≡ 19) ↔ (Passes s × (length out < length (tidy_of s)))
  pub room_extra : (tidy_call s out).number ≡ 19 → (tidy_call s out).extra ≡ 0
  pub done : ((tidy_call s out).number ≡ 0) ↔ (Passes s × (length (tidy_of s) ≤ length out))
  pub untouched : ¬ ((tidy_call s out).number ≡ 0) → (tidy_call s out).out ≡ out
