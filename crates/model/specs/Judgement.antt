-- The judgement of an image: by its words first (specs/Image.antt), then by what they mean together.
-- Assumes nothing.
use Rattle.std.proofs.Math.Option.{Option, none, some}
use Rattle.std.specs.Prelude.{List, ℕ, ltb, get_or}
use Rattle.model.specs.declared.Checked.{Checked}
use Rattle.model.specs.declared.Checked.TheVariants.{Accepted, Refused}
use Rattle.model.specs.Tests.{lowest, if_below}
use Rattle.model.specs.Sets.{has, count}
use Rattle.model.specs.Image.{judge_words}
use Rattle.model.specs.Policy.{Policy, policy_of, below_table, authorized}

-- the lowest role that stands below itself
unfoldable pub lowest_on_loop : Policy → Option ℕ
lowest_on_loop p = let rows = below_table p in if_below p.head.roles (lowest (λ r. has (get_or rows r 0) r) 0 p.head.roles)

-- the lowest user who may activate more than 16 roles
unfoldable pub lowest_over_reach : Policy → Option ℕ
lowest_over_reach p = if_below p.head.users (lowest (λ u. ltb 16 (count 64 (authorized p u))) 0 p.head.users)

-- refused by n with the number that there is, else judged further
unfoldable pub refusing : ℕ → Option ℕ → Checked → Checked
refusing n (some x) v = Refused n x
refusing n none v = v

-- 22, loop: a role stands below itself; the lowest such role. 23, reach: a user may activate more than 16 roles; the
-- lowest such user
unfoldable pub judge_meaning : Policy → Checked → Checked
judge_meaning p (Refused n place) = Refused n place
judge_meaning p (Accepted h) = refusing 22 (lowest_on_loop p) (refusing 23 (lowest_over_reach p) (Accepted h))

-- 1 to 8 with a place, then 22 with a role, then 23 with a user
unfoldable pub judge : List ℕ → Checked
judge s = judge_meaning (policy_of s) (judge_words s)
