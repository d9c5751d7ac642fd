-- Seniority is an order, and no user's reach is too wide: which images 22 and 23 refuse, what is so of those accepted,
-- and what the loop call shows.
-- Assumes nothing.
use Rattle.std.specs.Prelude.{◌≡◌, ◌↔◌, List, ◌++◌, ℕ, suc, ◌-◌, ◌≤◌, ◌<◌, get_or, length, replicate}
use Rattle.model.specs.declared.Head.{Head}
use Rattle.model.specs.declared.Checked.TheVariants.{Accepted, Refused}
use Rattle.model.specs.Image.{judge_words}
use Rattle.model.specs.Sets.{count}
use Rattle.model.specs.Policy.{Policy, policy_of, authorized}
use Rattle.model.specs.Session.{refuse}
use Rattle.model.specs.Judgement.{judge}
use Rattle.model.specs.Loop.{loop_call}
use Rattle.model.specs.Run.{answered}
use Rattle.model.specs.Chains.{Chain, roles_of, Below, LowestOnLoop}

-- the image's words pass the refusals 1 to 8
abbrev pub WordsPass : List ℕ → Type 0
WordsPass s = (h : Head) × (judge_words s ≡ Accepted h)

-- ---- 22 and 23

-- no role is on a loop
abbrev pub Loopless : Policy → Type 0
Loopless p = (r : ℕ) → ¬ Below p r r

-- user u may activate at most 16 roles
abbrev pub FewRoles : Policy → ℕ → Type 0
FewRoles p u = count 64 (authorized p u) ≤ 16

-- user u may activate more, and no lower user may
pub record LowestOverReach (p : Policy) (u : ℕ) : Type 0 where
  pub wide : ¬ FewRoles p u
  pub lowest : (v : ℕ) → v < u → FewRoles p v

-- an image is refused by 22 with r exactly if its words pass and r is the lowest role on a loop, by 23 with u exactly
-- if its words pass, no role is on a loop and u is the lowest user with more than 16 roles, and accepted exactly if its
-- words pass and none is so
pub record JudgeIs (s : List ℕ) : Type 0 where
  pub by_loop : (r : ℕ) → (judge s ≡ Refused 22 r) ↔ (WordsPass s × LowestOnLoop (policy_of s) r)
  pub by_reach : (u : ℕ) → (judge s ≡ Refused 23 u) ↔ (WordsPass s × Loopless (policy_of s) × LowestOverReach (policy_of s) u)
  pub accepted : (h : Head)
      → (judge s ≡ Accepted h) ↔ ((judge_words s ≡ Accepted h) × Loopless (policy_of s) × ((u : ℕ) → FewRoles (policy_of s) u))

-- two roles reached from each other are the same role
abbrev pub Antisymmetric : Policy → Type 0
Antisymmetric p = (a b : ℕ) → Chain p a b → Chain p b a → a ≡ b

-- ---- the loop call

-- at the first place where the two lists differ, bs has the lower number
abbrev pub NotAbove : List ℕ → List ℕ → Type 0
NotAbove bs cs = (i : ℕ) → ((j : ℕ) → j < i → get_or bs j 0 ≡ get_or cs j 0) → get_or bs i 0 ≤ get_or cs i 0

-- bs are the roles of a chain of senior words from role r down and back to it, r itself last and nowhere before; none
-- of at least one word is shorter, and of those as short none is lower
pub record ShortestLoop (p : Policy) (r : ℕ) (bs : List ℕ) : Type 0 where
  pub chain : Chain p r r
  pub roles : roles_of chain ≡ bs
  pub last : (i : ℕ) → i < length bs → (get_or bs i 0 ≡ r) ↔ (suc i ≡ length bs)
  pub shortest : (q : Chain p r r) → 1 ≤ length (roles_of q) → length bs ≤ length (roles_of q)
  pub lowest : (q : Chain p r r) → length (roles_of q) ≡ length bs → NotAbove bs (roles_of q)
  -- at least one word, and no more than the answer buffer has bytes
  pub size : (1 ≤ length bs) × (length bs ≤ 64)

-- the answer shows the shortest loop of the lowest role on a loop: its length, its roles, and zeros after them
pub record Shown (s : List ℕ) : Type 0 where
  pub role : ℕ
  pub bytes : List ℕ
  pub is_lowest : LowestOnLoop (policy_of s) role
  pub is_shortest : ShortestLoop (policy_of s) role bytes
  pub answer : loop_call s 64 ≡ record { number = 0; extra = length bytes; filled = bytes ++ replicate (64 - length bytes) 0 }

pub record LoopCallIs (s : List ℕ) : Type 0 where
  -- it refuses by 1 to 8 with the place, whatever the buffer
  pub by_words : (n place room : ℕ) → judge_words s ≡ Refused n place → loop_call s room ≡ refuse n place
  -- then by 19 a buffer of any length but 64
  pub by_room : WordsPass s → (room : ℕ) → ¬ (room ≡ 64) → loop_call s room ≡ refuse 19 0
  -- then by 20 exactly if no role is on a loop
  pub by_none : WordsPass s → ((loop_call s 64).number ≡ 20) ↔ Loopless (policy_of s)
  -- and else it shows a loop
  pub shows : WordsPass s → (r : ℕ) → Below (policy_of s) r r → Shown s
  -- the answer buffer keeps its length
  pub keeps_length : (buffer : List ℕ) → length (answered buffer (loop_call s (length buffer))) ≡ length buffer
