-- The loop call: the lowest role that stands below itself, shown by a shortest chain of senior words from it down and
-- back to it.
-- Assumes nothing.
use Rattle.std.specs.Prelude.{true, false, List, [], ◌∷◌, ◌++◌, ℕ, zero, suc, ◌-◌, ◌^◌, eqb, get_or, length, replicate}
use Rattle.std.proofs.Math.Option.{Option, none, some}
use Rattle.model.specs.declared.Checked.{Checked}
use Rattle.model.specs.declared.Checked.TheVariants.{Accepted, Refused}
use Rattle.model.specs.Tests.{lowest}
use Rattle.model.specs.Sets.{has, inter, meets, set_of}
use Rattle.model.specs.Image.{judge_words}
use Rattle.model.specs.Policy.{Policy, policy_of}
use Rattle.model.specs.Session.{Reply, refuse}
use Rattle.model.specs.Judgement.{lowest_on_loop}

-- ---- the chain

-- the roles that stand directly over a role of s, by the table of direct juniors
unfoldable pub seniors_of : List ℕ → ℕ → ℕ
seniors_of juniors s = set_of (λ a. meets (get_or juniors a 0) s) 64

-- the roles from which a chain of k senior words leads down to role r
unfoldable pub level : List ℕ → ℕ → ℕ → ℕ
level juniors r zero = 2 ^ r
level juniors r (suc k) = seniors_of juniors (level juniors r k)

-- how many senior words the shortest chain of at least one has, from role r down and back to it
unfoldable pub loop_length : List ℕ → ℕ → ℕ
loop_length juniors r = lowest (λ n. has (level juniors r n) r) 1 64

-- a chain of k senior words from role a down to role r, a itself left out: each role the lowest junior from which one
-- leads on
unfoldable pub chain_down : List ℕ → ℕ → ℕ → ℕ → List ℕ
chain_down juniors r a zero = []
chain_down juniors r a (suc k) =
    let b = lowest (has (inter (get_or juniors a 0) (level juniors r k))) 0 64 in
    b ∷ chain_down juniors r b k

-- ---- the call

-- done: the chain, a byte a role, zeros after it up to 64 bytes, and its length as the extra
unfoldable pub shown_chain : List ℕ → Reply
shown_chain bs = record { number = 0; extra = length bs; filled = bs ++ replicate (64 - length bs) 0 }

-- 20 where no role stands below itself
unfoldable pub loop_from : Policy → Option ℕ → Reply
loop_from p (some r) = shown_chain (chain_down p.juniors r r (loop_length p.juniors r))
loop_from p none = refuse 20 0

-- 19 where the answer buffer has not 64 bytes
unfoldable pub loop_on : Policy → ℕ → Reply
loop_on p room = elim (eqb room 64) [ true ↦ loop_from p (lowest_on_loop p) | false ↦ refuse 19 0 ]

-- an image that its words refuse ends the call
unfoldable pub loop_by : Checked → Policy → ℕ → Reply
loop_by (Refused n place) p room = refuse n place
loop_by (Accepted h) p room = loop_on p room

-- the loop call, given the bytes of an image and the answer buffer's length
unfoldable pub loop_call : List ℕ → ℕ → Reply
loop_call image room = loop_by (judge_words image) (policy_of image) room
