-- The theorems on tidy images, each one claim. The arguments stand in the files that are cited.
-- Assumes nothing.
use mathlib.Core.Path.{◌≡◌}
use mathlib.Core.Logic.{◌↔◌}
use mathlib.Core.Bool.{true}
use mathlib.Core.List.{List}
use Prim.Native.Nat.{ℕ, ◌≤◌}
use lib.Pow.{are_bytes}
use lib.ListN.{length}
use Rattle.model.specs.declared.Head.{Head}
use Rattle.model.specs.declared.Checked.TheVariants.{Accepted}
use Rattle.model.specs.Judgement.{judge}
use Rattle.model.specs.Policy.{Policy, policy_of}
use Rattle.model_tidy.specs.Groups.{Group, Acceptable}
use Rattle.model_tidy.specs.Same.{SameSets, SamePolicy, Alike}
use Rattle.model_tidy.specs.Tidy.{tidy_of, TidyOrder, TidyWords, Shared, TidyFrame, TidyRefuses}
use Rattle.model_tidy.specs.TidyCases.{TidyCases}
use Rattle.model_tidy.specs.Arranged.{TidyArranged, TidyIs}
use Rattle.model_tidy.specs.Order.{Reordered, OrderFree, Covered}
use Rattle.model_tidy.specs.OrderCases.{OrderCases}
use Rattle.model_tidy_laws.proofs.AcceptableProof
use Rattle.model_tidy_laws.proofs.SameSetsProof
use Rattle.model_tidy_laws.proofs.TidyOrderProof
use Rattle.model_tidy_laws.proofs.TidyImage
use Rattle.model_tidy_laws.proofs.TidyProof
use Rattle.model_tidy_laws.proofs.TidyArranged as TidyArrangedProof
use Rattle.model_tidy_laws.proofs.ArrangedProof
use Rattle.model_tidy_laws.proofs.TidyFrameProof
use Rattle.model_tidy_laws.proofs.TidyRefusalsProof
use Rattle.model_tidy_laws.proofs.TidyCasesProof
use Rattle.model_tidy_laws.proofs.OrderProof
use Rattle.model_tidy_laws.proofs.OrderCasesProof

-- ---- acceptance without order

-- an image is accepted with the head h exactly if its words are whole groups between that head and an end word, each
-- right by itself, and the policy's limits and the sum are kept: order has no part in it
pub acceptable_is : (s : List ℕ) (h : Head) → (judge s ≡ Accepted h) ↔ Acceptable s h
acceptable_is = AcceptableProof.acceptable_is

-- policies of accepted images are the same exactly if these have the same head, sets of assignments, grants, senior
-- pairs and exclusions, and smallest limits
pub same_policies : (s t : List ℕ) (h k : Head) → judge s ≡ Accepted h → judge t ≡ Accepted k → SamePolicy (policy_of s) (policy_of t) ↔ SameSets s t
same_policies s t h k a b = (SameSetsProof.policy_sets s t h k a b, SameSetsProof.sets_policy s t h k a b)

-- ---- order of entries

-- entries of an accepted image moved about between head and end, an exclusion together with its members, and the
-- members of an exclusion among themselves: the image is accepted with the same head, and has the same end word, policy
-- and tidy image, and every call but the clause text answers alike on every ledger, and so do whole runs
pub order_free : (s t : List ℕ) (h : Head) → judge s ≡ Accepted h → Reordered s t → OrderFree s t h
order_free = OrderProof.order_free

-- every such move is covered
pub moves_covered : (head : ℕ) (gs ks : List Group) (last : ℕ) → Covered head gs ks last
moves_covered = OrderProof.covered

-- an image and a reordered one, their clause texts, and moves that are none of these, by computation
pub order_cases : OrderCases
order_cases = OrderCasesProof.order_cases

-- ---- the tidy image of an accepted image

-- it is accepted with the same head
pub tidy_accepted : (s : List ℕ) (h : Head) → judge s ≡ Accepted h → judge (tidy_of s) ≡ Accepted h
tidy_accepted = TidyImage.tidy_accepted

-- it has the same head, sets of assignments, grants, senior pairs and exclusions, and smallest limits
pub tidy_same : (s : List ℕ) (h : Head) → judge s ≡ Accepted h → SameSets s (tidy_of s)
tidy_same s h e = SameSetsProof.policy_sets s (tidy_of s) h h e (TidyImage.tidy_accepted s h e) (TidyImage.tidy_same s h e)

-- two accepted images share it exactly if those are the same
pub shared : (s t : List ℕ) (h k : Head) → judge s ≡ Accepted h → judge t ≡ Accepted k → Shared s t
shared = TidyProof.shared

-- tidying it again changes nothing
pub tidy_again : (s : List ℕ) (h : Head) → judge s ≡ Accepted h → tidy_of (tidy_of s) ≡ tidy_of s
tidy_again = TidyProof.tidy_again

-- check, open, close, ask, short ask, show, explain and obstacle answer alike on the image and on its tidy one, and so
-- do whole runs
pub tidy-alike : (s : List ℕ) (h : Head) → judge s ≡ Accepted h → Alike s (tidy_of s)
tidy-alike = TidyProof.tidy-alike

-- it has no more bytes, and so no more words, than the image
pub tidy_short : (s : List ℕ) (h : Head) → judge s ≡ Accepted h → length (tidy_of s) ≤ length s
tidy_short = TidyImage.tidy_short

-- each of its sorts of entries is ascending by its fields, and nothing stands twice
pub tidy_order_lem : (p : Policy) → TidyOrder p
tidy_order_lem = TidyOrderProof.tidy_order_lem

-- its whole entries are arranged: each comes before all behind it, by sort and then by its fields, and the members of
-- each by role
pub tidy_arranged : (s : List ℕ) (h : Head) → judge s ≡ Accepted h → TidyArranged s h
tidy_arranged = TidyArrangedProof.tidy_arranged

-- and an accepted image so arranged is its own tidy image: tidy images are exactly these
pub tidy_is : (s : List ℕ) (h : Head) → judge s ≡ Accepted h → are_bytes s ≡ true → TidyIs s h
tidy_is = ArrangedProof.tidy_is

-- ---- the call

-- a tidy image is whole words
pub tidy-words : (p : Policy) → TidyWords p
tidy-words = TidyImage.tidy-words

-- a refused call changes no byte of the buffer, and a call that is done none beyond the tidy image; its extra counts
-- the words
pub tidy_frame : (s out : List ℕ) → TidyFrame s out
tidy_frame = TidyFrameProof.tidy_frame

-- it refuses as a check does, then by 19 a buffer smaller than the tidy image, and leaves every byte of the buffer then
pub tidy-refuses : (s out : List ℕ) → TidyRefuses s out
tidy-refuses = TidyRefusalsProof.tidy-refuses

-- jumbled images with their tidy image, and calls, by computation
pub tidy-cases : TidyCases
tidy-cases = TidyCasesProof.tidy-cases
