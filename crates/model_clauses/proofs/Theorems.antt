-- The theorems on the clauses of an ask, each one claim. The arguments stand in the files that are cited;
-- docs/PROOFS.md says which demand each one meets.
-- Assumes nothing.
use mathlib.Core.Path.{◌≡◌}
use mathlib.Core.Bool.{true}
use mathlib.Core.Logic.{◌↔◌}
use mathlib.Core.List.{List}
use Prim.Native.Nat.{ℕ, ◌^◌, ◌<◌}
use native.Mathlib.Nat.{lt_of_lt_of_le}
use lib.Pow.{pow_mono}
use Rattle.model.specs.declared.Head.{Head}
use Rattle.model.specs.declared.Line.{Line}
use Rattle.model.specs.declared.Checked.TheVariants.{Accepted}
use Rattle.model.specs.Judgement.{judge}
use Rattle.model.specs.Policy.{policy_of, meaning}
use Rattle.model.specs.Limits.{Others, unbarred}
use Rattle.model.specs.Choice.{admissible}
use Rattle.model.specs.Chosen.{Unbarred}
use Rattle.model.specs.Line.{exclusions_met}
use Rattle.model.specs.Ranges.{Each}
use Rattle.model_laws.proofs.Judgements.{accepted_in_range}
use Rattle.model_laws.proofs.Barred.{admissible-unbarred}
use Rattle.model_clauses.specs.Premises.{MayAsk, left}
use Rattle.model_clauses.specs.Satisfied.{HardIs, SoftIs, FewClauses}
use Rattle.model_clauses.specs.Texts.{TextIs, TextSmall, RoomEnough}
use Rattle.model_clauses.specs.Reading.{ReadsBack}
use Rattle.model_clauses.specs.Called.{CallSays}
use Rattle.model_clauses.proofs.Meant.{Meant, meant, left_meant}
use Rattle.model_clauses.proofs.ClauseProof
use Rattle.model_clauses.proofs.ClauseWeights
use Rattle.model_clauses.proofs.DimacsProof
use Rattle.model_clauses.proofs.DimacsSizes
use Rattle.model_clauses.proofs.RoomProof
use Rattle.model_clauses.proofs.ReadingProof
use Rattle.model_clauses.proofs.CalledProof

module _ (s : List ℕ) (h : Head) (accepted : judge s ≡ Accepted h) where
  by_policy : (u : ℕ) → Meant (meaning (policy_of s) u)
  by_policy = meant (policy_of s) (accepted_in_range s h accepted)

  left-policy : (u : ℕ) (x : Others) (l : Line) (k : ℕ) → Meant (left s u x l k)
  left-policy u = left_meant (meaning (policy_of s) u) (by_policy u)

  -- the sets that are admissible then are the admissible ones without barred roles
  pub left-admissible : (u : ℕ) (x : Others) (l : Line) (k lower upper t : ℕ)
      → (admissible (left s u x l k) l k lower upper t ≡ true)
      ↔ ((admissible (meaning (policy_of s) u) l k lower upper t ≡ true) × Unbarred (meaning (policy_of s) u) x l k t)
  left-admissible u x l k lower upper t =
      admissible-unbarred (meaning (policy_of s) u) x l k
      (lt_of_lt_of_le (by_policy u).own (pow_mono (by_policy u).roles.1)) lower upper t

  -- a buffer of `TEXT_ROOM` bytes is never too short
  pub room_enough : (W u : ℕ) → RoomEnough W (meaning (policy_of s) u)
  room_enough W u = RoomProof.room_enough W (meaning (policy_of s) u) (by_policy u)

  -- an exclusion has at most 4 times m times n clauses
  pub few_clauses : (l : Line) (k a : ℕ) → Each (FewClauses l k a) (policy_of s).exclusions
  few_clauses l k a = ClauseProof.all_few l k a (policy_of s).head.roles (policy_of s).exclusions (accepted_in_range s h accepted).exclusions

module _ (s : List ℕ) (u : ℕ) (x : Others) (l : Line) (k lower upper : ℕ) (asks : MayAsk s u l k) where
  meant_left : Meant (left s u x l k)
  meant_left = left-policy s asks.head asks.accepted u x l k

  met-left : exclusions_met (left s u x l k) l ≡ true
  unfolding exclusions_met unbarred
  met-left = asks.met

  -- the hard clauses are satisfied exactly by what says an admissible set without barred roles and what it carries
  pub hard_clauses : lower < 2 ^ (policy_of s).head.permissions → HardIs (left s u x l k) l k lower upper
  unfolding meaning unbarred
  hard_clauses low = ClauseProof.hard_is (left s u x l k) meant_left l k lower upper asks.session met-left low

  -- the soft clauses rank those sets by the objectives, and the set that answers the ask violates the least weight
  pub soft_clauses : lower < 2 ^ (policy_of s).head.permissions → (a b : ℕ) → SoftIs (left s u x l k) l k lower upper a b
  unfolding meaning unbarred
  soft_clauses low = ClauseWeights.soft_is (left s u x l k) meant_left l k lower upper asks.session met-left low

  -- the head of the clause text tells the numbers of variables and lines
  pub clause_text_lem : (a b : ℕ) → TextIs (left s u x l k) l k lower upper a b
  clause_text_lem a b = DimacsProof.text_is (left s u x l k) meant_left l k lower upper asks.session met-left a b

  -- read by a reader of the form, the text gives the head's numbers and exactly the hard and the soft clauses
  pub text_reads_back : (a b : ℕ) → ReadsBack (left s u x l k) l k lower upper a b
  text_reads_back a b = ReadingProof.reads (left s u x l k) l k lower upper a b (clause_text_lem a b)

  -- its numbers and its length are small
  pub clause_sizes : (a b : ℕ) → TextSmall (left s u x l k) l k lower upper a b
  clause_sizes = DimacsSizes.text_small (left s u x l k) meant_left l k lower upper asks.session met-left

-- at the call, for every image, ledger, user and session: what the text that is written reads back to has for its
-- models the sets that an ask may be answered with, and none exactly if an ask is answered 20
pub call_says : (W : ℕ) (image : List ℕ) → CallSays W image
call_says = CalledProof.call_says
