-- The theorems, each one claim. The arguments stand in the files that are cited; docs/PROOFS.md says which demand each
-- one meets.
-- Assumes nothing.
use mathlib.Core.Path.{◌≡◌, sym}
use mathlib.Core.Logic.{◌↔◌}
use mathlib.Core.Bool.{true, false}
use mathlib.Core.List.{List, [], ◌∷◌, ◌++◌}
use Prim.Native.Nat.{ℕ, ◌^◌, ◌≤◌, ◌<◌}
use lib.ListN.{get_or, length, take}
use Rattle.model.specs.declared.Head.{Head}
use Rattle.model.specs.declared.Exclusion.{Exclusion}
use Rattle.model.specs.declared.Entry.{Entry}
use Rattle.model.specs.declared.Entry.TheVariants.{Exclude}
use Rattle.model.specs.declared.Line.{Line}
use Rattle.model.specs.declared.Checked.TheVariants.{Accepted}
use Rattle.model.specs.Tests.{is_some}
use Rattle.model.specs.Sets.{has, count}
use Rattle.model.specs.Judgement.{judge}
use Rattle.model.specs.Policy.{Meaning, policy_of, entries_of, with_members, reached, carried_table, granter, authorized, has_limits, meaning, Agree}
use Rattle.model.specs.Limits.{Others, unbarred}
use Rattle.model.specs.OwnWords.{own_words}
use Rattle.model.specs.Choice.{carried_by, admissible}
use Rattle.model.specs.Line.{line_size, exclusions_met}
use Rattle.model.specs.Session.{Query, explanation}
use Rattle.model.specs.Read.{ReadOff}
use Rattle.model.specs.Chains.{Chain, Authorized, Carries, GranterIs}
use Rattle.model.specs.Obstacles.{ObstacleIs, AsksTwenty}
use Rattle.model.specs.Explained.{ExplanationIs}
use Rattle.model.specs.Ordered.{FewRoles, JudgeIs, Antisymmetric, LoopCallIs}
use Rattle.model.specs.Ranges.{InRange}
use Rattle.model.specs.Chosen.{ChoiceIs, Unbarred, ChosenIs, RankIs}
use Rattle.model.specs.Conditions.{Solution, Admitted, Permitted}
use Rattle.model.specs.Independence.{Run, told_of, SameFor, Independent}
use Rattle.model.specs.Kept.{LineKept, RunKept}
use Rattle.model.specs.Frames.{LineBytes, StepFrame, ShowKeeps, ExplainKeeps, ObstacleKeeps, ClausesKeep, AnswerKeepsLength, TextsKeep, SessionFrames}
use Rattle.model.specs.Moves.{Resized, move, MoveIs}
use Rattle.model_laws.proofs.Tables
use Rattle.model_laws.proofs.Accepted
use Rattle.model_laws.proofs.Closure
use Rattle.model_laws.proofs.Reaches
use Rattle.model_laws.proofs.Judgements
use Rattle.model_laws.proofs.OrderedProof
use Rattle.model_laws.proofs.ExplainedProof
use Rattle.model_laws.proofs.Ranks
use Rattle.model_laws.proofs.Choices
use Rattle.model_laws.proofs.Barred
use Rattle.model_laws.proofs.ConditionsProof
use Rattle.model_laws.proofs.AdmittedProof
use Rattle.model_laws.proofs.ObstacleProof
use Rattle.model_laws.proofs.TwentyProof
use Rattle.model_laws.proofs.IndependenceProof
use Rattle.model_laws.proofs.KeptProof
use Rattle.model_laws.proofs.RoundTrip
use Rattle.model_laws.proofs.FramesProof
use Rattle.model_laws.proofs.SessionFrameProof
use Rattle.model_laws.proofs.AnswerProof
use Rattle.model_laws.proofs.MetLaws
use Rattle.model_laws.proofs.Padding
use Rattle.model_laws.proofs.MovesProof

-- ---- the order of role sets

-- better is by the counts of permissions and of roles under the two objectives, then by the lower set number
pub rank_is : (m : Meaning) → RankIs m
rank_is = Ranks.rank_is

-- ---- policies

-- a policy is what the words of its image say
pub read_off : (s : List ℕ) → ReadOff s
read_off = Tables.read_off

-- an image is refused by 22 exactly where its words pass and a role is on a loop, with the lowest such role, and then
-- by 23 exactly where a user may activate more than 16 roles, with the lowest such user
pub judge_is : (s : List ℕ) → JudgeIs s
judge_is = Judgements.judge_is

-- the loop call shows the shortest loop of that role, the lowest of those as short; 20 exactly if there is none
pub loop-call-is : (s : List ℕ) → LoopCallIs s
loop-call-is = OrderedProof.loop-call

module _ (s : List ℕ) (h : Head) (accepted : judge s ≡ Accepted h) where
  -- an accepted policy has the head's numbers, and is in range
  pub head_is : (policy_of s).head ≡ h
  head_is = Judgements.accepted-head s h accepted

  pub in-range : InRange (policy_of s)
  in-range = Judgements.accepted_in_range s h accepted

  -- its seniority is an order: two roles reached from each other are the same role
  pub antisymmetric : Antisymmetric (policy_of s)
  antisymmetric = OrderedProof.antisymmetric (policy_of s) (Judgements.loopless s h accepted)

  -- an exclusion word with m is followed by member words that name m different roles
  pub members_are_m : (before : List Entry) (x : Exclusion) (m : ℕ) (after : List Entry) → entries_of s ≡ before ++ (Exclude x m ∷ after)
      → count 64 (with_members x (take m after)).members ≡ m
  members_are_m = Accepted.words-members s h (Judgements.words_pass s h accepted)

  -- the closed table is chains of senior words; what a role and a set of roles carry is 001's π
  pub reached_is : (a b : ℕ) → a < 64 → (has (get_or (reached (policy_of s)) a 0) b ≡ true) ↔ Chain (policy_of s) a b
  reached_is = Closure.reached_is (policy_of s) in-range

  pub carried_is : (r m : ℕ) → r < 64 → (has (get_or (carried_table (policy_of s)) r 0) m ≡ true) ↔ Carries (policy_of s) r m
  carried_is = Closure.carried_is (policy_of s) in-range

  -- the roles that a user may activate are those that chains of senior words lead to from an assigned one, and at most
  -- 16
  pub authorized_is : (u r : ℕ) → (has (authorized (policy_of s) u) r ≡ true) ↔ Authorized (policy_of s) u r
  authorized_is = Reaches.authorized_is (policy_of s) in-range

  pub few_authorized : (u : ℕ) → FewRoles (policy_of s) u
  few_authorized = Judgements.few_authorized s h accepted

  -- the granting role is named exactly if the role carries the permission; the name is that of the lowest role that is
  -- reached and holds the grant
  pub granter_is : (r m : ℕ) → r < 64 → GranterIs (policy_of s) r m
  granter_is = Closure.granter_is (policy_of s) in-range

  pub carried-named : (r m : ℕ) → has (get_or (carried_table (policy_of s)) r 0) m ≡ is_some (granter (policy_of s) m r)
  carried-named = Closure.carried-named (policy_of s) in-range

  -- what a show fills in: a permission of a set of roles is one that has a granting role for some role of the set
  pub shown-named : (u t m : ℕ) → has (carried_by (meaning (policy_of s) u) t) m ≡ is_some (explanation (granter (policy_of s) m) t)
  unfolding meaning carried_by
  shown-named u t m = sym (ExplainedProof.set-named (policy_of s) in-range t m)

  -- an explain names the lowest role of a set that carries the permission, with its granting role
  pub explanation_is : (t m : ℕ) → t < 2 ^ 64 → ExplanationIs (policy_of s) t m
  explanation_is = ExplainedProof.explanation_is (policy_of s) in-range

  -- ---- the choice: demand 2

  -- the choice is the one admissible set that none is better than, and none exactly if no set is admissible
  pub choice_is : (u : ℕ) (l : Line) (k lower upper a b : ℕ) → ChoiceIs (meaning (policy_of s) u) l k lower upper a b
  choice_is u l k lower upper a b =
      Choices.choice (meaning (policy_of s) u) l k lower upper a b (unfold meaning in (AdmittedProof.own_below (policy_of s) in-range u))

  -- an ask is answered with the one best admissible set without barred roles, and with none exactly if there is no such
  -- set
  pub chosen_is : (u : ℕ) (x : Others) (l : Line) (k : ℕ) (q : Query) → ChosenIs (meaning (policy_of s) u) x l k q
  chosen_is u x l k q = Barred.chosen_is (meaning (policy_of s) u) x l k (unfold meaning in (AdmittedProof.own_below (policy_of s) in-range u)) q

  -- under a policy without limits nothing is barred: it is answered with `choose`
  pub unlimited_choice : has_limits (policy_of s) ≡ false → (u : ℕ) (x : Others) (l : Line) (k : ℕ)
      → unbarred (meaning (policy_of s) u) x l k ≡ meaning (policy_of s) u
  unlimited_choice e u x l k =
      unfold meaning has_limits in
      (Barred.unlimited_choice (meaning (policy_of s) u) x l k (AdmittedProof.own_below (policy_of s) in-range u) (Barred.none_limited (policy_of s).limits e))

  module _ (u : ℕ) (l : Line) (k lb ub t : ℕ) (open_k : k < length l.sessions) where
    -- admissible is 001's conditions 1 to 6
    pub admissible_is : (admissible (meaning (policy_of s) u) l k lb ub t ≡ true) ↔ Admitted (policy_of s) u l k lb ub t
    admissible_is = AdmittedProof.admissible_is (policy_of s) in-range u l k lb ub t open_k

    -- on a line where every exclusion is met, as on a sound one, they are 001's as they stand there, condition 6 for
    -- session k alone
    pub solution_is : exclusions_met (meaning (policy_of s) u) l ≡ true
        → (admissible (meaning (policy_of s) u) l k lb ub t ≡ true) ↔ Solution (policy_of s) u l k lb ub t
    solution_is = ConditionsProof.solution (policy_of s) u l k lb ub t open_k

    -- admissible without barred roles is those conditions and 001's CARD
    pub permitted_is : (x : Others)
        → ((admissible (meaning (policy_of s) u) l k lb ub t ≡ true) × Unbarred (meaning (policy_of s) u) x l k t) ↔ Permitted (policy_of s) u x l k lb ub t
    permitted_is = AdmittedProof.permitted_is (policy_of s) in-range u l k lb ub t open_k

  -- an obstacle tells what stands in the way, and nothing exactly if some set is permitted
  pub obstacle_is : (u : ℕ) (x : Others) (l : Line) (k lb ub : ℕ) → lb < 2 ^ 256 → k < length l.sessions → ObstacleIs (policy_of s) u x l k lb ub
  obstacle_is = ObstacleProof.obstacle_is (policy_of s) in-range

  -- ---- soundness is kept

  -- exclusions pass to smaller counts, the zero line is sound, and every call on a sound line leaves a sound line
  pub line_kept : (W : ℕ) → W ≤ 64 → (u : ℕ) → LineKept W (meaning (policy_of s) u)
  line_kept W wide u = KeptProof.accepted_kept W wide s h accepted u

  -- a run from the zero ledger never gives 11
  pub run_kept : (W : ℕ) → W ≤ 64 → RunKept W s
  run_kept W wide = KeptProof.run_kept W wide s h accepted

-- an ask is refused by 20 exactly if the obstacle with its bounds is done, under any image and on any ledger
pub asks_twenty : (W : ℕ) (image : List ℕ) → AsksTwenty W image
asks_twenty = TwentyProof.asks_twenty

-- ---- independence: demand 3

-- two runs that are the same for a user tell that user the same, which is what the session rules give: clause texts too
-- where the words of the images are the same, and every other call without that
pub independence : (W u : ℕ) (r s : Run W) → SameFor W u r s → Independent W u r s
independence = IndependenceProof.independence

-- under a policy without limits a user is told nothing, and nothing is asked of two runs in that
pub untold : (W u : ℕ) (r : Run W) → has_limits (policy_of r.image) ≡ false → told_of W u r ≡ []
untold = IndependenceProof.untold

pub untold_same : (W u : ℕ) (r s : Run W) → Agree u (policy_of r.image) (policy_of s.image) → has_limits (policy_of r.image) ≡ false
    → told_of W u r ≡ told_of W u s
untold_same = IndependenceProof.untold_same

-- images that are the same words, other users' assignments and the end word left out, have policies that agree: for a
-- clause text the independence rule asks for no more than the words
pub same_words_agree : (u : ℕ) (s t : List ℕ) (g h : Head) → judge s ≡ Accepted g → judge t ≡ Accepted h → u < 64 → own_words u s ≡ own_words u t
    → Agree u (policy_of s) (policy_of t)
same_words_agree = IndependenceProof.same_words_agree

-- ---- bytes

-- a line and its bytes determine each other
pub line_bytes_lem : (W : ℕ) → LineBytes W
line_bytes_lem = RoundTrip.line_bytes_lem

-- a call changes no byte outside its user's line, and a refused one no byte at all
pub step_frame : (W : ℕ) → StepFrame W
step_frame = FramesProof.step_frame

pub show_keeps : (W : ℕ) → ShowKeeps W
show_keeps = FramesProof.show_keeps

pub explain_keeps : (W : ℕ) (image ledger : List ℕ) (u k n : ℕ) → ExplainKeeps W image ledger u k n
explain_keeps = FramesProof.explain_keeps

pub obstacle_keeps : (W : ℕ) → ObstacleKeeps W
obstacle_keeps = FramesProof.obstacle_keeps

pub clauses_keep : (W : ℕ) → ClausesKeep W
clauses_keep = FramesProof.clauses_keep

pub answer_keeps_length : (W : ℕ) → AnswerKeepsLength W
answer_keeps_length = AnswerProof.answer_keeps_length

pub texts_keep : (W : ℕ) → TextsKeep W
texts_keep = AnswerProof.texts_keep

-- a call changes no byte of another session
pub session_frame : (W : ℕ) → SessionFrames W
session_frame = SessionFrameProof.session_frame

-- ---- moves between ledgers of F and of W sessions a user

-- a line of F sessions with zero sessions behind it is sound for more exactly if it is sound for F
pub resized_is : (F : ℕ) → 0 < F → (s : List ℕ) (u : ℕ) (bs : List ℕ) → length bs ≡ line_size F → Resized F (meaning (policy_of s) u) bs
resized_is F pos s u bs fits = Padding.resizing F pos (meaning (policy_of s) u) (MetLaws.meaning_antitone (policy_of s) u) bs fits

-- a move that is done makes sound lines with the same bytes and the same shows, and the move back is done and gives the
-- ledger back
pub move_is : (F W : ℕ) → 0 < F → (image old new : List ℕ) → MoveIs F W image old new (move F W image old new)
move_is = MovesProof.moves
