-- The theorems on runs, each one claim. The arguments stand in the files that are cited; docs/PROOFS.md says which
-- demand each one meets.
-- Assumes nothing.
use mathlib.Core.Path.{◌≡◌}
use mathlib.Core.Bool.{true}
use mathlib.Core.List.{List}
use Prim.Native.Nat.{ℕ, ◌*◌, ◌≤◌}
use lib.ListN.{length}
use Rattle.model.specs.declared.Head.{Head}
use Rattle.model.specs.declared.Checked.TheVariants.{Accepted}
use Rattle.model.specs.Tests.{all}
use Rattle.model.specs.Judgement.{judge}
use Rattle.model.specs.Policy.{policy_of}
use Rattle.model.specs.Line.{line_size}
use Rattle.model.specs.Independence.{Run}
use Rattle.model_runs.specs.Histories.{Follows, CanFollow, LinesOver, WithoutLine, History, SameThroughout, IndependentThroughout}
use Rattle.model_stopped.specs.Stopped.{StoppedIs, StoppedStays}
use Rattle.model_runs.specs.Register.{StoppedAre}
use Rattle.model_stopped.specs.StoppedCases.{answers_so, stopped_cases}
use Rattle.model_runs.specs.Apart.{ApartThroughout}
use Rattle.model_runs.proofs.Strangers
use Rattle.model_runs.proofs.HistoriesProof
use Rattle.model_runs.proofs.StoppedProof
use Rattle.model_runs.proofs.RegisterProof
use Rattle.model_runs.proofs.ApartProof
use Rattle.model_runs.proofs.Cases

-- ---- one after the other

-- the independence rule over changes of the policy: histories that are pairwise the same for a user tell that user the
-- same throughout
pub independence_throughout : (W u : ℕ) (h k : History W) → SameThroughout W u h k → IndependentThroughout W u h k
independence_throughout = HistoriesProof.histories

-- two histories that differ in all that others may change are the same for a user
pub apart_throughout : ApartThroughout
apart_throughout = ApartProof.apart_throughout

-- every run may be followed under every accepted image with no fewer users
pub can_follow : (W : ℕ) (r : Run W) → CanFollow W r
can_follow = HistoriesProof.can_follow

-- lines are kept over a change, and added users start from zero; before that they are refused by 10
pub lines-over : (W : ℕ) (r s : Run W) → Follows W r s → LinesOver W r s
lines-over = HistoriesProof.lines-over

pub without-line : (W : ℕ) (r : Run W) → WithoutLine W r
without-line = Strangers.without-line

-- the stopped call tells whose open is refused by 11
pub stopped_is : (W : ℕ) (s : List ℕ) (h : Head) → judge s ≡ Accepted h → (ledger : List ℕ) → length ledger ≡ line_size W * (policy_of s).head.users
    → StoppedIs W s ledger
stopped_is = StoppedProof.stopped_is

-- and that stays so: every later call of such a user is refused by 11, and under a policy without limits none of any
-- other user's
pub stopped_stays : (W : ℕ) → W ≤ 64 → (r : Run W) → StoppedStays W r
stopped_stays = StoppedProof.stopped_stays

-- as a check, 9 and 19: its answer is the one that the register says, and no other
pub stopped_are : (W : ℕ) (s ledger : List ℕ) → StoppedAre W s ledger
stopped_are = RegisterProof.stopped_are

-- listed cases of the stopped call, by computation from the bytes of images
pub stopped_cases_lem : all answers_so stopped_cases ≡ true
stopped_cases_lem = Cases.stopped_so
