-- The two histories of specs/Apart.antt are the same for user 0, by computation from the bytes of the images.
-- Assumes nothing.
use mathlib.Core.Path.{refl}
use mathlib.Core.List.{[], ◌∷◌}
use Prim.Native.Nat.{ℕ}
use native.Mathlib.Omega.{arith}
use Rattle.model.specs.declared.Head.{Head}
use Rattle.model.specs.Policy.{policy_of, excludes, Agree}
use Rattle.model.specs.Line.{SESSIONS}
use Rattle.model.specs.Independence.{Run, events_of, seen_by, view_of, calls_of, first_line, told_of}
use Rattle.model.specs.Computing.{computing}
use Rattle.model_runs.specs.Ends.{last_ledger, left_by}
use Rattle.model_runs.specs.Histories.{grown, History, runs_of, SamePart, SameThroughout}
use Rattle.model_runs.specs.Apart.{one_before, one_after, other_before, other_after, asks, one_ledger, other_ledger, one_calls, one_later, other_calls, other_later, ApartThroughout}
use Rattle.model_runs.proofs.HistoriesProof.{next}

-- ---- the runs

heads : ℕ → Head
heads users = record { users = users; roles = 2; permissions = 1 }

one-start : Run SESSIONS
unfolding computing heads one_before one_ledger
one-start = record { image = one_before; head = heads 2; accepted = refl; ledger = one_ledger; fits = refl; calls = one_calls }

other_start : Run SESSIONS
unfolding computing heads other_before other_ledger
other_start = record { image = other_before; head = heads 2; accepted = refl; ledger = other_ledger; fits = refl; calls = other_calls }

one_later_lem : Run SESSIONS
unfolding computing heads one_after one-start
one_later_lem = next SESSIONS one-start one_after (heads 3) refl (omega arith) one_later

other_later_lem : Run SESSIONS
unfolding computing heads other_after other_start
other_later_lem = next SESSIONS other_start other_after (heads 3) refl (omega arith) other_later

-- ---- the histories

one : History SESSIONS
unfolding one-start one_later_lem heads
one =
    record { start = one-start; later = one_later_lem ∷ []; followed = (record { users = omega arith; ledger = refl }, tt) }

other : History SESSIONS
unfolding other_start other_later_lem heads
other =
    record { start = other_start; later = other_later_lem ∷ []; followed = (record { users = omega arith; ledger = refl }, tt) }

-- ---- they are the same for the user

agree_start : Agree 0 (policy_of one_before) (policy_of other_before)
unfolding computing excludes one_before other_before
agree_start = record { heads = refl; own = refl; grants = refl; seniors = refl; exclusions = λ x. refl; limits = refl }

agree_later : Agree 0 (policy_of one_after) (policy_of other_after)
unfolding computing excludes one_after other_after
agree_later = record { heads = refl; own = refl; grants = refl; seniors = refl; exclusions = λ x. refl; limits = refl }

same_start : SamePart SESSIONS 0 one-start other_start
unfolding computing one-start other_start calls_of told_of one_before other_before asks one_calls other_calls
same_start = record { agree = agree_start; calls = refl; told = refl }

same_later : SamePart SESSIONS 0 one_later_lem other_later_lem
unfolding computing one_later_lem other_later_lem calls_of told_of one_after other_after asks one_later other_later
same_later = record { agree = agree_later; calls = refl; told = refl }

same : SameThroughout SESSIONS 0 one other
unfolding computing one other one-start other_start heads runs_of first_line one_ledger other_ledger
same = record { line = refl; pairs = (same_start, (same_later, tt)) }

pub apart_throughout : ApartThroughout
unfolding computing one other one-start other_start one_later_lem other_later_lem heads runs_of view_of seen_by events_of last_ledger left_by grown
    one_before one_after other_before other_after asks one_ledger other_ledger one_calls one_later other_calls other_later
apart_throughout =
    record {
      one = one;
      other = other;
      images = (refl, refl);
      ledgers = (refl, refl);
      calls = (refl, refl);
      same = same;
      answers = refl;
      numbers = refl;
    }
