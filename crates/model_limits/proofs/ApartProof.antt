-- The two runs of specs/Apart.antt are the same for user 0, by computation from the bytes of the images.
-- Assumes nothing.
use mathlib.Core.Path.{◌≡◌, refl, sym, ap, ◌∙◌}
use mathlib.Core.Bool.{Bool, false, not}
use mathlib.Core.Option.{none}
use mathlib.Core.List.{List, [], ◌∷◌, map}
use Prim.Native.Nat.{ℕ, zero, suc}
use lib.Dec.{eqb, lit<}
use lib.ListN.{get_or, replicate}
use Rattle.model.specs.declared.Head.{Head}
use Rattle.model.specs.Tests.{pick}
use Rattle.model.specs.Policy.{Policy, policy_of, limited, excludes, Agree}
use Rattle.model.specs.Words.{limit_word}
use Rattle.model.specs.Line.{SESSIONS}
use Rattle.model.specs.Limits.{nobody}
use Rattle.model.specs.Run.{held_by_others, others_of}
use Rattle.model.specs.Independence.{Run, events_of, seen_by, view_of, SameFor, calls_of, first_line, told_by, told_of}
use Rattle.model_limits.specs.Apart.{one_image, other_image, idle, one_ledger, other_ledger, asks, one_list, other_list, ApartLimited}
use Rattle.model.specs.Computing.{computing}

three_users_lem : Head
three_users_lem = record { users = 3; roles = 2; permissions = 1 }

one : Run SESSIONS
unfolding computing three_users_lem limit_word one_image one_ledger
one = record { image = one_image; head = three_users_lem; accepted = refl; ledger = one_ledger; fits = refl; calls = one_list }

other : Run SESSIONS
unfolding computing three_users_lem limit_word other_image idle other_ledger
other = record { image = other_image; head = three_users_lem; accepted = refl; ledger = other_ledger; fits = refl; calls = other_list }

agree : Agree 0 (policy_of one_image) (policy_of other_image)
unfolding computing excludes limit_word one_image other_image
agree = record { heads = refl; own = refl; grants = refl; seniors = refl; exclusions = λ x. refl; limits = refl }

-- ---- what the asks are told

-- of a role without a limit, nothing
held_unlimited : (W u : ℕ) (p : Policy) (l : List ℕ) (r : ℕ) → limited p.limits r ≡ false → (others_of W p u l).held r ≡ 0
unfolding others_of pick
held_unlimited W u p l r e = ap (λ (b : Bool). pick b (held_by_others W p u l r) 0) e

zeros : (n i : ℕ) → ◌≡◌ {A = ℕ} (get_or (replicate n 0) i 0) 0
zeros zero i = refl
zeros (suc n) zero = refl
zeros (suc n) (suc i) = zeros n i

-- role 0 alone has a limit
unlimited : (r : ℕ) → limited (policy_of one_image).limits (suc r) ≡ false
unfolding computing limit_word one_image
unlimited r = ap (λ (t : ℕ). not (eqb t 0)) (zeros 63 r)

-- the ledger after a call of a run
after : Run SESSIONS → ℕ → List ℕ
after r n = get_or (map (λ e. e.ledger) (events_of SESSIONS r)) n []

-- what the user is told of a role held, after so many calls
abbrev held_in : Run SESSIONS → ℕ → ℕ → ℕ
held_in r n = (others_of SESSIONS (policy_of r.image) 0 (after r n)).held

-- that goes by role 0
held_same : (n m : ℕ) → held_in one n 0 ≡ held_in other m 0 → (r : ℕ) → held_in one n r ≡ held_in other m r
unfolding one other
held_same n m e zero = e
held_same n m e (suc r) =
    held_unlimited SESSIONS 0 (policy_of one_image) (after one n) (suc r) (unlimited r)
    ∙ sym
    (held_unlimited SESSIONS 0 (policy_of other_image) (after other m) (suc r) (ap (λ (t : List ℕ). limited t (suc r)) (sym agree.limits) ∙ unlimited r))

first-held : (r : ℕ) → held_in one 2 r ≡ held_in other 4 r
unfolding computing one other limit_word events_of idle asks one_image other_image one_ledger other_ledger one_list other_list after
first-held = held_same 2 4 refl

second_held : (r : ℕ) → held_in one 8 r ≡ held_in other 10 r
unfolding computing one other limit_word events_of idle asks one_image other_image one_ledger other_ledger one_list other_list after
second_held = held_same 8 10 refl

told_same : told_of SESSIONS 0 one ≡ told_of SESSIONS 0 other
unfolding computing one other limit_word told_of told_by events_of idle asks one_image other_image one_ledger other_ledger one_list other_list after
told_same = λ i.
    nobody ∷ record { held = λ r. first-held r i; unsound = none } ∷ nobody ∷ nobody ∷ nobody ∷ nobody
    ∷ record { held = λ r. second_held r i; unsound = none } ∷ []

same_for_user : SameFor SESSIONS 0 one other
unfolding computing one other three_users_lem calls_of first_line idle asks one_ledger other_ledger one_list other_list
same_for_user = record { agree = agree; below = lit< tt; line = refl; calls = refl; told = told_same }

-- ---- the pair

pub apart_limited : ApartLimited
unfolding computing one other limit_word view_of seen_by told_of told_by events_of idle asks one_image other_image one_ledger other_ledger one_list other_list
apart_limited =
    record {
      one = one;
      other = other;
      images = (refl, refl);
      ledgers = (refl, refl);
      calls = (refl, refl);
      limits = refl;
      same = same_for_user;
      held = refl;
      answers = refl;
      numbers = (refl, refl);
    }
