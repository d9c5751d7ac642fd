-- The two runs of specs/Apart.antt are the same for user 0, by computation from the bytes of the images.
-- Assumes nothing.
use mathlib.Core.Path.{◌≡◌, refl, ap}
use mathlib.Core.Bool.{Bool, true, false, ◌||◌}
use mathlib.Core.List.{List, [], ◌∷◌, map}
use Prim.Native.Nat.{ℕ}
use native.Mathlib.Omega.{arith}
use lib.Dec.{ltb, lit<}
use lib.ListN.{get_or}
use borrow.Author.Tests.{ltb-true}
use Rattle.model.specs.declared.Head.{Head}
use Rattle.model.specs.declared.Kind.TheVariants.{MsDmer}
use Rattle.model.specs.Policy.{policy_of, only_for, excludes, same_exclusion, Agree}
use Rattle.model.specs.Line.{SESSIONS}
use Rattle.model.specs.Independence.{Run, events_of, seen_by, view_of, SameFor, SameWords, calls_of, first_line, told_of}
use Rattle.model_cases.specs.Apart.{third_asks, one_image, other_image, one_ledger, other_ledger, one_list, other_list, Apart, moved_image, clause_text, ApartText}
use Rattle.model.specs.OwnWords.{words_from, entry_of, is_own, words_with, own_words}
use Rattle.model.specs.Session.{Result}
use Rattle.model.specs.Run.{open_by, close_by}
use Rattle.model_cases.specs.Ward.{opens}
use Rattle.model_cases.proofs.Computing.{listing}

three_users_lem : Head
three_users_lem = record { users = 3; roles = 2; permissions = 5 }

one : Run SESSIONS
unfolding listing three_users_lem one_image one_ledger one_list
one = record { image = one_image; head = three_users_lem; accepted = refl; ledger = one_ledger; fits = refl; calls = one_list }

other : Run SESSIONS
unfolding listing three_users_lem other_image other_ledger other_list
other = record { image = other_image; head = three_users_lem; accepted = refl; ledger = other_ledger; fits = refl; calls = other_list }

-- a test once or twice
twice : (b : Bool) → (b || false) ≡ (b || (b || false))
twice true = refl
twice false = refl

agree : Agree 0 (policy_of one_image) (policy_of other_image)
unfolding listing excludes one_image other_image
agree =
    record {
      heads = refl;
      own = refl;
      grants = refl;
      seniors = refl;
      exclusions = λ x. twice (same_exclusion (record { kind = MsDmer; n = 2; members = 3 }) x);
      limits = refl;
    }

same_for_user : SameFor SESSIONS 0 one other
unfolding listing one other three_users_lem calls_of first_line told_of one_image other_image one_ledger other_ledger one_list other_list clause_text third_asks
same_for_user = record { agree = agree; below = lit< tt; line = refl; calls = refl; told = refl }

numbers : map (λ e. e.reply.number) (events_of SESSIONS other) ≡ 11 ∷ 0 ∷ 0 ∷ 11 ∷ 0 ∷ 0 ∷ 0 ∷ 10 ∷ 0 ∷ 13 ∷ 0 ∷ 11 ∷ []
unfolding listing events_of other other_image other_ledger other_list clause_text third_asks
numbers = refl

-- the length of the text, by which the views differ: an exclusion said twice is written twice
text_length : List Result → ℕ
text_length rs = get_or (map (λ r. r.reply.extra) rs) 2 0

longer : ltb (text_length (view_of SESSIONS 0 one)) (text_length (view_of SESSIONS 0 other)) ≡ true
unfolding listing view_of seen_by events_of one other one_image one_ledger one_list other_image other_ledger other_list clause_text third_asks text_length
longer = refl

differ : ¬ (view_of SESSIONS 0 one ≡ view_of SESSIONS 0 other)
differ e =
    omega
    (arith, ltb-true (text_length (view_of SESSIONS 0 one)) (text_length (view_of SESSIONS 0 other)) longer, ap text_length e)

fed : (only_for 0 (policy_of one_image)).assigned ≡ (only_for 0 (policy_of other_image)).assigned
unfolding listing only_for one_image other_image
fed = refl

pub apart : Apart
unfolding one other
apart =
    record {
      one = one;
      other = other;
      images = (refl, refl);
      ledgers = (refl, refl);
      calls = (refl, refl);
      same = same_for_user;
      fed = fed;
      numbers = numbers;
      differ = differ;
    }

-- ---- with a clause text

one_text : Run SESSIONS
unfolding listing three_users_lem one_image one_ledger clause_text
one_text = record { image = one_image; head = three_users_lem; accepted = refl; ledger = one_ledger; fits = refl; calls = opens ∷ clause_text ∷ [] }

other_text : Run SESSIONS
unfolding listing three_users_lem moved_image other_ledger clause_text third_asks
other_text =
    record {
      image = moved_image;
      head = three_users_lem;
      accepted = refl;
      ledger = other_ledger;
      fits = refl;
      calls = open_by 1 ∷ opens ∷ open_by 2 ∷ close_by 1 0 ∷ third_asks 1 ∷ clause_text ∷ [];
    }

agree_text : Agree 0 (policy_of one_image) (policy_of moved_image)
unfolding listing excludes one_image moved_image
agree_text = record { heads = refl; own = refl; grants = refl; seniors = refl; limits = refl; exclusions = λ x. refl }

same_text : SameFor SESSIONS 0 one_text other_text
unfolding listing one_text other_text three_users_lem calls_of first_line told_of one_image moved_image one_ledger other_ledger clause_text third_asks
same_text = record { agree = agree_text; below = lit< tt; line = refl; calls = refl; told = refl }

same_words : SameWords SESSIONS 0 one_text other_text
unfolding listing one_text other_text words_from entry_of is_own words_with own_words one_image moved_image
same_words _ = refl

pub apart_text : ApartText
unfolding one_text other_text
apart_text =
    record {
      one = one_text;
      other = other_text;
      images = (refl, refl);
      ledgers = (refl, refl);
      calls = (refl, refl);
      same = same_text;
      words = same_words;
    }
