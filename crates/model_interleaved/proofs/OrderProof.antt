-- The two runs of specs/OrderMatters.antt, by computation from the bytes of the image.
-- Assumes nothing.
use mathlib.Core.Path.{◌≡◌, refl, sym, ap, ◌∙◌}
use mathlib.Core.Bool.{false}
use mathlib.Core.List.{List, [], ◌∷◌, map}
use Prim.Native.Nat.{ℕ, zero, suc}
use native.Mathlib.Omega.{arith}
use lib.Dec.{eqb}
use lib.ListN.{get_or, replicate}
use borrow.Author.Tests.{ne_eqb}
use Rattle.model.specs.declared.Head.{Head}
use Rattle.model.specs.Words.{limit_word}
use Rattle.model.specs.Line.{SESSIONS}
use Rattle.model.specs.Session.{Result}
use Rattle.model.specs.Run.{Call, open_by}
use Rattle.model.specs.Independence.{Run, events_of, calls_of, seen_by, view_of}
use Rattle.model.specs.Computing.{computing}
use Rattle.model_runs.specs.Ends.{last_ledger, left_by}
use Rattle.model_interleaved.specs.Beside.{zeroed, alone_with, SameCalls}
use Rattle.model_interleaved.specs.OrderMatters.{on_call, asks, one_first, other_first, OrderMatters}

two_users : Head
two_users = record { users = 2; roles = 1; permissions = 1 }

in_order : List Call → Run SESSIONS
unfolding computing limit_word two_users on_call
in_order calls = record { image = on_call; head = two_users; accepted = refl; ledger = replicate 288 0; fits = refl; calls = calls }

-- the answer numbers that a user sees
abbrev told : ℕ → Run SESSIONS → List ℕ
told u r = map (λ (e : Result). e.reply.number) (view_of SESSIONS u r)

-- a call of another user is struck out
skip : (u : ℕ) (c : Call) (cs : List Call) → eqb c.user u ≡ false → calls_of u (c ∷ cs) ≡ calls_of u cs
unfolding calls_of
skip u c cs t = rw (t, calls_of)

-- each user makes the same calls, one who makes none too
same_calls : (u : ℕ) → calls_of u one_first ≡ calls_of u other_first
unfolding computing calls_of asks one_first other_first
same_calls zero = refl
same_calls (suc zero) = refl
same_calls (suc (suc u)) =
    let a = ne_eqb 0 (suc (suc u)) (λ e. omega arith) in
    let b = ne_eqb 1 (suc (suc u)) (λ e. omega arith) in
    let n = suc (suc u) in
    let opens : (cs : List Call) → calls_of n (open_by 0 ∷ open_by 1 ∷ cs) ≡ calls_of n cs =
    λ cs. skip n (open_by 0) (open_by 1 ∷ cs) a ∙ skip n (open_by 1) cs b in
    opens (asks 0 ∷ asks 1 ∷ []) ∙ skip n (asks 0) (asks 1 ∷ []) a ∙ skip n (asks 1) [] b
    ∙ sym (opens (asks 1 ∷ asks 0 ∷ []) ∙ skip n (asks 1) (asks 0 ∷ []) b ∙ skip n (asks 0) [] a)

same : SameCalls SESSIONS (in_order one_first) (in_order other_first)
unfolding in_order
same = record { image = refl; ledger = refl; calls = same_calls }

-- the second answer of each user
seen : (u : ℕ) → told u (in_order one_first) ≡ told u (in_order other_first) → get_or (told u (in_order one_first)) 1 0 ≡ get_or
    (told u (in_order other_first)) 1 0
seen u e = ap (λ (l : List ℕ). get_or l 1 0) e

first_differs : ¬ (view_of SESSIONS 0 (in_order one_first) ≡ view_of SESSIONS 0 (in_order other_first))
unfolding computing limit_word two_users in_order on_call asks one_first other_first events_of seen_by view_of
first_differs h =
    let e : ◌≡◌ {A = ℕ} 0 20 = seen 0 (ap (λ (l : List Result). map (λ (e : Result). e.reply.number) l) h) in omega arith

second_differs : ¬ (view_of SESSIONS 1 (in_order one_first) ≡ view_of SESSIONS 1 (in_order other_first))
unfolding computing limit_word two_users in_order on_call asks one_first other_first events_of seen_by view_of
second_differs h =
    let e : ◌≡◌ {A = ℕ} 20 0 = seen 1 (ap (λ (l : List Result). map (λ (e : Result). e.reply.number) l) h) in omega arith

-- byte 16 of the ledger: what is active in the first user's session
left_differs : ¬ (left_by SESSIONS (in_order one_first) ≡ left_by SESSIONS (in_order other_first))
unfolding computing limit_word two_users in_order on_call asks one_first other_first events_of last_ledger left_by
left_differs h = let e : ◌≡◌ {A = ℕ} 1 0 = ap (λ (l : List ℕ). get_or l 16 0) h in omega arith

pub order_matters : OrderMatters
unfolding computing limit_word two_users in_order on_call asks one_first other_first events_of last_ledger left_by zeroed alone_with
order_matters =
    record {
      one = in_order one_first;
      other = in_order other_first;
      images = refl;
      ledgers = refl;
      lists = (refl, refl);
      same = same;
      numbers = refl;
      other_numbers = refl;
      seen = (first_differs, second_differs);
      left = left_differs;
      beside = refl;
      alone = refl;
    }
