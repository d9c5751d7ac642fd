-- The sessions in which a role is active, one line after the other.
-- Assumes nothing.
use mathlib.Core.Path.{◌≡◌, refl, ap, ◌∙◌}
use mathlib.Core.Bool.{Bool}
use mathlib.Core.List.{List}
use Prim.Native.Nat.{ℕ, ◌+◌, ◌≤◌, ◌<◌}
use native.Mathlib.Numerals.{add-one}
use native.Mathlib.Omega.{arith}
use lib.Dec.{eqb}
use lib.ListN.{length, get_or, set, drop, drop_of_length-le}
use lib.Seq.{drop-cons}
use borrow.Author.Tests.{eqb-true}
use borrow.Table.Steps.{cases}
use Rattle.model.specs.declared.Session.{Session}
use Rattle.model.specs.declared.Line.{Line}
use Rattle.model.specs.Tests.{pick}
use Rattle.model.specs.Sets.{has, one, sum_to}
use Rattle.model.specs.Line.{SESSIONS, holding, others}
use Rattle.model.specs.Run.{line_of, holding_of}
use Rattle.model_laws.proofs.UnionLaws.{has_none}
use Rattle.model_laws.proofs.Barred.{holding-set}
use Rattle.limits_held.specs.Held.{held_but}

-- session k without its roles is not counted
pub holding_emptied : (r : ℕ) (ss : List Session) (k : ℕ) → k < length ss → holding r (set ss k (record { active = 0; history = 0 })) ≡ holding r (others k ss)
holding_emptied r ss k h =
    let e = holding-set r ss k (record { active = 0; history = 0 }) h ∙ ap (λ (b : Bool). one b + holding r (others k ss)) (has_none r) in
    omega (arith, e)

-- the sessions from k on
pub holding-next : (r : ℕ) (ss : List Session) (d : Session) (k : ℕ) → k < length ss
    → holding r (drop k ss) ≡ one (has (get_or ss k d).active r) + holding r (drop (k + 1) ss)
unfolding holding
holding-next r ss d k h = rw (add-one k) (ap (holding r) (drop-cons ss k d h))

pub holding_end : (r : ℕ) (ss : List Session) (k : ℕ) → length ss ≤ k → holding r (drop k ss) ≡ 0
unfolding holding
holding_end r ss k h = rw (drop_of_length-le ss h)

-- one user more
pub sum-next : (f : ℕ → ℕ) (n : ℕ) → sum_to f (n + 1) ≡ f n + sum_to f n
unfolding sum_to
sum-next f n = rw (add-one n)

pub sum_none : (f : ℕ → ℕ) → sum_to f 0 ≡ 0
unfolding sum_to
sum_none f = refl

-- what a user's line adds
pub held-step : (ledger : List ℕ) (u k r v : ℕ) (l : Line) → l ≡ line_of SESSIONS ledger v
    → pick (eqb v u) (holding r (others k l.sessions)) (holding r l.sessions) ≡ held_but ledger u k r v
unfolding held_but holding_of pick
held-step ledger u k r v l e =
    cases (eqb v u)
    (λ q. rw q (ap (λ (x : Line). holding r (others k x.sessions)) (e ∙ ap (line_of SESSIONS ledger) (eqb-true v u q))))
    (λ q. rw q (ap (λ (x : Line). holding r x.sessions) e))
