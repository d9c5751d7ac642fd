-- Where the extra of each case is one, and what is done is one event, one event answers.
-- Assumes nothing.
use mathlib.Core.Path.{◌≡◌, ap, sym, ◌∙◌}
use mathlib.Core.Logic.{inl, inr}
use mathlib.Core.List.{List, [], ◌∷◌}
use Prim.Native.Nat.{ℕ}
use Rattle.model.specs.Run.{Event}
use Rattle.model_register.specs.Calls.{Case, refusal, Answers}

-- where a case holds, its extra is one
abbrev pub One : List Case → Type 0
One [] = Unit {0}
One (c ∷ cs) = ((a b : ℕ) → c.holds a → c.holds b → a ≡ b) × One cs

-- none of the cases holds
abbrev pub NoneOf : List Case → Type 0
NoneOf [] = Unit {0}
NoneOf (c ∷ cs) = ((a : ℕ) → ¬ c.holds a) × NoneOf cs

pub one_event : (ledger : List ℕ) (cs : List Case) (Done : Event → Type 0) (e f : Event) → One cs → (NoneOf cs → Done e → Done f → e ≡ f)
    → Answers ledger cs Done e → Answers ledger cs Done f → e ≡ f
one_event ledger [] Done e f o d a b = d tt a b
one_event ledger (c ∷ cs) Done e f o d (inl (i, v, w)) (inl (j, x, y)) = w ∙ ap (refusal ledger c.number) (o.0 i j v x) ∙ sym y
one_event ledger (c ∷ cs) Done e f o d (inl (i, v, w)) (inr (n, b)) = absurd (n i v)
one_event ledger (c ∷ cs) Done e f o d (inr (n, a)) (inl (j, x, y)) = absurd (n j x)
one_event ledger (c ∷ cs) Done e f o d (inr (n, a)) (inr (k, b)) = one_event ledger cs Done e f o.1 (λ z. d (n, z)) a b

-- an extra that is always 0 is one
pub zeros : {H : Type 0} (a b : ℕ) → (a ≡ 0) × H → (b ≡ 0) × H → a ≡ b
zeros a b v w = v.0 ∙ sym w.0
