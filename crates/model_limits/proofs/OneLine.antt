-- An open, a close, a show and an explain look at one line: they take no account of what they are told of other users.
-- Assumes nothing.
use mathlib.Core.Path.{◌≡◌, refl, sym}
use mathlib.Core.Bool.{Bool, true, false, true≢false}
use mathlib.Core.Option.{some}
use mathlib.Core.List.{List, [], ◌∷◌}
use Prim.Native.Nat.{ℕ}
use Rattle.model.specs.Tests.{first}
use Rattle.model.specs.Policy.{Meaning}
use Rattle.model.specs.Limits.{Others}
use Rattle.model.specs.Session.{Operation, open_session, close_session, ask, short_ask, show, explain, obstacle, clauses, is_ask, refuse, Result, Refusal, bad_line, bad_session, is_closed, is_full, bad_room, not_below, not_carried, refusal_number, can_give, applies, perform, refusal_extra, unless, rule}
use Rattle.model.specs.Ranges.{Each}

-- two tests that agree on the refusals of a list, whose extras agree, refuse alike
module _ (x y : Others) (f g : Refusal → Bool) (bs : List ℕ) (r : Result) where
  abbrev Alike : Refusal → Type 0
  Alike e = (f e ≡ g e) × (refusal_extra x e ≡ refusal_extra y e)

  same_refusal : (es : List Refusal) → Each Alike es → unless x (first f es) bs r ≡ unless y (first g es) bs r
  unfolding first unless
  same_refusal [] q = refl
  same_refusal (e ∷ es) q = go (f e) (g e) q.0.0 (same_refusal es q.1)
    where
      go : (a b : Bool) → a ≡ b → unless x (first f es) bs r ≡ unless y (first g es) bs r
          → unless x (elim a [ true ↦ some e | false ↦ first f es ]) bs r ≡ unless y (elim b [ true ↦ some e | false ↦ first g es ]) bs r
      go true true p ih = λ i. record { reply = refuse (refusal_number e) (q.0.1 i); line = bs }
      go true false p ih = absurd (true≢false p)
      go false true p ih = absurd (true≢false (sym p))
      go false false p ih = ih

-- only an ask, an obstacle or a clause text takes account of what it is told
pub one_line : (W : ℕ) (m : Meaning) (x y : Others) (bs : List ℕ) (op : Operation) → is_ask op ≡ false → rule W m x bs op ≡ rule W m y bs op
unfolding rule is_ask perform can_give applies refusal_extra
one_line W m x y bs open_session e = same_refusal x y _ _ bs _ (bad_line ∷ is_full ∷ []) ((refl, refl), ((refl, refl), tt))
one_line W m x y bs (close_session k) e =
    same_refusal x y _ _ bs _ (bad_line ∷ bad_session ∷ is_closed ∷ []) ((refl, refl), ((refl, refl), ((refl, refl), tt)))
one_line W m x y bs (ask k q) e = absurd (true≢false e)
one_line W m x y bs (short_ask k lower upper room) e = absurd (true≢false e)
one_line W m x y bs (show k room) e =
    same_refusal x y _ _ bs _ (bad_line ∷ bad_session ∷ is_closed ∷ bad_room ∷ []) ((refl, refl), ((refl, refl), ((refl, refl), ((refl, refl), tt))))
one_line W m x y bs (explain k n) e =
    same_refusal x y _ _ bs _ (bad_line ∷ bad_session ∷ is_closed ∷ not_below n ∷ not_carried n ∷ [])
    ((refl, refl), ((refl, refl), ((refl, refl), ((refl, refl), ((refl, refl), tt)))))
one_line W m x y bs (obstacle k lower upper room) e = absurd (true≢false e)
one_line W m x y bs (clauses k q) e = absurd (true≢false e)
