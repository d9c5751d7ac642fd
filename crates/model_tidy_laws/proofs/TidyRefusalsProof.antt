-- The refusals of the call that writes a tidy image.
-- Assumes nothing.
use mathlib.Core.Path.{◌≡◌, refl, sym, ap, ◌∙◌, subst}
use mathlib.Core.Logic.{◌⊎◌, inl, inr}
use mathlib.Core.Bool.{Bool, true, false}
use mathlib.Core.List.{List}
use Prim.Native.Nat.{ℕ, ◌≤◌, ◌<◌}
use native.Mathlib.Omega.{arith}
use lib.Dec.{ltb}
use lib.ListN.{length}
use borrow.Author.Tests.{ltb-true, ltb-false, lt-ltb, le-ltb}
use Rattle.model.specs.declared.Head.{Head}
use Rattle.model.specs.declared.Checked.{Checked}
use Rattle.model.specs.declared.Checked.TheVariants.{Accepted, Refused}
use Rattle.model.specs.Tests.{pick}
use Rattle.model.specs.Policy.{policy_of}
use Rattle.model.specs.Judgement.{judge}
use Rattle.model_register.specs.AsCheck.{Passes}
use Rattle.model_register.proofs.AsCheckProof.{Else, as_check, passes_is, refused_else, else-0-19}
use Rattle.model_tidy.specs.Tidy.{tidy, tidy_of, Written, tidy_by, tidy_call, TidyRefuses}
use Rattle.model_tidy_laws.proofs.TidyFrameProof.{tidy_frame}

module _ (s out : List ℕ) where
  refused : (n x : ℕ) → judge s ≡ Refused n x → tidy_call s out ≡ record { number = n; extra = x; out = out }
  unfolding tidy_call tidy_by
  refused n x e = ap (λ v. tidy_by v (policy_of s) out) e

  short : (h : Head) → judge s ≡ Accepted h → length out < length (tidy_of s) → tidy_call s out ≡ record { number = 19; extra = 0; out = out }
  unfolding tidy_call tidy_by tidy_of pick
  short h e l = ap (λ v. tidy_by v (policy_of s) out) e ∙ rw (lt-ltb (length out) (length (tidy (policy_of s))) l)

  wide : (h : Head) → judge s ≡ Accepted h → length (tidy_of s) ≤ length out → (tidy_call s out).number ≡ 0
  unfolding tidy_call tidy_by tidy_of pick
  wide h e l = ap (λ v. (tidy_by v (policy_of s) out).number) e ∙ rw (le-ltb (length out) (length (tidy (policy_of s))) l)

  -- an accepted image: 19 or done, by the buffer
  by_size : (h : Head) → judge s ≡ Accepted h
      → ((length out < length (tidy_of s)) × ((tidy_call s out).number ≡ 19) × ((tidy_call s out).extra ≡ 0))
      ⊎ ((length (tidy_of s) ≤ length out) × ((tidy_call s out).number ≡ 0))
  by_size h e = go (ltb (length out) (length (tidy_of s))) refl
    where
      go : (b : Bool) → ltb (length out) (length (tidy_of s)) ≡ b
          → ((length out < length (tidy_of s)) × ((tidy_call s out).number ≡ 19) × ((tidy_call s out).extra ≡ 0))
          ⊎ ((length (tidy_of s) ≤ length out) × ((tidy_call s out).number ≡ 0))
      go true q =
          let l = ltb-true (length out) (length (tidy_of s)) q in
          inl (l, ap (λ (w : Written). w.number) (short h e l), ap (λ (w : Written). w.extra) (short h e l))
      go false q = let l = ltb-false (length out) (length (tidy_of s)) q in inr (l, wide h e l)

  -- a refused image has neither number
  not_refused : (n x : ℕ) → judge s ≡ Refused n x → ¬ (((tidy_call s out).number ≡ 0) ⊎ ((tidy_call s out).number ≡ 19))
  not_refused n x e z =
      refused_else s n x e (subst Else (ap (λ (w : Written). w.number) (refused n x e)) (else-0-19 (tidy_call s out).number z))

  accepted_by : ((tidy_call s out).number ≡ 0) ⊎ ((tidy_call s out).number ≡ 19) → (h : Head) × (judge s ≡ Accepted h)
  accepted_by z = go (judge s) refl
    where
      go : (v : Checked) → judge s ≡ v → (h : Head) × (judge s ≡ Accepted h)
      go (Accepted h) e = (h, e)
      go (Refused n x) e = absurd (not_refused n x e z)

  pub tidy-refuses : TidyRefuses s out
  tidy-refuses =
      record {
        check = as_check s (tidy_call s out).number (tidy_call s out).extra
            (λ n x e. (ap (λ (w : Written). w.number) (refused n x e), ap (λ (w : Written). w.extra) (refused n x e)))
            (λ h e. else-0-19 (tidy_call s out).number (elim (by_size h e) [ inl w ↦ inr w.1 | inr w ↦ inl w.1 ]));
        room = (λ q. at19 q (accepted_by (inr q)), λ (w, l). let (h, e) = (passes_is s).0 w in ap (λ (w : Written). w.number) (short h e l));
        room_extra = λ q. extra19 q (accepted_by (inr q));
        done = (λ q. at0 q (accepted_by (inl q)), λ (w, l). let (h, e) = (passes_is s).0 w in wide h e l);
        untouched = (tidy_frame s out).refused;
      }
    where
      at19 : (tidy_call s out).number ≡ 19 → (h : Head) × (judge s ≡ Accepted h) → Passes s × (length out < length (tidy_of s))
      at19 q a =
          ((passes_is s).1 a, elim (by_size a.0 a.1) [ inl w ↦ w.0 | inr w ↦ absurd (let z : 0 ≡ 19 = sym w.1 ∙ q in omega arith) ])

      extra19 : (tidy_call s out).number ≡ 19 → (h : Head) × (judge s ≡ Accepted h) → (tidy_call s out).extra ≡ 0
      extra19 q a = elim (by_size a.0 a.1) [ inl w ↦ w.2 | inr w ↦ absurd (let z : 0 ≡ 19 = sym w.1 ∙ q in omega arith) ]

      at0 : (tidy_call s out).number ≡ 0 → (h : Head) × (judge s ≡ Accepted h) → Passes s × (length (tidy_of s) ≤ length out)
      at0 q a =
          ((passes_is s).1 a, elim (by_size a.0 a.1) [ inl w ↦ absurd (let z : 0 ≡ 19 = sym q ∙ w.1 in omega arith) | inr w ↦ w.0 ])
