-- What each kind counts once a set is put in, by its members.
-- Assumes nothing.
use mathlib.Core.Path.{◌≡◌, refl}
use mathlib.Core.Logic.{◌⊎◌, inl, inr, ◌↔◌}
use mathlib.Core.Bool.{Bool, true, false}
use Prim.Native.Nat.{ℕ}
use lib.Dec.{eqb}
use borrow.Author.Tests.{eqb-true, eqb-false}
use borrow.Table.Steps.{cases}
use Rattle.model.specs.declared.Kind.{Kind}
use Rattle.model.specs.declared.Kind.TheVariants.{SsDmer, MsDmer, SsHmer, MsHmer}
use Rattle.model.specs.declared.Line.{Line}
use Rattle.model.specs.Tests.{pick}
use Rattle.model.specs.Sets.{has, union}
use Rattle.model.specs.Line.{session_at, active_in, others}
use Rattle.model.specs.Conditions.{counted_after}
use Rattle.model_laws.proofs.SetLaws.{union-cases, union_l, union_r}
use Rattle.model_laws.proofs.UnionLaws.{has_below}
use Rattle.model_laws.proofs.Actives.{active_elsewhere_lem}
use Rattle.model_register.specs.Met.{CountedAfter, MetIs}
use Rattle.model_register.proofs.Decided.{fewer_is}

-- a choice by a test of two numbers
picked : (j k a b r : ℕ)
    → (has (pick (eqb j k) a b) r ≡ true) ↔ (((j ≡ k) × (has a r ≡ true)) ⊎ ((¬ (j ≡ k)) × (has b r ≡ true)))
unfolding pick
picked j k a b r = go (eqb j k) refl
  where
    go : (t : Bool) → eqb j k ≡ t → (has (pick t a b) r ≡ true) ↔ (((j ≡ k) × (has a r ≡ true)) ⊎ ((¬ (j ≡ k)) × (has b r ≡ true)))
    go true e = (λ h. inl (eqb-true j k e, h), λ w. elim w [ inl v ↦ v.1 | inr v ↦ absurd (v.0 (eqb-true j k e)) ])
    go false e = (λ h. inr (eqb-false j k e, h), λ w. elim w [ inl v ↦ absurd (eqb-false j k e v.0) | inr v ↦ v.1 ])

module _ (l : Line) (k s j : ℕ) where
  counts : (c : Kind) (r : ℕ) → (has (counted_after l k s j c) r ≡ true) ↔ CountedAfter l k s j c r
  unfolding counted_after
  counts SsDmer r = picked j k s (session_at l j).active r
  counts MsDmer r =
      let a = active_in (others k l.sessions) in (
        λ h. elim (union-cases s a r h) [ inl v ↦ inl v | inr v ↦ inr ((active_elsewhere_lem l k r).0 v) ],
        λ w. elim w [ inl v ↦ union_l s a r v | inr v ↦ union_r s a r ((active_elsewhere_lem l k r).1 v) ],
      )
  counts SsHmer r =
      let h = (session_at l j).history in
      let w = picked j k (union h s) h r in (
        λ e. elim (w.0 e) [
          | inl v ↦ elim (union-cases h s r v.1) [ inl x ↦ inl x | inr x ↦ inr (v.0, x) ]
          | inr v ↦ inl v.1
        ],
        λ e. w.1 (cases (eqb j k)
            (λ q. inl (eqb-true j k q, elim e [ inl x ↦ union_l h s r x | inr x ↦ union_r h s r x.1 ]))
            (λ q. inr (eqb-false j k q, elim e [ inl x ↦ x | inr x ↦ absurd (eqb-false j k q x.0) ]))),
      )
  counts MsHmer r = (λ h. union-cases l.history s r h, λ w. elim w [ inl v ↦ union_l l.history s r v | inr v ↦ union_r l.history s r v ])

  pub met_is : MetIs l k s j
  met_is =
      record {
        counts = counts;
        met = λ x low. fewer_is x.n x.members (counted_after l k s j x.kind) (CountedAfter l k s j x.kind)
            (λ r e. has_below 64 x.members r low e) (counts x.kind);
      }
