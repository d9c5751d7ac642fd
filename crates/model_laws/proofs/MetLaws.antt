-- Exclusions and counts: fewer roles counted keep an exclusion met, and none counted meets every exclusion of a policy
-- in range.
-- Assumes nothing.
use mathlib.Core.Path.{◌≡◌, refl, ap, ◌∙◌, sym}
use mathlib.Core.Bool.{true}
use mathlib.Core.List.{List, [], ◌∷◌}
use Prim.Native.Nat.{ℕ}
use native.Mathlib.Nat.{lt_of_le_of_lt}
use native.Mathlib.Omega.{arith}
use lib.Bits.{and_zero_r, or_zero_l, or_comm}
use borrow.Author.Tests.{ltb-true, lt-ltb, eq-eqb}
use Rattle.model.specs.declared.Kind.{Kind}
use Rattle.model.specs.declared.Exclusion.{Exclusion}
use Rattle.model.specs.Tests.{all, pick}
use Rattle.model.specs.Sets.{inter, count, union}
use Rattle.model.specs.Policy.{Policy, met, meaning}
use Rattle.model.specs.Ranges.{Each, ExclusionInRange, InRange}
use Rattle.model.specs.Kept.{Fewer, Antitone}
use Rattle.model_laws.proofs.Bools.{both}
use Rattle.model_laws.proofs.SetLaws.{count-within}
use Rattle.model_laws.proofs.TableLaws.{count_empty}
use Rattle.model_laws.proofs.Inclusion.{inter-within}
use Rattle.model_laws.proofs.Every.{all_mem, mem_all}
use Rattle.model.specs.Reduced.{stay, stays}
use Rattle.model.specs.Conditions.{counted_after}
use Rattle.model.specs.Line.{active_in, others}
use Rattle.model.specs.declared.Line.{Line}
use Rattle.model.specs.declared.Kind.TheVariants.{SsDmer, MsDmer, SsHmer, MsHmer}

module _ (f g : Kind → ℕ) (h : Fewer f g) where
  -- fewer roles counted keep an exclusion met
  pub met_antitone : (x : Exclusion) → met g x ≡ true → met f x ≡ true
  unfolding met
  met_antitone x e =
      let a = inter x.members (f x.kind) in
      let b = inter x.members (g x.kind) in
      lt-ltb (count 64 a) x.n
      (lt_of_le_of_lt (count-within 64 a b (inter-within x.members (f x.kind) (g x.kind) (h x.kind))) (ltb-true (count 64 b) x.n e))

  -- so it is with all of them
  all_antitone : (xs : List Exclusion) → all (met g) xs ≡ true → all (met f) xs ≡ true
  all_antitone xs e = mem_all (met f) xs (λ x m. met_antitone x (all_mem (met g) xs e x m))

-- for every user of every policy
pub meaning_antitone : (p : Policy) (u : ℕ) → Antitone (meaning p u)
unfolding meaning
meaning_antitone p u f g h e = all_antitone f g h p.exclusions e

-- n is at least 2, so an exclusion is met where nothing is counted
met_none : (roles : ℕ) (x : Exclusion) → ExclusionInRange roles x → met (λ k. 0) x ≡ true
unfolding met
met_none roles x r =
    lt-ltb (count 64 (inter x.members 0)) x.n
    (rw (ap (count 64) (and_zero_r x.members) ∙ count_empty 64) (let k = r.n.0 in omega arith))

-- so are all of them
all_none : (roles : ℕ) (xs : List Exclusion) → Each (ExclusionInRange roles) xs → all (met (λ k. 0)) xs ≡ true
unfolding all
all_none roles [] r = refl
all_none roles (x ∷ xs) r = both (met (λ k. 0) x) (all (met (λ k. 0)) xs) (met_none roles x r.0) (all_none roles xs r.1)

-- for every user of a policy in range
pub meaning_none : (p : Policy) (u : ℕ) → InRange p → (meaning p u).all_met (λ k. 0) ≡ true
unfolding meaning
meaning_none p u r = all_none p.head.roles p.exclusions r.exclusions

-- what each kind counts at session k once s is put in: what stays, and s
pub counted_then : (l : Line) (k s : ℕ) (c : Kind) → counted_after l k s k c ≡ union (stays l k c) s
unfolding counted_after stay pick
counted_then l k s SsDmer = rw (eq-eqb k k refl) (sym (or_zero_l s))
counted_then l k s MsDmer = or_comm s (active_in (others k l.sessions))
counted_then l k s SsHmer = rw (eq-eqb k k refl)
counted_then l k s MsHmer = refl
