-- A call that passes on what the judgement of its image refuses, and else answers no number of a check, refuses as a
-- check does.
-- Assumes nothing.
use mathlib.Core.Path.{◌≡◌, refl, sym, ap, ap₂, ◌∙◌, subst}
use mathlib.Core.Logic.{◌⊎◌, inl, inr, ◌↔◌}
use mathlib.Core.List.{List}
use Prim.Native.Nat.{ℕ, ◌≤◌}
use native.Mathlib.Omega.{arith}
use Rattle.model.specs.declared.Head.{Head}
use Rattle.model.specs.declared.Checked.{Checked}
use Rattle.model.specs.declared.Checked.TheVariants.{Accepted, Refused}
use Rattle.model.specs.Policy.{policy_of}
use Rattle.model.specs.Judgement.{judge, judge_meaning}
use Rattle.model.specs.Ordered.{WordsPass}
use Rattle.model_laws.proofs.Judgements.{judge_is, Verdict, words, loops, reaches, passes, verdict}
use Rattle.model_register.specs.Faults.{Refuses}
use Rattle.model_register.specs.AsCheck.{WordsRight, Passes, RefusesAsCheck}
use Rattle.model_register.proofs.FaultsProof.{register_is}

-- a number that is none of a check's
abbrev pub Else : ℕ → Type 0
Else n = (¬ ((1 ≤ n) × (n ≤ 8))) × (¬ (n ≡ 22)) × (¬ (n ≡ 23))

module _ (s : List ℕ) where
  pub words_right : WordsPass s ↔ WordsRight s
  words_right = (λ (h, e). (h, ((register_is s).accepted h).0 e), λ (h, a). (h, ((register_is s).accepted h).1 a))

  -- what the words are refused by, the image is
  pub words_first : (n place : ℕ) → Refuses s n place → judge s ≡ Refused n place
  unfolding judge judge_meaning
  words_first n place r = ap (judge_meaning (policy_of s)) (((register_is s).refused n place).1 r)

  -- a refusal has a check's number
  pub refused_else : (n x : ℕ) → judge s ≡ Refused n x → ¬ Else n
  refused_else n x e z = go (verdict s)
    where
      go : Verdict s → ⊥
      go (words m y k w t) = let q : m ≡ n = cc in z.0 (omega arith, omega arith)
      go (loops h r w l t) = let q : 22 ≡ n = cc in z.1 (sym q)
      go (reaches h u w l v t) = let q : 23 ≡ n = cc in z.2 (sym q)
      go (passes h w l f t) = let q : ◌≡◌ {A = ℕ} 0 1 = cc in omega arith

  -- the images that pass are those accepted
  pub passes_is : Passes s ↔ ((h : Head) × (judge s ≡ Accepted h))
  passes_is = (
    λ w. let (h, a) = w.words in (h, ((judge_is s).accepted h).1 (((register_is s).accepted h).1 a, w.loopless, w.few)),
    λ (h, e). let w = ((judge_is s).accepted h).0 e in
        record { words = (h, ((register_is s).accepted h).0 w.0); loopless = w.1; few = w.2 },
  )

  module _ (number extra : ℕ) (passed : (n x : ℕ) → judge s ≡ Refused n x → (number ≡ n) × (extra ≡ x))
      (further : (h : Head) → judge s ≡ Accepted h → Else number) where
    -- an answer's number and extra are those of the image's refusal, where the number is a check's
    refused_so : (n x : ℕ) → ¬ Else n → (number ≡ n) × (extra ≡ x) → judge s ≡ Refused n x
    refused_so n x a e = go (judge s) refl
      where
        go : (v : Checked) → judge s ≡ v → judge s ≡ Refused n x
        go (Refused m y) q = let r = passed m y q in q ∙ ap₂ Refused (sym r.0 ∙ e.0) (sym r.1 ∙ e.1)
        go (Accepted h) q = absurd (a (subst Else e.0 (further h q)))

    to_words : (n place : ℕ) → 1 ≤ n → n ≤ 8 → judge s ≡ Refused n place → Verdict s → Refuses s n place
    to_words n place l m q (words k x i e t) = ((register_is s).refused n place).0 (e ∙ sym t ∙ q)
    to_words n place l m q (loops h r e w t) = let z : n ≡ 22 = cc in absurd (omega arith)
    to_words n place l m q (reaches h u e w v t) = let z : n ≡ 23 = cc in absurd (omega arith)
    to_words n place l m q (passes h e w f t) = let z : ◌≡◌ {A = ℕ} 0 1 = cc in absurd (omega arith)

    passing : Else number → Passes s
    passing z = go (judge s) refl
      where
        go : (v : Checked) → judge s ≡ v → Passes s
        go (Refused n x) e = absurd (refused_else n x e (subst Else (passed n x e).0 z))
        go (Accepted h) e = passes_is.1 (h, e)

    pub as_check : RefusesAsCheck s number extra
    as_check =
        record {
          by_words = λ n place l m. (
            λ e. to_words n place l m (refused_so n place (λ z. z.0 (l, m)) e) (verdict s),
            λ r. passed n place (words_first n place r),
          );
          by_loop = λ r. (
            λ e. let w = ((judge_is s).by_loop r).0 (refused_so 22 r (λ z. z.1 refl) e) in (words_right.0 w.0, w.1),
            λ (a, w). passed 22 r (((judge_is s).by_loop r).1 (words_right.1 a, w)),
          );
          by_reach = λ u. (
            λ e. let w = ((judge_is s).by_reach u).0 (refused_so 23 u (λ z. z.2 refl) e) in (words_right.0 w.0, w.1, w.2),
            λ w. passed 23 u (((judge_is s).by_reach u).1 (words_right.1 w.0, w.1, w.2)),
          );
          otherwise = λ a b c. passing (a, b, c);
        }

-- done, and no room, are none of a check's
pub else-0-19 : (n : ℕ) → (n ≡ 0) ⊎ (n ≡ 19) → Else n
else-0-19 n (inl e) = (λ w. omega arith, λ w. omega arith, λ w. omega arith)
else-0-19 n (inr e) = (λ w. omega arith, λ w. omega arith, λ w. omega arith)
