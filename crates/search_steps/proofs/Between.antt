-- The sets between two: with one role more chosen, with one fewer free, and with none free.
-- Assumes nothing.
use mathlib.Core.Path.{◌≡◌, sym, ap, ◌∙◌}
use mathlib.Core.Bool.{true, false}
use mathlib.Core.Logic.{◌⊎◌, inl, inr}
use Prim.Native.Nat.{ℕ}
use borrow.Author.Tests.{eqb-true, eqb-false}
use lib.Dec.{eqb}
use Rattle.model.specs.Sets.{has, with}
use Rattle.model_laws.proofs.Bools.{or_l, bool_ext, not_both}
use Rattle.model_laws.proofs.AnyWidth.{same_sets}
use Rattle.model_laws.proofs.SetLaws.{has-with, with_cases, with_new}
use Rattle.sets.specs.Members.{without}
use Rattle.sets.proofs.Taken.{without_gone, without_other}
use Rattle.query.specs.Carry.{Sub}
use Rattle.query_rank.specs.Ranks.{Between}
use Rattle.query.proofs.Members.{no_member, either, fewer_sub}

pub sub_same : (a b : ℕ) → Sub a b → Sub b a → a ≡ b
sub_same a b h g = same_sets a b (λ i. bool_ext (has a i) (has b i) (h i) (g i))

-- ---- one member more
pub with-old : (s r i : ℕ) → has s i ≡ true → has (with s r) i ≡ true
with-old s r i m = has-with s r i ∙ or_l (has s i) (eqb i r) m

pub with_sub : (s r t : ℕ) → Sub s t → has t r ≡ true → Sub (with s r) t
with_sub s r t h m i n = go (with_cases s r i n)
  where
    go : (has s i ≡ true) ⊎ (i ≡ r) → has t i ≡ true
    go (inl k) = h i k
    go (inr k) = ap (has t) k ∙ m

-- ---- one member fewer
module _ (s r : ℕ) (m : has s r ≡ true) where
  pub fewer-stays : (i : ℕ) → has s i ≡ true → (i ≡ r) ⊎ (has (without s r) i ≡ true)
  fewer-stays i n = go (either (eqb i r))
    where
      go : (eqb i r ≡ true) ⊎ (eqb i r ≡ false) → (i ≡ r) ⊎ (has (without s r) i ≡ true)
      go (inl h) = inl (eqb-true i r h)
      go (inr h) = inr (without_other s r i m (eqb-false i r h) ∙ n)

  pub fewer_other : (i : ℕ) → has (without s r) i ≡ true → i ≡ r → ⊥
  fewer_other i n e = not_both (has (without s r) r) (ap (has (without s r)) (sym e) ∙ n) (without_gone s r m)

  pub fewer-within : (t : ℕ) → has t r ≡ true → Sub s t → Sub (without s r) (without t r)
  fewer-within t k h i n = without_other t r i k (fewer_other i n) ∙ h i (fewer_sub s r m i n)

-- ---- sets between: the role r is taken up, or left out
module _ (chosen free r s : ℕ) (m : has free r ≡ true) where
  pub between-with : Between chosen free s → has s r ≡ true → Between (with chosen r) (without free r) s
  between-with b on = record { least = with_sub chosen r s b.least on; most = λ i n. go i (b.most i n) }
    where
      stay : (i : ℕ) → (i ≡ r) ⊎ (has (without free r) i ≡ true) → (has (with chosen r) i ≡ true) ⊎ (has (without free r) i ≡ true)
      stay i (inl e) = inl (ap (has (with chosen r)) e ∙ with_new chosen r)
      stay i (inr h) = inr h

      go : (i : ℕ) → (has chosen i ≡ true) ⊎ (has free i ≡ true) → (has (with chosen r) i ≡ true) ⊎ (has (without free r) i ≡ true)
      go i (inl h) = inl (with-old chosen r i h)
      go i (inr h) = stay i (fewer-stays free r m i h)

  pub between-without : Between chosen free s → has s r ≡ false → Between chosen (without free r) s
  between-without b off = record { least = b.least; most = λ i n. go i n (b.most i n) }
    where
      stay : (i : ℕ) → has s i ≡ true → (i ≡ r) ⊎ (has (without free r) i ≡ true) → (has chosen i ≡ true) ⊎ (has (without free r) i ≡ true)
      stay i n (inl e) = not_both (has s r) (ap (has s) (sym e) ∙ n) off
      stay i n (inr h) = inr h

      go : (i : ℕ) → has s i ≡ true → (has chosen i ≡ true) ⊎ (has free i ≡ true) → (has chosen i ≡ true) ⊎ (has (without free r) i ≡ true)
      go i n (inl h) = inl h
      go i n (inr h) = stay i n (fewer-stays free r m i h)

  -- and back
  pub between-old : Between chosen (without free r) s → Between chosen free s
  between-old b = record { least = b.least; most = λ i n. go i (b.most i n) }
    where
      go : (i : ℕ) → (has chosen i ≡ true) ⊎ (has (without free r) i ≡ true) → (has chosen i ≡ true) ⊎ (has free i ≡ true)
      go i (inl h) = inl h
      go i (inr h) = inr (fewer_sub free r m i h)

  pub between_new : Between (with chosen r) (without free r) s → Between chosen free s
  between_new b = record { least = λ i n. b.least i (with-old chosen r i n); most = λ i n. go i (b.most i n) }
    where
      one : (i : ℕ) → (has chosen i ≡ true) ⊎ (i ≡ r) → (has chosen i ≡ true) ⊎ (has free i ≡ true)
      one i (inl h) = inl h
      one i (inr e) = inr (ap (has free) e ∙ m)

      go : (i : ℕ) → (has (with chosen r) i ≡ true) ⊎ (has (without free r) i ≡ true) → (has chosen i ≡ true) ⊎ (has free i ≡ true)
      go i (inl h) = one i (with_cases chosen r i h)
      go i (inr h) = inr (fewer_sub free r m i h)

-- the chosen roles alone
pub between-chosen : (chosen free : ℕ) → Between chosen free chosen
between-chosen chosen free = record { least = λ i m. m; most = λ i m. inl m }

-- with none free there is only that set
pub between_none : (chosen s : ℕ) → Between chosen 0 s → s ≡ chosen
between_none chosen s b = sub_same s chosen (λ i m. go i (b.most i m)) b.least
  where
    go : (i : ℕ) → (has chosen i ≡ true) ⊎ (has 0 i ≡ true) → has chosen i ≡ true
    go i (inl h) = h
    go i (inr h) = no_member i h
