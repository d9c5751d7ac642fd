-- Whether a set is left depends on which exclusions there are: their order and repeats have no say.
-- Assumes nothing.
use mathlib.Core.Path.{◌≡◌}
use mathlib.Core.Bool.{true}
use mathlib.Core.List.{List, Memᴰ}
use Prim.Native.Nat.{ℕ, ◌^◌, ◌<◌}
use Rattle.model.specs.declared.Exclusion.{Exclusion}
use Rattle.model.specs.declared.Line.{Line}
use Rattle.model.specs.Tests.{all}
use Rattle.model.specs.Sets.{within}
use Rattle.model.specs.Policy.{Meaning, met, sorted}
use Rattle.model.specs.Line.{counted, exclusions_met, put_in}
use Rattle.model.specs.Choice.{carried_by, admissible}
use Rattle.model.specs.Obstacle.{excluding_only, left}
use Rattle.model_laws.proofs.Bools.{four, all_four, bool_ext}
use Rattle.model_laws.proofs.Every.{all_mem, mem_all}
use Rattle.model_laws.proofs.ObstacleLaws.{Fine, left_is}
use Rattle.model_laws.proofs.SortedLaws.{sorted_mem}

-- exclusions are met at every session, and so are others that are among them
pub met_among : (l : Line) (xs ys : List Exclusion) → ((y : Exclusion) → Memᴰ y ys → Memᴰ y xs)
    → all (λ s. all (met (counted l s)) xs) l.sessions ≡ true → all (λ s. all (met (counted l s)) ys) l.sessions ≡ true
met_among l xs ys among e =
    mem_all _ l.sessions (λ s i. let h = all_mem _ l.sessions e s i in
    mem_all (met (counted l s)) ys (λ y j. all_mem _ xs h y (among y j)))

module _ (m : Meaning) (l : Line) (k lower upper : ℕ) where
  -- so what is admissible with exclusions is so with others that are among them
  fine_among : (xs ys : List Exclusion) → ((y : Exclusion) → Memᴰ y ys → Memᴰ y xs) → (s : ℕ) → Fine m l k lower upper xs s
      → Fine m l k lower upper ys s
  unfolding admissible excluding_only carried_by exclusions_met
  fine_among xs ys among s e =
      let w = four (within s m.authorized) _ _ _ e in
      all_four (within s m.authorized) _ _ _ w.0 w.1 w.2 (met_among (put_in k s l) xs ys among w.3)

  module _ (below : m.authorized < 2 ^ 64) where
    left_among : (xs ys : List Exclusion) → ((y : Exclusion) → Memᴰ y ys → Memᴰ y xs) → left m l k lower upper xs ≡ true
        → left m l k lower upper ys ≡ true
    left_among xs ys among e =
        let w = (left_is m l k lower upper below xs).0 e in (left_is m l k lower upper below ys).1 (w.0, fine_among xs ys among w.0 w.1)

    pub left-sorted : (xs : List Exclusion) → left m l k lower upper (sorted xs) ≡ left m l k lower upper xs
    left-sorted xs =
        bool_ext (left m l k lower upper (sorted xs)) (left m l k lower upper xs) (left_among (sorted xs) xs (λ y i. (sorted_mem y xs).1 i))
        (left_among xs (sorted xs) (λ y i. (sorted_mem y xs).0 i))
