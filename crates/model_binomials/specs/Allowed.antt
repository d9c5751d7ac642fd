-- What the sums of choose numbers count: subsets of few members, and so the role sets that an exclusion allows.
-- Assumes nothing.
use Rattle.std.specs.Prelude.{◌≡◌, Bool, ◌&&◌, ℕ, ◌^◌, ltb}
use Rattle.model.specs.declared.Exclusion.{Exclusion}
use Rattle.model.specs.Sets.{within, count_to, count}
use Rattle.model.specs.Policy.{met}
use Rattle.model_binomials.specs.Binomial.{binomial, sum_below}

-- t is a subset of s with fewer than n members, of those below d
unfoldable pub fewer_members : ℕ → ℕ → ℕ → ℕ → Bool
fewer_members d s n t = within t s && ltb (count d t) n

-- so many of the sets below 2 ^ d are subsets of s with fewer than n members: the sum of "m choose k" for k below n,
-- where s has m
abbrev pub SubsetsCounted : ℕ → ℕ → ℕ → Type 0
SubsetsCounted d s n = count_to (fewer_members d s n) (2 ^ d) ≡ sum_below (binomial (count d s)) n

-- t is a set of members of the exclusion that it allows, whatever it counts of them
unfoldable pub allows_alone : Exclusion → ℕ → Bool
allows_alone x t = within t x.members && met (λ k. t) x

-- so many of the role sets are such
abbrev pub AllowedAlone : Exclusion → Type 0
AllowedAlone x = count_to (allows_alone x) (2 ^ 64) ≡ sum_below (binomial (count 64 x.members)) x.n
