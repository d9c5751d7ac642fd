-- Whether roles to be put in meet the reduced exclusions (the model's specs/Reduced.antt).
-- Assumes nothing.
use Rattle.std.specs.Prelude.{Bool, List, map, ℕ, ltb}
use Rattle.std.specs.List.{list_all}
use Rattle.model.specs.Sets.{inter, count}
use Rattle.query_reduced.specs.declared.reduced.ReducedExclusion.{ReducedExclusion}

-- fewer than n members of the mask are in s
unfoldable pub fits : ℕ → ℕ → ℕ → Bool
fits mask n s = ltb (count 64 (inter mask s)) n

-- each of the exclusions, by its members and its own n, is met by the roles s
unfoldable pub reduced_met : List ReducedExclusion → ℕ → Bool
unfolding fits
reduced_met xs s = list_all (λ x. fits x.members x.n s) xs

-- the exclusions' members, and their ns
abbrev pub masks_of : List ReducedExclusion → List ℕ
masks_of xs = map (λ x. x.members) xs

abbrev pub ns_of : List ReducedExclusion → List ℕ
ns_of xs = map (λ x. x.n) xs
