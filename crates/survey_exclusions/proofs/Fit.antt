-- The figures of an accepted image's exclusions fit 64 bits, and the last of them counts the sets that an exclusion
-- allows.
-- Assumes nothing.
use mathlib.Core.Path.{◌≡◌}
use mathlib.Core.List.{List, [], ◌∷◌}
use Prim.Native.Nat.{ℕ, ◌^◌, ◌≤◌}
use native.Mathlib.Omega.{arith}
use Rattle.model.specs.declared.Head.{Head}
use Rattle.model.specs.declared.Exclusion.{Exclusion}
use Rattle.model.specs.declared.Checked.TheVariants.{Accepted}
use Rattle.model.specs.Sets.{count, count_to}
use Rattle.model.specs.Judgement.{judge}
use Rattle.model.specs.Policy.{policy_of}
use Rattle.model.specs.Ranges.{Each, ExclusionInRange}
use Rattle.model_laws.proofs.Judgements.{accepted_in_range}
use Rattle.model_binomials.specs.Allowed.{allows_alone}
use Rattle.model_binomials.proofs.Sums.{sum_fits}
use Rattle.model_binomials.proofs.SubsetCount.{allowed_alone}
use Rattle.model_survey.specs.Survey.{allowed}
use Rattle.survey_exclusions.specs.Writing.{Fitting}

fitting : (roles : ℕ) → roles ≤ 64 → (x : Exclusion) → ExclusionInRange roles x → Fitting x
unfolding allowed
fitting roles h x r =
    let s : count 64 x.members ≤ 64 = omega (arith, r.size.1) in
    record { n = r.n.1; size = s; sets = sum_fits (count 64 x.members) x.n r.n.1 s }

each_fitting : (roles : ℕ) → roles ≤ 64 → (xs : List Exclusion) → Each (ExclusionInRange roles) xs → Each Fitting xs
each_fitting roles h [] r = tt
each_fitting roles h (x ∷ xs) r = (fitting roles h x r.0, each_fitting roles h xs r.1)

-- The figures of each exclusion of an accepted image fit.
pub figures_fit : (s : List ℕ) (h : Head) → judge s ≡ Accepted h → Each Fitting (policy_of s).exclusions
figures_fit s h e =
    let r = accepted_in_range s h e in each_fitting (policy_of s).head.roles r.roles.1 (policy_of s).exclusions r.exclusions

-- The last figure is how many sets of its members the exclusion allows alone.
pub allowed-counts : (x : Exclusion) → count_to (allows_alone x) (2 ^ 64) ≡ allowed x
unfolding allowed
allowed-counts x = allowed_alone x
