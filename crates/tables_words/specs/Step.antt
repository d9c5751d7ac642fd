-- A word judged and taken into the tables; of an exclusion word, its place.
-- Assumes nothing.
use Rattle.std.specs.Prelude.{◌≡◌, Bool, List, ℕ, set}
use Rattle.model.specs.declared.Head.{Head}
use Rattle.model.specs.declared.Scan.{Scan}
use Rattle.model.specs.declared.Word.{Word}
use Rattle.model.specs.declared.Entry.{Entry}
use Rattle.model.specs.declared.Entry.TheVariants.{Assignment, Grant, Senior, Exclude, Member, Limit, End, Unknown}
use Rattle.model.specs.Image.{fault, assigning}
use Rattle.model.specs.Policy.{granting, ordering, limiting}

-- row i of the places, with the place of an exclusion word
unfoldable pub noting : ℕ → ℕ → List ℕ → Entry → List ℕ
noting place i places (Assignment u r) = places
noting place i places (Grant r p) = places
noting place i places (Senior a b) = places
noting place i places (Exclude x m) = set places i place
noting place i places (Member r) = places
noting place i places (Limit r t) = places
noting place i places End = places
noting place i places Unknown = places

-- a word judged, n its fault, and where it has none taken into the tables
pub record Step
    (h : Head) (t : Scan) (final : Bool) (place : ℕ) (w : Word) (assigned₀ granted₀ juniors₀ limits₀ places₀ : List ℕ) (n : ℕ)
    (assigned granted juniors limits places : List ℕ) : Type 0 where
  pub faulty : n ≡ fault h assigned₀ t final w
  pub assigned_is : n ≡ 0 → assigned ≡ assigning assigned₀ w.entry
  pub granted_is : n ≡ 0 → granted ≡ granting granted₀ w.entry
  pub juniors_is : n ≡ 0 → juniors ≡ ordering juniors₀ w.entry
  pub limits_is : n ≡ 0 → limits ≡ limiting limits₀ w.entry
  pub places_is : n ≡ 0 → places ≡ noting place t.exclusions places₀ w.entry
