-- What the code needs to know of a word without fault.
-- Assumes nothing.
use Rattle.std.specs.Prelude.{◌≡◌, ℕ, ◌<◌, Bool, List}
use Rattle.model.specs.declared.Head.{Head}
use Rattle.model.specs.declared.Scan.{Scan}
use Rattle.model.specs.declared.Word.{Word}
use Rattle.model.specs.declared.Entry.{Entry}
use Rattle.model.specs.declared.Entry.TheVariants.{Assignment, Grant, Senior, Exclude, Member, Limit, End, Unknown}
use Rattle.model.specs.Image.{fault, assigning}
use Rattle.model.specs.Policy.{ordering}

-- what the next state asks: room for one more exclusion, a member where one is due
unfoldable pub Due : Scan → Entry → Type 0
Due t (Assignment u r) = 0 < 1
Due t (Grant r p) = 0 < 1
Due t (Senior a b) = 0 < 1
Due t (Exclude x m) = t.exclusions < 32
Due t (Member r) = 0 < t.due
Due t (Limit r n) = 0 < 1
Due t End = 0 < 1
Due t Unknown = 0 < 1

-- a word judged, n its fault, and where it has none taken into the roles assigned and the direct juniors so far
pub record Taken
    (h : Head) (assigned₀ juniors₀ : List ℕ) (t : Scan) (final : Bool) (w : Word) (n : ℕ) (assigned juniors : List ℕ) : Type 0 where
  pub faulty : n ≡ fault h assigned₀ t final w
  pub assigned_is : n ≡ 0 → assigned ≡ assigning assigned₀ w.entry
  pub juniors_is : n ≡ 0 → juniors ≡ ordering juniors₀ w.entry
