-- 001's condition 6 by its members: which roles each kind counts at a session once a set is put in, and when an
-- exclusion is met.
-- Assumes nothing.
use Rattle.std.specs.Prelude.{◌≡◌, ◌⊎◌, ◌↔◌, true, ℕ, ◌^◌, ◌<◌}
use Rattle.model.specs.declared.Kind.{Kind}
use Rattle.model.specs.declared.Kind.TheVariants.{SsDmer, MsDmer, SsHmer, MsHmer}
use Rattle.model.specs.declared.Exclusion.{Exclusion}
use Rattle.model.specs.declared.Line.{Line}
use Rattle.model.specs.Sets.{has}
use Rattle.model.specs.Line.{session_at}
use Rattle.model.specs.Conditions.{ActiveElsewhere, counted_after, MetAfter}
use Rattle.model_register.specs.Faults.{Many}

-- role r is counted at session j once the set s is put in for session k, in place of what was active there: active in
-- session j; active in any; in session j's history; in the user's
abbrev pub CountedAfter : Line → ℕ → ℕ → ℕ → Kind → ℕ → Type 0
CountedAfter l k s j SsDmer r = ((j ≡ k) × (has s r ≡ true)) ⊎ ((¬ (j ≡ k)) × (has (session_at l j).active r ≡ true))
CountedAfter l k s j MsDmer r = (has s r ≡ true) ⊎ ActiveElsewhere l k r
CountedAfter l k s j SsHmer r = (has (session_at l j).history r ≡ true) ⊎ ((j ≡ k) × (has s r ≡ true))
CountedAfter l k s j MsHmer r = (has l.history r ≡ true) ⊎ (has s r ≡ true)

-- these are the roles that are counted, and an exclusion is met exactly if no n different members of it are
pub record MetIs (l : Line) (k s j : ℕ) : Type 0 where
  pub counts : (c : Kind) (r : ℕ) → (has (counted_after l k s j c) r ≡ true) ↔ CountedAfter l k s j c r
  pub met : (x : Exclusion) → x.members < 2 ^ 64
      → MetAfter l k s j x ↔ (¬ Many x.n (λ r. (has x.members r ≡ true) × CountedAfter l k s j x.kind r))
