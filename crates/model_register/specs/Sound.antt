-- The register's line 11: what it is for a user's line to be sound, in 01's words, by the members of its sets.
-- Assumes nothing.
use Rattle.std.specs.Prelude.{◌≡◌, ◌↔◌, true, false, ℕ, ◌<◌, length}
use mathlib.Core.List.{List, Memᴰ}
use Rattle.model.specs.declared.Kind.{Kind}
use Rattle.model.specs.declared.Kind.TheVariants.{SsDmer, MsDmer, SsHmer, MsHmer}
use Rattle.model.specs.declared.Exclusion.{Exclusion}
use Rattle.model.specs.declared.Line.{Line}
use Rattle.model.specs.Sets.{has}
use Rattle.model.specs.Policy.{Policy, policy_of, meaning}
use Rattle.model.specs.Chains.{Authorized}
use Rattle.model.specs.Line.{session_at, sound}
use Rattle.model_register.specs.Faults.{Many}

-- role r is counted at session j, of W: active in it; active in any; in its history; in the user's
abbrev pub Counted : ℕ → Line → ℕ → Kind → ℕ → Type 0
Counted W l j SsDmer r = has (session_at l j).active r ≡ true
Counted W l j MsDmer r = (i : ℕ) × (i < W) × (has (session_at l i).active r ≡ true)
Counted W l j SsHmer r = has (session_at l j).history r ≡ true
Counted W l j MsHmer r = has l.history r ≡ true

-- a line of W sessions of user u: open bits of these alone; the history below R; a closed session zero; active within
-- the session's history, that within the user's, and active within the roles that the user may activate; of no
-- exclusion are n members counted
pub record Sound (W : ℕ) (p : Policy) (u : ℕ) (l : Line) : Type 0 where
  pub opened : (j : ℕ) → has l.opened j ≡ true → j < W
  pub history : (r : ℕ) → has l.history r ≡ true → r < p.head.roles
  pub closed : (j : ℕ) → j < W → has l.opened j ≡ false → ((session_at l j).active ≡ 0) × ((session_at l j).history ≡ 0)
  pub active : (j r : ℕ) → j < W → has (session_at l j).active r ≡ true → has (session_at l j).history r ≡ true
  pub past : (j r : ℕ) → j < W → has (session_at l j).history r ≡ true → has l.history r ≡ true
  pub authorized : (j r : ℕ) → j < W → has (session_at l j).active r ≡ true → Authorized p u r
  pub exclusions : (x : Exclusion) → Memᴰ x p.exclusions → (j : ℕ) → j < W
      → ¬ Many x.n (λ r. (has x.members r ≡ true) × Counted W l j x.kind r)

-- the soundness that the calls test is this, under an accepted image
abbrev pub SoundIs : List ℕ → Type 0
SoundIs s = (W u : ℕ) (l : Line) → length l.sessions ≡ W → (sound W (meaning (policy_of s) u) l ≡ true) ↔ Sound W (policy_of s) u l
