-- What it is for a role set to be admissible, as the solution conditions 1 to 6 of 001 (its theorem 2.1), with the
-- kinds of exclusion counted by 001's table 1: for the roles s as the active ones of session k, in place of the old
-- ones.
-- Assumes nothing.
use Rattle.std.specs.Prelude.{◌≡◌, ◌≢◌, true, ℕ, ◌+◌, ◌<◌, eqb, length, get_or}
use mathlib.Core.List.{Memᴰ}
use Rattle.model.specs.declared.Kind.{Kind}
use Rattle.model.specs.declared.Kind.TheVariants.{SsDmer, MsDmer, SsHmer, MsHmer}
use Rattle.model.specs.declared.Exclusion.{Exclusion}
use Rattle.model.specs.declared.Line.{Line}
use Rattle.model.specs.Tests.{pick}
use Rattle.model.specs.Sets.{has, union, inter, count}
use Rattle.model.specs.Policy.{Policy, limited, Meaning, authorized, meaning}
use Rattle.model.specs.Line.{session_at, active_in, holding, others, put_in}
use Rattle.model.specs.Limits.{Others}
use Rattle.model.specs.Choice.{carried_by}
use Rattle.model.specs.Chains.{Authorized, Provides}

-- role r is active in a session other than session k
abbrev pub ActiveElsewhere : Line → ℕ → ℕ → Type 0
ActiveElsewhere l k r = (i : ℕ) × (i < length l.sessions) × (i ≢ k) × (has (session_at l i).active r ≡ true)

-- what each kind counts at session j once s is put in for session k: the roles active in session j, where the replaced
-- ones do not count; s and the roles active in the other sessions; session j's history, with s where it is session k;
-- the user's history with s
unfoldable pub counted_after : Line → ℕ → ℕ → ℕ → Kind → ℕ
counted_after l k s j SsDmer = pick (eqb j k) s (session_at l j).active
counted_after l k s j MsDmer = union s (active_in (others k l.sessions))
counted_after l k s j SsHmer = pick (eqb j k) (union (session_at l j).history s) (session_at l j).history
counted_after l k s j MsHmer = union l.history s

-- fewer than n of the exclusion's members are counted at session j
abbrev pub MetAfter : Line → ℕ → ℕ → ℕ → Exclusion → Type 0
MetAfter l k s j x = count 64 (inter x.members (counted_after l k s j x.kind)) < x.n

-- the roles are the user's (condition 1), they provide every permission of the lower bound (2) and none outside the
-- upper (3), where what they provide is what they carry (4 and 5), and every exclusion is met at every session (6)
pub record Conditions (p : Policy) (u : ℕ) (l : Line) (k lb ub s : ℕ) : Type 0 where
  pub own : (r : ℕ) → has s r ≡ true → has (authorized p u) r ≡ true
  pub lower : (q : ℕ) → has lb q ≡ true → has (carried_by (meaning p u) s) q ≡ true
  pub upper : (q : ℕ) → has (carried_by (meaning p u) s) q ≡ true → has ub q ≡ true
  pub exclusions : (x : Exclusion) → Memᴰ x p.exclusions → (j : ℕ) → j < length l.sessions → MetAfter l k s j x

-- the same with condition 6 as in 001, for session k alone
pub record Solution (p : Policy) (u : ℕ) (l : Line) (k lb ub s : ℕ) : Type 0 where
  pub own : (r : ℕ) → has s r ≡ true → has (authorized p u) r ≡ true
  pub lower : (q : ℕ) → has lb q ≡ true → has (carried_by (meaning p u) s) q ≡ true
  pub upper : (q : ℕ) → has (carried_by (meaning p u) s) q ≡ true → has ub q ≡ true
  pub exclusions : (x : Exclusion) → Memᴰ x p.exclusions → MetAfter l k s k x

-- the same in the words of a policy: a role is the user's where a chain of senior words leads to it from an assigned
-- one, and what the roles provide is what a grant gives to a role reached from one of them by such a chain (001's π)
pub record Admitted (p : Policy) (u : ℕ) (l : Line) (k lb ub s : ℕ) : Type 0 where
  pub own : (r : ℕ) → has s r ≡ true → Authorized p u r
  pub lower : (q : ℕ) → has lb q ≡ true → Provides p s q
  pub upper : (q : ℕ) → Provides p s q → has ub q ≡ true
  pub exclusions : (x : Exclusion) → Memᴰ x p.exclusions → (j : ℕ) → j < length l.sessions → MetAfter l k s j x

-- 001's CARD: each limited role of s is active in fewer than t sessions, over all users, once s is put in
abbrev pub Card : Meaning → Others → Line → ℕ → ℕ → Type 0
Card m x l k s = (r : ℕ) → has s r ≡ true → limited m.limits r ≡ true → x.held r + holding r (put_in k s l).sessions < get_or m.limits r 0

-- the conditions on the set that answers an ask, given what it is told of the other users
pub record Permitted (p : Policy) (u : ℕ) (x : Others) (l : Line) (k lb ub s : ℕ) : Type 0 where
  pub admitted : Admitted p u l k lb ub s
  pub card : Card (meaning p u) x l k s
