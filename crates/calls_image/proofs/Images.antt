-- What a call holds of an image that it has read: the judgement, and of an accepted one the tables of its policy.
-- Assumes nothing.
use mathlib.Core.Path.{◌≡◌, refl, sym, ap, subst, ◌∙◌}
use Rattle.std.proofs.Common.{List, ℕ, ◌≤◌}
use Rattle.model.specs.declared.Head.{Head}
use Rattle.model.specs.declared.Checked.{Checked}
use Rattle.model.specs.declared.Checked.TheVariants.{Accepted, Refused}
use Rattle.model.specs.Image.{check_number}
use Rattle.model.specs.Judgement.{judge}
use Rattle.model.specs.Policy.{policy_of, below_table}
use Rattle.model.specs.Ranges.{InRange}
use Rattle.model_laws.proofs.Judgements.{accepted_in_range}
use Rattle.sets.specs.Words.{values}
use Rattle.exclusion_rows.specs.Table.{exclusions_of}
use Rattle.std.specs.Prelude.{Result, Ok, Err}
use Rattle.reasons.specs.declared.Refusal.{Refusal}
use Rattle.reasons.specs.Numbers.{number_of, refusal_of, checked_of}
use Rattle.policy_tables.specs.declared.PolicyTables.{PolicyTables}
use Rattle.policy_tables.specs.Held.{Holds}
use Rattle.sessions.specs.Calls.{Known}

-- a judgement's number
pub checked-number : (o : Result Head Refusal) → check_number (checked_of o) ≡ refusal_of o
unfolding check_number
checked-number (Ok h) = refl
checked-number (Err r) = refl

-- a refusal is that of the judgement
pub judged-refused : {o : Result Head Refusal} {k : Checked} {e : Refusal} → checked_of o ≡ k → o ≡ Err e → k ≡ Refused (number_of e.reason) e.extra
judged-refused q f = sym q ∙ ap checked_of f

pub judged-accepted : {o : Result Head Refusal} {k : Checked} {h : Head} → checked_of o ≡ k → o ≡ Ok h → k ≡ Accepted h
judged-accepted q f = sym q ∙ ap checked_of f

module _ (s : List ℕ) {t : PolicyTables} (h : Holds t (policy_of s)) where
  -- the tables are those of the image's policy
  pub held_granted : values t.granted ≡ (policy_of s).granted
  held_granted = h.granted_is

  pub held_below : t.below ≡ below_table (policy_of s)
  held_below = h.below_is

  pub held_roles_are : (policy_of s).head.roles ≡ t.head.roles
  held_roles_are = ap (λ (x : Head). x.roles) h.head_is

  -- whose numbers are in their ranges
  module _ {h' : Head} (e : judge s ≡ Accepted h') where
    pub held_roles : t.head.roles ≤ 64
    held_roles = subst (λ (x : Head). x.roles ≤ 64) h.head_is (accepted_in_range s h' e).roles.1

    pub held_permissions : t.head.permissions ≤ 256
    held_permissions = subst (λ (x : Head). x.permissions ≤ 256) h.head_is (accepted_in_range s h' e).permissions.1

  -- and so known to a call on a line
  pub held_known : Known t.head t.authorized (exclusions_of t.exclusions) (policy_of s)
  held_known = record { head_is = h.head_is; own_is = h.own_is; exclusions_are = h.exclusions_are }

-- the numbers of an accepted image are in their ranges
pub held_range : (s : List ℕ) {h : Head} → judge s ≡ Accepted h → InRange (policy_of s)
held_range s {h} e = accepted_in_range s h e

-- what a call may use of an image that is accepted
pub ruleset held = (held_granted, held_below, held_roles_are, held_known, held_range)
