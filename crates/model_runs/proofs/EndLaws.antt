-- How a run ends: each line of the ledger that it leaves is the last that its user saw.
-- Assumes nothing.
use mathlib.Core.Path.{◌≡◌, refl, sym, ap, ◌∙◌}
use mathlib.Core.Bool.{Bool, true, false}
use mathlib.Core.List.{List, [], ◌∷◌}
use Prim.Native.Nat.{ℕ, ◌*◌}
use lib.Dec.{eqb}
use lib.ListN.{length}
use Rattle.model.specs.declared.Head.{Head}
use Rattle.model.specs.declared.Checked.TheVariants.{Accepted}
use Rattle.model.specs.Judgement.{judge}
use Rattle.model.specs.Policy.{policy_of}
use Rattle.model.specs.Line.{line_size}
use Rattle.model.specs.Run.{Call, line_at, step_on, run}
use Rattle.model.specs.Independence.{Run, events_of, seen_by, view_of, first_line}
use Rattle.model_laws.proofs.Judgements.{accepted-head}
use Rattle.model_laws.proofs.LedgerLaws.{step_on_lem, step-length, step_other}
use Rattle.model_runs.specs.Ends.{last_ledger, left_by, last_line}

-- ---- a run under an accepted image

module _ (W : ℕ) (s : List ℕ) (g : Head) (e : judge s ≡ Accepted g) where
  -- the ledger keeps its length
  last_length : (l : List ℕ) → length l ≡ line_size W * (policy_of s).head.users → (cs : List Call)
      → length (last_ledger l (run W s l cs)) ≡ length l
  unfolding last_ledger run
  last_length l hl [] = refl
  last_length l hl (c ∷ cs) =
      rw (step_on_lem W s g e l c)
      (let k = step-length W (policy_of s) l hl c in last_length (step_on W (policy_of s) l c).ledger (k ∙ hl) cs ∙ k)

  -- a user's line in it is the last that the user saw
  last_line_lem : (u : ℕ) (l : List ℕ) → length l ≡ line_size W * (policy_of s).head.users → (cs : List Call)
      → line_at (line_size W) u (last_ledger l (run W s l cs)) ≡ last_line (line_at (line_size W) u l) (seen_by (line_size W) u cs (run W s l cs))
  unfolding last_ledger run seen_by last_line
  last_line_lem u l hl [] = refl
  last_line_lem u l hl (c ∷ cs) =
      rw (step_on_lem W s g e l c)
      (go (eqb c.user u) refl (last_line_lem u (step_on W (policy_of s) l c).ledger (step-length W (policy_of s) l hl c ∙ hl) cs))
    where
      after : List ℕ
      after = (step_on W (policy_of s) l c).ledger

      go : (b : Bool) → eqb c.user u ≡ b
          → line_at (line_size W) u (last_ledger after (run W s after cs)) ≡ last_line (line_at (line_size W) u after)
          (seen_by (line_size W) u cs (run W s after cs))
          → line_at (line_size W) u (last_ledger after (run W s after cs))
          ≡ last_line (line_at (line_size W) u l) (seen_by (line_size W) u (c ∷ cs) (step_on W (policy_of s) l c ∷ run W s after cs))
      go true t ih = rw (t, seen_by) ih
      go false t ih =
          rw (t, seen_by)
          (ih ∙ ap (λ (x : List ℕ). last_line x (seen_by (line_size W) u cs (run W s after cs))) (step_other W (policy_of s) l hl c u t))

-- ---- a run

module _ (W : ℕ) (r : Run W) where
  pub fits-policy : length r.ledger ≡ line_size W * (policy_of r.image).head.users
  fits-policy = r.fits ∙ ap (λ (h : Head). line_size W * h.users) (sym (accepted-head r.image r.head r.accepted))

  pub left-length : length (left_by W r) ≡ line_size W * r.head.users
  unfolding left_by events_of
  left-length = last_length W r.image r.head r.accepted r.ledger fits-policy r.calls ∙ r.fits

  pub left-line : (u : ℕ) → line_at (line_size W) u (left_by W r) ≡ last_line (first_line W u r) (view_of W u r)
  unfolding left_by events_of first_line view_of
  left-line u = last_line_lem W r.image r.head r.accepted u r.ledger fits-policy r.calls
