-- Two runs in which each user makes the same calls: a user with a line sees the same by the independence rule, one
-- without a line is refused by 10 throughout, and so every line of the ledger ends the same.
-- Assumes nothing.
use mathlib.Core.Path.{◌≡◌, refl, sym, ap, ap₂, ◌∙◌, subst}
use mathlib.Core.Bool.{Bool, true, false}
use mathlib.Core.List.{List}
use Prim.Native.Nat.{ℕ, ◌*◌, ◌≤◌, ◌<◌}
use lib.Dec.{ltb}
use borrow.Author.Tests.{ltb-true, ltb-false}
use Rattle.model.specs.Policy.{policy_of, has_limits, Agree, excludes}
use Rattle.model.specs.Line.{line_size}
use Rattle.model.specs.Run.{line_at}
use Rattle.model.specs.OwnWords.{own_words}
use Rattle.model.specs.Independence.{Run, view_of, first_line, SameFor}
use Rattle.model_laws.proofs.IndependenceProof.{independence, untold_same}
use Rattle.model_runs.specs.Ends.{left_by, last_line}
use Rattle.model_runs.proofs.EndLaws.{left-length, left-line}
use Rattle.model_runs.proofs.Strangers.{strange, users_in, without-line}
use Rattle.model_interleaved.specs.Beside.{SameCalls, Interleaved, AnyOrder}
use Rattle.model_interleaved.proofs.LinesProof.{by_lines}

-- ---- two runs
module _ (W : ℕ) (r s : Run W) (h : SameCalls W r s) (free : has_limits (policy_of r.image) ≡ false) where
  same_line : (u : ℕ) → first_line W u r ≡ first_line W u s
  unfolding first_line
  same_line u = ap (line_at (line_size W) u) h.ledger

  same_for : (u : ℕ) → u < r.head.users → SameFor W u r s
  unfolding excludes
  same_for u below =
      let agree : Agree u (policy_of r.image) (policy_of s.image) =
      subst (λ (t : List ℕ). Agree u (policy_of r.image) (policy_of t)) h.image
      (record { heads = refl; own = refl; grants = refl; seniors = refl; exclusions = λ x. refl; limits = refl }) in
      record {
        agree = agree;
        below = below;
        line = same_line u;
        calls = h.calls u;
        told = untold_same W u r s agree free;
      }

  same_users : r.head.users ≡ s.head.users
  same_users = sym (users_in W r) ∙ ap (λ (t : List ℕ). (policy_of t).head.users) h.image ∙ users_in W s

  seen_strange : (u : ℕ) → r.head.users ≤ u → view_of W u r ≡ view_of W u s
  seen_strange u above = without-line W r u above ∙ ap strange (h.calls u) ∙ sym (without-line W s u (rw (← same_users) above))

  seen_same : (u : ℕ) → view_of W u r ≡ view_of W u s
  seen_same u = go (ltb u r.head.users) refl
    where
      go : (b : Bool) → ltb u r.head.users ≡ b → view_of W u r ≡ view_of W u s
      go true e = (independence W u r s (same_for u (ltb-true u r.head.users e))).same (λ _. ap (own_words u) h.image)
      go false e = seen_strange u (ltb-false u r.head.users e)

  interleaved : Interleaved W r s
  interleaved =
      record {
        seen = seen_same;
        left =
            by_lines (line_size W) r.head.users (left_by W r) (left_by W s) (left-length W r)
            (left-length W s ∙ ap (λ (n : ℕ). line_size W * n) (sym same_users))
            (λ u _. left-line W r u ∙ ap₂ last_line (same_line u) (seen_same u) ∙ sym (left-line W s u));
      }

pub any_order : (W : ℕ) → AnyOrder W
any_order W r s h free = interleaved W r s h free
