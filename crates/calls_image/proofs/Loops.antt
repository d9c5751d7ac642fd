-- The loop call by its image: refused by its words, or shown by the policy that they mean.
-- Assumes nothing.
use mathlib.Core.Path.{◌≡◌, sym, ap, ◌∙◌}
use mathlib.Core.List.{List}
use Prim.Native.Nat.{ℕ, ◌+◌, ◌*◌}
use lib.ListN.{length}
use Rattle.model.specs.declared.Head.{Head}
use Rattle.model.specs.declared.Checked.TheVariants.{Accepted, Refused}
use Rattle.model.specs.Image.{judge_words}
use Rattle.model.specs.Policy.{policy_of}
use Rattle.model.specs.Ranges.{InRange}
use Rattle.model.specs.Session.{refuse}
use Rattle.model.specs.Loop.{loop_on, loop_by, loop_call}
use Rattle.model.specs.Run.{returned, filled_with, answered}
use Rattle.model_laws.proofs.Accepted.{words_head, words_in_range}
use Rattle.hierarchy.specs.Replies.{Replies}
use Rattle.hierarchy_loop.specs.Chained.{Ranged}

module _ (s : List ℕ) where
  -- an image that its words refuse ends the call
  pub loop-refused : (room : List ℕ) {n place r : ℕ} → judge_words s ≡ Refused n place → r ≡ n + 256 * place
      → Replies (loop_call s (length room)) r room room
  unfolding loop_call loop_by returned refuse answered filled_with
  loop-refused room {n} {place} g q =
      let h : loop_call s (length room) ≡ refuse n place = rw g in
      record { number = q ∙ sym (ap returned h); bytes = sym (ap (answered room) h) }

  module _ {h : Head} (g : judge_words s ≡ Accepted h) where
    -- else it goes by the policy
    pub loop-by : {r : ℕ} {room bytes : List ℕ} → Replies (loop_on (policy_of s) (length room)) r room bytes → Replies (loop_call s (length room)) r room bytes
    unfolding loop_call loop_by
    loop-by e = rw g e

    pub loop-range : InRange (policy_of s)
    loop-range = words_in_range s h g

    pub loop-roles : (policy_of s).head.roles ≡ h.roles
    loop-roles = ap (λ (x : Head). x.roles) (words_head s h g)

    -- whose table of juniors is in range
    pub ranged : {juniors : List ℕ} → juniors ≡ (policy_of s).juniors → Ranged juniors h.roles
    ranged e = record { policy = policy_of s; range = loop-range; juniors_are = e; roles_are = loop-roles }
