-- The table call by its image: refused with it, or filled by the policy that its words mean.
-- Assumes nothing.
use mathlib.Core.Path.{◌≡◌, sym, ap, ◌∙◌}
use mathlib.Core.List.{List}
use Prim.Native.Nat.{ℕ, ◌+◌, ◌*◌}
use lib.ListN.{length}
use Rattle.model.specs.declared.Head.{Head}
use Rattle.model.specs.declared.Checked.TheVariants.{Accepted, Refused}
use Rattle.model.specs.Judgement.{judge}
use Rattle.model.specs.Policy.{policy_of}
use Rattle.model.specs.Session.{refuse}
use Rattle.model.specs.Run.{returned, filled_with, answered}
use Rattle.hierarchy.specs.Replies.{Replies}
use Rattle.grant_table.specs.TableCalls.{table_on, table_by, table_call}

module _ (s : List ℕ) {room : List ℕ} where
  -- a refused image ends the call
  pub table_refused : {n place r : ℕ} → judge s ≡ Refused n place → r ≡ n + 256 * place → Replies (table_call s (length room)) r room room
  unfolding table_call table_by returned refuse answered filled_with
  table_refused {n} {place} g q =
      let h : table_call s (length room) ≡ refuse n place = rw g in
      record { number = q ∙ sym (ap returned h); bytes = sym (ap (answered room) h) }

  -- else it goes by the policy
  pub table_by_lem : {h : Head} {r : ℕ} {bytes : List ℕ} → judge s ≡ Accepted h → Replies (table_on (policy_of s) (length room)) r room bytes
      → Replies (table_call s (length room)) r room bytes
  unfolding table_call table_by
  table_by_lem g e = rw g e
