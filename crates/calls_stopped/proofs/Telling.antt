-- The stopped call, a law for each way that it goes, and by what it holds of its image.
-- Assumes nothing.
use mathlib.Core.Path.{◌≡◌, sym, ap, ◌∙◌}
use mathlib.Core.Bool.{Bool, true, not}
use mathlib.Core.List.{List}
use Prim.Native.Nat.{ℕ, ◌+◌, ◌*◌}
use native.Mathlib.Omega.{arith}
use lib.Dec.{eqb}
use lib.ListN.{length}
use borrow.Author.Tests.{eq-eqb, ne_eqb}
use Rattle.model.specs.declared.Head.{Head}
use Rattle.model.specs.declared.Checked.TheVariants.{Accepted, Refused}
use Rattle.model.specs.Sets.{set_of, count}
use Rattle.model.specs.Bytes.{bytes_of}
use Rattle.model.specs.Judgement.{judge}
use Rattle.model.specs.Policy.{Policy, policy_of, meaning}
use Rattle.model.specs.Line.{line_size, sound}
use Rattle.model.specs.Session.{refuse}
use Rattle.model.specs.Run.{line_of, returned, filled_with, answered}
use Rattle.model_laws.proofs.LineLaws.{length-bytes_of}
use Rattle.octets.specs.Splice.{splice}
use Rattle.octets.proofs.Splices.{splice_all}
use Rattle.hierarchy.specs.Replies.{Replies}
use Rattle.hierarchy.proofs.Filling.{filled_whole}
use Rattle.model_stopped.specs.Stopped.{stopped_set, telling, stopped_on, stopped_by, stopped_call}

-- ---- the set

-- whether user u is stopped
abbrev pub stops : ℕ → Policy → List ℕ → ℕ → Bool
stops W p ledger u = not (sound W (meaning p u) (line_of W ledger u))

pub set_all : (W : ℕ) (p : Policy) (ledger : List ℕ) (u found : ℕ) → u ≡ p.head.users → found ≡ set_of (stops W p ledger) u
    → found ≡ stopped_set W p ledger
unfolding stopped_set
set_all W p ledger u found n e = e ∙ ap (set_of (stops W p ledger)) n

-- ---- under an accepted policy
module _ (W : ℕ) (p : Policy) (ledger room : List ℕ) where
  refused_by_lem : (n : ℕ) → stopped_on W p ledger (length room) ≡ refuse n 0 → Replies (stopped_on W p ledger (length room)) n room room
  unfolding refuse returned answered filled_with
  refused_by_lem n q = record { number = omega (arith, ap returned q); bytes = sym (ap (answered room) q) }

  pub no_fit : {n : ℕ} → p.head.users ≡ n → (length ledger ≡ line_size W * n → ⊥) → Replies (stopped_on W p ledger (length room)) 9 room room
  unfolding stopped_on
  no_fit q e =
      refused_by_lem 9 (rw (ne_eqb (length ledger) (line_size W * p.head.users) (λ x. e (x ∙ ap (λ (n : ℕ). line_size W * n) q)), stopped_on))

  module _ {n : ℕ} (q : p.head.users ≡ n) (fits : length ledger ≡ line_size W * n) where
    fit : eqb (length ledger) (line_size W * p.head.users) ≡ true
    fit = eq-eqb (length ledger) (line_size W * p.head.users) (fits ∙ ap (λ (n : ℕ). line_size W * n) (sym q))

    pub no_room : (length room ≡ 8 → ⊥) → Replies (stopped_on W p ledger (length room)) 19 room room
    unfolding stopped_on
    no_room e = refused_by_lem 19 (rw (fit, stopped_on, ne_eqb (length room) 8 e))

    pub tells : length room ≡ 8 → (set k : ℕ) (after : List ℕ) → set ≡ stopped_set W p ledger → k ≡ count 64 set
        → after ≡ splice room 0 (bytes_of 8 set) → Replies (stopped_on W p ledger (length room)) (256 * k) room after
    unfolding stopped_on telling returned answered
    tells e set k after s c a =
        let done : stopped_on W p ledger (length room) ≡ telling set =
        rw (fit, stopped_on, eq-eqb (length room) 8 e) (ap telling (sym s)) in
        let z = length-bytes_of 8 set in
        record {
          number = omega (arith, ap returned done);
          bytes = a ∙ splice_all room (bytes_of 8 set) (z ∙ sym e) ∙ filled_whole room (bytes_of 8 set) (omega arith) ∙ sym (ap (answered room) done);
        }

-- ---- by the image
module _ (s : List ℕ) (W : ℕ) (ledger : List ℕ) {room : List ℕ} where
  -- a refused image ends the call
  pub stopped_refused : {n place r : ℕ} → judge s ≡ Refused n place → r ≡ n + 256 * place → Replies (stopped_call W s ledger (length room)) r room room
  unfolding stopped_call stopped_by returned refuse answered filled_with
  stopped_refused {n} {place} g q =
      let h : stopped_call W s ledger (length room) ≡ refuse n place = rw g in
      record { number = q ∙ sym (ap returned h); bytes = sym (ap (answered room) h) }

  -- else it goes by the policy
  pub stopped_by_lem : {h : Head} {r : ℕ} {bytes : List ℕ} → judge s ≡ Accepted h → Replies (stopped_on W (policy_of s) ledger (length room)) r room bytes
      → Replies (stopped_call W s ledger (length room)) r room bytes
  unfolding stopped_call stopped_by
  stopped_by_lem g e = rw g e
