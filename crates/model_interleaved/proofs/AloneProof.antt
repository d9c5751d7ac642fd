-- A call reads its user's line alone: the ledger with every other line zeroed has the same length and the same line of
-- the user, and the session rules are fed no more of it, unless they are told of other users.
-- Assumes nothing.
use mathlib.Core.Path.{◌≡◌, refl, sym, ap, ◌∙◌}
use mathlib.Core.Logic.{◌⊎◌, inl, inr}
use mathlib.Core.Bool.{Bool, true, false, not}
use mathlib.Core.List.{List, ◌++◌, append-nil}
use Prim.Native.Nat.{ℕ, ◌+◌, ◌*◌, ◌≤◌, ◌<◌}
use native.Mathlib.Omega.{arith}
use native.Mathlib.Decide.{dec_lt}
use lib.Dec.{eqb, ltb}
use lib.ListN.{length, take, drop, length-append, length-drop, length-replicate, drop_of_length-le}
use lib.Seq.{take_at, drop_at, take-take, length-take-le}
use borrow.Author.Tests.{eqb-true, ltb-true}
use Rattle.model.specs.declared.Checked.{Checked}
use Rattle.model.specs.declared.Checked.TheVariants.{Accepted, Refused}
use Rattle.model.specs.Tests.{pick}
use Rattle.model.specs.Judgement.{judge}
use Rattle.model.specs.Policy.{Policy, policy_of, has_limits, meaning}
use Rattle.model.specs.Line.{line_size}
use Rattle.model.specs.Limits.{nobody}
use Rattle.model.specs.Session.{is_ask, refuse, Result, rule}
use Rattle.model.specs.Run.{Call, line_at, with_line, told, ruled, step_on, step_by, step}
use Rattle.model_laws.proofs.LedgerLaws.{own_line, with_line_same, new_length}
use Rattle.model_laws.proofs.IndependenceProof
use Rattle.model_interleaved.specs.Beside.{zeroed, alone_with, Alike, Alone}

-- ---- the ledger

zeroed-length : (bs : List ℕ) → length (zeroed bs) ≡ length bs
unfolding zeroed
zeroed-length bs = length-replicate (length bs) 0

module _ (z u : ℕ) (l : List ℕ) where
  pub alone_length : length (alone_with z u l) ≡ length l
  unfolding alone_with with_line
  alone_length = simp (length-append, zeroed-length) (simp length-append at (ap length (own_line z u l)))

  -- a line inside the ledger, one that the ledger's end cuts short, and one behind it
  inside : z * u + z ≤ length l → line_at z u (alone_with z u l) ≡ line_at z u l
  unfolding alone_with line_at
  inside h =
      let before : length (zeroed (take (z * u) l)) ≡ z * u = zeroed-length (take (z * u) l) ∙ length-take-le (z * u) l (omega arith) in
      rw (drop_at (zeroed (take (z * u) l)) (take z (drop (z * u) l) ++ zeroed (drop (z * u + z) l)) (z * u) before)
      (take_at (take z (drop (z * u) l)) (zeroed (drop (z * u + z) l)) z (length-take-le z (drop (z * u) l) (rw length-drop (omega arith))))

  cut : z * u ≤ length l → length l ≤ z * u + z → line_at z u (alone_with z u l) ≡ line_at z u l
  unfolding alone_with line_at zeroed
  cut h k =
      let before : length (zeroed (take (z * u) l)) ≡ z * u = zeroed-length (take (z * u) l) ∙ length-take-le (z * u) l (omega arith) in
      rw (drop_at (zeroed (take (z * u) l)) (take z (drop (z * u) l) ++ zeroed (drop (z * u + z) l)) (z * u) before)
      (rw (drop_of_length-le l k, append-nil) (take-take z z (drop (z * u) l) (omega arith)))

  behind : length l ≤ z * u → line_at z u (alone_with z u l) ≡ line_at z u l
  unfolding line_at
  behind h =
      let k : length (alone_with z u l) ≤ z * u = rw alone_length h in
      rw (drop_of_length-le l h, drop_of_length-le (alone_with z u l) k)

  pub alone_line : line_at z u (alone_with z u l) ≡ line_at z u l
  alone_line =
      elim (dec_lt (length l) (z * u)) [
        | yes h ↦ behind (omega arith)
        | no h ↦ elim (dec_lt (length l) (z * u + z)) [ yes k ↦ cut (omega arith) (omega arith) | no k ↦ inside (omega arith) ]
      ]

-- ---- one call

-- a call that is told nothing of other users
told-nothing : (W : ℕ) (p : Policy) (l : List ℕ) (c : Call) → (has_limits p ≡ false) ⊎ (is_ask c.operation ≡ false) → told W p l c ≡ nobody
unfolding told
told-nothing W p l c (inl e) = IndependenceProof.told-nothing W p e l c
told-nothing W p l c (inr e) = rw (e, told)

module _ (W : ℕ) (p : Policy) (c : Call) (free : (has_limits p ≡ false) ⊎ (is_ask c.operation ≡ false)) (l : List ℕ) where
  abbrev solo : List ℕ
  solo = alone_with (line_size W) c.user l

  -- the session rules are fed the same
  same_rule : rule W (meaning p c.user) (told W p solo c) (line_at (line_size W) c.user solo) c.operation
      ≡ rule W (meaning p c.user) (told W p l c) (line_at (line_size W) c.user l) c.operation
  same_rule =
      rw (told-nothing W p l c free, told-nothing W p solo c free)
      (ap (λ (bs : List ℕ). rule W (meaning p c.user) nobody bs c.operation) (alone_line (line_size W) c.user l))

  -- a call that the session rules do not see
  refused : (n x : ℕ)
      → Alike (line_size W) c.user (record { reply = refuse n x; ledger = solo }) (record { reply = refuse n x; ledger = l })
  refused n x = record { reply = refl; line = alone_line (line_size W) c.user l }

  on_line : length l ≡ line_size W * p.head.users → c.user < p.head.users
      → Alike (line_size W) c.user (ruled W p solo c) (ruled W p l c)
  unfolding ruled
  on_line hl hu =
      let z = line_size W in
      let ha : length solo ≡ z * p.head.users = alone_length z c.user l ∙ hl in
      record {
        reply = ap (λ (r : Result). r.reply) same_rule;
        line =
            with_line_same z c.user p.head.users _ solo (new_length W p solo ha c hu) ha hu
            ∙ ap (λ (r : Result). r.line) same_rule
            ∙ sym (with_line_same z c.user p.head.users _ l (new_length W p l hl c hu) hl hu);
      }

  step_on-alike : Alike (line_size W) c.user (step_on W p solo c) (step_on W p l c)
  unfolding step_on pick
  step_on-alike =
      rw (alone_length (line_size W) c.user l)
      (go (eqb (length l) (line_size W * p.head.users)) refl (ltb c.user p.head.users) refl)
    where
      go : (a : Bool) → eqb (length l) (line_size W * p.head.users) ≡ a → (b : Bool) → ltb c.user p.head.users ≡ b
          → Alike (line_size W) c.user
          (pick (not a) (record { reply = refuse 9 0; ledger = solo }) (pick (not b) (record { reply = refuse 10 0; ledger = solo }) (ruled W p solo c)))
          (pick (not a) (record { reply = refuse 9 0; ledger = l }) (pick (not b) (record { reply = refuse 10 0; ledger = l }) (ruled W p l c)))
      go false e b f = refused 9 0
      go true e false f = refused 10 0
      go true e true f = on_line (eqb-true _ _ e) (ltb-true _ _ f)

  step_by-alike : (v : Checked) → Alike (line_size W) c.user (step_by W v p solo c) (step_by W v p l c)
  unfolding step_by
  step_by-alike (Accepted h) = step_on-alike
  step_by-alike (Refused n x) = refused n x

pub alone : (W : ℕ) → Alone W
unfolding step
alone W image l c free = step_by-alike W (policy_of image) c free l (judge image)
