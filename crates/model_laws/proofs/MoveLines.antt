-- The lines of a ledger that a move makes.
-- Assumes nothing.
use mathlib.Core.Path.{◌≡◌, refl, sym, ap, ap₂, ◌∙◌, subst}
use mathlib.Core.Bool.{true, not}
use mathlib.Core.List.{List, ◌++◌}
use Prim.Native.Nat.{ℕ, zero, suc, ◌+◌, ◌*◌, ◌^◌, ◌<◌}
use native.Mathlib.Nat.{mul-suc, mul-zero, add-zero, add-suc, suc-add}
use native.Mathlib.Omega.{arith}
use lib.Dec.{eqb, ltb}
use lib.ListN.{length, take, drop, length-append, take-append-drop}
use lib.Seq.{take_at, drop-append-add, drop-drop, drop-length}
use borrow.Author.Tests.{eqb-true, eqb-false, ltb-true, lt-ltb, not-false}
use Rattle.model.specs.Tests.{pick}
use Rattle.model.specs.Policy.{Policy, Meaning, meaning}
use Rattle.model.specs.Line.{line_size, read_line, sound}
use Rattle.model.specs.Session.{refuse, done}
use Rattle.model.specs.Run.{line_at}
use Rattle.model.specs.Moves.{resized, line_fault, move_answer, resized_lines}
use Rattle.model_laws.proofs.Bools.{pick-case, elim_case}
use Rattle.model_laws.proofs.Resizing.{length-resized}

-- ---- the lines resized
module _ (F W : ℕ) (old : List ℕ) where
  pub length-lines : (u n : ℕ) → length (resized_lines F W old u n) ≡ line_size W * n
  unfolding resized_lines
  length-lines u zero = sym (mul-zero (line_size W))
  length-lines u (suc n) =
      simp (length-append, length-resized, length-lines (suc u) n) (omega (arith, mul-suc (line_size W) n))

  -- the k-th is the old one, resized
  pub line-of : (u n k : ℕ) → k < n → line_at (line_size W) k (resized_lines F W old u n) ≡ resized W (line_at (line_size F) (u + k) old)
  unfolding resized_lines line_at
  line-of u zero k h = absurd (omega arith)
  line-of u (suc n) zero h =
      let x = resized W (line_at (line_size F) u old) in
      ap (λ (i : ℕ). take (line_size W) (drop i (x ++ resized_lines F W old (suc u) n))) (mul-zero (line_size W))
      ∙ take_at x (resized_lines F W old (suc u) n) (line_size W) (length-resized W _)
      ∙ ap (λ (x : ℕ). resized W (line_at (line_size F) x old)) (sym (add-zero u))
  line-of u (suc n) (suc k) h =
      let x = resized W (line_at (line_size F) u old) in
      let e : line_size W * suc k ≡ length x + line_size W * k = omega (arith, mul-suc (line_size W) k, length-resized W (line_at (line_size F) u old)) in
      ap (λ (i : ℕ). take (line_size W) (drop i (x ++ resized_lines F W old (suc u) n))) e
      ∙ ap (take (line_size W)) (drop-append-add x (resized_lines F W old (suc u) n) (line_size W * k))
      ∙ line-of (suc u) n k (omega arith)
      ∙ ap (λ (i : ℕ). resized W (line_at (line_size F) i old)) (suc-add u k ∙ sym (add-suc u k))

-- lines that resize to those of another ledger make that ledger
pub lines_back : (F W : ℕ) (new old : List ℕ) (n u : ℕ) → length old ≡ line_size W * (u + n)
    → ((k : ℕ) → k < u + n → resized W (line_at (line_size F) k new) ≡ line_at (line_size W) k old)
    → resized_lines F W new u n ≡ drop (line_size W * u) old
unfolding resized_lines
lines_back F W new old zero u e h =
    sym (ap (λ (x : ℕ). drop x old) (ap (λ (x : ℕ). line_size W * x) (sym (add-zero u)) ∙ sym e) ∙ drop-length old)
lines_back F W new old (suc n) u e h =
    let s : u + suc n ≡ suc u + n = add-suc u n ∙ sym (suc-add u n) in
    ap₂ {C = List ℕ} (λ (x y : List ℕ). x ++ y) (h u (omega arith))
    (lines_back F W new old n (suc u) (e ∙ ap (λ (x : ℕ). line_size W * x) s) (λ k i. h k (omega arith))
    ∙ ap (λ (x : ℕ). drop x old) (mul-suc (line_size W) u) ∙ sym (drop-drop (line_size W) (line_size W * u) old))
    ∙ unfold line_at in (take-append-drop (line_size W) (drop (line_size W * u) old))

-- ---- the answer

-- a line without fault is sound, and has no session from W on open
pub record Movable (F W : ℕ) (m : Meaning) (bs : List ℕ) : Type 0 where
  pub is_sound : sound F m (read_line F bs) ≡ true
  pub is_low : (read_line F bs).opened < 2 ^ W

module _ (F W : ℕ) (m : Meaning) (bs : List ℕ) where
  pub fault_none : line_fault F W m bs ≡ 0 → Movable F W m bs
  unfolding line_fault pick
  fault_none e =
      pick-case (λ x. x ≡ 0 → Movable F W m bs) (not (sound F m (read_line F bs))) 11 _ (λ _ z. absurd (omega arith))
      (λ p. pick-case (λ x. x ≡ 0 → Movable F W m bs) (not (ltb (read_line F bs).opened (2 ^ W))) 24 0 (λ _ z. absurd (omega arith))
      (λ q _. record { is_sound = not-false _ p; is_low = ltb-true _ _ (not-false _ q) })) e

  pub none_fault : Movable F W m bs → line_fault F W m bs ≡ 0
  unfolding line_fault pick
  none_fault p = rw (p.is_sound, lt-ltb _ _ p.is_low)

module _ (F W : ℕ) (p : Policy) (old : List ℕ) where
  abbrev pub MovableLine : ℕ → Type 0
  MovableLine u = Movable F W (meaning p u) (line_at (line_size F) u old)

  -- done, where no line has a fault
  pub answer_done : (n u : ℕ) → ((k : ℕ) → k < u + n → MovableLine k) → move_answer F W p old u n ≡ done 0
  unfolding move_answer
  answer_done zero u h = refl
  answer_done (suc n) u h =
      rw (eq u (h u (omega arith)), move_answer) (answer_done n (suc u) (λ k i. h k (omega arith)))
    where
      eq : (u : ℕ) → MovableLine u → eqb (line_fault F W (meaning p u) (line_at (line_size F) u old)) 0 ≡ true
      eq u m = rw (none_fault F W (meaning p u) (line_at (line_size F) u old) m)

  -- and only there
  done-parts : (n u : ℕ) → (move_answer F W p old u (suc n)).number ≡ 0
      → (line_fault F W (meaning p u) (line_at (line_size F) u old) ≡ 0) × ((move_answer F W p old (suc u) n).number ≡ 0)
  unfolding move_answer refuse
  done-parts n u e =
      let x = line_fault F W (meaning p u) (line_at (line_size F) u old) in
      let r = move_answer F W p old (suc u) n in
      elim_case (λ a. a.number ≡ 0 → (x ≡ 0) × (r.number ≡ 0)) (eqb x 0) r (refuse x u) (λ q z. (eqb-true x 0 q, z))
      (λ q z. absurd (eqb-false x 0 q z)) e

  pub done_answer : (n u : ℕ) → (move_answer F W p old u n).number ≡ 0 → (k : ℕ) → k < n → MovableLine (u + k)
  done_answer zero u e k h = absurd (omega arith)
  done_answer (suc n) u e zero h =
      subst MovableLine (sym (add-zero u)) (fault_none F W (meaning p u) (line_at (line_size F) u old) (done-parts n u e).0)
  done_answer (suc n) u e (suc k) h =
      subst MovableLine (suc-add u k ∙ sym (add-suc u k)) (done_answer n (suc u) (done-parts n u e).1 k (omega arith))
