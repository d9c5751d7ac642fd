-- Laws of the lines of a ledger, one a turn, and of a move by them.
-- Assumes nothing.
use mathlib.Core.Path.{◌≡◌, refl, sym, ap, ap₂, ◌∙◌}
use mathlib.Core.Bool.{Bool, true, false}
use mathlib.Core.List.{List, ◌++◌, append_assoc, append-nil}
use Prim.Native.Nat.{ℕ, zero, suc, ◌+◌, ◌-◌, ◌*◌, ◌≤◌, ◌<◌}
use native.Mathlib.Nat.{zero-add, add-zero, add-suc, suc-add, mul-le-mul}
use native.Mathlib.Numerals.{add-one}
use native.Mathlib.Omega.{arith}
use lib.Dec.{eqb}
use lib.ListN.{length}
use borrow.Author.Tests.{eq-eqb, ne_eqb}
use Rattle.model.specs.Tests.{pick}
use Rattle.model.specs.Policy.{Policy, meaning}
use Rattle.model.specs.Line.{line_size}
use Rattle.model.specs.Session.{Reply, refuse, done}
use Rattle.model.specs.Run.{Event, line_at, returned}
use Rattle.model.specs.Moves.{resized, line_fault, move_answer, resized_lines, written_if, move_on}
use Rattle.model_laws.proofs.LedgerLaws.{apart}
use Rattle.model_laws.proofs.Resizing.{length-resized}
use Rattle.model_laws.proofs.MoveLines.{length-lines, answer_done, done_answer}
use Rattle.octets.specs.Splice.{splice}
use Rattle.octets.proofs.Splices.{splice-splice}
use Rattle.sessions.specs.Calls.{Gives}
use Rattle.sessions.proofs.FirstSteps.{refused_by}

-- a line among those of n users, of z bytes each, has its bytes
pub line_inside : (z u n : ℕ) (l : List ℕ) → length l ≡ z * n → u < n → z * u + z ≤ length l
line_inside z u n l fits h = rw fits (apart z u n h)

-- the size of a line of F sessions, and of the lines of n users
pub size_most : (F W size : ℕ) → size ≡ line_size F → F ≤ W → size ≤ line_size W
unfolding line_size
size_most F W size e h = omega arith

pub lines-most : (F W size n : ℕ) → size ≡ line_size F → F ≤ W → n ≤ 64 → size * n ≤ line_size W * 64
lines-most F W size n e h i = mul-le-mul (size_most F W size e h) i

-- the fault of user u's line, by the bytes that code found
pub fault_at : {F S : ℕ} (T : ℕ) (p : Policy) (old : List ℕ) (u : ℕ) {n : ℕ} {bs : List ℕ} → S ≡ F → bs ≡ line_at (line_size F) u old
    → n ≡ line_fault S T (meaning p u) bs → n ≡ line_fault F T (meaning p u) (line_at (line_size F) u old)
fault_at T p old u e k q = q ∙ ap₂ (λ (s : ℕ) (l : List ℕ). line_fault s T (meaning p u) l) e k

-- ---- the answer, from user u on of n
module _ (F W : ℕ) (p : Policy) (old : List ℕ) (u n : ℕ) where
  abbrev fault : ℕ
  fault = line_fault F W (meaning p u) (line_at (line_size F) u old)

  -- by whether its line has none
  abbrev answered : Bool → Reply
  answered b = elim b [ true ↦ move_answer F W p old (suc u) (n - (u + 1)) | false ↦ refuse fault u ]

  answer_here : u < n → move_answer F W p old u (n - u) ≡ answered (eqb fault 0)
  unfolding move_answer
  answer_here h =
      let e : n - u ≡ suc (n - (u + 1)) = omega arith in
      rw (e, move_answer) refl

  pub answer_next : u < n → fault ≡ 0 → move_answer F W p old (u + 1) (n - (u + 1)) ≡ move_answer F W p old u (n - u)
  answer_next h e =
      sym (answer_here h ∙ ap answered (eq-eqb fault 0 e) ∙ ap (λ (k : ℕ). move_answer F W p old k (n - (u + 1))) (sym (add-one u)))

  pub answer_stop : u < n → (fault ≡ 0 → ⊥) → fault + 256 * u ≡ returned (move_answer F W p old u (n - u))
  unfolding returned refuse
  answer_stop h e = sym (ap returned (answer_here h ∙ ap answered (ne_eqb fault 0 e)))

  pub answer_end : n ≤ u → 0 ≡ returned (move_answer F W p old u (n - u))
  unfolding move_answer returned done
  answer_end h = let e : n - u ≡ 0 = omega arith in rw e

-- an answer of number 0 has no extra
pub answer_zero : (F W : ℕ) (p : Policy) (old : List ℕ) (n : ℕ) → (move_answer F W p old 0 n).number ≡ 0 → move_answer F W p old 0 n ≡ done 0
answer_zero F W p old n e =
    answer_done F W p old n 0
    (λ k h. let i : k < n = omega (arith, zero-add n) in
    rw (zero-add k) at (done_answer F W p old n 0 e k i))

-- ---- the lines written, from user 0 up
lines_snoc : (F W : ℕ) (old : List ℕ) (n u : ℕ)
    → resized_lines F W old u (suc n) ≡ resized_lines F W old u n ++ resized W (line_at (line_size F) (u + n) old)
unfolding resized_lines
lines_snoc F W old zero u =
    append-nil (resized W (line_at (line_size F) u old)) ∙ ap (λ (k : ℕ). resized W (line_at (line_size F) k old)) (sym (add-zero u))
lines_snoc F W old (suc n) u =
    let x = resized W (line_at (line_size F) u old) in
    ap (λ (l : List ℕ). x ++ l) (lines_snoc F W old n (suc u)
    ∙ ap (λ (k : ℕ). resized_lines F W old (suc u) n ++ resized W (line_at (line_size F) k old)) (suc-add u n ∙ sym (add-suc u n)))
    ∙ sym (append_assoc x (resized_lines F W old (suc u) n) (resized W (line_at (line_size F) (u + suc n) old)))

lines_next : (F W : ℕ) (old new : List ℕ) (u n : ℕ) → u < n → length new ≡ line_size W * n
    → splice (splice new 0 (resized_lines F W old 0 u)) (line_size W * u) (resized W (line_at (line_size F) u old))
    ≡ splice new 0 (resized_lines F W old 0 (u + 1))
lines_next F W old new u n h fits =
    let xs = resized_lines F W old 0 u in
    let x = resized W (line_at (line_size F) u old) in
    let e : length xs ≡ line_size W * u = length-lines F W old 0 u in
    let k : 0 + length xs ≡ line_size W * u = omega arith in
    ap (λ (i : ℕ). splice (splice new 0 xs) i x) (sym k)
    ∙ splice-splice new 0 xs x (omega (arith, apart (line_size W) u n h, length-resized W (line_at (line_size F) u old)))
    ∙ ap (splice new 0) (sym (lines_snoc F W old u 0 ∙ ap (λ (i : ℕ). xs ++ resized W (line_at (line_size F) i old)) (zero-add u))
    ∙ ap (resized_lines F W old 0) (sym (add-one u)))

-- a turn of the loop that writes them
pub lines_put : (F T : ℕ) (old new₀ new after bs : List ℕ) (u n : ℕ) → u < n → length new₀ ≡ line_size T * n
    → new ≡ splice new₀ 0 (resized_lines F T old 0 u) → bs ≡ line_at (line_size F) u old
    → after ≡ splice new (line_size T * u) (resized T bs) → after ≡ splice new₀ 0 (resized_lines F T old 0 (u + 1))
lines_put F T old new₀ new after bs u n h fits inv k put =
    put ∙ ap₂ (λ (x y : List ℕ). splice x (line_size T * u) (resized T y)) inv k
    ∙ lines_next F T old new₀ u n h fits

-- ---- a move under an accepted policy
module _ (F W : ℕ) (p : Policy) (old new : List ℕ) where
  abbrev users : ℕ
  users = p.head.users

  pub move9 : (length old ≡ line_size F * users → ⊥) → move_on F W p old new ≡ refused_by 9 new
  unfolding move_on pick
  move9 h = simp (ne_eqb _ _ h)

  pub move19 : length old ≡ line_size F * users → (length new ≡ line_size W * users → ⊥) → move_on F W p old new ≡ refused_by 19 new
  unfolding move_on pick
  move19 h i = simp (eq-eqb _ _ h, ne_eqb _ _ i)

  -- where both fit, it goes by the answer to the lines
  module _ (fits-old : length old ≡ line_size F * users) (fits-new : length new ≡ line_size W * users) (n count : ℕ)
      (all_users : users ≡ count) (found : n ≡ returned (move_answer F W p old 0 count)) where
    answer : n ≡ returned (move_answer F W p old 0 users)
    answer = found ∙ ap (λ (k : ℕ). returned (move_answer F W p old 0 k)) (sym all_users)

    by_answer : move_on F W p old new ≡ written_if (move_answer F W p old 0 users) (resized_lines F W old 0 users) new
    unfolding move_on pick
    by_answer = simp (eq-eqb _ _ fits-old, eq-eqb _ _ fits-new)

    pub move_faulty : (n ≡ 0 → ⊥) → Gives (move_on F W p old new) n new
    unfolding written_if pick
    move_faulty z =
        let k : (move_answer F W p old 0 users).number ≡ 0 → ⊥ = λ e. z (answer ∙ unfold returned done in (ap returned (answer_zero F W p old users e))) in
        record {
          number = answer ∙ sym (ap (λ (e : Event). returned e.reply) by_answer);
          bytes = sym (ap (λ (e : Event). e.ledger) by_answer ∙ ap (λ (b : Bool). pick b (resized_lines F W old 0 users) new) (ne_eqb _ _ k));
        }

    pub move-done : n ≡ 0 → (after : List ℕ) → after ≡ resized_lines F W old 0 count → Gives (move_on F W p old new) 0 after
    unfolding written_if pick returned
    move-done z after w =
        let q : 0 ≡ (move_answer F W p old 0 users).number + 256 * (move_answer F W p old 0 users).extra = sym z ∙ answer in
        let k : (move_answer F W p old 0 users).number ≡ 0 = omega arith in
        record {
          number = sym z ∙ answer ∙ sym (ap (λ (e : Event). returned e.reply) by_answer);
          bytes = w ∙ ap (resized_lines F W old 0) (sym all_users)
              ∙ sym (ap (λ (e : Event). e.ledger) by_answer ∙ ap (λ (b : Bool). pick b (resized_lines F W old 0 users) new) (eq-eqb _ _ k));
        }
