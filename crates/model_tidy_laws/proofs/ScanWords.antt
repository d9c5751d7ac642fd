-- The scan of an image as a condition on its words: it accepts exactly if every word is without fault and the sum
-- balances.
-- Assumes nothing.
use mathlib.Core.Path.{◌≡◌, refl, sym, ap, ◌∙◌, subst}
use mathlib.Core.Bool.{Bool, true, false, not, true≢false}
use mathlib.Core.List.{List, [], ◌∷◌}
use Prim.Native.Nat.{ℕ, zero, suc, ◌+◌, ◌-◌, ◌%◌, ◌^◌}
use native.Mathlib.Omega.{arith}
use lib.Dec.{eqb, eqb-suc-zero}
use lib.ListN.{length}
use borrow.Author.Tests.{eqb-true, eq-eqb, not-false}
use Rattle.model.specs.declared.Head.{Head}
use Rattle.model.specs.declared.Word.{Word}
use Rattle.model.specs.declared.Scan.{Scan}
use Rattle.model.specs.declared.Checked.{Checked}
use Rattle.model.specs.declared.Checked.TheVariants.{Accepted, Refused}
use Rattle.model.specs.Tests.{pick}
use Rattle.model.specs.Image.{word_at, behind_head, decode, wrong_kind, in_range, repeats, crowds, entry_fault, fault, assigning, next, balanced, scan, head_of, head_right, length_right, empty_rows, start, judge_words}
use Rattle.model.specs.Words.{sum_of}
use Rattle.model.specs.OwnWords.{words_from}
use Rattle.model_tidy.specs.Groups.{words_behind, entry_of}
use Rattle.model_laws.proofs.Scanned.{no_fault}

-- ---- a word without fault
pub record Clean (h : Head) (rows : List ℕ) (t : Scan) (final : Bool) (w : Word) : Type 0 where
  pub kind : wrong_kind final t.due w.entry ≡ false
  pub spare : w.spare ≡ 0
  pub range : in_range h w.entry ≡ true
  pub fresh : repeats t w.entry ≡ false
  pub room : crowds rows t w.entry ≡ false

-- a fault that does not hold leaves the others to decide
past-fault : (c : Bool) (n x : ℕ) → c ≡ false → eqb x 0 ≡ true → eqb (pick c (suc n) x) 0 ≡ true
unfolding pick
past-fault true n x c e = absurd (true≢false c)
past-fault false n x c e = e

-- a test that holds does not fail
not_of : (b : Bool) → b ≡ true → not b ≡ false
not_of true e = refl
not_of false e = absurd (true≢false (sym e))

module _ (h : Head) (rows : List ℕ) (t : Scan) (final : Bool) (w : Word) where
  clean_of : eqb (fault h rows t final w) 0 ≡ true → Clean h rows t final w
  unfolding fault entry_fault
  clean_of e =
      let a = no_fault _ 2 _ e in
      let b = no_fault _ 3 _ a.1 in
      let c = no_fault _ 4 _ b.1 in
      let d = no_fault _ 5 _ c.1 in
      record {
        kind = a.0;
        spare = eqb-true w.spare 0 (not-false _ b.0);
        range = not-false _ c.0;
        fresh = d.0;
        room = (no_fault _ 6 _ d.1).0;
      }

  fault-of : Clean h rows t final w → eqb (fault h rows t final w) 0 ≡ true
  unfolding fault entry_fault
  fault-of c =
      past-fault _ 2 _ c.kind
      (past-fault _ 3 _ (not_of (eqb w.spare 0) (eq-eqb w.spare 0 c.spare))
      (past-fault _ 4 _ (not_of (in_range h w.entry) c.range)
      (past-fault _ 5 _ c.fresh (past-fault _ 6 _ c.room refl))))

-- ---- words without fault, each in the state that those before it leave

-- no word is left
abbrev pub none : List ℕ → Bool
none [] = true
none (w ∷ ws) = false

abbrev pub Scans : Head → List ℕ → Scan → List ℕ → Type 0
Scans h rows t [] = Unit {0}
Scans h rows t (w ∷ ws) = Clean h rows t (none ws) (decode w) × Scans h (assigning rows (entry_of w)) (next t (entry_of w)) ws

-- the scan's test for the last word
last_word : (s : List ℕ) (n place : ℕ) → eqb n 0 ≡ none (words_from s n place)
unfolding words_from
last_word s zero place = refl
last_word s (suc n) place = eqb-suc-zero n

-- ---- the answers of the scan taken apart
same_head : (h k : Head) → Accepted h ≡ Accepted k → h ≡ k
same_head h k e = cc

not_refused : (n place : ℕ) (k : Head) → Refused n place ≡ Accepted k → ⊥
not_refused n place k e = let z : ◌≡◌ {A = ℕ} 0 1 = cc in omega arith

-- the sum, reduced at each word or at the end
sum_on : (sum w rest : ℕ) → ((sum + w) % 2 ^ 32 + rest) % 2 ^ 28 ≡ (sum + (w + rest)) % 2 ^ 28
sum_on sum w rest = omega arith

-- a scan that accepts has words without fault
scan_passes : (s : List ℕ) (h k : Head) (n place : ℕ) (rows : List ℕ) (t : Scan) (sum : ℕ) → scan s h n place rows t sum ≡ Accepted k
    → Scans h rows t (words_from s n place) × ((sum + sum_of (words_from s n place)) % 2 ^ 28 ≡ 0) × (h ≡ k)
unfolding scan words_from sum_of balanced pick
scan_passes s h k zero place rows t sum e = go (eqb (sum % 2 ^ 28) 0) refl e
  where
    go : (b : Bool) → eqb (sum % 2 ^ 28) 0 ≡ b → pick b (Accepted h) (Refused 8 (place - 1)) ≡ Accepted k
        → Unit {0} × ((sum + 0) % 2 ^ 28 ≡ 0) × (h ≡ k)
    go true q e = (tt, omega (arith, eqb-true (sum % 2 ^ 28) 0 q), same_head h k e)
    go false q e = absurd (not_refused 8 (place - 1) k e)
scan_passes s h k (suc n) place rows t sum e =
    go (eqb (fault h rows t (eqb n 0) (decode (word_at s place))) 0) refl e
    (scan_passes s h k n (place + 1) (assigning rows (entry_of (word_at s place))) (next t (entry_of (word_at s place))) ((sum + word_at s place) % 2 ^ 32))
  where
    w : ℕ
    w = word_at s place

    rest : Checked
    rest = scan s h n (place + 1) (assigning rows (entry_of w)) (next t (entry_of w)) ((sum + w) % 2 ^ 32)

    go : (b : Bool) → eqb (fault h rows t (eqb n 0) (decode w)) 0 ≡ b
        → elim b [ true ↦ rest | false ↦ Refused (fault h rows t (eqb n 0) (decode w)) place ] ≡ Accepted k
        → (rest ≡ Accepted k
        → Scans h (assigning rows (entry_of w)) (next t (entry_of w)) (words_from s n (place + 1))
        × (((sum + w) % 2 ^ 32 + sum_of (words_from s n (place + 1))) % 2 ^ 28 ≡ 0) × (h ≡ k))
        → Scans h rows t (w ∷ words_from s n (place + 1)) × ((sum + (w + sum_of (words_from s n (place + 1)))) % 2 ^ 28 ≡ 0) × (h ≡ k)
    go true q e ih =
        let r = ih e in (
          (subst (λ (b : Bool). Clean h rows t b (decode w)) (last_word s n (place + 1)) (clean_of h rows t (eqb n 0) (decode w) q), r.0),
          sym (sum_on sum w (sum_of (words_from s n (place + 1)))) ∙ r.1,
          r.2,
        )
    go false q e ih = absurd (not_refused (fault h rows t (eqb n 0) (decode w)) place k e)

-- words without fault are accepted where the sum balances
passes_scan : (s : List ℕ) (h : Head) (n place : ℕ) (rows : List ℕ) (t : Scan) (sum : ℕ) → Scans h rows t (words_from s n place)
    → (sum + sum_of (words_from s n place)) % 2 ^ 28 ≡ 0 → scan s h n place rows t sum ≡ Accepted h
unfolding scan words_from sum_of balanced
passes_scan s h zero place rows t sum c e =
    ap (λ (b : Bool). pick b (Accepted h) (Refused 8 (place - 1))) (eq-eqb (sum % 2 ^ 28) 0 (omega arith)) ∙ unfold pick in refl
passes_scan s h (suc n) place rows t sum c e =
    let w = word_at s place in
    let rest : Checked = scan s h n (place + 1) (assigning rows (entry_of w)) (next t (entry_of w)) ((sum + w) % 2 ^ 32) in
    ap (λ (b : Bool). elim b [ true ↦ rest | false ↦ Refused (fault h rows t (eqb n 0) (decode w)) place ])
    (fault-of h rows t (eqb n 0) (decode w)
    (subst (λ (b : Bool). Clean h rows t b (decode w)) (sym (last_word s n (place + 1))) c.0))
    ∙ passes_scan s h n (place + 1) (assigning rows (entry_of w)) (next t (entry_of w)) ((sum + w) % 2 ^ 32) c.1
    (sum_on sum w (sum_of (words_from s n (place + 1))) ∙ e)

-- ---- the judgement: length, head, words and sum
pub record Passed (s : List ℕ) (h : Head) : Type 0 where
  pub size : length_right (length s) ≡ true
  pub head : head_right (word_at s 0) ≡ true
  pub numbers : head_of (word_at s 0) ≡ h
  pub scans : Scans h empty_rows start (words_behind s)
  pub balance : (word_at s 0 + sum_of (words_behind s)) % 2 ^ 28 ≡ 0

module _ (s : List ℕ) (h : Head) where
  pub passed_of : judge_words s ≡ Accepted h → Passed s h
  unfolding judge_words words_behind
  passed_of e = go (length_right (length s)) refl (head_right (word_at s 0)) refl e
    where
      rest : Checked
      rest = scan s (head_of (word_at s 0)) (behind_head s) 1 empty_rows start (word_at s 0)

      go : (a : Bool) → length_right (length s) ≡ a → (b : Bool) → head_right (word_at s 0) ≡ b
          → elim a [ false ↦ Refused 1 0 | true ↦ elim b [ false ↦ Refused 2 0 | true ↦ rest ] ] ≡ Accepted h → Passed s h
      go false p b q e = absurd (not_refused 1 0 h e)
      go true p false q e = absurd (not_refused 2 0 h e)
      go true p true q e =
          let r = scan_passes s (head_of (word_at s 0)) h (behind_head s) 1 empty_rows start (word_at s 0) e in
          record {
            size = p;
            head = q;
            numbers = r.2;
            scans = subst (λ (k : Head). Scans k empty_rows start (words_from s (behind_head s) 1)) r.2 r.0;
            balance = r.1;
          }

  pub words_of : Passed s h → judge_words s ≡ Accepted h
  unfolding judge_words words_behind
  words_of p =
      let rest : Checked = scan s (head_of (word_at s 0)) (behind_head s) 1 empty_rows start (word_at s 0) in
      ap (λ (a : Bool). elim a [ false ↦ Refused 1 0 | true ↦ elim (head_right (word_at s 0)) [ false ↦ Refused 2 0 | true ↦ rest ] ]) p.size
      ∙ ap (λ (b : Bool). elim b [ false ↦ Refused 2 0 | true ↦ rest ]) p.head
      ∙ (passes_scan s (head_of (word_at s 0)) (behind_head s) 1 empty_rows start (word_at s 0)
      (subst (λ (k : Head). Scans k empty_rows start (words_from s (behind_head s) 1)) (sym p.numbers) p.scans) p.balance
      ∙ ap Accepted p.numbers)
