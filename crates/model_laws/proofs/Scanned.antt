-- The words that the scan of an image takes in without a fault, and what it knows of them.
-- Assumes nothing.
use mathlib.Core.Path.{◌≡◌, refl, sym, ◌∙◌}
use mathlib.Core.Bool.{Bool, true, false, ◌||◌, not, true≢false}
use mathlib.Core.List.{List, [], ◌∷◌}
use Prim.Native.Nat.{ℕ, zero, suc, ◌+◌, ◌%◌, ◌^◌}
use lib.Dec.{eqb, eqb-suc-zero}
use borrow.Author.Tests.{eqb-true, eq-eqb, not-false}
use Rattle.model.specs.declared.Role.{Role}
use Rattle.model.specs.declared.Head.{Head}
use Rattle.model.specs.declared.Entry.{Entry}
use Rattle.model.specs.declared.Entry.TheVariants.{Assignment, Grant, Senior, Exclude, Member, Limit, End, Unknown}
use Rattle.model.specs.declared.Scan.{Scan}
use Rattle.model.specs.declared.Checked.{Checked}
use Rattle.model.specs.declared.Checked.TheVariants.{Accepted, Refused}
use Rattle.model.specs.Tests.{pick}
use Rattle.model.specs.Image.{word_at, decode, wrong_kind, in_range, repeats, crowds, entry_fault, fault, assigning, next, balanced, scan}
use Rattle.model.specs.Policy.{entry_at, entries_from}
use Rattle.model_laws.proofs.Tables.{decoded}
use Rattle.model_laws.proofs.Bools.{pick-case, elim_case, not_both, neither}

-- ---- what the scan knows of an entry without fault

-- members come exactly where they are due, and a word of no kind never
abbrev pub Turn : ℕ → Entry → Type 0
Turn due (Assignment u r) = due ≡ 0
Turn due (Grant r p) = due ≡ 0
Turn due (Senior a b) = due ≡ 0
Turn due (Exclude x m) = due ≡ 0
Turn due (Member r) = due ≡ 0 → ⊥
Turn due (Limit r t) = due ≡ 0
Turn due End = due ≡ 0
Turn due Unknown = ⊥

-- where members are due, an entry in its turn is one
pub member_case {κ} : (P : Entry → Type κ) (due : ℕ) → ¬ (due ≡ 0) → ((r : Role) → P (Member r)) → (e : Entry) → Turn due e → P e
member_case P due n f (Assignment u r) t = absurd (n t)
member_case P due n f (Grant r p) t = absurd (n t)
member_case P due n f (Senior a b) t = absurd (n t)
member_case P due n f (Exclude x m) t = absurd (n t)
member_case P due n f (Member r) t = f r
member_case P due n f (Limit r s) t = absurd (n t)
member_case P due n f End t = absurd (n t)
member_case P due n f Unknown t = absurd t

-- an exclusion word has no member yet
abbrev pub Plain : Entry → Type 0
Plain (Assignment u r) = Unit {0}
Plain (Grant r p) = Unit {0}
Plain (Senior a b) = Unit {0}
Plain (Exclude x m) = x.members ≡ 0
Plain (Member r) = Unit {0}
Plain (Limit r t) = Unit {0}
Plain End = Unit {0}
Plain Unknown = Unit {0}

pub record Fine (h : Head) (rows : List ℕ) (t : Scan) (e : Entry) : Type 0 where
  pub turn : Turn t.due e
  pub range : in_range h e ≡ true
  pub fresh : repeats t e ≡ false
  pub room : crowds rows t e ≡ false
  pub plain : Plain e

-- each entry is without fault in the state that those before it leave, and at the end no member is due
abbrev pub Valid : Head → List ℕ → Scan → List Entry → Type 0
Valid h rows t [] = t.due ≡ 0
Valid h rows t (e ∷ es) = Fine h rows t e × Valid h (assigning rows e) (next t e) es

-- ---- from the faults to what holds without them

-- a fault that is not 0 does not hold where the first fault is 0
pub no_fault : (c : Bool) (n x : ℕ) → eqb (pick c (suc n) x) 0 ≡ true → (c ≡ false) × (eqb x 0 ≡ true)
unfolding pick
no_fault true n x e = absurd (true≢false (sym e ∙ eqb-suc-zero n))
no_fault false n x e = (refl, e)

-- a word that may not come where a member is due
none_due : (final : Bool) (due : ℕ) → (final || not (eqb due 0)) ≡ false → due ≡ 0
none_due final due e = eqb-true due 0 (not-false (eqb due 0) (neither final (not (eqb due 0)) e).1)

-- a word of the right kind comes in its turn
pub turn-of : (final : Bool) (due : ℕ) (e : Entry) → wrong_kind final due e ≡ false → Turn due e
unfolding wrong_kind
turn-of final due (Assignment u r) k = none_due final due k
turn-of final due (Grant r p) k = none_due final due k
turn-of final due (Senior a b) k = none_due final due k
turn-of final due (Exclude x m) k = none_due final due k
turn-of final due (Member r) k = λ z. not_both (eqb due 0) (eq-eqb due 0 z) (neither final (eqb due 0) k).1
turn-of final due (Limit r t) k = none_due final due k
turn-of final due End k = none_due (not final) due k
turn-of final due Unknown k = true≢false k

-- behind the last word no member is due
last_due : (t : Scan) (e : Entry) → wrong_kind true t.due e ≡ false → (next t e).due ≡ 0
unfolding wrong_kind next
last_due t (Assignment u r) k = absurd (true≢false k)
last_due t (Grant r p) k = absurd (true≢false k)
last_due t (Senior a b) k = absurd (true≢false k)
last_due t (Exclude x m) k = absurd (true≢false k)
last_due t (Member r) k = absurd (true≢false k)
last_due t (Limit r n) k = absurd (true≢false k)
last_due t End k = none_due false t.due k
last_due t Unknown k = absurd (true≢false k)

-- a decoded exclusion word has no member
plain_at : (s : List ℕ) (place : ℕ) → Plain (entry_at s place)
unfolding entry_at
plain_at s place = decoded Plain (λ w. (tt, tt, tt, refl, tt, tt, tt, tt)) (word_at s place)

module _ (s : List ℕ) (place : ℕ) (h : Head) (rows : List ℕ) (t : Scan) (final : Bool)
    (e : eqb (fault h rows t final (decode (word_at s place))) 0 ≡ true) where
  -- a word without fault is of the right kind
  right_kind : wrong_kind final t.due (entry_at s place) ≡ false
  unfolding fault entry_at
  right_kind = (no_fault _ 2 _ e).0

  -- a word without fault has all that the scan asks of it
  fine : Fine h rows t (entry_at s place)
  unfolding fault entry_fault entry_at
  fine =
      let a = (no_fault _ 3 _ (no_fault _ 2 _ e).1).1 in
      let b = no_fault _ 4 _ a in
      let c = no_fault _ 5 _ b.1 in
      record {
        turn = turn-of final t.due (entry_at s place) right_kind;
        range = not-false _ b.0;
        fresh = c.0;
        room = (no_fault _ 6 _ c.1).0;
        plain = plain_at s place;
      }

-- ---- the scan accepts only valid entries, with the head that it is given
abbrev pub Judged : Head → List ℕ → Scan → List Entry → Checked → Type 0
Judged h rows t es (Accepted k) = Valid h rows t es × (h ≡ k)
Judged h rows t es (Refused n place) = Unit {0}

-- one entry more in front
judged_more : (h : Head) (rows : List ℕ) (t : Scan) (e : Entry) (es : List Entry) (v : Checked) → Fine h rows t e
    → Judged h (assigning rows e) (next t e) es v → Judged h rows t (e ∷ es) v
judged_more h rows t e es (Accepted k) f j = ((f, j.0), j.1)
judged_more h rows t e es (Refused n place) f j = tt

-- by induction on the words; n says how many are left
pub scan-judged : (s : List ℕ) (h : Head) (n place : ℕ) (rows : List ℕ) (t : Scan) (sum : ℕ) → (n ≡ 0 → t.due ≡ 0)
    → Judged h rows t (entries_from s n place) (scan s h n place rows t sum)
unfolding scan entries_from entry_at balanced
scan-judged s h zero place rows t sum d =
    pick-case (Judged h rows t []) (eqb (sum % 2 ^ 28) 0) _ _ (λ _. (d refl, refl)) (λ _. tt)
scan-judged s h (suc n) place rows t sum d =
    let w = entry_at s place in
    let rest = scan s h n (place + 1) (assigning rows w) (next t w) ((sum + word_at s place) % 2 ^ 32) in
    elim_case (Judged h rows t (w ∷ entries_from s n (place + 1))) (eqb (fault h rows t (eqb n 0) (decode (word_at s place))) 0) _ _
    (λ e. judged_more h rows t w (entries_from s n (place + 1)) rest (fine s place h rows t (eqb n 0) e)
    (scan-judged s h n (place + 1) (assigning rows w) (next t w) ((sum + word_at s place) % 2 ^ 32)
    (λ z. last_due t w (rw (eq-eqb n 0 z) at (right_kind s place h rows t (eqb n 0) e)))))
    (λ e. tt)
