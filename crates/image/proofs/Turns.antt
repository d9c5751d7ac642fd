-- One word judged and taken in, and the tables so filled.
-- Assumes nothing.
use Rattle.std.proofs.Common.{◌≡◌, ℕ, ◌-◌, ◌/◌, ◌<◌, Bool, true, false, not, eqb, leb, List, [], ◌∷◌, length, sym, refl, ap, ◌∙◌, arith, leb-false}
use borrow.Author.Tests.{eqb-false}
use Rattle.model.specs.declared.Head.{Head}
use Rattle.model.specs.declared.Exclusion.{Exclusion}
use Rattle.model.specs.declared.Scan.{Scan}
use Rattle.model.specs.declared.Word.{Word}
use Rattle.model.specs.declared.Entry.{Entry}
use Rattle.model.specs.declared.Entry.TheVariants.{Assignment, Grant, Senior, Exclude, Member, Limit, End, Unknown}
use Rattle.model.specs.Tests.{pick}
use Rattle.model.specs.Image.{decode, wrong_kind, in_range, repeats, crowds, entry_fault, sparing, fault, assigning, behind_head, empty_rows}
use Rattle.model.specs.Policy.{entries_from, entries_of, fold, ordering, policy_of}
use Rattle.model_laws.proofs.Tables.{assigning-length, ordering-length}
use Rattle.model_laws.proofs.Bools.{or_false_r}
use Rattle.image_usual.specs.Usual.{Opens}
use Rattle.image.specs.Taken.{Due, Taken}

-- ---- a word without fault is due

none_of : (a b c d e : Bool) → pick {X = ℕ} a 3 (pick b 4 (pick c 5 (pick d 6 (pick e 7 0)))) ≡ 0 → (a ≡ false) × (e ≡ false)
unfolding pick
none_of true b c d e z = absurd (omega arith)
none_of false true c d e z = absurd (omega arith)
none_of false false true d e z = absurd (omega arith)
none_of false false false true e z = absurd (omega arith)
none_of false false false false true z = absurd (omega arith)
none_of false false false false false z = (refl, refl)

due_entry : (rows : List ℕ) (t : Scan) (final : Bool) (e : Entry) → wrong_kind final t.due e ≡ false → crowds rows t e ≡ false → Due t e
unfolding wrong_kind crowds Due
due_entry rows t final (Assignment u r) k x = omega arith
due_entry rows t final (Grant r p) k x = omega arith
due_entry rows t final (Senior a b) k x = omega arith
due_entry rows t final (Exclude y m) k x = leb-false 32 t.exclusions x
due_entry rows t final (Member r) k x = let n = eqb-false t.due 0 (or_false_r final (eqb t.due 0) k) in omega arith
due_entry rows t final (Limit r n) k x = omega arith
due_entry rows t final End k x = omega arith
due_entry rows t final Unknown k x = omega arith

pub due_of : (h : Head) (rows : List ℕ) (t : Scan) (final : Bool) (d : Word) (f : ℕ)
    → f ≡ fault h rows t final d → f ≡ 0 → Due t d.entry
unfolding fault entry_fault pick
due_of h rows t final d f e z =
    let n =
    none_of (wrong_kind final t.due d.entry) (not (eqb d.spare 0)) (not (in_range h d.entry)) (repeats t d.entry)
    (crowds rows t d.entry) (sym e ∙ z) in
    due_entry rows t final d.entry n.0 n.1

-- an exclusion word without fault finds room
pub room : (h : Head) (rows : List ℕ) (t : Scan) (x : Exclusion) (m spare n : ℕ) → n ≡ sparing spare (entry_fault h rows t (Exclude x m)) → n ≡ 0
    → t.exclusions < 32
unfolding entry_fault crowds pick
room h rows t x m spare n e z =
    leb-false 32 t.exclusions
    (none_of false (not (eqb spare 0)) (not (in_range h (Exclude x m))) (repeats t (Exclude x m)) (leb 32 t.exclusions) (sym e ∙ z)).1

-- ---- one word, judged and taken in

-- a word of the right kind, by what its entry says
pub right_kind : (h : Head) (rows : List ℕ) (t : Scan) (final : Bool) (w : Word) (n : ℕ) (e : Entry) → w.entry ≡ e
    → wrong_kind final t.due w.entry ≡ false → n ≡ sparing w.spare (entry_fault h rows t e) → n ≡ fault h rows t final w
unfolding fault pick
right_kind h rows t final w n e ee ek en =
    en ∙ ap (λ (x : Entry). sparing w.spare (entry_fault h rows t x)) (sym ee)
    ∙ ap (λ (b : Bool). pick b 3 (sparing w.spare (entry_fault h rows t w.entry))) (sym ek)

pub wrong_kind_lem : (h : Head) (rows : List ℕ) (t : Scan) (final : Bool) (w : Word) → wrong_kind final t.due w.entry ≡ true
    → 3 ≡ fault h rows t final w
unfolding fault pick
wrong_kind_lem h rows t final w ek = ap (λ (b : Bool). pick b 3 (sparing w.spare (entry_fault h rows t w.entry))) (sym ek)

-- by the fault that its kind is
pub kind_right : (b : Bool) (n : ℕ) → n ≡ pick b 3 0 → n ≡ 0 → b ≡ false
unfolding pick
kind_right true n e z = absurd (omega arith)
kind_right false n e z = refl

pub kind_wrong : (b : Bool) (n : ℕ) → n ≡ pick b 3 0 → 0 < n → (b ≡ true) × (n ≡ 3)
unfolding pick
kind_wrong true n e l = (refl, e)
kind_wrong false n e l = absurd (omega arith)

-- and so taken
pub took : {h : Head} {a₀ j₀ : List ℕ} {t : Scan} {final : Bool} {w : Word} {n : ℕ} {a j : List ℕ} (e : Entry)
    → w.entry ≡ e → wrong_kind final t.due w.entry ≡ false → n ≡ sparing w.spare (entry_fault h a₀ t e)
    → (n ≡ 0 → a ≡ assigning a₀ e) → (n ≡ 0 → j ≡ ordering j₀ e) → Taken h a₀ j₀ t final w n a j
took {h} {a₀} {j₀} {t} {final} {w} {n} e ee ek en fa fj =
    record {
      faulty = right_kind h a₀ t final w n e ee ek en;
      assigned_is = λ z. fa z ∙ ap (assigning a₀) (sym ee);
      juniors_is = λ z. fj z ∙ ap (ordering j₀) (sym ee);
    }

pub mistook : {h : Head} {a₀ j₀ : List ℕ} {t : Scan} {final : Bool} {w : Word} {n : ℕ} {a j : List ℕ}
    → n ≡ pick (wrong_kind final t.due w.entry) 3 0 → 0 < n → Taken h a₀ j₀ t final w n a j
mistook {h} {a₀} {j₀} {t} {final} {w} e l =
    let k = kind_wrong _ _ e l in
    record { faulty = k.1 ∙ wrong_kind_lem h a₀ t final w k.0; assigned_is = λ z. absurd (omega arith); juniors_is = λ z. absurd (omega arith) }

-- an exclusion word known by few tests is taken
pub opened : {h : Head} {a j : List ℕ} {t t' : Scan} {w : ℕ} → Opens h.roles t w t' → Taken h a j t false (decode w) 0 a j
unfolding assigning ordering
opened {h} {a} {j} k =
    let ee = ap (λ (x : Word). x.entry) k.said in
    record {
      faulty = k.faultless h a refl;
      assigned_is = λ z. sym (ap (assigning a) ee);
      juniors_is = λ z. sym (ap (ordering j) ee);
    }

-- the tables of assigned roles and of juniors have 64 rows each
assigning_keeps : (es : List Entry) (rows : List ℕ) → length (fold assigning rows es) ≡ length rows
unfolding fold
assigning_keeps [] rows = refl
assigning_keeps (e ∷ es) rows = assigning_keeps es (assigning rows e) ∙ assigning-length rows e

pub length_assigned : (s : List ℕ) → length (policy_of s).assigned ≡ 64
unfolding policy_of empty_rows
length_assigned s = assigning_keeps (entries_of s) empty_rows

ordering_keeps : (es : List Entry) (rows : List ℕ) → length (fold ordering rows es) ≡ length rows
unfolding fold
ordering_keeps [] rows = refl
ordering_keeps (e ∷ es) rows = ordering_keeps es (ordering rows e) ∙ ordering-length rows e

pub length_juniors : (s : List ℕ) → length (policy_of s).juniors ≡ 64
unfolding policy_of empty_rows
length_juniors s = ordering_keeps (entries_of s) empty_rows

-- what is gathered from empty tables is the policy's
pub assigned_of : (s assigned₀ : List ℕ) → assigned₀ ≡ empty_rows → fold assigning assigned₀ (entries_from s (length s / 4 - 1) 1) ≡ (policy_of s).assigned
unfolding policy_of entries_of behind_head
assigned_of s assigned₀ e = ap (λ (x : List ℕ). fold assigning x (entries_from s (length s / 4 - 1) 1)) e

pub juniors_of_lem : (s juniors₀ : List ℕ) → juniors₀ ≡ empty_rows → fold ordering juniors₀ (entries_from s (length s / 4 - 1) 1) ≡ (policy_of s).juniors
unfolding policy_of entries_of behind_head
juniors_of_lem s juniors₀ e = ap (λ (x : List ℕ). fold ordering x (entries_from s (length s / 4 - 1) 1)) e
