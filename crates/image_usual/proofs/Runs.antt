-- The fast way is the general one on a usual word, and so on a run of them.
-- Assumes nothing.
use Rattle.std.proofs.Common.{◌≡◌, ℕ, suc, ◌+◌, ◌-◌, ◌*◌, ◌/◌, ◌%◌, ◌^◌, ◌<◌, ◌≤◌, Bool, true, false, not, ◌&&◌, leb, List, get_or, set, sym, refl, ap, ◌∙◌, arith, get_or-set_same, set-set, lt-ltb, eq-eqb}
use Rattle.std.specs.Prelude.{Option, Some, None, MatchOption}
use lib.Seq.{set-get_or}
use borrow.Author.Tests.{lt-leb}
use Rattle.model.specs.declared.Head.{Head}
use Rattle.model.specs.declared.Scan.{Scan}
use Rattle.model.specs.declared.Word.{Word}
use Rattle.model.specs.declared.Entry.{Entry}
use Rattle.model.specs.declared.Entry.TheVariants.{Assignment, Grant, Senior, Exclude, Member, Limit, End, Unknown}
use Rattle.model.specs.Tests.{pick}
use Rattle.model.specs.Image.{word_at, decode, says, user, role, permission, wrong_kind, in_range, repeats, crowds, entry_fault, fault, assigning, next}
use Rattle.model.specs.Sets.{has, with, count}
use Rattle.model.specs.Policy.{entry_at, ordering, limiting}
use Rattle.model_laws.proofs.SetLaws.{count-with, count-within}
use Rattle.model_laws.proofs.Inclusion.{within_union_l}
use Rattle.image_usual.specs.Usual.{Usual, Quick, placed, places_from, Passed, FilledBy, Gathers}
use Rattle.image_words.proofs.Folds.{fold_next}
use Rattle.image_words.proofs.Scans.{before_last, goes}
use Rattle.image_usual.proofs.Words.{assigned_said}

-- what is known of a run where there is one, or where there is none, by what follows from it
pub mapped : {A : Type 0} (o : Option A) (P P' : Type 0) (Q Q' : A → Type 0) → (P → P') → ((x : A) → Q x → Q' x)
    → MatchOption o P Q → MatchOption o P' Q'
mapped None P P' Q Q' f g k = f k
mapped (Some x) P P' Q Q' f g k = g x k

-- ---- such a word, by the general way

-- a usual word that says e, with no spare bit, is of the right kind where no member is due
quick_kind : (e : Entry) → Usual e → (due : ℕ) → due ≡ 0 → wrong_kind false due e ≡ false
unfolding wrong_kind Usual
quick_kind (Assignment a r) k due z = ap not (eq-eqb due 0 z)
quick_kind (Grant r p) k due z = ap not (eq-eqb due 0 z)
quick_kind (Senior a b) k due z = ap not (eq-eqb due 0 z)
quick_kind (Exclude x m) k due z = absurd (omega arith)
quick_kind (Member r) k due z = absurd (omega arith)
quick_kind (Limit r t) k due z = absurd (omega arith)
quick_kind End k due z = absurd (omega arith)
quick_kind Unknown k due z = absurd (omega arith)

-- and leaves the state as it is
quick_next : (e : Entry) → Usual e → (t : Scan) → t ≡ next t e
unfolding next Usual
quick_next (Assignment a r) k t = refl
quick_next (Grant r p) k t = refl
quick_next (Senior a b) k t = refl
quick_next (Exclude x m) k t = absurd (omega arith)
quick_next (Member r) k t = absurd (omega arith)
quick_next (Limit r n) k t = absurd (omega arith)
quick_next End k t = absurd (omega arith)
quick_next Unknown k t = absurd (omega arith)

-- the fast way is the general one on such a word
pub quick : {h : Head} {w : ℕ} {a₀ j₀ a j : List ℕ} (e : Entry) → decode w ≡ says e 0 → Usual e → ((t : Scan) → 0 ≡ entry_fault h a₀ t e)
    → a ≡ assigning a₀ e → j ≡ ordering j₀ e → Quick h w a₀ j₀ a j
unfolding fault pick
quick {h} {w} {a₀} {j₀} {a} {j} e ed k ef ea ej =
    let ee : (decode w).entry ≡ e = ap (λ (x : Word). x.entry) ed in
    record {
      usual = rw ee k;
      faultless = λ t z. rw (ed, quick_kind e k t.due z) (ef t);
      assigned_is = ea ∙ ap (assigning a₀) (sym ee);
      juniors_is = ej ∙ ap (ordering j₀) (sym ee);
    }

pub quick_grant : {h : Head} {w : ℕ} {a j : List ℕ} (r p : ℕ) → decode w ≡ says (Grant (role r) (permission p)) 0
    → in_range h (Grant (role r) (permission p)) ≡ true → Quick h w a j a j
unfolding Usual entry_fault repeats crowds assigning ordering pick
quick_grant r p ed ei = quick (Grant (role r) (permission p)) ed (omega arith) (λ t. sym (rw ei)) refl refl

-- an assignment that leaves the user 16 roles at most
uncrowded : (row r : ℕ) → r < 64 → count 64 (with row r) ≤ 16 → (not (has row r) && leb 16 (count 64 row)) ≡ false
uncrowded row r l c = go (has row r) refl
  where
    go : (b : Bool) → has row r ≡ b → (not b && leb 16 (count 64 row)) ≡ false
    go true e = refl
    go false e = lt-leb 16 (count 64 row) (omega (arith, count-with 64 row r l e))

quick_assignment : {h : Head} {w : ℕ} {a j : List ℕ} (u r row : ℕ) → decode w ≡ says (Assignment (user u) (role r)) 0 → u < h.users → r < h.roles
    → r < 64 → get_or a u 0 ≡ row → count 64 (with row r) ≤ 16 → Quick h w a j (set a u (with row r)) j
unfolding Usual entry_fault in_range repeats crowds assigning ordering pick
quick_assignment u r row ed lu lr l eo c =
    quick (Assignment (user u) (role r)) ed (omega arith) (λ t. sym (rw (lt-ltb _ _ lu, lt-ltb _ _ lr, eo, uncrowded row r l c)))
    (rw eo) refl

-- ---- runs of such words: none, one, and one run behind another

module _ {s : List ℕ} {h : Head} {n p sum : ℕ} {a j : List ℕ} where
  pub passed_none : {due : ℕ} → Passed s h n due p sum a j p sum a j
  passed_none = record { onward = omega arith; inside = λ m k l. l; scanned = λ t d. refl; assigned_is = refl; juniors_is = refl }

  pub passed_one : (w : ℕ) {sum' : ℕ} {a' j' : List ℕ} → p + 1 < n → w ≡ word_at s p → Quick h w a j a' j' → sum' ≡ (sum + w) % 2 ^ 32
      → Passed s h n 0 p sum a j (p + 1) sum' a' j'
  passed_one w {sum'} {a'} {j'} l ew q em =
      let m : p < n = omega arith in
      record {
        onward = omega arith;
        inside = λ i k b. omega arith;
        scanned = λ t d.
            goes s h n p a t sum w (decode w) 0 m ew refl (before_last h a t (decode w) n p 0 l (q.faultless t d)) _ refl a' t sum'
            q.assigned_is (quick_next (decode w).entry q.usual t) em refl;
        assigned_is = fold_next assigning s n p a w (decode w) a' _ m ew refl q.assigned_is refl;
        juniors_is = fold_next ordering s n p j w (decode w) j' _ m ew refl q.juniors_is refl;
      }

  pub passed_then : {due from sum₀ : ℕ} {a₀ j₀ : List ℕ} {p' sum' : ℕ} {a' j' : List ℕ} → Passed s h n due from sum₀ a₀ j₀ p sum a j → due ≡ 0
      → Passed s h n 0 p sum a j p' sum' a' j' → Passed s h n due from sum₀ a₀ j₀ p' sum' a' j'
  passed_then k z k' =
      record {
        onward = omega (arith, k.onward, k'.onward);
        inside = λ i a b. k'.inside i a (k.inside i a b);
        scanned = λ t d. k'.scanned t (d ∙ z) ∙ k.scanned t d;
        assigned_is = k'.assigned_is ∙ k.assigned_is;
        juniors_is = k'.juniors_is ∙ k.juniors_is;
      }

-- ---- the same with the other tables

-- a usual word limits no role, and opens no exclusion
unlimited : (e : Entry) → Usual e → (limits : List ℕ) → limits ≡ limiting limits e
unfolding limiting Usual
unlimited (Assignment a r) k limits = refl
unlimited (Grant r p) k limits = refl
unlimited (Senior a b) k limits = refl
unlimited (Exclude x m) k limits = absurd (omega arith)
unlimited (Member r) k limits = absurd (omega arith)
unlimited (Limit r n) k limits = absurd (omega arith)
unlimited End k limits = absurd (omega arith)
unlimited Unknown k limits = absurd (omega arith)

unplaced : (e : Entry) → Usual e → (p : ℕ) (ps : List ℕ) → ps ≡ placed e p ps
unfolding placed Usual
unplaced (Assignment a r) k p ps = refl
unplaced (Grant r q) k p ps = refl
unplaced (Senior a b) k p ps = refl
unplaced (Exclude x m) k p ps = absurd (omega arith)
unplaced (Member r) k p ps = absurd (omega arith)
unplaced (Limit r n) k p ps = absurd (omega arith)
unplaced End k p ps = absurd (omega arith)
unplaced Unknown k p ps = absurd (omega arith)

-- a word that opens no exclusion
pub places_by : (s : List ℕ) (n p w : ℕ) → p < n → w ≡ word_at s p → ((ps : List ℕ) → ps ≡ placed (decode w).entry p ps)
    → places_from s (n - (p + 1)) (p + 1) ≡ places_from s (n - p) p
unfolding places_from entry_at
places_by s n p w l ew k =
    let one : n - p ≡ suc (n - (p + 1)) = omega arith in
    k (places_from s (n - (p + 1)) (p + 1))
    ∙ ap (λ (x : ℕ). placed (decode x).entry p (places_from s (n - (p + 1)) (p + 1))) ew
    ∙ ap (λ (x : ℕ). places_from s x p) (sym one)

module _ {s : List ℕ} {h : Head} {n p sum : ℕ} {a g j : List ℕ} where
  pub filled_none : {due : ℕ} {step : List ℕ → Entry → List ℕ} → FilledBy step s h n due p sum a g j p sum a g j
  filled_none = record { passed = passed_none; granted_is = refl; limits_is = λ x. refl; places_are = refl }

  pub filled_one : (w : ℕ) {step : List ℕ → Entry → List ℕ} {sum' : ℕ} {a' g' j' : List ℕ} → p + 1 < n → w ≡ word_at s p → Quick h w a j a' j'
      → g' ≡ step g (decode w).entry → sum' ≡ (sum + w) % 2 ^ 32 → FilledBy step s h n 0 p sum a g j (p + 1) sum' a' g' j'
  filled_one w {step} {sum'} {a'} {g'} {j'} l ew q eg em =
      let m : p < n = omega arith in
      record {
        passed = passed_one w l ew q em;
        granted_is = fold_next step s n p g w (decode w) g' _ m ew refl eg refl;
        limits_is = λ x. fold_next limiting s n p x w (decode w) x _ m ew refl (unlimited (decode w).entry q.usual x) refl;
        places_are = places_by s n p w m ew (unplaced (decode w).entry q.usual p);
      }

  pub filled_then : {step : List ℕ → Entry → List ℕ} {due from sum₀ : ℕ} {a₀ g₀ j₀ : List ℕ} {p' sum' : ℕ} {a' g' j' : List ℕ}
      → FilledBy step s h n due from sum₀ a₀ g₀ j₀ p sum a g j → due ≡ 0
      → FilledBy step s h n 0 p sum a g j p' sum' a' g' j' → FilledBy step s h n due from sum₀ a₀ g₀ j₀ p' sum' a' g' j'
  filled_then k z k' =
      record {
        passed = passed_then k.passed z k'.passed;
        granted_is = k'.granted_is ∙ k.granted_is;
        limits_is = λ x. k'.limits_is x ∙ k.limits_is x;
        places_are = k'.places_are ∙ k.places_are;
      }

-- ---- the assignments to one user

pub gathers_none : (s : List ℕ) (n from roles u sum₀ own : ℕ) → Gathers s n from roles u sum₀ own from sum₀ own
gathers_none s n from roles u sum₀ own = λ h a j er lu el eo c step un g. rw (sym eo, set-get_or a u 0) filled_none

-- one word further
module _ {s : List ℕ} {n from roles u sum₀ own : ℕ} {p sum row : ℕ} where
  pub gathers_on : (w : ℕ) {sum' row' : ℕ} → Gathers s n from roles u sum₀ own p sum row → u < 64 → p + 1 < n → w ≡ word_at s p → w < 2 ^ 32
      → (w / 2 ^ 16 + w % 2 ^ 16 * 2 ^ 16) / 2 ^ 6 ≡ u + 128 → (w / 2 ^ 16 + w % 2 ^ 16 * 2 ^ 16) % 2 ^ 6 < roles
      → row' ≡ with row ((w / 2 ^ 16 + w % 2 ^ 16 * 2 ^ 16) % 2 ^ 6) → sum' ≡ (sum + w) % 2 ^ 32
      → Gathers s n from roles u sum₀ own (p + 1) sum' row'
  gathers_on w {sum'} {row'} k lu l ew lw ek lr er em = λ h a j eh eu el eo c step un g.
      let r : ℕ = (w / 2 ^ 16 + w % 2 ^ 16 * 2 ^ 16) % 2 ^ 6 in
      let said = assigned_said w u lw lu ek in
      let few : count 64 (with row r) ≤ 16 = rw er at c in
      let fewer : count 64 row ≤ 16 = omega (arith, few, count-within 64 row (with row r) (within_union_l row (2 ^ r))) in
      let at : get_or (set a u row) u 0 ≡ row = get_or-set_same a u row 0 (omega (arith, el)) in
      rw (er, ← set-set a u row (with row r))
      (filled_then (k h a j eh eu el eo fewer step un g) refl
      (filled_one w l ew (quick_assignment u r row said eu (rw eh lr) (omega arith) at few)
      (sym (ap (λ (y : Word). step g y.entry) said ∙ un.assignment g (user u) (role r))) em))
