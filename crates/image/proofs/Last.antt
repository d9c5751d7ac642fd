-- The last word: the end, which changes no table.
-- Assumes nothing.
use Rattle.std.proofs.Common.{◌≡◌, ℕ, ◌+◌, ◌-◌, ◌%◌, ◌^◌, true, false, List, sym, refl, ap, ◌∙◌, arith}
use mathlib.Core.Bool.{false≢true}
use Rattle.model.specs.declared.Head.{Head}
use Rattle.model.specs.declared.Scan.{Scan}
use Rattle.model.specs.declared.Word.{Word}
use Rattle.model.specs.declared.Entry.{Entry}
use Rattle.model.specs.declared.Entry.TheVariants.{Assignment, Grant, Senior, Exclude, Member, Limit, End, Unknown}
use Rattle.model.specs.declared.Checked.{Checked}
use Rattle.model.specs.declared.Checked.TheVariants.{Accepted, Refused}
use Rattle.model.specs.Tests.{pick}
use Rattle.model.specs.Image.{word_at, decode, wrong_kind, in_range, repeats, crowds, entry_fault, sparing, fault, assigning, next, scan}
use Rattle.model.specs.Policy.{entry_at, entries_from, fold}
use Rattle.image_words.proofs.Folds.{fold_next, fold_end}
use Rattle.image_words.proofs.Scans.{at_last, stops, goes, ends_right_lem, ends_wrong}
use Rattle.image.proofs.Turns.{right_kind, wrong_kind_lem}

-- ---- its fault

-- the last word is the end, where its kind is right
pub end_of : (due : ℕ) (e : Entry) → wrong_kind true due e ≡ false → e ≡ End
unfolding wrong_kind
end_of due (Assignment u r) k = absurd (false≢true (sym k))
end_of due (Grant r p) k = absurd (false≢true (sym k))
end_of due (Senior a b) k = absurd (false≢true (sym k))
end_of due (Exclude x m) k = absurd (false≢true (sym k))
end_of due (Member r) k = absurd (false≢true (sym k))
end_of due (Limit r t) k = absurd (false≢true (sym k))
end_of due End k = refl
end_of due Unknown k = absurd (false≢true (sym k))

module _ (h : Head) (rows : List ℕ) (t : Scan) (w : Word) (due : ℕ) (ed : t.due ≡ due) where
  pub end_wrong : wrong_kind true due w.entry ≡ true → 3 ≡ fault h rows t true w
  end_wrong k = wrong_kind_lem h rows t true w (ap (λ (x : ℕ). wrong_kind true x w.entry) ed ∙ k)

  pub end_right : (n : ℕ) → wrong_kind true due w.entry ≡ false → n ≡ sparing w.spare 0 → n ≡ fault h rows t true w
  unfolding entry_fault in_range repeats crowds pick
  end_right n k e = right_kind h rows t true w n End (end_of due w.entry k) (ap (λ (x : ℕ). wrong_kind true x w.entry) ed ∙ k) e

-- ---- its place, and what the scan and the folds say there

-- the place of the last word, by the place behind it
last_place : (n p : ℕ) → p + 1 ≡ n → n - 1 ≡ p
last_place n p l = omega arith

module _ (s : List ℕ) (n p : ℕ) (l : p + 1 ≡ n) where
  pub last_scan : (h : Head) (rows : List ℕ) (t : Scan) (sum : ℕ) (r r' : Checked) → r ≡ scan s h (n - (n - 1)) (n - 1) rows t sum
      → scan s h (n - p) p rows t sum ≡ r' → r ≡ r'
  last_scan h rows t sum r r' e i = e ∙ rw (last_place n p l) i

  pub last_entry : (e : Entry) → entry_at s (n - 1) ≡ e → entry_at s p ≡ e
  last_entry e i = rw (last_place n p l) at i

-- the end at the last place
module _ (s : List ℕ) (n p : ℕ) (l : p + 1 ≡ n) (ee : entry_at s p ≡ End) where
  pub fold_last : {A : Type 0} (step : A → Entry → A) (a r : A) → step a End ≡ a → fold step a (entries_from s (n - p) p) ≡ r → a ≡ r
  unfolding entry_at
  fold_last step a r e i =
      fold_end step s n (p + 1) a r (omega arith)
      (fold_next step s n p a (word_at s p) (decode (word_at s p)) a r (omega arith) refl refl (sym e ∙ ap (step a) (sym ee)) i)

-- the last word judged, and behind it the sum
module _ (s : List ℕ) (h : Head) (n p : ℕ) (rows : List ℕ) (t : Scan) (sum w : ℕ) (d : Word) (f : ℕ) (l : p + 1 ≡ n) (ew : w ≡ word_at s p)
    (ed : d ≡ decode w) (ef : f ≡ fault h rows t true d) where
  pub last_stops : (f ≡ 0 → ⊥) → Refused f p ≡ scan s h (n - p) p rows t sum
  last_stops z = stops s h n p rows t sum w d f (omega arith) ew ed (at_last h rows t d n p f l ef) _ z refl

  module _ (z : f ≡ 0) (ee : d.entry ≡ End) (sum' : ℕ) (em : sum' ≡ (sum + w) % 2 ^ 32) where
    scan_last : scan s h (n - (p + 1)) (p + 1) rows t sum' ≡ scan s h (n - p) p rows t sum
    unfolding next assigning
    scan_last =
        goes s h n p rows t sum w d f (omega arith) ew ed (at_last h rows t d n p f l ef) _ z rows t sum' (ap (assigning rows) (sym ee))
        (ap (next t) (sym ee)) em refl

    pub last_right : sum' % 2 ^ 28 ≡ 0 → Accepted h ≡ scan s h (n - p) p rows t sum
    last_right y = ends_right_lem s h n (p + 1) rows t sum' _ (omega arith) (omega arith) y scan_last

    pub last_wrong : (sum' % 2 ^ 28 ≡ 0 → ⊥) → Refused 8 (n - 1) ≡ scan s h (n - p) p rows t sum
    last_wrong y = ends_wrong s h n (p + 1) rows t sum' _ (omega arith) (omega arith) y scan_last
