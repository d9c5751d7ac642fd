-- An exclusion word, and members in a run: one, none, and one more.
-- Assumes nothing.
use Rattle.std.proofs.Common.{◌≡◌, ℕ, ◌+◌, ◌-◌, ◌*◌, ◌/◌, ◌%◌, ◌^◌, ◌<◌, ◌≤◌, false, List, sym, refl, ap, ◌∙◌, arith, lt-ltb, eq-eqb, ne_eqb, le-leb}
use borrow.Author.Tests.{lt-leb}
use Rattle.model.specs.declared.Scan.{Scan}
use Rattle.model.specs.declared.Word.{Word}
use Rattle.model.specs.declared.Entry.{Entry}
use Rattle.model.specs.declared.Entry.TheVariants.{Member}
use Rattle.model.specs.Tests.{pick}
use Rattle.model.specs.Image.{word_at, field, decode, role, wrong_kind, in_range, repeats, crowds, entry_fault, fault, assigning, next}
use Rattle.model.specs.Sets.{has, with}
use Rattle.image_words.proofs.Folds.{fold_next}
use Rattle.image_words.proofs.Scans.{before_last, goes}
use Rattle.image_usual.specs.Usual.{placed, Opens, Joins, Joined}
use Rattle.image_usual.proofs.Words.{exclusion_said, member_role_lem, member_said}
use Rattle.image_usual.proofs.Runs.{places_by}

-- an exclusion word without fault
pub opens : (roles : ℕ) (t t' : Scan) (w : ℕ) → w < 2 ^ 32 → (w / 2 ^ 12 + w % 2 ^ 12 * 2 ^ 20) / 2 ^ 16 ≡ 5 → t.due ≡ 0
    → field w 12 7 ≤ roles → field w 19 7 ≤ field w 12 7 → 2 ≤ field w 19 7 → t.exclusions < 32
    → t' ≡ record { exclusions = t.exclusions + 1; due = field w 12 7; members = 0 } → Opens roles t w t'
unfolding fault entry_fault in_range repeats crowds wrong_kind next pick
opens roles t t' w l e z lm ln two few et =
    let ed = exclusion_said w l e in
    let one : 1 ≤ field w 12 7 = omega arith in
    record {
      said = ed;
      faultless = λ h rows eh.
          sym (rw (
            ed,
            eq-eqb t.due 0 z,
            eh,
            le-leb 1 (field w 12 7) one,
            le-leb (field w 12 7) roles lm,
            le-leb 2 (field w 19 7) two,
            le-leb (field w 19 7) (field w 12 7) ln,
            lt-leb 32 t.exclusions few,
          ));
      scan_is = et ∙ rw ed;
    }

-- a member without fault
pub joins : (roles : ℕ) (t t' : Scan) (w r : ℕ) → w < 2 ^ 32 → r < 64 → (r + 384) % 2 ^ 32 ≡ w / 2 ^ 22 + w % 2 ^ 22 * 2 ^ 10
    → (t.due ≡ 0 → ⊥) → r < roles → has t.members r ≡ false
    → t' ≡ record { exclusions = t.exclusions; due = t.due - 1; members = with t.members r } → Joins roles t w t'
unfolding fault entry_fault in_range repeats crowds wrong_kind next pick
joins roles t t' w r l m e nz lr new et =
    let ed = member_said w r l m e in
    let er = member_role_lem w r l m e in
    record {
      said = ed;
      faultless = λ h rows eh. sym (rw (ed, ← er, ne_eqb t.due 0 nz, eh, lt-ltb r roles lr, new));
      scan_is = et ∙ rw (ed, ← er);
    }

module _ {s : List ℕ} {roles n from sum₀ : ℕ} {t₀ : Scan} where
  pub joined-none : Joined s roles n from sum₀ t₀ from sum₀ t₀
  joined-none =
      record {
        onward = omega arith;
        inside = λ m a b. b;
        scanned = λ h rows e. refl;
        folded = λ f z x. refl;
        places_are = refl;
        exclusions_same = refl;
      }

  pub joined_on : {p sum sum' : ℕ} {t t' : Scan} (w : ℕ) → Joined s roles n from sum₀ t₀ p sum t → p + 1 < n → w ≡ word_at s p → Joins roles t w t'
      → sum' ≡ (sum + w) % 2 ^ 32 → Joined s roles n from sum₀ t₀ (p + 1) sum' t'
  unfolding assigning placed next
  joined_on {p} {sum} {sum'} {t} {t'} w k l ew q em =
      let m : p < n = omega arith in
      let ee : (decode w).entry ≡ Member (role (w / 2 ^ 22 % 2 ^ 6)) = ap (λ (x : Word). x.entry) q.said in
      record {
        onward = omega (arith, k.onward);
        inside = λ i a b. omega arith;
        scanned = λ h rows e.
            goes s h n p rows t sum w (decode w) 0 m ew refl (before_last h rows t (decode w) n p 0 l (q.faultless h rows e)) _ refl rows t' sum'
            (sym (ap (assigning rows) ee)) q.scan_is em refl ∙ k.scanned h rows e;
        folded = λ f z x.
            fold_next f s n p x w (decode w) x _ m ew refl (sym (ap (f x) ee ∙ z x (role (w / 2 ^ 22 % 2 ^ 6)))) refl ∙ k.folded f z x;
        places_are = places_by s n p w m ew (λ ps. sym (ap (λ (y : Entry). placed y p ps) ee)) ∙ k.places_are;
        exclusions_same = ap (λ (x : Scan). x.exclusions) (q.scan_is ∙ ap (next t) ee) ∙ k.exclusions_same;
      }
