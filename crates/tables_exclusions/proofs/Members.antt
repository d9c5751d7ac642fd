-- The members of an exclusion: named by the m words behind its word, or by those up to the last; and the exclusions
-- read.
-- Assumes nothing.
use mathlib.Core.Path.{◌≡◌, refl, sym, ap, ap₂, ◌∙◌}
use mathlib.Core.List.{List, [], ◌∷◌, ◌++◌, map, map-append}
use Prim.Native.Nat.{ℕ, zero, suc, ◌+◌, ◌-◌, ◌≤◌, ◌<◌}
use native.Mathlib.Omega.{arith}
use native.Mathlib.Numerals.{add-one}
use lib.ListN.{length, get_or, set, take}
use lib.Seq.{take-suc, take-suc-set}
use Rattle.model.specs.declared.Exclusion.{Exclusion}
use Rattle.model.specs.declared.Entry.{Entry}
use Rattle.model.specs.declared.Entry.TheVariants.{Exclude}
use Rattle.model.specs.declared.Word.{Word}
use Rattle.model.specs.Image.{word_at, decode}
use Rattle.model.specs.Policy.{entry_at, entries_from, fold, joining, with_members}
use Rattle.image_words.proofs.Others.{Among, not_exclude, no_exclusion}
use Rattle.tables_exclusions.specs.Exclusions.{nothing, exclusion_by, exclusion_at}

pub take_entries : (s : List ℕ) (m n k p : ℕ) → k ≤ n → k ≤ m → (k < m → k ≡ n) → take m (entries_from s n p) ≡ entries_from s k p
unfolding entries_from
take_entries s zero n zero p a b h = refl
take_entries s zero n (suc k) p a b h = absurd (omega arith)
take_entries s (suc m) zero zero p a b h = refl
take_entries s (suc m) zero (suc k) p a b h = absurd (omega arith)
take_entries s (suc m) (suc n) zero p a b h = let z = h (omega arith) in absurd (omega arith)
take_entries s (suc m) (suc n) (suc k) p a b h =
    ap (λ (es : List Entry). entry_at s p ∷ es)
    (take_entries s m n k (p + 1) (omega arith) (omega arith) (λ l. let z = h (omega arith) in omega arith))

-- the exclusion x that an entry opens at a place
pub exclusion-of : (s : List ℕ) (words place w : ℕ) (d : Word) (e : Entry) (x : Exclusion) → w ≡ word_at s place → d ≡ decode w → d.entry ≡ e
    → x ≡ exclusion_by e (entries_from s (words - (place + 1)) (place + 1)) → x ≡ exclusion_at s words place
unfolding exclusion_at entry_at
exclusion-of s words place w d e x ew ed ee ex = rw (ex, ← ee, ed, ew)

-- an entry of another kind opens none
pub nothing_at : (s : List ℕ) (words place w : ℕ) (d : Word) (x : Exclusion) → w ≡ word_at s place → d ≡ decode w → Among not_exclude d.entry
    → x ≡ nothing → x ≡ exclusion_at s words place
unfolding exclusion_by
nothing_at s words place w d x ew ed h ex = exclusion-of s words place w d d.entry x ew ed refl (ex ∙ no_exclusion nothing _ d.entry h)

-- its members, read up to the place `to`
pub members-of : (s : List ℕ) (words place to m : ℕ) (x : Exclusion) (set : ℕ) → place < words → to ≤ words → place + 1 ≤ to → to ≤ place + 1 + m
    → (to < place + 1 + m → to ≡ words) → set ≡ fold joining x.members (entries_from s (to - (place + 1)) (place + 1))
    → record { kind = x.kind; n = x.n; members = set } ≡ exclusion_by (Exclude x m) (entries_from s (words - (place + 1)) (place + 1))
unfolding exclusion_by with_members
members-of s words place to m x set lt le ge lm all e =
    let k = take_entries s m (words - (place + 1)) (to - (place + 1)) (place + 1) (omega arith) (omega arith) (λ l. let z = all (omega arith) in omega arith) in
    rw (e, k)

-- ---- a turn of the loop that reads the exclusions at the places
pub one_read : (f : ℕ → Exclusion) (places : List ℕ) (xs : List Exclusion) (i : ℕ) (x : Exclusion) → take i xs ≡ map f (take i places)
    → i < length xs → i < length places → x ≡ f (get_or places i 0) → take (i + 1) (set xs i x) ≡ map f (take (i + 1) places)
one_read f places xs i x e hl hp ex =
    ap (λ (n : ℕ). take n (set xs i x)) (add-one i)
    ∙ take-suc-set xs i x hl
    ∙ ap₂ (λ (ys : List Exclusion) (y : Exclusion). ys ++ (y ∷ [])) e ex
    ∙ sym (map-append f (take i places) (get_or places i 0 ∷ []))
    ∙ ap (map f) (sym (ap (λ (n : ℕ). take n places) (add-one i) ∙ take-suc places i 0 hp))
