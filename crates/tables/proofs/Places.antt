-- The exclusions of an image are those at the places of its exclusion words.
-- Assumes nothing.
use Rattle.std.proofs.Common.{◌≡◌, ℕ, zero, suc, ◌+◌, ◌-◌, ◌<◌, ◌≤◌, Bool, true, false, eqb, ltb, List, [], ◌∷◌, ◌++◌, map, length, get_or, take, set, replicate, sym, refl, ap, ◌∙◌, subst, ap₂, append-nil, add-one, arith, length-set, get_or-set_other, get_or-set_same, take-suc-set, ltb-false, ltb-true, eqb-true}
use lib.Seq.{set_out, append_snoc}
use borrow.Author.Tests.{eqb-false}
use Rattle.model.specs.declared.Exclusion.{Exclusion}
use Rattle.model.specs.declared.Scan.{Scan}
use Rattle.model.specs.declared.Entry.{Entry}
use Rattle.model.specs.declared.Entry.TheVariants.{Assignment, Grant, Senior, Exclude, Member, Limit, End, Unknown}
use Rattle.model.specs.declared.Word.{Word}
use Rattle.model.specs.Image.{word_at, decode, next}
use Rattle.model.specs.Policy.{entry_at, entries_from, exclusions_of}
use Rattle.image_usual.specs.Usual.{placed, places_from}
use Rattle.image.specs.Taken.{Due}
use Rattle.tables_exclusions.specs.Exclusions.{exclusion_by, exclusion_at}
use Rattle.tables_words.specs.Step.{noting}

-- ---- the exclusions at those places are the image's

exclusions_by : (e : Entry) (es : List Entry) (f : ℕ → Exclusion) (p : ℕ) (ps : List ℕ) → f p ≡ exclusion_by e es → exclusions_of es ≡ map f ps
    → exclusions_of (e ∷ es) ≡ map f (placed e p ps)
unfolding exclusions_of placed exclusion_by
exclusions_by (Assignment u r) es f p ps h ih = ih
exclusions_by (Grant r q) es f p ps h ih = ih
exclusions_by (Senior a b) es f p ps h ih = ih
exclusions_by (Exclude x m) es f p ps h ih = ap₂ (λ (y : Exclusion) (ys : List Exclusion). y ∷ ys) (sym h) ih
exclusions_by (Member r) es f p ps h ih = ih
exclusions_by (Limit r t) es f p ps h ih = ih
exclusions_by End es f p ps h ih = ih
exclusions_by Unknown es f p ps h ih = ih

pub exclusions_placed : (s : List ℕ) (words n p : ℕ) → p + n ≡ words
    → exclusions_of (entries_from s n p) ≡ map (exclusion_at s words) (places_from s n p)
unfolding entries_from places_from exclusion_at exclusions_of
exclusions_placed s words zero p e = refl
exclusions_placed s words (suc n) p e =
    let k : words - (p + 1) ≡ n = omega arith in
    exclusions_by (entry_at s p) (entries_from s n (p + 1)) (exclusion_at s words) p (places_from s n (p + 1))
    (ap (λ (m : ℕ). exclusion_by (entry_at s p) (entries_from s m (p + 1))) k)
    (exclusions_placed s words n (p + 1) (omega arith))

-- ---- a turn: the places so far, and those among the words to come

noted : (e : Entry) (t : Scan) (places : List ℕ) (p : ℕ) (rest : List ℕ) → length places ≡ 32 → Due t e
    → take (next t e).exclusions (noting p t.exclusions places e) ++ rest ≡ take t.exclusions places ++ placed e p rest
unfolding noting next placed Due
noted (Assignment u r) t places p rest l d = refl
noted (Grant r q) t places p rest l d = refl
noted (Senior a b) t places p rest l d = refl
noted (Exclude x m) t places p rest l d =
    ap (λ (n : ℕ). take n (set places t.exclusions p) ++ rest) (add-one t.exclusions)
    ∙ ap (λ (v : List ℕ). v ++ rest) (take-suc-set places t.exclusions p (omega arith))
    ∙ append_snoc (take t.exclusions places) p rest
noted (Member r) t places p rest l d = refl
noted (Limit r n) t places p rest l d = refl
noted End t places p rest l d = refl
noted Unknown t places p rest l d = refl

module _ (s : List ℕ) (n p : ℕ) (t : Scan) (places : List ℕ) where
  pub places_next : (w : ℕ) (d : Word) (t' : Scan) (places' : List ℕ) → p < n → length places ≡ 32 → w ≡ word_at s p → d ≡ decode w
      → Due t d.entry → t' ≡ next t d.entry → places' ≡ noting p t.exclusions places d.entry
      → take t'.exclusions places' ++ places_from s (n - (p + 1)) (p + 1) ≡ take t.exclusions places ++ places_from s (n - p) p
  unfolding places_from entry_at
  places_next w d t' places' l h ew ed due et ep =
      let k : n - p ≡ suc (n - (p + 1)) = omega arith in
      let e : d.entry ≡ entry_at s p = cc in
      ap₂ (λ (x : Scan) (y : List ℕ). take x.exclusions y ++ places_from s (n - (p + 1)) (p + 1)) et ep
      ∙ noted d.entry t places p (places_from s (n - (p + 1)) (p + 1)) h due
      ∙ ap (λ (x : Entry). take t.exclusions places ++ placed x p (places_from s (n - (p + 1)) (p + 1))) e
      ∙ ap (λ (m : ℕ). take t.exclusions places ++ places_from s m p) (sym k)

  pub places-end : n ≤ p → take t.exclusions places ≡ take t.exclusions places ++ places_from s (n - p) p
  unfolding places_from
  places-end l =
      let k : n - p ≡ 0 = omega arith in
      sym (ap (λ (m : ℕ). take t.exclusions places ++ places_from s m p) k ∙ append-nil (take t.exclusions places))

-- ---- what the places and their number keep to

pub length-noted : (p i : ℕ) (places : List ℕ) (e : Entry) → length (noting p i places e) ≡ length places
unfolding noting
length-noted p i places (Assignment u r) = refl
length-noted p i places (Grant r q) = refl
length-noted p i places (Senior a b) = refl
length-noted p i places (Exclude x m) = length-set places i p
length-noted p i places (Member r) = refl
length-noted p i places (Limit r t) = refl
length-noted p i places End = refl
length-noted p i places Unknown = refl

-- every place noted is one of the image's
pub noted_below : (n p i : ℕ) (places : List ℕ) (e : Entry) → p < n → ((j : ℕ) → get_or places j 0 < n) → (j : ℕ) → get_or (noting p i places e) j 0 < n
unfolding noting
noted_below n p i places (Assignment u r) l h j = h j
noted_below n p i places (Grant r q) l h j = h j
noted_below n p i places (Senior a b) l h j = h j
noted_below n p i places (Exclude x m) l h j = go (eqb j i) refl (ltb i (length places)) refl
  where
    go : (a : Bool) → eqb j i ≡ a → (b : Bool) → ltb i (length places) ≡ b → get_or (set places i p) j 0 < n
    go true e true q =
        rw (eqb-true j i e) (subst (λ (x : ℕ). x < n) (sym (get_or-set_same places i p 0 (ltb-true i (length places) q))) l)
    go true e false q =
        subst (λ (v : List ℕ). get_or v j 0 < n) (sym (set_out places i p (ltb-false i (length places) q))) (h j)
    go false e b q = subst (λ (x : ℕ). x < n) (sym (get_or-set_other places i j p 0 (eqb-false j i e))) (h j)
noted_below n p i places (Member r) l h j = h j
noted_below n p i places (Limit r t) l h j = h j
noted_below n p i places End l h j = h j
noted_below n p i places Unknown l h j = h j

-- before any word, each place is that of the head
pub none_noted : (k n : ℕ) → 1 ≤ n → (j : ℕ) → get_or (replicate k 0) j 0 < n
none_noted zero n l zero = l
none_noted zero n l (suc j) = l
none_noted (suc k) n l zero = l
none_noted (suc k) n l (suc j) = none_noted k n l j

-- at most 32 exclusions
pub next_few : (t : Scan) (e : Entry) → Due t e → t.exclusions ≤ 32 → (next t e).exclusions ≤ 32
unfolding next Due
next_few t (Assignment u r) d h = h
next_few t (Grant r q) d h = h
next_few t (Senior a b) d h = h
next_few t (Exclude x m) d h = omega arith
next_few t (Member r) d h = h
next_few t (Limit r n) d h = h
next_few t End d h = h
next_few t Unknown d h = h

-- each of the first places is below the bound
pub taken_below : (n b : ℕ) (ps : List ℕ) → ((j : ℕ) → get_or ps j 0 < b) → (k d : ℕ) → k < length (take n ps) → get_or (take n ps) k d < b
taken_below zero b ps h k d l = absurd (omega arith)
taken_below (suc n) b [] h k d l = absurd (omega arith)
taken_below (suc n) b (p ∷ ps) h zero d l = h 0
taken_below (suc n) b (p ∷ ps) h (suc k) d l = taken_below n b ps (λ j. h (suc j)) k d (omega arith)
