-- A walk from place 0 by the first exclusion behind each place reads the exclusions of the image, in image order.
-- Assumes nothing.
use mathlib.Core.Path.{◌≡◌, refl, sym, ap, subst, ◌∙◌}
use mathlib.Core.Bool.{Bool, true, false, true≢false}
use mathlib.Core.List.{List, [], ◌∷◌, ◌++◌}
use Prim.Native.Nat.{ℕ, zero, suc, ◌+◌, ◌-◌, ◌<◌, ◌≤◌}
use native.Mathlib.Omega.{arith}
use lib.ListN.{length, get_or, drop}
use Rattle.model.specs.declared.Exclusion.{Exclusion}
use Rattle.model.specs.declared.Entry.{Entry}
use Rattle.model.specs.declared.Entry.TheVariants.{Assignment, Grant, Senior, Exclude, Member, Limit, End, Unknown}
use Rattle.model.specs.Image.{word_at, behind_head, decode}
use Rattle.model.specs.Policy.{entry_at, entries_from, entries_of, exclusions_of}
use Rattle.image_reader.specs.Places.{found_at, excludes, is_exclusion, exclusion_among, exclusion_after, entries_behind, exclusion_by, visiting, walked}
use Rattle.image_reader.proofs.PlaceLaws.{word_found}

-- the exclusions of some entries: that of the first, and those of the rest
of-first : (e : Entry) (es : List Entry) → exclusions_of (e ∷ es) ≡ exclusion_by e es ++ exclusions_of es
unfolding exclusions_of exclusion_by
of-first e es = refl

-- an entry that is no exclusion adds none
of_other : (e : Entry) (es : List Entry) → excludes e ≡ false → exclusions_of (e ∷ es) ≡ exclusions_of es
unfolding exclusions_of excludes
of_other (Assignment u r) es h = refl
of_other (Grant r p) es h = refl
of_other (Senior a b) es h = refl
of_other (Exclude x m) es h = absurd (true≢false h)
of_other (Member r) es h = refl
of_other (Limit r n) es h = refl
of_other End es h = refl
of_other Unknown es h = refl

-- an exclusion's own entry gives it, and the rest gives the others
own_first : (e : Entry) (es : List Entry) (rest : List Exclusion) (x : Exclusion) (xs : List Exclusion) → excludes e ≡ true
    → exclusion_by e es ++ rest ≡ x ∷ xs → (exclusion_by e es ≡ x ∷ []) × (rest ≡ xs)
unfolding excludes exclusion_by
own_first (Assignment u r) es rest x xs h q = absurd (true≢false (sym h))
own_first (Grant r p) es rest x xs h q = absurd (true≢false (sym h))
own_first (Senior a b) es rest x xs h q = absurd (true≢false (sym h))
own_first (Exclude y m) es rest x xs h q = (ap (λ (l : List Exclusion). get_or l 0 y ∷ []) q, ap (λ (l : List Exclusion). drop 1 l) q)
own_first (Member r) es rest x xs h q = absurd (true≢false (sym h))
own_first (Limit r n) es rest x xs h q = absurd (true≢false (sym h))
own_first End es rest x xs h q = absurd (true≢false (sym h))
own_first Unknown es rest x xs h q = absurd (true≢false (sym h))

some_first : (e : Entry) (es : List Entry) (rest : List Exclusion) → excludes e ≡ true → exclusion_by e es ++ rest ≡ [] → ⊥
unfolding excludes exclusion_by
some_first (Assignment u r) es rest h q = true≢false (sym h)
some_first (Grant r p) es rest h q = true≢false (sym h)
some_first (Senior a b) es rest h q = true≢false (sym h)
some_first (Exclude y m) es rest h q = cc
some_first (Member r) es rest h q = true≢false (sym h)
some_first (Limit r n) es rest h q = true≢false (sym h)
some_first End es rest h q = true≢false (sym h)
some_first Unknown es rest h q = true≢false (sym h)

-- nothing is read from place 0
visited : (f : ℕ → List Exclusion) (q : ℕ) (x : Exclusion) (xs : List Exclusion) → visiting f q ≡ x ∷ xs → (0 < q) × (f q ≡ x ∷ xs)
unfolding visiting
visited f zero x xs e = let k : 0 ≡ suc (length xs) = ap length e in absurd (omega arith)
visited f (suc q) x xs e = (omega arith, e)

visiting-one : (f : ℕ → List Exclusion) (q : ℕ) → 0 < q → f q ≡ visiting f q
unfolding visiting
visiting-one f zero h = absurd (omega arith)
visiting-one f (suc q) h = refl

visiting_same : (f g : ℕ → List Exclusion) (q : ℕ) → (0 < q → f q ≡ g q) → visiting f q ≡ visiting g q
unfolding visiting
visiting_same f g zero h = refl
visiting_same f g (suc q) h = h (omega arith)

module _ (s : List ℕ) where
  -- what the walk does at a place, where t says whether the next place has an exclusion
  abbrev turn : ℕ → ℕ → Bool → ℕ
  turn n p t = elim t [ true ↦ p + 1 | false ↦ exclusion_among s n (p + 1) ]

  turned : (n p : ℕ) (t : Bool) → p + 1 ≤ behind_head s → excludes (entry_at s (p + 1)) ≡ t → turn n p t ≡ exclusion_among s (suc n) p
  unfolding exclusion_among entry_at is_exclusion
  turned n p t l h =
      let f = word_found s (behind_head s) (p + 1) (word_at s (p + 1)) (decode (word_at s (p + 1))) refl (omega arith) l refl refl in
      ap (turn n p) (sym h ∙ ap is_exclusion f)

  -- the exclusion at a place and those behind it
  abbrev onward : ℕ → List Exclusion
  onward q = exclusion_by (entry_at s q) (entries_behind s q) ++ exclusions_of (entries_behind s q)

  -- those behind a place are those from the first exclusion on
  first-behind : (n p : ℕ) → n ≡ behind_head s - p → exclusions_of (entries_from s n (p + 1)) ≡ visiting onward (exclusion_among s n p)
  unfolding entries_from exclusions_of exclusion_among visiting entries_behind
  first-behind zero p e = refl
  first-behind (suc n) p e = go (first-behind n (p + 1) (omega arith)) (excludes (entry_at s (p + 1))) refl
    where
      go : exclusions_of (entries_from s n (p + 1 + 1)) ≡ visiting onward (exclusion_among s n (p + 1)) → (t : Bool) → excludes (entry_at s (p + 1)) ≡ t
          → exclusions_of (entry_at s (p + 1) ∷ entries_from s n (p + 1 + 1)) ≡ visiting onward (exclusion_among s (suc n) p)
      go rest true h =
          let k : n ≡ behind_head s - (p + 1) = omega (arith, e) in
          of-first (entry_at s (p + 1)) (entries_from s n (p + 1 + 1))
          ∙ ap (λ (m : ℕ). exclusion_by (entry_at s (p + 1)) (entries_from s m (p + 1 + 1)) ++ exclusions_of (entries_from s m (p + 1 + 1))) k
          ∙ visiting-one onward (p + 1) (omega arith)
          ∙ ap (visiting onward) (turned n p true (omega (arith, e)) h)
      go rest false h =
          of_other (entry_at s (p + 1)) (entries_from s n (p + 1 + 1)) h
          ∙ rest
          ∙ ap (visiting onward) (turned n p false (omega (arith, e)) h)

  -- an exclusion found lies behind the place
  found_behind : (n p : ℕ) → 0 < exclusion_among s n p → p < exclusion_among s n p
  unfolding exclusion_among
  found_behind zero p h = absurd (omega (arith, h))
  found_behind (suc n) p h = go (found_behind n (p + 1)) (is_exclusion (found_at s (p + 1))) h
    where
      go : (0 < exclusion_among s n (p + 1) → p + 1 < exclusion_among s n (p + 1)) → (t : Bool) → 0 < turn n p t → p < turn n p t
      go rest true l = omega arith
      go rest false l = omega (arith, rest l)

  -- and is one, at a place of the image
  found_excludes : (n p : ℕ) → n ≡ behind_head s - p → 0 < exclusion_among s n p
      → (excludes (entry_at s (exclusion_among s n p)) ≡ true) × (exclusion_among s n p ≤ behind_head s)
  unfolding exclusion_among
  found_excludes zero p e h = absurd (omega (arith, h))
  found_excludes (suc n) p e h = go (found_excludes n (p + 1) (omega (arith, e))) (excludes (entry_at s (p + 1))) refl
    where
      One : ℕ → Type 0
      One q = (excludes (entry_at s q) ≡ true) × (q ≤ behind_head s)

      go : (0 < exclusion_among s n (p + 1) → One (exclusion_among s n (p + 1))) → (t : Bool) → excludes (entry_at s (p + 1)) ≡ t
          → One (exclusion_among s (suc n) p)
      go rest true k = subst One (turned n p true (omega (arith, e)) k) (k, omega (arith, e))
      go rest false k =
          let t = turned n p false (omega (arith, e)) k in
          subst One t (rest (omega (arith, t, h)))

  -- where exclusions stand behind a place, the walk goes on to the place of the first of them
  pub record Visits (place : ℕ) (x : Exclusion) (xs : List Exclusion) : Type 0 where
    pub before : 0 < exclusion_after s place
    pub inside : exclusion_after s place ≤ behind_head s
    pub first : exclusion_by (entry_at s (exclusion_after s place)) (entries_behind s (exclusion_after s place)) ≡ x ∷ []
    pub rest : exclusions_of (entries_behind s (exclusion_after s place)) ≡ xs

  pub visits_next : (place : ℕ) (x : Exclusion) (xs : List Exclusion) → exclusions_of (entries_behind s place) ≡ x ∷ xs → Visits place x xs
  unfolding entries_behind exclusion_after
  visits_next place x xs e =
      let n = behind_head s - place in
      let q = exclusion_among s n place in
      let v = visited onward q x xs (sym (first-behind n place refl) ∙ e) in
      let f = found_excludes n place refl v.0 in
      let o = own_first (entry_at s q) (entries_behind s q) (exclusions_of (entries_behind s q)) x xs f.0 v.1 in
      record { before = v.0; inside = f.1; first = o.0; rest = o.1 }

  -- where the walk goes on, there is an exclusion behind the place
  pub visits_some : (place : ℕ) → 0 < exclusion_after s place → exclusions_of (entries_behind s place) ≡ [] → ⊥
  unfolding entries_behind exclusion_after
  visits_some place h e =
      let n = behind_head s - place in
      let q = exclusion_among s n place in
      some_first (entry_at s q) (entries_behind s q) (exclusions_of (entries_behind s q)) (found_excludes n place refl h).0
      (visiting-one onward q h ∙ sym (first-behind n place refl) ∙ e)

  -- the walk starts before all of them
  pub visits_start : exclusions_of (entries_behind s 0) ≡ exclusions_of (entries_of s)
  unfolding entries_of entries_behind
  visits_start = let k : behind_head s - 0 ≡ behind_head s = omega arith in ap (λ (m : ℕ). exclusions_of (entries_from s m 1)) k

  walked_is : (n place : ℕ) → behind_head s ≤ place + n → walked s n place ≡ exclusions_of (entries_behind s place)
  unfolding walked entries_behind entries_from exclusions_of exclusion_after
  walked_is zero place h =
      let k : 0 ≡ behind_head s - place = omega (arith, h) in ap (λ (m : ℕ). exclusions_of (entries_from s m (place + 1))) k
  walked_is (suc n) place h =
      let q = exclusion_among s (behind_head s - place) place in
      visiting_same (λ (x : ℕ). exclusion_by (entry_at s x) (entries_behind s x) ++ walked s n x) onward q
      (λ l. ap (λ (xs : List Exclusion). exclusion_by (entry_at s q) (entries_behind s q) ++ xs)
      (walked_is n q (omega (arith, h, found_behind (behind_head s - place) place l))))
      ∙ sym (first-behind (behind_head s - place) place refl)

  -- The walk over the whole image reads its exclusions.
  pub walk_reads_exclusions : walked s (behind_head s) 0 ≡ exclusions_of (entries_of s)
  unfolding entries_of entries_behind
  walk_reads_exclusions =
      let k : behind_head s - 0 ≡ behind_head s = omega arith in
      walked_is (behind_head s) 0 (omega arith) ∙ ap (λ (m : ℕ). exclusions_of (entries_from s m 1)) k
