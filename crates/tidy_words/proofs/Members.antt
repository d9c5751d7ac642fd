-- The members of a set, ascending: by the lowest first, and by four words one after another.
-- Assumes nothing.
use Rattle.std.proofs.Common.{◌≡◌, ℕ, zero, suc, ◌+◌, ◌*◌, ◌<◌, ◌≤◌, Bool, true, false, ◌⊎◌, List, [], ◌∷◌, ◌++◌, map, get_or, sym, refl, ap, ◌∙◌, ap₂, inl, inr, append_assoc, append-nil, add-zero, add-suc, arith, w64, Fits}
use mathlib.Core.List.{map-map, map-append}
use borrow.Table.Steps.{cases}
use Rattle.model.specs.Tests.{pick}
use Rattle.model.specs.Sets.{has}
use Rattle.model_laws.proofs.UnionLaws.{below_or_last}
use Rattle.sets.specs.Members.{without, Lowest}
use Rattle.sets.specs.Words.{value}
use Rattle.sets.proofs.Taken.{without_gone, without_other, lowest_least}
use Rattle.sets.proofs.Machine.{value-has}
use Rattle.model_tidy.specs.Tidy.{members_to}
use Rattle.tidy_words.specs.Buffers.{set_words}
use Rattle.tidy_words.proofs.Writing.{Begins, Fours}

-- ---- equal lists

pub members_same : (d s t : ℕ) → ((j : ℕ) → j < d → has s j ≡ has t j) → members_to d s ≡ members_to d t
unfolding members_to
members_same zero s t h = refl
members_same (suc d) s t h =
    ap₂ (λ (l : List ℕ) (b : Bool). l ++ pick b (d ∷ []) []) (members_same d s t (λ j l. h j (omega arith))) (h d (omega arith))

pub members_none : (d s : ℕ) → ((j : ℕ) → j < d → has s j ≡ false) → members_to d s ≡ []
unfolding members_to pick
members_none zero s h = refl
members_none (suc d) s h =
    ap₂ (λ (l : List ℕ) (b : Bool). l ++ pick b (d ∷ []) []) (members_none d s (λ j l. h j (omega arith))) (h d (omega arith))

pub map_same : (f g : ℕ → ℕ) (js : List ℕ) → ((j : ℕ) → f j ≡ g j) → map f js ≡ map g js
map_same f g [] h = refl
map_same f g (j ∷ js) h = ap₂ {C = List ℕ} (λ (x : ℕ) (l : List ℕ). x ∷ l) (h j) (map_same f g js h)

-- ---- the lowest first

module _ (s k : ℕ) (m : has s k ≡ true) (least : (j : ℕ) → has s j ≡ true → k ≤ j) where
  below_none : (j : ℕ) → j < k → has s j ≡ false
  below_none j l = cases (has s j) (λ e. let q = least j e in absurd (omega arith)) (λ e. e)

  below_none' : (j : ℕ) → j < k → has (without s k) j ≡ false
  below_none' j l = without_other s k j m (λ e. omega arith) ∙ below_none j l

  pub members-lowest : (d : ℕ) → k < d → members_to d s ≡ k ∷ members_to d (without s k)
  unfolding members_to pick
  members-lowest zero l = absurd (omega arith)
  members-lowest (suc d) l = go (below_or_last k d l) (members-lowest d)
    where
      go : (k < d) ⊎ (k ≡ d) → (k < d → members_to d s ≡ k ∷ members_to d (without s k))
          → members_to d s ++ pick (has s d) (d ∷ []) [] ≡ k ∷ (members_to d (without s k) ++ pick (has (without s k) d) (d ∷ []) [])
      go (inl h) ih =
          ap₂ (λ (l : List ℕ) (b : Bool). l ++ pick b (d ∷ []) []) (ih h) (sym (without_other s k d m (λ e. omega arith)))
      go (inr e) ih =
          let a : members_to d s ≡ [] = members_none d s (λ j l. below_none j (omega arith)) in
          let b : members_to d (without s k) ≡ [] = members_none d (without s k) (λ j l. below_none' j (omega arith)) in
          let t : has s d ≡ true = ap (has s) (sym e) ∙ m in
          let f : has (without s k) d ≡ false = ap (has (without s k)) (sym e) ∙ without_gone s k m in
          rw (a, b, t, f, e) refl

-- ---- a walk by the lowest member

module _ (first unit left k : ℕ) (low : Lowest left k) where
  walk_least : (j : ℕ) → has left j ≡ true → k ≤ j
  walk_least j h = lowest_least left k j low h

  -- the words of a set begin with that of its lowest member
  pub walk-next : (less : ℕ) → less ≡ without left k → Begins (set_words 64 first unit left) ((first + k * unit) ∷ []) (set_words 64 first unit less)
  unfolding set_words
  walk-next less e = record {
    is =
        ap (map (λ j. first + j * unit)) (members-lowest left k low.member walk_least 64 low.small)
        ∙ ap (λ (x : ℕ). (first + k * unit) ∷ map (λ j. first + j * unit) (members_to 64 x)) (sym e);
  }

-- the empty set has none
pub walk_end : (first unit left : ℕ) → left ≡ 0 → set_words 64 first unit left ≡ []
unfolding set_words members_to has pick
walk_end first unit left e = ap (λ (x : ℕ). map (λ j. first + j * unit) (members_to 64 x)) e

-- ---- four words

-- the members from d on are those of another set, d higher
members-next : (d e s t : ℕ) → ((k : ℕ) → k < e → has s (d + k) ≡ has t k) → members_to (d + e) s ≡ members_to d s ++ map (λ j. d + j) (members_to e t)
unfolding members_to
members-next d zero s t h = ap (λ (n : ℕ). members_to n s) (add-zero d) ∙ sym (append-nil (members_to d s))
members-next d (suc e) s t h =
    ap (λ (n : ℕ). members_to n s) (add-suc d e)
    ∙ ap₂ (λ (l : List ℕ) (b : Bool). l ++ pick b ((d + e) ∷ []) []) (members-next d e s t (λ k l. h k (omega arith))) (h e (omega arith))
    ∙ append_assoc (members_to d s) (map (λ j. d + j) (members_to e t)) (pick (has t e) ((d + e) ∷ []) [])
    ∙ ap (λ (l : List ℕ). members_to d s ++ l) (last (has t e) ∙ sym (map-append (λ j. d + j) (members_to e t) (pick (has t e) (e ∷ []) [])))
  where
    last : (b : Bool) → map (λ j. d + j) (members_to e t) ++ pick b ((d + e) ∷ []) [] ≡ map (λ j. d + j) (members_to e t) ++ map (λ j. d + j)
        (pick b (e ∷ []) [])
    last true = unfold pick in refl
    last false = unfold pick in refl

module _ (row : List ℕ) (fit : (i : ℕ) → Fits w64 (get_or row i 0)) where
  digit : (i k : ℕ) → i < 4 → k < 64 → has (value row) (i * 64 + k) ≡ has (get_or row i 0) k
  digit i k l m = sym (value-has row fit (i * 64 + k) i k (record { whole = refl; inside = l; small = m }))

  pub members_four : members_to 256 (value row)
      ≡ ((members_to 64 (get_or row 0 0) ++ map (λ j. 64 + j) (members_to 64 (get_or row 1 0))) ++ map (λ j. 128 + j) (members_to 64 (get_or row 2 0)))
      ++ map (λ j. 192 + j) (members_to 64 (get_or row 3 0))
  members_four =
      members-next 192 64 (value row) (get_or row 3 0) (λ k l. digit 3 k (omega arith) l)
      ∙ ap (λ (l : List ℕ). l ++ map (λ j. 192 + j) (members_to 64 (get_or row 3 0)))
      (members-next 128 64 (value row) (get_or row 2 0) (λ k l. digit 2 k (omega arith) l)
      ∙ ap (λ (l : List ℕ). l ++ map (λ j. 128 + j) (members_to 64 (get_or row 2 0)))
      (members-next 64 64 (value row) (get_or row 1 0) (λ k l. digit 1 k (omega arith) l)
      ∙ ap (λ (l : List ℕ). l ++ map (λ j. 64 + j) (members_to 64 (get_or row 1 0)))
      (members_same 64 (value row) (get_or row 0 0) (λ k l. sym (value-has row fit k 0 k (record { whole = omega arith; inside = omega arith; small = l }))))))

-- ---- the words of a set in four machine words

words_from : (first unit base s : ℕ) → map (λ j. first + j * unit) (map (λ j. base + j) (members_to 64 s)) ≡ set_words 64 (first + base * unit) unit s
unfolding set_words
words_from first unit base s =
    map-map (λ j. first + j * unit) (λ j. base + j) (members_to 64 s)
    ∙ map_same (λ j. first + (base + j) * unit) (λ j. first + base * unit + j * unit) (members_to 64 s) (λ j. omega arith)

-- four runs, one for each word of the row
pub words_four : (row : List ℕ) → ((i : ℕ) → Fits w64 (get_or row i 0)) → (first unit : ℕ)
    → Fours (set_words 256 first unit (value row)) (set_words 64 first unit (get_or row 0 0)) (set_words 64 (first + 64 * unit) unit (get_or row 1 0))
    (set_words 64 (first + 128 * unit) unit (get_or row 2 0)) (set_words 64 (first + 192 * unit) unit (get_or row 3 0))
unfolding set_words
words_four row fit first unit =
    let g : List ℕ → List ℕ = map (λ j. first + j * unit) in
    let a : List ℕ = members_to 64 (get_or row 0 0) in
    let b : List ℕ = map (λ j. 64 + j) (members_to 64 (get_or row 1 0)) in
    let c : List ℕ = map (λ j. 128 + j) (members_to 64 (get_or row 2 0)) in
    let d : List ℕ = map (λ j. 192 + j) (members_to 64 (get_or row 3 0)) in
    let p1 = words_from first unit 64 (get_or row 1 0) in
    let p2 = words_from first unit 128 (get_or row 2 0) in
    let p3 = words_from first unit 192 (get_or row 3 0) in
    record {
      is = ap g (members_four row fit ∙ append_assoc (a ++ b) c d ∙ append_assoc a b (c ++ d))
          ∙ map-append (λ j. first + j * unit) a (b ++ (c ++ d))
          ∙ ap (λ (l : List ℕ). g a ++ l) (map-append (λ j. first + j * unit) b (c ++ d)
          ∙ ap (λ (l : List ℕ). g b ++ l) (map-append (λ j. first + j * unit) c d))
          ∙ (λ i. g a ++ (p1 i ++ (p2 i ++ p3 i)));
    }
