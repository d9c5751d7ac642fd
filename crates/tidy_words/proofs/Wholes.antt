-- The whole image: its words counted and written.
-- Assumes nothing.
use Rattle.std.proofs.Common.{◌≡◌, ℕ, ◌+◌, ◌-◌, ◌*◌, ◌%◌, ◌^◌, ◌≤◌, List, [], ◌∷◌, ◌++◌, map, length, sym, refl, ap, subst, ◌∙◌, zero-add, arith, length-append}
use Rattle.model.specs.declared.Head.{Head}
use Rattle.model.specs.declared.Exclusion.{Exclusion}
use Rattle.model.specs.Words.{head_word, assign_word, grant_word, senior_word, sum_of, end_word, ended, image_bytes}
use Rattle.sets.specs.Words.{value, values}
use Rattle.octets.specs.Splice.{splice}
use Rattle.model_tidy.specs.Groups.{spread}
use Rattle.model_tidy.specs.Tidy.{exclusion_group}
use Rattle.tidy_words.specs.declared.words.Writer.{Writer}
use Rattle.tidy_words.specs.Buffers.{Buffer, written, Puts, Room}
use Rattle.tidy_words.specs.Tables.{word_by, table_words, limit_words}
use Rattle.tidy_words.specs.Whole.{rest_words, group_words, words_by}
use Rattle.tidy_words.proofs.Writing.{puts-sum, puts_bytes, Begins, Fours, Goes, goes_start, goes_room, goes_next, goes_last, all_of}

-- ---- words

pub same_rows : (rows : List ℕ) → map (λ (s : ℕ). s) rows ≡ rows
same_rows [] = refl
same_rows (row ∷ rows) = ap (λ (l : List ℕ). row ∷ l) (same_rows rows)

pub groups_four : (assigned : List ℕ) (granted : List (List ℕ)) (juniors : List ℕ) (xs : List Exclusion) (limits : List ℕ)
    → Fours (group_words assigned (values granted) juniors xs limits) (table_words (word_by 536870912 65536) 64 (map (λ (s : ℕ). s) assigned) 0)
    (table_words (word_by 805306368 16384) 256 (map value granted) 0)
    (table_words (word_by 1073741824 65536) 64 (map (λ (s : ℕ). s) juniors) 0) (rest_words xs limits)
unfolding group_words word_by assign_word grant_word senior_word values
groups_four assigned granted juniors xs limits =
    rw (same_rows assigned, same_rows juniors) (record { is = refl })

-- the exclusions first, and then the limits
pub rest_first : (xs : List Exclusion) (limits : List ℕ) → Begins (rest_words xs limits) (spread (map exclusion_group xs)) (limit_words limits 0)
unfolding rest_words
rest_first xs limits = record { is = refl }

-- how many words there are
pub words_count : (h : Head) (assigned granted juniors : List ℕ) (xs : List Exclusion) (limits : List ℕ) (a g j x l : ℕ)
    → ((word : ℕ → ℕ → ℕ) → a ≡ length (table_words word 64 assigned 0)) → ((word : ℕ → ℕ → ℕ) → g ≡ length (table_words word 256 granted 0))
    → ((word : ℕ → ℕ → ℕ) → j ≡ length (table_words word 64 juniors 0)) → x ≡ length (spread (map exclusion_group xs)) → l ≡ length (limit_words limits 0)
    → 2 + a + g + j + x + l ≡ length (ended (words_by h assigned granted juniors xs limits))
unfolding ended words_by group_words rest_words
words_count h assigned granted juniors xs limits a g j x l ea eg ej ex el =
    let A : List ℕ = table_words assign_word 64 assigned 0 in
    let G : List ℕ = table_words grant_word 256 granted 0 in
    let J : List ℕ = table_words senior_word 64 juniors 0 in
    let X : List ℕ = spread (map exclusion_group xs) in
    let W : List ℕ = words_by h assigned granted juniors xs limits in
    let w = length-append W (end_word (sum_of W) ∷ []) in
    let L : List ℕ = limit_words limits 0 in
    let p = length-append A (G ++ (J ++ (X ++ L))) in
    let q = length-append G (J ++ (X ++ L)) in
    let r = length-append J (X ++ L) in
    let s = length-append X L in
    let ka = ea assign_word in
    let kg = eg grant_word in
    let kj = ej senior_word in
    omega arith

-- words of equal sums have one end word
end_same : (s t : ℕ) → s % 2 ^ 28 ≡ t % 2 ^ 28 → end_word s ≡ end_word t
unfolding end_word
end_same s t e = ap (λ (x : ℕ). 15 * 2 ^ 28 + (2 ^ 28 - x) % 2 ^ 28) e

-- ---- the image written

module _ (h : Head) (assigned granted juniors : List ℕ) (xs : List Exclusion) (limits : List ℕ) where
  abbrev body : List ℕ
  body = words_by h assigned granted juniors xs limits

  -- the head first
  pub head_first : {w : ℕ} → w ≡ head_word h.users h.roles h.permissions → Begins body (w ∷ []) (group_words assigned granted juniors xs limits)
  unfolding words_by
  head_first e = record { is = ap (λ (x : ℕ). x ∷ group_words assigned granted juniors xs limits) (sym e) }

  -- the words before the end, and the end word
  then-last : Begins (ended body) body (end_word (sum_of body) ∷ [])
  unfolding ended
  then-last = record { is = refl }

  -- where there is room for all words, there is for those before the end
  pub room_body : (n : ℕ) → 4 * length (ended body) ≤ n → 0 + 4 * length body ≤ n
  room_body n room = let l = ap length then-last.is ∙ length-append body (end_word (sum_of body) ∷ []) in omega arith

  -- a writer before its first word, with room for them all
  module _ (a : Writer) (e : a.at ≡ 0) (z : a.sum ≡ 0) (room : 4 * length (ended body) ≤ length a.out.now) where
    room_all : Room (written a) (ended body)
    room_all = omega arith

    module _ {b : Writer} (p : Puts a b body) where
      bodied : Goes a (ended body) b (end_word (sum_of body) ∷ [])
      bodied = goes_next (goes_start a (ended body) room_all) then-last p

      pub room_end : b.at + 4 ≤ length b.out.now
      room_end = goes_room bodied (all_of (end_word (sum_of body) ∷ []))

      -- the sum so far is that of all words before the end
      summed : b.sum % 2 ^ 28 ≡ sum_of body % 2 ^ 28
      summed =
          ap (λ (t : Buffer). t.sum % 2 ^ 28) p.words ∙ puts-sum (written a) body
          ∙ ap (λ (n : ℕ). (n + sum_of body) % 2 ^ 28) z ∙ ap (λ (n : ℕ). n % 2 ^ 28) (zero-add (sum_of body))

      pub end_put : {c : Writer} {v : ℕ} → v ≡ end_word b.sum → Puts b c (v ∷ []) → Puts a c (ended body)
      end_put {c} q w =
          let v = q ∙ end_same b.sum (sum_of body) summed in
          goes_last bodied (subst (λ (x : ℕ). Puts b c (x ∷ [])) v w)

    pub image_put : {c : Writer} → Puts a c (ended body) → c.out.now ≡ splice a.out.now 0 (image_bytes (ended body))
    image_put p =
        ap (λ (t : Buffer). t.bytes) p.words ∙ puts_bytes (written a) (ended body) room_all
        ∙ ap (λ (n : ℕ). splice a.out.now n (image_bytes (ended body))) e
