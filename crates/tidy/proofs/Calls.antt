-- What a call that writes the tidy image leaves, by the tables.
-- Assumes nothing.
use mathlib.Core.Path.{◌≡◌, refl, sym, ap, subst, ◌∙◌}
use mathlib.Core.List.{List, ◌∷◌, ◌++◌, map}
use Prim.Native.Nat.{ℕ, ◌+◌, ◌*◌, ◌/◌, ◌≤◌, ◌<◌}
use native.Mathlib.Nat.{zero-add}
use native.Mathlib.Omega.{arith}
use lib.ListN.{length, drop}
use borrow.Author.Tests.{lt-ltb, le-ltb}
use Rattle.model.specs.declared.Head.{Head}
use Rattle.model.specs.declared.Exclusion.{Exclusion}
use Rattle.model.specs.declared.Checked.TheVariants.{Accepted}
use Rattle.model.specs.Tests.{pick}
use Rattle.model.specs.Words.{head_word, assign_word, grant_word, senior_word, ended, image_bytes}
use Rattle.model.specs.Policy.{Policy, sorted}
use Rattle.octets.specs.Splice.{splice}
use Rattle.model_tidy.specs.Groups.{spread}
use Rattle.model_tidy.specs.Tidy.{table_groups, exclusion_group, limit_groups, tidy_groups, tidy_words, tidy, tidy_by}
use Rattle.model_tidy_laws.proofs.TidyLists.{spread_append}
use Rattle.model_tidy_laws.proofs.WordLaws.{bytes_length}
use Rattle.tidy_words.specs.Tables.{table_words, limit_words}
use Rattle.tidy_words.specs.Whole.{rest_words, group_words, words_by}
use Rattle.tidy.specs.Whole.{policy_by, Writes}

-- the tidy image by the tables
module _ (h : Head) (assigned granted juniors : List ℕ) (xs : List Exclusion) (limits : List ℕ) where
  groups_spread : spread (tidy_groups (policy_by h assigned granted juniors xs limits))
      ≡ group_words assigned granted juniors (sorted xs) limits
  unfolding tidy_groups limit_groups policy_by group_words rest_words limit_words table_words
  groups_spread =
      let A = table_groups assign_word 64 0 assigned in
      let G = table_groups grant_word 256 0 granted in
      let J = table_groups senior_word 64 0 juniors in
      let X = map exclusion_group (sorted xs) in
      let L = limit_groups limits in
      spread_append A (G ++ (J ++ (X ++ L)))
      ∙ ap (λ (l : List ℕ). spread A ++ l)
      (spread_append G (J ++ (X ++ L)) ∙ ap (λ (l : List ℕ). spread G ++ l) (spread_append J (X ++ L) ∙ ap (λ (l : List ℕ). spread J ++ l) (spread_append X L)))

  tidy_by_lem : tidy (policy_by h assigned granted juniors xs limits)
      ≡ image_bytes (ended (words_by h assigned granted juniors (sorted xs) limits))
  unfolding tidy tidy_words words_by policy_by
  tidy_by_lem = ap (λ (l : List ℕ). image_bytes (ended (head_word h.users h.roles h.permissions ∷ l))) groups_spread

  module _ (L : List Exclusion) (e : L ≡ sorted xs) (m : ℕ)
      (em : m ≡ length (ended (words_by h assigned granted juniors L limits))) where
    listed_by : tidy (policy_by h assigned granted juniors xs limits) ≡ image_bytes (ended (words_by h assigned granted juniors L limits))
    listed_by = tidy_by_lem ∙ ap (λ (l : List Exclusion). image_bytes (ended (words_by h assigned granted juniors l limits))) (sym e)

    tidy-length : length (tidy (policy_by h assigned granted juniors xs limits)) ≡ 4 * m
    tidy-length = ap length listed_by ∙ bytes_length (ended (words_by h assigned granted juniors L limits)) ∙ ap (λ (k : ℕ). 4 * k) (sym em)

    -- 19 for a buffer that is too small
    pub writes_19 : (out : List ℕ) → length out < 4 * m → Writes (tidy_by (Accepted h) (policy_by h assigned granted juniors xs limits) out) 19 out
    unfolding tidy_by pick
    writes_19 out k =
        let l : length out < length (tidy (policy_by h assigned granted juniors xs limits)) = subst (λ (x : ℕ). length out < x) (sym tidy-length) k in
        rw (lt-ltb (length out) (length (tidy (policy_by h assigned granted juniors xs limits))) l) (record { number = refl; bytes = refl })

    -- else the image in front of what was there
    pub writes-done : (out after : List ℕ) → 4 * m ≤ length out → after ≡ splice out 0 (image_bytes (ended (words_by h assigned granted juniors L limits)))
        → Writes (tidy_by (Accepted h) (policy_by h assigned granted juniors xs limits) out) (256 * m) after
    unfolding tidy_by pick splice
    writes-done out after k q =
        let p : Policy = policy_by h assigned granted juniors xs limits in
        let l : length (tidy p) ≤ length out = subst (λ (x : ℕ). x ≤ length out) (sym tidy-length) k in
        let t = tidy-length in
        let w : 256 * m ≡ 0 + 256 * (length (tidy p) / 4) = omega arith in
        let b : after ≡ tidy p ++ drop (length (tidy p)) out
        = q ∙ ap (λ (x : List ℕ). x ++ drop (0 + length x) out) (sym listed_by) ∙ ap (λ (x : ℕ). tidy p ++ drop x out) (zero-add (length (tidy p))) in
        rw (le-ltb (length out) (length (tidy p)) l) (record { number = w; bytes = b })
