-- The words of an accepted image that are left for a user, other users' assignments and the end word left out, mean for
-- that user what the image means, the exclusions in the same order.
-- Assumes nothing.
use mathlib.Core.Path.{◌≡◌, refl, sym, ap, ap₂, ◌∙◌}
use mathlib.Core.Bool.{Bool, true, false, true≢false}
use mathlib.Core.List.{List, [], ◌∷◌, map}
use Prim.Native.Nat.{ℕ, zero, suc, ◌+◌, ◌<◌}
use native.Mathlib.Omega.{arith}
use lib.Dec.{eqb}
use lib.ListN.{length, get_or, set, take, drop, length-set}
use lib.Seq.{get_or-set_same, get_or-set_other}
use borrow.Author.Tests.{eqb-true, eqb-false}
use borrow.Table.Steps.{cases}
use Rattle.model.specs.declared.User.{User}
use Rattle.model.specs.declared.Role.{Role}
use Rattle.model.specs.declared.Head.{Head}
use Rattle.model.specs.declared.Exclusion.{Exclusion}
use Rattle.model.specs.declared.Entry.{Entry}
use Rattle.model.specs.declared.Entry.TheVariants.{Assignment, Grant, Senior, Exclude, Member, Limit, End, Unknown}
use Rattle.model.specs.declared.Scan.{Scan}
use Rattle.model.specs.declared.Checked.TheVariants.{Accepted}
use Rattle.model.specs.Tests.{any}
use Rattle.model.specs.Sets.{with}
use Rattle.model.specs.Image.{word_at, behind_head, assigning, next, head_of, empty_rows, start}
use Rattle.model.specs.Policy.{policy_of, entry_at, entries_from, entries_of, granting, ordering, limiting, fold, with_members, exclusions_of, same_exclusion, excludes, meaning, Agree}
use Rattle.model.specs.Judgement.{judge}
use Rattle.model.specs.OwnWords.{words_from, entry_of, policy_in, is_own, words_with, own_words}
use Rattle.model_laws.proofs.Bools.{elim_case}
use Rattle.model_laws.proofs.Entries.{granting-case, ordering-case, limiting-case, exclusion-case}
use Rattle.model_laws.proofs.Scanned.{member_case, Valid}
use Rattle.model_laws.proofs.Accepted.{words_valid}
use Rattle.model_laws.proofs.Judgements.{words_pass}
use Rattle.model_laws.proofs.Meanings.{agree_meaning}

-- ---- the entries that are left

unfoldable kept : (Entry → Bool) → List Entry → List Entry
kept f [] = []
kept f (e ∷ es) = elim (f e) [ true ↦ e ∷ kept f es | false ↦ kept f es ]

map_kept : (f : Entry → Bool) (ws : List ℕ) → map entry_of (words_with f ws) ≡ kept f (map entry_of ws)
unfolding words_with kept
map_kept f [] = refl
map_kept f (w ∷ ws) =
    cases (f (entry_of w)) (λ e. rw (e, words_with, kept) (ap (λ (es : List Entry). entry_of w ∷ es) (map_kept f ws)))
    (λ e. rw (e, words_with, kept) (map_kept f ws))

entries_are : (s : List ℕ) (n place : ℕ) → map entry_of (words_from s n place) ≡ entries_from s n place
unfolding words_from entries_from entry_at entry_of
entries_are s zero place = refl
entries_are s (suc n) place = ap (λ (es : List Entry). entry_at s place ∷ es) (entries_are s n (place + 1))

-- a table that does not look at the entries left out
fold_kept : {A : Type 0} (step : A → Entry → A) (f : Entry → Bool) → ((a : A) (e : Entry) → f e ≡ false → step a e ≡ a)
    → (a : A) (es : List Entry) → fold step a (kept f es) ≡ fold step a es
unfolding fold kept
fold_kept step f h a [] = refl
fold_kept {A} step f h a (e ∷ es) =
    elim_case (λ xs. fold step a xs ≡ fold step (step a e) es) (f e) (e ∷ kept f es) (kept f es) (λ q. fold_kept step f h (step a e) es)
    (λ q. fold_kept step f h a es ∙ ap (λ (x : A). fold step x es) (sym (h a e q)))

-- a role stored in a user's row
abbrev stored : List ℕ → User → Role → List ℕ
stored rows v r = set rows v.0 (with (get_or rows v.0 0) r.0)

stored_long : (u : ℕ) (rows : List ℕ) (v : User) (r : Role) → u < length rows → u < length (stored rows v r)
stored_long u rows v r h = rw (length-set rows v.0 (with (get_or rows v.0 0) r.0)) h

stored_own : (u : ℕ) (rows : List ℕ) (v : User) (r : Role) → eqb v.0 u ≡ true → u < length rows
    → get_or (stored rows v r) u 0 ≡ with (get_or rows u 0) r.0
stored_own u rows v r q h = rw (eqb-true v.0 u q) (get_or-set_same rows u _ 0 h)

module _ (u : ℕ) where
  grants_pass : (rows : List ℕ) (e : Entry) → is_own u e ≡ false → granting rows e ≡ rows
  unfolding is_own
  grants_pass rows = granting-case (λ e x. is_own u e ≡ false → x ≡ rows) rows (λ r p k. absurd (true≢false k)) (λ _ _ _. refl)

  seniors_pass : (rows : List ℕ) (e : Entry) → is_own u e ≡ false → ordering rows e ≡ rows
  unfolding is_own
  seniors_pass rows = ordering-case (λ e x. is_own u e ≡ false → x ≡ rows) rows (λ a b k. absurd (true≢false k)) (λ _ _ _. refl)

  limits_pass : (rows : List ℕ) (e : Entry) → is_own u e ≡ false → limiting rows e ≡ rows
  unfolding is_own
  limits_pass rows = limiting-case (λ e x. is_own u e ≡ false → x ≡ rows) rows (λ r t k. absurd (true≢false k)) (λ _ _ _. refl)

  -- ---- the user's row
  row_kept : (es : List Entry) (a b : List ℕ) → u < length a → u < length b → get_or a u 0 ≡ get_or b u 0
      → get_or (fold assigning a es) u 0 ≡ get_or (fold assigning b (kept (is_own u) es)) u 0
  unfolding fold assigning kept is_own
  row_kept [] a b la lb e = e
  row_kept (Assignment v r ∷ es) a b la lb e =
      elim_case (λ xs. get_or (fold assigning (stored a v r) es) u 0 ≡ get_or (fold assigning b xs) u 0) (eqb v.0 u)
      (Assignment v r ∷ kept (is_own u) es) (kept (is_own u) es)
      (λ q. row_kept es (stored a v r) (stored b v r) (stored_long u a v r la) (stored_long u b v r lb)
      (stored_own u a v r q la ∙ ap (λ (n : ℕ). with n r.0) e ∙ sym (stored_own u b v r q lb)))
      (λ q. row_kept es (stored a v r) b (stored_long u a v r la) lb (get_or-set_other a v.0 u _ 0 (λ z. eqb-false v.0 u q (sym z)) ∙ e))
  row_kept (Grant r p ∷ es) a b la lb e = row_kept es a b la lb e
  row_kept (Senior c d ∷ es) a b la lb e = row_kept es a b la lb e
  row_kept (Exclude x m ∷ es) a b la lb e = row_kept es a b la lb e
  row_kept (Member r ∷ es) a b la lb e = row_kept es a b la lb e
  row_kept (Limit r t ∷ es) a b la lb e = row_kept es a b la lb e
  row_kept (End ∷ es) a b la lb e = row_kept es a b la lb e
  row_kept (Unknown ∷ es) a b la lb e = row_kept es a b la lb e

  -- ---- the exclusions: members are left where they are due
  take_due : (h : Head) (d : ℕ) (rows : List ℕ) (t : Scan) (es : List Entry) → t.due ≡ d → Valid h rows t es
      → take d (kept (is_own u) es) ≡ take d es
  unfolding kept is_own next
  take_due h zero rows t es q v = refl
  take_due h (suc d) rows t [] q v = absurd (omega arith)
  take_due h (suc d) rows t (e ∷ es) q v =
      member_case (λ e. Valid h (assigning rows e) (next t e) es → take (suc d) (kept (is_own u) (e ∷ es)) ≡ e ∷ take d es) t.due (λ z. omega arith)
      (λ r w. ap (λ (xs : List Entry). Member r ∷ xs) (take_due h d (assigning rows (Member r)) (next t (Member r)) es (omega arith) w))
      e v.0.turn v.1

  exclusions_kept : (h : Head) (rows : List ℕ) (t : Scan) (es : List Entry) → Valid h rows t es
      → exclusions_of (kept (is_own u) es) ≡ exclusions_of es
  unfolding exclusions_of kept is_own
  exclusions_kept h rows t [] v = refl
  exclusions_kept h rows t (e ∷ es) v =
      let ih = exclusions_kept h (assigning rows e) (next t e) es v.1 in
      exclusion-case (λ e. Valid h (assigning rows e) (next t e) es → exclusions_of (kept (is_own u) (e ∷ es)) ≡ exclusions_of (e ∷ es))
      (λ x m w. ap₂ (λ (ms : List Entry) (xs : List Exclusion). with_members x ms ∷ xs)
      (take_due h m (assigning rows (Exclude x m)) (next t (Exclude x m)) es (unfold next in refl) w) ih)
      (λ e q _ _. elim_case (λ xs. exclusions_of xs ≡ exclusions_of (e ∷ es)) (is_own u e) (e ∷ kept (is_own u) es) (kept (is_own u) es)
      (λ _. q (kept (is_own u) es) ∙ ih ∙ sym (q es)) (λ _. ih ∙ sym (q es))) e v.1

-- ---- an accepted image
module _ (u : ℕ) (small : u < 64) (s : List ℕ) (h : Head) (accepted : judge s ≡ Accepted h) where
  left_entries : map entry_of (drop 1 (own_words u s)) ≡ kept (is_own u) (entries_of s)
  unfolding own_words entries_of
  left_entries = map_kept (is_own u) (words_from s (behind_head s) 1) ∙ ap (kept (is_own u)) (entries_are s (behind_head s) 1)

  same_exclusions : (policy_of s).exclusions ≡ (policy_in (own_words u s)).exclusions
  unfolding policy_of policy_in
  same_exclusions =
      sym (ap exclusions_of left_entries ∙ exclusions_kept u (head_of (word_at s 0)) empty_rows start (entries_of s)
      (words_valid s h (words_pass s h accepted)))

  -- the words left agree with the image
  pub words_agree : Agree u (policy_of s) (policy_in (own_words u s))
  unfolding policy_of policy_in empty_rows excludes
  words_agree =
      record {
        heads = unfold own_words in refl;
        own = row_kept u (entries_of s) empty_rows empty_rows small small refl ∙ rw left_entries;
        grants = sym (ap (fold granting empty_rows) left_entries ∙ fold_kept granting (is_own u) (grants_pass u) empty_rows (entries_of s));
        seniors = sym (ap (fold ordering empty_rows) left_entries ∙ fold_kept ordering (is_own u) (seniors_pass u) empty_rows (entries_of s));
        exclusions = λ x. ap (any (λ y. same_exclusion y x)) same_exclusions;
        limits = sym (ap (fold limiting empty_rows) left_entries ∙ fold_kept limiting (is_own u) (limits_pass u) empty_rows (entries_of s));
      }

  -- and mean the same for the user
  pub words-meaning : meaning (policy_of s) u ≡ meaning (policy_in (own_words u s)) u
  words-meaning = agree_meaning u (policy_of s) (policy_in (own_words u s)) words_agree same_exclusions
