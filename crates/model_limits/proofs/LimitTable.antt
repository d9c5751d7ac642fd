-- The limits of an accepted image's policy are the smallest that its words give.
-- Assumes nothing.
use mathlib.Core.Path.{◌≡◌, refl, sym, ap, ◌∙◌, subst}
use mathlib.Core.Logic.{◌⊎◌, inl, inr}
use mathlib.Core.Bool.{Bool, true, false, ◌&&◌, ◌||◌, not, true≢false}
use mathlib.Core.List.Memᴰ
use mathlib.Core.List.{List, [], ◌∷◌, Memᴰ}
use Prim.Native.Nat.{ℕ, ◌≤◌, ◌<◌}
use native.Mathlib.Nat.{le_refl}
use native.Mathlib.Decide.{dec_lt, ℕ_discrete}
use native.Mathlib.Omega.{arith}
use lib.Dec.{eqb, ltb, leb}
use lib.ListN.{get_or, length, set, get_or-eq_default}
use lib.Seq.{get_or-set_same, get_or-set_other, ext_get_or}
use borrow.Author.Tests.{eqb-true, eqb-false, eq-eqb, ne_eqb, ltb-true, ltb-false, leb-true, not-true}
use Rattle.model.specs.declared.Head.{Head}
use Rattle.model.specs.declared.Entry.{Entry}
use Rattle.model.specs.declared.Entry.TheVariants.{Assignment, Grant, Senior, Exclude, Member, Limit, End, Unknown}
use Rattle.model.specs.declared.Checked.TheVariants.{Accepted}
use Rattle.model.specs.Tests.{pick}
use Rattle.model.specs.Image.{role, word_at, in_range, head_of, empty_rows, judge_words}
use Rattle.model.specs.Policy.{entries_of, lesser, limiting, fold, policy_of, limited}
use Rattle.model.specs.Ranges.{Each}
use Rattle.model.specs.Read.{Smallest, LimitsRead}
use Rattle.model_laws.proofs.Bools.{and_l, and_r, or_cases, neither}
use Rattle.model_laws.proofs.TableLaws.{get_d_filled}
use Rattle.model_laws.proofs.Entries.{sort, row_of, item_of}
use Rattle.model_laws.proofs.Tables.{limiting-length, entry_row, empty_length}
use Rattle.model_laws.proofs.Accepted.{words_entries}

-- ---- role r
module _ (r : ℕ) where
  -- b is the least of the limits that the entries give r, and of a where that is one; a limit is not 0
  record Least (a : ℕ) (es : List Entry) (b : ℕ) : Type 0 where
    from : (b ≡ a) ⊎ Memᴰ (Limit (role r) b) es
    least : (n : ℕ) → Memᴰ (Limit (role r) n) es → (b ≤ n) × (1 ≤ b)
    below : 1 ≤ a → (b ≤ a) × (1 ≤ b)

  -- an entry that gives r no limit
  unlimiting : (a : ℕ) (e : Entry) → ((n : ℕ) → ¬ (Limit (role r) n ≡ e)) → Least a (e ∷ []) a
  unlimiting a e f =
      record {
        from = inl refl;
        least = λ n m. elim (Memᴰ.cases_cons m) [ inl q ↦ absurd (f n q) | inr k ↦ absurd (Memᴰ.not-nil k) ];
        below = λ h. (le_refl a, h);
      }

  -- an entry of another sort
  other_sort : (e : Entry) → eqb 5 (sort e) ≡ false → (n : ℕ) → ¬ (Limit (role r) n ≡ e)
  other_sort e q n p = true≢false (sym (eq-eqb 5 (sort e) (ap sort p)) ∙ q)

  -- one that gives it the limit t
  limiting_here : (a t : ℕ) (e : Entry) → Limit (role r) t ≡ e → 1 ≤ t → Least a (e ∷ []) (lesser a t)
  unfolding lesser pick
  limiting_here a t e p h = go (eqb a 0 || ltb t a) refl
    where
      given : (n : ℕ) → Memᴰ (Limit (role r) n) (e ∷ []) → n ≡ t
      given n m = elim (Memᴰ.cases_cons m) [ inl q ↦ ap item_of (q ∙ sym p) | inr k ↦ absurd (Memᴰ.not-nil k) ]

      smaller : (eqb a 0 ≡ true) ⊎ (ltb t a ≡ true) → 1 ≤ a → t ≤ a
      smaller (inl q) k = absurd (omega (arith, eqb-true a 0 q))
      smaller (inr q) k = omega (arith, ltb-true t a q)

      go : (b : Bool) → (eqb a 0 || ltb t a) ≡ b → Least a (e ∷ []) (pick b t a)
      go true q =
          record {
            from = inr (Memᴰ.head p);
            least = λ n m. (omega (arith, given n m), h);
            below = λ k. (smaller (or_cases (eqb a 0) (ltb t a) q) k, h);
          }
      go false q =
          let c = neither (eqb a 0) (ltb t a) q in
          let z = eqb-false a 0 c.0 in
          let l = ltb-false t a c.1 in
          record {
            from = inl refl;
            least = λ n m. (omega (arith, given n m), omega arith);
            below = λ k. (le_refl a, k);
          }

  -- one entry, in range
  module _ (h : Head) (rows : List ℕ) (fits : r < length rows) where
    limiting-one : (e : Entry) → in_range h e ≡ true → Least (get_or rows r 0) (e ∷ []) (get_or (limiting rows e) r 0)
    unfolding limiting in_range
    limiting-one (Assignment u q) i = unlimiting _ _ (other_sort (Assignment u q) refl)
    limiting-one (Grant q p) i = unlimiting _ _ (other_sort (Grant q p) refl)
    limiting-one (Senior a b) i = unlimiting _ _ (other_sort (Senior a b) refl)
    limiting-one (Exclude x m) i = unlimiting _ _ (other_sort (Exclude x m) refl)
    limiting-one (Member q) i = unlimiting _ _ (other_sort (Member q) refl)
    limiting-one (Limit q t) i = elim (ℕ_discrete r q.0) [ yes e ↦ here e | no e ↦ elsewhere e ]
      where
        here : r ≡ q.0 → Least (get_or rows r 0) (Limit q t ∷ []) (get_or (set rows q.0 (lesser (get_or rows q.0 0) t)) r 0)
        here e =
            subst (Least (get_or rows r 0) (Limit q t ∷ []))
            (ap (λ (k : ℕ). lesser (get_or rows k 0) t) e
            ∙ sym (get_or-set_same rows q.0 (lesser (get_or rows q.0 0) t) 0 (subst (λ (k : ℕ). k < length rows) e fits))
            ∙ ap (λ (k : ℕ). get_or (set rows q.0 (lesser (get_or rows q.0 0) t)) k 0) (sym e))
            (limiting_here (get_or rows r 0) t (Limit q t) (λ j. Limit (record { 0 = e j }) t)
            (let two = leb-true 2 t (and_l (leb 2 t) (leb t 256) (and_r (ltb q.0 h.roles) (leb 2 t && leb t 256) i)) in omega arith))

        elsewhere : ¬ (r ≡ q.0) → Least (get_or rows r 0) (Limit q t ∷ []) (get_or (set rows q.0 (lesser (get_or rows q.0 0) t)) r 0)
        elsewhere e =
            subst (Least (get_or rows r 0) (Limit q t ∷ [])) (sym (get_or-set_other rows q.0 r (lesser (get_or rows q.0 0) t) 0 e))
            (unlimiting _ _ (λ n p. e (ap row_of p)))
    limiting-one End i = unlimiting _ _ (other_sort End refl)
    limiting-one Unknown i = unlimiting _ _ (other_sort Unknown refl)

  -- one entry, then the others
  least_more : (a b c : ℕ) (e : Entry) (es : List Entry) → Least a (e ∷ []) b → Least b es c → Least a (e ∷ es) c
  least_more a b c e es v w =
      record {
        from = from_first w.from v.from;
        least = λ n m. elim (Memᴰ.cases_cons m) [ inl q ↦ through n (v.least n (Memᴰ.head q)) | inr k ↦ w.least n k ];
        below = λ h. through a (v.below h);
      }
    where
      through : (n : ℕ) → (b ≤ n) × (1 ≤ b) → (c ≤ n) × (1 ≤ c)
      through n k = let q = w.below k.1 in (omega (arith, k.0, q.0), q.1)

      from_first : (c ≡ b) ⊎ Memᴰ (Limit (role r) c) es → (b ≡ a) ⊎ Memᴰ (Limit (role r) b) (e ∷ [])
          → (c ≡ a) ⊎ Memᴰ (Limit (role r) c) (e ∷ es)
      from_first (inr m) k = inr (Memᴰ.tail m)
      from_first (inl q) (inl k) = inl (q ∙ k)
      from_first (inl q) (inr m) =
          elim (Memᴰ.cases_cons m) [
            | inl k ↦ inr (Memᴰ.head (ap (λ (n : ℕ). Limit (role r) n) q ∙ k))
            | inr k ↦ absurd (Memᴰ.not-nil k)
          ]

  -- all entries
  fold_least : (h : Head) (es : List Entry) → Each (λ e. in_range h e ≡ true) es → (rows : List ℕ) → r < length rows
      → Least (get_or rows r 0) es (get_or (fold limiting rows es) r 0)
  unfolding fold
  fold_least h [] q rows l =
      record { from = inl refl; least = λ n m. absurd (Memᴰ.not-nil m); below = λ k. (le_refl (get_or rows r 0), k) }
  fold_least h (e ∷ es) q rows l =
      least_more _ _ _ e es (limiting-one h rows l e q.0) (fold_least h es q.1 (limiting rows e) (omega (arith, limiting-length rows e)))

-- the number of rows of the whole
pub fold-length : (es : List Entry) (rows : List ℕ) → length (fold limiting rows es) ≡ length rows
unfolding fold
fold-length [] rows = refl
fold-length (e ∷ es) rows = fold-length es (limiting rows e) ∙ limiting-length rows e

-- ---- two lists of entries in range
-- each limit of the one has one of the other that is no larger
abbrev pub Matched : List Entry → List Entry → Type 0
Matched es fs = (r n : ℕ) → Memᴰ (Limit (role r) n) es → (t : ℕ) × Memᴰ (Limit (role r) t) fs × (t ≤ n)

-- matched both ways, the least is the same
least_same : (r : ℕ) (es fs : List Entry) → Matched es fs → Matched fs es → (a b : ℕ) → Least r 0 es a → Least r 0 fs b → a ≡ b
least_same r es fs there back a b v w = go v.from w.from
  where
    go : (a ≡ 0) ⊎ Memᴰ (Limit (role r) a) es → (b ≡ 0) ⊎ Memᴰ (Limit (role r) b) fs → a ≡ b
    go (inl e) (inl f) = e ∙ sym f
    go (inl e) (inr n) = let q = back r b n in let k = v.least q.0 q.1 in absurd (omega (arith, e, k.1))
    go (inr m) (inl f) = let q = there r a m in let k = w.least q.0 q.1 in absurd (omega (arith, f, k.1))
    go (inr m) (inr n) =
        let x = there r a m in
        let y = back r b n in
        omega (arith, (w.least x.0 x.1).0, (v.least y.0 y.1).0, x.2, y.2)

-- so they make the same table
pub limits_matched : (h k : Head) (es fs : List Entry) → Each (λ e. in_range h e ≡ true) es → Each (λ e. in_range k e ≡ true) fs
    → Matched es fs → Matched fs es → fold limiting empty_rows es ≡ fold limiting empty_rows fs
unfolding empty_rows
limits_matched h k es fs p q there back =
    ext_get_or 0 (fold limiting empty_rows es) (fold limiting empty_rows fs) (fold-length es empty_rows ∙ sym (fold-length fs empty_rows))
    (λ r l. least_same r es fs there back _ _ (from_none h es p r (omega (arith, fold-length es empty_rows)))
    (from_none k fs q r (omega (arith, fold-length es empty_rows))))
  where
    from_none : (h : Head) (es : List Entry) → Each (λ e. in_range h e ≡ true) es → (r : ℕ) → r < length empty_rows
        → Least r 0 es (get_or (fold limiting empty_rows es) r 0)
    from_none h es p r l =
        subst (λ (a : ℕ). Least r a es (get_or (fold limiting empty_rows es) r 0)) (get_d_filled 0 64 r) (fold_least r h es p empty_rows l)

-- ---- an accepted image
module _ (s : List ℕ) (h : Head) (accepted : judge_words s ≡ Accepted h) where
  -- the limit of r among its words
  limit_least : (r : ℕ) → Least r 0 (entries_of s) (get_or (policy_of s).limits r 0)
  unfolding policy_of empty_rows
  limit_least r = elim (dec_lt r 64) [ yes l ↦ inside l | no l ↦ outside l ]
    where
      inside : r < 64 → Least r 0 (entries_of s) (get_or (fold limiting empty_rows (entries_of s)) r 0)
      inside l =
          subst (λ (a : ℕ). Least r a (entries_of s) (get_or (fold limiting empty_rows (entries_of s)) r 0)) (get_d_filled 0 64 r)
          (fold_least r (head_of (word_at s 0)) (entries_of s) (words_entries s h accepted) empty_rows (omega (arith, empty_length)))

      outside : ¬ (r < 64) → Least r 0 (entries_of s) (get_or (fold limiting empty_rows (entries_of s)) r 0)
      outside l =
          subst (Least r 0 (entries_of s))
          (sym (get_or-eq_default (fold limiting empty_rows (entries_of s)) 0 (omega (arith, fold-length (entries_of s) empty_rows, empty_length))))
          (record { from = inl refl; least = λ n m. absurd (l (entry_row s (Limit (role r) n) m)); below = λ k. absurd (omega arith) })

  -- a limit is not 0
  limit_one : (rows : List ℕ) (r : ℕ) → limited rows r ≡ true → 1 ≤ get_or rows r 0
  unfolding limited
  limit_one rows r e = let n = eqb-false (get_or rows r 0) 0 (not-true (eqb (get_or rows r 0) 0) e) in omega arith

  one_limit : (rows : List ℕ) (r : ℕ) → 1 ≤ get_or rows r 0 → limited rows r ≡ true
  unfolding limited
  one_limit rows r k = ap not (ne_eqb (get_or rows r 0) 0 (λ e. omega arith))

  -- it is that of some word
  limit_said : (r : ℕ) → 1 ≤ get_or (policy_of s).limits r 0 → Memᴰ (Limit (role r) (get_or (policy_of s).limits r 0)) (entries_of s)
  limit_said r k = elim (limit_least r).from [ inl q ↦ absurd (omega (arith, q)) | inr m ↦ m ]

  pub limits_read : LimitsRead s
  limits_read =
      record {
        is_limited =
            λ r. (
              λ e. (get_or (policy_of s).limits r 0, limit_said r (limit_one (policy_of s).limits r e)),
              λ w. one_limit (policy_of s).limits r ((limit_least r).least w.0 w.1).1,
            );
        is_limit = λ r t e. (to r t e, from r t e);
      }
    where
      to : (r t : ℕ) → limited (policy_of s).limits r ≡ true → get_or (policy_of s).limits r 0 ≡ t → Smallest (entries_of s) r t
      to r t e q =
          subst (Smallest (entries_of s) r) q
          (record { said = limit_said r (limit_one (policy_of s).limits r e); least = λ n m. ((limit_least r).least n m).0 })

      from : (r t : ℕ) → limited (policy_of s).limits r ≡ true → Smallest (entries_of s) r t → get_or (policy_of s).limits r 0 ≡ t
      from r t e w =
          let a = ((limit_least r).least t w.said).0 in
          let b = w.least (get_or (policy_of s).limits r 0) (limit_said r (limit_one (policy_of s).limits r e)) in
          omega arith
