-- The turns of the loops that fill the turned table, of the roles that carry each wanted permission.
-- Assumes nothing.
use mathlib.Core.Path.{◌≡◌, refl, sym, ap, ap₂, subst, ◌∙◌}
use mathlib.Core.Bool.{Bool, true, false, ◌&&◌, not}
use mathlib.Core.List.{List}
use Prim.Native.Nat.{ℕ, ◌+◌, ◌*◌, ◌/◌, ◌%◌, ◌^◌, ◌≤◌, ◌<◌, zero-le}
use native.Mathlib.Omega.{arith}
use native.Mathlib.Decide.{dec_lt}
use native.Mathlib.Nat.{mod-lt, div-add-mod', le_antisymm}
use mir.Val.{Fits}
use mir.Syntax.{w64}
use lib.Dec.{eqb, ltb, lit<}
use lib.ListN.{length, get_or, set, replicate, length-set, get_or-replicate}
use lib.Seq.{get_or-set_same, get_or-set_other}
use borrow.Author.Tests.{eqb-true, eqb-false, lt-ltb, le-ltb, ltb-true}
use Rattle.model.specs.Tests.{pick}
use Rattle.model.specs.Sets.{has, inter, with}
use Rattle.model.specs.Policy.{Policy, meaning}
use Rattle.model.specs.Ranges.{InRange}
use Rattle.model_laws.proofs.Bools.{and_l, both, bool_ext}
use Rattle.model_laws.proofs.SetLaws.{has-inter}
use Rattle.model_laws.proofs.UnionLaws.{has_none, has_below}
use Rattle.model_laws.proofs.Closure.{carried-named}
use Rattle.sets.specs.Members.{without, Lowest}
use Rattle.sets_split.specs.Split.{Splits}
use Rattle.sets.specs.Words.{value}
use Rattle.sets.proofs.Machine.{value-has}
use Rattle.sets.proofs.Taken.{has-without, without_gone, without_other}
use Rattle.query.specs.Carry.{Carry, Sub, Turned, Named, Marked}
use Rattle.query.proofs.Members.{fewer_sub}
use Rattle.query.proofs.Walks.{Walk, walk_starts, walk-next, walk_ends}

-- the set at 64 * q + k, with role r where the test passes
abbrev joined_at : List ℕ → ℕ → ℕ → ℕ → Bool → ℕ
joined_at before r q k t = pick t (with (get_or before (q * 64 + k) 0) r) (get_or before (q * 64 + k) 0)

-- ---- one word

-- of the word at `place` the bits of left are still to come, and role r has joined at the others
pub record Marks (place word r : ℕ) (before : List ℕ) (left : ℕ) (after : List ℕ) : Type 0 where
  pub inside : (k : ℕ) → has left k ≡ true → has word k ≡ true
  pub marked : Marked (λ q k. eqb q place && (has word k && not (has left k))) r before after

module _ (place word r : ℕ) (before : List ℕ) where
  -- the joined test of a number
  abbrev joins : ℕ → ℕ → ℕ → Bool
  joins left q k = eqb q place && (has word k && not (has left k))

  nothing : (a b : Bool) → (a && (b && not b)) ≡ false
  nothing true true = refl
  nothing true false = refl
  nothing false b = refl

  pub marks-start : length before ≡ 256 → Marks place word r before word before
  unfolding pick
  marks-start l =
      record {
        inside = λ k m. m;
        marked =
            record {
              size = l;
              sets = λ q k b. sym (ap (joined_at before r q k) (nothing (eqb q place) (has word k)));
            };
      }

  module _ (left b less : ℕ) (after : List ℕ) (w : Marks place word r before left after) (low : Lowest left b) (el : less ≡ without left b) where
    -- role r joins at the lowest bit to come
    pub marks-next : place < 4 → (m x : ℕ) → m ≡ place * 64 + b → x ≡ with (get_or after m 0) r → Marks place word r before less (set after m x)
    unfolding pick
    marks-next inside m x em ex =
        rw el
        (record {
          inside = λ k h. w.inside k (and_l (has left k) _ (sym (has-without left b k low.member) ∙ h));
          marked = record { size = simp length-set w.marked.size; sets = λ q k l. go q k l (eqb q place) (eqb k b) refl refl };
        })
      where
        -- the set at the bit was as before
        untouched : get_or after (place * 64 + b) 0 ≡ get_or before (place * 64 + b) 0
        untouched =
            w.marked.sets place b low.small
            ∙ ap (joined_at before r place b) (ap (λ (t : Bool). eqb place place && (has word b && not t)) low.member ∙ lost (eqb place place) (has word b))
          where
            lost : (s t : Bool) → (s && (t && false)) ≡ false
            lost true true = refl
            lost true false = refl
            lost false t = refl

        other : (q k : ℕ) → k < 64 → ((q ≡ place) × (k ≡ b) → ⊥) → joins left q k ≡ joins (without left b) q k
            → get_or (set after m x) (q * 64 + k) 0 ≡ joined_at before r q k (joins (without left b) q k)
        other q k l n e =
            get_or-set_other after m (q * 64 + k) x 0 (λ z. n (same q k l z)) ∙ w.marked.sets q k l ∙ ap (joined_at before r q k) e
          where
            same : (q k : ℕ) → k < 64 → q * 64 + k ≡ m → (q ≡ place) × (k ≡ b)
            same q k l z = (omega (arith, em, low.small), omega (arith, em, low.small))

        go : (q k : ℕ) → k < 64 → (s t : Bool) → eqb q place ≡ s → eqb k b ≡ t
            → get_or (set after m x) (q * 64 + k) 0 ≡ joined_at before r q k (joins (without left b) q k)
        go q k l true true es et =
            let eq : q ≡ place = eqb-true q place es in
            let ek : k ≡ b = eqb-true k b et in
            let z : q * 64 + k ≡ m = omega (arith, em) in
            ap (λ (i : ℕ). get_or (set after m x) i 0) z
            ∙ get_or-set_same after m x 0 (omega (arith, em, low.small, w.marked.size)) ∙ ex
            ∙ ap (λ (i : ℕ). with (get_or after i 0) r) em ∙ ap (λ (y : ℕ). with y r) untouched
            ∙ ap (λ (i : ℕ). with (get_or before i 0) r) (sym (z ∙ em))
            ∙ sym
            (ap (joined_at before r q k)
            (both (eqb q place) (has word k && not (has (without left b) k)) es
            (both (has word k) (not (has (without left b) k)) (ap (has word) ek ∙ w.inside b low.member)
            (ap not (ap (has (without left b)) ek ∙ without_gone left b low.member)))))
        go q k l true false es et =
            let n = eqb-false k b et in
            other q k l (λ z. n z.1) (ap (λ (t : Bool). eqb q place && (has word k && not t)) (sym (without_other left b k low.member n)))
        go q k l false t es et =
            other q k l (λ z. eqb-false q place es z.0)
            (ap (λ (s : Bool). s && (has word k && not (has left k))) es ∙ sym (ap (λ (s : Bool). s && (has word k && not (has (without left b) k))) es))

  -- at last no bit is to come
  pub marks_end : (left : ℕ) (after : List ℕ) → left ≡ 0 → Marks place word r before left after → Marked (λ q k. eqb q place && has word k) r before after
  marks_end left after e w =
      record {
        size = w.marked.size;
        sets = λ q k l.
            w.marked.sets q k l
            ∙ ap (joined_at before r q k)
            (ap (λ (t : Bool). eqb q place && (has word k && not t)) (ap (λ (x : ℕ). has x k) e ∙ has_none k) ∙ whole (eqb q place) (has word k));
      }
    where
      whole : (s t : Bool) → (s && (t && true)) ≡ (s && t)
      whole true true = refl
      whole true false = refl
      whole false t = refl

-- ---- a row, word by word

module _ (word : ℕ → ℕ) (r : ℕ) (before : List ℕ) where
  -- role r has joined by the words before `place`
  abbrev pub Rowed : ℕ → List ℕ → Type 0
  Rowed place after = Marked (λ q k. ltb q place && has (word q) k) r before after

  pub row-start : length before ≡ 256 → Rowed 0 before
  unfolding pick
  row-start h =
      record {
        size = h;
        sets = λ q k l.
            sym
            (ap (joined_at before r q k)
            (ap (λ (t : Bool). t && has (word q) k) (le-ltb q 0 zero-le)));
      }

  pub row_next : (place x : ℕ) (now after : List ℕ) → Rowed place now → x ≡ word place → Marked (λ q k. eqb q place && has x k) r now after
      → Rowed (place + 1) after
  unfolding pick
  row_next place x now after w ex m = record { size = m.size; sets = λ q k l. m.sets q k l ∙ go q k l (eqb q place) refl }
    where
      go : (q k : ℕ) → k < 64 → (s : Bool) → eqb q place ≡ s
          → pick (eqb q place && has x k) (with (get_or now (q * 64 + k) 0) r) (get_or now (q * 64 + k) 0)
          ≡ joined_at before r q k (ltb q (place + 1) && has (word q) k)
      go q k l true e =
          let z : q ≡ place = eqb-true q place e in
          let old : get_or now (q * 64 + k) 0 ≡ get_or before (q * 64 + k) 0 =
          w.sets q k l ∙ ap (λ (t : Bool). joined_at before r q k (t && has (word q) k)) (le-ltb q place (omega arith)) in
          ap (λ (y : ℕ). pick (eqb q place && has x k) (with y r) y) old
          ∙ ap (joined_at before r q k)
          (ap (λ (t : Bool). t && has x k) e ∙ ap (λ (y : ℕ). has y k) (ex ∙ ap word (sym z))
          ∙ sym (ap (λ (t : Bool). t && has (word q) k) (lt-ltb q (place + 1) (omega arith))))
      go q k l false e =
          ap (λ (t : Bool). pick (t && has x k) (with (get_or now (q * 64 + k) 0) r) (get_or now (q * 64 + k) 0)) e
          ∙ w.sets q k l ∙ ap (λ (t : Bool). joined_at before r q k (t && has (word q) k)) (ltb_next q place (eqb-false q place e))
        where
          ltb_next : (q place : ℕ) → (q ≡ place → ⊥) → ltb q place ≡ ltb q (place + 1)
          ltb_next q place n =
              bool_ext (ltb q place) (ltb q (place + 1))
              (λ h. let a = ltb-true q place h in lt-ltb q (place + 1) (omega arith))
              (λ h. let a = ltb-true q (place + 1) h in
              lt-ltb q place (elim (dec_lt q place) [ yes y ↦ y | no y ↦ absurd (n (omega arith)) ]))

-- four words of a row and of the wanted permissions
pub row_end : (row wanted : List ℕ) → ((i : ℕ) → Fits w64 (get_or row i 0)) → ((i : ℕ) → Fits w64 (get_or wanted i 0)) → (r place : ℕ) (before after : List ℕ)
    → place ≤ 4 → 4 ≤ place → Rowed (λ q. inter (get_or row q 0) (get_or wanted q 0)) r before place after
    → Marked (λ q k. ltb q 4 && (has (value row) (q * 64 + k) && has (value wanted) (q * 64 + k))) r before after
row_end row wanted fit fit' r place before after a b w =
    record {
      size = w.size;
      sets = λ q k l.
          w.sets q k l
          ∙ ap (joined_at before r q k)
          (ap (λ (n : ℕ). ltb q n && has (inter (get_or row q 0) (get_or wanted q 0)) k) (le_antisymm a b) ∙ go q k l (ltb q 4) refl);
    }
  where
    go : (q k : ℕ) → k < 64 → (s : Bool) → ltb q 4 ≡ s
        → (ltb q 4 && has (inter (get_or row q 0) (get_or wanted q 0)) k) ≡ (ltb q 4 && (has (value row) (q * 64 + k) && has (value wanted) (q * 64 + k)))
    go q k l true e =
        let s : Splits (q * 64 + k) q k = record { whole = refl; inside = ltb-true q 4 e; small = l } in
        ap (λ (t : Bool). ltb q 4 && t)
        (has-inter (get_or row q 0) (get_or wanted q 0) k
        ∙ ap₂ (λ (x y : Bool). x && y) (value-has row fit (q * 64 + k) q k s) (value-has wanted fit' (q * 64 + k) q k s))
    go q k l false e =
        ap (λ (t : Bool). t && has (inter (get_or row q 0) (get_or wanted q 0)) k) e
        ∙ sym (ap (λ (t : Bool). t && (has (value row) (q * 64 + k) && has (value wanted) (q * 64 + k))) e)

-- ---- the table, role by role

-- of the set s the roles of left are still to come, and those before them have joined at the wanted permissions of
-- their rows
pub record Joined (row : ℕ → ℕ) (wanted s left : ℕ) (table : List ℕ) : Type 0 where
  pub size : length table ≡ 256
  pub inside : Sub left s
  pub sets : (q k : ℕ) → q < 4 → k < 64 → Walk (λ i. has (row i) (q * 64 + k) && has wanted (q * 64 + k)) s left (get_or table (q * 64 + k) 0)

module _ (row : ℕ → ℕ) (wanted s : ℕ) where
  -- the test of the set at 64 * q + k
  abbrev test : ℕ → ℕ → ℕ → Bool
  test q k i = has (row i) (q * 64 + k) && has wanted (q * 64 + k)

  pub joined-start : Joined row wanted s s (replicate 256 0)
  joined-start =
      record {
        size = refl;
        inside = λ i m. m;
        sets = λ q k a b. subst (Walk (test q k) s s) (sym (get_or-replicate 256 (q * 64 + k) 0 0 (omega arith))) (walk_starts (test q k) s);
      }

  -- the lowest role to come joins
  pub joined-next : (left r less : ℕ) (table after cells : List ℕ) → Joined row wanted s left table → has left r ≡ true → less ≡ without left r
      → value cells ≡ row r → Marked (λ q k. ltb q 4 && (has (value cells) (q * 64 + k) && has wanted (q * 64 + k))) r table after
      → Joined row wanted s less after
  joined-next left r less table after cells w h el er m =
      rw el
      (record {
        size = m.size;
        inside = λ i n. w.inside i (fewer_sub left r h i n);
        sets = λ q k a b.
            subst (Walk (test q k) s (without left r)) (sym (stored q k a b)) (walk-next (test q k) s left (get_or table (q * 64 + k) 0) r h (w.sets q k a b));
      })
    where
      stored : (q k : ℕ) → q < 4 → k < 64
          → get_or after (q * 64 + k) 0 ≡ pick (test q k r) (with (get_or table (q * 64 + k) 0) r) (get_or table (q * 64 + k) 0)
      stored q k a b =
          m.sets q k b
          ∙ ap (joined_at table r q k)
          (ap (λ (t : Bool). t && (has (value cells) (q * 64 + k) && has wanted (q * 64 + k))) (lt-ltb q 4 a)
          ∙ ap (λ (x : ℕ). has x (q * 64 + k) && has wanted (q * 64 + k)) er)

  -- at last no role is to come
  pub joined_end : (left : ℕ) (table : List ℕ) → left ≡ 0 → wanted < 2 ^ 256 → Joined row wanted s left table → Turned row table wanted s
  joined_end left table z v w i m e want =
      let d : m / 64 * 64 + m % 64 ≡ m = div-add-mod' m 64 in
      let l : m < 256 = has_below 256 wanted m v want in
      ap (λ (x : ℕ). has (get_or table x 0) i) (sym d)
      ∙ walk_ends (test (m / 64) (m % 64)) s left (get_or table (m / 64 * 64 + m % 64) 0) z (w.sets (m / 64) (m % 64) (omega arith) (mod-lt m (lit< tt))) i
      ∙ ap (λ (x : ℕ). has s i && (has (row i) x && has wanted x)) d
      ∙ ap₂ (λ (x y : Bool). x && (has (row i) m && y)) e want ∙ whole (has (row i) m)
    where
      whole : (t : Bool) → (true && (t && true)) ≡ t
      whole true = refl
      whole false = refl

-- where the policy's roles carry their rows, the sets are of the roles that have a granting role
pub named-of : (p : Policy) (u : ℕ) (row : ℕ → ℕ) (table : List ℕ) (wanted s : ℕ) → InRange p → Carry (meaning p u) s row
    → Turned row table wanted s → Named p table wanted s
unfolding meaning
named-of p u row table wanted s range carry t i m e want =
    t i m e want ∙ ap (λ (x : ℕ). has x m) (sym (carry i e)) ∙ carried-named p range i m
