-- What holds of a policy whose image passes the judgement by its words: every number is in its range, and every limit
-- of the register is kept.
-- Assumes nothing.
use mathlib.Core.Path.{◌≡◌, refl, sym, ap, ◌∙◌, subst}
use mathlib.Core.Bool.{Bool, true, false, ◌&&◌, ◌||◌, not, true≢false}
use mathlib.Core.List.{List, [], ◌∷◌, ◌++◌}
use Prim.Native.Nat.{ℕ, zero, suc, ◌+◌, ◌^◌, ◌≤◌, ◌<◌, zero-le}
use native.Mathlib.Nat.{zero-add, lt_of_lt_of_le, le_trans}
use native.Mathlib.Omega.{arith}
use lib.Pow.{pow_pos, pow-lt, pow_mono}
use lib.Bits.{or_lt}
use lib.Dec.{ltb, leb, eqb}
use lib.ListN.{length, get_or, set, take, replicate}
use borrow.Author.Tests.{ltb-true, leb-true, leb-false}
use borrow.Table.Steps.{cases}
use Rattle.model.specs.declared.Head.{Head}
use Rattle.model.specs.declared.Exclusion.{Exclusion}
use Rattle.model.specs.declared.Entry.{Entry}
use Rattle.model.specs.declared.Entry.TheVariants.{Exclude, Member}
use Rattle.model.specs.declared.Scan.{Scan}
use Rattle.model.specs.declared.Checked.{Checked}
use Rattle.model.specs.declared.Checked.TheVariants.{Accepted, Refused}
use Rattle.model.specs.Tests.{between}
use Rattle.model.specs.Sets.{has, with, count}
use Rattle.model.specs.Image.{word_at, behind_head, in_range, repeats, crowds, assigning, next, scan, head_of, head_right, length_right, empty_rows, start, judge_words, field, is_kind}
use Rattle.model.specs.Policy.{entries_of, granting, ordering, lesser, limiting, fold, joining, with_members, exclusions_of, policy_of, limited}
use Rattle.model.specs.Ranges.{Each, OneTo, TwoTo, ExclusionInRange, TableInRange, RowsBelow, LimitsInRange, InRange}
use Rattle.model_laws.proofs.Bools.{and_l, and_r, not_both, pick-case, elim_case}
use Rattle.model_laws.proofs.SetLaws.{count-with, with_member}
use Rattle.model_laws.proofs.TableLaws.{set_keeps, get_d_filled, count_empty, put_in_range, put_below, fold_keeps}
use Rattle.model_laws.proofs.UnionLaws.{has_none}
use Rattle.model_laws.proofs.Entries.{assigning-case, granting-case, ordering-case, limiting-case, exclusion-case}
use Rattle.model_laws.proofs.Scanned.{member_case, Fine, Valid, Judged, scan-judged}

-- ---- the tables

-- a table in range, its rows as sets and as numbers
abbrev Table : ℕ → ℕ → List ℕ → Type 0
Table m n rows = TableInRange m n rows × RowsBelow n rows

-- an empty table is in range
empty_table : (m n : ℕ) → Table m n empty_rows
unfolding empty_rows
empty_table m n = (
  (λ i j e. not_both (has (get_or (replicate 64 0) i 0) j) e (ap (λ (s : ℕ). has s j) (get_d_filled 0 64 i) ∙ has_none j)),
  (λ i. rw (get_d_filled {A = ℕ} 0 64 i) (pow_pos n)),
)

-- in an empty table no role has a limit
no_limits : (n : ℕ) → LimitsInRange n empty_rows
unfolding empty_rows limited
no_limits n r e = absurd (true≢false (sym e ∙ ap (λ (t : ℕ). not (eqb t 0)) (get_d_filled 0 64 r)))

-- in an empty table nobody has a role
few_none : (u : ℕ) → count 64 (get_or empty_rows u 0) ≤ 16
unfolding empty_rows
few_none u = rw (ap (count 64) (get_d_filled 0 64 u) ∙ count_empty 64) zero-le

-- a member put in where both numbers are in range
put_keeps : (m n : ℕ) (rows : List ℕ) (i k : ℕ) → (ltb i m && ltb k n) ≡ true → Table m n rows
    → Table m n (set rows i (with (get_or rows i 0) k))
put_keeps m n rows i k e t =
    let a = ltb-true i m (and_l (ltb i m) (ltb k n) e) in
    let b = ltb-true k n (and_r (ltb i m) (ltb k n) e) in
    (put_in_range rows i k m n t.0 a b, put_below rows i k n t.1 b)

module _ (h : Head) where
  -- an assignment in range keeps the table of roles by user in range
  assigning_keeps : (rows : List ℕ) (e : Entry) → in_range h e ≡ true → Table h.users h.roles rows
      → Table h.users h.roles (assigning rows e)
  unfolding in_range
  assigning_keeps rows e i t =
      assigning-case (λ e x. in_range h e ≡ true → Table h.users h.roles x) rows (λ u r k. put_keeps _ _ rows u.0 r.0 k t) (λ _ _ _. t) e i

  -- a grant in range keeps the table of permissions by role in range
  granting_keeps : (rows : List ℕ) (e : Entry) → in_range h e ≡ true → Table h.roles h.permissions rows
      → Table h.roles h.permissions (granting rows e)
  unfolding in_range
  granting_keeps rows e i t =
      granting-case (λ e x. in_range h e ≡ true → Table h.roles h.permissions x) rows (λ r p k. put_keeps _ _ rows r.0 p.0 k t) (λ _ _ _. t) e i

  -- a senior word in range keeps the table of juniors by role in range
  ordering_keeps : (rows : List ℕ) (e : Entry) → in_range h e ≡ true → Table h.roles h.roles rows
      → Table h.roles h.roles (ordering rows e)
  unfolding in_range
  ordering_keeps rows e i t =
      ordering-case (λ e x. in_range h e ≡ true → Table h.roles h.roles x) rows (λ a b k. put_keeps _ _ rows a.0 b.0 k t) (λ _ _ _. t) e i

  -- a limit word in range keeps the table of limits in range
  limiting_keeps : (rows : List ℕ) (e : Entry) → in_range h e ≡ true → LimitsInRange h.roles rows → LimitsInRange h.roles (limiting rows e)
  unfolding lesser in_range limited
  limiting_keeps rows e i t =
      limiting-case (λ e x. in_range h e ≡ true → LimitsInRange h.roles x) rows
      (λ r n k. let a = ltb-true r.0 h.roles (and_l _ _ k) in
      let b = one_to_two n (and_r (ltb r.0 h.roles) _ k) in
      let P : ℕ → ℕ → Type 0 = λ i v. not (eqb v 0) ≡ true → (i < h.roles) × (2 ≤ v) × (v ≤ 256) in
      set_keeps P rows r.0 (lesser (get_or rows r.0 0) n) t
      (pick-case (P r.0) (eqb (get_or rows r.0 0) 0 || ltb n (get_or rows r.0 0)) n (get_or rows r.0 0) (λ q _. (a, b.0, b.1)) (λ q. t r.0)))
      (λ _ _ _. t) e i
    where
      one_to_two : (n : ℕ) → (leb 2 n && leb n 256) ≡ true → (2 ≤ n) × (n ≤ 256)
      one_to_two n k = (leb-true 2 n (and_l _ _ k), leb-true n 256 (and_r (leb 2 n) _ k))

  -- valid entries are in range
  ranges : (rows : List ℕ) (t : Scan) (es : List Entry) → Valid h rows t es → Each (λ e. in_range h e ≡ true) es
  ranges rows t [] v = tt
  ranges rows t (e ∷ es) v = (v.0.range, ranges (assigning rows e) (next t e) es v.1)

-- ---- at most 16 roles for a user, at most 32 exclusions
abbrev Few : List ℕ → Type 0
Few rows = (u : ℕ) → count 64 (get_or rows u 0) ≤ 16

-- not crowded: a further role leaves room for it
not_crowded : (a b : Bool) → (not a && b) ≡ false → a ≡ false → b ≡ false
not_crowded true b e z = absurd (true≢false z)
not_crowded false b e z = e

module _ (h : Head) (small : h.roles ≤ 64) where
  -- a role again, or one more where there is room
  few_with : (row r : ℕ) → row < 2 ^ h.roles → r < h.roles → (not (has row r) && leb 16 (count 64 row)) ≡ false → count 64 row ≤ 16
      → count 64 (with row r) ≤ 16
  few_with row r b l e f =
      cases (has row r) (λ p. rw (with_member 64 row r (lt_of_lt_of_le b (pow_mono small)) (lt_of_lt_of_le l small) p) f)
      (λ p. let q = leb-false 16 (count 64 row) (not_crowded (has row r) (leb 16 (count 64 row)) e p) in
      rw (count-with 64 row r (lt_of_lt_of_le l small) p) q)

  -- an entry that does not crowd leaves every user at most 16 roles
  few_step : (rows : List ℕ) (t : Scan) (e : Entry) → Fine h rows t e → Table h.users h.roles rows → Few rows
      → Few (assigning rows e)
  unfolding in_range crowds
  few_step rows t e f b k =
      assigning-case (λ e x. Fine h rows t e → Few x) rows
      (λ u r g. set_keeps (λ (i s : ℕ). count 64 s ≤ 16) rows u.0 (with (get_or rows u.0 0) r.0) k
      (few_with (get_or rows u.0 0) r.0 (b.1 u.0) (ltb-true r.0 h.roles (and_r (ltb u.0 h.users) _ g.range))
      g.room (k u.0))) (λ _ _ _. k) e f

  -- so do valid entries, one after the other
  few_kept : (rows : List ℕ) (t : Scan) (es : List Entry) → Valid h rows t es → Table h.users h.roles rows → Few rows
      → Few (fold assigning rows es)
  unfolding fold
  few_kept rows t [] v b k = k
  few_kept rows t (e ∷ es) v b k =
      few_kept (assigning rows e) (next t e) es v.1 (assigning_keeps h rows e v.0.range b) (few_step rows t e v.0 b k)

  -- the exclusions so far and those to come are at most 32
  few_exclusions : (rows : List ℕ) (t : Scan) (es : List Entry) → Valid h rows t es → t.exclusions ≤ 32
      → t.exclusions + length (exclusions_of es) ≤ 32
  unfolding exclusions_of next crowds
  few_exclusions rows t [] v k = omega arith
  few_exclusions rows t (e ∷ es) v k =
      let rest = few_exclusions (assigning rows e) (next t e) es v.1 in
      exclusion-case (λ e. Fine h rows t e → ((next t e).exclusions ≤ 32 → (next t e).exclusions + length (exclusions_of es) ≤ 32)
      → t.exclusions + length (exclusions_of (e ∷ es)) ≤ 32)
      (λ x m f ih. let q = leb-false 32 t.exclusions f.room in omega (arith, ih (omega (arith, q))))
      (λ e q n f ih. rw (q es) (rw (n t) at (ih (rw (n t) k)))) e v.0 rest

  -- ---- where d members are due, the next d entries are different members, none of them had yet
  members_due : (d : ℕ) (rows : List ℕ) (t : Scan) (es : List Entry) → t.due ≡ d → Valid h rows t es → t.members < 2 ^ h.roles
      → (count 64 (fold joining t.members (take d es)) ≡ count 64 t.members + d)
      × (fold joining t.members (take d es) < 2 ^ h.roles)
  unfolding fold joining next in_range repeats
  members_due zero rows t es q v b = (omega arith, b)
  members_due (suc d) rows t [] q v b = absurd (omega arith)
  members_due (suc d) rows t (e ∷ es) q v b =
      member_case
      (λ e. Fine h rows t e → Valid h (assigning rows e) (next t e) es
      → (count 64 (fold joining t.members (e ∷ take d es)) ≡ count 64 t.members + suc d)
      × (fold joining t.members (e ∷ take d es) < 2 ^ h.roles)) t.due (λ z. omega arith)
      (λ r f w. let l : r.0 < h.roles = ltb-true r.0 h.roles f.range in
      let ih = members_due d (assigning rows (Member r)) (next t (Member r)) es (omega arith) w (or_lt h.roles t.members (2 ^ r.0) b (pow-lt l)) in
      (ih.0 ∙ ap (λ (n : ℕ). n + d) (count-with 64 t.members r.0 (lt_of_lt_of_le l small) f.fresh) ∙ omega arith, ih.1))
      e v.0.turn v.0 v.1

  -- an exclusion word is followed by as many different members as it says
  module _ (rows : List ℕ) (t : Scan) (x : Exclusion) (m : ℕ) (es : List Entry) (v : Valid h rows t (Exclude x m ∷ es)) where
    -- their number is m, and each of them is a role
    due_members : (count 64 (with_members x (take m es)).members ≡ m) × ((with_members x (take m es)).members < 2 ^ h.roles)
    unfolding with_members next
    due_members =
        let k = members_due m (assigning rows (Exclude x m)) (next t (Exclude x m)) es refl v.1 (pow_pos h.roles) in
        rw v.0.plain (k.0 ∙ ap (λ (n : ℕ). n + m) (count_empty 64) ∙ zero-add m, k.1)

    -- the exclusion with its members is in range
    exclusion_in_range : ExclusionInRange h.roles (with_members x (take m es))
    unfolding in_range with_members
    exclusion_in_range =
        let a = leb 1 m in
        let b = leb m h.roles in
        let c = leb 2 x.n in
        let d = leb x.n m in
        let g = v.0.range in
        let n = sym due_members.0 in
        let low = leb-true 2 x.n (and_l c d (and_r (a && b) (c && d) g)) in
        let high = leb-true x.n m (and_r c d (and_r (a && b) (c && d) g)) in
        record {
          size = subst (TwoTo h.roles) n (le_trans low high, leb-true m h.roles (and_r a b (and_l (a && b) (c && d) g)));
          n = subst (λ (k : ℕ). TwoTo k x.n) n (low, high);
          members = due_members.1;
        }

  -- so is each exclusion of valid entries
  exclusions_in_range : (rows : List ℕ) (t : Scan) (es : List Entry) → Valid h rows t es → Each (ExclusionInRange h.roles) (exclusions_of es)
  unfolding exclusions_of
  exclusions_in_range rows t [] v = tt
  exclusions_in_range rows t (e ∷ es) v =
      let rest = exclusions_in_range (assigning rows e) (next t e) es v.1 in
      exclusion-case (λ e. Valid h rows t (e ∷ es) → Each (ExclusionInRange h.roles) (exclusions_of (e ∷ es)))
      (λ x m w. (exclusion_in_range rows t x m es w, rest)) (λ e q _ _. rw (q es) rest) e v

  -- the same behind any entries before the exclusion word
  due_behind_lem : (before : List Entry) (rows : List ℕ) (t : Scan) (x : Exclusion) (m : ℕ) (es : List Entry)
      → Valid h rows t (before ++ (Exclude x m ∷ es)) → count 64 (with_members x (take m es)).members ≡ m
  due_behind_lem [] rows t x m es v = (due_members rows t x m es v).0
  due_behind_lem (e ∷ before) rows t x m es v = due_behind_lem before (assigning rows e) (next t e) x m es v.1

-- ---- an image that passes: its head is right, and its entries are valid from the start
abbrev Known : List ℕ → Checked → Type 0
Known s (Accepted k) =
    (head_right (word_at s 0) ≡ true) × Valid (head_of (word_at s 0)) empty_rows start (entries_of s) × (head_of (word_at s 0) ≡ k)
Known s (Refused n place) = Unit {0}

-- what the scan says of the entries, with the test of the head
known_by : (s : List ℕ) (v : Checked) → head_right (word_at s 0) ≡ true → Judged (head_of (word_at s 0)) empty_rows start (entries_of s) v
    → Known s v
known_by s (Accepted k) e j = (e, j.0, j.1)
known_by s (Refused n place) e j = tt

-- by the tests of the length and the head
known : (s : List ℕ) → Known s (judge_words s)
unfolding judge_words entries_of start
known s =
    let h = head_of (word_at s 0) in
    elim_case (Known s) (length_right (length s)) _ _
    (λ _. elim_case (Known s) (head_right (word_at s 0)) _ _
    (λ e. known_by s (scan s h (behind_head s) 1 empty_rows start (word_at s 0)) e
    (scan-judged s h (behind_head s) 1 empty_rows start (word_at s 0) (λ _. refl))) (λ _. tt))
    (λ _. tt)

-- the tests of a right head
pub head_tests : (k a b c d : Bool) → (k && a && b && c && d) ≡ true → (a ≡ true) × (b ≡ true) × (c ≡ true)
head_tests k a b c d e =
    let f = and_l (k && a && b && c) d e in
    let g = and_l (k && a && b) c f in
    (and_r k a (and_l (k && a) b g), and_r (k && a) b g, and_r (k && a && b) c f)

-- a test of a range, as the range
pub one_to : (n b : ℕ) → between 1 n b ≡ true → OneTo b n
one_to n b e = (leb-true 1 n (and_l (leb 1 n) (leb n b) e), leb-true n b (and_r (leb 1 n) (leb n b) e))

module _ (s : List ℕ) (h : Head) (accepted : judge_words s ≡ Accepted h) where
  -- what is known of this image
  facts : Known s (Accepted h)
  facts = subst (Known s) accepted (known s)

  -- its entries are valid
  pub words_valid : Valid (head_of (word_at s 0)) empty_rows start (entries_of s)
  words_valid = facts.1

  -- its numbers of users, roles and permissions
  head_in_range : OneTo 64 (policy_of s).head.users × OneTo 64 (policy_of s).head.roles × OneTo 256 (policy_of s).head.permissions
  unfolding policy_of head_of head_right
  head_in_range =
      let w = word_at s 0 in
      let t = head_tests (is_kind w 1) (between 1 (field w 21 7) 64) (between 1 (field w 14 7) 64) (between 1 (field w 5 9) 256) _ facts.0 in
      (one_to (field w 21 7) 64 t.0, one_to (field w 14 7) 64 t.1, one_to (field w 5 9) 256 t.2)

  -- the policy's head is the one that the image passes with
  pub words_head : (policy_of s).head ≡ h
  unfolding policy_of
  words_head = facts.2

  -- its entries are in range
  pub words_entries : Each (λ e. in_range (head_of (word_at s 0)) e ≡ true) (entries_of s)
  words_entries = ranges (head_of (word_at s 0)) empty_rows start (entries_of s) facts.1

  -- its policy is in range
  pub words_in_range : InRange (policy_of s)
  unfolding policy_of
  words_in_range =
      let k = head_of (word_at s 0) in
      let v = facts.1 in
      let small = head_in_range.1.1 in
      let r = ranges k empty_rows start (entries_of s) v in
      let Q : Entry → Type 0 = λ e. in_range k e ≡ true in
      let a = fold_keeps assigning Q (Table k.users k.roles) (assigning_keeps k) (entries_of s) r empty_rows (empty_table _ _) in
      let g = fold_keeps granting Q (Table k.roles k.permissions) (granting_keeps k) (entries_of s) r empty_rows (empty_table _ _) in
      let j = fold_keeps ordering Q (Table k.roles k.roles) (ordering_keeps k) (entries_of s) r empty_rows (empty_table _ _) in
      record {
        users = head_in_range.0;
        roles = head_in_range.1;
        permissions = head_in_range.2;
        assigned = a.0;
        granted = g.0;
        juniors = j.0;
        assigned_rows = a.1;
        granted_rows = g.1;
        junior_rows = j.1;
        few_roles = few_kept k small empty_rows start (entries_of s) v (empty_table k.users k.roles) few_none;
        few_exclusions = unfold start in (rw zero-add at (few_exclusions k small empty_rows start (entries_of s) v zero-le));
        exclusions = exclusions_in_range k small empty_rows start (entries_of s) v;
        limits = fold_keeps limiting Q (LimitsInRange k.roles) (limiting_keeps k) (entries_of s) r empty_rows (no_limits k.roles);
      }

  -- an exclusion word with m is followed by m member words that name m different roles
  pub words-members : (before : List Entry) (x : Exclusion) (m : ℕ) (after : List Entry) → entries_of s ≡ before ++ (Exclude x m ∷ after)
      → count 64 (with_members x (take m after)).members ≡ m
  unfolding policy_of
  words-members before x m after e =
      due_behind_lem (head_of (word_at s 0)) head_in_range.1.1 before empty_rows start x m after
      (subst (Valid (head_of (word_at s 0)) empty_rows start) e facts.1)

-- a refusal is no acceptance
pub not_accepted : {X : Type 0} (n place : ℕ) (h : Head) → Refused n place ≡ Accepted h → X
not_accepted n place h e = let z : ◌≡◌ {A = ℕ} 0 1 = cc in absurd (omega arith)
