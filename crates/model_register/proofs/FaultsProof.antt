-- The scan of an image finds what the register says: at each place the first fault that the word has, and behind the
-- last word the sum.
-- Assumes nothing.
use mathlib.Core.Path.{◌≡◌, refl, sym, ap, ap₂, ◌∙◌, subst}
use mathlib.Core.Logic.{◌⊎◌, inl, inr, ◌↔◌}
use mathlib.Core.Bool.{Bool, true, false, ◌&&◌, ◌||◌, not, true≢false}
use mathlib.Core.List.{List}
use Prim.Native.Nat.{ℕ, zero, suc, ◌+◌, ◌-◌, ◌/◌, ◌%◌, ◌^◌, ◌≤◌, ◌<◌}
use native.Mathlib.Nat.{mod-one, add-zero}
use native.Mathlib.Numerals.{add-one}
use native.Mathlib.Decide.{dec_lt}
use native.Mathlib.Omega.{arith}
use lib.Dec.{eqb, ltb, leb}
use lib.ListN.{length, get_or}
use borrow.Author.Tests.{eqb-true, eqb-false}
use Rattle.model.specs.declared.Head.{Head}
use Rattle.model.specs.declared.Entry.{Entry}
use Rattle.model.specs.declared.Entry.TheVariants.{Assignment, Grant, Senior, Exclude, Member, Limit, End, Unknown}
use Rattle.model.specs.declared.Word.{Word}
use Rattle.model.specs.declared.Scan.{Scan}
use Rattle.model.specs.declared.Checked.{Checked}
use Rattle.model.specs.declared.Checked.TheVariants.{Accepted, Refused}
use Rattle.model.specs.Tests.{pick, between}
use Rattle.model.specs.Sets.{has, count, count_to, sum_to}
use Rattle.model.specs.Image.{word_at, behind_head, field, is_kind, decode, wrong_kind, in_range, repeats, crowds, entry_fault, fault, assigning, next, balanced, scan, head_of, head_right, length_right, empty_rows, start, judge_words}
use Rattle.model.specs.Policy.{entry_at}
use Rattle.model.specs.Ranges.{OneTo}
use Rattle.model_laws.proofs.Bools.{pick-case}
use Rattle.model_laws.proofs.UnionLaws.{below_or_last}
use Rattle.model_laws.proofs.Scanned.{Turn, turn-of}
use Rattle.model_register.specs.Entries.{Fits}
use Rattle.model_register.specs.Faults.{words, Last, Due, Given, IsMember, IsEnd, IsUnknown, WrongKind, no_kind, not_due, no_member, early_end, no_end, spare_bits, Spare, OutOfRange, Repeated, Crowded, Fault, WrongLength, odd, short, long, WrongHead, Begins, Right, Refuses, by_length, by_head, by_word, by_balance, Accepts, RegisterIs}
use Rattle.model_register.proofs.EntriesProof.{fits}
use Rattle.model_register.proofs.Decided.{Decides, decides_as, never, always, not_decides, or_decides, and_decides, nand_decides, equal_decides, not_below_decides, above_decides, most_decides, many_decides}
use Rattle.model_register.proofs.Looking.{Assigned, assigned_start, assigned_next, excludes, excluded_passes, passes_excluded, counted_start, counted_next, Dues, dues_start, dues_next, due_is, named_is}

-- ---- 3
module _ (final : Bool) (due : ℕ) (D L : Type 0) (last : Decides final L) (dues : (¬ (due ≡ 0)) ↔ D) where
  -- the test for members due
  waits : Decides (not (eqb due 0)) D
  waits = decides_as (not (eqb due 0)) (not_decides (eqb due 0) (equal_decides due 0)) dues.0 dues.1

  -- a word that is neither a member nor the end, of some kind
  ordinary : (e : Entry) → ¬ IsUnknown e → ¬ IsMember e → ¬ IsEnd e → Decides (final || not (eqb due 0)) (WrongKind e D L)
  ordinary e a b c =
      decides_as (final || not (eqb due 0)) (or_decides final (not (eqb due 0)) last waits) to back
    where
      to : L ⊎ D → WrongKind e D L
      to (inl l) = no_end c l
      to (inr d) = no_member b d

      back : WrongKind e D L → L ⊎ D
      back (no_kind u) = absurd (a u)
      back (not_due m n) = absurd (b m)
      back (no_member m d) = inr d
      back (early_end q n) = absurd (c q)
      back (no_end q l) = inl l

  pub kind_decides : (e : Entry) → Decides (wrong_kind final due e) (WrongKind e D L)
  unfolding wrong_kind
  kind_decides (Assignment u r) = ordinary (Assignment u r) (λ x. x) (λ x. x) (λ x. x)
  kind_decides (Grant r p) = ordinary (Grant r p) (λ x. x) (λ x. x) (λ x. x)
  kind_decides (Senior a b) = ordinary (Senior a b) (λ x. x) (λ x. x) (λ x. x)
  kind_decides (Exclude x m) = ordinary (Exclude x m) (λ x. x) (λ x. x) (λ x. x)
  kind_decides (Member r) =
      decides_as (final || eqb due 0) (or_decides final (eqb due 0) last (equal_decides due 0)) to back
    where
      to : L ⊎ (due ≡ 0) → WrongKind (Member r) D L
      to (inl l) = no_end (λ x. x) l
      to (inr z) = not_due tt (λ d. dues.1 d z)

      back : WrongKind (Member r) D L → L ⊎ (due ≡ 0)
      back (no_kind u) = absurd u
      back (not_due m n) = inr (zero_or (eqb due 0) refl)
        where
          zero_or : (b : Bool) → eqb due 0 ≡ b → due ≡ 0
          zero_or true e = eqb-true due 0 e
          zero_or false e = absurd (n (dues.0 (eqb-false due 0 e)))
      back (no_member m d) = absurd (m tt)
      back (early_end q n) = absurd q
      back (no_end q l) = inl l
  kind_decides (Limit r t) = ordinary (Limit r t) (λ x. x) (λ x. x) (λ x. x)
  kind_decides End =
      decides_as (not final || not (eqb due 0)) (or_decides (not final) (not (eqb due 0)) (not_decides final last) waits) to back
    where
      to : (¬ L) ⊎ D → WrongKind End D L
      to (inl l) = early_end tt l
      to (inr d) = no_member (λ x. x) d

      back : WrongKind End D L → (¬ L) ⊎ D
      back (no_kind u) = absurd u
      back (not_due m n) = absurd m
      back (no_member m d) = inr d
      back (early_end q n) = inl n
      back (no_end q l) = absurd (q tt)
  kind_decides Unknown = always (no_kind tt)

-- ---- 4
spare_is : (w : ℕ) → (decode w).spare ≡ w % 2 ^ spare_bits (decode w).entry
unfolding decode
spare_is w =
    let P : Word → Type 0 = λ x. x.spare ≡ w % 2 ^ spare_bits x.entry in
    pick-case P (is_kind w 2) _ _ (λ _. refl)
    (λ _. pick-case P (is_kind w 3) _ _ (λ _. refl)
    (λ _. pick-case P (is_kind w 4) _ _ (λ _. refl)
    (λ _. pick-case P (is_kind w 5) _ _ (λ _. refl)
    (λ _. pick-case P (is_kind w 6) _ _ (λ _. refl)
    (λ _. pick-case P (is_kind w 7) _ _ (λ _. refl)
    (λ _. pick-case P (is_kind w 15) _ _ (λ _. sym (mod-one w)) (λ _. sym (mod-one w))))))))

spare_decides : (w : ℕ) → Decides (not (eqb (decode w).spare 0)) (Spare w (decode w).entry)
spare_decides w =
    subst (λ (n : ℕ). Decides (not (eqb n 0)) (Spare w (decode w).entry)) (sym (spare_is w))
    (not_decides (eqb (w % 2 ^ spare_bits (decode w).entry) 0) (equal_decides (w % 2 ^ spare_bits (decode w).entry) 0))

-- ---- 5
-- one of two numbers is not below its bound
two_below : (a b c d : ℕ) → Decides (not (ltb a b && ltb c d)) ((b ≤ a) ⊎ (d ≤ c))
two_below a b c d = nand_decides (ltb a b) (ltb c d) (not_below_decides a b) (not_below_decides c d)

-- a number is not from a to b
outside : (a n b : ℕ) → Decides (not (between a n b)) ((n < a) ⊎ (b < n))
outside a n b = nand_decides (leb a n) (leb n b) (above_decides a n) (above_decides n b)

range_decides : (h : Head) (e : Entry) → Decides (not (in_range h e)) (OutOfRange h e)
unfolding in_range
range_decides h (Assignment u r) = two_below u.0 h.users r.0 h.roles
range_decides h (Grant r p) = two_below r.0 h.roles p.0 h.permissions
range_decides h (Senior a b) = two_below a.0 h.roles b.0 h.roles
range_decides h (Exclude x m) =
    nand_decides (between 1 m h.roles) (between 2 x.n m) (outside 1 m h.roles) (outside 2 x.n m)
range_decides h (Member r) = not_below_decides r.0 h.roles
range_decides h (Limit r t) = nand_decides (ltb r.0 h.roles) (between 2 t 256) (not_below_decides r.0 h.roles) (outside 2 t 256)
range_decides h End = never
range_decides h Unknown = never

-- ---- 6 and 7, by what the state says of the words before
module _ (s : List ℕ) (k : ℕ) (rows : List ℕ) (t : Scan) where
  repeat_decides : Dues s k t.due t.members → (e : Entry) → Turn t.due e → Decides (repeats t e) (Repeated s k e)
  unfolding repeats
  repeat_decides d (Assignment u r) z = never
  repeat_decides d (Grant r p) z = never
  repeat_decides d (Senior a b) z = equal_decides a.0 b.0
  repeat_decides d (Exclude x m) z = never
  repeat_decides d (Member r) z =
      let i = named_is s k t.due t.members d z r.0 in
      (i.0, λ e w. true≢false (sym (i.1 w) ∙ e))
  repeat_decides d (Limit r n) z = never
  repeat_decides d End z = never
  repeat_decides d Unknown z = never

  -- a role that a word gives is one of 64
  given_low : (u r : ℕ) → Given s k u r → r < 64
  unfolding entry_at
  given_low u r g = (subst Fits g.word (fits (word_at s g.place))).1

  crowd_decides : Assigned s k rows → t.exclusions ≡ count_to (excludes s) k → (e : Entry) → Decides (crowds rows t e) (Crowded s k e)
  unfolding crowds count
  crowd_decides a c (Assignment u r) =
      let row = get_or rows u.0 0 in
      let g = a.given u.0 in
      and_decides (not (has row r.0)) (leb 16 (count 64 row))
      (not_decides (has row r.0) ((g r.0).0, λ e w. true≢false (sym ((g r.0).1 w) ∙ e)))
      (many_decides (has row) 64 16 (λ x w. (given_low u.0 x w, (g x).1 w)) (λ x l e. (g x).0 e))
  crowd_decides a c (Grant r p) = never
  crowd_decides a c (Senior x y) = never
  crowd_decides a c (Exclude x m) =
      subst (λ (n : ℕ). Decides (leb 32 n) (Crowded s k (Exclude x m))) (sym c)
      (many_decides (excludes s) k 32 (excluded_passes s k) (passes_excluded s k))
  crowd_decides a c (Member r) = never
  crowd_decides a c (Limit r n) = never
  crowd_decides a c End = never
  crowd_decides a c Unknown = never

-- ---- the first fault of a word
module _ (s : List ℕ) (k : ℕ) where
  -- n is the first fault of the word, or 0 where it has none
  data Found (n : ℕ) : Type 0 where
    bad : 1 ≤ n → Fault s k n → ((m : ℕ) → m < n → ¬ Fault s k m) → Found n
    fine : n ≡ 0 → ((m : ℕ) → ¬ Fault s k m) → Found n

  abbrev K : Type 0
  K = WrongKind (entry_at s k) (Due s k) (Last s k)

  abbrev S : Type 0
  S = Spare (word_at s k) (entry_at s k)

  abbrev G : Type 0
  G = OutOfRange (head_of (word_at s 0)) (entry_at s k)

  abbrev R : Type 0
  R = Repeated s k (entry_at s k)

  abbrev C : Type 0
  C = Crowded s k (entry_at s k)

  lower : (n m : ℕ) → m < n → (3 < n → ¬ K) → (4 < n → ¬ S) → (5 < n → ¬ G) → (6 < n → ¬ R) → (7 < n → ¬ C) → ¬ Fault s k m
  lower n m l a b c d e (Fault.kind q w) = a (omega arith) w
  lower n m l a b c d e (Fault.spare q w) = b (omega arith) w
  lower n m l a b c d e (Fault.range q w) = c (omega arith) w
  lower n m l a b c d e (Fault.repeat q w) = d (omega arith) w
  lower n m l a b c d e (Fault.crowd q w) = e (omega arith) w

  small : (m : ℕ) → Fault s k m → m < 8
  small m (Fault.kind q w) = omega arith
  small m (Fault.spare q w) = omega arith
  small m (Fault.range q w) = omega arith
  small m (Fault.repeat q w) = omega arith
  small m (Fault.crowd q w) = omega arith

  first-fault : (a b c d e : Bool) → Decides a K → Decides b S → Decides c G → (a ≡ false → Decides d R) → Decides e C
      → Found (pick a 3 (pick b 4 (pick c 5 (pick d 6 (pick e 7 0)))))
  unfolding pick
  first-fault true b c d e i j l o q =
      bad (omega arith) (Fault.kind refl (i.0 refl))
      (λ m v. lower 3 m v (λ x. absurd (omega arith)) (λ x. absurd (omega arith)) (λ x. absurd (omega arith))
      (λ x. absurd (omega arith)) (λ x. absurd (omega arith)))
  first-fault false true c d e i j l o q =
      bad (omega arith) (Fault.spare refl (j.0 refl))
      (λ m v. lower 4 m v (λ x. i.1 refl) (λ x. absurd (omega arith)) (λ x. absurd (omega arith))
      (λ x. absurd (omega arith)) (λ x. absurd (omega arith)))
  first-fault false false true d e i j l o q =
      bad (omega arith) (Fault.range refl (l.0 refl))
      (λ m v. lower 5 m v (λ x. i.1 refl) (λ x. j.1 refl) (λ x. absurd (omega arith))
      (λ x. absurd (omega arith)) (λ x. absurd (omega arith)))
  first-fault false false false true e i j l o q =
      bad (omega arith) (Fault.repeat refl ((o refl).0 refl))
      (λ m v. lower 6 m v (λ x. i.1 refl) (λ x. j.1 refl) (λ x. l.1 refl)
      (λ x. absurd (omega arith)) (λ x. absurd (omega arith)))
  first-fault false false false false true i j l o q =
      bad (omega arith) (Fault.crowd refl (q.0 refl))
      (λ m v. lower 7 m v (λ x. i.1 refl) (λ x. j.1 refl) (λ x. l.1 refl)
      (λ x. (o refl).1 refl) (λ x. absurd (omega arith)))
  first-fault false false false false false i j l o q =
      fine refl (λ m f. lower 8 m (small m f) (λ x. i.1 refl) (λ x. j.1 refl) (λ x. l.1 refl) (λ x. (o refl).1 refl) (λ x. q.1 refl) f)

-- ---- the scan

-- what its state says at place k: no word before it has a fault, and the state is that of these words
record Known (s : List ℕ) (k : ℕ) (rows : List ℕ) (t : Scan) (sum : ℕ) : Type 0 where
  right : Right s k
  assigned : Assigned s k rows
  counted : t.exclusions ≡ count_to (excludes s) k
  dues : Dues s k t.due t.members
  total : sum % 2 ^ 28 ≡ sum_to (word_at s) k % 2 ^ 28

-- an answer is the register's
abbrev Tells : List ℕ → Checked → Type 0
Tells s (Accepted h) = Accepts s h
Tells s (Refused n k) = Refuses s n k

module _ (s : List ℕ) where
  abbrev head : Head
  head = head_of (word_at s 0)

  -- the first fault of the word at place k, where n words stand behind it
  module _ (k n : ℕ) (rows : List ℕ) (t : Scan) (sum : ℕ) (length_is : k + suc n ≡ words s) (q : Known s k rows t sum) where
    last_decides : Decides (eqb n 0) (Last s k)
    last_decides = decides_as (eqb n 0) (equal_decides n 0) (λ z. omega arith) (λ l. omega arith)

    kind_here : Decides (wrong_kind (eqb n 0) t.due (entry_at s k)) (WrongKind (entry_at s k) (Due s k) (Last s k))
    kind_here =
        kind_decides (eqb n 0) t.due (Due s k) (Last s k) last_decides (due_is s k t.due t.members q.dues) (entry_at s k)

    found : Found s k (fault head rows t (eqb n 0) (decode (word_at s k)))
    unfolding fault entry_fault entry_at
    found =
        first-fault s k (wrong_kind (eqb n 0) t.due (entry_at s k)) (not (eqb (decode (word_at s k)).spare 0)) (not (in_range head (entry_at s k)))
        (repeats t (entry_at s k)) (crowds rows t (entry_at s k)) kind_here (spare_decides (word_at s k)) (range_decides head (entry_at s k))
        (λ e. repeat_decides s k rows t q.dues (entry_at s k) (turn-of (eqb n 0) t.due (entry_at s k) e))
        (crowd_decides s k rows t q.assigned q.counted (entry_at s k))

    -- a word without fault is taken in
    module _ (behind : 1 ≤ k) (none : (m : ℕ) → ¬ Fault s k m) where
      turn : Turn t.due (entry_at s k)
      turn = go (wrong_kind (eqb n 0) t.due (entry_at s k)) refl
        where
          go : (b : Bool) → wrong_kind (eqb n 0) t.due (entry_at s k) ≡ b → Turn t.due (entry_at s k)
          go true e = absurd (none 3 (Fault.kind refl (kind_here.0 e)))
          go false e = turn-of (eqb n 0) t.due (entry_at s k) e

      known_next : Known s (k + 1) (assigning rows (entry_at s k)) (next t (entry_at s k)) ((sum + word_at s k) % 2 ^ 32)
      known_next =
          subst (λ (i : ℕ). Known s i (assigning rows (entry_at s k)) (next t (entry_at s k)) ((sum + word_at s k) % 2 ^ 32)) (sym (add-one k))
          (record {
            right = λ i a b m. elim (below_or_last i k b) [ inl l ↦ q.right i a l m | inr e ↦ subst (λ (j : ℕ). ¬ Fault s j m) (sym e) (none m) ];
            assigned = assigned_next s k rows (entry_at s k) behind refl (unfold entry_at in (fits (word_at s k))) q.assigned;
            counted = counted_next s k t (entry_at s k) behind refl q.counted;
            dues = dues_next s k t (entry_at s k) behind refl turn q.dues;
            total = unfold sum_to in (let z = q.total in omega arith);
          })

  -- by induction on the words that are left
  scan-tells : Begins s → (n k : ℕ) (rows : List ℕ) (t : Scan) (sum : ℕ) → 1 ≤ k → k + n ≡ words s → Known s k rows t sum
      → Tells s (scan s head n k rows t sum)
  unfolding scan balanced entry_at pick
  scan-tells begins zero k rows t sum b l q = go (eqb (sum % 2 ^ 28) 0) refl
    where
      all : k ≡ words s
      all = omega arith

      go : (c : Bool) → eqb (sum % 2 ^ 28) 0 ≡ c → Tells s (pick c (Accepted head) (Refused 8 (k - 1)))
      go true e =
          record {
            begins = begins;
            right = subst (Right s) all q.right;
            balanced = λ u. u (ap (λ (i : ℕ). sum_to (word_at s) i % 2 ^ 28) (sym all) ∙ sym q.total ∙ eqb-true (sum % 2 ^ 28) 0 e);
            numbers = refl;
          }
      go false e =
          by_balance refl (omega arith) begins (subst (Right s) all q.right)
          (λ z. eqb-false (sum % 2 ^ 28) 0 e (q.total ∙ ap (λ (i : ℕ). sum_to (word_at s) i % 2 ^ 28) all ∙ z))
  scan-tells begins (suc n) k rows t sum b l q =
      go (eqb (fault head rows t (eqb n 0) (decode (word_at s k))) 0) refl (found k n rows t sum l q)
      (λ none. scan-tells begins n (k + 1) (assigning rows (entry_at s k)) (next t (entry_at s k)) ((sum + word_at s k) % 2 ^ 32) (omega arith)
      (omega arith) (known_next k n rows t sum l q b none))
    where
      f : ℕ
      f = fault head rows t (eqb n 0) (decode (word_at s k))

      rest : Checked
      rest = scan s head n (k + 1) (assigning rows (entry_at s k)) (next t (entry_at s k)) ((sum + word_at s k) % 2 ^ 32)

      go : (c : Bool) → eqb f 0 ≡ c → Found s k f → (((m : ℕ) → ¬ Fault s k m) → Tells s rest) → Tells s (elim c [ true ↦ rest | false ↦ Refused f k ])
      go true e (bad p w v) ih = let z = eqb-true f 0 e in absurd (omega arith)
      go true e (fine z v) ih = ih v
      go false e (bad p w v) ih = by_word begins b (omega arith) q.right w v
      go false e (fine z v) ih = absurd (eqb-false f 0 e z)

  -- ---- 1 and 2
  length_decides : Decides (not (length_right (length s))) (WrongLength s)
  unfolding length_right
  length_decides =
      decides_as (not (length_right (length s)))
      (nand_decides (eqb (length s % 4) 0) (between 8 (length s) 16384) (not_decides (eqb (length s % 4) 0) (equal_decides (length s % 4) 0))
      (outside 8 (length s) 16384)) to back
    where
      to : (¬ (length s % 4 ≡ 0)) ⊎ ((length s < 8) ⊎ (16384 < length s)) → WrongLength s
      to (inl a) = odd a
      to (inr (inl a)) = short a
      to (inr (inr a)) = long a

      back : WrongLength s → (¬ (length s % 4 ≡ 0)) ⊎ ((length s < 8) ⊎ (16384 < length s))
      back (odd a) = inl a
      back (short a) = inr (inl a)
      back (long a) = inr (inr a)

  not_one_to : (n b : ℕ) → Decides (not (between 1 n b)) (¬ OneTo b n)
  not_one_to n b = not_decides (between 1 n b) (and_decides (leb 1 n) (leb n b) (most_decides 1 n) (most_decides n b))

  head_decides : (w : ℕ) → Decides (not (head_right w)) (WrongHead w)
  unfolding head_right
  head_decides w =
      let k = is_kind w 1 in
      let a = between 1 (field w 21 7) 64 in
      let b = between 1 (field w 14 7) 64 in
      let c = between 1 (field w 5 9) 256 in
      let d = eqb (w % 2 ^ 5) 0 in
      decides_as (not (k && a && b && c && d))
      (nand_decides (k && a && b && c) d (nand_decides (k && a && b) c (nand_decides (k && a) b (nand_decides k a
      (not_decides k (equal_decides (field w 28 4) 1)) (not_one_to (field w 21 7) 64)) (not_one_to (field w 14 7) 64)) (not_one_to (field w 5 9) 256))
      (not_decides d (equal_decides (w % 2 ^ 5) 0))) to back
    where
      Wrong : Type 0
      Wrong =
          ((((¬ (field w 28 4 ≡ 1)) ⊎ (¬ OneTo 64 (field w 21 7))) ⊎ (¬ OneTo 64 (field w 14 7))) ⊎ (¬ OneTo 256 (field w 5 9))) ⊎ (¬ (w % 2 ^ 5 ≡ 0))

      to : Wrong → WrongHead w
      to (inl (inl (inl (inl x)))) = WrongHead.kind x
      to (inl (inl (inl (inr x)))) = WrongHead.users x
      to (inl (inl (inr x))) = WrongHead.roles x
      to (inl (inr x)) = WrongHead.permissions x
      to (inr x) = WrongHead.spare x

      back : WrongHead w → Wrong
      back (WrongHead.kind x) = inl (inl (inl (inl x)))
      back (WrongHead.users x) = inl (inl (inl (inr x)))
      back (WrongHead.roles x) = inl (inl (inr x))
      back (WrongHead.permissions x) = inl (inr x)
      back (WrongHead.spare x) = inr x

  -- ---- the whole
  known_start : Known s 1 empty_rows start (word_at s 0)
  unfolding sum_to
  known_start =
      record {
        right = λ i a b. absurd (omega arith);
        assigned = assigned_start s;
        counted = counted_start s;
        dues = dues_start s;
        total = ap (λ (n : ℕ). n % 2 ^ 28) (sym (add-zero (word_at s 0)));
      }

  tells : Tells s (judge_words s)
  unfolding judge_words behind_head
  tells = go (length_right (length s)) refl (head_right (word_at s 0)) refl
    where
      rest : Checked
      rest = scan s head (length s / 4 - 1) 1 empty_rows start (word_at s 0)

      passed : (b : Bool) → b ≡ true → not b ≡ false
      passed true e = refl
      passed false e = absurd (true≢false (sym e))

      go : (a : Bool) → length_right (length s) ≡ a → (b : Bool) → head_right (word_at s 0) ≡ b
          → Tells s (elim a [ false ↦ Refused 1 0 | true ↦ elim b [ false ↦ Refused 2 0 | true ↦ rest ] ])
      go false e b f = by_length refl refl (length_decides.0 (ap not e))
      go true e false f = by_head refl refl (length_decides.1 (passed _ e)) ((head_decides (word_at s 0)).0 (ap not f))
      go true e true f =
          let n = length_decides.1 (passed _ e) in
          scan-tells (record { size = n; head = (head_decides (word_at s 0)).1 (passed _ f) }) (length s / 4 - 1) 1 empty_rows start (word_at s 0) (omega arith)
          (at_least (dec_lt (length s) 8) n) known_start
        where
          at_least : Dec (length s < 8) → ¬ WrongLength s → 1 + (length s / 4 - 1) ≡ length s / 4
          at_least (yes l) n = absurd (n (short l))
          at_least (no l) n = omega arith

  -- ---- there is one answer
  same_word : (k n m : ℕ) → Fault s k n → ((i : ℕ) → i < n → ¬ Fault s k i) → Fault s k m → ((i : ℕ) → i < m → ¬ Fault s k i) → n ≡ m
  same_word k n m f a g b =
      elim (dec_lt n m) [
        | yes l ↦ absurd (b n l f)
        | no l ↦ elim (dec_lt m n) [ yes j ↦ absurd (a m j g) | no j ↦ omega arith ]
      ]

  one_answer : (n k m j : ℕ) → Refuses s n k → Refuses s m j → (n ≡ m) × (k ≡ j)
  one_answer n k m j (by_length a b w) (by_length c d v) = (omega arith, omega arith)
  one_answer n k m j (by_length a b w) (by_head c d v x) = absurd (v w)
  one_answer n k m j (by_length a b w) (by_word g x y r f l) = absurd (g.size w)
  one_answer n k m j (by_length a b w) (by_balance c d g r u) = absurd (g.size w)
  one_answer n k m j (by_head a b w z) (by_length c d v) = absurd (w v)
  one_answer n k m j (by_head a b w z) (by_head c d v x) = (omega arith, omega arith)
  one_answer n k m j (by_head a b w z) (by_word g x y r f l) = absurd (g.head z)
  one_answer n k m j (by_head a b w z) (by_balance c d g r u) = absurd (g.head z)
  one_answer n k m j (by_word g x y r f l) (by_length c d v) = absurd (g.size v)
  one_answer n k m j (by_word g x y r f l) (by_head c d v z) = absurd (g.head z)
  one_answer n k m j (by_word g x y r f l) (by_word h a b c d e) =
      elim (dec_lt k j) [
        | yes i ↦ absurd (c k x i n f)
        | no i ↦ elim (dec_lt j k) [
          | yes o ↦ absurd (r j a o m d)
          | no o ↦
              let z : k ≡ j = omega arith in
              (same_word j n m (subst (λ (i : ℕ). Fault s i n) z f) (subst (λ (i : ℕ). (p : ℕ) → p < n → ¬ Fault s i p) z l) d e, z)
        ]
      ]
  one_answer n k m j (by_word g x y r f l) (by_balance c d h a u) = absurd (a k x y n f)
  one_answer n k m j (by_balance c d g r u) (by_length a b v) = absurd (g.size v)
  one_answer n k m j (by_balance c d g r u) (by_head a b v z) = absurd (g.head z)
  one_answer n k m j (by_balance c d g r u) (by_word h x y a f l) = absurd (r j x y m f)
  one_answer n k m j (by_balance c d g r u) (by_balance a b h e v) = (omega arith, omega arith)

  not_both_ways : (n k : ℕ) (h : Head) → Refuses s n k → Accepts s h → ⊥
  not_both_ways n k h (by_length a b w) c = c.begins.size w
  not_both_ways n k h (by_head a b w z) c = c.begins.head z
  not_both_ways n k h (by_word g x y r f l) c = c.right k x y n f
  not_both_ways n k h (by_balance a d g r u) c = c.balanced u

  pub register_is : RegisterIs s
  register_is =
      record {
        refused = λ n k. (λ e. subst (Tells s) e tells, λ r. refused n k r (judge_words s) refl);
        accepted = λ h. (λ e. subst (Tells s) e tells, λ a. accepted h a (judge_words s) refl);
      }
    where
      refused : (n k : ℕ) → Refuses s n k → (v : Checked) → judge_words s ≡ v → judge_words s ≡ Refused n k
      refused n k r (Accepted h) e = absurd (not_both_ways n k h r (subst (Tells s) e tells))
      refused n k r (Refused m j) e =
          let z = one_answer m j n k (subst (Tells s) e tells) r in
          e ∙ ap₂ Refused z.0 z.1

      accepted : (h : Head) → Accepts s h → (v : Checked) → judge_words s ≡ v → judge_words s ≡ Accepted h
      accepted h a (Accepted g) e =
          let b : Accepts s g = subst (Tells s) e tells in
          e ∙ ap Accepted (sym b.numbers ∙ a.numbers)
      accepted h a (Refused m j) e = absurd (not_both_ways m j h (subst (Tells s) e tells) a)
