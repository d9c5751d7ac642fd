-- Reading a word and writing it are inverse, kind by kind.
-- Assumes nothing.
use mathlib.Core.Path.{◌≡◌, refl, sym, ap, ◌∙◌, subst}
use mathlib.Core.Logic.{inl, inr}
use mathlib.Core.Bool.{Bool, true, false, ◌&&◌}
use mathlib.Core.List.{List, [], ◌∷◌}
use Prim.Native.Nat.{ℕ, zero, suc, ◌+◌, ◌-◌, ◌*◌, ◌/◌, ◌%◌, ◌^◌, ◌<◌}
use native.Mathlib.Nat.{mod-lt}
use native.Mathlib.Omega.{arith}
use lib.Dec.{eqb, leb, ltb}
use lib.ListN.{get_or}
use lib.Pow.{pow_pos, split, mod-pow-add, are_bytes}
use borrow.Author.Tests.{ltb-true, eqb-true, eqb-false, eq-eqb, ne_eqb, le-leb, leb-true, leb-false}
use Rattle.model.specs.declared.Head.{Head}
use Rattle.model.specs.declared.Kind.{Kind}
use Rattle.model.specs.declared.Word.{Word}
use Rattle.model.specs.declared.Entry.{Entry}
use Rattle.model.specs.declared.Entry.TheVariants.{Assignment, Grant, Senior, Exclude, Member, Limit, End, Unknown}
use Rattle.model.specs.Tests.{pick, between}
use Rattle.model.specs.Image.{word_at, field, is_kind, user, role, permission, kind_of, says, decode, head_of, head_right}
use Rattle.model.specs.Words.{head_word, assign_word, grant_word, senior_word, exclusion_word, member_word, limit_word, end_word}
use Rattle.model.specs.Policy.{kind_number}
use Rattle.model.specs.Ranges.{OneTo}
use Rattle.model_laws.proofs.Bools.{and_l, and_r, both, pick-case}
use Rattle.model_laws.proofs.SortedLaws.{kind_of_lem, kind_number_lem, kind_below}
use Rattle.model_laws.proofs.Accepted.{one_to}
use Rattle.model_register.specs.Entries.{Fits, IsWord, IsHead, WordIs, WordsAre}

-- four fields, from the highest, and nothing behind them
joined : (w h i j l k a b c p q r t : ℕ) → w ≡ k * 2 ^ h + p → p ≡ a * 2 ^ i + q → q ≡ b * 2 ^ j + r → r ≡ c * 2 ^ l + t → t ≡ 0
    → w ≡ k * 2 ^ h + a * 2 ^ i + b * 2 ^ j + c * 2 ^ l
joined w h i j l k a b c p q r t d e f g z = omega arith

-- ---- from a word to what it says

narrow : (w a b : ℕ) → field w a b < 2 ^ b
narrow w a b = mod-lt (w / 2 ^ a) (pow_pos b)

-- the fields fit
pub fits : (w : ℕ) → Fits (decode w).entry
unfolding decode
fits w =
    let F : Word → Type 0 = λ x. Fits x.entry in
    pick-case F (is_kind w 2) _ _ (λ _. (narrow w 22 6, narrow w 16 6))
    (λ _. pick-case F (is_kind w 3) _ _ (λ _. (narrow w 22 6, narrow w 14 8))
    (λ _. pick-case F (is_kind w 4) _ _ (λ _. (narrow w 22 6, narrow w 16 6))
    (λ _. pick-case F (is_kind w 5) _ _ (λ _. (narrow w 19 7, narrow w 12 7, refl))
    (λ _. pick-case F (is_kind w 6) _ _ (λ _. narrow w 22 6)
    (λ _. pick-case F (is_kind w 7) _ _ (λ _. (narrow w 22 6, narrow w 13 9)) (λ _. pick-case F (is_kind w 15) _ _ (λ _. tt) (λ _. tt)))))))

-- what is read, without spare bits, is written back as the word
abbrev Reads : ℕ → Word → Type 0
Reads w x = x.spare ≡ 0 → IsWord w x.entry

module _ (w : ℕ) (low : w < 2 ^ 32) where
  of : (k : ℕ) → is_kind w k ≡ true → w / 2 ^ 28 ≡ k
  of k e = omega (arith, eqb-true (field w 28 4) k e)

  not_of : (k : ℕ) → is_kind w k ≡ false → ¬ (w / 2 ^ 28 ≡ k)
  not_of k e f = eqb-false (field w 28 4) k e (omega arith)

  read_assignment : is_kind w 2 ≡ true → Reads w (says (Assignment (user (field w 22 6)) (role (field w 16 6))) (w % 2 ^ 16))
  unfolding assign_word
  read_assignment e = let k = of 2 e in λ z. omega arith

  read_grant : is_kind w 3 ≡ true → Reads w (says (Grant (role (field w 22 6)) (permission (field w 14 8))) (w % 2 ^ 14))
  unfolding grant_word
  read_grant e = let k = of 3 e in λ z. omega arith

  read_senior : is_kind w 4 ≡ true → Reads w (says (Senior (role (field w 22 6)) (role (field w 16 6))) (w % 2 ^ 16))
  unfolding senior_word
  read_senior e = let k = of 4 e in λ z. omega arith

  read_exclusion : is_kind w 5 ≡ true
      → Reads w (says (Exclude (record { kind = kind_of (field w 26 2); n = field w 19 7; members = 0 }) (field w 12 7)) (w % 2 ^ 12))
  unfolding exclusion_word
  read_exclusion e =
      let k = of 5 e in
      let q = kind_number_lem (field w 26 2) (narrow w 26 2) in
      λ z. joined w 28 26 19 12 5 _ _ _ _ _ _ _ (sym (split w 28) ∙ ap (λ (n : ℕ). n * 2 ^ 28 + w % 2 ^ 28) k)
      (mod-pow-add w 2 26 ∙ ap (λ (n : ℕ). n * 2 ^ 26 + w % 2 ^ 26) (sym q)) (mod-pow-add w 7 19) (mod-pow-add w 7 12) z

  read_member : is_kind w 6 ≡ true → Reads w (says (Member (role (field w 22 6))) (w % 2 ^ 22))
  unfolding member_word
  read_member e = let k = of 6 e in λ z. omega arith

  read_limit : is_kind w 7 ≡ true → Reads w (says (Limit (role (field w 22 6)) (field w 13 9)) (w % 2 ^ 13))
  unfolding limit_word
  read_limit e = let k = of 7 e in λ z. omega arith

  read_end : is_kind w 15 ≡ true → Reads w (says End 0)
  unfolding end_word
  read_end e = let k = of 15 e in λ z. (2 ^ 28 - w % 2 ^ 28, omega arith)

  reads : Reads w (decode w)
  unfolding decode
  reads =
      pick-case (Reads w) (is_kind w 2) _ _ read_assignment
      (λ a. pick-case (Reads w) (is_kind w 3) _ _ read_grant
      (λ b. pick-case (Reads w) (is_kind w 4) _ _ read_senior
      (λ c. pick-case (Reads w) (is_kind w 5) _ _ read_exclusion
      (λ d. pick-case (Reads w) (is_kind w 6) _ _ read_member
      (λ e. pick-case (Reads w) (is_kind w 7) _ _ read_limit
      (λ f. pick-case (Reads w) (is_kind w 15) _ _ read_end (λ g z. none a b c d e f g)))))))
    where
      none : is_kind w 2 ≡ false → is_kind w 3 ≡ false → is_kind w 4 ≡ false → is_kind w 5 ≡ false → is_kind w 6 ≡ false → is_kind w 7 ≡ false
          → is_kind w 15 ≡ false → IsWord w Unknown
      none a b c d e f g = go (leb 8 (w / 2 ^ 28)) refl
        where
          go : (t : Bool) → leb 8 (w / 2 ^ 28) ≡ t → IsWord w Unknown
          go true q = let m = not_of 15 g in inr (leb-true 8 (w / 2 ^ 28) q, omega arith)
          go false q =
              let l = leb-false 8 (w / 2 ^ 28) q in
              inl (omega (arith, not_of 2 a, not_of 3 b, not_of 4 c, not_of 5 d, not_of 6 e, not_of 7 f))

-- ---- from an entry to its word: what is written is read back, without spare bits

-- decoding, by the number of the kind
decode_by : ℕ → ℕ → Word
decode_by k w =
    pick (eqb k 2) (says (Assignment (user (field w 22 6)) (role (field w 16 6))) (w % 2 ^ 16))
    (pick (eqb k 3) (says (Grant (role (field w 22 6)) (permission (field w 14 8))) (w % 2 ^ 14))
    (pick (eqb k 4) (says (Senior (role (field w 22 6)) (role (field w 16 6))) (w % 2 ^ 16))
    (pick (eqb k 5)
    (says (Exclude (record { kind = kind_of (field w 26 2); n = field w 19 7; members = 0 }) (field w 12 7)) (w % 2 ^ 12))
    (pick (eqb k 6) (says (Member (role (field w 22 6))) (w % 2 ^ 22))
    (pick (eqb k 7) (says (Limit (role (field w 22 6)) (field w 13 9)) (w % 2 ^ 13))
    (pick (eqb k 15) (says End 0) (says Unknown 0)))))))

decode_by_lem : (w k : ℕ) → field w 28 4 ≡ k → decode w ≡ decode_by k w
unfolding decode decode_by
decode_by_lem w k e = ap (λ (n : ℕ). decode_by n w) e

-- a word of no kind
says_nothing : (w : ℕ) → IsWord w Unknown → decode w ≡ says Unknown 0
unfolding decode pick
says_nothing w (inl l) =
    rw (
      ne_eqb (field w 28 4) 2 (λ e. omega arith),
      ne_eqb (field w 28 4) 3 (λ e. omega arith),
      ne_eqb (field w 28 4) 4 (λ e. omega arith),
      ne_eqb (field w 28 4) 5 (λ e. omega arith),
      ne_eqb (field w 28 4) 6 (λ e. omega arith),
      ne_eqb (field w 28 4) 7 (λ e. omega arith),
      ne_eqb (field w 28 4) 15 (λ e. omega arith),
    )
says_nothing w (inr l) =
    rw (
      ne_eqb (field w 28 4) 2 (λ e. omega arith),
      ne_eqb (field w 28 4) 3 (λ e. omega arith),
      ne_eqb (field w 28 4) 4 (λ e. omega arith),
      ne_eqb (field w 28 4) 5 (λ e. omega arith),
      ne_eqb (field w 28 4) 6 (λ e. omega arith),
      ne_eqb (field w 28 4) 7 (λ e. omega arith),
      ne_eqb (field w 28 4) 15 (λ e. omega arith),
    )

pub write_exclusion : (k : Kind) (n m : ℕ) → n < 2 ^ 7 → m < 2 ^ 7
    → decode (exclusion_word (kind_number k) n m) ≡ says (Exclude (record { kind = k; n = n; members = 0 }) m) 0
unfolding decode_by pick exclusion_word
write_exclusion k n m a b =
    let w = exclusion_word (kind_number k) n m in
    let c = kind_below k in
    let t : field w 28 4 ≡ 5 = omega arith in
    let v : field w 26 2 ≡ kind_number k = omega arith in
    let x : field w 19 7 ≡ n = omega arith in
    let y : field w 12 7 ≡ m = omega arith in
    let z : w % 2 ^ 12 ≡ 0 = omega arith in
    let q : kind_of (field w 26 2) ≡ k = ap kind_of v ∙ kind_of_lem k in
    decode_by_lem w 5 t ∙ (λ i. says (Exclude (record { kind = q i; n = x i; members = 0 }) (y i)) (z i))

pub writes : (w : ℕ) (e : Entry) → Fits e → IsWord w e → decode w ≡ says e 0
unfolding decode_by pick assign_word grant_word senior_word member_word limit_word end_word
writes w (Assignment u r) (a, b) q =
    let k : field w 28 4 ≡ 2 = omega arith in
    let x : field w 22 6 ≡ u.0 = omega arith in
    let y : field w 16 6 ≡ r.0 = omega arith in
    let z : w % 2 ^ 16 ≡ 0 = omega arith in
    decode_by_lem w 2 k ∙ (λ i. says (Assignment (user (x i)) (role (y i))) (z i))
writes w (Grant r p) (a, b) q =
    let k : field w 28 4 ≡ 3 = omega arith in
    let x : field w 22 6 ≡ r.0 = omega arith in
    let y : field w 14 8 ≡ p.0 = omega arith in
    let z : w % 2 ^ 14 ≡ 0 = omega arith in
    decode_by_lem w 3 k ∙ (λ i. says (Grant (role (x i)) (permission (y i))) (z i))
writes w (Senior r j) (a, b) q =
    let k : field w 28 4 ≡ 4 = omega arith in
    let x : field w 22 6 ≡ r.0 = omega arith in
    let y : field w 16 6 ≡ j.0 = omega arith in
    let z : w % 2 ^ 16 ≡ 0 = omega arith in
    decode_by_lem w 4 k ∙ (λ i. says (Senior (role (x i)) (role (y i))) (z i))
writes w (Exclude x m) (a, b, c) q =
    ap decode q ∙ write_exclusion x.kind x.n m a b
    ∙ (λ i. says (Exclude (record { kind = x.kind; n = x.n; members = sym c i }) m) 0)
writes w (Member r) a q =
    let k : field w 28 4 ≡ 6 = omega arith in
    let x : field w 22 6 ≡ r.0 = omega arith in
    let z : w % 2 ^ 22 ≡ 0 = omega arith in
    decode_by_lem w 6 k ∙ (λ i. says (Member (role (x i))) (z i))
writes w (Limit r t) (a, b) q =
    let k : field w 28 4 ≡ 7 = omega arith in
    let x : field w 22 6 ≡ r.0 = omega arith in
    let y : field w 13 9 ≡ t = omega arith in
    let z : w % 2 ^ 13 ≡ 0 = omega arith in
    decode_by_lem w 7 k ∙ (λ i. says (Limit (role (x i)) (y i)) (z i))
writes w End a (sum, q) = decode_by_lem w 15 (omega arith)
writes w Unknown a q = says_nothing w q

-- ---- the head
module _ (w : ℕ) (low : w < 2 ^ 32) where
  range_in : (n b : ℕ) → OneTo b n → between 1 n b ≡ true
  range_in n b l = both (leb 1 n) (leb n b) (le-leb 1 n l.0) (le-leb n b l.1)

  head_read : head_right w ≡ true → IsHead w (head_of w)
  unfolding head_right head_of head_word
  head_read e =
      let k = is_kind w 1 in
      let a = between 1 (field w 21 7) 64 in
      let b = between 1 (field w 14 7) 64 in
      let c = between 1 (field w 5 9) 256 in
      let d = eqb (w % 2 ^ 5) 0 in
      let f = and_l (k && a && b && c) d e in
      let g = and_l (k && a && b) c f in
      let j = and_l (k && a) b g in
      let kind = of w low 1 (and_l k a j) in
      let spare = eqb-true (w % 2 ^ 5) 0 (and_r (k && a && b && c) d e) in
      record {
        users = one_to (field w 21 7) 64 (and_r k a j);
        roles = one_to (field w 14 7) 64 (and_r (k && a) b g);
        permissions = one_to (field w 5 9) 256 (and_r (k && a && b) c f);
        word =
            joined w 28 21 14 5 1 _ _ _ _ _ _ _ (sym (split w 28) ∙ ap (λ (n : ℕ). n * 2 ^ 28 + w % 2 ^ 28) kind)
            (mod-pow-add w 7 21) (mod-pow-add w 7 14) (mod-pow-add w 9 5) spare;
      }

  pub head_written : (h : Head) → IsHead w h → (head_right w ≡ true) × (head_of w ≡ h)
  unfolding head_right head_of head_word
  head_written h q =
      let e = q.word in
      let u = q.users in
      let r = q.roles in
      let p = q.permissions in
      let k : field w 28 4 ≡ 1 = omega arith in
      let x : field w 21 7 ≡ h.users = omega arith in
      let y : field w 14 7 ≡ h.roles = omega arith in
      let z : field w 5 9 ≡ h.permissions = omega arith in
      let s : w % 2 ^ 5 ≡ 0 = omega arith in (
        both _ _ (both _ _ (both _ _ (both _ _ (eq-eqb (field w 28 4) 1 k) (range_in (field w 21 7) 64 (subst (OneTo 64) (sym x) u)))
            (range_in (field w 14 7) 64 (subst (OneTo 64) (sym y) r))) (range_in (field w 5 9) 256 (subst (OneTo 256) (sym z) p))) (eq-eqb (w % 2 ^ 5) 0 s),
        λ i. record { users = x i; roles = y i; permissions = z i },
      )

-- ---- the whole
word-is : (w : ℕ) → w < 2 ^ 32 → WordIs w
word-is w low =
    record {
      entry = λ e f. (
        λ (q, z). subst (IsWord w) q (reads w low z),
        λ q. let d = writes w e f q in (ap (λ (x : Word). x.entry) d, ap (λ (x : Word). x.spare) d),
      );
      fits = fits w;
      head = λ h. (λ (r, q). subst (IsHead w) q (head_read w low r), head_written w low h);
    }

-- a byte of a list of bytes, or none
pub byte_low : (s : List ℕ) → are_bytes s ≡ true → (i : ℕ) → get_or s i 0 < 256
byte_low [] e i = omega arith
byte_low (b ∷ s) e zero = ltb-true b 256 (and_l (ltb b 256) (are_bytes s) e)
byte_low (b ∷ s) e (suc i) = byte_low s (and_r (ltb b 256) (are_bytes s) e) i

pub word_low : (s : List ℕ) → are_bytes s ≡ true → (k : ℕ) → word_at s k < 2 ^ 32
unfolding word_at
word_low s e k =
    omega (arith, byte_low s e (4 * k), byte_low s e (4 * k + 1), byte_low s e (4 * k + 2), byte_low s e (4 * k + 3))

pub words_are : WordsAre
words_are = record { words = word-is; in_bytes = λ s e k. word-is (word_at s k) (word_low s e k) }
