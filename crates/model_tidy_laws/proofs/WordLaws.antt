-- The words of a tidy image decoded, and its bytes read as words.
-- Assumes nothing.
use mathlib.Core.Path.{◌≡◌, refl, sym, ap, ap₂, ◌∙◌}
use mathlib.Core.Bool.{true}
use mathlib.Core.List.{List, [], ◌∷◌, ◌++◌}
use Prim.Native.Nat.{ℕ, zero, suc, ◌+◌, ◌-◌, ◌*◌, ◌/◌, ◌^◌, ◌<◌}
use native.Mathlib.Numerals.{add-one}
use native.Mathlib.Omega.{arith}
use lib.ListN.{get_or, length}
use lib.Seq.{get_or-append-add}
use Rattle.model.specs.declared.Head.{Head}
use Rattle.model.specs.declared.Kind.{Kind}
use Rattle.model.specs.declared.Entry.TheVariants.{Assignment, Grant, Senior, Exclude, Member, End, Limit}
use Rattle.model.specs.Bytes.{bytes_of}
use Rattle.model.specs.Image.{word_at, behind_head, user, role, permission, says, decode, head_of, head_right}
use Rattle.model.specs.Words.{head_word, assign_word, grant_word, senior_word, exclusion_word, member_word, end_word, image_bytes, limit_word}
use Rattle.model.specs.Policy.{kind_number}
use Rattle.model.specs.Ranges.{Each, OneTo}
use Rattle.model.specs.OwnWords.{words_from}
use Rattle.model_register.proofs.EntriesProof.{writes, write_exclusion, head_written}
use Rattle.model_tidy.specs.Groups.{words_behind}

-- ---- what is written for an entry is read back
module _ (u r : ℕ) (a : u < 64) (b : r < 64) where
  pub decode_assignment : decode (assign_word u r) ≡ says (Assignment (user u) (role r)) 0
  decode_assignment = writes (assign_word u r) (Assignment (user u) (role r)) (a, b) refl

  pub decode_senior : decode (senior_word u r) ≡ says (Senior (role u) (role r)) 0
  decode_senior = writes (senior_word u r) (Senior (role u) (role r)) (a, b) refl

pub decode_grant : (r p : ℕ) → r < 64 → p < 256 → decode (grant_word r p) ≡ says (Grant (role r) (permission p)) 0
decode_grant r p a b = writes (grant_word r p) (Grant (role r) (permission p)) (a, b) refl

pub decode-exclusion : (k : Kind) (n m : ℕ) → n < 128 → m < 128
    → decode (exclusion_word (kind_number k) n m) ≡ says (Exclude (record { kind = k; n = n; members = 0 }) m) 0
decode-exclusion k n m a b = write_exclusion k n m a b

pub decode_limit : (r t : ℕ) → r < 64 → t < 512 → decode (limit_word r t) ≡ says (Limit (role r) t) 0
decode_limit r t a b = writes (limit_word r t) (Limit (role r) t) (a, b) refl

pub decode_member : (r : ℕ) → r < 64 → decode (member_word r) ≡ says (Member (role r)) 0
decode_member r a = writes (member_word r) (Member (role r)) a refl

pub decode_end : (sum : ℕ) → decode (end_word sum) ≡ says End 0
decode_end sum = writes (end_word sum) End tt (sum, refl)

-- ---- the head word
module _ (h : Head) (u : OneTo 64 h.users) (r : OneTo 64 h.roles) (p : OneTo 256 h.permissions) where
  written : (head_right (head_word h.users h.roles h.permissions) ≡ true) × (head_of (head_word h.users h.roles h.permissions) ≡ h)
  written = head_written _ low h (record { users = u; roles = r; permissions = p; word = refl })
    where
      low : head_word h.users h.roles h.permissions < 2 ^ 32
      low = unfold head_word in omega arith

  pub head_back : head_of (head_word h.users h.roles h.permissions) ≡ h
  head_back = written.1

  pub head_right_lem : head_right (head_word h.users h.roles h.permissions) ≡ true
  head_right_lem = written.0

-- ---- bytes as words
pub bytes_length : (ws : List ℕ) → length (image_bytes ws) ≡ 4 * length ws
unfolding image_bytes bytes_of
bytes_length [] = refl
bytes_length (w ∷ ws) = let e = bytes_length ws in omega arith

first_word : (w : ℕ) (bs : List ℕ) → w < 2 ^ 32 → word_at (bytes_of 4 w ++ bs) 0 ≡ w
unfolding word_at bytes_of
first_word w bs l = omega arith

-- the words behind it
next_word : (w : ℕ) (bs : List ℕ) (place : ℕ) → word_at (bytes_of 4 w ++ bs) (suc place) ≡ word_at bs place
unfolding word_at bytes_of
next_word w bs place =
    let b = bytes_of 4 w in
    let at : (i j : ℕ) → i ≡ 4 + j → get_or (b ++ bs) i 0 ≡ get_or bs j 0 =
    λ i j e. ap (λ (n : ℕ). get_or (b ++ bs) n 0) e ∙ get_or-append-add b bs j 0 in
    λ i.
    at (4 * suc place) (4 * place) (omega arith) i
    + 256 * (at (4 * suc place + 1) (4 * place + 1) (omega arith) i
    + 256 * (at (4 * suc place + 2) (4 * place + 2) (omega arith) i + 256 * at (4 * suc place + 3) (4 * place + 3) (omega arith) i))

-- n words from a place on, past the first word
pub words-next : (w : ℕ) (bs : List ℕ) (n place : ℕ) → words_from (bytes_of 4 w ++ bs) n (suc place) ≡ words_from bs n place
unfolding words_from
words-next w bs zero place = refl
words-next w bs (suc n) place =
    ap₂ {C = List ℕ} (λ (x : ℕ) (l : List ℕ). x ∷ l) (next_word w bs place)
    (ap (words_from (bytes_of 4 w ++ bs) n) (add-one (suc place)) ∙ words-next w bs n (suc place) ∙ sym (ap (words_from bs n) (add-one place)))

words_back : (ws : List ℕ) → Each (λ w. w < 2 ^ 32) ws → words_from (image_bytes ws) (length ws) 0 ≡ ws
unfolding words_from image_bytes
words_back [] l = refl
words_back (w ∷ ws) l =
    ap₂ {C = List ℕ} (λ (x : ℕ) (l : List ℕ). x ∷ l) (first_word w (image_bytes ws) l.0)
    (words-next w (image_bytes ws) (length ws) 0 ∙ words_back ws l.1)

module _ (w : ℕ) (ws : List ℕ) (low : w < 2 ^ 32) (rest : Each (λ w. w < 2 ^ 32) ws) where
  pub head_read : word_at (image_bytes (w ∷ ws)) 0 ≡ w
  unfolding image_bytes
  head_read = first_word w (image_bytes ws) low

  pub behind_read : words_behind (image_bytes (w ∷ ws)) ≡ ws
  unfolding words_behind behind_head image_bytes
  behind_read =
      let n : length (image_bytes (w ∷ ws)) / 4 - 1 ≡ length ws = omega (arith, bytes_length (w ∷ ws)) in
      ap (λ (k : ℕ). words_from (image_bytes (w ∷ ws)) k 1) n ∙ words-next w (image_bytes ws) (length ws) 0 ∙ words_back ws rest
