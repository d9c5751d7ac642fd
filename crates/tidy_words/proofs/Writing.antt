-- Words written one behind another: a word's four bytes, the rest of a list written behind its start, and what the
-- bytes then are.
-- Assumes nothing.
use Rattle.std.proofs.Common.{◌≡◌, ℕ, ◌+◌, ◌*◌, ◌%◌, ◌^◌, ◌≤◌, List, [], ◌∷◌, ◌++◌, length, sym, refl, ap, ◌∙◌, append-nil, arith, length-append}
use Rattle.std.proofs.Math.Nat.{div-div-eq-div-mul}
use Rattle.std.specs.Int.{w32, to_le_bytes}
use Rattle.model.specs.Bytes.{bytes_of}
use Rattle.model.specs.Words.{sum_of, image_bytes}
use Rattle.octets.specs.Splice.{splice}
use Rattle.octets.proofs.Splices.{splice_nil, length-splice, splice-splice}
use Rattle.model_tidy_laws.proofs.WordLaws.{bytes_length}
use Rattle.tidy_words.specs.declared.words.Writer.{Writer}
use Rattle.tidy_words.specs.Buffers.{Buffer, written, put_word, puts, Puts, Room}

-- ---- one word

-- the library's bytes of a word
pub bytes_of_word : (w : ℕ) → to_le_bytes w32 w ≡ bytes_of 4 w
unfolding bytes_of
bytes_of_word w = simp div-div-eq-div-mul

-- ---- words

pub puts_append : (s : Buffer) (xs ys : List ℕ) → puts s (xs ++ ys) ≡ puts (puts s xs) ys
unfolding puts
puts_append s [] ys = refl
puts_append s (x ∷ xs) ys = puts_append (put_word s x) xs ys

pub puts_at : (s : Buffer) (ws : List ℕ) → (puts s ws).at ≡ s.at + 4 * length ws
unfolding puts put_word
puts_at s [] = omega arith
puts_at s (w ∷ ws) = let e = puts_at (put_word s w) ws in omega arith

put_length : (s : Buffer) (w : ℕ) → s.at + 4 ≤ length s.bytes → length (put_word s w).bytes ≡ length s.bytes
unfolding put_word bytes_of
put_length s w h = length-splice s.bytes s.at (bytes_of 4 w) h

pub puts-length : (s : Buffer) (ws : List ℕ) → s.at + 4 * length ws ≤ length s.bytes → length (puts s ws).bytes ≡ length s.bytes
unfolding puts put_word
puts-length s [] h = refl
puts-length s (w ∷ ws) h =
    let e = put_length s w (omega arith) in
    puts-length (put_word s w) ws (omega arith) ∙ e

-- the bytes of the words stand where they were put
pub puts_bytes : (s : Buffer) (ws : List ℕ) → s.at + 4 * length ws ≤ length s.bytes → (puts s ws).bytes ≡ splice s.bytes s.at (image_bytes ws)
unfolding puts put_word image_bytes bytes_of
puts_bytes s [] h = sym (splice_nil s.bytes s.at)
puts_bytes s (w ∷ ws) h =
    let e = put_length s w (omega arith) in
    let k = bytes_length ws in
    puts_bytes (put_word s w) ws (omega arith)
    ∙ splice-splice s.bytes s.at (bytes_of 4 w) (image_bytes ws) (omega arith)

-- their sum is kept, but for multiples of 2 to the power 32
pub puts-sum : (s : Buffer) (ws : List ℕ) → (puts s ws).sum % 2 ^ 28 ≡ (s.sum + sum_of ws) % 2 ^ 28
unfolding puts put_word sum_of
puts-sum s [] = omega arith
puts-sum s (w ∷ ws) = let e = puts-sum (put_word s w) ws in omega arith

-- ---- the rest of a list

-- a list that begins with the next words, and the words behind them
pub record Begins (rest next behind : List ℕ) : Type 0 where
  pub is : rest ≡ next ++ behind

-- so much of the whole is written from s₀ on that the rest, written from s on, makes it whole
pub record Rests (s₀ : Buffer) (whole : List ℕ) (s : Buffer) (rest : List ℕ) : Type 0 where
  pub same : puts s rest ≡ puts s₀ whole
  pub room : s.at + 4 * length rest ≤ length s.bytes
  pub size : length s.bytes ≡ length s₀.bytes

pub rests_start : (s : Buffer) (ws : List ℕ) → s.at + 4 * length ws ≤ length s.bytes → Rests s ws s ws
rests_start s ws h = record { same = refl; room = h; size = refl }

module _ {s₀ : Buffer} {whole : List ℕ} {s : Buffer} {rest : List ℕ} (r : Rests s₀ whole s rest) where
  pub rests_end : rest ≡ [] → s ≡ puts s₀ whole
  unfolding puts
  rests_end e = sym (ap (puts s) e) ∙ r.same

  -- the next words of the rest
  module _ {next rest' : List ℕ} (b : Begins rest next rest') where
    pub rests_room : s.at + 4 * length next ≤ length s.bytes
    rests_room =
        let k = ap length b.is in
        let j = length-append next rest' in
        let h = r.room in
        omega arith

    pub rests_next : {s' : Buffer} → s' ≡ puts s next → Rests s₀ whole s' rest'
    rests_next {s'} q =
        let k = ap length b.is in
        let j = length-append next rest' in
        let h = r.room in
        let a : s'.at ≡ s.at + 4 * length next = ap (λ (x : Buffer). x.at) q ∙ puts_at s next in
        let z : length s'.bytes ≡ length s.bytes = ap (λ (x : Buffer). length x.bytes) q ∙ puts-length s next rests_room in
        record {
          same = ap (λ (x : Buffer). puts x rest') q ∙ sym (puts_append s next rest') ∙ sym (ap (puts s) b.is) ∙ r.same;
          room = omega arith;
          size = z ∙ r.size;
        }

-- ---- a writer on its way

-- a writer has written so much of the whole that the rest, written next, makes it whole
pub record Goes (first : Writer) (whole : List ℕ) (now : Writer) (rest : List ℕ) : Type 0 where
  pub same_bytes : now.out.ghost_name ≡ first.out.ghost_name
  pub rests : Rests (written first) whole (written now) rest

pub goes_start : (a : Writer) (ws : List ℕ) → Room (written a) ws → Goes a ws a ws
goes_start a ws h = record { same_bytes = refl; rests = rests_start (written a) ws h }

module _ {a : Writer} {whole : List ℕ} {b : Writer} {rest : List ℕ} (g : Goes a whole b rest) where
  pub goes_end : rest ≡ [] → Puts a b whole
  goes_end e = record { same_bytes = g.same_bytes; words = rests_end g.rests e }

  -- the next words of the rest
  module _ {next behind : List ℕ} (n : Begins rest next behind) where
    pub goes_room : Room (written b) next
    goes_room = rests_room g.rests n

    pub goes_next : {c : Writer} → Puts b c next → Goes a whole c behind
    goes_next p = record { same_bytes = p.same_bytes ∙ g.same_bytes; rests = rests_next g.rests n p.words }

-- all of the rest
pub all_of : (ws : List ℕ) → Begins ws ws []
all_of ws = record { is = sym (append-nil ws) }

pub goes_last : {a : Writer} {whole : List ℕ} {b : Writer} {rest : List ℕ} → Goes a whole b rest → {c : Writer} → Puts b c rest → Puts a c whole
goes_last {a} {whole} {b} {rest} g p = goes_end (goes_next g (all_of rest) p) refl

-- ---- four runs of words, one behind another

pub record Fours (whole a b c d : List ℕ) : Type 0 where
  pub is : whole ≡ a ++ (b ++ (c ++ d))

pub first_of : {whole a b c d : List ℕ} → Fours whole a b c d → Begins whole a (b ++ (c ++ d))
first_of e = record { is = e.is }

pub next_of : (next behind : List ℕ) → Begins (next ++ behind) next behind
next_of next behind = record { is = refl }
