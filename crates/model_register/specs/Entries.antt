-- A word and what it says: each kind's fields, widths and spare bits are said twice, once where a word is read
-- (specs/Image.antt of the model) and once where it is written (specs/Words.antt there), and the two are the same.
-- Assumes nothing.
use Rattle.std.specs.Prelude.{◌≡◌, ◌⊎◌, ◌↔◌, true, List, ℕ, ◌/◌, ◌^◌, ◌≤◌, ◌<◌}
use Rattle.std.proofs.Math.Pow.{are_bytes}
use Rattle.model.specs.declared.Head.{Head}
use Rattle.model.specs.declared.Entry.{Entry}
use Rattle.model.specs.declared.Entry.TheVariants.{Assignment, Grant, Senior, Exclude, Member, Limit, End, Unknown}
use Rattle.model.specs.Image.{word_at, decode, head_of, head_right}
use Rattle.model.specs.Words.{head_word, assign_word, grant_word, senior_word, exclusion_word, member_word, limit_word, end_word}
use Rattle.model.specs.Policy.{kind_number}
use Rattle.model.specs.Ranges.{OneTo}

-- the fields of an entry fit their widths: 6 bits for a user and a role, 8 for a permission, 7 for n and m, 9 for t; an
-- exclusion word has no member yet
abbrev pub Fits : Entry → Type 0
Fits (Assignment u r) = (u.0 < 2 ^ 6) × (r.0 < 2 ^ 6)
Fits (Grant r p) = (r.0 < 2 ^ 6) × (p.0 < 2 ^ 8)
Fits (Senior a b) = (a.0 < 2 ^ 6) × (b.0 < 2 ^ 6)
Fits (Exclude x m) = (x.n < 2 ^ 7) × (m < 2 ^ 7) × (x.members ≡ 0)
Fits (Member r) = r.0 < 2 ^ 6
Fits (Limit r t) = (r.0 < 2 ^ 6) × (t < 2 ^ 9)
Fits End = Unit {0}
Fits Unknown = Unit {0}

-- w is the word that is written for the entry; an end word is one for some sum, and the kinds 0, 1 and 8 to 14 say
-- nothing
abbrev pub IsWord : ℕ → Entry → Type 0
IsWord w (Assignment u r) = w ≡ assign_word u.0 r.0
IsWord w (Grant r p) = w ≡ grant_word r.0 p.0
IsWord w (Senior a b) = w ≡ senior_word a.0 b.0
IsWord w (Exclude x m) = w ≡ exclusion_word (kind_number x.kind) x.n m
IsWord w (Member r) = w ≡ member_word r.0
IsWord w (Limit r t) = w ≡ limit_word r.0 t
IsWord w End = (sum : ℕ) × (w ≡ end_word sum)
IsWord w Unknown = (w / 2 ^ 28 ≤ 1) ⊎ ((8 ≤ w / 2 ^ 28) × (w / 2 ^ 28 ≤ 14))

-- w is the word that is written for a head whose numbers are in their ranges
pub record IsHead (w : ℕ) (h : Head) : Type 0 where
  pub users : OneTo 64 h.users
  pub roles : OneTo 64 h.roles
  pub permissions : OneTo 256 h.permissions
  pub word : w ≡ head_word h.users h.roles h.permissions

-- a word is read as an entry without spare bits exactly if it is the one written for the entry, and as a head exactly
-- if it is the one written for the head; whatever it is read as has fields that fit
pub record WordIs (w : ℕ) : Type 0 where
  pub entry : (e : Entry) → Fits e → (((decode w).entry ≡ e) × ((decode w).spare ≡ 0)) ↔ IsWord w e
  pub fits : Fits (decode w).entry
  pub head : (h : Head) → ((head_right w ≡ true) × (head_of w ≡ h)) ↔ IsHead w h

-- so is every 32-bit word, and so is every word of a list of bytes
pub record WordsAre : Type 0 where
  pub words : (w : ℕ) → w < 2 ^ 32 → WordIs w
  pub in_bytes : (s : List ℕ) → are_bytes s ≡ true → (k : ℕ) → WordIs (word_at s k)
