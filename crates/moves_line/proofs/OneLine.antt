-- Laws of one line: read with empty sessions behind its own, judged so, and written with zeros behind it or cut.
-- Assumes nothing.
use mathlib.Core.Path.{◌≡◌, sym, ap, ap₂, ◌∙◌, subst}
use mathlib.Core.Bool.{Bool, true, false, ◌&&◌}
use mathlib.Core.List.{List, ◌++◌}
use Prim.Native.Nat.{ℕ, suc, ◌+◌, ◌-◌, ◌*◌, ◌^◌, ◌≤◌, ◌<◌}
use native.Mathlib.Omega.{arith}
use lib.Dec.{ltb}
use lib.ListN.{length, take, drop, set, replicate, length-append, length-replicate, take-append-drop}
use lib.Seq.{drop-set-lt, drop-drop, ext_get_or, take-append-le}
use Rattle.model.specs.declared.Line.{Line}
use Rattle.model.specs.Tests.{pick}
use Rattle.model.specs.Policy.{Meaning}
use Rattle.model.specs.Line.{line_size, read_line, sound}
use Rattle.model.specs.Kept.{Antitone}
use Rattle.model.specs.Moves.{resized, padded, line_fault}
use Rattle.model_laws.proofs.Resizing.{get_d_padded, length-resized, byte_resized}
use Rattle.model_laws.proofs.Padding.{padded-sound}
use Rattle.model_laws.proofs.LineLaws.{length-read_sessions}
use Rattle.octets.specs.Splice.{splice, number_at}
use Rattle.octets.proofs.Splices.{splice-splice}

-- ---- a list filled from the front

-- what stands behind the element stored at k is as it was
pub rest_next : {A : Type 0} (n k : ℕ) (xs : List A) (x e : A) → k < n → drop k xs ≡ replicate (n - k) e
    → drop (k + 1) (set xs k x) ≡ replicate (n - (k + 1)) e
rest_next n k xs x e h inv =
    let c : n - k ≡ suc (n - (k + 1)) = omega arith in
    drop-set-lt (k + 1) xs k x (omega arith) ∙ sym (drop-drop 1 k xs) ∙ ap (drop 1) (inv ∙ ap (λ (i : ℕ). replicate i e) c)

-- the whole, by what is filled and what is not
pub filled_whole : {A : Type 0} (k : ℕ) (xs ys zs : List A) → take k xs ≡ ys → drop k xs ≡ zs → xs ≡ ys ++ zs
filled_whole k xs ys zs e f = sym (take-append-drop k xs) ∙ ap₂ (λ (a b : List _). a ++ b) e f

-- ---- why it cannot go

-- a line of F sessions, judged as the line of W that it is with empty ones behind it
module _ (F W : ℕ) (m : Meaning) (anti : Antitone m) (bs : List ℕ) (pos : 0 < F) (few : F ≤ W) (l : Line)
    (read : l ≡ padded (W - F) (read_line F bs)) where
  opened_is : l.opened ≡ (read_line F bs).opened
  unfolding padded
  opened_is = ap (λ (x : Line). x.opened) read

  some : 0 < length (read_line F bs).sessions
  unfolding read_line
  some = subst (λ (x : ℕ). 0 < x) (sym (length-read_sessions F (drop 16 bs))) pos

  -- by the two tests that code makes
  pub formed_by : {a b : Bool} → a ≡ ltb l.opened (2 ^ F) → b ≡ sound W m l → (a && b) ≡ sound F m (read_line F bs)
  formed_by e f =
      let w : F + (W - F) ≡ W = omega arith in
      sym (padded-sound F (W - F) m anti (read_line F bs) some
      ∙ sym (ap₂ (λ (x y : Bool). x && y) (e ∙ ap (λ (x : ℕ). ltb x (2 ^ F)) opened_is) (f ∙ ap₂ (λ (k : ℕ) (x : Line). sound k m x) (sym w) read)))

-- by whether it is sound, and whether its open sessions go to T
module _ (F T : ℕ) (m : Meaning) (bs : List ℕ) {formed low : Bool} {opened : ℕ} (e : formed ≡ sound F m (read_line F bs))
    (o : opened ≡ number_at bs 0) (g : low ≡ ltb opened (2 ^ T)) where
  low_by : ltb (read_line F bs).opened (2 ^ T) ≡ low
  unfolding read_line number_at
  low_by = sym (g ∙ ap (λ (x : ℕ). ltb x (2 ^ T)) o)

  pub fault11 : formed ≡ false → 11 ≡ line_fault F T m bs
  unfolding line_fault pick
  fault11 s = rw (sym e ∙ s)

  pub fault24 : formed ≡ true → low ≡ false → 24 ≡ line_fault F T m bs
  unfolding line_fault pick
  fault24 s k = rw (sym e ∙ s, low_by ∙ k)

  pub fault0 : formed ≡ true → low ≡ true → 0 ≡ line_fault F T m bs
  unfolding line_fault pick
  fault0 s k = rw (sym e ∙ s, low_by ∙ k)

-- ---- its bytes, resized

-- with zeros behind them, where there are fewer
longer_is : (W : ℕ) (bs : List ℕ) → length bs ≤ line_size W → bs ++ replicate (line_size W - length bs) 0 ≡ resized W bs
longer_is W bs h =
    let n : length (bs ++ replicate (line_size W - length bs) 0) ≡ line_size W =
    length-append bs (replicate (line_size W - length bs) 0) ∙ omega (arith, length-replicate {A = ℕ} (line_size W - length bs) 0) in
    ext_get_or 0 (bs ++ replicate (line_size W - length bs) 0) (resized W bs) (n ∙ sym (length-resized W bs))
    (λ i k. get_d_padded 0 bs (line_size W - length bs) i ∙ sym (byte_resized W bs i (omega arith)))

-- the room for a line of so many bytes, by another name of the number
pub at_room : {z size : ℕ} (u n : ℕ) → size ≡ z → z * u + z ≤ n → size * u + size ≤ n
at_room u n e h = rw e h

-- at user u's place of a ledger with lines of W sessions
module _ (W u : ℕ) (l bs after : List ℕ) (size : ℕ) (e : size ≡ line_size W) where
  -- as two runs of bytes leave them there, one behind the other
  pub longer_put : (mid : List ℕ) → size * u + size ≤ length l → length bs < size → mid ≡ splice l (size * u) bs
      → after ≡ splice mid (size * u + length bs) (replicate (size - length bs) 0) → after ≡ splice l (line_size W * u) (resized W bs)
  longer_put mid fits h first then =
      let n : line_size W ≡ size = sym e in
      then ∙ ap (λ (x : List ℕ). splice x (size * u + length bs) (replicate (size - length bs) 0)) first
      ∙ splice-splice l (size * u) bs (replicate (size - length bs) 0) (omega (arith, length-replicate {A = ℕ} (size - length bs) 0))
      ∙ ap (λ (z : ℕ). splice l (z * u) (bs ++ replicate (z - length bs) 0)) e ∙ ap (splice l (line_size W * u)) (longer_is W bs (omega arith))

  -- cut, where there are more
  pub shorter_put : size ≤ length bs → after ≡ splice l (size * u) (take (size - 0) bs) → after ≡ splice l (line_size W * u) (resized W bs)
  unfolding resized
  shorter_put h put =
      let n : size - 0 ≡ line_size W = omega (arith, e) in
      put ∙ ap₂ (λ (z k : ℕ). splice l (z * u) (take k bs)) e n
      ∙ ap (splice l (line_size W * u)) (sym (take-append-le (line_size W) bs (replicate (line_size W) 0) (omega (arith, e))))
