-- A line goes on by a byte that is kept, or ends at a newline.
-- Assumes nothing.
use mathlib.Core.Path.{◌≡◌, refl, sym, ap, ◌∙◌}
use mathlib.Core.Bool.{Bool, true, false, not, cond}
use mathlib.Core.List.{List, [], ◌∷◌, ◌++◌, append-nil, append_assoc}
use Prim.Native.Nat.{ℕ, zero, suc, ◌+◌, ◌-◌, ◌*◌, min, ◌≤◌, ◌<◌}
use native.Mathlib.Numerals.{add-one}
use native.Mathlib.Omega.{arith}
use lib.Dec.{eqb, ltb}
use lib.ListN.{length, get_or, set, take, drop, replicate, length-append, length-drop, length-replicate}
use lib.Seq.{length-take-le, take_all, get_or-take, get_or-drop, take-append-le, take-append-add, append_snoc, drop-drop, take-suc-set, drop-cons}
use borrow.Author.Tests.{lt-ltb, le-ltb, ltb-true, ltb-false, eq-eqb, ne_eqb, eqb-true, eqb-false}
use borrow.Rule.Slice.PartMut.{put_mid}
use Rattle.std.proofs.Common.{Option, Some, None}
use Rattle.std.specs.List.{position_or_len}
use Rattle.std.specs.Option.{unwrap_or}
use Rattle.std.proofs.lemmas.List.{take_min, take-append-drop}
use Rattle.std.proofs.lemmas.Slice.{take-put_mid}
use Rattle.std.proofs.lemmas.List.Sums.{prefix_len-le-length, fails_before_first, passes_at_first}
use Rattle.model.specs.declared.Head.{Head}
use Rattle.model.specs.declared.Checked.{Checked}
use Rattle.model.specs.declared.Checked.TheVariants.{Accepted, Refused}
use Rattle.model.specs.Judgement.{judge}
use Rattle.model.specs.Line.{SESSIONS, line_size}
use Rattle.model_laws.proofs.Judgements.{accepted-head, accepted_in_range}
use Rattle.model_script.specs.Script.{first_ledger}
use Rattle.script_input.specs.Kept.{keeping, last_line, lines_from}
use Rattle.script_input.specs.Buffers.{keeping_all, Gathers}

-- ---- bytes kept

-- a line of fewer than 174 bytes gets it, a longer one stays as it is
pub keeping-one : (line : List ℕ) (c : ℕ) → length line < 174 → keeping line c ≡ line ++ (c ∷ [])
unfolding keeping
keeping-one line c h = rw (lt-ltb (length line) 174 h, keeping)

pub keeping_none : (line : List ℕ) (c : ℕ) → 174 ≤ length line → keeping line c ≡ line
unfolding keeping
keeping_none line c h = rw (le-ltb (length line) 174 h, keeping)

-- the same in the first bytes of a buffer
pub kept_one : (l : List ℕ) (k c : ℕ) → length l ≡ 174 → k < 174 → take (k + 1) (set l k c) ≡ keeping (take k l) c
kept_one l k c e h =
    let n : length (take k l) ≡ k = length-take-le k l (omega arith) in
    rw (add-one k) (take-suc-set l k c (omega arith)) ∙ sym (keeping-one (take k l) c (omega arith))

pub kept_none : (l : List ℕ) (k c : ℕ) → length l ≡ 174 → k ≤ 174 → 174 ≤ k → take k l ≡ keeping (take k l) c
kept_none l k c e m h =
    let n : length (take k l) ≡ k = length-take-le k l (omega arith) in
    sym (keeping_none (take k l) c (omega arith))

-- bytes that are kept one after the other are the first 174 of the longer line
keeping_more : (line : List ℕ) (c : ℕ) (cs : List ℕ) → take 174 (keeping line c ++ cs) ≡ take 174 (line ++ (c ∷ cs))
keeping_more line c cs = go (ltb (length line) 174) refl
  where
    go : (b : Bool) → ltb (length line) 174 ≡ b → take 174 (keeping line c ++ cs) ≡ take 174 (line ++ (c ∷ cs))
    go true e = ap (take 174) (ap (λ x. x ++ cs) (keeping-one line c (ltb-true _ _ e)) ∙ append_snoc line c cs)
    go false e =
        let h : 174 ≤ length line = ltb-false _ _ e in
        ap (λ x. take 174 (x ++ cs)) (keeping_none line c h) ∙ take-append-le 174 line cs h ∙ sym (take-append-le 174 line (c ∷ cs) h)

keeping-most : (line : List ℕ) (c : ℕ) → length line ≤ 174 → length (keeping line c) ≤ 174
keeping-most line c m = go (ltb (length line) 174) refl
  where
    go : (b : Bool) → ltb (length line) 174 ≡ b → length (keeping line c) ≤ 174
    go true e =
        let h : length line < 174 = ltb-true _ _ e in
        rw (keeping-one line c h) (omega (arith, length-append line (c ∷ [])))
    go false e = rw (keeping_none line c (ltb-false _ _ e)) m

keeping_first : (line cs : List ℕ) → length line ≤ 174 → keeping_all line cs ≡ take 174 (line ++ cs)
unfolding keeping_all
keeping_first line [] m = sym (ap (take 174) (append-nil line) ∙ take_all 174 line m)
keeping_first line (c ∷ cs) m = keeping_first (keeping line c) cs (keeping-most line c m) ∙ keeping_more line c cs

-- of them only as many have room as are missing at the 174
room : (line cs : List ℕ) (n : ℕ) → length line ≤ 174 → n ≡ min (length cs) (174 - length line) → take 174 (line ++ cs) ≡ line ++ take n cs
room line cs n m e =
    let t : 174 ≡ length line + (174 - length line) = omega arith in
    let f : n ≡ min (174 - length line) (length cs) = omega (arith, e) in
    ap (λ x. take x (line ++ cs)) t ∙ take-append-add line cs (174 - length line)
    ∙ ap (λ x. line ++ x) (sym (ap (λ x. take x cs) f ∙ take_min (174 - length line) cs))

-- the same in the first bytes of a buffer: as many as there is room for are written
pub kept_all : (l : List ℕ) (k n : ℕ) (bytes part : List ℕ) → length l ≡ 174 → k ≤ 174 → n ≡ min (length bytes) (174 - k)
    → part ≡ take n bytes → take (k + n) (put_mid k (k + n - k) l part) ≡ keeping_all (take k l) bytes
kept_all l k n bytes part e m h p =
    let f : length (take k l) ≡ k = length-take-le k l (omega arith) in
    let r : length part ≡ n = ap length p ∙ length-take-le n bytes (omega (arith, h)) in
    take-put_mid k (k + n - k) l part (k + n) (omega (arith, r)) (omega arith)
    ∙ ap (λ x. take k l ++ x) p
    ∙ sym (keeping_first (take k l) bytes (omega (arith, f)) ∙ room (take k l) bytes n (omega (arith, f)) (rw f h))

-- ---- a byte of a chunk

abbrev pub is_newline : ℕ → Bool
is_newline c = eqb c 10

-- a newline ends the line, any other byte makes it longer
pub by_newline : (line : List ℕ) (c : ℕ) (cs : List ℕ) → c ≡ 10 → lines_from line (c ∷ cs) ≡ line ∷ lines_from [] cs
unfolding lines_from
by_newline line c cs e = rw (eq-eqb c 10 e, lines_from)

pub by_other : (line : List ℕ) (c : ℕ) (cs : List ℕ) → (c ≡ 10 → ⊥) → lines_from line (c ∷ cs) ≡ lines_from (keeping line c) cs
unfolding lines_from
by_other line c cs d = rw (ne_eqb c 10 d, lines_from)

-- bytes of which none is a newline are kept
lines_kept : (line cs more : List ℕ) → ((k : ℕ) → k < length cs → get_or cs k 0 ≡ 10 → ⊥)
    → lines_from line (cs ++ more) ≡ lines_from (keeping_all line cs) more
unfolding keeping_all
lines_kept line [] more d = refl
lines_kept line (c ∷ cs) more d =
    by_other line c (cs ++ more) (d 0 (omega arith)) ∙ lines_kept (keeping line c) cs more (λ k h. d (suc k) (omega arith))

-- the next byte of a chunk, and what is behind it
at_byte : (chunk : List ℕ) (i : ℕ) (more : List ℕ) → i < length chunk → drop i chunk ++ more ≡ get_or chunk i 0 ∷ (drop (i + 1) chunk ++ more)
at_byte chunk i more h = rw (add-one i, drop-cons chunk i 0 h)

-- bytes that are no newline are kept
pub goes_on : (chunk : List ℕ) (i n : ℕ) (line longer : List ℕ) → n ≤ length (drop i chunk)
    → ((k : ℕ) → k < n → get_or (drop i chunk) k 0 ≡ 10 → ⊥) → longer ≡ keeping_all line (take n (drop i chunk)) → (more : List ℕ)
    → lines_from line (drop i chunk ++ more) ≡ lines_from longer (drop (i + n) chunk ++ more)
goes_on chunk i n line longer h d e more =
    let rest = drop i chunk in
    let f : length (take n rest) ≡ n = length-take-le n rest h in
    ap (λ x. lines_from line (x ++ more)) (sym (take-append-drop n rest))
    ∙ ap (lines_from line) (append_assoc (take n rest) (drop n rest) more)
    ∙ lines_kept line (take n rest) (drop n rest ++ more) (λ k l. let b : k < n = omega (arith, l, f) in rw (get_or-take n rest k 0 b) (d k b))
    ∙ rw (← e, drop-drop n i chunk) refl

-- where the first newline stands, or how many bytes there are
pub newline_place : (xs : List ℕ) (n : ℕ) (r : Option ℕ)
    → r ≡ cond (ltb (position_or_len is_newline xs) (length xs)) (Some (position_or_len is_newline xs)) None → n ≡ unwrap_or r (length xs)
    → n ≡ position_or_len is_newline xs
newline_place xs n r e u = go (ltb p (length xs)) refl
  where
    p : ℕ
    p = position_or_len is_newline xs

    go : (b : Bool) → ltb p (length xs) ≡ b → n ≡ p
    go true t = u ∙ rw (e, t) refl
    go false t = u ∙ rw (e, t) (omega (arith, ltb-false _ _ t, prefix_len-le-length (λ c. not (is_newline c)) xs))

-- bytes as far as the first newline, or the end of the chunk, are gathered
pub gathered : (chunk : List ℕ) (i n : ℕ) (line longer : List ℕ) → i ≤ length chunk
    → n ≡ position_or_len is_newline (drop i chunk) → longer ≡ keeping_all line (take n (drop i chunk))
    → Gathers chunk i line longer (i + n)
gathered chunk i n line longer h e k =
    let rest = drop i chunk in
    let f : length rest ≡ length chunk - i = length-drop i chunk in
    let m : n ≤ length rest = rw e (prefix_len-le-length (λ c. not (is_newline c)) rest) in
    record {
      onward = omega arith;
      inside = omega (arith, m, f, h);
      newline = λ l.
          let b : n < length rest = omega (arith, l, f, h) in
          rw (← get_or-drop i chunk n 0) (eqb-true _ _ (rw e (passes_at_first is_newline rest 0 (rw (← e) b))));
      same = goes_on chunk i n line longer m (λ j l. eqb-false _ _ (fails_before_first is_newline rest j 0 (rw (← e) l))) k;
    }

-- a newline of a chunk ends the line
pub ends : (chunk : List ℕ) (i : ℕ) (line more : List ℕ) → i < length chunk → get_or chunk i 0 ≡ 10
    → lines_from line (drop i chunk ++ more) ≡ line ∷ lines_from [] (drop (i + 1) chunk ++ more)
ends chunk i line more h e =
    ap (lines_from line) (at_byte chunk i more h) ∙ by_newline line (get_or chunk i 0) (drop (i + 1) chunk ++ more) e

-- at the end of the input a line that is begun has a byte
pub last_none : (line : List ℕ) → length line < 1 → last_line line ≡ []
unfolding last_line
last_none [] h = refl
last_none (c ∷ cs) h = absurd (omega arith)

pub last_some : (line : List ℕ) → 0 < length line → last_line line ≡ line ∷ []
unfolding last_line
last_some [] h = absurd (omega arith)
last_some (c ∷ cs) h = refl

-- ---- the first ledger

-- none under a refused image; a line for each user under an accepted one, of whom there are at most 64
pub refused-length : (image : List ℕ) (n place : ℕ) → judge image ≡ Refused n place → 0 ≡ length (first_ledger (judge image))
unfolding first_ledger
refused-length image n place e = rw e

pub accepted_length : (image : List ℕ) (h : Head) → judge image ≡ Accepted h → line_size SESSIONS * h.users ≡ length (first_ledger (judge image))
unfolding first_ledger
accepted_length image h e = rw e (sym (length-replicate (line_size SESSIONS * h.users) 0))

pub accepted_most : (image : List ℕ) (h : Head) → judge image ≡ Accepted h → line_size SESSIONS * h.users ≤ 64 * (16 + 16 * SESSIONS)
unfolding line_size
accepted_most image h e = omega (arith, (accepted_in_range image h e).users.1, ap (λ (x : Head). x.users) (accepted-head image h e))

-- it is as many zeros as it is long
abbrev zeros : ℕ → List ℕ
zeros n = replicate n 0

zeros_taken : (k n : ℕ) → k ≤ n → take k (zeros n) ≡ zeros k
zeros_taken zero n h = refl
zeros_taken (suc k) zero h = absurd (omega arith)
zeros_taken (suc k) (suc n) h = ap (λ x. 0 ∷ x) (zeros_taken k n (omega arith))

ledger_zeros : (c : Checked) → first_ledger c ≡ zeros (length (first_ledger c))
unfolding first_ledger
ledger_zeros (Accepted h) = ap zeros (sym (length-replicate {A = ℕ} (line_size SESSIONS * h.users) 0))
ledger_zeros (Refused n place) = refl

pub first_zeros : (image : List ℕ) (k n : ℕ) → k ≡ length (first_ledger (judge image)) → k ≤ n → take k (zeros n) ≡ first_ledger (judge image)
first_zeros image k n e h = zeros_taken k n h ∙ ap zeros e ∙ sym (ledger_zeros (judge image))
