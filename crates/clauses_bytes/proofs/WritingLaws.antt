-- Texts stored one behind the other, and decimals.
-- Assumes nothing.
use Rattle.std.proofs.Common.{◌≡◌, ℕ, zero, suc, ◌+◌, ◌/◌, ◌%◌, ◌^◌, ◌<◌, ◌≤◌, Bool, true, false, ltb, List, [], ◌∷◌, ◌++◌, length, set, sym, refl, ap, ◌∙◌, subst, append_assoc, mod-eq_of_lt, arith, ltb-false, ltb-true, le-ltb, lt-ltb}
use lib.Seq.{set_out}
use Rattle.model.specs.Dimacs.{figure, digits_to, decimal}
use Rattle.clauses_bytes.specs.Putting.{behind, stored, Puts}

-- ---- texts one behind the other

behind-joined : (at : ℕ) (xs ys : List ℕ) → behind at (xs ++ ys) ≡ behind (behind at xs) ys
unfolding behind
behind-joined at [] ys = refl
behind-joined at (x ∷ xs) ys = behind-joined ((at + 1) % 2 ^ 64) xs ys

stored-joined : (l : List ℕ) (at : ℕ) (xs ys : List ℕ) → stored l at (xs ++ ys) ≡ stored (stored l at xs) (behind at xs) ys
unfolding behind stored
stored-joined l at [] ys = refl
stored-joined l at (x ∷ xs) ys = stored-joined (set l at x) ((at + 1) % 2 ^ 64) xs ys

pub put_nothing : (l : List ℕ) (at : ℕ) → Puts l at [] l at
unfolding behind stored
put_nothing l at = record { next-is = refl; after_is = refl }

pub joined : {l m a xs ys : List ℕ} {at n r : ℕ} → Puts l at xs m n → Puts m n ys a r → Puts l at (xs ++ ys) a r
joined {l} {m} {a} {xs} {ys} {at} {n} {r} p q =
    record {
      next-is = q.next-is ∙ rw p.next-is (sym (behind-joined at xs ys));
      after_is = q.after_is ∙ rw (p.after_is, p.next-is) (sym (stored-joined l at xs ys));
    }

-- the same, where the text is known by another name
pub puts_as : {l a xs ys : List ℕ} {at r : ℕ} → xs ≡ ys → Puts l at xs a r → Puts l at ys a r
puts_as {l} {a} {xs} {ys} {at} {r} e p = subst (λ t. Puts l at t a r) e p

-- one byte, inside and outside the buffer
pub put_in_lem : (l : List ℕ) (at b : ℕ) → at < length l → length l < 2 ^ 64 → Puts l at (b ∷ []) (set l at b) (at + 1)
unfolding behind stored
put_in_lem l at b h f = record { next-is = sym (mod-eq_of_lt (omega arith)); after_is = refl }

pub put_out : (l : List ℕ) (at b r : ℕ) → length l ≤ at → r ≡ (at + 1) % 2 ^ 64 → Puts l at (b ∷ []) l r
unfolding behind stored
put_out l at b r h e = record { next-is = e; after_is = sym (set_out l at b h) }

-- ---- decimals

digits_one : (k n : ℕ) → n < 10 → digits_to k n ≡ figure n ∷ []
unfolding digits_to
digits_one zero n h = refl
digits_one (suc k) n h = rw (lt-ltb n 10 h, digits_to)

digits_more : (k n : ℕ) → 10 ≤ n → digits_to (suc k) n ≡ digits_to k (n / 10) ++ (figure n ∷ [])
unfolding digits_to
digits_more k n h = rw (le-ltb n 10 h, digits_to)

-- enough digits are as good as more
digits_same : (k j n : ℕ) → n ≤ k → n ≤ j → digits_to k n ≡ digits_to j n
digits_same zero j n h g = digits_one zero n (omega arith) ∙ sym (digits_one j n (omega arith))
digits_same (suc k) zero n h g = digits_one (suc k) n (omega arith) ∙ sym (digits_one zero n (omega arith))
digits_same (suc k) (suc j) n h g = go (ltb n 10) refl (λ l. digits_same k j (n / 10) (omega arith) (omega arith))
  where
    go : (x : Bool) → ltb n 10 ≡ x → (n / 10 < n → digits_to k (n / 10) ≡ digits_to j (n / 10)) → digits_to (suc k) n ≡ digits_to (suc j) n
    go true e f = digits_one (suc k) n (ltb-true n 10 e) ∙ sym (digits_one (suc j) n (ltb-true n 10 e))
    go false e f =
        let l = ltb-false n 10 e in
        digits_more k n l ∙ ap (λ x. x ++ (figure n ∷ [])) (f (omega arith)) ∙ sym (digits_more j n l)

-- a number by its last digit d, and by the digits before it
pub decimal-one : (n d : ℕ) → d ≡ figure n → n < 10 → d ∷ [] ≡ decimal n
unfolding decimal
decimal-one n d e h = rw e (sym (digits_one n n h))

decimal_more : (n d : ℕ) → d ≡ figure n → 10 ≤ n → decimal (n / 10) ++ (d ∷ []) ≡ decimal n
unfolding decimal
decimal_more zero d e h = absurd (omega arith)
decimal_more (suc m) d e h =
    rw e (sym (digits_more m (suc m) h ∙ ap (λ x. x ++ (figure (suc m) ∷ [])) (digits_same m (suc m / 10) (suc m / 10) (omega arith) (omega arith))))

-- a number by its last two, three digits
pub decimal-two : (n d e : ℕ) → d ≡ figure (n / 10) → e ≡ figure n → 10 ≤ n → n < 100 → d ∷ e ∷ [] ≡ decimal n
decimal-two n d e ed ee low high =
    ap (λ (x : List ℕ). x ++ (e ∷ [])) (decimal-one (n / 10) d ed (omega arith)) ∙ decimal_more n e ee low

pub decimal_three : (n d e f : ℕ) → d ≡ figure (n / 10 / 10) → e ≡ figure (n / 10) → f ≡ figure n → 100 ≤ n → n < 1000
    → d ∷ e ∷ f ∷ [] ≡ decimal n
decimal_three n d e f ed ee ef low high =
    ap (λ (x : List ℕ). x ++ (f ∷ [])) (decimal-two (n / 10) d e ed ee (omega arith) (omega arith)) ∙ decimal_more n f ef (omega arith)

pub decimal_thousand : (n d e f : ℕ) → d ≡ figure (n / 10 / 10) → e ≡ figure (n / 10) → f ≡ figure n → 1000 ≤ n
    → decimal (n / 10 / 10 / 10) ++ (d ∷ e ∷ f ∷ []) ≡ decimal n
decimal_thousand n d e f ed ee ef low =
    sym (append_assoc (decimal (n / 10 / 10 / 10)) (d ∷ []) (e ∷ f ∷ []))
    ∙ ap (λ (x : List ℕ). x ++ (e ∷ f ∷ [])) (decimal_more (n / 10 / 10) d ed (omega arith))
    ∙ sym (append_assoc (decimal (n / 10 / 10)) (e ∷ []) (f ∷ []))
    ∙ ap (λ (x : List ℕ). x ++ (f ∷ [])) (decimal_more (n / 10) e ee (omega arith)) ∙ decimal_more n f ef (omega arith)

-- digits that are put make the number, by how many there are
pub put_one : {l a : List ℕ} {at r n d : ℕ} → Puts l at (d ∷ []) a r → d ≡ figure n → n < 10 → Puts l at (decimal n) a r
put_one {n = n} {d = d} p ed h = puts_as (decimal-one n d ed h) p

pub put_ten : {l a : List ℕ} {at r n d e : ℕ} → Puts l at (d ∷ e ∷ []) a r → d ≡ figure (n / 10) → e ≡ figure n → 10 ≤ n → n < 100
    → Puts l at (decimal n) a r
put_ten {n = n} {d = d} {e = e} p ed ee g h = puts_as (decimal-two n d e ed ee g h) p

pub put_hundred : {l a : List ℕ} {at r n d e f : ℕ} → Puts l at (d ∷ e ∷ f ∷ []) a r
    → d ≡ figure (n / 10 / 10) → e ≡ figure (n / 10) → f ≡ figure n → 100 ≤ n → n < 1000 → Puts l at (decimal n) a r
put_hundred {n = n} {d = d} {e = e} {f = f} p ed ee ef g h = puts_as (decimal_three n d e f ed ee ef g h) p

pub put_thousand : {l m a : List ℕ} {at next r n d e f : ℕ} → Puts m next (d ∷ e ∷ f ∷ []) a r → Puts l at (decimal (n / 10 / 10 / 10)) m next
    → d ≡ figure (n / 10 / 10) → e ≡ figure (n / 10) → f ≡ figure n → 1000 ≤ n → Puts l at (decimal n) a r
put_thousand {n = n} {d = d} {e = e} {f = f} q p ed ee ef g = puts_as (decimal_thousand n d e f ed ee ef g) (joined p q)

-- ---- two to six texts one behind the other, the last one first, with the whole by another name

pub put2 : {l m a xs ys t : List ℕ} {at n r : ℕ} → Puts m n ys a r → Puts l at xs m n → xs ++ ys ≡ t → Puts l at t a r
put2 q p e = puts_as e (joined p q)

pub put3 :
    {l m k a xs ys zs t : List ℕ} {at n o r : ℕ} → Puts k o zs a r → Puts m n ys k o → Puts l at xs m n → xs ++ (ys ++ zs) ≡ t → Puts l at t a r
put3 s q p e = put2 (joined q s) p e

pub put4 :
    {l m k j a xs ys zs us t : List ℕ} {at n o s r : ℕ} → Puts j s us a r → Puts k o zs j s → Puts m n ys k o → Puts l at xs m n
    → xs ++ (ys ++ (zs ++ us)) ≡ t → Puts l at t a r
put4 u s q p e = put3 (joined s u) q p e

pub put5 :
    {l m k j i a xs ys zs us vs t : List ℕ} {at n o s v r : ℕ} → Puts i v vs a r → Puts j s us i v → Puts k o zs j s → Puts m n ys k o
    → Puts l at xs m n → xs ++ (ys ++ (zs ++ (us ++ vs))) ≡ t → Puts l at t a r
put5 v u s q p e = put4 (joined u v) s q p e

pub put6 :
    {l m k j i h a xs ys zs us vs ws t : List ℕ} {at n o s v q r : ℕ} → Puts h q ws a r → Puts i v vs h q → Puts j s us i v → Puts k o zs j s
    → Puts m n ys k o → Puts l at xs m n → xs ++ (ys ++ (zs ++ (us ++ (vs ++ ws)))) ≡ t → Puts l at t a r
put6 w v u s q p e = put5 (joined v w) u s q p e

-- ---- a whole text of which the rest is still to be put

pub record Along (before : List ℕ) (at : ℕ) (whole rest after : List ℕ) (next : ℕ) : Type 0 where
  pub done : List ℕ
  pub split : done ++ rest ≡ whole
  pub puts : Puts before at done after next

pub along_starts : (l : List ℕ) (at : ℕ) (t : List ℕ) → Along l at t t l at
along_starts l at t = record { done = []; split = refl; puts = put_nothing l at }

pub along_goes :
    {l m a whole rest part more : List ℕ} {at n r : ℕ} → rest ≡ part ++ more → Along l at whole rest m n → Puts m n part a r → Along l at whole more a r
along_goes {part = part} {more = more} e s p =
    record { done = s.done ++ part; split = append_assoc s.done part more ∙ ap (λ x. s.done ++ x) (sym e) ∙ s.split; puts = joined s.puts p }

pub along_ends : {l m a whole rest : List ℕ} {at n r : ℕ} → Along l at whole rest m n → Puts m n rest a r → Puts l at whole a r
along_ends s p = put2 p s.puts s.split

-- nothing is left
pub along_done : {l a whole rest : List ℕ} {at r : ℕ} → Along l at whole rest a r → [] ≡ rest → Puts l at whole a r
along_done {a = a} {r = r} s e = along_ends s (puts_as e (put_nothing a r))
