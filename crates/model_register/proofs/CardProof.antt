-- The sessions that hold a role, counted over all users.
-- Assumes nothing.
use mathlib.Core.Path.{◌≡◌, refl, sym, ap, ap₂, ◌∙◌, subst}
use mathlib.Core.Logic.{inl, inr, ◌↔◌}
use mathlib.Core.Bool.{Bool, true, false, ◌&&◌}
use mathlib.Core.List.{List, [], ◌∷◌}
use Prim.Native.Nat.{ℕ, zero, suc, ◌+◌, ◌-◌, ◌*◌, ◌<◌}
use native.Mathlib.Nat.{add-zero, add-suc, mul-zero, mul-suc, mul-le-mul_left}
use native.Mathlib.Decide.{dec_lt}
use native.Mathlib.Omega.{arith}
use lib.Dec.{eqb, leb}
use lib.ListN.{length, get_or, drop}
use borrow.Author.Tests.{eqb-true, eqb-false, eq-eqb, lt-leb, le-leb}
use Rattle.model.specs.declared.Session.{Session}
use Rattle.model.specs.Tests.{pick}
use Rattle.model.specs.Sets.{has, one, count_to, sum_to}
use Rattle.model.specs.Policy.{Policy, limited, meaning}
use Rattle.model.specs.Line.{line_size, empty_session, session_at, read_line, holding, put_in}
use Rattle.model.specs.Run.{line_at, line_of, holding_of, held_by_others, others_of}
use Rattle.model_laws.proofs.SetLaws.{count_cong}
use Rattle.model_laws.proofs.UnionLaws.{below_or_last}
use Rattle.model_laws.proofs.LineLaws.{length-read_sessions}
use Rattle.model_limits.proofs.CardProof.{sum_same, sum_split}
use Rattle.model_register.specs.Faults.{Many}
use Rattle.model_register.specs.Changes.{Put}
use Rattle.model_register.specs.Card.{HoldsAfter, put_in_lem, as_before, Holder, CardIs}
use Rattle.model_register.proofs.Decided.{Decides, many_decides, below_is_not}
use Rattle.model_register.proofs.ChangesProof.{changes_are}

-- ---- counts

count_add : (f : ℕ → Bool) (a b : ℕ) → count_to f (a + b) ≡ count_to f a + count_to (λ j. f (a + j)) b
unfolding count_to
count_add f a zero = ap (count_to f) (add-zero a) ∙ sym (add-zero (count_to f a))
count_add f a (suc b) = ap (count_to f) (add-suc a b) ∙ omega (arith, count_add f a b)

count_shift : (f : ℕ → Bool) (d : ℕ) → count_to f (suc d) ≡ one (f 0) + count_to (λ j. f (suc j)) d
unfolding count_to
count_shift f zero = refl
count_shift f (suc d) = omega (arith, count_shift f d)

-- the sessions that hold a role, by their places
holding-count : (r : ℕ) (ss : List Session) → holding r ss ≡ count_to (λ j. has (get_or ss j empty_session).active r) (length ss)
unfolding holding count_to
holding-count r [] = refl
holding-count r (s ∷ ss) =
    ap (λ (n : ℕ). one (has s.active r) + n) (holding-count r ss)
    ∙ sym (count_shift (λ j. has (get_or (s ∷ ss) j empty_session).active r) (length ss))

-- ---- pairs of a user and a session below W as one number
module _ (W : ℕ) (h : ℕ → ℕ → Bool) where
  code : ℕ → ℕ → Bool
  code zero c = false
  code (suc n) c = pick (leb (W * n) c) (h n (c - W * n)) (code n c)

  code_low : (n c : ℕ) → c < W * n → code (suc n) c ≡ code n c
  unfolding code pick
  code_low n c l = ap (λ (b : Bool). pick b (h n (c - W * n)) (code n c)) (lt-leb (W * n) c l)

  code_at : (n j : ℕ) → code (suc n) (W * n + j) ≡ h n j
  unfolding code pick
  code_at n j =
      let e : W * n + j - W * n ≡ j = omega arith in
      ap (λ (b : Bool). pick b (h n (W * n + j - W * n)) (code n (W * n + j))) (le-leb (W * n) (W * n + j) (omega arith)) ∙ ap (h n) e

  code_count : (n : ℕ) → count_to (code n) (W * n) ≡ sum_to (λ v. count_to (h v) W) n
  unfolding count_to sum_to
  code_count zero = ap (count_to (code 0)) (mul-zero W)
  code_count (suc n) =
      let e : W * suc n ≡ W * n + W = omega (arith, mul-suc W n) in
      let a = count_cong (code (suc n)) (code n) (W * n) (λ c l. code_low n c l) in
      let b = count_cong (λ j. code (suc n) (W * n + j)) (h n) W (λ j l. code_at n j) in
      ap (count_to (code (suc n))) e ∙ count_add (code (suc n)) (W * n) W ∙ omega (arith, a, b, code_count n)

  -- a pair of those below n that passes
  record Found (n c : ℕ) : Type 0 where
    pub user : ℕ
    pub session : ℕ
    pub low : user < n
    pub below : session < W
    pub number : c ≡ W * user + session
    pub passes : h user session ≡ true

  code_finds : (n c : ℕ) → c < W * n → code n c ≡ true → Found n c
  code_finds zero c l e = absurd (omega (arith, mul-zero W))
  code_finds (suc n) c l e =
      elim (dec_lt c (W * n)) [
        | yes i ↦
            let w = code_finds n c i (sym (code_low n c i) ∙ e) in
            record { user = w.user; session = w.session; low = omega (arith, w.low); below = w.below; number = w.number; passes = w.passes }
        | no i ↦
            let q : c ≡ W * n + (c - W * n) = omega arith in
            record {
              user = n;
              session = c - W * n;
              low = omega arith;
              below = omega (arith, mul-suc W n);
              number = q;
              passes = sym (code_at n (c - W * n)) ∙ ap (code (suc n)) (sym q) ∙ e;
            }
      ]

  pair_low : (n v j : ℕ) → v < n → j < W → W * v + j < W * n
  pair_low n v j l b = omega (arith, mul-suc W v, mul-le-mul_left W l)

  code_has : (n v j : ℕ) → v < n → j < W → h v j ≡ true → code n (W * v + j) ≡ true
  code_has zero v j l b e = absurd (omega arith)
  code_has (suc n) v j l b e =
      elim (below_or_last v n l) [
        | inl i ↦ code_low n (W * v + j) (pair_low n v j i b) ∙ code_has n v j i b e
        | inr i ↦ ap (λ (x : ℕ). code (suc n) (W * x + j)) i ∙ code_at n j ∙ ap (λ (x : ℕ). h x j) (sym i) ∙ e
      ]

-- ---- the sessions of all users once a set is put in
module _ (W : ℕ) (p : Policy) (ledger : List ℕ) (u k s : ℕ) (low : u < p.head.users) (open_k : k < W) (r : ℕ) where
  abbrev users : ℕ
  users = p.head.users

  abbrev active : ℕ → ℕ → Bool
  active v j = has (session_at (line_of W ledger v) j).active r

  abbrev holds : ℕ → ℕ → Bool
  holds v j = pick (eqb v u && eqb j k) (has s r) (active v j)

  sessions_of : (v : ℕ) → length (line_of W ledger v).sessions ≡ W
  unfolding line_of read_line
  sessions_of v = length-read_sessions W (drop 16 (line_at (line_size W) v ledger))

  holds_is : (v j : ℕ) → (holds v j ≡ true) ↔ HoldsAfter W ledger u k s r v j
  unfolding pick
  holds_is v j = go (eqb v u) refl (eqb j k) refl
    where
      go : (a : Bool) → eqb v u ≡ a → (b : Bool) → eqb j k ≡ b → (pick (a && b) (has s r) (active v j) ≡ true) ↔ HoldsAfter W ledger u k s r v j
      go true e true f = (
        λ h. put_in_lem (eqb-true v u e) (eqb-true j k f) h,
        λ w. elim w [ put_in_lem a b h ↦ h | as_before n h ↦ absurd (n (eqb-true v u e, eqb-true j k f)) ],
      )
      go true e false f = (
        λ h. as_before (λ q. eqb-false j k f q.1) h,
        λ w. elim w [ put_in_lem a b h ↦ absurd (eqb-false j k f b) | as_before n h ↦ h ],
      )
      go false e b f = (
        λ h. as_before (λ q. eqb-false v u e q.0) h,
        λ w. elim w [ put_in_lem a c h ↦ absurd (eqb-false v u e a) | as_before n h ↦ h ],
      )

  -- another user's sessions are as they were
  other : (v : ℕ) → eqb v u ≡ false → count_to (holds v) W ≡ holding_of W ledger r v
  unfolding holding_of session_at pick
  other v e =
      count_cong (holds v) (active v) W (λ j l. ap (λ (b : Bool). pick (b && eqb j k) (has s r) (active v j)) e)
      ∙ sym (holding-count r (line_of W ledger v).sessions ∙ ap (count_to (active v)) (sessions_of v))

  put : Put k s (line_of W ledger u) (put_in k s (line_of W ledger u))
  put = (changes_are k (line_of W ledger u)).puts (rw (sessions_of u) open_k) s

  -- the user's own have the set at session k
  own : count_to (holds u) W ≡ holding r (put_in k s (line_of W ledger u)).sessions
  unfolding session_at pick
  own =
      let m = put_in k s (line_of W ledger u) in
      count_cong (holds u) (λ j. has (session_at m j).active r) W (λ j l. at j (eqb j k) refl)
      ∙ sym (holding-count r m.sessions ∙ ap (count_to (λ j. has (session_at m j).active r)) (put.beside.size ∙ sessions_of u))
    where
      at : (j : ℕ) (b : Bool) → eqb j k ≡ b
          → pick (eqb u u && eqb j k) (has s r) (active u j) ≡ has (session_at (put_in k s (line_of W ledger u)) j).active r
      at j b f =
          ap₂ (λ (x y : Bool). pick (x && y) (has s r) (active u j)) (eq-eqb u u refl) f ∙ go b f
        where
          go : (b : Bool) → eqb j k ≡ b → pick (true && b) (has s r) (active u j) ≡ has (session_at (put_in k s (line_of W ledger u)) j).active r
          go true f =
              ap (λ (t : ℕ). has t r) (sym put.active)
              ∙ ap (λ (i : ℕ). has (session_at (put_in k s (line_of W ledger u)) i).active r) (sym (eqb-true j k f))
          go false f = ap (λ (t : Session). has t.active r) (sym (put.beside.others j (eqb-false j k f)))

  total : count_to (code W holds users) (W * users) ≡ holding r (put_in k s (line_of W ledger u)).sessions + held_by_others W p u ledger r
  unfolding held_by_others pick
  total =
      code_count W holds users ∙ sum_split (λ v. count_to (holds v) W) u users low
      ∙ ap₂ (λ (a b : ℕ). a + b) own (sum_same _ _ users (λ v. go v (eqb v u) refl))
    where
      go : (v : ℕ) (b : Bool) → eqb v u ≡ b → pick (eqb v u) 0 (count_to (holds v) W) ≡ pick (eqb v u) 0 (holding_of W ledger r v)
      go v true e = ap (λ (b : Bool). pick b 0 (count_to (holds v) W)) e ∙ sym (ap (λ (b : Bool). pick b 0 (holding_of W ledger r v)) e)
      go v false e = ap (pick (eqb v u) 0) (other v e)

  many : (t : ℕ) → Decides (leb t (count_to (code W holds users) (W * users))) (Many t (Holder W users ledger u k s r))
  many t =
      many_decides (code W holds users) (W * users) t
      (λ c w. (
        subst (λ (x : ℕ). x < W * users) (sym w.number) (pair_low W holds users w.user w.session w.has_line w.below),
        ap (code W holds users) w.number
            ∙ code_has W holds users w.user w.session w.has_line w.below ((holds_is w.user w.session).1 w.holds),
      ))
      (λ c l e.
      let w = code_finds W holds users c l e in
      record {
        user = w.user;
        session = w.session;
        has_line = w.low;
        below = w.below;
        number = w.number;
        holds = (holds_is w.user w.session).0 w.passes;
      })

  pub fewer : (t : ℕ)
      → (held_by_others W p u ledger r + holding r (put_in k s (line_of W ledger u)).sessions < t) ↔ (¬ Many t (Holder W users ledger u k s r))
  fewer t =
      let w = below_is_not t (count_to (code W holds users) (W * users)) (many t) in
      (λ l. w.0 (omega (arith, total, l)), λ n. omega (arith, total, w.1 n))

pub card_is : (W : ℕ) (p : Policy) (ledger : List ℕ) (u k s : ℕ) → u < p.head.users → k < W → CardIs W p ledger u k s
unfolding meaning others_of pick
card_is W p ledger u k s low open_k = (
  λ c r e t. (fewer W p ledger u k s low open_k r (get_or p.limits r 0)).0
      (subst (λ (n : ℕ). n + holding r (put_in k s (line_of W ledger u)).sessions < get_or p.limits r 0) (held r t) (c r e t)),
  λ f r e t. subst (λ (n : ℕ). n + holding r (put_in k s (line_of W ledger u)).sessions < get_or p.limits r 0) (sym (held r t))
      ((fewer W p ledger u k s low open_k r (get_or p.limits r 0)).1 (f r e t)),
)
  where
    held : (r : ℕ) → limited p.limits r ≡ true → (others_of W p u ledger).held r ≡ held_by_others W p u ledger r
    held r t = ap (λ (b : Bool). pick b (held_by_others W p u ledger r) 0) t
