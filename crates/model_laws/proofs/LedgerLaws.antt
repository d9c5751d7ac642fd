-- The lines of a ledger: what a changed line does to the others, and what a call does to the lines.
-- Assumes nothing.
use mathlib.Core.Path.{◌≡◌, sym, ap, ◌∙◌}
use mathlib.Core.Logic.{◌≢◌, ◌⊎◌, inl, inr}
use mathlib.Core.Bool.{true, false, not}
use mathlib.Core.List.{List, ◌++◌, append_assoc}
use Prim.Native.Nat.{ℕ, ◌+◌, ◌-◌, ◌*◌, ◌≤◌, ◌<◌}
use native.Mathlib.Nat.{mul-suc, mul-le-mul_left}
use native.Mathlib.Omega.{arith}
use native.Mathlib.Decide.{dec_lt}
use lib.Dec.{eqb, ltb}
use lib.ListN.{length, get_or, take, drop, length-append, length-take, length-drop, take-append-drop, get_or-append}
use lib.Seq.{take_at, drop_at, drop-append-le, take-append-le, drop-append-add, drop-drop, get_or-take, get_or-drop, length-take-le}
use borrow.Author.Tests.{eqb-true, eqb-false, eq-eqb, lt-ltb, ltb-true, not-false}
use borrow.Table.Steps.{cases}
use Rattle.model.specs.Tests.{pick}
use Rattle.model.specs.declared.Head.{Head}
use Rattle.model.specs.declared.Checked.{Checked}
use Rattle.model.specs.declared.Checked.TheVariants.{Accepted, Refused}
use Rattle.model.specs.Judgement.{judge}
use Rattle.model.specs.Policy.{Policy, policy_of, meaning}
use Rattle.model.specs.Line.{line_size}
use Rattle.model.specs.Session.{refuse, Result, rule}
use Rattle.model.specs.Run.{Call, Event, line_at, with_line, told, ruled, step_on, step_by, step}
use Rattle.model_laws.proofs.Bools.{pick-case}
use Rattle.model_laws.proofs.LineLaws.{rule-length}

-- ---- z elements of a list from a on, replaced by bs
module _ {A : Type 0} (a z : ℕ) (bs l : List A) (hz : length bs ≡ z) (hl : a + z ≤ length l) where
  pub patch_length : length (take a l ++ (bs ++ drop (a + z) l)) ≡ length l
  patch_length = simp (length-append, length-take, length-drop) (omega arith)

  -- the elements put in
  patch_same : take z (drop a (take a l ++ (bs ++ drop (a + z) l))) ≡ bs
  patch_same =
      let h : length (take a l) ≡ a = length-take-le a l (omega arith) in
      rw (drop_at (take a l) (bs ++ drop (a + z) l) a h) (take_at bs (drop (a + z) l) z hz)

  -- a part that ends before the change
  window_front : (b : ℕ) (xs : List A) → b + z ≤ a → take z (drop b (take a l ++ xs)) ≡ take z (drop b (take a l))
  window_front b xs h =
      let k : length (take a l) ≡ a = length-take-le a l (omega arith) in
      rw (drop-append-le b (take a l) xs (omega arith))
      (take-append-le z (drop b (take a l)) xs (omega (arith, length-drop b (take a l))))

  -- what ends before the change stays
  patch_before : (b : ℕ) → b + z ≤ a → take z (drop b (take a l ++ (bs ++ drop (a + z) l))) ≡ take z (drop b l)
  patch_before b h =
      window_front b (bs ++ drop (a + z) l) h
      ∙ sym (window_front b (drop a l) h)
      ∙ ap (λ (x : List A). take z (drop b x)) (take-append-drop a l)

  -- all behind the change stays
  pub patch_behind : (n : ℕ) → drop (a + z + n) (take a l ++ (bs ++ drop (a + z) l)) ≡ drop (a + z + n) l
  patch_behind n =
      let k : length (take a l) ≡ a = length-take-le a l (omega arith) in
      let e : length (take a l ++ bs) ≡ a + z = simp length-append (omega arith) in
      rw (← append_assoc (take a l) bs (drop (a + z) l))
      (ap (λ (x : ℕ). drop (x + n) (take a l ++ bs ++ drop (a + z) l)) (sym e)
      ∙ drop-append-add (take a l ++ bs) (drop (a + z) l) n
      ∙ drop-drop n (a + z) l)

  -- what begins behind the change stays
  patch_after : (b : ℕ) → a + z ≤ b → take z (drop b (take a l ++ (bs ++ drop (a + z) l))) ≡ take z (drop b l)
  patch_after b h =
      let e : b ≡ a + z + (b - (a + z)) = omega arith in
      ap (λ (x : List A). take z x)
      (rw e (patch_behind (b - (a + z))))

  -- an element outside the replaced ones stays
  pub patch_outside : (i : ℕ) (d : A) → (i < a) ⊎ (a + z ≤ i) → get_or (take a l ++ (bs ++ drop (a + z) l)) i d ≡ get_or l i d
  patch_outside i d (inl h) =
      let k : length (take a l) ≡ a = length-take-le a l (omega arith) in
      get_or-append (take a l) (bs ++ drop (a + z) l) d i (omega arith) ∙ get_or-take a l i d h
  patch_outside i d (inr h) =
      let e : i ≡ a + z + 0 + (i - (a + z)) = omega arith in
      let all = take a l ++ (bs ++ drop (a + z) l) in
      rw e (sym (get_or-drop (a + z + 0) all (i - (a + z)) d) ∙ ap (λ (x : List A). get_or x (i - (a + z)) d) (patch_behind 0)
      ∙ get_or-drop (a + z + 0) l (i - (a + z)) d)

-- ---- lines of z bytes

-- u's line ends before v's begins
pub apart : (z u v : ℕ) → u < v → z * u + z ≤ z * v
apart z u v h = rw mul-suc at (mul-le-mul_left z h)

-- a line has z bytes
pub line_at-length : (z u n : ℕ) (l : List ℕ) → length l ≡ z * n → u < n → length (line_at z u l) ≡ z
unfolding line_at
line_at-length z u n l hn hu = length-take-le z (drop (z * u) l) (rw length-drop (omega (arith, apart z u n hu)))

module _ (z u n : ℕ) (bs l : List ℕ) (hz : length bs ≡ z) (hn : length l ≡ z * n) (hu : u < n) where
  -- the line lies in the ledger
  inside : z * u + z ≤ length l
  inside = rw hn (apart z u n hu)

  -- a changed line keeps the ledger's length
  pub with_line-length : length (with_line z u bs l) ≡ length l
  unfolding with_line
  with_line-length = patch_length (z * u) z bs l hz inside

  -- the changed line
  pub with_line_same : line_at z u (with_line z u bs l) ≡ bs
  unfolding with_line line_at
  with_line_same = patch_same (z * u) z bs l hz inside

  -- any other line
  pub with_line_other : (v : ℕ) → v ≢ u → line_at z v (with_line z u bs l) ≡ line_at z v l
  unfolding with_line line_at
  with_line_other v h =
      elim (dec_lt v u) [
        | yes k ↦ patch_before (z * u) z bs l hz inside (z * v) (apart z v u k)
        | no k ↦ patch_after (z * u) z bs l hz inside (z * v) (apart z u v (omega arith))
      ]

-- a line put back where it was
pub own_line : (z u : ℕ) (l : List ℕ) → with_line z u (line_at z u l) l ≡ l
unfolding with_line line_at
own_line z u l =
    ap (λ (x : List ℕ). take (z * u) l ++ (take z (drop (z * u) l) ++ x)) (sym (drop-drop z (z * u) l))
    ∙ ap (λ (x : List ℕ). take (z * u) l ++ x) (take-append-drop z (drop (z * u) l)) ∙ take-append-drop (z * u) l

-- ---- a call under a judged image: what holds of every refusal and of what the session rules give to a user with a
-- line holds of it
pub step_case : (P : Event → Type 0) (W : ℕ) (p : Policy) (l : List ℕ) (c : Call)
    → ((n x : ℕ) → P (record { reply = refuse n x; ledger = l }))
    → (length l ≡ line_size W * p.head.users → c.user < p.head.users → P (ruled W p l c)) → (v : Checked) → P (step_by W v p l c)
unfolding step_by step_on
step_case P W p l c f g (Refused n place) = f n place
step_case P W p l c f g (Accepted h) =
    pick-case P (not (eqb (length l) (line_size W * p.head.users))) _ _ (λ _. f 9 0)
    (λ a. pick-case P (not (ltb c.user p.head.users)) _ _ (λ _. f 10 0)
    (λ b. g (eqb-true _ _ (not-false _ a)) (ltb-true _ _ (not-false _ b))))

-- under an accepted image it goes by the policy
pub step_on_lem : (W : ℕ) (s : List ℕ) (h : Head) → judge s ≡ Accepted h → (l : List ℕ) (c : Call) → step W s l c ≡ step_on W (policy_of s) l c
unfolding step step_by
step_on_lem W s h e l c = ap (λ (v : Checked). step_by W v (policy_of s) l c) e

-- ---- one call under an accepted policy, on a ledger of the fitting length
module _ (W : ℕ) (p : Policy) (l : List ℕ) (hl : length l ≡ line_size W * p.head.users) (c : Call) where
  -- a user with a line: the session rules
  pub step_below : c.user < p.head.users → step_on W p l c ≡ ruled W p l c
  unfolding step_on pick
  step_below h = rw (eq-eqb (length l) (line_size W * p.head.users) hl, lt-ltb c.user p.head.users h)

  -- any other: refused, and nothing changes
  pub step-above : ltb c.user p.head.users ≡ false → (step_on W p l c).ledger ≡ l
  unfolding step_on pick
  step-above h = rw (eq-eqb (length l) (line_size W * p.head.users) hl, h)

  -- the line that the session rules leave
  pub new_length : c.user < p.head.users
      → length (rule W (meaning p c.user) (told W p l c) (line_at (line_size W) c.user l) c.operation).line ≡ line_size W
  new_length h =
      rule-length W (meaning p c.user) (told W p l c) (line_at (line_size W) c.user l) (line_at-length (line_size W) c.user p.head.users l hl h)
      c.operation

  -- the ledger's length stays
  pub step-length : length (step_on W p l c).ledger ≡ length l
  unfolding ruled
  step-length =
      cases (ltb c.user p.head.users)
      (λ e. let h : c.user < p.head.users = ltb-true _ _ e in
      rw (step_below h) (with_line-length (line_size W) c.user p.head.users _ l (new_length h) hl h))
      (λ e. rw (step-above e))

  -- the named user's answer and line
  pub step_own : (u : ℕ) → eqb c.user u ≡ true → u < p.head.users
      → ◌≡◌ {A = Result} (record { reply = (step_on W p l c).reply; line = line_at (line_size W) u (step_on W p l c).ledger })
      (rule W (meaning p u) (told W p l c) (line_at (line_size W) u l) c.operation)
  unfolding ruled
  step_own u e h =
      let q : c.user ≡ u = eqb-true c.user u e in
      let k : c.user < p.head.users = rw q h in
      let x = rule W (meaning p c.user) (told W p l c) (line_at (line_size W) c.user l) c.operation in
      rw (← q, step_below k)
      (λ i. record { reply = x.reply; line = with_line_same (line_size W) c.user p.head.users x.line l (new_length k) hl k i })

  -- anybody else's line stays
  pub step_other : (u : ℕ) → eqb c.user u ≡ false → line_at (line_size W) u (step_on W p l c).ledger ≡ line_at (line_size W) u l
  unfolding ruled
  step_other u e =
      cases (ltb c.user p.head.users)
      (λ k. let h : c.user < p.head.users = ltb-true _ _ k in
      rw (step_below h) (with_line_other (line_size W) c.user p.head.users _ l (new_length h) hl h u (λ q. eqb-false c.user u e (sym q))))
      (λ k. rw (step-above k))
