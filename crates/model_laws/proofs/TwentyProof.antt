-- An ask is refused by 20 exactly if the obstacle with its bounds is done.
-- Assumes nothing.
use mathlib.Core.Path.{◌≡◌, refl, sym, ap, ap₂, ◌∙◌, subst}
use mathlib.Core.Logic.{◌⊎◌, inl, inr, ◌↔◌}
use mathlib.Core.Bool.{Bool, true, false, ◌||◌, not}
use mathlib.Core.Option.{Option, none, some}
use mathlib.Core.List.{List, [], ◌∷◌, ◌++◌, Memᴰ}
use Prim.Native.Nat.{ℕ, ◌*◌, ◌^◌, ◌≤◌, ◌<◌}
use native.Mathlib.Nat.{lt_of_lt_of_le}
use native.Mathlib.Omega.{arith}
use lib.Dec.{eqb, ltb}
use lib.Pow.{pow_mono}
use lib.ListN.{length}
use borrow.Author.Tests.{ltb-true, le-ltb, leb-false, not-false}
use Rattle.model.specs.declared.Line.{Line}
use Rattle.model.specs.declared.Checked.{Checked}
use Rattle.model.specs.declared.Checked.TheVariants.{Accepted, Refused}
use Rattle.model.specs.Tests.{pick, first}
use Rattle.model.specs.Bytes.{number}
use Rattle.model.specs.Judgement.{judge}
use Rattle.model.specs.Policy.{Policy, policy_of, meaning}
use Rattle.model.specs.Line.{line_size, read_line}
use Rattle.model.specs.Limits.{Others}
use Rattle.model.specs.Obstacle.{Obstacle}
use Rattle.model.specs.Session.{Query, ask, obstacle, session_of, query_of, is_ask, refuse, given, tell, Refusal, bad_other, bad_line, bad_session, is_closed, bad_set, bad_permission, bad_bounds, bad_aim, bad_room, no_set, bad_pair, no_obstacle, refusal_number, can_give, chosen, obstacle_for, is_none, applies, asked, obstructed, perform, unless, rule}
use Rattle.model.specs.Run.{line_at, told, ruled, step_on, step_by, step, ask_by, obstacle_by}
use Rattle.model.specs.Ranges.{Each, InRange}
use Rattle.model.specs.Obstacles.{AsksTwenty}
use Rattle.model_laws.proofs.Bools.{and_l}
use Rattle.model_laws.proofs.Eachs.{each_mem}
use Rattle.model_laws.proofs.LineLaws.{length-read_sessions}
use Rattle.model_laws.proofs.Judgements.{judge-numbered, never_twenty, accepted_in_range}
use Rattle.model_laws.proofs.ImageNumbers.{Numbered}
use Rattle.model_laws.proofs.ObstacleProof.{unanswered, answered}

-- ---- two answers of which one is 20 where the other is 0
abbrev Turned : ℕ → ℕ → Type 0
Turned n o = ((n ≡ 20) ↔ (o ≡ 0)) × ((n ≡ 0) ↔ (o ≡ 20))

neither : (n : ℕ) → ¬ (n ≡ 20) → ¬ (n ≡ 0) → Turned n n
neither n f g = ((λ e. absurd (f e), λ e. absurd (g e)), (λ e. absurd (g e), λ e. absurd (f e)))

refused-done : Turned 20 0
refused-done = ((λ _. refl, λ _. refl), (λ e. absurd (omega arith), λ e. absurd (omega arith)))

done_refused : Turned 0 20
done_refused = ((λ e. absurd (omega arith), λ e. absurd (omega arith)), (λ _. refl, λ _. refl))

-- ---- refusals that both calls test first
module _ (f g : Refusal → Bool) (ds cs : List Refusal) where
  -- one of them applies and is given by both, or none does and what each tests behind them decides
  abbrev Fronts : List Refusal → Type 0
  Fronts rs = ((r : Refusal) × Memᴰ r rs × (first f (rs ++ ds) ≡ some r) × (first g (rs ++ cs) ≡ some r))
      ⊎ (Each (λ r. f r ≡ false) rs × (first f (rs ++ ds) ≡ first f ds) × (first g (rs ++ cs) ≡ first g cs))

  fronts : (rs : List Refusal) → Each (λ r. f r ≡ g r) rs → Fronts rs
  unfolding first
  fronts [] e = inr (tt, refl, refl)
  fronts (r ∷ rs) e = go (f r) refl (fronts rs e.1)
    where
      at : (b : Bool) → f r ≡ b → first f (r ∷ (rs ++ ds)) ≡ elim b [ true ↦ some r | false ↦ first f (rs ++ ds) ]
      at b q = ap (λ (c : Bool). let o : Option Refusal = elim c [ true ↦ some r | false ↦ first f (rs ++ ds) ] in o) q

      on : (b : Bool) → f r ≡ b → first g (r ∷ (rs ++ cs)) ≡ elim b [ true ↦ some r | false ↦ first g (rs ++ cs) ]
      on b q = ap (λ (c : Bool). let o : Option Refusal = elim c [ true ↦ some r | false ↦ first g (rs ++ cs) ] in o) (sym e.0 ∙ q)

      go : (b : Bool) → f r ≡ b → Fronts rs → Fronts (r ∷ rs)
      go true q ih = inl (r, Memᴰ.head refl, at true q, on true q)
      go false q (inl w) = inl (w.0, Memᴰ.tail w.1, at false q ∙ w.2, on false q ∙ w.3)
      go false q (inr w) = inr ((q, w.0), at false q ∙ w.1, on false q ∙ w.2)

-- those of an ask and of an obstacle: numbers 11 to 17
abbrev early : List Refusal
early = bad_other ∷ bad_line ∷ bad_session ∷ is_closed ∷ bad_set ∷ bad_permission ∷ bad_bounds ∷ []

early_numbers : Each (λ r. (¬ (refusal_number r ≡ 20)) × (¬ (refusal_number r ≡ 0))) early
unfolding refusal_number
early_numbers = (
  (λ e. omega arith, λ e. omega arith),
  (
    (λ e. omega arith, λ e. omega arith),
    (
      (λ e. omega arith, λ e. omega arith),
      (
        (λ e. omega arith, λ e. omega arith),
        (
          (λ e. omega arith, λ e. omega arith),
          (
            (λ e. omega arith, λ e. omega arith),
            ((λ e. omega arith, λ e. omega arith), tt),
          ),
        ),
      ),
    ),
  ),
)

-- ---- the session rules
module _ (W : ℕ) (p : Policy) (range : InRange p) (u : ℕ) (x : Others) (bs : List ℕ) (k : ℕ) (lower upper : List ℕ) (a b : ℕ)
    (ha : a ≤ 2) (hb : b ≤ 2) where
  abbrev line : Line
  line = read_line W bs

  abbrev asking : Query
  asking = record { lower = lower; upper = upper; permission_aim = a; role_aim = b; room = 40 }

  abbrev telling : Query
  telling = record { lower = lower; upper = upper; permission_aim = 0; role_aim = 0; room = 16 }

  abbrev f : Refusal → Bool
  f = applies W (meaning p u) x (read_line W bs) k asking

  abbrev g : Refusal → Bool
  g = applies W (meaning p u) x (read_line W bs) k telling

  -- the tests behind those of both
  ask_last : first f (bad_aim ∷ bad_room ∷ no_set ∷ [])
      ≡ elim (is_none (chosen (meaning p u) x (read_line W bs) k asking)) [ true ↦ some no_set | false ↦ none ]
  unfolding first applies
  ask_last =
      ap₂ (λ (c d : Bool). let r : Option Refusal = elim (c || d) [ true ↦ some bad_aim | false ↦ first f (bad_room ∷ no_set ∷ []) ] in r)
      (le-ltb 2 a ha) (le-ltb 2 b hb)

  tell_last : first g (bad_pair ∷ no_obstacle ∷ [])
      ≡ elim (is_none (obstacle_for (meaning p u) x (read_line W bs) k telling)) [ true ↦ some no_obstacle | false ↦ none ]
  unfolding first applies
  tell_last = refl

  -- the numbers given there
  ask_number : (c : Option ℕ)
      → (unless x (elim (is_none c) [ true ↦ some no_set | false ↦ none ]) bs (asked (meaning p u) (read_line W bs) bs k c)).reply.number
      ≡ elim (is_none c) [ true ↦ 20 | false ↦ 0 ]
  unfolding unless asked is_none refuse given refusal_number
  ask_number none = refl
  ask_number (some s) = refl

  tell-number : (o : Option Obstacle)
      → (unless x (elim (is_none o) [ true ↦ some no_obstacle | false ↦ none ]) bs (obstructed bs o)).reply.number ≡ elim (is_none o) [ true ↦ 20 | false ↦ 0 ]
  unfolding unless obstructed is_none refuse tell refusal_number
  tell-number none = refl
  tell-number (some s) = refl

  -- what the tests before them leave
  in-line : f bad_session ≡ false → k < length (read_line W bs).sessions
  unfolding applies read_line
  in-line e = subst (λ (n : ℕ). k < n) (sym (length-read_sessions W _)) (leb-false W k e)

  low : f bad_permission ≡ false → number lower < 2 ^ 256
  unfolding applies meaning
  low e =
      lt_of_lt_of_le (ltb-true (number lower) (2 ^ p.head.permissions) (and_l _ _ (not-false _ e))) (pow_mono range.permissions.1)

  turned : k < length (read_line W bs).sessions → number lower < 2 ^ 256 → (c : Option ℕ) → chosen (meaning p u) x (read_line W bs) k asking ≡ c
      → (o : Option Obstacle) → obstacle_for (meaning p u) x (read_line W bs) k telling ≡ o
      → Turned (elim (is_none c) [ true ↦ 20 | false ↦ 0 ]) (elim (is_none o) [ true ↦ 20 | false ↦ 0 ])
  unfolding chosen obstacle_for is_none
  turned h s none e none q = absurd (unanswered p range u x (read_line W bs) k (number lower) (number upper) s h a b e q)
  turned h s none e (some o) q = refused-done
  turned h s (some c) e none q = done_refused
  turned h s (some c) e (some o) q =
      let n = answered p range u x (read_line W bs) k (number lower) (number upper) s h a b c e in
      let z : ◌≡◌ {A = ℕ} 0 1 = cc in
      absurd (omega arith)

  same_early : Each (λ r. f r ≡ g r) early
  unfolding applies
  same_early = (refl, (refl, (refl, (refl, (refl, (refl, (refl, tt)))))))

  pub rule-turned : Turned (rule W (meaning p u) x bs (ask k asking)).reply.number (rule W (meaning p u) x bs (obstacle k lower upper 16)).reply.number
  unfolding rule can_give session_of query_of perform unless refuse
  rule-turned = go (fronts f g (bad_aim ∷ bad_room ∷ no_set ∷ []) (bad_pair ∷ no_obstacle ∷ []) early same_early)
    where
      c : Option ℕ
      c = chosen (meaning p u) x (read_line W bs) k (record { lower = lower; upper = upper; permission_aim = a; role_aim = b; room = 40 })

      o : Option Obstacle
      o = obstacle_for (meaning p u) x (read_line W bs) k (record { lower = lower; upper = upper; permission_aim = 0; role_aim = 0; room = 16 })

      ask_of : Option Refusal → ℕ
      ask_of r = (unless x r bs (asked (meaning p u) (read_line W bs) bs k c)).reply.number

      tell_of : Option Refusal → ℕ
      tell_of r = (unless x r bs (obstructed bs o)).reply.number

      go : Fronts f g (bad_aim ∷ bad_room ∷ no_set ∷ []) (bad_pair ∷ no_obstacle ∷ []) early
          → Turned (ask_of (first f (early ++ (bad_aim ∷ bad_room ∷ no_set ∷ [])))) (tell_of (first g (early ++ (bad_pair ∷ no_obstacle ∷ []))))
      go (inl w) =
          let n = each_mem (λ r. (¬ (refusal_number r ≡ 20)) × (¬ (refusal_number r ≡ 0))) early early_numbers w.0 w.1 in
          subst (λ (r : Option Refusal). Turned (ask_of r) (tell_of (first g (early ++ (bad_pair ∷ no_obstacle ∷ []))))) (sym w.2)
          (subst (λ (r : Option Refusal). Turned (ask_of (some w.0)) (tell_of r)) (sym w.3) (neither (refusal_number w.0) n.0 n.1))
      go (inr w) =
          subst (λ (i : ℕ). Turned i (tell_of (first g (early ++ (bad_pair ∷ no_obstacle ∷ []))))) (sym (ap ask_of (w.1 ∙ ask_last) ∙ ask_number c))
          (subst (λ (i : ℕ). Turned (elim (is_none c) [ true ↦ 20 | false ↦ 0 ]) i) (sym (ap tell_of (w.2 ∙ tell_last) ∙ tell-number o))
          (turned (in-line w.0.1.1.0) (low w.0.1.1.1.1.1.0) c refl o refl))

-- ---- a call
module _ (W : ℕ) (image ledger : List ℕ) (u k : ℕ) (lower upper : List ℕ) (a b : ℕ) (ha : a ≤ 2) (hb : b ≤ 2) where
  step_on_lem : (p : Policy) → InRange p
      → Turned (step_on W p ledger (ask_by u k lower upper a b 40)).reply.number (step_on W p ledger (obstacle_by u k lower upper 16)).reply.number
  unfolding step_on ruled pick refuse ask_by obstacle_by told is_ask
  step_on_lem p range = go (not (eqb (length ledger) (line_size W * p.head.users))) (not (ltb u p.head.users))
    where
      go : (s t : Bool)
          → Turned
          (pick s (record { reply = refuse 9 0; ledger = ledger })
          (pick t (record { reply = refuse 10 0; ledger = ledger }) (ruled W p ledger (ask_by u k lower upper a b 40)))).reply.number
          (pick s (record { reply = refuse 9 0; ledger = ledger })
          (pick t (record { reply = refuse 10 0; ledger = ledger }) (ruled W p ledger (obstacle_by u k lower upper 16)))).reply.number
      go true t = neither 9 (λ e. omega arith) (λ e. omega arith)
      go false true = neither 10 (λ e. omega arith) (λ e. omega arith)
      go false false =
          rule-turned W p range u (told W p ledger (ask_by u k lower upper a b 40)) (line_at (line_size W) u ledger) k lower upper a b ha hb

  step_by_lem : (v : Checked) → judge image ≡ v
      → Turned (step_by W v (policy_of image) ledger (ask_by u k lower upper a b 40)).reply.number
      (step_by W v (policy_of image) ledger (obstacle_by u k lower upper 16)).reply.number
  unfolding step_by refuse
  step_by_lem (Accepted h) e = step_on_lem (policy_of image) (accepted_in_range image h e)
  step_by_lem (Refused n place) e =
      let i : 1 ≤ n = (subst (Numbered 23) e (judge-numbered image)).0 in
      neither n (never_twenty image n place e) (λ z. omega arith)

pub asks_twenty : (W : ℕ) (image : List ℕ) → AsksTwenty W image
unfolding step
asks_twenty W image ledger u k lower upper a b ha hb =
    let t = step_by_lem W image ledger u k lower upper a b ha hb (judge image) refl in
    record { refused = t.0; answered = t.1 }
