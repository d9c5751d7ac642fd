-- What a search finds is the model's choice.
-- Assumes nothing.
use mathlib.Core.Path.{◌≡◌, refl, sym, ap, subst, ◌∙◌}
use mathlib.Core.Bool.{Bool, true, false, ◌&&◌}
use mathlib.Core.Logic.{◌⊎◌, inl, inr}
use mathlib.Core.Option.{none, some}
use Rattle.std.specs.Prelude.{Option, None}
use Prim.Native.Nat.{ℕ, ◌+◌, ◌*◌, ◌^◌, ◌≤◌, ◌<◌}
use native.Mathlib.Nat.{lt_of_le_of_lt}
use native.Mathlib.Omega.{arith}
use lib.Dec.{eqb, ltb, lit<}
use borrow.Author.Tests.{ltb-true, ltb-false, ne_eqb}
use Rattle.model.specs.declared.Line.{Line}
use Rattle.model.specs.Tests.{pick}
use Rattle.model.specs.Sets.{has, within, count}
use Rattle.model.specs.Policy.{Meaning}
use Rattle.model.specs.Line.{exclusions_met, put_in}
use Rattle.model.specs.Choice.{carried_by, admissible, cost, permission_cost, role_cost, better, choose}
use Rattle.model_laws.proofs.Bools.{and_l, and_r, both, not_both}
use Rattle.model_laws.proofs.SetLaws.{has_beyond}
use Rattle.model_laws.proofs.Ranks.{Earlier, earlier_true, count-le}
use Rattle.model_laws.proofs.Choices.{choice}
use Rattle.query_rank.specs.declared.Best.{Best}
use Rattle.query_rank.specs.declared.objective.Objective.{Objective}
use Rattle.query_rank.specs.declared.objective.Objective.TheVariants.{Any, Fewest, Most}
use Rattle.query_rank.specs.Objectives.{number_of}
use Rattle.query.specs.Carry.{Sub, Keeps}
use Rattle.query_rank.specs.Ranks.{key_by, rank, rank_at, Between}
use Rattle.query.proofs.Members.{sub_within, within_sub, sub-le, none_sub, no_member}
use Rattle.query.proofs.Meanings.{carried-meaning}
use Rattle.search_steps.specs.Search.{Task, carries, serves, rank_of, Served, Found}
use Rattle.search.specs.Answer.{answered, no_best, answer_of, Given}
use Rattle.search_steps.proofs.Carried.{carried_least, row_sub}
use Rattle.search_steps.proofs.Costs.{cost-top}
use Rattle.search_steps.proofs.Turns.{Falls}

-- an objective that is not the most
pub not_most : (o : Objective) → (o ≡ Most → ⊥) → number_of o < 2
not_most Any h = lit< tt
not_most Fewest h = lit< tt
not_most Most h = absurd (h refl)

-- a key is below that of none
key_small : (a b c s : ℕ) → key_by a b c s < 1048576
unfolding key_by
key_small a b c s =
    omega (arith, cost-top a (count 256 c) (count-le 256 c), cost-top b (count 64 s) (le_256 (count-le 64 s)))
  where
    le_256 : {n : ℕ} → n ≤ 64 → n ≤ 256
    le_256 h = omega arith

-- by the costs first, then by the set number
ranks : (p q x y s t : ℕ) → x ≤ 256 → y ≤ 256 → s < 2 ^ 64 → t < 2 ^ 64 → Earlier p q x y s t → rank (p * 512 + x) s < rank (q * 512 + y) t
ranks p q x y s t hx hy hs ht (inl h) = omega arith
ranks p q x y s t hx hy hs ht (inr (e, inl h)) = omega arith
ranks p q x y s t hx hy hs ht (inr (e, inr (f, h))) = omega arith

module _ (t : Task) (upper authorized : ℕ) (small : authorized < 2 ^ 64) (m : Meaning) (l : Line) (k : ℕ)
    (given : Given m l k authorized t.row t.met) where
  below : (s : ℕ) → Sub s authorized → s < 2 ^ 64
  below s h = lt_of_le_of_lt (sub-le s authorized h) small

  index : (s i : ℕ) → Sub s authorized → has s i ≡ true → i < 64
  index s i h n = go (ltb i 64) refl
    where
      go : (b : Bool) → ltb i 64 ≡ b → i < 64
      go true e = ltb-true i 64 e
      go false e = not_both (has s i) n (has_beyond 64 s i (below s h) (ltb-false i 64 e))

  carried : (s : ℕ) → Sub s authorized → carries t s ≡ carried_by m s
  unfolding carries
  carried s h = carried-meaning m s t.row (λ r n. given.carry r (h r n))

  parts : (a b c d : Bool) → (a && b && c && d) ≡ true → (a ≡ true) × (b ≡ true) × (c ≡ true) × (d ≡ true)
  parts a b c d e =
      let f = and_l (a && b && c) d e in
      let g = and_l (a && b) c f in
      (and_l a b g, and_r a b g, and_r (a && b) c f, and_r (a && b && c) d e)

  own_small : m.authorized < 2 ^ 64
  own_small = subst (λ (x : ℕ). x < 2 ^ 64) (sym given.own) small

  -- where no set is admissible the choice is none
  chosen_none : ((s : ℕ) → admissible m l k t.lower upper s ≡ true → ⊥) → none ≡ choose m l k t.lower upper t.first t.second
  chosen_none h = sym ((choice m l k t.lower upper t.first t.second own_small).is-none.1 (λ s. go s (admissible m l k t.lower upper s) refl))
    where
      go : (s : ℕ) (b : Bool) → admissible m l k t.lower upper s ≡ b → admissible m l k t.lower upper s ≡ false
      go s true e = absurd (h s e)
      go s false e = e

  -- the four parts of the test
  is_in : (s : ℕ) → admissible m l k t.lower upper s ≡ true
      → (within s authorized ≡ true) × (within t.lower (carried_by m s) ≡ true) × (within (carried_by m s) upper ≡ true) × (t.met s ≡ true)
  unfolding admissible
  is_in s adm =
      let f = parts (within s m.authorized) (within t.lower (carried_by m s)) (within (carried_by m s) upper) (exclusions_met m (put_in k s l)) adm in
      let w : within s authorized ≡ true = ap (within s) (sym given.own) ∙ f.0 in
      (w, f.1, f.2, sym (given.exclusions s w) ∙ f.3)

  -- not even the empty set meets the exclusions
  pub none_chosen : Falls t → (b : Bool) → b ≡ t.met 0 → b ≡ false → answered None ≡ choose m l k t.lower upper t.first t.second
  none_chosen falls b e h = chosen_none (λ s adm. not_both (t.met 0) (falls 0 s (none_sub s) (is_in s adm).3) (sym e ∙ h))

  -- ---- a better set has the lower rank
  rank-of : (s : ℕ) → Sub s authorized → rank_of t s ≡ rank (permission_cost m t.first s * 512 + role_cost t.second s) s
  unfolding key_by permission_cost role_cost
  rank-of s h = ap (λ (c : ℕ). rank (cost t.first (count 256 c) * 512 + cost t.second (count 64 s)) s) (carried s h)

  role-cost : (s : ℕ) → role_cost t.second s ≤ 256
  unfolding role_cost
  role-cost s = let h = count-le 64 s in cost-top t.second (count 64 s) (omega arith)

  ranks-lower : (s r : ℕ) → Sub s authorized → Sub r authorized → better m t.first t.second s r ≡ true → rank_of t s < rank_of t r
  unfolding better
  ranks-lower s r hs hr e =
      rw (rank-of s hs, rank-of r hr)
      (ranks (permission_cost m t.first s) (permission_cost m t.first r) (role_cost t.second s) (role_cost t.second r) s r
      (role-cost s) (role-cost r) (below s hs) (below r hr) (earlier_true _ _ _ _ _ _ e))

  not_better : (s r : ℕ) → Sub s authorized → Sub r authorized → rank_of t r ≤ rank_of t s → better m t.first t.second s r ≡ false
  not_better s r hs hr h = go (better m t.first t.second s r) refl
    where
      go : (b : Bool) → better m t.first t.second s r ≡ b → better m t.first t.second s r ≡ false
      go true e = let n = ranks-lower s r hs hr e in absurd (omega arith)
      go false e = e

  -- ---- the admissible sets are those of usable roles that serve, and the best of these is the choice
  module _ (free : ℕ) (keeps : Keeps (λ i. within (t.row i) upper) authorized free) where
    pub record Fits (s : ℕ) : Type 0 where
      pub own : Sub s authorized
      pub between : Between 0 free s
      pub serving : serves t s ≡ true

    pub fits-of : (s : ℕ) → admissible m l k t.lower upper s ≡ true → Fits s
    unfolding serves
    fits-of s adm =
        let f = is_in s adm in
        let h : Sub s authorized = within_sub s authorized f.0 in
        let e = carried s h in
        record {
          own = h;
          between = record { least = none_sub s; most = λ i n. inr (usable s h (within_sub (carried_by m s) upper f.2) i n) };
          serving = both (within t.lower (carries t s)) (t.met s) (ap (within t.lower) e ∙ f.1) f.3;
        }
      where
        usable : (s : ℕ) → Sub s authorized → Sub (carried_by m s) upper → (i : ℕ) → has s i ≡ true → has free i ≡ true
        usable s h g i n =
            keeps i
            ∙ both (has authorized i) (within (t.row i) upper) (h i n)
            (sub_within (t.row i) upper (λ p q. g p (subst (λ (x : ℕ). has x p ≡ true) (carried s h) (row_in s h i n p q))))
          where
            row_in : (s : ℕ) → Sub s authorized → (i : ℕ) → has s i ≡ true → Sub (t.row i) (carries t s)
            row_in s h i n = unfold carries in row_sub t.row 64 s i (index s i h n) n

    module _ (s : ℕ) (b : Between 0 free s) where
      free_in : (i : ℕ) → has s i ≡ true → has free i ≡ true
      free_in i n = go (b.most i n)
        where
          go : (has 0 i ≡ true) ⊎ (has free i ≡ true) → has free i ≡ true
          go (inl h) = no_member i h
          go (inr h) = h

      own_in : Sub s authorized
      own_in i n = and_l (has authorized i) (within (t.row i) upper) (sym (keeps i) ∙ free_in i n)

      inside : Sub (carries t s) upper
      unfolding carries
      inside =
          carried_least t.row 64 s upper
          (λ r _ n. within_sub (t.row r) upper (and_r (has authorized r) (within (t.row r) upper) (sym (keeps r) ∙ free_in r n)))

      pub admits : serves t s ≡ true → admissible m l k t.lower upper s ≡ true
      unfolding admissible serves
      admits v =
          let w = sub_within s authorized own_in in
          let e = carried s own_in in
          both _ (exclusions_met m (put_in k s l))
          (both _ (within (carried_by m s) upper)
          (both (within s m.authorized) (within t.lower (carried_by m s)) (ap (within s) given.own ∙ w)
          (ap (within t.lower) (sym e) ∙ and_l (within t.lower (carries t s)) (t.met s) v))
          (ap (λ (x : ℕ). within x upper) (sym e) ∙ sub_within (carries t s) upper inside))
          (given.exclusions s w ∙ and_r (within t.lower (carries t s)) (t.met s) v)

    chosen_some : (r : Best) → Served t 0 free r → ((s : ℕ) → Between 0 free s → serves t s ≡ true → rank_at r ≤ rank_of t s)
        → some r.roles ≡ choose m l k t.lower upper t.first t.second
    chosen_some r v least =
        sym (((choice m l k t.lower upper t.first t.second own_small).is_best r.roles).1 (
        record {
          is_admissible = admits r.roles v.between v.serving;
          is_first = λ s e. first s (fits-of s e);
        }
        ))
      where
        first : (s : ℕ) → Fits s → better m t.first t.second s r.roles ≡ false
        first s f =
            not_better s r.roles f.own (own_in r.roles v.between)
            (subst (λ (x : ℕ). rank x r.roles ≤ rank_of t s) v.keyed (least s f.between f.serving))

    pub is_chosen : (r : Best) (a : Option ℕ) → a ≡ answer_of r → Found t 0 free no_best r → answered a ≡ choose m l k t.lower upper t.first t.second
    unfolding answer_of pick
    is_chosen r a e f = ap answered e ∙ go f.new
      where
        go : (r ≡ no_best) ⊎ Served t 0 free r → answered (answer_of r) ≡ choose m l k t.lower upper t.first t.second
        go (inl h) =
            rw (ap (λ (x : Best). x.key) h)
            (chosen_none (λ s adm.
            let v = fits-of s adm in
            let n = key_small t.first t.second (carries t s) s in
            let g = f.least s v.between v.serving in
            let k : r.key ≡ 1048576 = ap (λ (x : Best). x.key) h in
            let q = below s v.own in
            omega arith))
        go (inr v) =
            let n : eqb r.key 1048576 ≡ false = ne_eqb r.key 1048576
            (λ x. let b = key_small t.first t.second (carries t r.roles) r.roles in omega (arith, v.keyed)) in
            rw n (chosen_some r v f.least)
