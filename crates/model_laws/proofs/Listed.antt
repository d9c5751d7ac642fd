-- A call that is no clause text does not look at the order in which the exclusions stand: it goes by the rest of a
-- policy's meaning.
-- Assumes nothing.
use mathlib.Core.Path.{◌≡◌, refl, ap, ap₂, ◌∙◌, sym}
use mathlib.Core.Bool.{Bool, true, false, ◌&&◌, not, true≢false, ◌||◌}
use mathlib.Core.Option.{Option, none, some}
use mathlib.Core.List.{List, [], ◌∷◌, ◌++◌}
use Prim.Native.Nat.{ℕ, suc, ◌^◌}
use lib.Dec.{eqb, ltb}
use lib.ListN.{get_or, drop}
use Rattle.model.specs.declared.Exclusion.{Exclusion}
use Rattle.model.specs.declared.Session.{Session}
use Rattle.model.specs.declared.Line.{Line}
use Rattle.model.specs.Tests.{pick, any, first}
use Rattle.model.specs.Sets.{subsets}
use Rattle.model.specs.Bytes.{number}
use Rattle.model.specs.Policy.{Meaning}
use Rattle.model.specs.Line.{read_line, exclusions_met, session_sound, sessions_sound, sound}
use Rattle.model.specs.Limits.{Others, nobody, barred, unbarred}
use Rattle.model.specs.Choice.{carried_by, admissible, permission_cost, better, best, choose}
use Rattle.model.specs.Obstacle.{lacking, carriers_of, fitting, excluding_only, left, obstacle_of}
use Rattle.model.specs.Session.{Query, Operation, open_session, close_session, ask, short_ask, show, explain, obstacle, clauses, session_of, query_of, is_text, Result, Refusal, bad_other, bad_line, bad_session, is_closed, bad_set, bad_permission, bad_bounds, bad_aim, no_set, no_obstacle, too_long, refusal_number, refuse, wrote, done, can_give, chosen, obstacle_for, is_none, other_first, applies, asked, obstructed, perform, unless, rule}
use Rattle.model.specs.Independence.{rules, has_text, beside_text, beside_texts}
use Rattle.model.specs.Ranges.{Each}
use Rattle.model_laws.proofs.Bools.{neither}

-- a meaning with its exclusions listed otherwise
abbrev pub listed : Meaning → List Exclusion → Meaning
listed m xs =
    record {
      user = m.user;
      roles = m.roles;
      permissions = m.permissions;
      authorized = m.authorized;
      carried = m.carried;
      granter = m.granter;
      all_met = m.all_met;
      exclusions = xs;
      ordered = m.ordered;
      limits = m.limits;
    }

-- tests that are the same on a list find the same
pub first-same : {A : Type 0} (f g : A → Bool) (xs : List A) → Each (λ (x : A). f x ≡ g x) xs → first f xs ≡ first g xs
unfolding first
first-same f g [] h = refl
first-same {A} f g (x ∷ xs) h =
    ap₂ (λ (b : Bool) (o : Option A). elim b [ true ↦ some x | false ↦ o ]) h.0 (first-same f g xs h.1)

module _ (m : Meaning) (xs : List Exclusion) where
  -- ---- soundness
  sessions_listed : (l : Line) (k : ℕ) (ss : List Session) → sessions_sound m l k ss ≡ sessions_sound (listed m xs) l k ss
  unfolding sessions_sound session_sound
  sessions_listed l k [] = refl
  sessions_listed l k (s ∷ ss) = ap (λ (b : Bool). session_sound m l k s && b) (sessions_listed l (suc k) ss)

  pub sound_listed : (W : ℕ) (l : Line) → sound W m l ≡ sound W (listed m xs) l
  unfolding sound exclusions_met
  sound_listed W l =
      ap (λ (b : Bool). ltb l.opened (2 ^ W) && ltb l.history (2 ^ m.roles) && b && exclusions_met m l) (sessions_listed l 0 l.sessions)

  -- ---- the choice
  admissible_listed : (l : Line) (k lower upper s : ℕ) → admissible m l k lower upper s ≡ admissible (listed m xs) l k lower upper s
  unfolding admissible carried_by exclusions_met
  admissible_listed l k lower upper s = refl

  better_listed : (a b s t : ℕ) → better m a b s t ≡ better (listed m xs) a b s t
  unfolding better permission_cost carried_by
  better_listed a b s t = refl

  choice_listed : (l : Line) (k lower upper a b : ℕ) → choose m l k lower upper a b ≡ choose (listed m xs) l k lower upper a b
  unfolding choose
  choice_listed l k lower upper a b =
      λ i. best (λ s. admissible_listed l k lower upper s i) (λ s t. better_listed a b s t i) (subsets 64 m.authorized)

module _ (m : Meaning) (xs : List Exclusion) (x : Others) where
  chosen_listed : (l : Line) (k : ℕ) (q : Query) → chosen m x l k q ≡ chosen (listed m xs) x l k q
  unfolding chosen unbarred barred
  chosen_listed l k q = choice_listed (unbarred m x l k) xs l k (number q.lower) (number q.upper) q.permission_aim q.role_aim

  obstacle_listed : (l : Line) (k : ℕ) (q : Query) → obstacle_for m x l k q ≡ obstacle_for (listed m xs) x l k q
  unfolding obstacle_for obstacle_of lacking carriers_of fitting left excluding_only unbarred barred carried_by
  obstacle_listed l k q = refl

  -- ---- the refusals
  module _ (W : ℕ) (l : Line) (k : ℕ) (q : Query) where
    abbrev Same : Refusal → Type 0
    Same f = applies W m x l k q f ≡ applies W (listed m xs) x l k q f

    same_line : Same bad_line
    unfolding applies
    same_line = ap not (sound_listed m xs W l)

    same_other : Same bad_other
    unfolding applies
    same_other = ap (λ (b : Bool). other_first b m.user x.unsound) (sound_listed m xs W l)

    same_set : Same no_set
    unfolding applies
    same_set = ap is_none (chosen_listed l k q)

    same_way : Same no_obstacle
    unfolding applies
    same_way = ap is_none (obstacle_listed l k q)

    refusals_listed : (op : Operation) → is_text op ≡ false → Each Same (can_give op)
    unfolding can_give applies is_text
    refusals_listed open_session e = (same_line, (refl, tt))
    refusals_listed (close_session k) e = (same_line, (refl, (refl, tt)))
    refusals_listed (ask k r) e = (same_other, (same_line, (refl, (refl, (refl, (refl, (refl, (refl, (refl, (same_set, tt))))))))))
    refusals_listed (short_ask k lower upper room) e = (same_other, (same_line, (refl, (refl, (refl, (refl, (refl, (refl, (same_set, tt)))))))))
    refusals_listed (show k room) e = (same_line, (refl, (refl, (refl, tt))))
    refusals_listed (explain k n) e = (same_line, (refl, (refl, (refl, (refl, tt)))))
    refusals_listed (obstacle k lower upper room) e = (same_other, (same_line, (refl, (refl, (refl, (refl, (refl, (refl, (same_way, tt)))))))))
    refusals_listed (clauses k r) e = absurd (true≢false e)

  -- ---- the work done
  asked_listed : (l : Line) (bs : List ℕ) (k : ℕ) (o : Option ℕ) → asked m l bs k o ≡ asked (listed m xs) l bs k o
  unfolding asked carried_by
  asked_listed l bs k none = refl
  asked_listed l bs k (some s) = refl

  answer_listed : (l : Line) (bs : List ℕ) (k : ℕ) (q : Query) → asked m l bs k (chosen m x l k q) ≡ asked (listed m xs) l bs k (chosen (listed m xs) x l k q)
  answer_listed l bs k q = asked_listed l bs k (chosen m x l k q) ∙ ap (asked (listed m xs) l bs k) (chosen_listed l k q)

  perform_listed : (W : ℕ) (l : Line) (bs : List ℕ) (op : Operation) → is_text op ≡ false → perform W m x l bs op ≡ perform W (listed m xs) x l bs op
  unfolding perform is_text carried_by
  perform_listed W l bs open_session e = refl
  perform_listed W l bs (close_session k) e = refl
  perform_listed W l bs (ask k q) e = answer_listed l bs k q
  perform_listed W l bs (short_ask k lower upper room) e = answer_listed l bs k (query_of (short_ask k lower upper room))
  perform_listed W l bs (show k room) e = refl
  perform_listed W l bs (explain k n) e = refl
  perform_listed W l bs (obstacle k lower upper room) e = ap (obstructed bs) (obstacle_listed l k (query_of (obstacle k lower upper room)))
  perform_listed W l bs (clauses k q) e = absurd (true≢false e)

  -- ---- the rules
  pub rule_listed : (W : ℕ) (bs : List ℕ) (op : Operation) → is_text op ≡ false → rule W m x bs op ≡ rule W (listed m xs) x bs op
  unfolding rule
  rule_listed W bs op e =
      let l = read_line W bs in
      ap₂ (λ (o : Option Refusal) (r : Result). unless x o bs r)
      (first-same (applies W m x l (session_of op) (query_of op)) (applies W (listed m xs) x l (session_of op) (query_of op)) (can_give op)
      (refusals_listed W l (session_of op) (query_of op) op e)) (perform_listed W l bs op e)

pub rules_listed : (m : Meaning) (xs : List Exclusion) (W : ℕ) (bs : List ℕ) (ys : List Others) (os : List Operation) → has_text os ≡ false
    → rules W m bs ys os ≡ rules W (listed m xs) bs ys os
unfolding rules has_text any
rules_listed m xs W bs ys [] e = refl
rules_listed m xs W bs ys (o ∷ os) e =
    let f = neither (is_text o) (any is_text os) e in
    let q = rule_listed m xs (get_or ys 0 nobody) W bs o f.0 in
    ap₂ {C = List Result} (λ (r : Result) (rs : List Result). r ∷ rs) q
    (rules_listed m xs W (rule W m (get_or ys 0 nobody) bs o).line (drop 1 ys) os f.1
    ∙ ap (λ (r : Result). rules W (listed m xs) r.line (drop 1 ys) os) q)

-- ---- clause texts: up to 18 they go by the rest of the meaning too, and the line after them is the line before

-- what is left of a clause text
module _ (k : ℕ) (q : Query) (x : Others) (bs : List ℕ) where
  -- written or too long
  abbrev text_at : Bool → List ℕ → Result
  text_at long text = unless x (elim long [ true ↦ some too_long | false ↦ none ]) bs (record { reply = wrote text; line = bs })

  beside_at : (a : Bool) (t : List ℕ) → beside_text (clauses k q) (text_at a t) ≡ record { reply = done 0; line = bs }
  unfolding beside_text pick is_text unless wrote refuse refusal_number
  beside_at true t = refl
  beside_at false t = refl

  -- two tests that agree on the refusals before
  beside_same : (f g : Refusal → Bool) (t s : List ℕ) (es : List Refusal) → Each (λ (e : Refusal). f e ≡ g e) es
      → beside_text (clauses k q) (unless x (first f (es ++ (too_long ∷ []))) bs (record { reply = wrote t; line = bs }))
      ≡ beside_text (clauses k q) (unless x (first g (es ++ (too_long ∷ []))) bs (record { reply = wrote s; line = bs }))
  unfolding first
  beside_same f g t s [] h = beside_at (f too_long) t ∙ sym (beside_at (g too_long) s)
  beside_same f g t s (e ∷ es) h = go (f e) (g e) h.0 (beside_same f g t s es h.1)
    where
      go : (a b : Bool) → a ≡ b
          → beside_text (clauses k q) (unless x (first f (es ++ (too_long ∷ []))) bs (record { reply = wrote t; line = bs }))
          ≡ beside_text (clauses k q) (unless x (first g (es ++ (too_long ∷ []))) bs (record { reply = wrote s; line = bs }))
          → beside_text (clauses k q)
          (unless x (elim a [ true ↦ some e | false ↦ first f (es ++ (too_long ∷ [])) ]) bs (record { reply = wrote t; line = bs }))
          ≡ beside_text (clauses k q)
          (unless x (elim b [ true ↦ some e | false ↦ first g (es ++ (too_long ∷ [])) ]) bs (record { reply = wrote s; line = bs }))
      go true true p ih = unfold unless in refl
      go true false p ih = absurd (true≢false p)
      go false true p ih = absurd (true≢false (sym p))
      go false false p ih = ih

-- the line is left as it is
pub beside-line : (o : Operation) (r : Result) → (beside_text o r).line ≡ r.line
unfolding beside_text pick
beside-line o r = go (is_text o && (eqb r.reply.number 0 || eqb r.reply.number 19))
  where
    go : (b : Bool) → (pick b (record { reply = done 0; line = r.line }) r).line ≡ r.line
    go true = refl
    go false = refl

module _ (m : Meaning) (xs : List Exclusion) (x : Others) (W : ℕ) (bs : List ℕ) where
  text_listed : (k : ℕ) (q : Query)
      → beside_text (clauses k q) (rule W m x bs (clauses k q)) ≡ beside_text (clauses k q) (rule W (listed m xs) x bs (clauses k q))
  unfolding rule perform can_give session_of query_of
  text_listed k q =
      let l = read_line W bs in
      beside_same k q x bs (applies W m x l k q) (applies W (listed m xs) x l k q) _ _
      (bad_other ∷ bad_line ∷ bad_session ∷ is_closed ∷ bad_set ∷ bad_permission ∷ bad_bounds ∷ bad_aim ∷ [])
      (unfold applies in
      (same_other m xs x W l k q, (same_line m xs x W l k q, (refl, (refl, (refl, (refl, (refl, (refl, tt)))))))))

  beside_listed : (op : Operation) → beside_text op (rule W m x bs op) ≡ beside_text op (rule W (listed m xs) x bs op)
  unfolding is_text
  beside_listed open_session = ap (beside_text open_session) (rule_listed m xs x W bs open_session refl)
  beside_listed (close_session k) = ap (beside_text (close_session k)) (rule_listed m xs x W bs (close_session k) refl)
  beside_listed (ask k q) = ap (beside_text (ask k q)) (rule_listed m xs x W bs (ask k q) refl)
  beside_listed (short_ask k lower upper room) =
      ap (beside_text (short_ask k lower upper room)) (rule_listed m xs x W bs (short_ask k lower upper room) refl)
  beside_listed (show k room) = ap (beside_text (show k room)) (rule_listed m xs x W bs (show k room) refl)
  beside_listed (explain k n) = ap (beside_text (explain k n)) (rule_listed m xs x W bs (explain k n) refl)
  beside_listed (obstacle k lower upper room) =
      ap (beside_text (obstacle k lower upper room)) (rule_listed m xs x W bs (obstacle k lower upper room) refl)
  beside_listed (clauses k q) = text_listed k q

pub rules-beside : (m : Meaning) (xs : List Exclusion) (W : ℕ) (bs : List ℕ) (ys : List Others) (os : List Operation)
    → beside_texts os (rules W m bs ys os) ≡ beside_texts os (rules W (listed m xs) bs ys os)
unfolding rules beside_texts
rules-beside m xs W bs ys [] = refl
rules-beside m xs W bs ys (o ∷ os) =
    let x = get_or ys 0 nobody in
    let q = beside_listed m xs x W bs o in
    let same_after : (rule W m x bs o).line ≡ (rule W (listed m xs) x bs o).line =
    sym (beside-line o (rule W m x bs o)) ∙ ap (λ (r : Result). r.line) q ∙ beside-line o (rule W (listed m xs) x bs o) in
    ap₂ {C = List Result} (λ (r : Result) (rs : List Result). r ∷ rs) q
    (rules-beside m xs W (rule W m x bs o).line (drop 1 ys) os
    ∙ ap (λ (y : List ℕ). beside_texts os (rules W (listed m xs) y (drop 1 ys) os)) same_after)
