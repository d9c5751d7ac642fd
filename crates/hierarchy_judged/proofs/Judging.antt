-- An image judged by the loops of its policy and by what its users reach, a law for each way that it goes.
-- Assumes nothing.
use mathlib.Core.Path.{◌≡◌, refl, sym, ap, ap₂, subst, ◌∙◌}
use mathlib.Core.Option.{Option, none as unfound, some}
use Rattle.std.proofs.Common.{Result, Ok, Err}
use mathlib.Core.List.{List}
use Prim.Native.Nat.{ℕ, zero, suc, ◌≤◌, ◌<◌}
use native.Mathlib.Decide.{dec_lt}
use native.Mathlib.Omega.{arith}
use lib.ListN.{get_or}
use Rattle.model.specs.declared.Head.{Head}
use Rattle.model.specs.declared.Checked.{Checked}
use Rattle.model.specs.declared.Checked.TheVariants.{Accepted, Refused}
use Rattle.reasons.specs.declared.Reason.TheVariants.{Loop, Reach}
use Rattle.reasons.specs.declared.Refusal.{Refusal}
use Rattle.reasons.specs.Numbers.{checked_of}
use Rattle.model.specs.Tests.{lowest, if_below}
use Rattle.model.specs.Sets.{has}
use Rattle.model.specs.Policy.{Policy, below_table, reached, authorized, closure_by}
use Rattle.model.specs.Judgement.{lowest_on_loop, lowest_over_reach, refusing, judge_meaning}
use Rattle.model_laws.proofs.Bools.{not_both}
use Rattle.model_laws.proofs.LowestLaws.{lowest_is}
use Rattle.model_laws.proofs.UnionLaws.{has_none}
use Rattle.hierarchy.proofs.Closing.{passed_over}
use Rattle.hierarchy_judged.specs.Loops.{Fit, Gives, Passed, Judged, Stands, Comes}
use Rattle.hierarchy_judged.specs.Reach.{reach_at, wide_at, Authorizes}
use Rattle.hierarchy_judged.proofs.Lowest.{below_none}
use Rattle.hierarchy_judged.proofs.Reaching.{flat_alone}

-- the lowest role that stands below itself in a table
abbrev pub on_loop : List ℕ → ℕ → ℕ
on_loop below roles = lowest (λ a. has (get_or below a 0) a) 0 roles

-- a table whose first n rows are empty is closed as it is
flat_closed : (n : ℕ) (rows : List ℕ) → ((r : ℕ) → r < n → get_or rows r 0 ≡ 0) → rows ≡ closure_by n rows
unfolding closure_by
flat_closed zero rows z = refl
flat_closed (suc n) rows z =
    let e = flat_closed n rows (λ r l. z r (omega arith)) in
    e ∙ passed_over n (closure_by n rows) (ap (λ (x : List ℕ). get_or x n 0) (sym e) ∙ z n (omega arith))

-- an image that its words refuse stays refused
pub judged-refused : (p : Policy) (x : Refusal) (c r : Result Head Refusal) (own below : List ℕ) → c ≡ Err x → r ≡ Err x → Judged p c r own below
unfolding judge_meaning
judged-refused p x c r own below e f =
    record {
      verdict = ap checked_of f ∙ sym (ap (λ (y : Result Head Refusal). judge_meaning p (checked_of y)) e);
      below_is = λ h q. cc;
      own_is = λ h q. cc;
    }

module _ (p : Policy) (h : Head) (juniors below : List ℕ) (eh : p.head ≡ h) (ej : juniors ≡ p.juniors) (eb : below ≡ closure_by h.roles juniors) where
  -- the table is the policy's
  pub closed_is : below ≡ below_table p
  unfolding below_table
  closed_is = eb ∙ ap₂ (λ (x : Head) (l : List ℕ). closure_by x.roles l) (sym eh) ej

  -- and so is the lowest role on a loop
  pub on_loop_lem : if_below h.roles (on_loop below h.roles) ≡ lowest_on_loop p
  unfolding lowest_on_loop
  on_loop_lem = ap₂ (λ (l : List ℕ) (x : Head). if_below x.roles (lowest (λ a. has (get_or l a 0) a) 0 x.roles)) closed_is (sym eh)

module _ (p : Policy) (h : Head) (assigned juniors below : List ℕ) (g : Gives p h assigned juniors) (eb : below ≡ closure_by h.roles juniors) where
  table_is : below ≡ below_table p
  table_is = closed_is p h juniors below g.head_is g.juniors_is eb

  loop-is : if_below h.roles (on_loop below h.roles) ≡ lowest_on_loop p
  loop-is = on_loop_lem p h juniors below g.head_is g.juniors_is eb

  -- what a user reaches is what the user may activate
  reach_is : (u : ℕ) → reach_at below assigned u ≡ authorized p u
  unfolding authorized reached
  reach_is u = ap₂ (λ (l a : List ℕ). reach_at l a u) table_is g.assigned_is

  -- so the lowest user who reaches more than 16 roles is the lowest who may activate so many
  over_reach : if_below h.users (lowest (wide_at below assigned) 0 h.users) ≡ lowest_over_reach p
  unfolding lowest_over_reach authorized reached
  over_reach =
      ap₂ (λ (l a : List ℕ). if_below h.users (lowest (wide_at l a) 0 h.users)) table_is g.assigned_is
      ∙ ap (λ (x : Head). if_below x.users (lowest (wide_at (below_table p) p.assigned) 0 x.users)) (sym g.head_is)

  module _ (c : Result Head Refusal) (ec : c ≡ Ok h) where
    -- by the role and the user that are found
    judging : (x y : Option ℕ) → x ≡ if_below h.roles (on_loop below h.roles) → y ≡ if_below h.users (lowest (wide_at below assigned) 0 h.users)
        → refusing 22 x (refusing 23 y (Accepted h)) ≡ judge_meaning p (checked_of c)
    unfolding judge_meaning
    judging x y ex ey =
        ap₂ (λ (a b : Option ℕ). refusing 22 a (refusing 23 b (Accepted h))) (ex ∙ loop-is) (ey ∙ over_reach)
        ∙ sym (ap (λ (r : Result Head Refusal). judge_meaning p (checked_of r)) ec)

    -- 22 where some role is on a loop
    pub judged-loop : (r : ℕ) (own : List ℕ) → some r ≡ if_below h.roles (on_loop below h.roles)
        → Judged p c (Err (record { reason = Loop; extra = r })) own below
    unfolding refusing
    judged-loop r own e = record { verdict = judging (some r) _ e refl; below_is = λ k q. cc; own_is = λ k q. cc }

    module _ (el : unfound ≡ if_below h.roles (on_loop below h.roles)) (u : Option ℕ) (own : List ℕ) (w : Authorizes below h.users assigned u own) where
      -- 23 where some user may activate more than 16 roles
      pub judged_reach : (v : ℕ) → u ≡ some v → Judged p c (Err (record { reason = Reach; extra = v })) own below
      unfolding refusing
      judged_reach v e =
          record { verdict = judging unfound (some v) el (sym e ∙ w.lowest_is); below_is = λ k q. cc; own_is = λ k q. cc }

      -- else the image is accepted
      pub judged_ordered : u ≡ unfound → Judged p c (Ok h) own below
      unfolding refusing
      judged_ordered e =
          record {
            verdict = judging unfound unfound el (sym e ∙ w.lowest_is);
            below_is = λ x q. table_is;
            own_is = λ x q v i. w.rows e v (subst (λ (y : Head). v < y.users) g.head_is i) ∙ reach_is v;
          }

-- where no role stands over another, the image is accepted, and both tables are right as they are
module _ (p : Policy) (h : Head) (assigned juniors : List ℕ) (g : Gives p h assigned juniors) (f : Fit h assigned juniors)
    (flat : (r : ℕ) → r < h.roles → get_or juniors r 0 ≡ 0) where
  none : h.roles ≤ on_loop juniors h.roles
  none =
      let r : ℕ = on_loop juniors h.roles in
      elim (dec_lt r h.roles) [
        | yes q ↦
            not_both (has (get_or juniors r 0) r) ((lowest_is (λ a. has (get_or juniors a 0) a) 0 h.roles).passes (omega arith))
            (ap (λ (s : ℕ). has s r) (flat r q) ∙ has_none r)
        | no q ↦ omega arith
      ]

  pub judged_flat : (c : Result Head Refusal) → c ≡ Ok h → Judged p c c assigned juniors
  judged_flat c e =
      subst (λ (x : Result Head Refusal). Judged p c x assigned juniors) (sym e)
      (judged_ordered p h assigned juniors juniors g (flat_closed h.roles juniors flat) c e (below_none h.roles _ none) unfound assigned
      (flat_alone juniors h.users assigned h.roles f.roles flat f.few) refl)

-- ---- an image whose words are judged, whatever says that they are refused

module _ {R : Type 0} (p : Policy) (c : Result Head R) (own below : List ℕ) where
  -- an accepted head's judgement is that of the words that accept it
  pub words_stand : (h : Head) → c ≡ Ok h → Judged p (Ok h) (Ok h) own below → Stands p c own below
  words_stand h e j = λ k q.
      let z = sym e ∙ q in
      let i : h ≡ k = cc in
      subst (λ (x : Head). Judged p (Ok x) (Ok x) own below) i j

  module _ (r : Result (Result Head Refusal) R) where
    -- the words are refused
    pub words_refused : (x : R) → c ≡ Err x → r ≡ Err x → Comes p c r own below
    words_refused x e f =
        record {
          refused = λ y q.
              let z = sym e ∙ q in
              let i : x ≡ y = cc in
              subst (λ (k : R). r ≡ Err k) i f;
          accepted = λ h q. let z = sym e ∙ q in cc;
        }

    -- or they are accepted
    pub words_accepted : (h : Head) (v : Result Head Refusal) → c ≡ Ok h → r ≡ Ok v → Judged p (Ok h) v own below → Comes p c r own below
    words_accepted h v e f j =
        record {
          refused = λ y q. let z = sym e ∙ q in cc;
          accepted = λ k q.
              let z = sym e ∙ q in
              let i : h ≡ k = cc in
              (v, f, subst (λ (x : Head). Judged p (Ok x) v own below) i j);
        }

-- where the words' refusal is said as that by their meaning is, there is one judgement
abbrev pub told : Result (Result Head Refusal) Refusal → Result Head Refusal
told (Ok v) = v
told (Err x) = Err x

module _ (c : Result Head Refusal) (assigned juniors : List ℕ) where
  pub stands_told : ((p : Policy) → Passed p c assigned juniors → Stands p c assigned juniors)
      → (p : Policy) → Passed p c assigned juniors → Judged p c c assigned juniors
  stands_told j p q = go c (j p q)
    where
      go : (x : Result Head Refusal) → Stands p x assigned juniors → Judged p x x assigned juniors
      go (Ok h) s = s h refl
      go (Err x) s = judged-refused p x (Err x) (Err x) assigned juniors refl refl

  pub comes_told : (r : Result (Result Head Refusal) Refusal) (own below : List ℕ)
      → ((p : Policy) → Passed p c assigned juniors → Comes p c r own below)
      → (p : Policy) → Passed p c assigned juniors → Judged p c (told r) own below
  comes_told r own below j p q = go c (j p q)
    where
      go : (x : Result Head Refusal) → Comes p x r own below → Judged p x (told r) own below
      go (Ok h) k =
          let a = k.accepted h refl in
          subst (λ (y : Result Head Refusal). Judged p (Ok h) y own below) (sym (ap told a.1)) a.2
      go (Err x) k = judged-refused p x (Err x) (told r) own below refl (ap told (k.refused x refl))

-- whatever number and place the words' refusal has, what comes of them is what `judge_meaning` says
module _ {R : Type 0} (n place : R → ℕ) where
  abbrev pub words_as : Result Head R → Checked
  words_as (Ok h) = Accepted h
  words_as (Err x) = Refused (n x) (place x)

  abbrev pub comes_as : Result (Result Head Refusal) R → Checked
  comes_as (Ok v) = checked_of v
  comes_as (Err x) = Refused (n x) (place x)

  pub judged_as : (p : Policy) (c : Result Head R) (r : Result (Result Head Refusal) R) (own below : List ℕ)
      → Comes p c r own below → comes_as r ≡ judge_meaning p (words_as c)
  unfolding judge_meaning
  judged_as p (Ok h) r own below j = let a = j.accepted h refl in ap comes_as a.1 ∙ a.2.verdict
  judged_as p (Err x) r own below j = ap comes_as (j.refused x refl)
