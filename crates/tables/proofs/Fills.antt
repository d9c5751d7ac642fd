-- The turns of the pass that fills the tables: each table is the fold of its step over the entries.
-- Assumes nothing.
use Rattle.std.proofs.Common.{◌≡◌, ℕ, ◌-◌, ◌/◌, ◌^◌, ◌<◌, ◌≤◌, List, [], ◌∷◌, length, get_or, Result, Ok, Err, sym, refl, ap, ◌∙◌, subst}
use Rattle.model.specs.declared.Entry.{Entry}
use Rattle.model.specs.declared.Head.{Head}
use Rattle.model.specs.declared.Checked.TheVariants.{Accepted, Refused}
use Rattle.reasons.specs.declared.Refusal.{Refusal}
use Rattle.reasons.specs.Numbers.{number_of, checked_of}
use Rattle.sets.specs.Words.{value, joined, values}
use Rattle.exclusion_rows.specs.Table.{exclusion_list}
use Rattle.policy_tables.specs.declared.PolicyTables.{PolicyTables}
use Rattle.policy_tables.specs.Held.{Blank, Holds}
use Rattle.model.specs.Image.{behind_head, assigning, empty_rows, judge_words}
use Rattle.model.specs.Sets.{count}
use Rattle.model.specs.Policy.{Policy, authorized, entries_from, entries_of, fold, granting, ordering, limiting, policy_of}
use Rattle.model.specs.Judgement.{judge_meaning, judge}
use Rattle.model_laws.proofs.Accepted.{words_head, words_in_range}
use Rattle.model_laws.proofs.Judgements.{words_pass}
use Rattle.model_laws.proofs.Tables.{granting-length}
use Rattle.model_limits.proofs.LimitTable.{fold-length}
use Rattle.image.proofs.Turns.{length_assigned, length_juniors}
use Rattle.hierarchy_judged.specs.Loops.{Fit, Passed, Judged}
use Rattle.tables.specs.Tables.{Fresh, Gathered, Read}

-- tables of zeros are those before any word
pub blank_fresh : {t : PolicyTables} → Blank t → Fresh t
unfolding empty_rows values value joined
blank_fresh b =
    record {
      assigned_none = b.authorized_none;
      granted_none = ap values b.granted_none;
      juniors_none = b.below_none;
      limits_none = b.limits_none;
    }

-- ---- the whole: what was gathered from empty tables is the policy's, and so is the head of words that pass
pub tables_of_lem : (s : List ℕ) (h : Head) (t₀ t : PolicyTables) → Fresh t₀ → Gathered s (length s / 4 - 1) t₀ t → judge_words s ≡ Accepted h → t.head ≡ h
    → Read (policy_of s) t
unfolding policy_of entries_of behind_head
tables_of_lem s h t₀ t f g e k =
    let es : List Entry = entries_from s (length s / 4 - 1) 1 in
    record {
      head_is = words_head s h e ∙ sym k;
      assigned_is = g.assigned_is ∙ ap (λ (x : List ℕ). fold assigning x es) f.assigned_none;
      granted_is = g.granted_is ∙ ap (λ (x : List ℕ). fold granting x es) f.granted_none;
      juniors_is = g.juniors_is ∙ ap (λ (x : List ℕ). fold ordering x es) f.juniors_none;
      limits_is = g.limits_is ∙ ap (λ (x : List ℕ). fold limiting x es) f.limits_none;
      exclusions_are = g.exclusions_are;
    }

-- the table of grants has 64 rows
granting_keeps : (es : List Entry) (rows : List ℕ) → length (fold granting rows es) ≡ length rows
unfolding fold
granting_keeps [] rows = refl
granting_keeps (e ∷ es) rows = granting_keeps es (granting rows e) ∙ granting-length rows e

pub length_granted : (s : List ℕ) → length (policy_of s).granted ≡ 64
unfolding policy_of empty_rows
length_granted s = granting_keeps (entries_of s) empty_rows

-- so has that of limits
pub length_limits : (s : List ℕ) → length (policy_of s).limits ≡ 64
unfolding policy_of empty_rows
length_limits s = fold-length (entries_of s) empty_rows

-- ---- an image judged by its words, and then by what they mean together

-- the head's numbers of words that pass
pub head_fits : (s : List ℕ) (h : Head) → judge_words s ≡ Accepted h → (h.users ≤ 64) × (h.roles ≤ 64) × (h.permissions ≤ 256)
head_fits s h e =
    let range = words_in_range s h e in
    subst (λ (x : Head). (x.users ≤ 64) × (x.roles ≤ 64) × (x.permissions ≤ 256)) (words_head s h e) (range.users.1, range.roles.1, range.permissions.1)

module _ (s : List ℕ) (c : Result Head Refusal) (ec : checked_of c ≡ judge_words s) (assigned juniors : List ℕ)
    (had : (h : Head) → c ≡ Ok h → (assigned ≡ (policy_of s).assigned) × (juniors ≡ (policy_of s).juniors)) where
  passing : (h : Head) → c ≡ Ok h → judge_words s ≡ Accepted h
  passing h e = sym ec ∙ ap checked_of e

  -- where the words pass, the tables fit the head
  pub words_fit : (h : Head) → c ≡ Ok h → Fit h assigned juniors
  words_fit h e =
      let w = passing h e in
      let range = words_in_range s h w in
      let head = words_head s h w in
      record {
        roles = subst (λ (x : Head). x.roles ≤ 64) head range.roles.1;
        users = subst (λ (x : Head). x.users ≤ 64) head range.users.1;
        juniors_size = ap length (had h e).1 ∙ length_juniors s;
        assigned_size = ap length (had h e).0 ∙ length_assigned s;
        few = λ u.
            subst (λ (t : List ℕ). (get_or t u 0 < 2 ^ h.roles) × (count 64 (get_or t u 0) ≤ 16)) (sym (had h e).0)
            (subst (λ (x : Head). get_or (policy_of s).assigned u 0 < 2 ^ x.roles) head (range.assigned_rows u), range.few_roles u);
      }

  module _ (v : Result Head Refusal) (own below : List ℕ) (judged : (p : Policy) → Passed p c assigned juniors → Judged p c v own below) where
    verdict : Judged (policy_of s) c v own below
    verdict = judged (policy_of s) (λ h e. record { head_is = words_head s h (passing h e); assigned_is = (had h e).0; juniors_is = (had h e).1 })

    pub read_judged : checked_of v ≡ judge s
    unfolding judge
    read_judged = verdict.verdict ∙ ap (judge_meaning (policy_of s)) ec

-- ---- the tables of an image whose words are judged c, which hold what the words say where they pass
module _ (s : List ℕ) (c : Result Head Refusal) (ec : checked_of c ≡ judge_words s) (t : PolicyTables)
    (read : (h : Head) → c ≡ Ok h → Read (policy_of s) t) where
  had : (h : Head) → c ≡ Ok h → (t.authorized ≡ (policy_of s).assigned) × (t.below ≡ (policy_of s).juniors)
  had h e = ((read h e).assigned_is, (read h e).juniors_is)

  pub tables_fit : (h : Head) → c ≡ Ok h → Fit h t.authorized t.below
  tables_fit h e = words_fit s c ec t.authorized t.below had h e

  module _ (v : Result Head Refusal) (own below : List ℕ) (judged : (p : Policy) → Passed p c t.authorized t.below → Judged p c v own below) where
    is_judged : checked_of v ≡ judge s
    is_judged = read_judged s c ec t.authorized t.below had v own below judged

    -- a refused image
    pub tables_refused : (r : Refusal) → v ≡ Err r → judge s ≡ Refused (number_of r.reason) r.extra
    tables_refused r e = sym is_judged ∙ ap checked_of e

    module _ (h : Head) (e : v ≡ Ok h) where
      passes : judge_words s ≡ Accepted h
      passes = words_pass s h (sym is_judged ∙ ap checked_of e)

      words_ok : c ≡ Ok h
      words_ok = go c (ec ∙ passes)
        where
          go : (x : Result Head Refusal) → checked_of x ≡ Accepted h → x ≡ Ok h
          go (Ok g) q = cc
          go (Err r) q = cc

      -- the tables of an accepted image hold what its words say
      pub direct_read : Read (policy_of s) t
      direct_read = read h words_ok

      pub tables_accepted : judge s ≡ Accepted t.head
      tables_accepted = sym is_judged ∙ ap checked_of e ∙ ap Accepted (sym (words_head s h passes) ∙ direct_read.head_is)

      -- the roles that each user may activate are its policy's
      pub tables_own : (u : ℕ) → u < (policy_of s).head.users → get_or own u 0 ≡ authorized (policy_of s) u
      tables_own u l =
          let w = judged (policy_of s)
          (λ k q. record { head_is = words_head s k (sym ec ∙ ap checked_of q); assigned_is = (had k q).0; juniors_is = (had k q).1 }) in
          w.own_is h e u l

      -- and those that follow from them its policy
      pub tables_hold : (t' : PolicyTables) → t'.head ≡ t.head → t'.authorized ≡ own → t'.below ≡ below → t'.granted ≡ t.granted
          → t'.limits ≡ t.limits → t'.exclusions ≡ t.exclusions → Holds t' (policy_of s)
      tables_hold t' eh eo eb eg el ex =
          let w = judged (policy_of s)
          (λ k q. record { head_is = words_head s k (sym ec ∙ ap checked_of q); assigned_is = (had k q).0; juniors_is = (had k q).1 }) in
          record {
            head_is = direct_read.head_is ∙ sym eh;
            own_is = λ u l f. ap (λ (x : List ℕ). get_or x u 0) eo ∙ w.own_is h e u l;
            granted_is = ap values eg ∙ direct_read.granted_is;
            below_is = eb ∙ w.below_is h e;
            limits_is = el ∙ direct_read.limits_is;
            exclusions_are = ap exclusion_list ex ∙ direct_read.exclusions_are;
          }
