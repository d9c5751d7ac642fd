-- The lines of exclusions, one behind the other.
-- Assumes nothing.
use mathlib.Core.Path.{◌≡◌, sym, ap, subst, ◌∙◌}
use mathlib.Core.Bool.{true, false}
use mathlib.Core.List.{List, [], ◌∷◌, ◌++◌, append-nil, append_assoc}
use Prim.Native.Nat.{ℕ, zero, suc, ◌+◌, ◌-◌, ◌/◌, ◌≤◌, ◌<◌}
use native.Mathlib.Numerals.{add-one}
use native.Mathlib.Decide.{dec_lt}
use native.Mathlib.Omega.{arith}
use lib.ListN.{length, get_or, take, drop}
use lib.Seq.{drop-cons, take_all}
use Rattle.std.proofs.lemmas.List.{drop_all}
use Rattle.model.specs.declared.Kind.TheVariants.{SsDmer}
use Rattle.model.specs.declared.Entry.{Entry}
use Rattle.model.specs.declared.Entry.TheVariants.{Assignment, Grant, Senior, Exclude, Member, Limit, End, Unknown}
use Rattle.model.specs.declared.Head.{Head}
use Rattle.model.specs.declared.Exclusion.{Exclusion}
use Rattle.model.specs.declared.Checked.TheVariants.{Accepted, Refused}
use Rattle.model.specs.Sets.{count}
use Rattle.model.specs.Judgement.{judge}
use Rattle.model.specs.Image.{behind_head}
use Rattle.model.specs.Policy.{entry_at, entries_from, exclusions_of, policy_of, kind_number}
use Rattle.model.specs.Ranges.{Each}
use Rattle.image_reader.specs.Places.{exclusion_after, entries_behind, exclusion_by as walked_by}
use Rattle.image_reader.proofs.Walk.{Visits, visits_next, visits_some, visits_start}
use Rattle.tables_exclusions.specs.Exclusions.{exclusion_by as read_by, exclusion_at}
use Rattle.script_text.specs.declared.Writer.{Writer}
use Rattle.script_text.specs.Writing.{Writes}
use Rattle.script_text.proofs.TextLaws.{writes-nothing, writes-joined, writes_as}
use Rattle.model_binomials.specs.Binomial.{binomial, sum_below}
use Rattle.model_survey.specs.Survey.{two_figures, four_figures, allowed, exclusion_line, exclusion_lines}
use Rattle.model_survey.specs.Parts.{opening_of, is_accepted}
use Rattle.survey_exclusions.specs.Writing.{Fitting}

-- the line of an exclusion by its figures
pub exclusion_is : (x : Exclusion) (k m s : ℕ) → k ≡ kind_number x.kind → m ≡ count 64 x.members → s ≡ sum_below (binomial m) x.n
    → four_figures k x.n m s ≡ exclusion_line x
unfolding exclusion_line allowed
exclusion_is x k m s e f g = rw (g, e, f)

none : (x : Exclusion) → [] ≡ x ∷ [] → ⊥
none x h = let k : ◌≡◌ {A = ℕ} 0 1 = ap length h in omega arith

-- ---- the walk from one exclusion to the next

-- no exclusion
abbrev other : Exclusion
other = record { kind = SsDmer; n = 0; members = 0 }

lines_suc : (xs : List Exclusion) (i : ℕ) → i < length xs
    → exclusion_lines (take (suc i) xs) ≡ exclusion_lines (take i xs) ++ exclusion_line (get_or xs i other)
unfolding exclusion_lines
lines_suc [] i h = absurd (omega arith)
lines_suc (x ∷ xs) zero h = append-nil (exclusion_line x)
lines_suc (x ∷ xs) (suc i) h =
    ap (λ t. exclusion_line x ++ t) (lines_suc xs i (omega arith))
    ∙ sym (append_assoc (exclusion_line x) (exclusion_lines (take i xs)) (exclusion_line (get_or xs i other)))

each_at : (xs : List Exclusion) (i : ℕ) → Each Fitting xs → i < length xs → Fitting (get_or xs i other)
each_at [] i e h = absurd (omega arith)
each_at (x ∷ xs) zero e h = e.0
each_at (x ∷ xs) (suc i) e h = each_at xs i e.1 (omega arith)

-- the exclusion that an entry opens, as the walk has it and as it is read at its place
same_by : (e : Entry) (es : List Entry) (x : Exclusion) → walked_by e es ≡ x ∷ [] → read_by e es ≡ x
unfolding walked_by read_by
same_by (Assignment u r) es x h = absurd (none x h)
same_by (Grant r p) es x h = absurd (none x h)
same_by (Senior a b) es x h = absurd (none x h)
same_by (Exclude y m) es x h = ap (λ (l : List Exclusion). get_or l 0 y) h
same_by (Member r) es x h = absurd (none x h)
same_by (Limit r n) es x h = absurd (none x h)
same_by End es x h = absurd (none x h)
same_by Unknown es x h = absurd (none x h)

module _ (s : List ℕ) where
  abbrev all : List Exclusion
  all = (policy_of s).exclusions

  -- so many lines are written, and the exclusions behind the place are the others
  pub record Walked (before : Writer) (place i : ℕ) (after : Writer) : Type 0 where
    pub behind : drop i all ≡ exclusions_of (entries_behind s place)
    pub lines : Writes before after (exclusion_lines (take i all))

  pub walk_none : (w : Writer) → Walked w 0 0 w
  unfolding exclusion_lines policy_of
  walk_none w = record { behind = sym (visits_start s); lines = writes-nothing w }

  -- where the walk goes on there is another
  pub walk_more : {before : Writer} {place i : ℕ} {after : Writer} → Walked before place i after → 0 < exclusion_after s place → i < length all
  walk_more {before} {place} {i} w h =
      elim (dec_lt i (length all)) [
        | yes q ↦ q
        | no q ↦ absurd (visits_some s place h (sym w.behind ∙ drop_all i all (omega arith)))
      ]

  module _ {before : Writer} {place i : ℕ} {after : Writer} (w : Walked before place i after) (h : i < length all) where
    visit : Visits s place (get_or all i other) (drop (i + 1) all)
    visit =
        visits_next s place (get_or all i other) (drop (i + 1) all)
        (sym w.behind ∙ drop-cons all i other h ∙ ap (λ (n : ℕ). get_or all i other ∷ drop n all) (sym (add-one i)))

    module _ {q : ℕ} (e : q ≡ exclusion_after s place) where
      pub place_inside : q < length s / 4
      unfolding behind_head
      place_inside = omega (arith, e, visit.inside, visit.before)

      module _ {words : ℕ} {x : Exclusion} (n : words ≡ length s / 4) (r : x ≡ exclusion_at s words q) where
        here : x ≡ get_or all i other
        unfolding exclusion_at entries_behind behind_head
        here =
            let k : words - (q + 1) ≡ length s / 4 - 1 - q = omega (arith, n) in
            r ∙ ap (λ (m : ℕ). read_by (entry_at s q) (entries_from s m (q + 1))) k
            ∙ same_by (entry_at s q) (entries_from s (length s / 4 - 1 - q) (q + 1)) (get_or all i other)
            (subst (λ (p : ℕ). walked_by (entry_at s p) (entries_from s (length s / 4 - 1 - p) (p + 1)) ≡ get_or all i other ∷ []) (sym e) visit.first)

        pub fits_here : Each Fitting all → Fitting x
        fits_here f = subst (λ y. Fitting y) (sym here) (each_at all i f h)

        pub walk-next : {after' : Writer} → Writes after after' (exclusion_line x) → Walked before q (i + 1) after'
        walk-next p =
            record {
              behind = sym (subst (λ (y : ℕ). exclusions_of (entries_behind s y) ≡ drop (i + 1) all) (sym e) visit.rest);
              lines = writes_as
                  (ap (λ (y : Exclusion). exclusion_lines (take i all) ++ exclusion_line y) here ∙ sym (lines_suc all i h)
                  ∙ ap (λ (m : ℕ). exclusion_lines (take m all)) (sym (add-one i)))
                  (writes-joined w.lines p);
            }

  -- and where it ends there is none
  pub walk_over : {before : Writer} {place i : ℕ} {after : Writer} → Walked before place i after → 0 ≡ exclusion_after s place → length all ≤ i
  walk_over {before} {place} {i} w e =
      elim (dec_lt i (length all)) [ yes q ↦ let v = visit w q in absurd (omega (arith, v.before, e)) | no q ↦ omega arith ]

  pub walk_all : {before : Writer} {place i : ℕ} {after : Writer} → Walked before place i after → length all ≤ i
      → Writes before after (exclusion_lines all)
  walk_all {before} {place} {i} w h = writes_as (ap (λ (l : List Exclusion). exclusion_lines l) (take_all i all h)) w.lines

-- ---- what is printed before the script is read

pub opens_accepted : (s : List ℕ) (h : Head) → judge s ≡ Accepted h
    → (exclusion_lines (policy_of s).exclusions ≡ opening_of (judge s) s) × (true ≡ is_accepted (judge s))
unfolding opening_of is_accepted
opens_accepted s h j = (rw j, rw j)

pub opens-refused : (s : List ℕ) (n place : ℕ) → judge s ≡ Refused n place
    → (two_figures n place ≡ opening_of (judge s) s) × (false ≡ is_accepted (judge s))
unfolding opening_of is_accepted
opens-refused s n place j = (rw j, rw j)
