-- A tidy image takes no more words than the image: every bit of a table and every exclusion has words of its own there.
-- Assumes nothing.
use mathlib.Core.Path.{◌≡◌, refl, sym, ap, ◌∙◌, ap₂}
use mathlib.Core.Bool.{true, true≢false, Bool, not}
use mathlib.Core.List.{List, [], ◌∷◌, ◌++◌, map, append_assoc, map-append}
use Prim.Native.Nat.{ℕ, zero, suc, ◌+◌, ◌≤◌}
use native.Mathlib.Omega.{arith}
use lib.ListN.{length, get_or, set, replicate, length-append}
use Rattle.model.specs.declared.Head.{Head}
use Rattle.model.specs.declared.Exclusion.{Exclusion}
use Rattle.model.specs.declared.Entry.{Entry}
use Rattle.model.specs.declared.Entry.TheVariants.{Assignment, Grant, Senior, Exclude, Member, End, Unknown, Limit}
use Rattle.model.specs.Sets.{with, count, one}
use Rattle.model.specs.Image.{assigning, empty_rows}
use Rattle.model.specs.Words.{assign_word, grant_word, senior_word, limit_word}
use Rattle.model.specs.Policy.{Policy, granting, ordering, fold, joining, with_members, lesser, limiting, sorted}
use Rattle.model.specs.Ranges.{Each}
use Rattle.model_tidy.specs.Groups.{entry_of, Group, spread, leads, RightMember, RightGroup}
use Rattle.model_tidy.specs.Tidy.{table_groups, exclusion_group, tidy_groups, limit_groups, limited_rows}
use Rattle.model_laws.proofs.TableLaws.{count_empty}
use Rattle.model_tidy_laws.proofs.GroupExclusions.{exclusion_in, exclusions_in, bare_word}
use Rattle.model_laws.proofs.SortedLaws.{weights, weights-sorted}
use Rattle.model_tidy_laws.proofs.TidyLists.{tally, tally_put, count_up, table_length, spread_append}
use Rattle.model_tidy_laws.proofs.TidyExclusions.{words_for, groups_length}
use Rattle.model_tidy_laws.proofs.TidyLimits.{tally_limit}
use borrow.Author.Tests.{eq-eqb}

-- ---- tables
-- the entries that name a bit of a table
alone : List Entry → ℕ
alone [] = 0
alone (Assignment u r ∷ es) = suc (alone es)
alone (Grant r p ∷ es) = suc (alone es)
alone (Senior a b ∷ es) = suc (alone es)
alone (Exclude x m ∷ es) = alone es
alone (Member r ∷ es) = alone es
alone (Limit r t ∷ es) = suc (alone es)
alone (End ∷ es) = alone es
alone (Unknown ∷ es) = alone es

-- are at least as many as the bits
tallies : (es : List Entry) (a g j l : List ℕ)
    → tally 64 (fold assigning a es) + tally 256 (fold granting g es) + tally 64 (fold ordering j es) + tally 1 (limited_rows (fold limiting l es))
    ≤ tally 64 a + tally 256 g + tally 64 j + tally 1 (limited_rows l) + alone es
unfolding fold assigning granting ordering limiting alone
tallies [] a g j l = omega arith
tallies (Assignment u r ∷ es) a g j l =
    let x = tallies es (set a u.0 (with (get_or a u.0 0) r.0)) g j l in
    let y = tally_put 64 a u.0 r.0 in
    omega arith
tallies (Grant r p ∷ es) a g j l =
    let x = tallies es a (set g r.0 (with (get_or g r.0 0) p.0)) j l in
    let y = tally_put 256 g r.0 p.0 in
    omega arith
tallies (Senior b c ∷ es) a g j l =
    let x = tallies es a g (set j b.0 (with (get_or j b.0 0) c.0)) l in
    let y = tally_put 64 j b.0 c.0 in
    omega arith
tallies (Exclude x m ∷ es) a g j l = tallies es a g j l
tallies (Member r ∷ es) a g j l = tallies es a g j l
tallies (Limit r t ∷ es) a g j l =
    let x = tallies es a g j (set l r.0 (lesser (get_or l r.0 0) t)) in
    let y = tally_limit l r.0 (lesser (get_or l r.0 0) t) in
    omega arith
tallies (End ∷ es) a g j l = tallies es a g j l
tallies (Unknown ∷ es) a g j l = tallies es a g j l

tally_filled : (d n : ℕ) → tally d (replicate n 0) ≡ 0
unfolding tally
tally_filled d zero = refl
tally_filled d (suc n) = let a = tally_filled d n in let b = count_empty d in omega arith

rows_filled : (n : ℕ) → limited_rows (replicate n 0) ≡ replicate n 0
unfolding limited_rows
rows_filled zero = refl
rows_filled (suc n) = ap₂ (λ (b : Bool) (l : List ℕ). one (not b) ∷ l) (eq-eqb 0 0 refl) (rows_filled n)

no_limits : tally 1 (limited_rows empty_rows) ≡ 0
unfolding empty_rows
no_limits = ap (tally 1) (rows_filled 64) ∙ tally_filled 1 64

tally_empty : (d : ℕ) → tally d empty_rows ≡ 0
unfolding empty_rows
tally_empty d = tally_filled d 64

-- ---- exclusions
-- a set counts no more members than are put in
joined_up : (s : ℕ) (e : Entry) → count 64 (joining s e) ≤ suc (count 64 s)
unfolding joining
joined_up s (Assignment u r) = omega arith
joined_up s (Grant r p) = omega arith
joined_up s (Senior a b) = omega arith
joined_up s (Exclude x m) = omega arith
joined_up s (Member r) = count_up 64 s r.0
joined_up s (Limit r t) = omega arith
joined_up s End = omega arith
joined_up s Unknown = omega arith

joined-count : (es : List Entry) (s : ℕ) → count 64 (fold joining s es) ≤ count 64 s + length es
unfolding fold
joined-count [] s = omega arith
joined-count (e ∷ es) s = let a = joined-count es (joining s e) in let b = joined_up s e in omega arith

length-entries : (ws : List ℕ) → length (map entry_of ws) ≡ length ws
length-entries [] = refl
length-entries (w ∷ ws) = ap suc (length-entries ws)

module _ (h : Head) where
  -- members name no bit
  alone_members : (ms : List ℕ) (es : List Entry) → Each (RightMember h) ms → alone (map entry_of ms ++ es) ≡ alone es
  unfolding alone
  alone_members [] es m = refl
  alone_members (w ∷ ms) es m = ap (λ (e : Entry). alone (e ∷ (map entry_of ms ++ es))) m.0.says ∙ alone_members ms es m.1

  -- a group has a word for its bit, or those of its exclusion
  group_size : (w : ℕ) (e : Entry) → entry_of w ≡ e → (ms : List ℕ) (es : List Entry) (xs : List Exclusion) → leads e ≡ true
      → Each (RightMember h) ms
      → alone (e ∷ (map entry_of ms ++ es)) + weights words_for (exclusion_in e ms xs) ≤ suc (length ms) + (alone es + weights words_for xs)
  unfolding alone exclusion_in leads weights
  group_size w (Assignment u r) q ms es xs l m = let a = alone_members ms es m in omega arith
  group_size w (Grant r p) q ms es xs l m = let a = alone_members ms es m in omega arith
  group_size w (Senior b c) q ms es xs l m = let a = alone_members ms es m in omega arith
  group_size w (Exclude x k) q ms es xs l m =
      let a = alone_members ms es m in
      let z = bare_word w x k q in
      let b : count 64 (with_members x (map entry_of ms)).members ≤ count 64 x.members + length (map entry_of ms) =
      unfold with_members in joined-count (map entry_of ms) x.members in
      let c : count 64 x.members ≡ 0 = ap (count 64) z ∙ count_empty 64 in
      let d = length-entries ms in
      omega arith
  group_size w (Member r) q ms es xs l m = absurd (true≢false (sym l))
  group_size w (Limit r t) q ms es xs l m = let a = alone_members ms es m in omega arith
  group_size w End q ms es xs l m = absurd (true≢false (sym l))
  group_size w Unknown q ms es xs l m = absurd (true≢false (sym l))

  groups_size : (gs : List Group) (last : ℕ) → Each (RightGroup h) gs → entry_of last ≡ End
      → alone (map entry_of (spread gs ++ (last ∷ []))) + weights words_for (exclusions_in gs) ≤ length (spread gs)
  unfolding spread exclusions_in
  groups_size [] last r e = unfold weights alone in let a = ap (λ (x : Entry). alone (x ∷ [])) e in omega arith
  groups_size (g ∷ gs) last r e =
      let a = group_size g.word (entry_of g.word) refl g.members
      (map entry_of (spread gs ++ (last ∷ []))) (exclusions_in gs) r.0.leading r.0.members in
      let b = groups_size gs last r.1 e in
      let c : map entry_of ((g.members ++ spread gs) ++ (last ∷ [])) ≡ map entry_of g.members ++ map entry_of (spread gs ++ (last ∷ [])) =
      ap (map entry_of) (append_assoc g.members (spread gs) (last ∷ [])) ∙ map-append entry_of g.members (spread gs ++ (last ∷ [])) in
      let d = length-append g.members (spread gs) in
      let f = ap (λ (l : List Entry). alone (entry_of g.word ∷ l)) c in
      omega arith

-- ---- the whole
tidy-length : (p : Policy) → length (spread (tidy_groups p))
    ≡ tally 64 p.assigned
    + (tally 256 p.granted + (tally 64 p.juniors + (weights words_for (sorted p.exclusions) + tally 1 (limited_rows p.limits))))
unfolding tidy_groups limit_groups
tidy-length p =
    let x = table_groups assign_word 64 0 p.assigned in
    let y = table_groups grant_word 256 0 p.granted in
    let z = table_groups senior_word 64 0 p.juniors in
    let v = map exclusion_group (sorted p.exclusions) in
    let w = limit_groups p.limits in
    let a = both_lengths x (y ++ (z ++ (v ++ w))) in
    let b = both_lengths y (z ++ (v ++ w)) in
    let c = both_lengths z (v ++ w) in
    let d = both_lengths v w in
    let e = table_length assign_word 64 p.assigned 0 in
    let f = table_length grant_word 256 p.granted 0 in
    let g = table_length senior_word 64 p.juniors 0 in
    let i = groups_length (sorted p.exclusions) in
    let j = table_length (λ r j. limit_word r (get_or p.limits r 0)) 1 (limited_rows p.limits) 0 in
    omega arith
  where
    both_lengths : (gs ks : List Group) → length (spread (gs ++ ks)) ≡ length (spread gs) + length (spread ks)
    both_lengths gs ks = ap length (spread_append gs ks) ∙ length-append (spread gs) (spread ks)

pub tidy_size : (h : Head) (p : Policy) (gs : List Group) (last : ℕ) → Each (RightGroup h) gs → entry_of last ≡ End
    → p.assigned ≡ fold assigning empty_rows (map entry_of (spread gs ++ (last ∷ [])))
    → p.granted ≡ fold granting empty_rows (map entry_of (spread gs ++ (last ∷ [])))
    → p.juniors ≡ fold ordering empty_rows (map entry_of (spread gs ++ (last ∷ [])))
    → p.limits ≡ fold limiting empty_rows (map entry_of (spread gs ++ (last ∷ []))) → p.exclusions ≡ exclusions_in gs
    → length (spread (tidy_groups p)) ≤ length (spread gs)
tidy_size h p gs last r e ea eg ej el ex =
    let es = map entry_of (spread gs ++ (last ∷ [])) in
    let a = tidy-length p in
    let b = tallies es empty_rows empty_rows empty_rows empty_rows in
    let c = groups_size h gs last r e in
    let d = weights-sorted words_for p.exclusions in
    let f = ap (weights words_for) ex in
    let i = ap (tally 64) ea in
    let j = ap (tally 256) eg in
    let k = ap (tally 64) ej in
    let l = tally_empty 64 in
    let m = tally_empty 256 in
    let n = ap (λ (rows : List ℕ). tally 1 (limited_rows rows)) el in
    let o = no_limits in
    omega arith
