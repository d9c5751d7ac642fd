-- The whole entries of a tidy image are arranged: each comes before those behind it, and the members of each ascend.
-- Assumes nothing.
use mathlib.Core.Path.{◌≡◌, refl, sym, ap, ◌∙◌, subst}
use mathlib.Core.Logic.{inl, inr}
use mathlib.Core.Bool.{true, false}
use mathlib.Core.List.{List, [], ◌∷◌, ◌++◌, map}
use Prim.Native.Nat.{ℕ, suc, ◌+◌, ◌≤◌, ◌<◌}
use native.Mathlib.Nat.{zero-add, lt_of_lt_of_le}
use native.Mathlib.Omega.{arith}
use lib.Dec.{eqb}
use lib.Pow.{pow_mono}
use lib.ListN.{get_or}
use Rattle.model.specs.declared.Head.{Head}
use Rattle.model.specs.declared.Exclusion.{Exclusion}
use Rattle.model.specs.declared.Entry.{Entry}
use Rattle.model.specs.declared.Entry.TheVariants.{Assignment, Grant, Senior, Limit}
use Rattle.model.specs.declared.Checked.TheVariants.{Accepted}
use Rattle.model.specs.Sets.{has}
use Rattle.model.specs.Image.{user, role, permission}
use Rattle.model.specs.Words.{assign_word, grant_word, senior_word, limit_word}
use Rattle.model.specs.Policy.{Policy, policy_of, fold, kind_number, before, sorted}
use Rattle.model.specs.Judgement.{judge}
use Rattle.model.specs.Ranges.{Each, InRange, ExclusionInRange, Ascending}
use Rattle.model_laws.proofs.Ranks.{Earlier, earlier_true}
use Rattle.model_laws.proofs.Judgements.{accepted_in_range}
use Rattle.model_tidy.specs.Groups.{member_role, Group}
use Rattle.model_tidy.specs.Tidy.{members_to, single, table_groups, exclusion_group, limited_rows, limit_groups, tidy_groups}
use Rattle.model_tidy.specs.Arranged.{Standing, standing, member_set, standing_of, standing_in, Precedes, Comes, TidyArranged}
use Rattle.model_laws.proofs.Eachs.{each_by, each_append, each_map}
use Rattle.model_laws.proofs.SortedLaws.{ascending-sorted, each_sorted}
use Rattle.model_tidy_laws.proofs.TidyLists.{members_each, table_each}
use Rattle.model_tidy_laws.proofs.TidyOrderProof.{members-ascending}
use Rattle.model_tidy_laws.proofs.TidyExclusions.{members_read, roles_back, below_64, group_entry}
use Rattle.model_tidy_laws.proofs.TidyGroups.{TidyWord, word_says, assigned_word, granted_word, junior_word, limit_word_lem}
use Rattle.model_tidy_laws.proofs.TidyImage.{tidy_acceptable, none_self}
use Rattle.model_tidy_laws.proofs.ArrangedLaws.{ascending_join, ascending_made, sorts_apart}

-- ---- whole entries by where they stand
comes_by : (g k : Group) (x y : Standing) → standing_in g ≡ x → standing_in k ≡ y → Precedes x y → Comes g k
comes_by g k x y p q h = subst (λ (z : Standing). Precedes z (standing_in k)) (sym p) (subst (Precedes x) (sym q) h)

-- a word that stands alone
word_stands : (p : Policy) (w : ℕ) (e : Entry) → TidyWord p w e → standing_in (single w) ≡ standing_of e 0
unfolding standing_in member_set fold
word_stands p w e t = ap (λ (x : Entry). standing_of x 0) (word_says p w e t)

-- ---- a table each of whose bits stands by its row and its column
module _ (word : ℕ → ℕ → ℕ) (d n : ℕ) where
  abbrev Stands : ℕ → ℕ → Type 0
  Stands i j = standing_in (single (word i j)) ≡ standing n i j 0

  row_comes : (row i : ℕ) → ((j : ℕ) → j < d → has row j ≡ true → Stands i j) → Ascending Comes (map (λ j. single (word i j)) (members_to d row))
  row_comes row i f =
      ascending_made Comes ◌<◌ (Stands i) (λ j. single (word i j))
      (λ j k p q l. comes_by (single (word i j)) (single (word i k)) (standing n i j 0) (standing n i k 0) p q (inr (refl, inr (refl, inl l))))
      (members_to d row) (members_each (Stands i) d row f) (members-ascending d row)

  table_comes : (rows : List ℕ) (i : ℕ) → ((k j : ℕ) → j < d → has (get_or rows k 0) j ≡ true → Stands (i + k) j) → Ascending Comes (table_groups word d i rows)
  unfolding table_groups
  table_comes [] i f = tt
  table_comes (row ∷ rows) i f =
      let here : (j : ℕ) → j < d → has row j ≡ true → Stands i j =
      λ j l e. let q : i + 0 ≡ i = omega arith in subst (λ (m : ℕ). Stands m j) q (f 0 j l e) in
      let below : (k j : ℕ) → j < d → has (get_or rows k 0) j ≡ true → Stands (suc i + k) j =
      λ k j l e. let q : i + suc k ≡ suc i + k = omega arith in subst (λ (m : ℕ). Stands m j) q (f (suc k) j l e) in
      ascending_join Comes (map (λ j. single (word i j)) (members_to d row)) (table_groups word d (suc i) rows) (row_comes row i here)
      (table_comes rows (suc i) below)
      (each_map (λ g. Each (Comes g) (table_groups word d (suc i) rows)) (λ j. single (word i j)) (members_to d row)
      (members_each (λ j. Each (Comes (single (word i j))) (table_groups word d (suc i) rows)) d row
      (λ j l e. table_each word d (Comes (single (word i j))) rows (suc i)
      (λ k m b c. comes_by (single (word i j)) (single (word (suc i + k) m)) (standing n i j 0) (standing n (suc i + k) m 0) (here j l e) (below k m b c)
      (inr (refl, inl (omega arith)))))))

  -- all of it is of one sort, and no group has members
  table_sort : (rows : List ℕ) → ((k j : ℕ) → j < d → has (get_or rows k 0) j ≡ true → Stands k j)
      → Each (λ g. ((standing_in g).sort ≡ n) × Ascending ◌<◌ (map member_role g.members)) (table_groups word d 0 rows)
  table_sort rows f =
      table_each word d (λ g. ((standing_in g).sort ≡ n) × Ascending ◌<◌ (map member_role g.members)) rows 0
      (λ k j l e. subst (λ (m : ℕ). ((standing_in (single (word m j))).sort ≡ n) × Unit {0}) (sym (zero-add k))
      (ap (λ (x : Standing). x.sort) (f k j l e), tt))

  table_whole : (rows : List ℕ) → ((k j : ℕ) → j < d → has (get_or rows k 0) j ≡ true → Stands k j) → Ascending Comes (table_groups word d 0 rows)
  table_whole rows f = table_comes rows 0 (λ k j l e. subst (λ (m : ℕ). Stands m j) (sym (zero-add k)) (f k j l e))

-- ---- exclusions
exclusion_stands : (h : Head) → h.roles ≤ 64 → (x : Exclusion) → ExclusionInRange h.roles x
    → standing_in (exclusion_group x) ≡ standing 5 (kind_number x.kind) x.n x.members
unfolding standing_in standing_of member_set exclusion_group
exclusion_stands h small x r =
    ap (λ (e : Entry). standing_of e (member_set (exclusion_group x).members)) (group_entry h small x r)
    ∙ (let q : member_set (exclusion_group x).members ≡ x.members = members_read x.members (lt_of_lt_of_le r.members (pow_mono small)) in
    λ i. standing 5 (kind_number x.kind) x.n (q i))

by_earlier : (p q x y s t : ℕ) → Earlier p q x y s t → Precedes (standing 5 p x s) (standing 5 q y t)
by_earlier p q x y s t (inl h) = inr (refl, inl h)
by_earlier p q x y s t (inr (e, inl h)) = inr (refl, inr (e, inl h))
by_earlier p q x y s t (inr (e, inr (d, h))) = inr (refl, inr (e, inr (d, h)))

exclusions_come : (h : Head) → h.roles ≤ 64 → (xs : List Exclusion) → Each (ExclusionInRange h.roles) xs
    → Ascending Comes (map exclusion_group (sorted xs))
exclusions_come h small xs r =
    ascending_made Comes (λ x y. before x y ≡ true) (ExclusionInRange h.roles) exclusion_group
    (λ x y p q l. comes_by (exclusion_group x) (exclusion_group y) _ _ (exclusion_stands h small x p) (exclusion_stands h small y q)
    (by_earlier (kind_number x.kind) (kind_number y.kind) x.n y.n x.members y.members (earlier_true _ _ _ _ _ _ (unfold before in l))))
    (sorted xs) (each_sorted (ExclusionInRange h.roles) xs r) (ascending-sorted xs)

exclusions_sort : (h : Head) → h.roles ≤ 64 → (xs : List Exclusion) → Each (ExclusionInRange h.roles) xs
    → Each (λ g. ((standing_in g).sort ≡ 5) × Ascending ◌<◌ (map member_role g.members)) (map exclusion_group (sorted xs))
exclusions_sort h small xs r =
    each_map (λ g. ((standing_in g).sort ≡ 5) × Ascending ◌<◌ (map member_role g.members)) exclusion_group (sorted xs)
    (each_by (ExclusionInRange h.roles) (λ x. ((standing_in (exclusion_group x)).sort ≡ 5) × Ascending ◌<◌ (map member_role (exclusion_group x).members))
    (λ x q. (ap (λ (x : Standing). x.sort) (exclusion_stands h small x q), ascending_roles x)) (sorted xs) (each_sorted (ExclusionInRange h.roles) xs r))
  where
    ascending_roles : (x : Exclusion) → Ascending ◌<◌ (map member_role (exclusion_group x).members)
    ascending_roles x =
        unfold exclusion_group in
        (subst (Ascending ◌<◌) (sym (roles_back (members_to 64 x.members) (below_64 x.members))) (members-ascending 64 x.members))

-- ---- all of them, for a policy in range
module _ (p : Policy) (rng : InRange p) (apart : (a b : ℕ) → has (get_or p.juniors a 0) b ≡ true → eqb a b ≡ false) where
  abbrev Fine : ℕ → Group → Type 0
  Fine n g = ((standing_in g).sort ≡ n) × Ascending ◌<◌ (map member_role g.members)

  assigned_stand : (k j : ℕ) → j < 64 → has (get_or p.assigned k 0) j ≡ true → Stands assign_word 64 2 k j
  unfolding standing_of
  assigned_stand k j l e = word_stands p (assign_word k j) (Assignment (user k) (role j)) (assigned_word p rng apart k j e).1

  granted_stand : (k j : ℕ) → j < 256 → has (get_or p.granted k 0) j ≡ true → Stands grant_word 256 3 k j
  unfolding standing_of
  granted_stand k j l e = word_stands p (grant_word k j) (Grant (role k) (permission j)) (granted_word p rng apart k j e).1

  junior_stand : (k j : ℕ) → j < 64 → has (get_or p.juniors k 0) j ≡ true → Stands senior_word 64 4 k j
  unfolding standing_of
  junior_stand k j l e = word_stands p (senior_word k j) (Senior (role k) (role j)) (junior_word p rng apart k j e).1

  limit_stand : (k j : ℕ) → j < 1 → has (get_or (limited_rows p.limits) k 0) j ≡ true → Stands (λ r j. limit_word r (get_or p.limits r 0)) 1 7 k j
  unfolding standing_of
  limit_stand k j l e =
      word_stands p (limit_word k (get_or p.limits k 0)) (Limit (role k) (get_or p.limits k 0)) (limit_word_lem p rng apart k j e).1
      ∙ (let q : 0 ≡ j = omega arith in λ i. standing 7 k (q i) 0)

  -- the five sorts
  abbrev assignments : List Group
  assignments = table_groups assign_word 64 0 p.assigned

  abbrev grants : List Group
  grants = table_groups grant_word 256 0 p.granted

  abbrev seniors : List Group
  seniors = table_groups senior_word 64 0 p.juniors

  abbrev exclusions : List Group
  exclusions = map exclusion_group (sorted p.exclusions)

  assignments_fine : Each (Fine 2) assignments
  assignments_fine = table_sort assign_word 64 2 p.assigned assigned_stand

  grants_fine : Each (Fine 3) grants
  grants_fine = table_sort grant_word 256 3 p.granted granted_stand

  seniors_fine : Each (Fine 4) seniors
  seniors_fine = table_sort senior_word 64 4 p.juniors junior_stand

  exclusions_fine : Each (Fine 5) exclusions
  exclusions_fine = exclusions_sort p.head rng.roles.1 p.exclusions rng.exclusions

  limits_fine : Each (Fine 7) (limit_groups p.limits)
  unfolding limit_groups
  limits_fine = table_sort (λ r j. limit_word r (get_or p.limits r 0)) 1 7 (limited_rows p.limits) limit_stand

  limits_come : Ascending Comes (limit_groups p.limits)
  unfolding limit_groups
  limits_come = table_whole (λ r j. limit_word r (get_or p.limits r 0)) 1 7 (limited_rows p.limits) limit_stand

  -- what is of sort n stands behind the sorts below
  above : (m n : ℕ) → m < n → (gs : List Group) → Each (Fine n) gs → Each (λ g. m < (standing_in g).sort) gs
  above m n l gs e = each_by (Fine n) (λ g. m < (standing_in g).sort) (λ g w. omega (arith, w.0)) gs e

  in-front : (n : ℕ) (gs ks : List Group) → Each (Fine n) gs → Ascending Comes gs → Each (λ g. n < (standing_in g).sort) ks → Ascending Comes ks
      → Ascending Comes (gs ++ ks)
  in-front n gs ks f a over b =
      ascending_join Comes gs ks a b (sorts_apart n gs ks (each_by (Fine n) (λ g. (standing_in g).sort ≡ n) (λ g w. w.0) gs f) over)

  two : (n : ℕ) (gs ks : List Group) → Each (λ g. n < (standing_in g).sort) gs → Each (λ g. n < (standing_in g).sort) ks
      → Each (λ g. n < (standing_in g).sort) (gs ++ ks)
  two n gs ks = each_append (λ g. n < (standing_in g).sort) gs ks

  pub groups_come : Ascending Comes (tidy_groups p)
  unfolding tidy_groups
  groups_come =
      let limits = limit_groups p.limits in
      let o : (m n : ℕ) → m < n → (gs : List Group) → Each (Fine n) gs → Each (λ g. m < (standing_in g).sort) gs = above in
      in-front 2 assignments (grants ++ (seniors ++ (exclusions ++ limits))) assignments_fine
      (table_whole assign_word 64 2 p.assigned assigned_stand)
      (two 2 grants (seniors ++ (exclusions ++ limits)) (o 2 3 (omega arith) grants grants_fine)
      (two 2 seniors (exclusions ++ limits) (o 2 4 (omega arith) seniors seniors_fine)
      (two 2 exclusions limits (o 2 5 (omega arith) exclusions exclusions_fine) (o 2 7 (omega arith) limits limits_fine))))
      (in-front 3 grants (seniors ++ (exclusions ++ limits)) grants_fine (table_whole grant_word 256 3 p.granted granted_stand)
      (two 3 seniors (exclusions ++ limits) (o 3 4 (omega arith) seniors seniors_fine)
      (two 3 exclusions limits (o 3 5 (omega arith) exclusions exclusions_fine) (o 3 7 (omega arith) limits limits_fine)))
      (in-front 4 seniors (exclusions ++ limits) seniors_fine (table_whole senior_word 64 4 p.juniors junior_stand)
      (two 4 exclusions limits (o 4 5 (omega arith) exclusions exclusions_fine) (o 4 7 (omega arith) limits limits_fine))
      (in-front 5 exclusions limits exclusions_fine (exclusions_come p.head rng.roles.1 p.exclusions rng.exclusions)
      (o 5 7 (omega arith) limits limits_fine) limits_come)))

  abbrev Up : Group → Type 0
  Up g = Ascending ◌<◌ (map member_role g.members)

  ups : (n : ℕ) (gs : List Group) → Each (Fine n) gs → Each Up gs
  ups n gs e = each_by (Fine n) Up (λ g w. w.1) gs e

  pub groups_up : Each Up (tidy_groups p)
  unfolding tidy_groups
  groups_up =
      let limits = limit_groups p.limits in
      each_append Up assignments (grants ++ (seniors ++ (exclusions ++ limits))) (ups 2 assignments assignments_fine)
      (each_append Up grants (seniors ++ (exclusions ++ limits)) (ups 3 grants grants_fine)
      (each_append Up seniors (exclusions ++ limits) (ups 4 seniors seniors_fine)
      (each_append Up exclusions limits (ups 5 exclusions exclusions_fine) (ups 7 limits limits_fine))))

-- ---- the tidy image of an accepted image
pub tidy_arranged : (s : List ℕ) (h : Head) → judge s ≡ Accepted h → TidyArranged s h
tidy_arranged s h e =
    let (a, q) = tidy_acceptable s h e in
    let rng = accepted_in_range s h e in (
      a,
      record {
        entries = subst (Ascending Comes) (sym q) (groups_come (policy_of s) rng (none_self s h e));
        members = subst (Each (λ g. Ascending ◌<◌ (map member_role g.members))) (sym q) (groups_up (policy_of s) rng (none_self s h e));
      },
    )
