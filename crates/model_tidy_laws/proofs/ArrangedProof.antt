-- An accepted image whose whole entries are arranged is its own tidy image.
-- Assumes nothing.
use mathlib.Core.Path.{◌≡◌, refl, sym, ap, ap₂, ◌∙◌, subst}
use mathlib.Core.Logic.{◌⊎◌, inl, inr}
use mathlib.Core.Bool.{true, false, true≢false}
use mathlib.Core.List.{List, [], ◌∷◌, ◌++◌, map, append_assoc, Memᴰ, map-append}
use Prim.Native.Nat.{ℕ, suc, ◌+◌, ◌-◌, ◌*◌, ◌/◌, ◌%◌, ◌^◌, ◌≤◌, ◌<◌}
use native.Mathlib.Nat.{lt_of_lt_of_le, le_of_eq}
use native.Mathlib.Omega.{arith}
use lib.Dec.{eqb, leb}
use lib.Pow.{are_bytes}
use lib.ListN.{get_or, length, length-append, length-map}
use borrow.Author.Tests.{eqb-true, leb-true}
use Rattle.model.specs.declared.Head.{Head}
use Rattle.model.specs.declared.Exclusion.{Exclusion}
use Rattle.model.specs.declared.Entry.{Entry}
use Rattle.model.specs.declared.Entry.TheVariants.{Assignment, Grant, Senior, Exclude, Member, End, Unknown, Limit}
use Rattle.model.specs.declared.Checked.TheVariants.{Accepted}
use Rattle.model.specs.Tests.{between}
use Rattle.model.specs.Sets.{has, count}
use Rattle.model.specs.Image.{word_at, behind_head, user, role, permission, length_right}
use Rattle.model.specs.Words.{head_word, assign_word, grant_word, senior_word, exclusion_word, member_word, limit_word, sum_of, end_word, ended, image_bytes}
use Rattle.model.specs.OwnWords.{words_from}
use Rattle.model.specs.Policy.{Policy, policy_of, entries_of, exclusions_of, with_members, kind_number, limited, sorted}
use Rattle.model.specs.Judgement.{judge}
use Rattle.model.specs.Ranges.{Each, InRange, Ascending}
use Rattle.model.specs.Read.{LimitsRead}
use Rattle.model_laws.proofs.Bools.{and_l, and_r, not_both}
use Rattle.model_laws.proofs.UnionLaws.{has_none}
use Rattle.model_laws.proofs.Tables.{read_off}
use Rattle.model_laws.proofs.Judgements.{accepted_in_range, words_pass, accepted-head}
use Rattle.model_limits.proofs.LimitTable.{limits_read}
use Rattle.model_tidy.specs.Groups.{words_behind, entry_of, member_role, Group, spread, leads, due_behind, RightMember, RightGroup, Acceptable}
use Rattle.model_tidy.specs.Tidy.{members_to, single, table_groups, exclusion_group, limited_rows, limit_groups, tidy_groups, tidy_words, tidy, tidy_of}
use Rattle.model_tidy.specs.Arranged.{Standing, member_set, standing_of, standing_in, Precedes, Comes, Arranged, TidyIs}
use Rattle.model_laws.proofs.Eachs.{each_map, each_mem, mem_each, nil_of}
use Rattle.model_tidy_laws.proofs.AcceptableProof.{entries_behind_lem}
use Rattle.model_tidy_laws.proofs.GroupsFound.{member_role_lem}
use Rattle.model_tidy_laws.proofs.GroupsTaken.{end_spare}
use Rattle.model_tidy_laws.proofs.GroupExclusions.{exclusion_in, exclusions_in, exclusions_in_lem, bare_word}
use Rattle.model_laws.proofs.SortedLaws.{sorted_mem}
use Rattle.model_laws.proofs.Ascendings.{ascending_same}
use Rattle.model_register.proofs.EntriesProof.{word_low}
use Rattle.model_tidy_laws.proofs.TidyLists.{members_each, members_mem, members-length, spread_mem}
use Rattle.model_tidy_laws.proofs.TidyLimits.{limited-row}
use Rattle.model_tidy_laws.proofs.TidyOrderProof.{members-ascending}
use Rattle.model_tidy_laws.proofs.TidyGroups.{table_written, assigned_word, granted_word, junior_word, limit_word_lem}
use Rattle.model_tidy_laws.proofs.TidyImage.{none_self, tidy-words, tidy_short, words-length, sum_last}
use Rattle.model_tidy_laws.proofs.ArrangedLaws.{comes_irrefl, within_same}
use Rattle.model_tidy_laws.proofs.ArrangedWords.{WordFor, word_for, head_for, words_low, words_bytes}
use Rattle.model_tidy_laws.proofs.TidyArranged.{groups_come, tidy_arranged}

-- ---- lists
split_each : {A : Type 0} (P : A → Type 0) (xs ys : List A) → Each P (xs ++ ys) → Each P xs × Each P ys
split_each P [] ys e = (tt, e)
split_each P (x ∷ xs) ys e = let r = split_each P xs ys e.1 in ((e.0, r.0), r.1)

-- what each word of groups has, by groups
spread-parts : (P : ℕ → Type 0) (gs : List Group) → Each P (spread gs) → Each (λ g. P g.word × Each P g.members) gs
unfolding spread
spread-parts P [] e = tt
spread-parts P (g ∷ gs) e = let r = split_each P g.members (spread gs) e.1 in ((e.0, r.0), spread-parts P gs r.1)

-- a member of what a function makes
made_from : {A B : Type 0} (f : A → B) (xs : List A) (y : B) → Memᴰ y (map f xs) → (x : A) × Memᴰ x xs × (y ≡ f x)
made_from {A} {B} f xs y m =
    each_mem (λ (y : B). (x : A) × Memᴰ x xs × (y ≡ f x)) (map f xs)
    (each_map (λ (y : B). (x : A) × Memᴰ x xs × (y ≡ f x)) f xs
    (mem_each (λ (z : A). (x : A) × Memᴰ x xs × (f z ≡ f x)) xs (λ z k. (z, k, refl)))) y m

-- ascending numbers are determined by their members
numbers_same : (xs ys : List ℕ) → Ascending ◌<◌ xs → Ascending ◌<◌ ys → ((z : ℕ) → Memᴰ z xs → Memᴰ z ys)
    → ((z : ℕ) → Memᴰ z ys → Memᴰ z xs) → xs ≡ ys
numbers_same = ascending_same ◌<◌ (λ x y l m. let z : ⊥ = omega arith in z)

-- ---- groups in an ascending list

-- two that stand alike are one
one-standing : (gs : List Group) → Ascending Comes gs → (g k : Group) → Memᴰ g gs → Memᴰ k gs → standing_in g ≡ standing_in k → g ≡ k
one-standing [] a g k m n e = absurd (mathlib.Core.List.Memᴰ.not-nil m)
one-standing (j ∷ gs) a g k m n e = go (mathlib.Core.List.Memᴰ.cases_cons m) (mathlib.Core.List.Memᴰ.cases_cons n) (λ u v. one-standing gs a.1 g k u v e)
  where
    not_behind : (l : Group) → Memᴰ l gs → ¬ (standing_in j ≡ standing_in l)
    not_behind l u q =
        comes_irrefl j (subst (λ (x : Standing). Precedes (standing_in j) x) (sym q) (each_mem (Comes j) gs a.0 l u))

    go : (g ≡ j) ⊎ Memᴰ g gs → (k ≡ j) ⊎ Memᴰ k gs → (Memᴰ g gs → Memᴰ k gs → g ≡ k) → g ≡ k
    go (inl p) (inl q) ih = p ∙ sym q
    go (inl p) (inr v) ih = absurd (not_behind k v (ap standing_in (sym p) ∙ e))
    go (inr u) (inl q) ih = absurd (not_behind g u (ap standing_in (sym q) ∙ sym e))
    go (inr u) (inr v) ih = ih u v

-- an entry that can begin a group, among those of right groups and an end, begins one of them
module _ (h : Head) (last : ℕ) (ends : entry_of last ≡ End) (e : Entry) (lead : leads e ≡ true) where
  no_member : (ms : List ℕ) → Each (RightMember h) ms → ¬ Memᴰ e (map entry_of ms)
  unfolding leads
  no_member ms r m =
      let (w, k, q) = made_from entry_of ms e m in
      true≢false (sym lead ∙ ap leads (q ∙ (each_mem (RightMember h) ms r w k).says))

  begun : (gs : List Group) → Each (RightGroup h) gs → Memᴰ e (map entry_of (spread gs ++ (last ∷ [])))
      → (g : Group) × Memᴰ g gs × (entry_of g.word ≡ e)
  unfolding spread leads
  begun [] r m =
      absurd (elim (mathlib.Core.List.Memᴰ.cases_cons m) [ inl q ↦ true≢false (sym lead ∙ ap leads (q ∙ ends)) | inr k ↦ mathlib.Core.List.Memᴰ.not-nil k ])
  begun (g ∷ gs) r m = go (mathlib.Core.List.Memᴰ.cases_cons m) (λ k. begun gs r.1 k)
    where
      go : (e ≡ entry_of g.word) ⊎ Memᴰ e (map entry_of ((g.members ++ spread gs) ++ (last ∷ [])))
          → (Memᴰ e (map entry_of (spread gs ++ (last ∷ []))) → (k : Group) × Memᴰ k gs × (entry_of k.word ≡ e))
          → (k : Group) × Memᴰ k (g ∷ gs) × (entry_of k.word ≡ e)
      go (inl q) ih = (g, mathlib.Core.List.Memᴰ.head refl, sym q)
      go (inr k) ih =
          let apart =
          ap (map entry_of) (append_assoc g.members (spread gs) (last ∷ [])) ∙ map-append entry_of g.members (spread gs ++ (last ∷ [])) in
          let l = subst (Memᴰ e) apart k in
          elim (mathlib.Core.List.Memᴰ.append_cases (map entry_of g.members) l) [
            | inl u ↦ absurd (no_member g.members r.0.members u)
            | inr u ↦ let (j, v, q) = ih u in (j, mathlib.Core.List.Memᴰ.tail v, q)
          ]

-- the exclusion of a group is among those of the groups
more_exclusions : (e : Entry) (ms : List ℕ) (xs : List Exclusion) (x : Exclusion) → Memᴰ x xs → Memᴰ x (exclusion_in e ms xs)
unfolding exclusion_in
more_exclusions (Assignment u r) ms xs x m = m
more_exclusions (Grant r p) ms xs x m = m
more_exclusions (Senior a b) ms xs x m = m
more_exclusions (Exclude y n) ms xs x m = mathlib.Core.List.Memᴰ.tail m
more_exclusions (Member r) ms xs x m = m
more_exclusions (Limit r t) ms xs x m = m
more_exclusions End ms xs x m = m
more_exclusions Unknown ms xs x m = m

own_exclusion : (gs : List Group) (g : Group) → Memᴰ g gs → (x : Exclusion) (n : ℕ) → entry_of g.word ≡ Exclude x n
    → Memᴰ (with_members x (map entry_of g.members)) (exclusions_in gs)
unfolding exclusions_in exclusion_in
own_exclusion [] g m x n e = absurd (mathlib.Core.List.Memᴰ.not-nil m)
own_exclusion (k ∷ gs) g m x n e = go (mathlib.Core.List.Memᴰ.cases_cons m) (λ u. own_exclusion gs g u x n e)
  where
    here : Memᴰ (with_members x (map entry_of g.members)) (exclusion_in (entry_of g.word) g.members (exclusions_in gs))
    here =
        subst (λ (v : Entry). Memᴰ (with_members x (map entry_of g.members)) (exclusion_in v g.members (exclusions_in gs))) (sym e)
        (mathlib.Core.List.Memᴰ.head refl)

    go : (g ≡ k) ⊎ Memᴰ g gs → (Memᴰ g gs → Memᴰ (with_members x (map entry_of g.members)) (exclusions_in gs))
        → Memᴰ (with_members x (map entry_of g.members)) (exclusion_in (entry_of k.word) k.members (exclusions_in gs))
    go (inl q) ih =
        subst (λ (j : Group). Memᴰ (with_members x (map entry_of g.members)) (exclusion_in (entry_of j.word) j.members (exclusions_in gs))) q here
    go (inr u) ih = more_exclusions (entry_of k.word) k.members (exclusions_in gs) (with_members x (map entry_of g.members)) (ih u)

-- ---- the member words of an exclusion, ascending
module _ (h : Head) (small : h.roles ≤ 64) (x : Exclusion) (bare : x.members ≡ 0) (ms : List ℕ) (right : Each (RightMember h) ms)
    (low : Each (λ w. w < 2 ^ 32) ms) (up : Ascending ◌<◌ (map member_role ms)) where
  abbrev y : Exclusion
  y = with_members x (map entry_of ms)

  of-role : (r : ℕ) → Memᴰ r (map member_role ms) → Memᴰ r (members_to 64 y.members)
  of-role r m =
      let (w, k, q) = made_from member_role ms r m in
      let t = each_mem (RightMember h) ms right w k in
      let said : Memᴰ (Member (role r)) (map entry_of ms) =
      subst (λ (e : Entry). Memᴰ e (map entry_of ms)) (t.says ∙ (λ i. Member (role (sym q i)))) (mathlib.Core.List.Memᴰ.map entry_of k) in
      members_mem 64 y.members r (lt_of_lt_of_le (subst (λ (n : ℕ). n < h.roles) (sym q) t.range) small)
      (((read_off []).members x (map entry_of ms) r).1 (inr said))

  role-of : (r : ℕ) → Memᴰ r (members_to 64 y.members) → Memᴰ r (map member_role ms)
  role-of r m =
      let each = members_each (λ j. has y.members j ≡ true) 64 y.members (λ j l e. e) in
      let b = each_mem (λ j. has y.members j ≡ true) (members_to 64 y.members) each r m in
      elim (((read_off []).members x (map entry_of ms) r).0 b) [
        | inl e ↦ not_both (has 0 r) (ap (λ (s : ℕ). has s r) (sym bare) ∙ e) (has_none r)
        | inr k ↦
            let (w, u, q) = made_from entry_of ms (Member (role r)) k in
            subst (λ (n : ℕ). Memᴰ n (map member_role ms)) (sym (member_role_lem w (role r) (sym q))) (mathlib.Core.List.Memᴰ.map member_role u)
      ]

  roles_are : map member_role ms ≡ members_to 64 y.members
  roles_are = numbers_same (map member_role ms) (members_to 64 y.members) up (members-ascending 64 y.members) of-role role-of

  -- each word is written for its role
  rewritten : (ws : List ℕ) → Each (RightMember h) ws → Each (λ w. w < 2 ^ 32) ws → ws ≡ map member_word (map member_role ws)
  rewritten [] r l = refl
  rewritten (w ∷ ws) r l =
      ap₂ {C = List ℕ} (λ (v : ℕ) (t : List ℕ). v ∷ t) (subst (λ (e : Entry). WordFor e w) r.0.says (word_for w l.0 r.0.spare))
      (rewritten ws r.1 l.1)

  pub members_are : ms ≡ (exclusion_group y).members
  unfolding exclusion_group
  members_are = rewritten ms right low ∙ ap (map member_word) roles_are

  pub members-count : length ms ≡ count 64 y.members
  members-count = sym (length-map ms member_role) ∙ ap length roles_are ∙ members-length 64 y.members

-- ---- an arranged image of bytes
module _ (s : List ℕ) (h : Head) (accepted : judge s ≡ Accepted h) (bytes : are_bytes s ≡ true) (a : Acceptable s h) (o : Arranged s h a) where
  abbrev gs : List Group
  gs = a.parts.groups

  abbrev last : ℕ
  last = a.parts.last

  abbrev p : Policy
  p = policy_of s

  rng : InRange p
  rng = accepted_in_range s h accepted

  apart : (c d : ℕ) → has (get_or p.juniors c 0) d ≡ true → eqb c d ≡ false
  apart = none_self s h accepted

  small : h.roles ≤ 64
  small = subst (λ (k : Head). k.roles ≤ 64) (accepted-head s h accepted) rng.roles.1

  entries_are : entries_of s ≡ map entry_of (spread gs ++ (last ∷ []))
  entries_are = entries_behind_lem s ∙ ap (map entry_of) a.parts.words

  lows : Each (λ w. w < 2 ^ 32) (spread gs ++ (last ∷ []))
  unfolding words_behind
  lows = subst (Each (λ w. w < 2 ^ 32)) a.parts.words (words_low s bytes (behind_head s) 1)

  group_lows : Each (λ g. (g.word < 2 ^ 32) × Each (λ w. w < 2 ^ 32) g.members) gs
  group_lows = spread-parts (λ w. w < 2 ^ 32) gs (split_each (λ w. w < 2 ^ 32) (spread gs) (last ∷ []) lows).0

  said : (g : Group) → Memᴰ g gs → (e : Entry) → entry_of g.word ≡ e → Memᴰ e (entries_of s)
  said g m e q =
      subst (Memᴰ e) (sym entries_are)
      (subst (λ (v : Entry). Memᴰ v (map entry_of (spread gs ++ (last ∷ [])))) q (mathlib.Core.List.Memᴰ.map entry_of
      (mathlib.Core.List.Memᴰ.append_left (last ∷ []) (spread_mem g gs m))))

  read : LimitsRead s
  read = limits_read s h (words_pass s h accepted)

  -- a whole entry of the image is one of the tidy image
  module _ (g : Group) (m : Memᴰ g gs) where
    right : RightGroup h g
    right = each_mem (RightGroup h) gs a.groups g m

    written : (e : Entry) → entry_of g.word ≡ e → WordFor e g.word
    written e q = subst (λ (v : Entry). WordFor v g.word) q (word_for g.word (each_mem _ gs group_lows g m).0 right.spare)

    alone : (e : Entry) → entry_of g.word ≡ e → due_behind e ≡ 0 → (w : ℕ) → g.word ≡ w → g ≡ single w
    alone e q z w t =
        let n = nil_of g.members (right.whole ∙ ap due_behind q ∙ z) in
        λ i. record { word = t i; members = n i }

    in-assignments : (u r : ℕ) → entry_of g.word ≡ Assignment (user u) (role r) → Memᴰ g (tidy_groups p)
    unfolding tidy_groups due_behind
    in-assignments u r q =
        let e = ((read_off s).assigned u r).1 (said g m _ q) in
        subst (λ (k : Group). Memᴰ k (tidy_groups p)) (sym (alone _ q refl (assign_word u r) (written _ q)))
        (mathlib.Core.List.Memᴰ.append_left _ (table_written p assign_word (λ u r. Assignment (user u) (role r)) 64 p.assigned (assigned_word p rng apart)
        u r e))

    in-grants : (r k : ℕ) → entry_of g.word ≡ Grant (role r) (permission k) → Memᴰ g (tidy_groups p)
    unfolding tidy_groups due_behind
    in-grants r k q =
        let e = ((read_off s).granted r k).1 (said g m _ q) in
        subst (λ (k : Group). Memᴰ k (tidy_groups p)) (sym (alone _ q refl (grant_word r k) (written _ q)))
        (mathlib.Core.List.Memᴰ.append_right (table_groups assign_word 64 0 p.assigned)
        (mathlib.Core.List.Memᴰ.append_left _ (table_written p grant_word (λ r m. Grant (role r) (permission m)) 256 p.granted (granted_word p rng apart) r
        k e)))

    in-seniors : (c d : ℕ) → entry_of g.word ≡ Senior (role c) (role d) → Memᴰ g (tidy_groups p)
    unfolding tidy_groups due_behind
    in-seniors c d q =
        let e = ((read_off s).juniors c d).1 (said g m _ q) in
        subst (λ (k : Group). Memᴰ k (tidy_groups p)) (sym (alone _ q refl (senior_word c d) (written _ q)))
        (mathlib.Core.List.Memᴰ.append_right (table_groups assign_word 64 0 p.assigned)
        (mathlib.Core.List.Memᴰ.append_right (table_groups grant_word 256 0 p.granted)
        (mathlib.Core.List.Memᴰ.append_left _ (table_written p senior_word (λ a b. Senior (role a) (role b)) 64 p.juniors (junior_word p rng apart) c d e))))

    -- a role's limit stands once, and so is the smallest
    the_limit : (r t : ℕ) → entry_of g.word ≡ Limit (role r) t → (limited p.limits r ≡ true) × (get_or p.limits r 0 ≡ t)
    unfolding standing_in standing_of leads
    the_limit r t q =
        let l = (read.is_limited r).1 (t, said g m _ q) in
        (l, (read.is_limit r t l).1 (record { said = said g m _ q; least = least }))
      where
        least : (n : ℕ) → Memᴰ (Limit (role r) n) (entries_of s) → t ≤ n
        least n k =
            let (j, u, e) = begun h last a.ends (Limit (role r) n) refl gs a.groups (subst (Memᴰ (Limit (role r) n)) entries_are k) in
            let alike =
            ap (λ (v : Entry). standing_of v (member_set g.members)) q ∙ sym (ap (λ (v : Entry). standing_of v (member_set j.members)) e) in
            let same = one-standing gs o.entries g j m u alike in
            let z : Limit (role r) t ≡ Limit (role r) n = sym q ∙ ap (λ (v : Group). entry_of v.word) same ∙ e in
            let y : t ≡ n = cc in
            le_of_eq y

    in-limits : (r t : ℕ) → entry_of g.word ≡ Limit (role r) t → Memᴰ g (tidy_groups p)
    unfolding tidy_groups limit_groups due_behind
    in-limits r t q =
        let (l, e) = the_limit r t q in
        subst (λ (k : Group). Memᴰ k (tidy_groups p))
        (sym (alone _ q refl (limit_word r (get_or p.limits r 0)) (written _ q ∙ ap (limit_word r) (sym e))))
        (mathlib.Core.List.Memᴰ.append_right (table_groups assign_word 64 0 p.assigned)
        (mathlib.Core.List.Memᴰ.append_right (table_groups grant_word 256 0 p.granted)
        (mathlib.Core.List.Memᴰ.append_right (table_groups senior_word 64 0 p.juniors)
        (mathlib.Core.List.Memᴰ.append_right (map exclusion_group (sorted p.exclusions))
        (table_written p (λ r j. limit_word r (get_or p.limits r 0)) (λ r j. Limit (role r) (get_or p.limits r 0)) 1 (limited_rows p.limits)
        (limit_word_lem p rng apart) r 0
        (limited-row p.limits r l))))))

    exclusion_same : (x : Exclusion) (n : ℕ) → entry_of g.word ≡ Exclude x n → x.members ≡ 0 → Each (λ w. w < 2 ^ 32) g.members
        → Ascending ◌<◌ (map member_role g.members) → g ≡ exclusion_group (with_members x (map entry_of g.members))
    unfolding exclusion_group with_members due_behind
    exclusion_same x n q bare low up =
        let ms = members_are h small x bare g.members right.members low up in
        let c = members-count h small x bare g.members right.members low up in
        let d : length g.members ≡ n = right.whole ∙ ap due_behind q in
        let w = written (Exclude x n) q ∙ ap (exclusion_word (kind_number x.kind) x.n) (sym d ∙ c) in
        λ i. record { word = w i; members = ms i }

    in-exclusions : (x : Exclusion) (n : ℕ) → entry_of g.word ≡ Exclude x n → Memᴰ g (tidy_groups p)
    unfolding tidy_groups
    in-exclusions x n q =
        let bare = bare_word g.word x n q in
        let low_members = (each_mem _ gs group_lows g m).1 in
        let up = each_mem _ gs o.members g m in
        let there = (sorted_mem (with_members x (map entry_of g.members)) p.exclusions).1 policy-has in
        subst (λ (k : Group). Memᴰ k (tidy_groups p)) (sym (exclusion_same x n q bare low_members up))
        (mathlib.Core.List.Memᴰ.append_right (table_groups assign_word 64 0 p.assigned)
        (mathlib.Core.List.Memᴰ.append_right (table_groups grant_word 256 0 p.granted)
        (mathlib.Core.List.Memᴰ.append_right (table_groups senior_word 64 0 p.juniors) (mathlib.Core.List.Memᴰ.append_left (limit_groups p.limits)
        (mathlib.Core.List.Memᴰ.map exclusion_group there)))))
      where
        policy-has : Memᴰ (with_members x (map entry_of g.members)) p.exclusions
        policy-has =
            unfold policy_of in
            (subst (Memᴰ (with_members x (map entry_of g.members))) (sym (ap exclusions_of entries_are ∙ exclusions_in_lem h gs last a.groups a.ends))
            (own_exclusion gs g m x n q))

    kept : Memᴰ g (tidy_groups p)
    unfolding leads
    kept = go (entry_of g.word) refl
      where
        no : {A : Type 0} → leads (entry_of g.word) ≡ false → A
        no e = absurd (true≢false (sym right.leading ∙ e))

        go : (e : Entry) → entry_of g.word ≡ e → Memᴰ g (tidy_groups p)
        go (Assignment u r) q = in-assignments u.0 r.0 q
        go (Grant r k) q = in-grants r.0 k.0 q
        go (Senior c d) q = in-seniors c.0 d.0 q
        go (Exclude x n) q = in-exclusions x n q
        go (Limit r t) q = in-limits r.0 t q
        go (Member r) q = no (ap leads q)
        go End q = no (ap leads q)
        go Unknown q = no (ap leads q)

  -- so they are those of the tidy image, since it has no more words
  behind-length : length (spread gs) + 1 ≡ length s / 4 - 1
  unfolding words_behind behind_head
  behind-length = sym (length-append (spread gs) (last ∷ [])) ∙ ap length (sym a.parts.words) ∙ words-length s (behind_head s) 1

  whole_words : (length s % 4 ≡ 0) × (8 ≤ length s)
  unfolding length_right
  whole_words =
      let n = length s in
      let e = a.size in (
        eqb-true (n % 4) 0 (and_l (eqb (n % 4) 0) (between 8 n 16384) e),
        leb-true 8 n (and_l (leb 8 n) (leb n 16384) (and_r (eqb (n % 4) 0) (between 8 n 16384) e)),
      )

  no_more : length (spread (tidy_groups p)) ≤ length (spread gs)
  unfolding tidy_of
  no_more =
      let b = tidy_short s h accepted in
      let c = tidy-words p in
      let d = behind-length in
      let e = whole_words in
      omega arith

  groups_are : gs ≡ tidy_groups p
  groups_are = within_same (tidy_groups p) gs o.entries (groups_come p rng apart) kept no_more

  -- ---- the words, and the bytes

  first-is : word_at s 0 ≡ head_word p.head.users p.head.roles p.head.permissions
  unfolding policy_of
  first-is = head_for (word_at s 0) (word_low s bytes 0) a.head

  last-is : last ≡ end_word (sum_of (tidy_words p))
  unfolding tidy_words sum_of end_word
  last-is =
      let low = (split_each (λ w. w < 2 ^ 32) (spread gs) (last ∷ []) lows).1.0 in
      let w : last ≡ 15 * 2 ^ 28 + last % 2 ^ 28 =
      subst (λ (e : Entry). WordFor e last) a.ends (word_for last low (end_spare last a.ends)) in
      let t : (word_at s 0 + sum_of (spread gs ++ (last ∷ []))) % 2 ^ 28 ≡ 0 =
      subst (λ (ws : List ℕ). (word_at s 0 + sum_of ws) % 2 ^ 28 ≡ 0) a.parts.words a.balance in
      let f = first-is in
      let l = sum_last (spread gs) last in
      let k : sum_of (spread gs) ≡ sum_of (spread (tidy_groups p)) = ap (λ (gs : List Group). sum_of (spread gs)) groups_are in
      ending last (head_word p.head.users p.head.roles p.head.permissions + sum_of (spread (tidy_groups p))) w
      (let z : word_at s 0 + sum_of (spread gs ++ (last ∷ []))
      ≡ head_word p.head.users p.head.roles p.head.permissions + sum_of (spread (tidy_groups p)) + last = omega arith in
      ap (λ (n : ℕ). n % 2 ^ 28) (sym z) ∙ t)
    where
      ending : (x n : ℕ) → x ≡ 15 * 2 ^ 28 + x % 2 ^ 28 → (n + x) % 2 ^ 28 ≡ 0 → x ≡ 15 * 2 ^ 28 + (2 ^ 28 - n % 2 ^ 28) % 2 ^ 28
      ending x n e t = omega arith

  words_are : word_at s 0 ∷ words_behind s ≡ ended (tidy_words p)
  unfolding ended tidy_words
  words_are =
      ap₂ {C = List ℕ} (λ (w : ℕ) (ws : List ℕ). w ∷ ws) first-is
      (a.parts.words ∙ ap₂ {C = List ℕ} (λ (gs : List Group) (l : ℕ). spread gs ++ (l ∷ [])) groups_are last-is)

  bytes_are : image_bytes (word_at s 0 ∷ words_behind s) ≡ s
  unfolding words_from words_behind behind_head
  bytes_are =
      let e = whole_words in
      words_bytes (suc (length s / 4 - 1)) s bytes (omega arith)

  own_tidy : tidy_of s ≡ s
  unfolding tidy_of tidy
  own_tidy = ap image_bytes (sym words_are) ∙ bytes_are

-- an accepted image of bytes is its own tidy image exactly if its whole entries are arranged
pub tidy_is : (s : List ℕ) (h : Head) → judge s ≡ Accepted h → are_bytes s ≡ true → TidyIs s h
tidy_is s h accepted bytes = (
  λ e. subst (λ (t : List ℕ). (a : Acceptable t h) × Arranged t h a) e (tidy_arranged s h accepted),
  λ (a, o). own_tidy s h accepted bytes a o,
)
