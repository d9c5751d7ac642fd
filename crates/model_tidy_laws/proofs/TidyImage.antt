-- The tidy image of an accepted image: its words, its size, its policy and its acceptance.
-- Assumes nothing.
use mathlib.Core.Path.{◌≡◌, refl, sym, ap, ap₂, ◌∙◌, subst}
use mathlib.Core.Logic.{◌↔◌}
use mathlib.Core.Bool.{true, false}
use mathlib.Core.List.Memᴰ
use mathlib.Core.List.{List, [], ◌∷◌, ◌++◌, map, Memᴰ}
use Prim.Native.Nat.{ℕ, zero, suc, ◌+◌, ◌-◌, ◌*◌, ◌/◌, ◌%◌, ◌^◌, ◌≤◌, ◌<◌}
use native.Mathlib.Nat.{le_trans, le_refl}
use native.Mathlib.Omega.{arith}
use lib.Dec.{eqb, leb}
use lib.ListN.{length, get_or, length-append}
use borrow.Author.Tests.{eq-eqb, leb-true, le-leb}
use Rattle.model.specs.declared.Head.{Head}
use Rattle.model.specs.declared.Exclusion.{Exclusion}
use Rattle.model.specs.declared.Entry.{Entry}
use Rattle.model.specs.declared.Entry.TheVariants.{Assignment, Grant, Senior, End, Limit}
use Rattle.model.specs.declared.Checked.TheVariants.{Accepted}
use Rattle.model.specs.Tests.{any, between}
use Rattle.model.specs.Sets.{has}
use Rattle.model.specs.Image.{word_at, behind_head, user, role, permission, repeats, head_of, head_right, length_right, empty_rows, start, assigning}
use Rattle.model.specs.Words.{head_word, assign_word, grant_word, senior_word, sum_of, end_word, ended, image_bytes, limit_word}
use Rattle.model.specs.Policy.{Policy, granting, ordering, fold, entries_of, exclusions_of, policy_of, same_exclusion, excludes, limited, limiting, sorted}
use Rattle.model.specs.Judgement.{judge}
use Rattle.model.specs.Ranges.{Each, InRange}
use Rattle.model.specs.OwnWords.{words_from}
use Rattle.model_tidy.specs.Groups.{words_behind, entry_of, Group, spread, RightMember, RightGroup, Acceptable}
use Rattle.model_tidy.specs.Same.{SamePolicy}
use Rattle.model_tidy.specs.Tidy.{single, table_groups, tidy_groups, tidy_words, tidy, tidy_of, TidyWords, exclusion_group, limit_groups, limited_rows}
use Rattle.model_laws.proofs.Bools.{both, and_r, bool_ext}
use Rattle.model_laws.proofs.UnionLaws.{has_none}
use Rattle.model_laws.proofs.Tables.{read_off}
use Rattle.model_laws.proofs.Judgements.{accepted-head, accepted_in_range, words_pass}
use Rattle.model_laws.proofs.Eachs.{each_by, each_append, each_map, each_mem}
use Rattle.model_tidy_laws.proofs.AcceptableProof.{entries_behind_lem, acceptable_of, accepted_of, entries_range}
use Rattle.model_tidy_laws.proofs.GroupExclusions.{exclusions_in_lem}
use Rattle.model_tidy_laws.proofs.SameTables.{same_policy}
use Rattle.model_tidy_laws.proofs.SameLimits.{limits_same}
use Rattle.model_tidy_laws.proofs.WordLaws.{head_back, head_right_lem, bytes_length, head_read, behind_read}
use Rattle.model_laws.proofs.SortedLaws.{sorted_mem, any_mem, length-sorted}
use Rattle.model_tidy_laws.proofs.TidyLists.{spread_each, spread_mem}
use Rattle.model_tidy_laws.proofs.TidySize.{tidy_size}
use Rattle.model_tidy_laws.proofs.TidyGroups.{Backed, Fit, TidyWord, word_says, table_written, assigned_word, granted_word, junior_word, groups_right, groups_exclusions, first_low, end_says, words_fit, limit_word_lem}
use Rattle.model.specs.Read.{LimitsRead}
use Rattle.model_limits.proofs.LimitTable.{Matched, limits_matched, limits_read}
use Rattle.model_tidy_laws.proofs.TidyLimits.{limited-row}

-- ---- its bytes are whole words
pub tidy-words : (p : Policy) → TidyWords p
unfolding tidy ended tidy_words
tidy-words p =
    bytes_length (ended (tidy_words p))
    ∙ (let a = length-append (spread (tidy_groups p)) (end_word (sum_of (tidy_words p)) ∷ []) in omega arith)

-- ---- lengths and sums
pub words-length : (l : List ℕ) (n place : ℕ) → length (words_from l n place) ≡ n
unfolding words_from
words-length l zero place = refl
words-length l (suc n) place = ap suc (words-length l n (place + 1))

pub sum_last : (xs : List ℕ) (x : ℕ) → sum_of (xs ++ (x ∷ [])) ≡ sum_of xs + x
unfolding sum_of
sum_last [] x = omega arith
sum_last (y ∷ xs) x = let a = sum_last xs x in omega arith

module _ (s : List ℕ) (h : Head) (accepted : judge s ≡ Accepted h) where
  -- the image's own groups
  found : Acceptable s h
  found = acceptable_of s h accepted

  words_apart : Each (λ w. repeats start (entry_of w) ≡ false) (words_behind s)
  unfolding repeats start
  words_apart =
      subst (Each (λ w. repeats start (entry_of w) ≡ false)) (sym found.parts.words)
      (each_append (λ w. repeats start (entry_of w) ≡ false) (spread found.parts.groups) (found.parts.last ∷ [])
      (spread_each (λ w. repeats start (entry_of w) ≡ false) found.parts.groups
      (each_by (RightGroup h) (λ g. (repeats start (entry_of g.word) ≡ false) × Each (λ w. repeats start (entry_of w) ≡ false) g.members)
      (λ g r. (
        r.apart,
        each_by (RightMember h) (λ w. repeats start (entry_of w) ≡ false) (λ w m. ap (repeats start) m.says ∙ has_none _) g.members r.members,
      ))
      found.parts.groups found.groups))
      (ap (repeats start) found.ends, tt))

  apart : (a b : ℕ) → Memᴰ (Senior (role a) (role b)) (entries_of s) → eqb a b ≡ false
  unfolding repeats
  apart a b m =
      each_mem (λ e. repeats start e ≡ false) (map entry_of (words_behind s)) (each_map (λ e. repeats start e ≡ false) entry_of (words_behind s) words_apart)
      (Senior (role a) (role b)) (subst (Memᴰ (Senior (role a) (role b))) (entries_behind_lem s) m)

  -- ---- its policy
  p : Policy
  p = policy_of s

  rng : InRange p
  unfolding p
  rng = accepted_in_range s h accepted

  -- no role is senior to itself
  p_apart : (a b : ℕ) → has (get_or p.juniors a 0) b ≡ true → eqb a b ≡ false
  unfolding p
  p_apart a b e = apart a b (((read_off s).juniors a b).0 e)

  groups : List Group
  groups = tidy_groups p

  -- ---- the words of the tidy image
  first : ℕ
  first = head_word p.head.users p.head.roles p.head.permissions

  last : ℕ
  last = end_word (sum_of (tidy_words p))

  behind : List ℕ
  behind = spread groups ++ (last ∷ [])

  fits : Each (Fit p) behind
  unfolding behind groups last
  fits = words_fit p rng p_apart (sum_of (tidy_words p))

  lows : Each (λ w. w < 2 ^ 32) behind
  lows = each_by (Fit p) (λ w. w < 2 ^ 32) (λ w f. f.low) behind fits

  image : List ℕ
  image = tidy_of s

  image_words_lem : image ≡ image_bytes (first ∷ behind)
  unfolding image tidy_of tidy ended tidy_words first behind last groups p
  image_words_lem = refl

  image_first : word_at image 0 ≡ first
  unfolding first
  image_first = ap (λ (l : List ℕ). word_at l 0) image_words_lem ∙ head_read first behind (first_low p rng p_apart) lows

  image_behind : words_behind image ≡ behind
  unfolding first
  image_behind = ap words_behind image_words_lem ∙ behind_read first behind (first_low p rng p_apart) lows

  image_entries : entries_of image ≡ map entry_of behind
  image_entries = entries_behind_lem image ∙ ap (map entry_of) image_behind

  last_end : entry_of last ≡ End
  unfolding last
  last_end = end_says p rng p_apart (sum_of (tidy_words p))

  all_right : Each (RightGroup p.head) groups
  unfolding groups
  all_right = groups_right p rng p_apart

  -- ---- its policy is the same
  -- what its entries say, the policy says
  backed : (e : Entry) → Memᴰ e (entries_of image) → Backed p e
  backed e m =
      each_mem (Backed p) (map entry_of behind)
      (each_map (Backed p) entry_of behind (each_by (Fit p) (λ w. Backed p (entry_of w)) (λ w f. f.backed) behind fits)) e
      (subst (Memᴰ e) image_entries m)

  -- what the word of one of its groups says is an entry
  written : (w : ℕ) (e : Entry) → TidyWord p w e → Memᴰ (single w) groups → Memᴰ e (entries_of image)
  unfolding behind
  written w e t m =
      subst (Memᴰ e) (sym image_entries)
      (subst (λ (x : Entry). Memᴰ x (map entry_of behind)) (word_says p w e t)
      (Memᴰ.map entry_of (Memᴰ.append_left (last ∷ []) (spread_mem (single w) groups m))))

  assigned_said : (u r : ℕ) → Memᴰ (Assignment (user u) (role r)) (entries_of s) ↔ Memᴰ (Assignment (user u) (role r)) (entries_of image)
  unfolding groups tidy_groups p
  assigned_said u r = (
    λ m.
        let e = ((read_off s).assigned u r).1 m in
        let word = assigned_word p rng p_apart in
        written (assign_word u r) (Assignment (user u) (role r)) (word u r e).1
        (Memᴰ.append_left _ (table_written p assign_word (λ u r. Assignment (user u) (role r)) 64 p.assigned word u r e)),
    λ m. ((read_off s).assigned u r).0 (backed (Assignment (user u) (role r)) m),
  )

  granted_said : (r q : ℕ) → Memᴰ (Grant (role r) (permission q)) (entries_of s) ↔ Memᴰ (Grant (role r) (permission q)) (entries_of image)
  unfolding groups tidy_groups p
  granted_said r q = (
    λ m.
        let e = ((read_off s).granted r q).1 m in
        let word = granted_word p rng p_apart in
        written (grant_word r q) (Grant (role r) (permission q)) (word r q e).1
        (Memᴰ.append_right (table_groups assign_word 64 0 p.assigned)
        (Memᴰ.append_left _ (table_written p grant_word (λ r m. Grant (role r) (permission m)) 256 p.granted word r q e))),
    λ m. ((read_off s).granted r q).0 (backed (Grant (role r) (permission q)) m),
  )

  juniors_said : (a b : ℕ) → Memᴰ (Senior (role a) (role b)) (entries_of s) ↔ Memᴰ (Senior (role a) (role b)) (entries_of image)
  unfolding groups tidy_groups p
  juniors_said a b = (
    λ m.
        let e = ((read_off s).juniors a b).1 m in
        let word = junior_word p rng p_apart in
        written (senior_word a b) (Senior (role a) (role b)) (word a b e).1
        (Memᴰ.append_right (table_groups assign_word 64 0 p.assigned)
        (Memᴰ.append_right (table_groups grant_word 256 0 p.granted)
        (Memᴰ.append_left _ (table_written p senior_word (λ a b. Senior (role a) (role b)) 64 p.juniors word a b e)))),
    λ m. ((read_off s).juniors a b).0 (backed (Senior (role a) (role b)) m),
  )

  limit_written : (r : ℕ) → limited (policy_of s).limits r ≡ true → Memᴰ (Limit (role r) (get_or (policy_of s).limits r 0)) (entries_of image)
  unfolding groups tidy_groups limit_groups p
  limit_written r e =
      let word = limit_word_lem p rng p_apart in
      let i = limited-row p.limits r e in
      written (limit_word r (get_or p.limits r 0)) (Limit (role r) (get_or p.limits r 0)) (word r 0 i).1
      (Memᴰ.append_right (table_groups assign_word 64 0 p.assigned)
      (Memᴰ.append_right (table_groups grant_word 256 0 p.granted)
      (Memᴰ.append_right (table_groups senior_word 64 0 p.juniors)
      (Memᴰ.append_right (map exclusion_group (sorted p.exclusions))
      (table_written p (λ r j. limit_word r (get_or p.limits r 0)) (λ r j. Limit (role r) (get_or p.limits r 0)) 1 (limited_rows p.limits) word r 0 i)))))

  -- a role's smallest limit stands in both, and the tidy image has no other
  limits_said : (policy_of s).limits ≡ (policy_of image).limits
  unfolding policy_of
  limits_said =
      limits_matched h p.head (entries_of s) (entries_of image) (entries_range s h found.parts found.groups found.ends)
      (entries_range image p.head (record { groups = groups; last = last; words = unfold behind in image_behind }) all_right last_end) there back
    where
      read : LimitsRead s
      read = limits_read s h (words_pass s h accepted)

      there : Matched (entries_of s) (entries_of image)
      there r n m =
          let e = (read.is_limited r).1 (n, m) in
          let w = (read.is_limit r (get_or (policy_of s).limits r 0) e).0 refl in
          (get_or (policy_of s).limits r 0, limit_written r e, w.least n m)

      back : Matched (entries_of image) (entries_of s)
      back r n m =
          let b : Backed p (Limit (role r) n) = backed (Limit (role r) n) m in
          (n, unfold p in ((read.is_limit r n b.0).0 b.1).said, le_refl n)

  image_exclusions : (policy_of image).exclusions ≡ sorted p.exclusions
  unfolding policy_of behind groups
  image_exclusions =
      ap exclusions_of image_entries ∙ exclusions_in_lem p.head groups last all_right last_end ∙ groups_exclusions p rng p_apart

  exclusions_said : (x : Exclusion) → excludes (policy_of s) x ≡ excludes (policy_of image) x
  unfolding excludes p
  exclusions_said x =
      bool_ext (any (λ y. same_exclusion y x) p.exclusions) (any (λ y. same_exclusion y x) (sorted p.exclusions))
      (λ e. (any_mem x (sorted p.exclusions)).1 ((sorted_mem x p.exclusions).1 ((any_mem x p.exclusions).0 e)))
      (λ e. (any_mem x p.exclusions).1 ((sorted_mem x p.exclusions).0 ((any_mem x (sorted p.exclusions)).0 e)))
      ∙ sym (ap (any (λ y. same_exclusion y x)) image_exclusions)

  first_right : head_right first ≡ true
  unfolding first
  first_right = head_right_lem p.head rng.users rng.roles rng.permissions

  first_head : head_of first ≡ p.head
  unfolding first
  first_head = head_back p.head rng.users rng.roles rng.permissions

  image_head : (policy_of s).head ≡ (policy_of image).head
  unfolding policy_of p
  image_head = sym (ap head_of image_first ∙ first_head)

  image_same : SamePolicy (policy_of s) (policy_of image)
  image_same = same_policy s image image_head assigned_said granted_said juniors_said exclusions_said limits_said

  -- ---- its size
  image_length : length image ≡ 4 * (2 + length (spread groups))
  unfolding image tidy_of groups p
  image_length = tidy-words (policy_of s)

  behind-length : length (spread found.parts.groups) + 1 ≡ length s / 4 - 1
  unfolding words_behind behind_head
  behind-length =
      sym (length-append (spread found.parts.groups) (found.parts.last ∷ [])) ∙ ap length (sym found.parts.words)
      ∙ words-length s (behind_head s) 1

  groups_short : length (spread groups) ≤ length (spread found.parts.groups)
  unfolding groups p policy_of
  groups_short =
      let e = entries_behind_lem s ∙ ap (map entry_of) found.parts.words in
      tidy_size h p found.parts.groups found.parts.last found.groups found.ends (ap (fold assigning empty_rows) e)
      (ap (fold granting empty_rows) e) (ap (fold ordering empty_rows) e) (ap (fold limiting empty_rows) e)
      (ap exclusions_of e ∙ exclusions_in_lem h found.parts.groups found.parts.last found.groups found.ends)

  image_short : length image ≤ length s
  image_short = let a = image_length in let b = groups_short in let c = behind-length in omega arith

  image_size : length_right (length image) ≡ true
  unfolding length_right
  image_size =
      let n = length s in
      let a = image_length in
      let b = image_short in
      let c = leb-true n 16384 (and_r (leb 8 n) (leb n 16384) (and_r (eqb (n % 4) 0) (between 8 n 16384) found.size)) in
      both (eqb (length image % 4) 0) (between 8 (length image) 16384) (eq-eqb (length image % 4) 0 (omega arith))
      (both (leb 8 (length image)) (leb (length image) 16384) (le-leb 8 (length image) (omega arith)) (le-leb (length image) 16384 (omega arith)))

  -- ---- it is acceptable
  same_head : p.head ≡ h
  unfolding p
  same_head = accepted-head s h accepted

  image_balance : (word_at image 0 + sum_of (words_behind image)) % 2 ^ 28 ≡ 0
  image_balance =
      ap₂ (λ (a : ℕ) (b : List ℕ). (a + sum_of b) % 2 ^ 28) image_first image_behind ∙ sum
    where
      sum : (first + sum_of behind) % 2 ^ 28 ≡ 0
      sum = unfold behind last first tidy_words sum_of end_word groups in (let a = sum_last (spread groups) last in omega arith)

  image_acceptable : Acceptable image h
  image_acceptable =
      record {
        size = image_size;
        head = ap head_right image_first ∙ first_right;
        numbers = ap head_of image_first ∙ first_head ∙ same_head;
        parts = record { groups = groups; last = last; words = unfold behind in image_behind };
        groups =
            subst (λ (k : Head). Each (RightGroup k) groups) same_head
            all_right;
        ends = last_end;
        limits =
            limits_same (policy_of s) (policy_of image) image_same
            (subst (λ (l : List Exclusion). length l ≤ 32) (sym image_exclusions) (le_trans (length-sorted p.exclusions) rng.few_exclusions))
            found.limits;
        balance = image_balance;
      }

  image_accepted : judge image ≡ Accepted h
  image_accepted = accepted_of image h image_acceptable

  pub tidy_accepted : judge (tidy_of s) ≡ Accepted h
  unfolding image
  tidy_accepted = image_accepted

  pub tidy_same : SamePolicy (policy_of s) (policy_of (tidy_of s))
  unfolding image
  tidy_same = image_same

  pub tidy_short : length (tidy_of s) ≤ length s
  unfolding image
  tidy_short = image_short

  -- it is acceptable by the groups that it is written from
  pub tidy_acceptable : (a : Acceptable (tidy_of s) h) × (a.parts.groups ≡ tidy_groups (policy_of s))
  unfolding image image_acceptable groups p
  tidy_acceptable = (image_acceptable, refl)

  -- no role is senior to itself
  pub none_self : (a b : ℕ) → has (get_or (policy_of s).juniors a 0) b ≡ true → eqb a b ≡ false
  unfolding p
  none_self = p_apart
