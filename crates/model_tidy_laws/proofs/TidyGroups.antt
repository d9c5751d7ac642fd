-- The groups of the tidy image of a policy that is in range: each right by itself and backed by the policy, and their
-- exclusions.
-- Assumes nothing.
use mathlib.Core.Path.{◌≡◌, refl, sym, ap, ◌∙◌, subst}
use mathlib.Core.Bool.{true, false}
use mathlib.Core.List.{List, [], ◌∷◌, ◌++◌, map, Memᴰ}
use Prim.Native.Nat.{ℕ, ◌^◌, ◌<◌, ◌≤◌}
use native.Mathlib.Nat.{zero-add, lt_of_lt_of_le}
use native.Mathlib.Omega.{arith}
use lib.Dec.{eqb}
use lib.ListN.{get_or}
use borrow.Author.Tests.{lt-ltb, le-leb}
use Rattle.model.specs.declared.Exclusion.{Exclusion}
use Rattle.model.specs.declared.Word.{Word}
use Rattle.model.specs.declared.Entry.{Entry}
use Rattle.model.specs.declared.Entry.TheVariants.{Assignment, Grant, Senior, Exclude, Member, End, Unknown, Limit}
use Rattle.model.specs.Sets.{has}
use Rattle.model.specs.Image.{user, role, permission, says, decode, in_range, repeats, start}
use Rattle.model.specs.Words.{head_word, assign_word, grant_word, senior_word, end_word, limit_word}
use Rattle.model.specs.Policy.{Policy, limited, sorted}
use Rattle.model.specs.Ranges.{Each, ExclusionInRange, InRange}
use Rattle.model_tidy.specs.Groups.{entry_of, Group, spread, leads, due_behind, RightMember, RightGroup}
use Rattle.model_tidy.specs.Tidy.{single, table_groups, exclusion_group, tidy_groups, limit_groups, limited_rows}
use Rattle.model_laws.proofs.Bools.{both}
use Rattle.model_laws.proofs.Eachs.{each_by, each_two, each_append, each_map}
use Rattle.model_tidy_laws.proofs.GroupExclusions.{exclusion_in, exclusions_in}
use Rattle.model_tidy_laws.proofs.WordLaws.{decode_assignment, decode_grant, decode_senior, decode_end, decode_limit}
use Rattle.model_laws.proofs.SortedLaws.{each_sorted}
use Rattle.model_tidy_laws.proofs.TidyLists.{table_each, table_mem, spread_each}
use Rattle.model_tidy_laws.proofs.TidyExclusions.{group_entry, group_right, group_low, groups_read}
use Rattle.model_tidy_laws.proofs.TidyLimits.{row-limited}

-- ---- what is known of each word and each group

-- the policy says what the entry says
abbrev pub Backed : Policy → Entry → Type 0
Backed p (Assignment u r) = has (get_or p.assigned u.0 0) r.0 ≡ true
Backed p (Grant r m) = has (get_or p.granted r.0 0) m.0 ≡ true
Backed p (Senior a b) = has (get_or p.juniors a.0 0) b.0 ≡ true
Backed p (Exclude x m) = Unit {0}
Backed p (Member r) = Unit {0}
Backed p (Limit r t) = (limited p.limits r.0 ≡ true) × (get_or p.limits r.0 0 ≡ t)
Backed p End = Unit {0}
Backed p Unknown = Unit {0}

-- a word of 32 bits that the policy backs
pub record Fit (p : Policy) (w : ℕ) : Type 0 where
  pub backed : Backed p (entry_of w)
  pub low : w < 2 ^ 32

pub record TidyGroup (p : Policy) (g : Group) : Type 0 where
  pub right : RightGroup p.head g
  pub fit : Fit p g.word × Each (Fit p) g.members

-- a group that brings no exclusion
abbrev Lone : Group → Type 0
Lone g = (zs : List Exclusion) → exclusion_in (entry_of g.word) g.members zs ≡ zs

lones_skipped : (gs ks : List Group) → Each Lone gs → exclusions_in (gs ++ ks) ≡ exclusions_in ks
unfolding exclusions_in
lones_skipped [] ks l = refl
lones_skipped (g ∷ gs) ks l = l.0 (exclusions_in (gs ++ ks)) ∙ lones_skipped gs ks l.1

lones_none : (gs : List Group) → Each Lone gs → exclusions_in gs ≡ []
unfolding exclusions_in
lones_none [] l = refl
lones_none (g ∷ gs) l = l.0 (exclusions_in gs) ∙ lones_none gs l.1

-- a word that stands alone, and what it says
pub record TidyWord (p : Policy) (w : ℕ) (e : Entry) : Type 0 where
  pub decodes : decode w ≡ says e 0
  pub leading : leads e ≡ true
  pub whole : due_behind e ≡ 0
  pub range : in_range p.head e ≡ true
  pub apart : repeats start e ≡ false
  pub backed : Backed p e
  pub low : w < 2 ^ 32
  pub lone : (zs : List Exclusion) → exclusion_in e [] zs ≡ zs

-- it is a group
module _ (p : Policy) (w : ℕ) (e : Entry) (t : TidyWord p w e) where
  pub word_says : entry_of w ≡ e
  word_says = ap (λ (x : Word). x.entry) t.decodes

  word_tidy : TidyGroup p (single w)
  word_tidy =
      record {
        right = record {
          leading = ap leads word_says ∙ t.leading;
          spare = ap (λ (x : Word). x.spare) t.decodes;
          range = ap (in_range p.head) word_says ∙ t.range;
          apart = ap (repeats start) word_says ∙ t.apart;
          whole = sym (ap due_behind word_says ∙ t.whole);
          members = tt;
          distinct = tt;
        };
        fit = (record { backed = subst (Backed p) (sym word_says) t.backed; low = t.low }, tt);
      }

  word_lone : Lone (single w)
  word_lone zs = ap (λ (x : Word). exclusion_in x.entry [] zs) t.decodes ∙ t.lone zs

-- ---- a table each of whose bits has its word
module _ (p : Policy) (word : ℕ → ℕ → ℕ) (entry : ℕ → ℕ → Entry) (d : ℕ) (rows : List ℕ)
    (words : (i j : ℕ) → has (get_or rows i 0) j ≡ true → (j < d) × TidyWord p (word i j) (entry i j)) where
  table_tidy : Each (λ g. TidyGroup p g × Lone g) (table_groups word d 0 rows)
  table_tidy =
      table_each word d (λ g. TidyGroup p g × Lone g) rows 0
      (λ i j l e. subst (λ (n : ℕ). TidyGroup p (single (word n j)) × Lone (single (word n j))) (sym (zero-add i))
      (let t = (words i j e).1 in (word_tidy p (word i j) (entry i j) t, word_lone p (word i j) (entry i j) t)))

  pub table_written : (i j : ℕ) → has (get_or rows i 0) j ≡ true → Memᴰ (single (word i j)) (table_groups word d 0 rows)
  table_written i j e =
      subst (λ (n : ℕ). Memᴰ (single (word n j)) (table_groups word d 0 rows)) (zero-add i) (table_mem word d rows 0 i j (words i j e).0 e)

-- ---- a policy in range, where no role is senior to itself
module _ (p : Policy) (rng : InRange p) (apart : (a b : ℕ) → has (get_or p.juniors a 0) b ≡ true → eqb a b ≡ false) where
  -- the bits of each table
  pub assigned_word : (u r : ℕ) → has (get_or p.assigned u 0) r ≡ true → (r < 64) × TidyWord p (assign_word u r) (Assignment (user u) (role r))
  assigned_word u r e =
      let b = rng.assigned u r e in
      let lu : u < 64 = lt_of_lt_of_le b.0 rng.users.1 in
      let lr : r < 64 = lt_of_lt_of_le b.1 rng.roles.1 in (
        lr,
        record {
          decodes = decode_assignment u r lu lr;
          leading = unfold leads in refl;
          whole = unfold due_behind in refl;
          range = unfold in_range in both _ _ (lt-ltb u p.head.users b.0) (lt-ltb r p.head.roles b.1);
          apart = unfold repeats in refl;
          backed = e;
          low = unfold assign_word in omega arith;
          lone = λ zs. unfold exclusion_in in refl;
        },
      )

  pub granted_word : (r m : ℕ) → has (get_or p.granted r 0) m ≡ true → (m < 256) × TidyWord p (grant_word r m) (Grant (role r) (permission m))
  granted_word r m e =
      let b = rng.granted r m e in
      let lr : r < 64 = lt_of_lt_of_le b.0 rng.roles.1 in
      let lm : m < 256 = lt_of_lt_of_le b.1 rng.permissions.1 in (
        lm,
        record {
          decodes = decode_grant r m lr lm;
          leading = unfold leads in refl;
          whole = unfold due_behind in refl;
          range = unfold in_range in both _ _ (lt-ltb r p.head.roles b.0) (lt-ltb m p.head.permissions b.1);
          apart = unfold repeats in refl;
          backed = e;
          low = unfold grant_word in omega arith;
          lone = λ zs. unfold exclusion_in in refl;
        },
      )

  pub junior_word : (a b : ℕ) → has (get_or p.juniors a 0) b ≡ true → (b < 64) × TidyWord p (senior_word a b) (Senior (role a) (role b))
  junior_word a b e =
      let k = rng.juniors a b e in
      let la : a < 64 = lt_of_lt_of_le k.0 rng.roles.1 in
      let lb : b < 64 = lt_of_lt_of_le k.1 rng.roles.1 in (
        lb,
        record {
          decodes = decode_senior a b la lb;
          leading = unfold leads in refl;
          whole = unfold due_behind in refl;
          range = unfold in_range in both _ _ (lt-ltb a p.head.roles k.0) (lt-ltb b p.head.roles k.1);
          apart = unfold repeats in apart a b e;
          backed = e;
          low = unfold senior_word in omega arith;
          lone = λ zs. unfold exclusion_in in refl;
        },
      )

  limit_right : (r t : ℕ) → r < p.head.roles → 2 ≤ t → t ≤ 256 → in_range p.head (Limit (role r) t) ≡ true
  unfolding in_range
  limit_right r t a b c = both _ _ (lt-ltb r p.head.roles a) (both _ _ (le-leb 2 t b) (le-leb t 256 c))

  limit_low : (r t : ℕ) → r < 64 → t ≤ 256 → limit_word r t < 2 ^ 32
  unfolding limit_word
  limit_low r t a b = omega arith

  pub limit_word_lem : (r j : ℕ) → has (get_or (limited_rows p.limits) r 0) j ≡ true
      → (j < 1) × TidyWord p (limit_word r (get_or p.limits r 0)) (Limit (role r) (get_or p.limits r 0))
  limit_word_lem r j e =
      let b = row-limited p.limits r j e in
      let k = rng.limits r b.1 in
      let t = get_or p.limits r 0 in
      let lr : r < 64 = lt_of_lt_of_le k.0 rng.roles.1 in
      let low : 2 ≤ t = k.1 in
      let high : t ≤ 256 = k.2 in (
        b.0,
        record {
          decodes = decode_limit r t lr (omega arith);
          leading = unfold leads in refl;
          whole = unfold due_behind in refl;
          range = limit_right r t k.0 low high;
          apart = unfold repeats in refl;
          backed = (b.1, refl);
          low = limit_low r t lr high;
          lone = λ zs. unfold exclusion_in in refl;
        },
      )

  -- the exclusions
  ranged : Each (ExclusionInRange p.head.roles) (sorted p.exclusions)
  ranged = each_sorted (ExclusionInRange p.head.roles) p.exclusions rng.exclusions

  exclusion-tidy : Each (TidyGroup p) (map exclusion_group (sorted p.exclusions))
  exclusion-tidy =
      each_map (TidyGroup p) exclusion_group (sorted p.exclusions)
      (each_by (ExclusionInRange p.head.roles) (λ x. TidyGroup p (exclusion_group x)) one (sorted p.exclusions) ranged)
    where
      one : (x : Exclusion) → ExclusionInRange p.head.roles x → TidyGroup p (exclusion_group x)
      one x r =
          let small = rng.roles.1 in
          let q = group_right p.head small x r in
          let l = group_low p.head small x r in
          record {
            right = q;
            fit = (
              record { backed = subst (Backed p) (sym (group_entry p.head small x r)) tt; low = l.0 },
              each_two (RightMember p.head) (λ w. w < 2 ^ 32) (Fit p) (λ w m k. record { backed = subst (Backed p) (sym m.says) tt; low = k })
                  (exclusion_group x).members q.members l.1,
            );
          }

  -- ---- all groups
  -- the tables' groups
  tables_tidy : (gs : List Group) → Each (λ g. TidyGroup p g × Lone g) gs → (ks : List Group) → Each (TidyGroup p) ks → Each (TidyGroup p) (gs ++ ks)
  tables_tidy gs e ks f = each_append (TidyGroup p) gs ks (each_by (λ g. TidyGroup p g × Lone g) (TidyGroup p) (λ g r. r.0) gs e) f

  tables_lone : (gs : List Group) → Each (λ g. TidyGroup p g × Lone g) gs → (ks : List Group) → exclusions_in (gs ++ ks) ≡ exclusions_in ks
  tables_lone gs e ks = lones_skipped gs ks (each_by (λ g. TidyGroup p g × Lone g) Lone (λ g r. r.1) gs e)

  assigned_tidy : Each (λ g. TidyGroup p g × Lone g) (table_groups assign_word 64 0 p.assigned)
  assigned_tidy = table_tidy p assign_word (λ u r. Assignment (user u) (role r)) 64 p.assigned assigned_word

  granted_tidy : Each (λ g. TidyGroup p g × Lone g) (table_groups grant_word 256 0 p.granted)
  granted_tidy = table_tidy p grant_word (λ r m. Grant (role r) (permission m)) 256 p.granted granted_word

  junior_tidy : Each (λ g. TidyGroup p g × Lone g) (table_groups senior_word 64 0 p.juniors)
  junior_tidy = table_tidy p senior_word (λ a b. Senior (role a) (role b)) 64 p.juniors junior_word

  limit_tidy : Each (λ g. TidyGroup p g × Lone g) (limit_groups p.limits)
  unfolding limit_groups
  limit_tidy =
      table_tidy p (λ r j. limit_word r (get_or p.limits r 0)) (λ r j. Limit (role r) (get_or p.limits r 0)) 1 (limited_rows p.limits) limit_word_lem

  pub groups_tidy : Each (TidyGroup p) (tidy_groups p)
  unfolding tidy_groups
  groups_tidy =
      let w = limit_groups p.limits in
      let v = map exclusion_group (sorted p.exclusions) in
      let x = v ++ w in
      let j = table_groups senior_word 64 0 p.juniors in
      let g = table_groups grant_word 256 0 p.granted in
      tables_tidy (table_groups assign_word 64 0 p.assigned) assigned_tidy (g ++ (j ++ x))
      (tables_tidy g granted_tidy (j ++ x) (tables_tidy j junior_tidy x
      (each_append (TidyGroup p) v w exclusion-tidy (each_by (λ g. TidyGroup p g × Lone g) (TidyGroup p) (λ g r. r.0) w limit_tidy))))

  pub groups_right : Each (RightGroup p.head) (tidy_groups p)
  groups_right = each_by (TidyGroup p) (RightGroup p.head) (λ g r. r.right) (tidy_groups p) groups_tidy

  -- their exclusions are the policy's, sorted
  pub groups_exclusions : exclusions_in (tidy_groups p) ≡ sorted p.exclusions
  unfolding tidy_groups
  groups_exclusions =
      let w = limit_groups p.limits in
      let v = map exclusion_group (sorted p.exclusions) in
      let x = v ++ w in
      let j = table_groups senior_word 64 0 p.juniors in
      let g = table_groups grant_word 256 0 p.granted in
      tables_lone (table_groups assign_word 64 0 p.assigned) assigned_tidy (g ++ (j ++ x)) ∙ tables_lone g granted_tidy (j ++ x)
      ∙ tables_lone j junior_tidy x
      ∙ groups_read p.head rng.roles.1 w (lones_none w (each_by (λ g. TidyGroup p g × Lone g) Lone (λ g r. r.1) w limit_tidy))
      (sorted p.exclusions) ranged

  -- ---- the words
  pub first_low : head_word p.head.users p.head.roles p.head.permissions < 2 ^ 32
  unfolding head_word
  first_low = let a = rng.users.1 in let b = rng.roles.1 in let c = rng.permissions.1 in omega arith

  pub end_says : (sum : ℕ) → entry_of (end_word sum) ≡ End
  end_says sum = ap (λ (x : Word). x.entry) (decode_end sum)

  end_low : (sum : ℕ) → end_word sum < 2 ^ 32
  unfolding end_word
  end_low sum = omega arith

  pub words_fit : (sum : ℕ) → Each (Fit p) (spread (tidy_groups p) ++ (end_word sum ∷ []))
  words_fit sum =
      each_append (Fit p) (spread (tidy_groups p)) (end_word sum ∷ [])
      (spread_each (Fit p) (tidy_groups p)
      (each_by (TidyGroup p) (λ g. Fit p g.word × Each (Fit p) g.members) (λ g r. r.fit) (tidy_groups p) groups_tidy))
      (record { backed = subst (Backed p) (sym (end_says sum)) tt; low = end_low sum }, tt)
