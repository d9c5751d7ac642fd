-- The group of an exclusion in a tidy image: right by itself, and read as the exclusion.
-- Assumes nothing.
use mathlib.Core.Path.{◌≡◌, refl, sym, ap, ap₂, ◌∙◌, subst}
use mathlib.Core.Logic.{inl, inr}
use mathlib.Core.Bool.{true}
use mathlib.Core.List.Memᴰ
use mathlib.Core.List.{List, [], ◌∷◌, map, Memᴰ, ◌++◌}
use Prim.Native.Nat.{ℕ, suc, ◌^◌, ◌≤◌, ◌<◌}
use native.Mathlib.Nat.{lt_of_lt_of_le}
use native.Mathlib.Omega.{arith}
use lib.Dec.{leb}
use lib.Pow.{pow_pos, pow_mono}
use lib.ListN.{length, length-map, length-append}
use borrow.Author.Tests.{le-leb}
use Rattle.model.specs.declared.Head.{Head}
use Rattle.model.specs.declared.Role.{Role}
use Rattle.model.specs.declared.Exclusion.{Exclusion}
use Rattle.model.specs.declared.Kind.TheVariants.{SsDmer}
use Rattle.model.specs.declared.Word.{Word}
use Rattle.model.specs.declared.Entry.{Entry}
use Rattle.model.specs.declared.Entry.TheVariants.{Exclude, Member}
use Rattle.model.specs.Tests.{between}
use Rattle.model.specs.Sets.{has, count}
use Rattle.model.specs.Image.{role, says, decode, in_range, repeats, start}
use Rattle.model.specs.Words.{exclusion_word, member_word}
use Rattle.model.specs.Policy.{fold, joining, with_members}
use Rattle.model.specs.Ranges.{Each, ExclusionInRange}
use Rattle.model_tidy.specs.Groups.{entry_of, member_role, spread, leads, due_behind, Distinct, RightMember, RightGroup, Group}
use Rattle.model_tidy.specs.Tidy.{members_to, exclusion_group}
use Rattle.model_laws.proofs.Bools.{both, bool_ext, not_both}
use Rattle.model_laws.proofs.SetLaws.{same_members}
use Rattle.model_laws.proofs.UnionLaws.{has_none, has_below}
use Rattle.model_laws.proofs.Tables.{read_off}
use Rattle.model_laws.proofs.Eachs.{each_map, each_mem}
use Rattle.model_tidy_laws.proofs.GroupsFound.{member_role_lem}
use Rattle.model_tidy_laws.proofs.GroupExclusions.{exclusion_in, exclusions_in, joined_below}
use Rattle.model_tidy_laws.proofs.WordLaws.{decode-exclusion, decode_member}
use Rattle.model_laws.proofs.SortedLaws.{weights, kind_below}
use Rattle.model_tidy_laws.proofs.TidyLists.{members_each, members_mem, members-length, members_distinct}

-- ---- member words
pub entry_member : (j : ℕ) → j < 64 → entry_of (member_word j) ≡ Member (role j)
entry_member j l = ap (λ (d : Word). d.entry) (decode_member j l)

pub role_back : (j : ℕ) → j < 64 → member_role (member_word j) ≡ j
role_back j l = sym (member_role_lem (member_word j) (role j) (entry_member j l))

pub roles_back : (js : List ℕ) → Each (λ j. j < 64) js → map member_role (map member_word js) ≡ js
roles_back [] l = refl
roles_back (j ∷ js) l = ap₂ {C = List ℕ} (λ (x : ℕ) (xs : List ℕ). x ∷ xs) (role_back j l.0) (roles_back js l.1)

pub below_64 : (s : ℕ) → Each (λ j. j < 64) (members_to 64 s)
below_64 s = members_each (λ j. j < 64) 64 s (λ j l e. l)

pub member_inj : (r j : ℕ) → Member (role r) ≡ Member (role j) → r ≡ j
member_inj r j e = let q : role r ≡ role j = cc in ap (λ (x : Role). x.0) q

-- the member words of a set, read as the set
pub members_read : (s : ℕ) → s < 2 ^ 64 → fold joining 0 (map entry_of (map member_word (members_to 64 s))) ≡ s
unfolding with_members
members_read s low =
    same_members 64 (fold joining 0 es) s (joined_below (map member_word (members_to 64 s)) 0 (pow_pos 64)) low
    (λ r l. bool_ext (has (fold joining 0 es) r) (has s r) (to r) (from r l))
  where
    es : List Entry
    es = map entry_of (map member_word (members_to 64 s))

    none : Exclusion
    none = record { kind = SsDmer; n = 0; members = 0 }

    of_member : (r : ℕ) → Memᴰ (Member (role r)) es → has s r ≡ true
    of_member r m =
        each_mem (λ (e : Entry). Member (role r) ≡ e → has s r ≡ true) es
        (each_map (λ (e : Entry). Member (role r) ≡ e → has s r ≡ true) entry_of (map member_word (members_to 64 s))
        (each_map (λ w. Member (role r) ≡ entry_of w → has s r ≡ true) member_word (members_to 64 s)
        (members_each (λ j. Member (role r) ≡ entry_of (member_word j) → has s r ≡ true) 64 s
        (λ j l e q. ap (has s) (member_inj r j (q ∙ entry_member j l)) ∙ e)))) (Member (role r)) m refl

    to : (r : ℕ) → has (fold joining 0 es) r ≡ true → has s r ≡ true
    to r e = elim (((read_off []).members none es r).0 e) [ inl a ↦ not_both (has 0 r) a (has_none r) | inr m ↦ of_member r m ]

    from : (r : ℕ) → r < 64 → has s r ≡ true → has (fold joining 0 es) r ≡ true
    from r l e =
        ((read_off []).members none es r).1
        (inr (subst (λ (x : Entry). Memᴰ x es) (entry_member r l) (Memᴰ.map entry_of (Memᴰ.map member_word (members_mem 64 s r l e)))))

-- ---- an exclusion in range
module _ (h : Head) (small : h.roles ≤ 64) (x : Exclusion) (r : ExclusionInRange h.roles x) where
  -- its word
  group_word : decode (exclusion_group x).word ≡ says (Exclude (record { kind = x.kind; n = x.n; members = 0 }) (count 64 x.members)) 0
  unfolding exclusion_group
  group_word =
      let a = r.size.1 in
      let b = r.n.1 in
      decode-exclusion x.kind x.n (count 64 x.members) (omega arith) (omega arith)

  pub group_entry : entry_of (exclusion_group x).word ≡ Exclude (record { kind = x.kind; n = x.n; members = 0 }) (count 64 x.members)
  group_entry = ap (λ (d : Word). d.entry) group_word

  -- read as the exclusion
  pub group_read : (zs : List Exclusion) → exclusion_in (entry_of (exclusion_group x).word) (exclusion_group x).members zs ≡ x ∷ zs
  unfolding exclusion_in
  group_read zs =
      ap (λ (e : Entry). exclusion_in e (exclusion_group x).members zs) group_entry ∙ ap (λ (y : Exclusion). y ∷ zs) whole
    where
      whole : with_members (record { kind = x.kind; n = x.n; members = 0 }) (map entry_of (exclusion_group x).members) ≡ x
      whole =
          unfold with_members exclusion_group in
          (let e = members_read x.members (lt_of_lt_of_le r.members (pow_mono small)) in
          λ i. record { kind = x.kind; n = x.n; members = e i })

  -- right by itself
  pub group_right : RightGroup h (exclusion_group x)
  group_right =
      record {
        leading = unfold leads in ap leads group_entry;
        spare = ap (λ (d : Word). d.spare) group_word;
        range =
            unfold in_range in
            (ap (in_range h) group_entry
            ∙ both _ _ (between-of 1 (count 64 x.members) h.roles (let k = r.size.0 in omega arith) r.size.1)
            (between-of 2 x.n (count 64 x.members) r.n.0 r.n.1));
        apart = unfold repeats in ap (repeats start) group_entry;
        whole =
            unfold due_behind exclusion_group in
            (length-map (members_to 64 x.members) member_word ∙ members-length 64 x.members ∙ sym (ap due_behind group_entry));
        members =
            unfold exclusion_group in
            each_map (RightMember h) member_word (members_to 64 x.members)
            (members_each (λ j. RightMember h (member_word j)) 64 x.members
            (λ j l e.
            record {
              says = entry_member j l ∙ sym (λ i. Member (role (role_back j l i)));
              spare = ap (λ (d : Word). d.spare) (decode_member j l);
              range = subst (λ (n : ℕ). n < h.roles) (sym (role_back j l)) (has_below h.roles x.members j r.members e);
            }));
        distinct =
            unfold exclusion_group in
            subst Distinct (sym (roles_back (members_to 64 x.members) (below_64 x.members))) (members_distinct 64 x.members);
      }
    where
      between-of : (a n b : ℕ) → a ≤ n → n ≤ b → between a n b ≡ true
      between-of a n b l m = both (leb a n) (leb n b) (le-leb a n l) (le-leb n b m)

  -- words of 32 bits
  pub group_low : ((exclusion_group x).word < 2 ^ 32) × Each (λ w. w < 2 ^ 32) (exclusion_group x).members
  unfolding exclusion_group exclusion_word
  group_low =
      let a = r.size.1 in
      let b = r.n.1 in
      let c = kind_below x.kind in (
        omega arith,
        each_map (λ w. w < 2 ^ 32) member_word (members_to 64 x.members)
            (members_each (λ j. member_word j < 2 ^ 32) 64 x.members (λ j l e. unfold member_word in omega arith)),
      )

-- ---- the groups of exclusions in range, before groups that bring none
pub groups_read : (h : Head) → h.roles ≤ 64 → (ks : List Group) → exclusions_in ks ≡ [] → (xs : List Exclusion)
    → Each (ExclusionInRange h.roles) xs → exclusions_in (map exclusion_group xs ++ ks) ≡ xs
unfolding exclusions_in
groups_read h small ks e [] r = e
groups_read h small ks e (x ∷ xs) r =
    group_read h small x r.0 (exclusions_in (map exclusion_group xs ++ ks)) ∙ ap (λ (l : List Exclusion). x ∷ l) (groups_read h small ks e xs r.1)

-- how many words an exclusion takes
abbrev pub words_for : Exclusion → ℕ
words_for x = suc (count 64 x.members)

pub groups_length : (xs : List Exclusion) → length (spread (map exclusion_group xs)) ≡ weights words_for xs
unfolding spread weights exclusion_group
groups_length [] = refl
groups_length (x ∷ xs) =
    let a = length-append (map member_word (members_to 64 x.members)) (spread (map exclusion_group xs)) in
    let b = length-map (members_to 64 x.members) member_word in
    let c = members-length 64 x.members in
    let d = groups_length xs in
    omega arith
