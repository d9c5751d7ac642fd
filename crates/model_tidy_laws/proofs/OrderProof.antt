-- Entries moved about leave an accepted image accepted, its policy and its tidy image the same, and every call's
-- answer.
-- Assumes nothing.
use mathlib.Core.Path.{◌≡◌, refl, sym, ap, ap₂, ◌∙◌, subst}
use mathlib.Core.Logic.{◌↔◌}
use mathlib.Core.List.{List, [], ◌∷◌, ◌++◌, map, append_assoc, Memᴰ}
use Prim.Native.Nat.{ℕ, zero, suc, ◌+◌, ◌*◌, ◌%◌, ◌^◌, ◌≤◌, ◌<◌}
use native.Mathlib.Omega.{arith}
use native.Mathlib.Nat.{le_refl}
use lib.ListN.{length, take, drop, length-append}
use lib.Seq.{take_at, drop_at}
use Rattle.model.specs.declared.Head.{Head}
use Rattle.model.specs.declared.Exclusion.{Exclusion}
use Rattle.model.specs.declared.Entry.{Entry}
use Rattle.model.specs.declared.Entry.TheVariants.{Assignment, Grant, Senior, Limit, End}
use Rattle.model.specs.declared.Checked.TheVariants.{Accepted}
use Rattle.model.specs.Image.{word_at, behind_head, user, role, permission, in_range, repeats, length_right, head_right, head_of, start, decode}
use Rattle.model.specs.Policy.{entries_of, exclusions_of, policy_of, same_exclusion, excludes}
use Rattle.model.specs.Judgement.{judge}
use Rattle.model.specs.OwnWords.{words_from}
use Rattle.model.specs.Ranges.{Each}
use Rattle.model_tidy.specs.Groups.{words_behind, entry_of, member_role, Group, spread, leads, due_behind, Whole, Parted, RightMember, RightGroup, Acceptable}
use Rattle.model_tidy.specs.Same.{SamePolicy}
use Rattle.model_tidy.specs.Order.{Rearranged, none_moved, one_kept, two_swapped, moved_twice, Permuted, SameGroup, Reordered, end_of, OrderFree, Covered}
use Rattle.model_tidy.specs.Unmoved.{moved_length, moved_each, sum_kept}
use Rattle.model_tidy.proofs.Exclusions.{whole_moved}
use Rattle.model_tidy.specs.Tidy.{tidy_of}
use Rattle.model_limits.proofs.LimitTable.{limits_matched}
use Rattle.model_laws.proofs.Eachs.{each_by}
use Rattle.model_tidy_laws.proofs.WordLaws.{bytes_length, head_read, behind_read}
use Rattle.model_tidy_laws.proofs.AcceptableProof.{entries_behind_lem, entries_range, acceptable_of, accepted_of}
use Rattle.model_tidy_laws.proofs.Permutations.{permuted_same, permuted_append, exchanged, permuted_mem, permuted_back, permuted_map, permuted_distinct}
use Rattle.model_tidy_laws.proofs.GroupExclusions.{exclusions_in, exclusions_in_lem}
use Rattle.model_tidy_laws.proofs.ExclusionsMoved.{exclusions_moved, permuted_any}
use Rattle.model_tidy_laws.proofs.SameTables.{same_policy}
use Rattle.model_tidy_laws.proofs.SameLimits.{limits_same}
use Rattle.model_tidy_laws.proofs.AlikeProof.{same_alike}
use Rattle.model_tidy_laws.proofs.TidyProof.{same_tidy}

-- ---- words are parted into whole groups in one way
heads_same : (x y : ℕ) (xs ys : List ℕ) → x ∷ xs ≡ y ∷ ys → x ≡ y
heads_same x y xs ys e = cc

tails_same : (x y : ℕ) (xs ys : List ℕ) → x ∷ xs ≡ y ∷ ys → xs ≡ ys
tails_same x y xs ys e = cc

not_ended : (xs : List ℕ) (x : ℕ) → [] ≡ xs ++ (x ∷ []) → ⊥
not_ended xs x e = omega (arith, ap length e, length-append xs (x ∷ []))

parted_once : (gs ks : List Group) (l m : ℕ) → Each Whole gs → Each Whole ks → spread gs ++ (l ∷ []) ≡ spread ks ++ (m ∷ [])
    → (gs ≡ ks) × (l ≡ m)
unfolding spread
parted_once [] [] l m u v e = (refl, heads_same l m [] [] e)
parted_once [] (k ∷ ks) l m u v e =
    absurd (not_ended (k.members ++ spread ks) m (tails_same l k.word [] ((k.members ++ spread ks) ++ (m ∷ [])) e))
parted_once (g ∷ gs) [] l m u v e =
    absurd (not_ended (g.members ++ spread gs) l (sym (tails_same g.word m ((g.members ++ spread gs) ++ (l ∷ [])) [] e)))
parted_once (g ∷ gs) (k ∷ ks) l m u v e =
    let w = heads_same g.word k.word ((g.members ++ spread gs) ++ (l ∷ [])) ((k.members ++ spread ks) ++ (m ∷ [])) e in
    let n : length g.members ≡ length k.members = u.0 ∙ ap (λ (x : ℕ). due_behind (entry_of x)) w ∙ sym v.0 in
    let r : g.members ++ (spread gs ++ (l ∷ [])) ≡ k.members ++ (spread ks ++ (m ∷ [])) =
    sym (append_assoc g.members (spread gs) (l ∷ []))
    ∙ tails_same g.word k.word ((g.members ++ spread gs) ++ (l ∷ [])) ((k.members ++ spread ks) ++ (m ∷ [])) e
    ∙ append_assoc k.members (spread ks) (m ∷ []) in
    let a : g.members ≡ k.members =
    sym (take_at g.members (spread gs ++ (l ∷ [])) (length k.members) n) ∙ ap (take (length k.members)) r
    ∙ take_at k.members (spread ks ++ (m ∷ [])) (length k.members) refl in
    let b : spread gs ++ (l ∷ []) ≡ spread ks ++ (m ∷ []) =
    sym (drop_at g.members (spread gs ++ (l ∷ [])) (length k.members) n) ∙ ap (drop (length k.members)) r
    ∙ drop_at k.members (spread ks ++ (m ∷ [])) (length k.members) refl in
    let ih = parted_once gs ks l m u.1 v.1 b in
    ((λ i. record { word = w i; members = a i } ∷ ih.0 i), ih.1)

-- ---- the last of the words is the end word
last_word : (s : List ℕ) (n place : ℕ) (xs : List ℕ) (l : ℕ) → words_from s (suc n) place ≡ xs ++ (l ∷ []) → l ≡ word_at s (place + n)
unfolding words_from
last_word s zero place [] l e = sym (heads_same (word_at s place) l [] [] e) ∙ ap (word_at s) (omega arith)
last_word s zero place (x ∷ xs) l e = absurd (not_ended xs l (tails_same (word_at s place) x [] (xs ++ (l ∷ [])) e))
last_word s (suc n) place [] l e = absurd (omega (arith, ap length e))
last_word s (suc n) place (x ∷ xs) l e =
    last_word s n (place + 1) xs l (tails_same (word_at s place) x (words_from s (suc n) (place + 1)) (xs ++ (l ∷ [])) e)
    ∙ ap (word_at s) (omega arith)

parted_end : (s : List ℕ) (p : Parted s) → p.last ≡ end_of s
unfolding words_behind words_from end_of
parted_end s p = go (behind_head s) p.words
  where
    go : (n : ℕ) → words_from s n 1 ≡ spread p.groups ++ (p.last ∷ []) → p.last ≡ word_at s n
    go zero e = absurd (not_ended (spread p.groups) p.last e)
    go (suc n) e = last_word s n 1 (spread p.groups) p.last e ∙ ap (word_at s) (omega arith)

-- ---- groups moved about
-- their words are permuted
pub spread_moved : {gs ks : List Group} → Rearranged Group SameGroup gs ks → Permuted ℕ (spread gs) (spread ks)
unfolding spread
spread_moved none_moved = none_moved
spread_moved (one_kept {xs = gs} {ys = ks} e m) = one_kept e.word (permuted_append ℕ (spread gs) (spread ks) e.members (spread_moved m))
spread_moved (two_swapped {x = g} {y = k} {xs = gs}) = exchanged ℕ (g.word ∷ g.members) (k.word ∷ k.members) (spread gs)
spread_moved (moved_twice m n) = moved_twice (spread_moved m) (spread_moved n)

-- a right group stays right
right_moved : (h : Head) (g k : Group) → SameGroup g k → RightGroup h g → RightGroup h k
right_moved h g k e r =
    record {
      leading = ap (λ (w : ℕ). leads (entry_of w)) (sym e.word) ∙ r.leading;
      spare = ap (λ (w : ℕ). (decode w).spare) (sym e.word) ∙ r.spare;
      range = ap (λ (w : ℕ). in_range h (entry_of w)) (sym e.word) ∙ r.range;
      apart = ap (λ (w : ℕ). repeats start (entry_of w)) (sym e.word) ∙ r.apart;
      whole = whole_moved g k e r.whole;
      members = moved_each ℕ (λ (x y : ℕ). x ≡ y) (RightMember h) (λ x y q. subst (RightMember h) q) e.members r.members;
      distinct = permuted_distinct (permuted_map ℕ ℕ member_role e.members) r.distinct;
    }

module _ (s t : List ℕ) (h : Head) (accepted : judge s ≡ Accepted h) (order : Reordered s t) where
  -- the groups that are moved are those that the judgement finds
  found : Acceptable s h
  found = acceptable_of s h accepted

  parted : (order.from.groups ≡ found.parts.groups) × (order.from.last ≡ found.parts.last)
  parted =
      parted_once order.from.groups found.parts.groups order.from.last found.parts.last order.whole
      (each_by (RightGroup h) Whole (λ g r. r.whole) found.parts.groups found.groups) (sym order.from.words ∙ found.parts.words)

  right_from : Each (RightGroup h) order.from.groups
  right_from = subst (Each (RightGroup h)) (sym parted.0) found.groups

  right_to : Each (RightGroup h) order.to.groups
  right_to = moved_each Group SameGroup (RightGroup h) (right_moved h) order.moved right_from

  end_from : entry_of order.from.last ≡ End
  end_from = ap entry_of parted.1 ∙ found.ends

  end_to : entry_of order.to.last ≡ End
  end_to = ap entry_of (sym order.last) ∙ end_from

  -- the words, and so the entries, are permuted
  words_moved : Permuted ℕ (words_behind s) (words_behind t)
  words_moved =
      subst (λ (l : List ℕ). Permuted ℕ l (words_behind t)) (sym order.from.words)
      (subst (Permuted ℕ (spread order.from.groups ++ (order.from.last ∷ []))) (sym order.to.words)
      (permuted_append ℕ (order.from.last ∷ []) (order.to.last ∷ []) (spread_moved order.moved) (one_kept order.last none_moved)))

  entries_moved : Permuted Entry (entries_of s) (entries_of t)
  entries_moved =
      subst (λ (l : List Entry). Permuted Entry l (entries_of t)) (sym (entries_behind_lem s))
      (subst (Permuted Entry (map entry_of (words_behind s))) (sym (entries_behind_lem t)) (permuted_map ℕ Entry entry_of words_moved))

  said : (e : Entry) → Memᴰ e (entries_of s) ↔ Memᴰ e (entries_of t)
  said e = (permuted_mem Entry e entries_moved, permuted_mem Entry e (permuted_back Entry entries_moved))

  -- the exclusions are permuted
  exclusions_permuted : Permuted Exclusion (policy_of s).exclusions (policy_of t).exclusions
  unfolding policy_of
  exclusions_permuted =
      let a : exclusions_of (entries_of s) ≡ exclusions_in order.from.groups =
      ap exclusions_of (entries_behind_lem s ∙ ap (map entry_of) order.from.words)
      ∙ exclusions_in_lem h order.from.groups order.from.last right_from end_from in
      let b : exclusions_of (entries_of t) ≡ exclusions_in order.to.groups =
      ap exclusions_of (entries_behind_lem t ∙ ap (map entry_of) order.to.words)
      ∙ exclusions_in_lem h order.to.groups order.to.last right_to end_to in
      subst (λ (l : List Exclusion). Permuted Exclusion l (exclusions_of (entries_of t))) (sym a)
      (subst (Permuted Exclusion (exclusions_in order.from.groups)) (sym b) (exclusions_moved order.moved))

  -- the smallest limits are the same
  limits_moved : (policy_of s).limits ≡ (policy_of t).limits
  unfolding policy_of
  limits_moved =
      limits_matched h h (entries_of s) (entries_of t) (entries_range s h order.from right_from end_from)
      (entries_range t h order.to right_to end_to) (λ r n m. (n, (said (Limit (role r) n)).0 m, le_refl n))
      (λ r n m. (n, (said (Limit (role r) n)).1 m, le_refl n))

  -- so the policy is the same
  same_moved : SamePolicy (policy_of s) (policy_of t)
  same_moved =
      same_policy s t (unfold policy_of in ap head_of order.head) (λ u r. said (Assignment (user u) (role r)))
      (λ r p. said (Grant (role r) (permission p))) (λ a b. said (Senior (role a) (role b)))
      (λ x. unfold excludes in permuted_any Exclusion (λ y. same_exclusion y x) exclusions_permuted) limits_moved

  -- and the image is acceptable
  acceptable_moved : Acceptable t h
  acceptable_moved =
      record {
        size = ap length_right (sym order.size) ∙ found.size;
        head = ap head_right (sym order.head) ∙ found.head;
        numbers = ap head_of (sym order.head) ∙ found.numbers;
        parts = order.to;
        groups = right_to;
        ends = end_to;
        limits =
            limits_same (policy_of s) (policy_of t) same_moved
            (subst (λ (n : ℕ). n ≤ 32) (moved_length Exclusion (λ (x y : Exclusion). x ≡ y) exclusions_permuted) found.limits.few_exclusions)
            found.limits;
        balance = ap₂ (λ (w r : ℕ). (w + r) % 2 ^ 28) (sym order.head) (sym (sum_kept words_moved)) ∙ found.balance;
      }

  accepted_moved : judge t ≡ Accepted h
  accepted_moved = accepted_of t h acceptable_moved

  -- Order has no say.
  pub order_free : OrderFree s t h
  order_free =
      record {
        accepted = accepted_moved;
        end = sym (parted_end s order.from) ∙ order.last ∙ parted_end t order.to;
        same = same_moved;
        alike = same_alike s t h h accepted accepted_moved same_moved;
        tidy = unfold tidy_of in same_tidy (policy_of s) (policy_of t) same_moved;
      }

-- Whole groups rearranged make a reordered image.
pub covered : (head : ℕ) (gs ks : List Group) (last : ℕ) → Covered head gs ks last
covered head gs ks last low whole moved =
    let m = permuted_append ℕ (last ∷ []) (last ∷ []) (spread_moved moved) (permuted_same ℕ (last ∷ [])) in
    let low_to = moved_each ℕ (λ (x y : ℕ). x ≡ y) (λ w. w < 2 ^ 32) (λ x y q. subst (λ (w : ℕ). w < 2 ^ 32) q) m low.1 in
    let from = spread gs ++ (last ∷ []) in
    let to = spread ks ++ (last ∷ []) in
    record {
      size =
          bytes_length (head ∷ from) ∙ ap (λ (n : ℕ). 4 * suc n) (moved_length ℕ (λ (x y : ℕ). x ≡ y) m) ∙ sym (bytes_length (head ∷ to));
      head = head_read head from low.0 low.1 ∙ sym (head_read head to low.0 low_to);
      from = record { groups = gs; last = last; words = behind_read head from low.0 low.1 };
      to = record { groups = ks; last = last; words = behind_read head to low.0 low_to };
      whole = whole;
      moved = moved;
      last = refl;
    }
