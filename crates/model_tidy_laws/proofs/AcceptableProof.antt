-- An image is accepted exactly if it is acceptable, which goes by no order.
-- Assumes nothing.
use mathlib.Core.Path.{◌≡◌, refl, sym, ap, ◌∙◌, subst}
use mathlib.Core.Logic.{◌↔◌}
use mathlib.Core.Bool.{true}
use mathlib.Core.List.{List, [], ◌∷◌, ◌++◌, map}
use Prim.Native.Nat.{ℕ, zero, suc, ◌+◌, ◌%◌, ◌≤◌}
use native.Mathlib.Nat.{zero-add}
use native.Mathlib.Omega.{arith}
use lib.Dec.{eqb, leb}
use lib.ListN.{length}
use borrow.Author.Tests.{leb-true}
use Rattle.model.specs.declared.Head.{Head}
use Rattle.model.specs.declared.Entry.{Entry}
use Rattle.model.specs.declared.Checked.TheVariants.{Accepted}
use Rattle.model.specs.Tests.{between}
use Rattle.model.specs.Image.{word_at, behind_head, field, is_kind, in_range, head_of, head_right, length_right, empty_rows, start, judge_words}
use Rattle.model.specs.Policy.{entry_at, entries_from, entries_of, exclusions_of, policy_of}
use Rattle.model.specs.Judgement.{judge}
use Rattle.model.specs.Ranges.{Each, OneTo}
use Rattle.model.specs.OwnWords.{words_from}
use Rattle.model_tidy.specs.Groups.{words_behind, entry_of, spread, Acceptable, Parted, RightGroup}
use Rattle.model_laws.proofs.Bools.{and_l, and_r}
use Rattle.model_laws.proofs.Tables.{empty_length}
use Rattle.model_laws.proofs.Accepted.{head_tests, one_to}
use Rattle.model_laws.proofs.Judgements.{judge_is, words_pass, loopless, few_authorized, accepted_in_range}
use Rattle.model_laws.proofs.Eachs.{each_map, nil_of}
use Rattle.model_tidy_laws.proofs.ScanWords.{Scans, Passed, passed_of, words_of}
use Rattle.model_tidy_laws.proofs.Roomy.{Room, room_of}
use Rattle.model_tidy_laws.proofs.GroupsFound.{Ahead, ahead}
use Rattle.model_tidy_laws.proofs.GroupsTaken.{groups_scan, groups_range}
use Rattle.model.specs.declared.Entry.TheVariants.{End}

-- the entries of an image are what its words say
entries_words : (s : List ℕ) (n place : ℕ) → entries_from s n place ≡ map entry_of (words_from s n place)
unfolding entries_from words_from entry_at
entries_words s zero place = refl
entries_words s (suc n) place = ap (λ (l : List Entry). entry_of (word_at s place) ∷ l) (entries_words s n (place + 1))

pub entries_behind_lem : (s : List ℕ) → entries_of s ≡ map entry_of (words_behind s)
unfolding entries_of words_behind
entries_behind_lem s = entries_words s (behind_head s) 1

-- a right head's numbers
pub head_numbers : (w : ℕ) → head_right w ≡ true → OneTo 64 (head_of w).users × OneTo 64 (head_of w).roles × OneTo 256 (head_of w).permissions
unfolding head_of head_right
head_numbers w e =
    let t = head_tests (is_kind w 1) (between 1 (field w 21 7) 64) (between 1 (field w 14 7) 64) (between 1 (field w 5 9) 256) _ e in
    (one_to (field w 21 7) 64 t.0, one_to (field w 14 7) 64 t.1, one_to (field w 5 9) 256 t.2)

-- behind the head of an image of the right length there is a word
some_word : (s : List ℕ) → length_right (length s) ≡ true → (behind_head s ≡ 0 → ⊥)
unfolding length_right behind_head
some_word s e z =
    let n = length s in
    let b = leb-true 8 n (and_l (leb 8 n) (leb n 16384) (and_r (eqb (n % 4) 0) (between 8 n 16384) e)) in
    omega arith

-- the entries of right groups are in range
pub entries_range : (s : List ℕ) (h : Head) (parts : Parted s) → Each (RightGroup h) parts.groups → entry_of parts.last ≡ End
    → Each (λ e. in_range h e ≡ true) (entries_of s)
entries_range s h parts right end =
    subst (Each (λ e. in_range h e ≡ true)) (sym (entries_behind_lem s))
    (each_map (λ e. in_range h e ≡ true) entry_of (words_behind s)
    (subst (Each (λ w. in_range h (entry_of w) ≡ true)) (sym parts.words) (groups_range h parts.groups parts.last right end)))

module _ (s : List ℕ) (h : Head) where
  -- from the judgement to groups
  groups_of : Passed s h → Ahead h start (words_behind s)
  unfolding words_behind words_from
  groups_of p = go (behind_head s) (some_word s p.size) p.scans
    where
      go : (n : ℕ) → (n ≡ 0 → ⊥) → Scans h empty_rows start (words_from s n 1) → Ahead h start (words_from s n 1)
      go zero z c = absurd (z refl)
      go (suc n) z c = ahead h (word_at s 1) (words_from s n 2) empty_rows start c

  pub acceptable_of : judge s ≡ Accepted h → Acceptable s h
  unfolding start
  acceptable_of e =
      let p = passed_of s h (words_pass s h e) in
      let a = groups_of p in
      let r = accepted_in_range s h e in
      record {
        size = p.size;
        head = p.head;
        numbers = p.numbers;
        parts = record {
          groups = a.groups;
          last = a.last;
          words = a.words ∙ ap (λ (l : List ℕ). l ++ (spread a.groups ++ (a.last ∷ []))) (nil_of a.due a.size);
        };
        groups = a.right;
        ends = a.ends;
        limits = record {
          few_roles = r.few_roles;
          few_exclusions = r.few_exclusions;
          loopless = loopless s h e;
          few_authorized = few_authorized s h e;
        };
        balance = p.balance;
      }

  -- from groups to the judgement
  acceptable_room : Acceptable s h → Room empty_rows start (entries_of s)
  unfolding policy_of start
  acceptable_room a =
      let n = subst (λ (k : Head). OneTo 64 k.users × OneTo 64 k.roles × OneTo 256 k.permissions) a.numbers (head_numbers (word_at s 0) a.head) in
      room_of h n.0.1 n.1.1 (entries_of s) empty_rows start empty_length
      (entries_range s h a.parts a.groups a.ends)
      a.limits.few_roles
      (subst (λ (n : ℕ). n ≤ 32) (sym (zero-add (length (exclusions_of (entries_of s))))) a.limits.few_exclusions)

  words_accepted : Acceptable s h → judge_words s ≡ Accepted h
  words_accepted a =
      words_of s h (
      record {
        size = a.size;
        head = a.head;
        numbers = a.numbers;
        scans =
            subst (Scans h empty_rows start) (sym a.parts.words)
            (groups_scan h a.parts.groups a.parts.last empty_rows start (unfold start in refl) a.groups a.ends
            (subst (λ (l : List ℕ). Room empty_rows start (map entry_of l)) a.parts.words
            (subst (Room empty_rows start) (entries_behind_lem s) (acceptable_room a))));
        balance = a.balance;
      }
      )

  pub accepted_of : Acceptable s h → judge s ≡ Accepted h
  accepted_of a = ((judge_is s).accepted h).1 (words_accepted a, a.limits.loopless, a.limits.few_authorized)

  -- Acceptance without order.
  pub acceptable_is : (judge s ≡ Accepted h) ↔ Acceptable s h
  acceptable_is = (acceptable_of, accepted_of)
