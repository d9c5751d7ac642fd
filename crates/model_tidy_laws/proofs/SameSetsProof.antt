-- The policies of two images are the same exactly if the images, which are accepted, have the same head
-- and the same sets of entries.
-- Assumes nothing.
use mathlib.Core.Path.{◌≡◌, refl, sym, ap, ◌∙◌}
use mathlib.Core.Logic.{◌↔◌}
use mathlib.Core.Bool.{true}
use mathlib.Core.List.{List, Memᴰ}
use Prim.Native.Nat.{ℕ}
use lib.ListN.{get_or}
use Rattle.model.specs.declared.Head.{Head}
use Rattle.model.specs.declared.Exclusion.{Exclusion}
use Rattle.model.specs.declared.Entry.{Entry}
use Rattle.model.specs.declared.Checked.TheVariants.{Accepted}
use Rattle.model.specs.Sets.{has}
use Rattle.model.specs.Image.{word_at, head_of}
use Rattle.model.specs.Policy.{Policy, entries_of, policy_of, limited, excludes}
use Rattle.model.specs.Judgement.{judge}
use Rattle.model.specs.Read.{Said, Excluded, Smallest}
use Rattle.model_tidy.specs.Same.{SameSets, SamePolicy}
use Rattle.model_laws.proofs.Bools.{bool_ext}
use Rattle.model_laws.proofs.Tables.{read_off}
use Rattle.model_laws.proofs.Accepted.{words_entries}
use Rattle.model_laws.proofs.Judgements.{words_pass}
use Rattle.model_limits.proofs.LimitTable.{Matched, limits_matched, limits_read}
use Rattle.model_tidy_laws.proofs.SameTables.{same_policy}
use Rattle.model_laws.proofs.SortedLaws.{any_mem}

module _ (s t : List ℕ) where
  -- what is among the entries is what a word says
  listed : (e : Entry) → Said s e ↔ Said t e → Memᴰ e (entries_of s) ↔ Memᴰ e (entries_of t)
  listed e q = (
    λ m. ((read_off t).entries e).1 (q.0 (((read_off s).entries e).0 m)),
    λ m. ((read_off s).entries e).1 (q.1 (((read_off t).entries e).0 m)),
  )

  -- a limit that a word of s gives is matched by the smallest of its role in t
  matched : (h : Head) → judge s ≡ Accepted h → ((r n : ℕ) → Smallest (entries_of s) r n → Smallest (entries_of t) r n) → Matched (entries_of s) (entries_of t)
  matched h a f r n m =
      let q = limits_read s h (words_pass s h a) in
      let l = (q.is_limited r).1 (n, m) in
      let b = (q.is_limit r (get_or (policy_of s).limits r 0) l).0 refl in
      (get_or (policy_of s).limits r 0, (f r _ b).said, b.least n m)

module _ (s t : List ℕ) (h k : Head) (a : judge s ≡ Accepted h) (b : judge t ≡ Accepted k) where
  same_limits : ((r n : ℕ) → Smallest (entries_of s) r n ↔ Smallest (entries_of t) r n) → (policy_of s).limits ≡ (policy_of t).limits
  unfolding policy_of
  same_limits q =
      limits_matched (head_of (word_at s 0)) (head_of (word_at t 0)) (entries_of s) (entries_of t) (words_entries s h (words_pass s h a))
      (words_entries t k (words_pass t k b)) (matched s t h a (λ r n. (q r n).0)) (matched t s k b (λ r n. (q r n).1))

  pub sets_policy : SameSets s t → SamePolicy (policy_of s) (policy_of t)
  sets_policy q =
      same_policy s t (unfold policy_of in q.heads) (λ u r. listed s t _ (q.assignments u r)) (λ r p. listed s t _ (q.grants r p))
      (λ c d. listed s t _ (q.seniors c d))
      (λ x. unfold excludes in
      bool_ext _ _
      (λ e. (any_mem x (policy_of t).exclusions).1
      (((read_off t).exclusions x).1 ((q.exclusions x).0 (((read_off s).exclusions x).0 ((any_mem x (policy_of s).exclusions).0 e)))))
      (λ e. (any_mem x (policy_of s).exclusions).1
      (((read_off s).exclusions x).1 ((q.exclusions x).1 (((read_off t).exclusions x).0 ((any_mem x (policy_of t).exclusions).0 e))))))
      (same_limits q.limits)

-- what the words of s say, those of t say
said : (s t : List ℕ) {rows rows' : List ℕ} → rows ≡ rows' → (i j : ℕ) {e : Entry} → (has (get_or rows i 0) j ≡ true) ↔ Memᴰ e (entries_of s)
    → (has (get_or rows' i 0) j ≡ true) ↔ Memᴰ e (entries_of t) → Said s e → Said t e
said s t same i j {e} f g m =
    ((read_off t).entries e).0 (g.0 (sym (ap (λ (l : List ℕ). has (get_or l i 0) j) same) ∙ f.1 (((read_off s).entries e).1 m)))

-- and the other way
said_alike : (s t : List ℕ) {rows rows' : List ℕ} → rows ≡ rows' → (i j : ℕ) {e : Entry} → (has (get_or rows i 0) j ≡ true) ↔ Memᴰ e (entries_of s)
    → (has (get_or rows' i 0) j ≡ true) ↔ Memᴰ e (entries_of t) → Said s e ↔ Said t e
said_alike s t same i j f g = (said s t same i j f g, said t s (sym same) i j g f)

module _ (s t : List ℕ) (q : SamePolicy (policy_of s) (policy_of t)) where
  excluded : (x : Exclusion) → Excluded (entries_of s) x → Excluded (entries_of t) x
  unfolding excludes
  excluded x m =
      ((read_off t).exclusions x).0
      ((any_mem x (policy_of t).exclusions).0 (sym (q.exclusions x) ∙ (any_mem x (policy_of s).exclusions).1 (((read_off s).exclusions x).1 m)))

-- the smallest limit of a role in s is that in t
module _ (s t : List ℕ) (h k : Head) (a : judge s ≡ Accepted h) (b : judge t ≡ Accepted k) (same : (policy_of s).limits ≡ (policy_of t).limits) where
  smallest : (r n : ℕ) → Smallest (entries_of s) r n → Smallest (entries_of t) r n
  smallest r n m =
      let l = ((limits_read s h (words_pass s h a)).is_limited r).1 (n, m.said) in
      ((limits_read t k (words_pass t k b)).is_limit r n (ap (λ (ls : List ℕ). limited ls r) (sym same) ∙ l)).0
      (ap (λ (ls : List ℕ). get_or ls r 0) (sym same) ∙ ((limits_read s h (words_pass s h a)).is_limit r n l).1 m)

pub same_back : (p q : Policy) → SamePolicy p q → SamePolicy q p
same_back p q e =
    record {
      heads = sym e.heads;
      assigned = sym e.assigned;
      granted = sym e.granted;
      juniors = sym e.juniors;
      exclusions = λ x. sym (e.exclusions x);
      limits = sym e.limits;
    }

pub same_then : (p q r : Policy) → SamePolicy p q → SamePolicy q r → SamePolicy p r
same_then p q r e f =
    record {
      heads = e.heads ∙ f.heads;
      assigned = e.assigned ∙ f.assigned;
      granted = e.granted ∙ f.granted;
      juniors = e.juniors ∙ f.juniors;
      exclusions = λ x. e.exclusions x ∙ f.exclusions x;
      limits = e.limits ∙ f.limits;
    }

pub policy_sets : (s t : List ℕ) (h k : Head) → judge s ≡ Accepted h → judge t ≡ Accepted k → SamePolicy (policy_of s) (policy_of t) → SameSets s t
policy_sets s t h k u v q =
    let b = same_back (policy_of s) (policy_of t) q in
    let f = read_off s in
    let g = read_off t in
    record {
      heads = unfold policy_of in q.heads;
      assignments = λ w r. said_alike s t q.assigned w r (f.assigned w r) (g.assigned w r);
      grants = λ r p. said_alike s t q.granted r p (f.granted r p) (g.granted r p);
      seniors = λ a c. said_alike s t q.juniors a c (f.juniors a c) (g.juniors a c);
      exclusions = λ x. (excluded s t q x, excluded t s b x);
      limits = λ r n. (smallest s t h k u v q.limits r n, smallest t s k h v u b.limits r n);
    }
