-- Groups moved about have the same exclusions, and a test of some member goes by no order.
-- Assumes nothing.
use mathlib.Core.Path.{◌≡◌, refl, sym, ap, ap₂, ◌∙◌, subst}
use mathlib.Core.Logic.{inl, inr}
use mathlib.Core.Bool.{Bool, true, false, ◌||◌}
use mathlib.Core.List.{List, [], map}
use Prim.Native.Nat.{ℕ, ◌^◌, ◌<◌}
use lib.Pow.{pow_pos}
use Rattle.model.specs.declared.Exclusion.{Exclusion}
use Rattle.model.specs.declared.Entry.{Entry}
use Rattle.model.specs.declared.Entry.TheVariants.{Assignment, Grant, Senior, Exclude, Member, End, Unknown, Limit}
use Rattle.model.specs.Tests.{any}
use Rattle.model.specs.Sets.{has}
use Rattle.model.specs.Image.{role}
use Rattle.model.specs.Policy.{fold, joining, with_members}
use Rattle.model_tidy.specs.Groups.{entry_of, Group}
use Rattle.model_tidy.specs.Order.{Rearranged, none_moved, one_kept, two_swapped, moved_twice, Permuted, SameGroup}
use Rattle.model_laws.proofs.Bools.{bool_ext}
use Rattle.model_laws.proofs.SetLaws.{same_members}
use Rattle.model_laws.proofs.Tables.{read_off}
use Rattle.model_tidy_laws.proofs.GroupExclusions.{exclusion_in, exclusions_in, joined_below, bare_word}
use Rattle.model_tidy_laws.proofs.Permutations.{permuted_same, permuted_map, permuted_mem, permuted_back}

-- ---- the members of an exclusion in any order
members_moved : (x : Exclusion) → x.members ≡ 0 → {ms ns : List ℕ} → Permuted ℕ ms ns
    → with_members x (map entry_of ms) ≡ with_members x (map entry_of ns)
unfolding with_members
members_moved x z {ms} {ns} p =
    let low : x.members < 2 ^ 64 = subst (λ (n : ℕ). n < 2 ^ 64) (sym z) (pow_pos 64) in
    let e : fold joining x.members (map entry_of ms) ≡ fold joining x.members (map entry_of ns) =
    same_members 64 (fold joining x.members (map entry_of ms)) (fold joining x.members (map entry_of ns))
    (joined_below ms x.members low) (joined_below ns x.members low)
    (λ r l. bool_ext _ _ (over r p) (over r (permuted_back ℕ p))) in
    λ i. record { kind = x.kind; n = x.n; members = e i }
  where
    over : (r : ℕ) {us vs : List ℕ} → Permuted ℕ us vs → has (fold joining x.members (map entry_of us)) r ≡ true
        → has (fold joining x.members (map entry_of vs)) r ≡ true
    over r {us} {vs} q t =
        ((read_off []).members x (map entry_of vs) r).1
        (elim (((read_off []).members x (map entry_of us) r).0 t) [
          | inl a ↦ inl a
          | inr a ↦ inr (permuted_mem Entry (Member (role r)) (permuted_map ℕ Entry entry_of q) a)
        ])

-- ---- groups moved about
exclusion_moved : (w : ℕ) (e : Entry) → entry_of w ≡ e → {ms ns : List ℕ} {xs ys : List Exclusion} → Permuted ℕ ms ns → Permuted Exclusion xs ys
    → Permuted Exclusion (exclusion_in e ms xs) (exclusion_in e ns ys)
unfolding exclusion_in
exclusion_moved w (Assignment u r) q p n = n
exclusion_moved w (Grant r s) q p n = n
exclusion_moved w (Senior a b) q p n = n
exclusion_moved w (Exclude x m) q p n = one_kept (members_moved x (bare_word w x m q) p) n
exclusion_moved w (Member r) q p n = n
exclusion_moved w (Limit r t) q p n = n
exclusion_moved w End q p n = n
exclusion_moved w Unknown q p n = n

exclusions_swapped : (e f : Entry) (ms ns : List ℕ) (xs : List Exclusion)
    → Permuted Exclusion (exclusion_in e ms (exclusion_in f ns xs)) (exclusion_in f ns (exclusion_in e ms xs))
unfolding exclusion_in
exclusions_swapped (Assignment u r) f ms ns xs = permuted_same Exclusion (exclusion_in f ns xs)
exclusions_swapped (Grant r s) f ms ns xs = permuted_same Exclusion (exclusion_in f ns xs)
exclusions_swapped (Senior a b) f ms ns xs = permuted_same Exclusion (exclusion_in f ns xs)
exclusions_swapped (Exclude x m) (Assignment u r) ms ns xs = permuted_same Exclusion _
exclusions_swapped (Exclude x m) (Grant u r) ms ns xs = permuted_same Exclusion _
exclusions_swapped (Exclude x m) (Senior u r) ms ns xs = permuted_same Exclusion _
exclusions_swapped (Exclude x m) (Exclude y n) ms ns xs = two_swapped
exclusions_swapped (Exclude x m) (Member r) ms ns xs = permuted_same Exclusion _
exclusions_swapped (Exclude x m) (Limit r t) ms ns xs = permuted_same Exclusion _
exclusions_swapped (Exclude x m) End ms ns xs = permuted_same Exclusion _
exclusions_swapped (Exclude x m) Unknown ms ns xs = permuted_same Exclusion _
exclusions_swapped (Member r) f ms ns xs = permuted_same Exclusion (exclusion_in f ns xs)
exclusions_swapped (Limit r t) f ms ns xs = permuted_same Exclusion (exclusion_in f ns xs)
exclusions_swapped End f ms ns xs = permuted_same Exclusion (exclusion_in f ns xs)
exclusions_swapped Unknown f ms ns xs = permuted_same Exclusion (exclusion_in f ns xs)

pub exclusions_moved : {gs ks : List Group} → Rearranged Group SameGroup gs ks → Permuted Exclusion (exclusions_in gs) (exclusions_in ks)
unfolding exclusions_in
exclusions_moved none_moved = none_moved
exclusions_moved (one_kept {x = g} {y = k} {xs = gs} {ys = ks} e m) =
    subst (λ (w : ℕ). Permuted Exclusion (exclusion_in (entry_of g.word) g.members (exclusions_in gs))
    (exclusion_in (entry_of w) k.members (exclusions_in ks))) e.word
    (exclusion_moved g.word (entry_of g.word) refl e.members (exclusions_moved m))
exclusions_moved (two_swapped {x = g} {y = k} {xs = gs}) =
    exclusions_swapped (entry_of g.word) (entry_of k.word) g.members k.members (exclusions_in gs)
exclusions_moved (moved_twice m n) = moved_twice (exclusions_moved m) (exclusions_moved n)

-- a test of some member goes by no order
pub permuted_any : (A : Type 0) (f : A → Bool) {xs ys : List A} → Permuted A xs ys → any f xs ≡ any f ys
unfolding any
permuted_any A f none_moved = refl
permuted_any A f (one_kept e m) = ap₂ (λ (a b : Bool). a || b) (ap f e) (permuted_any A f m)
permuted_any A f (two_swapped {x = x} {y = y} {xs = xs}) = or_turn (f x) (f y) (any f xs)
  where
    or_turn : (a b c : Bool) → (a || (b || c)) ≡ (b || (a || c))
    or_turn true true c = refl
    or_turn true false c = refl
    or_turn false b c = refl
permuted_any A f (moved_twice m n) = permuted_any A f m ∙ permuted_any A f n
