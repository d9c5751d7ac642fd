-- The sets that are left with the first exclusions of a policy: by the search, and where they end.
-- Assumes nothing.
use mathlib.Core.Path.{◌≡◌, refl, sym, ap, subst, ◌∙◌}
use mathlib.Core.Bool.{Bool, true, false}
use mathlib.Core.List.Memᴰ
use mathlib.Core.List.{List, [], ◌∷◌, map, Memᴰ}
use mathlib.Core.Logic.{◌↔◌}
use mathlib.Core.Option.{Option, none, some}
use Prim.Native.Nat.{ℕ, ◌+◌, ◌^◌, ◌≤◌, ◌<◌}
use native.Mathlib.Numerals.{add-one}
use native.Mathlib.Omega.{arith}
use lib.ListN.{length, get_or, take, drop, length-map, take-append-drop}
use lib.Seq.{get_or-take, length-take-le, take-take}
use Rattle.std.proofs.Common.{take_all}
use Rattle.std.proofs.lemmas.List.{take-map}
use Rattle.model.specs.declared.Exclusion.{Exclusion}
use Rattle.model.specs.declared.Exclusions.{Exclusions}
use Rattle.model.specs.declared.Line.{Line}
use Rattle.model.specs.Sets.{within}
use Rattle.model.specs.Policy.{Policy, Meaning, authorized, below_table, reached, carried_table, granter, insert, sorted, meaning}
use Rattle.model.specs.Line.{exclusions_met}
use Rattle.model.specs.Limits.{Others, barred, unbarred}
use Rattle.model.specs.Choice.{admissible}
use Rattle.model.specs.Obstacle.{Obstacle, excluding_only, left, blocking, blocks}
use Rattle.model.specs.Obstacles.{excluding_just}
use Rattle.model_laws.proofs.Barred.{unbarred_below}
use Rattle.model_laws.proofs.Blocking.{not_blocked, blocked_behind}
use Rattle.model_laws.proofs.Bools.{not_both}
use Rattle.model_laws.proofs.ObstacleLaws.{left_is, left_front}
use Rattle.model_laws.proofs.SortedLaws.{sorted_mem}
use Rattle.query.specs.Carry.{Keeps}
use Rattle.query_reduced.specs.Met.{reduced_met}
use Rattle.query_reduced.specs.declared.reduced.ReducedExclusion.{ReducedExclusion}
use Rattle.query_reduced.specs.Reduction.{reduced_for, Reduces}
use Rattle.query_reduced.proofs.Reductions.{reduced_same}
use Rattle.search_steps.specs.Search.{Task}
use Rattle.search.specs.Answer.{Given}
use Rattle.search.proofs.Solved.{fits-of, admits}
use Rattle.asks.specs.Asks.{left_to, Asked}
use Rattle.asks.proofs.Rows.{given-of}
use Rattle.obstacles_blocks.specs.Blocking.{Blocks}
use Rattle.obstacles_blocks.specs.Firsts.{Finds, Ends}
use Rattle.obstacles_blocks.proofs.AnyOrder.{met_among, left-sorted}
use Rattle.obstacles_blocks.proofs.Firsts.{found_one, found_none}

-- the first exclusions of a list
abbrev pub firsts : List Exclusion → ℕ → Exclusions
firsts xs n = record { list = xs; count = n }

-- the policy with its exclusions in the order of the tidy image
abbrev pub ordered : Policy → Policy
ordered p = excluding_just (sorted p.exclusions) p

-- a single exclusion is in order
one-sorted : (xs : List Exclusion) → length xs ≡ 1 → sorted xs ≡ xs
unfolding sorted insert
one-sorted [] h = absurd (omega arith)
one-sorted (x ∷ []) h = refl
one-sorted (x ∷ y ∷ xs) h = absurd (omega arith)

module _ (p : Policy) (u : ℕ) (x : Others) (l : Line) (k lower upper : ℕ) where
  -- with the exclusions xs alone some set is left
  abbrev pub leaves : List Exclusion → Bool
  leaves = left (left_to p u x l k) l k lower upper

  -- the policy with its first j exclusions
  abbrev pub cut : ℕ → Policy
  cut j = excluding_just (take j p.exclusions) p

  small : (left_to p u x l k).authorized < 2 ^ 64
  small = unbarred_below (meaning p u) x l k

  -- ---- the policy's own exclusions
  own_exclusions : excluding_only (left_to p u x l k) p.exclusions ≡ left_to p u x l k
  unfolding excluding_only unbarred meaning
  own_exclusions = refl

  -- ---- the first exclusions alone
  pub left_cut : (j : ℕ) → left (left_to (cut j) u x l k) l k lower upper (cut j).exclusions ≡ leaves (take j p.exclusions)
  unfolding left excluding_only excluding_just unbarred barred meaning authorized carried_table granter reached below_table
  left_cut j = refl

  pub asked_cut : (own : ℕ) (rows : List Exclusion) (row : ℕ → ℕ) (j n : ℕ) → j ≤ n → Asked p u x l k own (firsts rows n) row
      → Asked (cut j) u x l k own (firsts rows j) row
  unfolding excluding_just unbarred barred meaning authorized carried_table granter reached below_table exclusions_met
  asked_cut own rows row j n h g =
      record {
        own_is = g.own_is;
        exclusions_are = ap (take j) g.exclusions_are ∙ take-take j n rows h;
        met =
            met_among l p.exclusions (take j p.exclusions)
            (λ y i. subst (Memᴰ y) (take-append-drop j p.exclusions) (Memᴰ.append_left (drop j p.exclusions) i)) g.met;
        carry = g.carry;
      }

  -- ---- the same in the order of the tidy image
  pub asked_ordered : (own : ℕ) (rows : List Exclusion) (row : ℕ → ℕ) (count : ℕ) (done : List Exclusion) (n : ℕ)
      → take n done ≡ sorted (take count rows) → Asked p u x l k own (firsts rows count) row
      → Asked (ordered p) u x l k own (firsts done n) row
  unfolding excluding_just unbarred barred meaning authorized carried_table granter reached below_table exclusions_met
  asked_ordered own rows row count done n e g =
      record {
        own_is = g.own_is;
        exclusions_are = ap sorted g.exclusions_are ∙ sym e;
        met = met_among l p.exclusions (sorted p.exclusions) (λ y i. (sorted_mem y p.exclusions).0 i) g.met;
        carry = g.carry;
      }

  pub none_ordered : leaves [] ≡ true → left (left_to (ordered p) u x l k) l k lower upper [] ≡ true
  unfolding left excluding_only excluding_just unbarred barred meaning authorized carried_table granter reached below_table
  none_ordered h = h

  pub all_ordered : (b : Bool) → leaves (sorted p.exclusions) ≡ b → left (left_to (ordered p) u x l k) l k lower upper (ordered p).exclusions ≡ b
  unfolding left excluding_only excluding_just unbarred barred meaning authorized carried_table granter reached below_table
  all_ordered b h = h

  pub blocks_ordered : (o : Option Obstacle)
      → o ≡ blocks l k (blocking (left (left_to (ordered p) u x l k) l k lower upper) [] (ordered p).exclusions)
      → o ≡ blocks l k (blocking leaves [] (sorted p.exclusions))
  unfolding left excluding_only excluding_just unbarred barred meaning authorized carried_table granter reached below_table
  blocks_ordered o h = h

  -- with them all sets are left as they are in the order of the image
  pub leaves_sorted : (b : Bool) → leaves p.exclusions ≡ b → leaves (sorted p.exclusions) ≡ b
  leaves_sorted b h = left-sorted (left_to p u x l k) l k lower upper small p.exclusions ∙ h

  -- ---- where they end
  pub blocked_none : (E : List Exclusion) → leaves E ≡ true → none ≡ blocking leaves [] E
  blocked_none E h = sym (not_blocked leaves (left_front (left_to p u x l k) l k lower upper small) [] E h)

  -- found between none of them and them all
  pub blocked_at : (own : ℕ) (xs : List Exclusion) (row : ℕ → ℕ) (n j : ℕ) (d : Exclusion) → n ≤ length xs → Asked p u x l k own (firsts xs n) row
      → Blocks p u x l k lower upper n j → some (get_or xs j d) ≡ blocking leaves [] p.exclusions
  blocked_at own xs row n j d few g b =
      let E : List Exclusion = p.exclusions in
      let long : length E ≡ n = ap length g.exclusions_are ∙ length-take-le n xs few in
      let inside = b.inside in
      let here : get_or E j d ≡ get_or xs j d = ap (λ (ys : List Exclusion). get_or ys j d) g.exclusions_are ∙ get_or-take n xs j d inside in
      ap some (sym here)
      ∙ sym (blocked_behind leaves (left_front (left_to p u x l k) l k lower upper small) E j d (omega arith) b.leaves
      (ap (λ (i : ℕ). leaves (take i E)) (sym (add-one j)) ∙ b.stops))

-- ---- what a search finds: what is searched under the first j exclusions, by all of them reduced
module _ (p : Policy) (u : ℕ) (x : Others) (l : Line) (k lower upper own : ℕ) (xs : List Exclusion) (row : ℕ → ℕ) (rs : List ReducedExclusion) (n free : ℕ)
    (g : Asked p u x l k own (firsts xs n) row) (d : Reduces (firsts xs n) l k rs) (inside : k < length l.sessions)
    (few : n ≤ length xs) (fits : own < 2 ^ 64) (keeps : Keeps (λ i. within (row i) upper) own free) where
  abbrev task : ℕ → Task
  task j = record { row = row; lower = lower; met = reduced_met (take j rs); first = 0; second = 0 }

  abbrev first : ℕ → Policy
  first j = cut p u x l k lower upper j

  abbrev meant : ℕ → Meaning
  meant j = left_to (first j) u x l k

  reduces_cut : (j : ℕ) → j ≤ n → Reduces (firsts xs j) l k (take j rs)
  reduces_cut j h =
      let e : take j rs ≡ map (reduced_for l k) (take j xs) =
      ap (take j) d.each ∙ take-map (reduced_for l k) j (take n xs)
      ∙ ap (map (reduced_for l k)) (take-take j n xs h) in
      record {
        same = λ q w ex m s o. reduced_same q w l k inside m s o xs j (take j rs) ex e;
        each = e;
      }

  -- they are as many as the exclusions
  pub as_many : length rs ≡ n
  as_many =
      ap length d.each ∙ length-map (take n xs) (reduced_for l k)
      ∙ length-take-le n xs few

  given : (j : ℕ) → j ≤ n → Given (meant j) l k own row (reduced_met (take j rs))
  given j h = given-of (first j) u x own (firsts xs j) l k (take j rs) row (reduces_cut j h) (asked_cut p u x l k lower upper own xs row j n h g)

  -- sets that are left under the first j
  lefts : (j : ℕ) → (leaves p u x l k lower upper (take j p.exclusions) ≡ true) ↔ ((s : ℕ) × (admissible (meant j) l k lower upper s ≡ true))
  lefts j =
      let w = left_is (meant j) l k lower upper (small (first j) u x l k lower upper) (first j).exclusions in
      let e = own_exclusions (first j) u x l k lower upper in
      let c = left_cut p u x l k lower upper j in (
        λ h. let y = w.0 (c ∙ h) in (y.0, subst (λ (m : Meaning). admissible m l k lower upper y.0 ≡ true) e y.1),
        λ y. sym c ∙ w.1 (y.0, subst (λ (m : Meaning). admissible m l k lower upper y.0 ≡ true) (sym e) y.1),
      )

  pub left_found : (j : ℕ) → j ≤ n → leaves p u x l k lower upper (take j p.exclusions) ≡ true → Finds (task j) 0 free true
  left_found j h e =
      let y = (lefts j).0 e in
      let f = fits-of (task j) upper own fits (meant j) l k (given j h) free keeps y.0 y.1 in
      found_one (task j) 0 free y.0 f.between f.serving

  pub found_left : (j : ℕ) → j ≤ n → (b : Bool) → Finds (task j) 0 free b → leaves p u x l k lower upper (take j p.exclusions) ≡ b
  found_left j h true f =
      let y = f.is refl in
      (lefts j).1 (y.0, admits (task j) upper own fits (meant j) l k (given j h) free keeps y.0 y.1 y.2)
  found_left j h false f = go (leaves p u x l k lower upper (take j p.exclusions)) refl
    where
      go : (b : Bool) → leaves p u x l k lower upper (take j p.exclusions) ≡ b → leaves p u x l k lower upper (take j p.exclusions) ≡ false
      go true e = let y = (left_found j h e).is refl in absurd (f.none refl y.0 y.1 y.2)
      go false e = e

  -- under them all
  whole : take n p.exclusions ≡ p.exclusions
  whole = ap (take n) g.exclusions_are ∙ take-take n n xs (omega arith) ∙ sym g.exclusions_are

  found_under : (b v : Bool) → Finds (task n) 0 free b → b ≡ v → leaves p u x l k lower upper p.exclusions ≡ v
  found_under b v f e = ap (leaves p u x l k lower upper) (sym whole) ∙ found_left n (omega arith) b f ∙ e

  pub found_all : (b v : Bool) → Finds (record { row = row; lower = lower; met = reduced_met rs; first = 0; second = 0 }) 0 free b → b ≡ v
      → leaves p u x l k lower upper p.exclusions ≡ v
  found_all b v f e =
      let w : take n rs ≡ rs = take_all n rs (omega (arith, as_many)) in
      found_under b v (subst (λ (y : List ReducedExclusion). Finds (record {
        row = row;
        lower = lower;
        met = reduced_met y;
        first = 0;
        second = 0;
      }) 0 free b) (sym w) f) e

  none_found : leaves p u x l k lower upper p.exclusions ≡ false → Finds (task n) 0 free false
  none_found e =
      found_none (task n) 0 free
      (λ s b v. not_both (leaves p u x l k lower upper p.exclusions) (found_under true true (found_one (task n) 0 free s b v) refl) e)

  -- where no set is left under them all, and one without them
  pub found_blocking : (j : ℕ) (y : Exclusion) → leaves p u x l k lower upper [] ≡ true → leaves p u x l k lower upper p.exclusions ≡ false
      → (Finds (task 0) 0 free true → Finds (task n) 0 free false → Ends (λ i. Finds (task i) 0 free) n j)
      → (j < n) × (some (get_or xs j y) ≡ blocking (leaves p u x l k lower upper) [] p.exclusions)
  found_blocking j y o e h =
      let w = h (left_found 0 (omega arith) o) (none_found e) in
      let i = w.inside in (
        i,
        blocked_at p u x l k lower upper own xs row n j y few g (
            record {
              inside = i;
              leaves = found_left j (omega arith) true w.leaves;
              stops = found_left (j + 1) (omega arith) false w.stops;
            }
            ),
      )

  -- the only exclusion is the one
  pub found_only : (y : Exclusion) → n ≡ 1 → leaves p u x l k lower upper [] ≡ true → leaves p u x l k lower upper p.exclusions ≡ false
      → some (get_or xs 0 y) ≡ blocking (leaves p u x l k lower upper) [] (sorted p.exclusions)
  found_only y q o e =
      let long : length p.exclusions ≡ 1 =
      ap length g.exclusions_are ∙ length-take-le n xs few ∙ q in
      (found_blocking 0 y o e
      (λ a b. record { inside = omega arith; leaves = a; stops = subst (λ (i : ℕ). Finds (task i) 0 free false) q b })).1
      ∙ ap (blocking (leaves p u x l k lower upper) []) (sym (one-sorted p.exclusions long))
