-- The exclusions of an image by its groups.
-- Assumes nothing.
use mathlib.Core.Path.{◌≡◌, refl, sym, ap, ap₂, ◌∙◌, subst}
use mathlib.Core.Bool.{true, true≢false}
use mathlib.Core.List.{List, [], ◌∷◌, ◌++◌, map, append_assoc, map-append}
use Prim.Native.Nat.{ℕ, ◌/◌, ◌^◌, ◌<◌}
use native.Mathlib.Nat.{mod-lt}
use lib.Pow.{pow_pos, pow-lt}
use lib.Bits.{or_lt}
use lib.ListN.{length, length-map}
use lib.Seq.{take_at}
use Rattle.model.specs.declared.Head.{Head}
use Rattle.model.specs.declared.Exclusion.{Exclusion}
use Rattle.model.specs.declared.Entry.{Entry}
use Rattle.model.specs.declared.Entry.TheVariants.{Assignment, Grant, Senior, Exclude, Member, End, Unknown, Limit}
use Rattle.model.specs.Image.{field}
use Rattle.model.specs.Policy.{fold, joining, with_members, exclusions_of}
use Rattle.model.specs.Ranges.{Each}
use Rattle.model_tidy.specs.Groups.{entry_of, Group, spread, leads, due_behind, RightMember, RightGroup}
use Rattle.model_laws.proofs.Scanned.{Plain}
use Rattle.model_laws.proofs.Tables.{decoded}

-- ---- the exclusion of a group, before the others
unfoldable pub exclusion_in : Entry → List ℕ → List Exclusion → List Exclusion
exclusion_in (Assignment u r) ms xs = xs
exclusion_in (Grant r p) ms xs = xs
exclusion_in (Senior a b) ms xs = xs
exclusion_in (Exclude x m) ms xs = with_members x (map entry_of ms) ∷ xs
exclusion_in (Member r) ms xs = xs
exclusion_in (Limit r t) ms xs = xs
exclusion_in End ms xs = xs
exclusion_in Unknown ms xs = xs

unfoldable pub exclusions_in : List Group → List Exclusion
exclusions_in [] = []
exclusions_in (g ∷ gs) = exclusion_in (entry_of g.word) g.members (exclusions_in gs)

-- ---- they are those of the entries
module _ (h : Head) where
  -- members begin no exclusion
  members_skipped : (ms : List ℕ) (es : List Entry) → Each (RightMember h) ms → exclusions_of (map entry_of ms ++ es) ≡ exclusions_of es
  unfolding exclusions_of
  members_skipped [] es m = refl
  members_skipped (w ∷ ms) es m =
      ap (λ (e : Entry). exclusions_of (e ∷ (map entry_of ms ++ es))) m.0.says ∙ members_skipped ms es m.1

  -- a group and then further entries
  group_exclusion : (e : Entry) (ms : List ℕ) (es : List Entry) → leads e ≡ true → length ms ≡ due_behind e → Each (RightMember h) ms
      → exclusions_of (e ∷ (map entry_of ms ++ es)) ≡ exclusion_in e ms (exclusions_of es)
  unfolding exclusions_of exclusion_in leads due_behind
  group_exclusion (Assignment u r) ms es l n m = members_skipped ms es m
  group_exclusion (Grant r p) ms es l n m = members_skipped ms es m
  group_exclusion (Senior a b) ms es l n m = members_skipped ms es m
  group_exclusion (Exclude x d) ms es l n m =
      ap₂ {C = List Exclusion} (λ (l : List Entry) (xs : List Exclusion). with_members x l ∷ xs)
      (take_at (map entry_of ms) es d (length-map ms entry_of ∙ n)) (members_skipped ms es m)
  group_exclusion (Member r) ms es l n m = absurd (true≢false (sym l))
  group_exclusion (Limit r t) ms es l n m = members_skipped ms es m
  group_exclusion End ms es l n m = absurd (true≢false (sym l))
  group_exclusion Unknown ms es l n m = absurd (true≢false (sym l))

  pub exclusions_in_lem : (gs : List Group) (last : ℕ) → Each (RightGroup h) gs → entry_of last ≡ End
      → exclusions_of (map entry_of (spread gs ++ (last ∷ []))) ≡ exclusions_in gs
  unfolding spread exclusions_in exclusions_of
  exclusions_in_lem [] last q e = ap (λ (x : Entry). exclusions_of (x ∷ [])) e
  exclusions_in_lem (g ∷ gs) last q e =
      ap (λ (l : List ℕ). exclusions_of (entry_of g.word ∷ map entry_of l)) (append_assoc g.members (spread gs) (last ∷ []))
      ∙ ap (λ (l : List Entry). exclusions_of (entry_of g.word ∷ l)) (map-append entry_of g.members (spread gs ++ (last ∷ [])))
      ∙ group_exclusion (entry_of g.word) g.members (map entry_of (spread gs ++ (last ∷ []))) q.0.leading q.0.whole q.0.members
      ∙ ap (exclusion_in (entry_of g.word) g.members) (exclusions_in_lem gs last q.1 e)

-- ---- the members of an exclusion
joined_step : (s : ℕ) → s < 2 ^ 64 → (w : ℕ) → joining s (entry_of w) < 2 ^ 64
unfolding joining
joined_step s l =
    decoded (λ e. joining s e < 2 ^ 64) (λ w. (l, l, l, l, or_lt 64 s (2 ^ field w 22 6) l (pow-lt (mod-lt (w / 2 ^ 22) (pow_pos 6))), l, l, l))

-- a set of roles
pub joined_below : (ms : List ℕ) (s : ℕ) → s < 2 ^ 64 → fold joining s (map entry_of ms) < 2 ^ 64
unfolding fold
joined_below [] s l = l
joined_below (w ∷ ms) s l = joined_below ms (joining s (entry_of w)) (joined_step s l w)

-- an exclusion word has no member itself
plain_word : (w : ℕ) → Plain (entry_of w)
plain_word = decoded Plain (λ w. (tt, tt, tt, refl, tt, tt, tt, tt))

pub bare_word : (w : ℕ) (x : Exclusion) (m : ℕ) → entry_of w ≡ Exclude x m → x.members ≡ 0
bare_word w x m e = subst Plain e (plain_word w)
