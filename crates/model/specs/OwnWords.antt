-- An image by its words: the policy that words say, and the words that are left of an image for one user. The clause
-- text goes by them in their order.
-- Assumes nothing.
use Rattle.std.specs.Prelude.{Bool, true, false, List, [], ◌∷◌, map, ℕ, zero, suc, ◌+◌, eqb, get_or, drop}
use Rattle.model.specs.declared.Entry.{Entry}
use Rattle.model.specs.declared.Entry.TheVariants.{Assignment, Grant, Senior, Exclude, Member, Limit, End, Unknown}
use Rattle.model.specs.Image.{word_at, behind_head, decode, assigning, head_of, empty_rows}
use Rattle.model.specs.Policy.{Policy, fold, granting, ordering, exclusions_of, limiting}

-- n words of an image from the place on
unfoldable pub words_from : List ℕ → ℕ → ℕ → List ℕ
words_from s zero place = []
words_from s (suc n) place = word_at s place ∷ words_from s n (place + 1)

-- what a word behind the head says
unfoldable pub entry_of : ℕ → Entry
entry_of w = (decode w).entry

-- the policy that the words say, the head first
unfoldable pub policy_in : List ℕ → Policy
policy_in ws =
    record {
      head = head_of (get_or ws 0 0);
      assigned = fold assigning empty_rows (map entry_of (drop 1 ws));
      granted = fold granting empty_rows (map entry_of (drop 1 ws));
      juniors = fold ordering empty_rows (map entry_of (drop 1 ws));
      exclusions = exclusions_of (map entry_of (drop 1 ws));
      limits = fold limiting empty_rows (map entry_of (drop 1 ws));
    }

-- neither an assignment of another user nor the end
unfoldable pub is_own : ℕ → Entry → Bool
is_own u (Assignment v r) = eqb v.0 u
is_own u (Grant r p) = true
is_own u (Senior a b) = true
is_own u (Exclude x m) = true
is_own u (Member r) = true
is_own u (Limit r t) = true
is_own u End = false
is_own u Unknown = true

-- the words whose entries pass the test, in order
unfoldable pub words_with : (Entry → Bool) → List ℕ → List ℕ
words_with f [] = []
words_with f (w ∷ ws) = elim (f (entry_of w)) [ true ↦ w ∷ words_with f ws | false ↦ words_with f ws ]

-- the words of an image in their order, other users' assignments and the end word left out
unfoldable pub own_words : ℕ → List ℕ → List ℕ
own_words u s = word_at s 0 ∷ words_with (is_own u) (words_from s (behind_head s) 1)
