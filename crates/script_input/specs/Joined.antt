-- An input in chunks: a run goes from state to state, one chunk after the other.
-- Assumes nothing.
use Rattle.std.specs.Prelude.{◌≡◌, List, [], ◌∷◌, ◌++◌, ℕ}

-- the bytes of the chunks, in order
unfoldable pub joined : List (List ℕ) → List ℕ
joined [] = []
joined (c ∷ cs) = c ++ joined cs

-- a chunk takes the run from state s to state t, where `result` is what the run comes to, from a state and the bytes
-- that are left: whatever comes behind the chunk, that is the same
abbrev pub Takes : (S R : Type 0) → (S → List ℕ → R) → List ℕ → S → S → Type 0
Takes S R result chunk s t = (more : List ℕ) → result s (chunk ++ more) ≡ result t more

-- the chunks take the run from one state to another, each from where the one before left it
pub data TakesAll (S R : Type 0) (result : S → List ℕ → R) : List (List ℕ) → S → S → Type 0 where
  none_left : {s : S} → TakesAll S R result [] s s
  one_taken : {c : List ℕ} {cs : List (List ℕ)} {s t u : S} → Takes S R result c s t → TakesAll S R result cs t u → TakesAll S R result (c ∷ cs) s u
