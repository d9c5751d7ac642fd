-- The independence rule where the policy changes while people work: histories, runs under one policy after the other,
-- each on the ledger that the last one left.
-- Assumes nothing.
use Rattle.std.specs.Prelude.{◌≡◌, List, [], ◌∷◌, ◌++◌, map, ℕ, ◌-◌, ◌*◌, ◌≤◌, ◌<◌, replicate}
use Rattle.model.specs.declared.Head.{Head}
use Rattle.model.specs.declared.Checked.TheVariants.{Accepted}
use Rattle.model.specs.Judgement.{judge}
use Rattle.model.specs.Policy.{policy_of, meaning, only_for, Agree}
use Rattle.model.specs.Line.{line_size}
use Rattle.model.specs.Session.{refuse, Result}
use Rattle.model.specs.Run.{Call}
use Rattle.model.specs.Independence.{Run, calls_of, view_of, told_of, first_line, rules, beside_texts, SameWords, Independent}
use Rattle.model_runs.specs.Ends.{left_by, last_line}

-- ---- histories

-- the ledger with a zero line for each of n users added
unfoldable pub grown : ℕ → ℕ → List ℕ → List ℕ
grown W n ledger = ledger ++ replicate (line_size W * n) 0

-- A run under the next policy: it has no fewer users, the added ones at the end, and starts on the ledger that the run
-- before left, grown by a zero line for each of them. Numbers stay, so user u of the one is user u of the other, and so
-- with roles. All that the later policy says of users and roles may differ.
pub record Follows (W : ℕ) (r s : Run W) : Type 0 where
  pub users : r.head.users ≤ s.head.users
  pub ledger : s.ledger ≡ grown W (s.head.users - r.head.users) (left_by W r)

-- runs, each of which follows the one before, the first of them the run r
abbrev pub Followed : (W : ℕ) → Run W → List (Run W) → Type 0
Followed W r [] = Unit {0}
Followed W r (s ∷ rs) = Follows W r s × Followed W s rs

-- a history: a run under a first policy, and those under the later ones
pub record History (W : ℕ) : Type 0 where
  pub start : Run W
  pub later : List (Run W)
  pub followed : Followed W start later

unfoldable pub runs_of : (W : ℕ) → History W → List (Run W)
runs_of W h = h.start ∷ h.later

-- every run may be followed under every accepted image with no fewer users, with any calls
abbrev pub CanFollow : (W : ℕ) → Run W → Type 0
CanFollow W r =
    (image : List ℕ) (head : Head) → judge image ≡ Accepted head → r.head.users ≤ head.users → (calls : List Call)
    → (s : Run W) × (s.image ≡ image) × (s.calls ≡ calls) × Follows W r s

-- a user who has a line keeps it over a change, and one who is added starts from the zero line
pub record LinesOver (W : ℕ) (r s : Run W) : Type 0 where
  pub kept : (u : ℕ) → u < r.head.users → first_line W u s ≡ last_line (first_line W u r) (view_of W u r)
  pub added : (u : ℕ) → r.head.users ≤ u → u < s.head.users → first_line W u s ≡ replicate (line_size W) 0

-- a user without a line is refused by 10 at every call of a run
abbrev pub WithoutLine : (W : ℕ) → Run W → Type 0
WithoutLine W r =
    (u : ℕ) → r.head.users ≤ u → view_of W u r ≡ map (λ o. record { reply = refuse 10 0; line = [] }) (calls_of u r.calls)

-- ---- the session rules alone

-- the session rules over runs: for each run u's own policy and calls, and what these are told, each run from the line
-- that the one before left
unfoldable pub rules_over : (W u : ℕ) → List ℕ → List (Run W) → List (List Result)
rules_over W u bs [] = []
rules_over W u bs (r ∷ rs) =
    let seen = rules W (meaning (only_for u (policy_of r.image)) u) bs (told_of W u r) (calls_of u r.calls) in
    seen ∷ rules_over W u (last_line bs seen) rs

-- where user u has a line in the run r, what u sees in it and in the runs behind it is what the session rules give from
-- that line
abbrev pub RulesGive : (W u : ℕ) → Run W → List (Run W) → Type 0
RulesGive W u r rs = u < r.head.users → map (view_of W u) (r ∷ rs) ≡ rules_over W u (first_line W u r) (r ∷ rs)

-- ---- the claim

-- so it is of each run with those behind it
abbrev pub FromEach : {A : Type 0} → (A → List A → Type 0) → A → List A → Type 0
FromEach P x [] = P x []
FromEach P x (y ∷ ys) = P x (y ∷ ys) × FromEach P y ys

-- the members of two lists of one length stand so to each other, pair by pair
abbrev pub Pairwise : {A : Type 0} → (A → A → Type 0) → List A → List A → Type 0
Pairwise P [] [] = Unit {0}
Pairwise P [] (y ∷ ys) = ⊥
Pairwise P (x ∷ xs) [] = ⊥
Pairwise P (x ∷ xs) (y ∷ ys) = P x y × Pairwise P xs ys

-- two runs that are the same for user u but for what they start from: the policies agree in all but other users'
-- assignments, u makes the same calls in the same order and, where the policy has limits, is told the same of the other
-- users
pub record SamePart (W u : ℕ) (r s : Run W) : Type 0 where
  pub agree : Agree u (policy_of r.image) (policy_of s.image)
  pub calls : calls_of u r.calls ≡ calls_of u s.calls
  pub told : told_of W u r ≡ told_of W u s

-- two histories that are pairwise the same for user u, and start from the same line of u, where u has one
pub record SameThroughout (W u : ℕ) (h k : History W) : Type 0 where
  pub line : first_line W u h.start ≡ first_line W u k.start
  pub pairs : Pairwise (SamePart W u) (runs_of W h) (runs_of W k)

-- user u is told the same in two runs: at every call, texts that are written or too long aside, and at these too where
-- the words are the same; and where u has a line, the runs are independent of other users
pub record ToldAlike (W u : ℕ) (r s : Run W) : Type 0 where
  pub beside_texts_lem : beside_texts (calls_of u r.calls) (view_of W u r) ≡ beside_texts (calls_of u s.calls) (view_of W u s)
  pub same : SameWords W u r s → view_of W u r ≡ view_of W u s
  pub independent : u < r.head.users → Independent W u r s

-- User u is told the same throughout, run by run, one who is added later too. From the first run on in which u has a
-- line, what u sees is what the session rules give from u's first line, own calls and own policies.
pub record IndependentThroughout (W u : ℕ) (h k : History W) : Type 0 where
  pub told : Pairwise (ToldAlike W u) (runs_of W h) (runs_of W k)
  pub by_rules : FromEach (RulesGive W u) h.start h.later
