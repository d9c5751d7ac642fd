-- Images that say the same and policies that are the same, order and repeats of entries aside, and images under which
-- calls answer alike.
-- Assumes nothing.
use Rattle.std.specs.Prelude.{◌≡◌, refl, Bool, true, false, ◌↔◌, List, [], ◌∷◌, map, ℕ, replicate}
use Rattle.model.specs.declared.Exclusion.{Exclusion}
use Rattle.model.specs.declared.Entry.TheVariants.{Assignment, Grant, Senior}
use Rattle.model.specs.Image.{word_at, user, role, permission, head_of}
use Rattle.model.specs.Policy.{Policy, entries_of, excludes}
use Rattle.model.specs.Judgement.{judge}
use Rattle.model.specs.Tests.{any}
use Rattle.model.specs.Session.{is_text}
use Rattle.model.specs.Run.{Call, open_by, close_by, ask_by, short_ask_by, show_by, explain_by, obstacle_by, clauses_by, step, run}
use Rattle.model.specs.Read.{Said, Excluded, Smallest}

-- the images have the same head, the same sets of assignments, grants, senior pairs and exclusions, and the same
-- smallest limit of each role
pub record SameSets (s t : List ℕ) : Type 0 where
  pub heads : head_of (word_at s 0) ≡ head_of (word_at t 0)
  pub assignments : (u r : ℕ) → Said s (Assignment (user u) (role r)) ↔ Said t (Assignment (user u) (role r))
  pub grants : (r p : ℕ) → Said s (Grant (role r) (permission p)) ↔ Said t (Grant (role r) (permission p))
  pub seniors : (a b : ℕ) → Said s (Senior (role a) (role b)) ↔ Said t (Senior (role a) (role b))
  pub exclusions : (x : Exclusion) → Excluded (entries_of s) x ↔ Excluded (entries_of t) x
  pub limits : (r n : ℕ) → Smallest (entries_of s) r n ↔ Smallest (entries_of t) r n

-- the same head and tables, whose rows are sets, the same exclusions as a set, and the same limits
pub record SamePolicy (p q : Policy) : Type 0 where
  pub heads : p.head ≡ q.head
  pub assigned : p.assigned ≡ q.assigned
  pub granted : p.granted ≡ q.granted
  pub juniors : p.juniors ≡ q.juniors
  pub exclusions : (x : Exclusion) → excludes p x ≡ excludes q x
  pub limits : p.limits ≡ q.limits

-- the call is a clause text, which follows image order
unfoldable pub asks_text : Call → Bool
asks_text c = is_text c.operation

pub texts_ask : (user session room : ℕ) → asks_text (clauses_by user session [] [] 0 0 room) ≡ true
unfolding asks_text is_text clauses_by
texts_ask user session room = refl

-- and no other call is one: what is claimed beside texts is claimed of the asks too
pub others_ask_none : map asks_text (open_by 1 ∷ close_by 1 2 ∷ ask_by 1 2 [] [] 1 1 40 ∷ short_ask_by 1 2 [] [] 40 ∷ show_by 1 2 40 ∷ explain_by 1 2 3
    ∷ obstacle_by 1 2 [] [] 16 ∷ [])
    ≡ replicate 7 false
unfolding asks_text is_text open_by close_by ask_by short_ask_by show_by explain_by obstacle_by
others_ask_none = refl

-- calls answer alike under two images: a check, and for every number of sessions and every ledger every call (open,
-- close, ask, short ask, show, explain, obstacle) and every list of them, with the same number, extra, filled bytes and
-- ledger
pub record Alike (s t : List ℕ) : Type 0 where
  pub checks : judge s ≡ judge t
  pub steps : (W : ℕ) (ledger : List ℕ) (c : Call) → asks_text c ≡ false → step W s ledger c ≡ step W t ledger c
  pub runs : (W : ℕ) (ledger : List ℕ) (cs : List Call) → any asks_text cs ≡ false → run W s ledger cs ≡ run W t ledger cs
