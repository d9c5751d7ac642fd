-- What the words of an accepted image mean: the policy, five tables read off its entries, and what it means for one
-- user.
-- Assumes nothing.
use Rattle.std.specs.Prelude.{◌≡◌, Bool, true, false, ◌&&◌, ◌||◌, not, List, [], ◌∷◌, ◌++◌, map, ℕ, zero, suc, ◌+◌, eqb, ltb, get_or, set, take}
use Rattle.std.proofs.Math.Option.{Option}
use Rattle.model.specs.declared.Head.{Head}
use Rattle.model.specs.declared.Kind.{Kind}
use Rattle.model.specs.declared.Kind.TheVariants.{SsDmer, MsDmer, SsHmer, MsHmer}
use Rattle.model.specs.declared.Exclusion.{Exclusion}
use Rattle.model.specs.declared.Entry.{Entry}
use Rattle.model.specs.Tests.{pick, earlier, any, all}
use Rattle.model.specs.Sets.{has, union, inter, with, count, union_at, lowest_in}
use Rattle.model.specs.Kinds.{on_grant, on_senior, on_exclude, on_member, on_limit}
use Rattle.model.specs.Image.{word_at, behind_head, decode, assigning, head_of, empty_rows}

-- ---- the entries of an image

unfoldable pub entry_at : List ℕ → ℕ → Entry
entry_at s place = (decode (word_at s place)).entry

-- those of n words from the place on
unfoldable pub entries_from : List ℕ → ℕ → ℕ → List Entry
entries_from s zero place = []
entries_from s (suc n) place = entry_at s place ∷ entries_from s n (place + 1)

-- those of the words behind the head, in image order
unfoldable pub entries_of : List ℕ → List Entry
entries_of s = entries_from s (behind_head s) 1

-- ---- tables: each entry changes the row it names

-- row r: the permissions granted to role r
unfoldable pub granting : List ℕ → Entry → List ℕ
granting rows e = on_grant rows (λ r p. set rows r.0 (with (get_or rows r.0 0) p.0)) e

-- row a: the direct juniors of role a, those that a senior word places it over
unfoldable pub ordering : List ℕ → Entry → List ℕ
ordering rows e = on_senior rows (λ a b. set rows a.0 (with (get_or rows a.0 0) b.0)) e

-- the smaller of a limit so far, 0 where there is none, and t
unfoldable pub lesser : ℕ → ℕ → ℕ
lesser a t = pick (eqb a 0 || ltb t a) t a

-- row r: the limit of role r, the smallest that a word gives it, and 0 where it has none
unfoldable pub limiting : List ℕ → Entry → List ℕ
limiting rows e = on_limit rows (λ r t. set rows r.0 (lesser (get_or rows r.0 0) t)) e

-- the entries, each taken into a by the step
unfoldable pub fold : {A : Type 0} → (A → Entry → A) → A → List Entry → A
fold step a [] = a
fold step a (e ∷ es) = fold step (step a e) es

-- ---- exclusions: an exclusion word and the m member words behind it

-- a member word's role joins the set s
unfoldable pub joining : ℕ → Entry → ℕ
joining s e = on_member s (λ r. with s r.0) e

-- the exclusion with the members that the entries name
unfoldable pub with_members : Exclusion → List Entry → Exclusion
with_members x es = record { kind = x.kind; n = x.n; members = fold joining x.members es }

-- those of the entries, in their order
unfoldable pub exclusions_of : List Entry → List Exclusion
exclusions_of [] = []
exclusions_of (e ∷ es) = on_exclude [] (λ x m. with_members x (take m es) ∷ []) e ++ exclusions_of es

-- ---- the order of exclusions in the tidy image, in which no order of the entries shows

unfoldable pub kind_number : Kind → ℕ
kind_number SsDmer = 0
kind_number MsDmer = 1
kind_number SsHmer = 2
kind_number MsHmer = 3

-- by kind, then n, then the number of the member set
unfoldable pub before : Exclusion → Exclusion → Bool
before x y = earlier (kind_number x.kind) (kind_number y.kind) x.n y.n x.members y.members

-- x put into an ascending list, unless it is there
unfoldable pub insert : Exclusion → List Exclusion → List Exclusion
insert x [] = x ∷ []
insert x (y ∷ ys) = elim (before x y) [ true ↦ x ∷ y ∷ ys | false ↦ elim (before y x) [ true ↦ y ∷ insert x ys | false ↦ y ∷ ys ] ]

-- the exclusions ascending, without repeats
unfoldable pub sorted : List Exclusion → List Exclusion
sorted [] = []
sorted (x ∷ xs) = insert x (sorted xs)

-- ---- the policy

pub record Policy : Type 0 where
  pub head : Head
  pub assigned : List ℕ
  pub granted : List ℕ
  pub juniors : List ℕ
  pub exclusions : List Exclusion
  pub limits : List ℕ

-- the policy of an image; of an accepted one, what its words mean
unfoldable pub policy_of : List ℕ → Policy
policy_of s =
    record {
      head = head_of (word_at s 0);
      assigned = fold assigning empty_rows (entries_of s);
      granted = fold granting empty_rows (entries_of s);
      juniors = fold ordering empty_rows (entries_of s);
      exclusions = exclusions_of (entries_of s);
      limits = fold limiting empty_rows (entries_of s);
    }

-- ---- what a role carries: the grants of the roles reached by a chain of senior words, its own among them (001: π)

-- a row that has k takes in the other row
unfoldable pub taking : ℕ → ℕ → ℕ → ℕ
taking k other row = pick (has row k) (union row other) row

-- each row that has k takes in row k
unfoldable pub through : ℕ → List ℕ → List ℕ
through k rows = map (taking k (get_or rows k 0)) rows

-- Warshall's closure, by the roles below n
unfoldable pub closure_by : ℕ → List ℕ → List ℕ
closure_by zero rows = rows
closure_by (suc n) rows = through n (closure_by n rows)

-- the list of f at 0, 1, .. below n
unfoldable pub table_of : ℕ → (ℕ → ℕ) → List ℕ
table_of zero f = []
table_of (suc n) f = table_of n f ++ (f n ∷ [])

-- row a: the roles below role a, by a chain of at least one senior word
unfoldable pub below_table : Policy → List ℕ
below_table p = closure_by p.head.roles p.juniors

-- each row with its own number
unfoldable pub with_selves : List ℕ → List ℕ
with_selves rows = table_of 64 (λ a. with (get_or rows a 0) a)

-- row a: the roles reached from role a by a chain of senior words, itself among them
unfoldable pub reached : Policy → List ℕ
reached p = with_selves (below_table p)

-- row r: the permissions that role r carries
unfoldable pub carried_table : Policy → List ℕ
carried_table p = map (union_at p.granted) (reached p)

-- the granting role for role r, by the table of roles reached and the test that a role holds the grant: the
-- lowest-numbered role reached from r, itself among them, that holds it; none where there is none
unfoldable pub granter_by : List ℕ → (ℕ → Bool) → ℕ → Option ℕ
granter_by reached holds r = lowest_in holds (get_or reached r 0)

-- the granting role of permission m for role r
unfoldable pub granter : Policy → ℕ → ℕ → Option ℕ
granter p m r = granter_by (reached p) (λ g. has (get_or p.granted g 0) m) r

-- ---- what a policy means for one user

-- the roles that a user may activate (01: may switch on): those assigned, and those reached from them
unfoldable pub authorized : Policy → ℕ → ℕ
authorized p u = union_at (reached p) (get_or p.assigned u 0)

-- the exclusion is met where kind k counts the roles `counted k`
unfoldable pub met : (Kind → ℕ) → Exclusion → Bool
met counted x = ltb (count 64 (inter x.members (counted x.kind))) x.n

-- role r has a limit in the table
unfoldable pub limited : List ℕ → ℕ → Bool
limited limits r = not (eqb (get_or limits r 0) 0)

-- some role has one
unfoldable pub has_limits : Policy → Bool
has_limits p = any (λ t. not (eqb t 0)) p.limits

-- what the session rules see of a policy: the user's number, the numbers of roles and permissions, the roles that the
-- user may activate, what each role carries and through which granting role, whether every exclusion is met where kind
-- k counts the roles `counted k`, the exclusions in image order, by which the clause text alone goes, the same in the
-- order of the tidy image, and the limits
pub record Meaning : Type 0 where
  pub user : ℕ
  pub roles : ℕ
  pub permissions : ℕ
  pub authorized : ℕ
  pub carried : List ℕ
  pub granter : ℕ → ℕ → Option ℕ
  pub all_met : (Kind → ℕ) → Bool
  pub exclusions : List Exclusion
  pub ordered : List Exclusion
  pub limits : List ℕ

unfoldable pub meaning : Policy → ℕ → Meaning
meaning p u =
    record {
      user = u;
      roles = p.head.roles;
      permissions = p.head.permissions;
      authorized = authorized p u;
      carried = carried_table p;
      granter = granter p;
      all_met = λ counted. all (met counted) p.exclusions;
      exclusions = p.exclusions;
      ordered = sorted p.exclusions;
      limits = p.limits;
    }

-- ---- policies that agree for one user

-- the policy without other users' assignments
unfoldable pub only_for : ℕ → Policy → Policy
only_for u p =
    record {
      head = p.head;
      assigned = table_of 64 (λ v. pick (eqb v u) (get_or p.assigned v 0) 0);
      granted = p.granted;
      juniors = p.juniors;
      exclusions = p.exclusions;
      limits = p.limits;
    }

unfoldable pub same_exclusion : Exclusion → Exclusion → Bool
same_exclusion x y = eqb (kind_number x.kind) (kind_number y.kind) && eqb x.n y.n && eqb x.members y.members

-- the exclusion is one of the policy's
unfoldable pub excludes : Policy → Exclusion → Bool
excludes p x = any (λ y. same_exclusion y x) p.exclusions

-- the policies agree in all but other users' assignments, order and repeats of their entries aside: a table's row is a
-- set
pub record Agree (u : ℕ) (p q : Policy) : Type 0 where
  pub heads : p.head ≡ q.head
  pub own : get_or p.assigned u 0 ≡ get_or q.assigned u 0
  pub grants : p.granted ≡ q.granted
  pub seniors : p.juniors ≡ q.juniors
  pub exclusions : (x : Exclusion) → excludes p x ≡ excludes q x
  pub limits : p.limits ≡ q.limits
