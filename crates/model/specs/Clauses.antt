-- An ask as weighted clauses for an outside solver (PMaxSAT): hard clauses that say which role sets are admissible,
-- soft clauses for the two objectives. Role r is variable r + 1, permission q is R + q + 1, and the helpers of the
-- exclusions follow. docs/CLAUSES.md has the rule in words.
-- Assumes nothing.
use Rattle.std.specs.Prelude.{Bool, true, false, not, List, [], ◌∷◌, ◌++◌, ℕ, zero, suc, ◌+◌, ◌-◌, ◌*◌, get_or, length}
use Rattle.model.specs.declared.Exclusion.{Exclusion}
use Rattle.model.specs.declared.Line.{Line}
use Rattle.model.specs.Sets.{has}
use Rattle.model.specs.Policy.{Meaning}
use Rattle.model.specs.Reduced.{stays, mask_of, reduced_n}

-- ---- clauses

-- a variable that is to be true, or to be false
pub data Literal : Type 0 where
  holds : ℕ → Literal
  fails : ℕ → Literal

-- some literal is to be true
abbrev pub Clause : Type 0
Clause = List Literal

-- x is true; x is false; x gives y; x and y give z
abbrev pub must : ℕ → Clause
must x = holds x ∷ []

abbrev pub must_not : ℕ → Clause
must_not x = fails x ∷ []

abbrev pub gives : ℕ → ℕ → Clause
gives x y = fails x ∷ holds y ∷ []

abbrev pub give : ℕ → ℕ → ℕ → Clause
give x y z = fails x ∷ fails y ∷ holds z ∷ []

-- ---- lists by number

-- the lists f 0, f 1, .. below n, one behind the other
unfoldable pub list_to : {A : Type 0} → ℕ → (ℕ → List A) → List A
list_to zero f = []
list_to (suc n) f = list_to n f ++ f n

-- x where the test holds, else nothing
unfoldable pub when : {A : Type 0} → Bool → A → List A
when true x = x ∷ []
when false x = []

-- ---- variables

abbrev pub role_variable : ℕ → ℕ
role_variable r = r + 1

abbrev pub permission_variable : Meaning → ℕ → ℕ
permission_variable m q = m.roles + q + 1

-- the last one that is no helper
abbrev pub last_plain : Meaning → ℕ
last_plain m = m.roles + m.permissions

-- ---- hard clauses: own roles, what roles carry, the bounds

-- a role that the user may not activate is not chosen
unfoldable pub barring : Meaning → List Clause
barring m = list_to m.roles (λ r. when (not (has m.authorized r)) (must_not (role_variable r)))

-- role r carries permission q
unfoldable pub carries : Meaning → ℕ → ℕ → Bool
carries m r q = has (get_or m.carried r 0) q

-- a chosen role gives each permission that it carries
unfoldable pub carrying : Meaning → List Clause
carrying m =
    list_to m.roles (λ r. list_to m.permissions (λ q. when (carries m r q) (gives (role_variable r) (permission_variable m q))))

-- the roles that carry permission q, as literals
unfoldable pub carriers : Meaning → ℕ → List Literal
carriers m q = list_to m.roles (λ r. when (carries m r q) (holds (role_variable r)))

-- a permission is there only with a chosen role that carries it
unfoldable pub carried : Meaning → List Clause
carried m = list_to m.permissions (λ q. (fails (permission_variable m q) ∷ carriers m q) ∷ [])

-- every permission of the lower bound, none outside the upper one
unfoldable pub bounding : Meaning → ℕ → ℕ → List Clause
bounding m lower upper =
    list_to m.permissions (λ q. when (has lower q) (must (permission_variable m q)))
    ++ list_to m.permissions (λ q. when (not (has upper q)) (must_not (permission_variable m q)))

-- ---- hard clauses: exclusions, reduced by what stays counted (specs/Reduced.antt)

-- the roles of a set as variables, ascending
unfoldable pub variables_in : ℕ → List ℕ
variables_in s = list_to 64 (λ r. when (has s r) (role_variable r))

-- the members that are not in base, as variables; base is what stays counted
unfoldable pub uncounted : Exclusion → ℕ → List ℕ
uncounted x base = variables_in (mask_of x.members base)

-- fewer than this many of them may be chosen
unfoldable pub n_left : Exclusion → ℕ → ℕ
n_left x base = reduced_n x.members x.n base

-- The counter of the variables x(1), .., x(e) up to t, as docs/CLAUSES.md has it: helper (i, j), for j from 1 to t,
-- says that at least j of x(1), .., x(i) are true. Where row i of helpers stands behind the number a, (i, j) is
-- variable a + j, and row i + 1 stands behind a + t.
abbrev pub helper : ℕ → ℕ → ℕ
helper a j = a + j

-- what was counted stays counted, row i - 1 behind a: for each j from 1 to t, `-(i - 1, j)` `(i, j)`; the list counts j
-- from 0
unfoldable pub keeping : ℕ → ℕ → List Clause
keeping t a = list_to t (λ j. gives (helper a j + 1) (helper (a + t) j + 1) ∷ [])

-- x(i) counts one more: for each j from 2 to t, `-x(i)` `-(i - 1, j - 1)` `(i, j)`
unfoldable pub adding : ℕ → ℕ → ℕ → List Clause
adding t a x = list_to (t - 1) (λ j. give x (helper a j + 1) (helper (a + t) j + 2) ∷ [])

-- the clauses of x(i): `-x(i)` `(i, 1)`, then these
unfoldable pub row : ℕ → ℕ → ℕ → List Clause
row t a x = gives x (helper (a + t) 1) ∷ (keeping t a ++ adding t a x)

-- those of the variables behind the row at a, and last `-(e, t)`
unfoldable pub rows : ℕ → ℕ → List ℕ → List Clause
rows t a [] = must_not (helper a t) ∷ []
rows t a (x ∷ xs) = row t a x ++ rows t (a + t) xs

-- fewer than t of the variables are true, by helpers behind a: `-x(1)` `(1, 1)`, then the rows; with no variable no
-- clause is needed
unfoldable pub counter : ℕ → ℕ → List ℕ → List Clause
counter t a [] = []
counter t a (x ∷ xs) = gives x (helper a 1) ∷ rows t a xs

-- one exclusion, its helpers behind a: t is what is left of n, x(1), .., x(e) are its members that are not counted
unfoldable pub excluding : Line → ℕ → ℕ → Exclusion → List Clause
excluding l k a x = let base = stays l k x.kind in counter (n_left x base) a (uncounted x base)

-- how many helpers it has
unfoldable pub helpers : Line → ℕ → Exclusion → ℕ
helpers l k x = let base = stays l k x.kind in length (uncounted x base) * n_left x base

-- exclusion by exclusion, the helpers of the next behind those of the one before
unfoldable pub excluding_all : Line → ℕ → ℕ → List Exclusion → List Clause
excluding_all l k a [] = []
excluding_all l k a (x ∷ xs) = excluding l k a x ++ excluding_all l k (a + helpers l k x) xs

-- all hard clauses of an ask for session k of the line l
unfoldable pub hard : Meaning → Line → ℕ → ℕ → ℕ → List Clause
hard m l k lower upper =
    barring m ++ (carrying m ++ (carried m ++ (bounding m lower upper ++ excluding_all l k (last_plain m) m.exclusions)))

-- ---- soft clauses

-- a clause and the weight that a solver loses where it is not satisfied
pub record Weighted : Type 0 where
  pub weight : ℕ
  pub clause : Clause

-- what an objective wants of a variable: 0 nothing, 1 (fewest) that it is false, 2 (most) that it is true
unfoldable pub wanting : ℕ → ℕ → ℕ → List Weighted
wanting zero w x = []
wanting (suc zero) w x = record { weight = w; clause = must_not x } ∷ []
wanting (suc (suc a)) w x = record { weight = w; clause = must x } ∷ []

-- the permissions by the first objective, each heavier than all roles together, and the roles by the second
unfoldable pub soft : Meaning → ℕ → ℕ → List Weighted
soft m a b =
    list_to m.permissions (λ q. wanting a (m.roles + 1) (permission_variable m q))
    ++ list_to m.roles (λ r. wanting b 1 (role_variable r))

-- the weight of all of them
unfoldable pub weight_of : List Weighted → ℕ
weight_of [] = 0
weight_of (c ∷ cs) = c.weight + weight_of cs

-- one more than that: the weight of a hard clause
unfoldable pub top : List Weighted → ℕ
top cs = weight_of cs + 1
