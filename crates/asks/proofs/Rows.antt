-- The rows that the search is given: what each role that the user may activate carries.
-- Assumes nothing.
use mathlib.Core.Path.{◌≡◌, refl, sym, ap, ap₂, ◌∙◌}
use mathlib.Core.Bool.{Bool, true}
use mathlib.Core.Option.{Option, none, some}
use Rattle.std.specs.Prelude.{Option as Found, None, Some}
use mathlib.Core.List.{List, [], ◌∷◌, map}
use Prim.Native.Nat.{ℕ, zero, suc, ◌^◌, ◌<◌}
use native.Mathlib.Omega.{arith}
use lib.ListN.{length, get_or}
use Rattle.model.specs.declared.Exclusions.{Exclusions}
use Rattle.model.specs.declared.Head.{Head}
use Rattle.model.specs.declared.Line.{Line}
use Rattle.model.specs.Tests.{pick}
use Rattle.model.specs.Sets.{has, within, union_at}
use Rattle.model.specs.Policy.{Policy, authorized, meaning, below_table, with_selves, reached, carried_table}
use Rattle.model.specs.Line.{SESSIONS, exclusions_met}
use Rattle.model.specs.Limits.{Others, unbarred}
use Rattle.model.specs.Choice.{admissible, choose}
use Rattle.model.specs.Session.{is_ask}
use Rattle.model.specs.Run.{Call, line_of, told}
use Rattle.model_laws.proofs.Bools.{and_l}
use Rattle.model_laws.proofs.SetLaws.{within_has}
use Rattle.model_laws.proofs.UnionLaws.{has_below}
use Rattle.model_laws.proofs.Closure.{get_d_table_of}
use Rattle.model_laws.proofs.AnyWidth.{within_iff}
use Rattle.model_laws.proofs.Choices.{choice}
use Rattle.model_laws.proofs.Barred.{unbarred_below, left_own}
use Rattle.model_laws.proofs.SoundLaws.{sound-parts}
use Rattle.sets.specs.Words.{values}
use Rattle.tables_rows.specs.Carried.{carried_rows}
use Rattle.sets.proofs.Unions.{values_at}
use Rattle.tables_rows.proofs.Carrying.{length_selves, wanted_row}
use Rattle.query.specs.Carry.{rows_of, Carry}
use Rattle.query_reduced.specs.declared.reduced.ReducedExclusion.{ReducedExclusion}
use Rattle.query_reduced.specs.Met.{reduced_met}
use Rattle.exclusion_rows.specs.Table.{exclusions_of}
use Rattle.policy_tables.specs.declared.PolicyTables.{PolicyTables}
use Rattle.policy_tables.specs.Held.{Holds}
use Rattle.query_reduced.specs.Reduction.{Reduces}
use Rattle.search.specs.Answer.{answered, Given}
use Rattle.sessions.specs.Calls.{Known}
use Rattle.limits_left.specs.Left.{Left}
use Rattle.asks.specs.Asks.{left_to, Asked, Searched}
use Rattle.sessions.proofs.FirstSteps.{Ready}

get_d_mapped : (f : ℕ → ℕ) (l : List ℕ) (i : ℕ) → i < length l → get_or (map f l) i 0 ≡ f (get_or l i 0)
get_d_mapped f [] i h = absurd (omega arith)
get_d_mapped f (x ∷ l) zero h = refl
get_d_mapped f (x ∷ l) (suc i) h = get_d_mapped f l i (omega arith)

-- the row of a role that the user may activate
row_is : (granted below : List ℕ) (wanted : ℕ) (rows : List (List ℕ)) → values rows ≡ carried_rows granted below wanted → (r : ℕ) → r < 64
    → has wanted r ≡ true → union_at granted (get_or (with_selves below) r 0) ≡ rows_of rows r
unfolding carried_rows pick
row_is granted below wanted rows e r l h =
    ap (λ (b : Bool). pick b (union_at granted (get_or (with_selves below) r 0)) 0) (sym h)
    ∙ sym (get_d_table_of 64 (wanted_row granted (with_selves below) wanted) r l)
    ∙ ap (λ (x : List ℕ). get_or x r 0) (sym e) ∙ values_at rows r

pub carry_rows : (p : Policy) (u wanted : ℕ) (rows : List (List ℕ)) → wanted < 2 ^ 64
    → values rows ≡ carried_rows p.granted (below_table p) wanted → Carry (meaning p u) wanted (rows_of rows)
unfolding meaning carried_table reached
carry_rows p u wanted rows w e r h =
    let c : List ℕ = with_selves (below_table p) in
    let l : r < 64 = has_below 64 wanted r w h in
    get_d_mapped (union_at p.granted) c r (omega (arith, l, length_selves (below_table p)))
    ∙ row_is p.granted (below_table p) wanted rows e r l h

-- a set that is chosen is one of those left to the user
pub chosen_own : (p : Policy) (u : ℕ) (x : Others) (l : Line) (k own lower upper a b s : ℕ) → (left_to p u x l k).authorized ≡ own
    → some s ≡ choose (left_to p u x l k) l k lower upper a b → within s own ≡ true
unfolding admissible
chosen_own p u x l k own lower upper a b s e h =
    let m = left_to p u x l k in
    let i = (((choice m l k lower upper a b (unbarred_below (meaning p u) x l k)).is_best s).0 (sym h)).is_admissible in
    ap (within s) (sym e) ∙ and_l (within s m.authorized) _ (and_l _ _ (and_l _ _ i))

-- roles that are left carry what their rows say
pub carry_within : (p : Policy) (u own s : ℕ) (row : ℕ → ℕ) → Carry (meaning p u) own row → within s own ≡ true → Carry (meaning p u) s row
carry_within p u own s row c w r h = c r (within_has s own w r h)

-- those left are the user's
left-within : (p : Policy) (u : ℕ) (x : Others) (l : Line) (k s : ℕ) → within s (left_to p u x l k).authorized ≡ true → within s (authorized p u) ≡ true
unfolding meaning
left-within p u x l k s w =
    (within_iff s (authorized p u)).1 (λ r h. left_own (meaning p u) x l k r ((within_iff s (left_to p u x l k).authorized).0 w r h))

-- what the choice is given is the policy's, the line's and the session's
pub given-of : (p : Policy) (u : ℕ) (x : Others) (own : ℕ) (xs : Exclusions) (l : Line) (k : ℕ) (rows : List ReducedExclusion) (row : ℕ → ℕ)
    → Reduces xs l k rows → Asked p u x l k own xs row → Given (left_to p u x l k) l k own row (reduced_met rows)
unfolding meaning unbarred exclusions_met
given-of p u x own xs l k rows row d g =
    record {
      own = g.own_is;
      carry = g.carry;
      exclusions = λ s w. d.same p u g.exclusions_are g.met s (left-within p u x l k s (ap (within s) g.own_is ∙ w));
    }

-- what the search is given, with the rows
pub asked_of : (p : Policy) (u : ℕ) (x : Others) (ledger : List ℕ) (k : ℕ) (granted below : List ℕ) (own : ℕ) (xs : Exclusions)
    (rows : List (List ℕ)) (l : Line)
    → Searched p u x ledger k granted below own xs → own < 2 ^ 64 → values rows ≡ carried_rows granted below own → l ≡ line_of SESSIONS ledger u
    → Asked p u x l k own xs (rows_of rows)
asked_of p u x ledger k granted below own xs rows l s w e f =
    record {
      own_is = ap (λ (y : Line). (left_to p u x y k).authorized) f ∙ s.own_is;
      exclusions_are = s.exclusions_are;
      met = ap (exclusions_met (meaning p u)) f ∙ s.met;
      carry = carry_rows p u own rows w (e ∙ ap₂ (λ (y z : List ℕ). carried_rows y z own) s.granted_is s.below_is);
    }

-- the same, of what code holds of the policy and of a call that is not refused
pub searched_of : (p : Policy) (head : Head) (rows : List ℕ) (xs : Exclusions) (ledger granted below : List ℕ) (k own : ℕ) (c : Call)
    → is_ask c.operation ≡ true → Known head rows xs p → granted ≡ p.granted → below ≡ below_table p → Left p ledger c.user k own
    → Ready SESSIONS p ledger c.user → Searched p c.user (told SESSIONS p ledger c) ledger k granted below own xs
searched_of p head rows xs ledger granted below k own c a n g j o r =
    record {
      granted_is = g;
      below_is = j;
      own_is = o c refl a;
      exclusions_are = sym n.exclusions_are;
      met = (sound-parts (meaning p c.user) (line_of SESSIONS ledger c.user) SESSIONS r.sound-line).met;
    }

-- ---- the search's choice, for the line that code holds
module _ (p : Policy) (u : ℕ) (x : Others) (ledger : List ℕ) (l : Line) (f : l ≡ line_of SESSIONS ledger u) (o : Found ℕ) (k lower upper a b : ℕ)
    (e : answered o ≡ choose (left_to p u x l k) l k lower upper a b) where
  abbrev choice_on : Line → Option ℕ
  choice_on y = choose (left_to p u x y k) y k lower upper a b

  pub chosen_none : o ≡ None → none ≡ choice_on (line_of SESSIONS ledger u)
  chosen_none g = ap answered (sym g) ∙ e ∙ ap choice_on f

  pub chosen_some : (s : ℕ) → o ≡ Some s → some s ≡ choice_on (line_of SESSIONS ledger u)
  chosen_some s g = ap answered (sym g) ∙ e ∙ ap choice_on f

-- ---- what a policy's tables hold of it
pub known_of : (t : PolicyTables) (p : Policy) → Holds t p → Known t.head t.authorized (exclusions_of t.exclusions) p
known_of t p h = record { head_is = h.head_is; own_is = h.own_is; exclusions_are = h.exclusions_are }
