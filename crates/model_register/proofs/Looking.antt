-- What the scan's state at a place says of the words before it.
-- Assumes nothing.
use mathlib.Core.Path.{◌≡◌, refl, sym, ap, ◌∙◌, subst}
use mathlib.Core.Logic.{◌⊎◌, inl, inr, ◌↔◌}
use mathlib.Core.Bool.{Bool, true, false, true≢false}
use mathlib.Core.List.{List}
use Prim.Native.Nat.{ℕ, zero, suc, ◌+◌, ◌-◌, ◌≤◌, ◌<◌}
use native.Mathlib.Nat.{le_refl, zero-add}
use native.Mathlib.Omega.{arith}
use lib.Dec.{eqb}
use lib.ListN.{length, get_or, set, length-set}
use lib.Seq.{get_or-set_same, get_or-set_other}
use borrow.Author.Tests.{eqb-true, eqb-false, eq-eqb}
use Rattle.model.specs.declared.User.{User}
use Rattle.model.specs.declared.Role.{Role}
use Rattle.model.specs.declared.Exclusion.{Exclusion}
use Rattle.model.specs.declared.Entry.{Entry}
use Rattle.model.specs.declared.Entry.TheVariants.{Assignment, Grant, Senior, Exclude, Member, Limit, End, Unknown}
use Rattle.model.specs.declared.Scan.{Scan}
use Rattle.model.specs.Sets.{has, with, one, count_to}
use Rattle.model.specs.Image.{user, role, assigning, next, empty_rows, start}
use Rattle.model.specs.Policy.{entry_at}
use Rattle.model_laws.proofs.Bools.{or_l, or_r, or_cases, not_both}
use Rattle.model_laws.proofs.SetLaws.{has-with}
use Rattle.model_laws.proofs.TableLaws.{get_d_filled}
use Rattle.model_laws.proofs.UnionLaws.{has_none, below_or_last}
use Rattle.model_laws.proofs.Scanned.{Turn}
use Rattle.model_register.specs.Entries.{Fits}
use Rattle.model_register.specs.Faults.{DueFor, Due, Named, Given, Excluded}

-- an exclusion word
is_exclusion : Entry → Bool
is_exclusion (Assignment u r) = false
is_exclusion (Grant r p) = false
is_exclusion (Senior a b) = false
is_exclusion (Exclude x m) = true
is_exclusion (Member r) = false
is_exclusion (Limit r t) = false
is_exclusion End = false
is_exclusion Unknown = false

module _ (s : List ℕ) where
  -- ---- the roles assigned so far
  pub record Assigned (k : ℕ) (rows : List ℕ) : Type 0 where
    pub long : length rows ≡ 64
    pub given : (u r : ℕ) → (has (get_or rows u 0) r ≡ true) ↔ Given s k u r

  pub assigned_start : Assigned 1 empty_rows
  unfolding empty_rows
  assigned_start =
      record {
        long = refl;
        given = λ u r. (
          λ e. not_both (has 0 r) (ap (λ (x : ℕ). has x r) (sym (get_d_filled 0 64 u)) ∙ e) (has_none r),
          λ g. let a = g.behind_head_lem in let b = g.before in absurd (omega arith),
        );
      }

  module _ (k : ℕ) where
    -- one place on
    wider : (u r : ℕ) → Given s k u r → Given s (suc k) u r
    wider u r g = record { place = g.place; behind_head_lem = g.behind_head_lem; before = (let b = g.before in omega arith); word = g.word }

    -- a word that assigns nothing
    module _ (rows : List ℕ) (none : (u r : ℕ) → ¬ (entry_at s k ≡ Assignment (user u) (role r))) (a : Assigned k rows) where
      narrower : (u r : ℕ) → Given s (suc k) u r → Given s k u r
      narrower u r g =
          elim (below_or_last g.place k g.before) [
            | inl l ↦ record { place = g.place; behind_head_lem = g.behind_head_lem; before = l; word = g.word }
            | inr e ↦ absurd (none u r (ap (entry_at s) (sym e) ∙ g.word))
          ]

      same_rows : Assigned (suc k) rows
      same_rows = record { long = a.long; given = λ u r. (λ e. wider u r ((a.given u r).0 e), λ g. (a.given u r).1 (narrower u r g)) }

    -- an assignment
    module _ (rows : List ℕ) (v q : ℕ) (behind : 1 ≤ k) (word : entry_at s k ≡ Assignment (user v) (role q)) (low : v < 64) (a : Assigned k rows) where
      abbrev row : ℕ
      row = with (get_or rows v 0) q

      abbrev after : List ℕ
      after = set rows v row

      in_row : has (get_or after v 0) q ≡ true
      in_row =
          ap (λ (x : ℕ). has x q) (get_or-set_same rows v row 0 (let l = a.long in omega arith))
          ∙ has-with (get_or rows v 0) q q ∙ or_r (has (get_or rows v 0) q) (eqb q q) (eq-eqb q q refl)

      kept : (u r : ℕ) → has (get_or rows u 0) r ≡ true → has (get_or after u 0) r ≡ true
      kept u r e = go (eqb u v) refl
        where
          go : (b : Bool) → eqb u v ≡ b → has (get_or after u 0) r ≡ true
          go true p =
              let z = eqb-true u v p in
              ap (λ (n : ℕ). has (get_or after n 0) r) z ∙ ap (λ (x : ℕ). has x r) (get_or-set_same rows v row 0 (let l = a.long in omega arith))
              ∙ has-with (get_or rows v 0) q r ∙ or_l (has (get_or rows v 0) r) (eqb r q) (ap (λ (n : ℕ). has (get_or rows n 0) r) (sym z) ∙ e)
          go false p = ap (λ (x : ℕ). has x r) (get_or-set_other rows v u row 0 (eqb-false u v p)) ∙ e

      found : (u r : ℕ) → has (get_or after u 0) r ≡ true → Given s (suc k) u r
      found u r e = go (eqb u v) refl
        where
          here : u ≡ v → r ≡ q → Given s (suc k) u r
          here y z =
              record {
                place = k;
                behind_head_lem = behind;
                before = le_refl (suc k);
                word = word ∙ (λ i. Assignment (user (sym y i)) (role (sym z i)));
              }

          go : (b : Bool) → eqb u v ≡ b → Given s (suc k) u r
          go true p =
              let z = eqb-true u v p in
              let f = sym (ap (λ (n : ℕ). has (get_or after n 0) r) z ∙ ap (λ (x : ℕ). has x r) (get_or-set_same rows v row 0 (let l = a.long in omega arith))
              ∙ has-with (get_or rows v 0) q r) ∙ e in
              elim (or_cases (has (get_or rows v 0) r) (eqb r q) f) [
                | inl h ↦ wider u r ((a.given u r).0 (ap (λ (n : ℕ). has (get_or rows n 0) r) z ∙ h))
                | inr h ↦ here z (eqb-true r q h)
              ]
          go false p = wider u r ((a.given u r).0 (sym (ap (λ (x : ℕ). has x r) (get_or-set_other rows v u row 0 (eqb-false u v p))) ∙ e))

      back : (u r : ℕ) → Given s (suc k) u r → has (get_or after u 0) r ≡ true
      back u r g =
          elim (below_or_last g.place k g.before) [
            | inl l ↦ kept u r ((a.given u r).1 (record { place = g.place; behind_head_lem = g.behind_head_lem; before = l; word = g.word }))
            | inr e ↦
                let w : Assignment (user v) (role q) ≡ Assignment (user u) (role r) = sym word ∙ ap (entry_at s) (sym e) ∙ g.word in
                let x' : user v ≡ user u = cc in
                let y' : role q ≡ role r = cc in
                let x : v ≡ u = ap (λ (z : User). z.0) x' in
                let y : q ≡ r = ap (λ (z : Role). z.0) y' in
                ap (λ (n : ℕ). has (get_or after n 0) r) (sym x) ∙ ap (has (get_or after v 0)) (sym y) ∙ in_row
          ]

      more_rows : Assigned (suc k) after
      more_rows = record { long = length-set rows v row ∙ a.long; given = λ u r. (found u r, back u r) }

    pub assigned_next : (rows : List ℕ) (e : Entry) → 1 ≤ k → entry_at s k ≡ e → Fits e → Assigned k rows → Assigned (suc k) (assigning rows e)
    unfolding assigning
    assigned_next rows (Assignment v q) b w f a = more_rows rows v.0 q.0 b w f.0 a
    assigned_next rows (Grant r p) b w f a = same_rows rows (λ u q z. let n : ◌≡◌ {A = ℕ} 0 1 = cc in omega arith) a
    assigned_next rows (Senior c d) b w f a = same_rows rows (λ u q z. let n : ◌≡◌ {A = ℕ} 0 1 = cc in omega arith) a
    assigned_next rows (Exclude x m) b w f a = same_rows rows (λ u q z. let n : ◌≡◌ {A = ℕ} 0 1 = cc in omega arith) a
    assigned_next rows (Member r) b w f a = same_rows rows (λ u q z. let n : ◌≡◌ {A = ℕ} 0 1 = cc in omega arith) a
    assigned_next rows (Limit r t) b w f a = same_rows rows (λ u q z. let n : ◌≡◌ {A = ℕ} 0 1 = cc in omega arith) a
    assigned_next rows End b w f a = same_rows rows (λ u q z. let n : ◌≡◌ {A = ℕ} 0 1 = cc in omega arith) a
    assigned_next rows Unknown b w f a = same_rows rows (λ u q z. let n : ◌≡◌ {A = ℕ} 0 1 = cc in omega arith) a

  -- ---- the exclusions so far
  pub excludes : ℕ → Bool
  excludes zero = false
  excludes (suc k) = is_exclusion (entry_at s (suc k))

  pub excluded_passes : (k j : ℕ) → Excluded s k j → (j < k) × (excludes j ≡ true)
  unfolding excludes is_exclusion
  excluded_passes k zero x = let a = x.behind_head_lem in absurd (omega arith)
  excluded_passes k (suc j) x = (x.before, ap is_exclusion x.word)

  pub passes_excluded : (k j : ℕ) → j < k → excludes j ≡ true → Excluded s k j
  unfolding excludes is_exclusion
  passes_excluded k zero l e = absurd (true≢false (sym e))
  passes_excluded k (suc j) l e = go (entry_at s (suc j)) refl (sym e)
    where
      go : (x : Entry) → entry_at s (suc j) ≡ x → true ≡ is_exclusion x → Excluded s k (suc j)
      go (Assignment u r) w e = absurd (true≢false e)
      go (Grant r p) w e = absurd (true≢false e)
      go (Senior a b) w e = absurd (true≢false e)
      go (Exclude x m) w e = record { exclusion = x; members = m; behind_head_lem = omega arith; before = l; word = w }
      go (Member r) w e = absurd (true≢false e)
      go (Limit r t) w e = absurd (true≢false e)
      go End w e = absurd (true≢false e)
      go Unknown w e = absurd (true≢false e)

  pub counted_start : start.exclusions ≡ count_to excludes 1
  unfolding start count_to excludes
  counted_start = refl

  pub counted_next : (k : ℕ) (t : Scan) (e : Entry) → 1 ≤ k → entry_at s k ≡ e → t.exclusions ≡ count_to excludes k
      → (next t e).exclusions ≡ count_to excludes (suc k)
  unfolding count_to excludes next is_exclusion
  counted_next zero t e b w c = absurd (omega arith)
  counted_next (suc k) t e b w c = go e w
    where
      total : (x : Entry) → entry_at s (suc k) ≡ x → count_to excludes (suc (suc k)) ≡ one (is_exclusion x) + t.exclusions
      total x w = ap (λ (y : Entry). one (is_exclusion y) + count_to excludes (suc k)) w ∙ ap (λ (n : ℕ). one (is_exclusion x) + n) (sym c)

      go : (x : Entry) → entry_at s (suc k) ≡ x → (next t x).exclusions ≡ count_to excludes (suc (suc k))
      go (Assignment u r) w = sym (total (Assignment u r) w ∙ zero-add t.exclusions)
      go (Grant r p) w = sym (total (Grant r p) w ∙ zero-add t.exclusions)
      go (Senior a c) w = sym (total (Senior a c) w ∙ zero-add t.exclusions)
      go (Exclude x m) w = let z = total (Exclude x m) w in omega arith
      go (Member r) w = sym (total (Member r) w ∙ zero-add t.exclusions)
      go (Limit r n) w = sym (total (Limit r n) w ∙ zero-add t.exclusions)
      go End w = sym (total End w ∙ zero-add t.exclusions)
      go Unknown w = sym (total Unknown w ∙ zero-add t.exclusions)

  -- ---- the members due

  -- the last exclusion word, at place `at`, asks for m members, of which so many are still due
  pub record Waiting (k at due : ℕ) : Type 0 where
    pub exclusion : Exclusion
    pub members : ℕ
    pub behind_head_lem : 1 ≤ at
    pub before : at < k
    pub word : entry_at s at ≡ Exclude exclusion members
    pub left : at + members + 1 ≡ k + due

  pub record Dues (k due members : ℕ) : Type 0 where
    pub at : ℕ
    -- every other exclusion word has its members before k
    pub others : (j : ℕ) → ¬ (j ≡ at) → 1 ≤ j → j < k → (x : Exclusion) (m : ℕ) → entry_at s j ≡ Exclude x m → j + m < k
    pub last : 1 ≤ at → at < k → (x : Exclusion) (m : ℕ) → entry_at s at ≡ Exclude x m → at + m + 1 ≤ k + due
    pub waiting : ¬ (due ≡ 0) → Waiting k at due
    pub named : ¬ (due ≡ 0) → (r : ℕ) → (has members r ≡ true) ↔ Named s at k r

  pub dues_start : Dues 1 start.due start.members
  unfolding start
  dues_start =
      record {
        at = 0;
        others = λ j n a b. absurd (omega arith);
        last = λ a b. absurd (omega arith);
        waiting = λ n. absurd (n refl);
        named = λ n. absurd (n refl);
      }

  module _ (k due members : ℕ) (d : Dues k due members) where
    -- a member is due for the last exclusion alone
    pub due_for : (j : ℕ) → DueFor s k j → (j ≡ d.at) × ¬ (due ≡ 0)
    due_for j w = go (eqb j d.at) refl
      where
        go : (b : Bool) → eqb j d.at ≡ b → (j ≡ d.at) × ¬ (due ≡ 0)
        go true e =
            let z = eqb-true j d.at e in
            let l = d.last (subst (λ (i : ℕ). 1 ≤ i) z w.behind_head_lem) (subst (λ (i : ℕ). i < k) z w.before) w.exclusion w.members
            (ap (entry_at s) (sym z) ∙ w.word) in
            let n = w.near in
            (z, λ y. omega arith)
        go false e =
            let l = d.others j (eqb-false j d.at e) w.behind_head_lem w.before w.exclusion w.members w.word in
            let n = w.near in
            absurd (omega arith)

    pub for_last : ¬ (due ≡ 0) → DueFor s k d.at
    for_last n =
        let w = d.waiting n in
        let e = w.left in
        record { exclusion = w.exclusion; members = w.members; word = w.word; behind_head_lem = w.behind_head_lem; before = w.before; near = omega arith }

    pub due_is : (¬ (due ≡ 0)) ↔ Due s k
    due_is = (λ n. (d.at, for_last n), λ w. (due_for w.0 w.1).1)

    pub named_is : ¬ (due ≡ 0) → (r : ℕ) → (has members r ≡ true) ↔ ((j : ℕ) × DueFor s k j × Named s j k r)
    named_is n r = (
      λ e. (d.at, for_last n, (d.named n r).0 e),
      λ (j, w, m). (d.named n r).1 (subst (λ (i : ℕ). Named s i k r) (due_for j w).0 m),
    )

    -- a word that is no exclusion, where no member is due
    still : due ≡ 0 → ((x : Exclusion) (m : ℕ) → ¬ (entry_at s k ≡ Exclude x m)) → Dues (suc k) due members
    still z none =
        record {
          at = d.at;
          others = λ j n a b x m w. elim (below_or_last j k b) [
            | inl l ↦ let q = d.others j n a l x m w in omega arith
            | inr e ↦ absurd (none x m (ap (entry_at s) (sym e) ∙ w))
          ];
          last = λ a b x m w. elim (below_or_last d.at k b) [
            | inl l ↦ let q = d.last a l x m w in omega arith
            | inr e ↦ absurd (none x m (ap (entry_at s) (sym e) ∙ w))
          ];
          waiting = λ n. absurd (n z);
          named = λ n. absurd (n z);
        }

    -- an exclusion word
    begun : due ≡ 0 → 1 ≤ k → (x : Exclusion) (m : ℕ) → entry_at s k ≡ Exclude x m → Dues (suc k) m 0
    begun z b x m w =
        record {
          at = k;
          others = λ j n a l y i v. let h : j < k = omega arith in elim (dec_eq j d.at) [
            | inl e ↦ let q = d.last (subst (λ (i : ℕ). 1 ≤ i) e a) (subst (λ (i : ℕ). i < k) e h) y i (ap (entry_at s) (sym e) ∙ v) in omega arith
            | inr e ↦ let q = d.others j e a h y i v in omega arith
          ];
          last = λ a l y i v. let q : Exclude x m ≡ Exclude y i = sym w ∙ v in let e : m ≡ i = cc in omega arith;
          waiting = λ n. record { exclusion = x; members = m; behind_head_lem = b; before = le_refl (suc k); word = w; left = omega arith };
          named = λ n r. (λ e. not_both (has 0 r) e (has_none r), λ v. let a = v.behind in let c = v.before in absurd (omega arith));
        }
      where
        dec_eq : (a b : ℕ) → (a ≡ b) ⊎ (¬ (a ≡ b))
        dec_eq a b = go (eqb a b) refl
          where
            go : (t : Bool) → eqb a b ≡ t → (a ≡ b) ⊎ (¬ (a ≡ b))
            go true e = inl (eqb-true a b e)
            go false e = inr (eqb-false a b e)

    -- a member word
    joined : ¬ (due ≡ 0) → (r : ℕ) → entry_at s k ≡ Member (role r) → Dues (suc k) (due - 1) (with members r)
    joined n r w =
        let v = d.waiting n in
        let e = v.left in
        let c = v.before in
        record {
          at = d.at;
          others = λ j q a b x m u. elim (below_or_last j k b) [
            | inl l ↦ let h = d.others j q a l x m u in omega arith
            | inr y ↦ absurd (none x m (ap (entry_at s) (sym y) ∙ u))
          ];
          last = λ a b x m u. let h = d.last a c x m u in omega arith;
          waiting = λ q. record {
            exclusion = v.exclusion;
            members = v.members;
            behind_head_lem = v.behind_head_lem;
            before = omega arith;
            word = v.word;
            left = omega arith;
          };
          named = λ q i. (found i c, back i);
        }
      where
        none : (x : Exclusion) (m : ℕ) → ¬ (entry_at s k ≡ Exclude x m)
        none x m u = let z : ◌≡◌ {A = ℕ} 0 1 = cc in omega arith

        found : (i : ℕ) → d.at < k → has (with members r) i ≡ true → Named s d.at (suc k) i
        found i c e =
            elim (or_cases (has members i) (eqb i r) (sym (has-with members r i) ∙ e)) [
              | inl h ↦ let g = (d.named n i).0 h in let b = g.before in record { place = g.place; behind = g.behind; before = omega arith; word = g.word }
              | inr h ↦ record { place = k; behind = c; before = le_refl (suc k); word = w ∙ ap (λ (j : ℕ). Member (role j)) (sym (eqb-true i r h)) }
            ]

        back : (i : ℕ) → Named s d.at (suc k) i → has (with members r) i ≡ true
        back i g =
            has-with members r i
            ∙ elim (below_or_last g.place k g.before) [
              | inl l ↦ or_l (has members i) (eqb i r) ((d.named n i).1 (record { place = g.place; behind = g.behind; before = l; word = g.word }))
              | inr e ↦
                  let q : Member (role r) ≡ Member (role i) = sym w ∙ ap (entry_at s) (sym e) ∙ g.word in
                  let y' : role i ≡ role r = cc in
                  let y : i ≡ r = ap (λ (z : Role). z.0) y' in
                  or_r (has members i) (eqb i r) (eq-eqb i r y)
            ]

  pub dues_next : (k : ℕ) (t : Scan) (e : Entry) → 1 ≤ k → entry_at s k ≡ e → Turn t.due e → Dues k t.due t.members
      → Dues (suc k) (next t e).due (next t e).members
  unfolding next
  dues_next k t (Assignment u r) b w z d = still k t.due t.members d z (λ x m v. let n : ◌≡◌ {A = ℕ} 0 1 = cc in omega arith)
  dues_next k t (Grant r p) b w z d = still k t.due t.members d z (λ x m v. let n : ◌≡◌ {A = ℕ} 0 1 = cc in omega arith)
  dues_next k t (Senior a c) b w z d = still k t.due t.members d z (λ x m v. let n : ◌≡◌ {A = ℕ} 0 1 = cc in omega arith)
  dues_next k t (Exclude x m) b w z d = begun k t.due t.members d z b x m w
  dues_next k t (Member r) b w z d = joined k t.due t.members d z r.0 w
  dues_next k t (Limit r i) b w z d = still k t.due t.members d z (λ x m v. let n : ◌≡◌ {A = ℕ} 0 1 = cc in omega arith)
  dues_next k t End b w z d = still k t.due t.members d z (λ x m v. let n : ◌≡◌ {A = ℕ} 0 1 = cc in omega arith)
  dues_next k t Unknown b w z d = absurd z
