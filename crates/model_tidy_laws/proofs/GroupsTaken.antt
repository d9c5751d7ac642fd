-- Whole groups, each right by itself, and then an end word are words without fault, where no entry crowds.
-- Assumes nothing.
use mathlib.Core.Path.{◌≡◌, refl, sym, ap, ◌∙◌, subst}
use mathlib.Core.Bool.{Bool, true, false, ◌||◌, not, true≢false}
use mathlib.Core.List.{List, [], ◌∷◌, ◌++◌, map, append_assoc}
use Prim.Native.Nat.{ℕ, suc, ◌-◌}
use native.Mathlib.Omega.{arith}
use lib.Dec.{eqb}
use lib.ListN.{length}
use borrow.Author.Tests.{eq-eqb, ne_eqb, lt-ltb}
use Rattle.model.specs.declared.Head.{Head}
use Rattle.model.specs.declared.Word.{Word}
use Rattle.model.specs.declared.Entry.{Entry}
use Rattle.model.specs.declared.Entry.TheVariants.{Assignment, Grant, Senior, Exclude, Member, End, Unknown, Limit}
use Rattle.model.specs.declared.Scan.{Scan}
use Rattle.model.specs.Sets.{has, with}
use Rattle.model.specs.Image.{is_kind, decode, wrong_kind, in_range, repeats, assigning, next, start}
use Rattle.model.specs.Ranges.{Each}
use Rattle.model_tidy.specs.Groups.{entry_of, member_role, Group, spread, leads, due_behind, Distinct, RightMember, RightGroup}
use Rattle.model_laws.proofs.Bools.{pick-case}
use Rattle.model_laws.proofs.Eachs.{each_two, each_of, each_append, map_each, nil_of}
use Rattle.model_laws.proofs.SetLaws.{has-with}
use Rattle.model_laws.proofs.UnionLaws.{has_none}
use Rattle.model_tidy_laws.proofs.ScanWords.{none, Scans}
use Rattle.model_tidy_laws.proofs.Roomy.{Room}

-- ---- end words
-- only an end word is one
is_end : Entry → Bool
is_end (Assignment u r) = false
is_end (Grant r p) = false
is_end (Senior a b) = false
is_end (Exclude x m) = false
is_end (Member r) = false
is_end (Limit r t) = false
is_end End = true
is_end Unknown = false

no_end : {P : Type 0} (e : Entry) → is_end e ≡ false → e ≡ End → P
unfolding is_end
no_end e f q = absurd (true≢false (sym (ap is_end q) ∙ f))

-- an end word has no spare bits
pub end_spare : (w : ℕ) → entry_of w ≡ End → (decode w).spare ≡ 0
unfolding decode is_end
end_spare w =
    let P : Word → Type 0 = λ x. x.entry ≡ End → x.spare ≡ 0 in
    pick-case P (is_kind w 2) _ _ (λ _. no_end _ refl)
    (λ _. pick-case P (is_kind w 3) _ _ (λ _. no_end _ refl)
    (λ _. pick-case P (is_kind w 4) _ _ (λ _. no_end _ refl)
    (λ _. pick-case P (is_kind w 5) _ _ (λ _. no_end _ refl)
    (λ _. pick-case P (is_kind w 6) _ _ (λ _. no_end _ refl)
    (λ _. pick-case P (is_kind w 7) _ _ (λ _. no_end _ refl) (λ _. pick-case P (is_kind w 15) _ _ (λ _ _. refl) (λ _ _. refl)))))))

-- ---- the tests of a word, by what it says
not-zero : (n : ℕ) → n ≡ 0 → not (eqb n 0) ≡ false
not-zero n z = ap not (eq-eqb n 0 z)

-- where no member is due a group may begin
lead_kind : (due : ℕ) (e : Entry) → leads e ≡ true → due ≡ 0 → wrong_kind false due e ≡ false
unfolding leads wrong_kind
lead_kind due (Assignment u r) l z = not-zero due z
lead_kind due (Grant r p) l z = not-zero due z
lead_kind due (Senior a b) l z = not-zero due z
lead_kind due (Exclude x m) l z = not-zero due z
lead_kind due (Member r) l z = absurd (true≢false (sym l))
lead_kind due (Limit r t) l z = not-zero due z
lead_kind due End l z = absurd (true≢false (sym l))
lead_kind due Unknown l z = absurd (true≢false (sym l))

-- a word that begins a group repeats nothing but itself
lead_fresh : (t : Scan) (e : Entry) → leads e ≡ true → repeats start e ≡ false → repeats t e ≡ false
unfolding leads repeats
lead_fresh t (Assignment u r) l f = refl
lead_fresh t (Grant r p) l f = refl
lead_fresh t (Senior a b) l f = f
lead_fresh t (Exclude x m) l f = refl
lead_fresh t (Member r) l f = absurd (true≢false (sym l))
lead_fresh t (Limit r n) l f = refl
lead_fresh t End l f = refl
lead_fresh t Unknown l f = refl

-- behind it its members are due
lead_due : (t : Scan) (e : Entry) → leads e ≡ true → t.due ≡ 0 → (next t e).due ≡ due_behind e
unfolding leads next due_behind
lead_due t (Assignment u r) l z = z
lead_due t (Grant r p) l z = z
lead_due t (Senior a b) l z = z
lead_due t (Exclude x m) l z = refl
lead_due t (Member r) l z = absurd (true≢false (sym l))
lead_due t (Limit r n) l z = z
lead_due t End l z = z
lead_due t Unknown l z = z

-- and none of them was had yet
no_members : (t : Scan) (ms : List ℕ) → length ms ≡ 0 → Each (λ w. has t.members (member_role w) ≡ false) ms
no_members t ms n = subst (Each (λ w. has t.members (member_role w) ≡ false)) (sym (nil_of ms n)) tt

lead_members : (t : Scan) (e : Entry) (ms : List ℕ) → leads e ≡ true → length ms ≡ due_behind e
    → Each (λ w. has (next t e).members (member_role w) ≡ false) ms
unfolding leads next due_behind
lead_members t (Assignment u r) ms l n = no_members t ms n
lead_members t (Grant r p) ms l n = no_members t ms n
lead_members t (Senior a b) ms l n = no_members t ms n
lead_members t (Exclude x m) ms l n = each_of (λ w. has 0 (member_role w) ≡ false) (λ w. has_none (member_role w)) ms
lead_members t (Member r) ms l n = absurd (true≢false (sym l))
lead_members t (Limit r k) ms l n = no_members t ms n
lead_members t End ms l n = no_members t ms n
lead_members t Unknown ms l n = no_members t ms n

-- ---- words are left
left_behind : (ms rest : List ℕ) → none rest ≡ false → none (ms ++ rest) ≡ false
left_behind [] rest e = e
left_behind (m ∷ ms) rest e = refl

neither : (a b : Bool) → a ≡ false → b ≡ false → (a || b) ≡ false
neither true b e f = e
neither false b e f = f

module _ (h : Head) where
  -- ---- members: as many as are due, then the rest
  members-scan : (ms rest : List ℕ) (rows : List ℕ) (t : Scan) → none rest ≡ false → length ms ≡ t.due → Each (RightMember h) ms
      → Distinct (map member_role ms) → Each (λ w. has t.members (member_role w) ≡ false) ms → Room rows t (map entry_of (ms ++ rest))
      → ((rows' : List ℕ) (t' : Scan) → t'.due ≡ 0 → Room rows' t' (map entry_of rest) → Scans h rows' t' rest)
      → Scans h rows t (ms ++ rest)
  members-scan [] rest rows t l n m d f r k = k rows t (sym n) r
  members-scan (w ∷ ms) rest rows t l n m d f r k = (
    record {
      kind = unfold wrong_kind in
          (ap (λ (b : Bool). wrong_kind b t.due (entry_of w)) (left_behind ms rest l) ∙ ap (wrong_kind false t.due) m.0.says
          ∙ ne_eqb t.due 0 (λ z. omega arith));
      spare = m.0.spare;
      range = unfold in_range in (ap (in_range h) m.0.says ∙ lt-ltb (member_role w) h.roles m.0.range);
      fresh = unfold repeats in (ap (repeats t) m.0.says ∙ f.0);
      room = r.0;
    },
    members-scan ms rest (assigning rows (entry_of w)) (next t (entry_of w)) l
        (unfold next in (count_down t.due n ∙ sym (ap (λ (e : Entry). (next t e).due) m.0.says))) m.1 d.1
        (unfold next in
        (subst (λ (s : ℕ). Each (λ v. has s (member_role v) ≡ false) ms) (sym (ap (λ (e : Entry). (next t e).members) m.0.says))
        (each_two (λ v. ¬ (member_role w ≡ member_role v)) (λ v. has t.members (member_role v) ≡ false)
        (λ v. has (with t.members (member_role w)) (member_role v) ≡ false)
        (λ v e g. has-with t.members (member_role w) (member_role v) ∙ neither _ _ g (ne_eqb (member_role v) (member_role w) (λ q. e (sym q)))) ms
        (map_each (λ y. ¬ (member_role w ≡ y)) member_role ms d.0) f.1)))
        r.1 k,
  )
    where
      count_down : {n : ℕ} (d : ℕ) → suc n ≡ d → n ≡ d - 1
      count_down d e = omega arith

  -- ---- groups, by induction, then the last word
  pub groups_scan : (gs : List Group) (last : ℕ) (rows : List ℕ) (t : Scan) → t.due ≡ 0 → Each (RightGroup h) gs → entry_of last ≡ End
      → Room rows t (map entry_of (spread gs ++ (last ∷ []))) → Scans h rows t (spread gs ++ (last ∷ []))
  unfolding spread
  groups_scan [] last rows t z g e r = (
    record {
      kind = unfold wrong_kind in (ap (wrong_kind true t.due) e ∙ not-zero t.due z);
      spare = end_spare last e;
      range = unfold in_range in ap (in_range h) e;
      fresh = unfold repeats in ap (repeats t) e;
      room = r.0;
    },
    tt,
  )
  groups_scan (g ∷ gs) last rows t z q e r =
      let w = g.word in
      let rest = spread gs ++ (last ∷ []) in
      let assoc = append_assoc g.members (spread gs) (last ∷ []) in
      subst (λ (l : List ℕ). Scans h rows t (w ∷ l)) (sym assoc) (
        record {
          kind =
              ap (λ (b : Bool). wrong_kind b t.due (entry_of w)) (left_behind g.members rest (left_behind (spread gs) (last ∷ []) refl))
              ∙ lead_kind t.due (entry_of w) q.0.leading z;
          spare = q.0.spare;
          range = q.0.range;
          fresh = lead_fresh t (entry_of w) q.0.leading q.0.apart;
          room = r.0;
        },
        members-scan g.members rest (assigning rows (entry_of w)) (next t (entry_of w)) (left_behind (spread gs) (last ∷ []) refl)
            (q.0.whole ∙ sym (lead_due t (entry_of w) q.0.leading z)) q.0.members q.0.distinct
            (lead_members t (entry_of w) g.members q.0.leading q.0.whole)
            (subst (λ (l : List ℕ). Room (assigning rows (entry_of w)) (next t (entry_of w)) (map entry_of l)) assoc r.1)
            (λ rows' t' z' r'. groups_scan gs last rows' t' z' q.1 e r'),
      )

  -- ---- the words of right groups are in range
  pub groups_range : (gs : List Group) (last : ℕ) → Each (RightGroup h) gs → entry_of last ≡ End
      → Each (λ w. in_range h (entry_of w) ≡ true) (spread gs ++ (last ∷ []))
  unfolding spread in_range
  groups_range [] last g e = (ap (in_range h) e, tt)
  groups_range (g ∷ gs) last q e = (
    q.0.range,
    subst (Each (λ w. in_range h (entry_of w) ≡ true)) (sym (append_assoc g.members (spread gs) (last ∷ [])))
        (each_append (λ w. in_range h (entry_of w) ≡ true) g.members (spread gs ++ (last ∷ [])) (in-range g.members q.0.members)
        (groups_range gs last q.1 e)),
  )
    where
      in-range : (ms : List ℕ) → Each (RightMember h) ms → Each (λ w. in_range h (entry_of w) ≡ true) ms
      in-range [] m = tt
      in-range (w ∷ ms) m = (ap (in_range h) m.0.says ∙ lt-ltb (member_role w) h.roles m.0.range, in-range ms m.1)
