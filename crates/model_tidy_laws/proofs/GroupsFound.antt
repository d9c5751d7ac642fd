-- Words without fault are whole groups, each right by itself, and then an end word.
-- Assumes nothing.
use mathlib.Core.Path.{◌≡◌, refl, sym, ap, ◌∙◌, subst}
use mathlib.Core.Bool.{true, false, true≢false}
use mathlib.Core.List.{List, [], ◌∷◌, ◌++◌, map, append_assoc}
use Prim.Native.Nat.{ℕ, zero, suc, ◌-◌, ◌<◌}
use native.Mathlib.Omega.{arith}
use lib.ListN.{length}
use borrow.Author.Tests.{eqb-false, ltb-true}
use Rattle.model.specs.declared.Head.{Head}
use Rattle.model.specs.declared.Role.{Role}
use Rattle.model.specs.declared.Word.{Word}
use Rattle.model.specs.declared.Entry.{Entry}
use Rattle.model.specs.declared.Entry.TheVariants.{Assignment, Grant, Senior, Exclude, Member, End, Unknown, Limit}
use Rattle.model.specs.declared.Scan.{Scan}
use Rattle.model.specs.Sets.{has, with}
use Rattle.model.specs.Image.{is_kind, decode, wrong_kind, in_range, repeats, assigning, next, start}
use Rattle.model.specs.Ranges.{Each}
use Rattle.model_tidy.specs.Groups.{entry_of, member_role, Group, spread, leads, due_behind, Distinct, RightMember, RightGroup}
use Rattle.model_laws.proofs.Bools.{pick-case, or_false_l, or_false_r}
use Rattle.model_laws.proofs.Eachs.{each_by, each_map, nil_of}
use Rattle.model_laws.proofs.SetLaws.{has-with}
use Rattle.model_laws.proofs.Scanned.{turn-of}
use Rattle.model_tidy_laws.proofs.ScanWords.{Scans}

-- ---- what lies ahead of a state: the members that are due, then groups, then the last word
pub record Ahead (h : Head) (t : Scan) (ws : List ℕ) : Type 0 where
  pub due : List ℕ
  pub groups : List Group
  pub last : ℕ
  pub words : ws ≡ due ++ (spread groups ++ (last ∷ []))
  pub size : length due ≡ t.due
  pub members : Each (RightMember h) due
  pub distinct : Distinct (map member_role due)
  pub fresh : Each (λ w. has t.members (member_role w) ≡ false) due
  pub right : Each (RightGroup h) groups
  pub ends : entry_of last ≡ End

-- ---- a member word names its role field
member_or : Entry → ℕ → ℕ
member_or (Assignment u r) d = d
member_or (Grant r p) d = d
member_or (Senior a b) d = d
member_or (Exclude x m) d = d
member_or (Member r) d = r.0
member_or (Limit r t) d = d
member_or End d = d
member_or Unknown d = d

member_field : (w : ℕ) → member_or (entry_of w) (member_role w) ≡ member_role w
unfolding decode member_or
member_field w =
    let P : Word → Type 0 = λ x. member_or x.entry (member_role w) ≡ member_role w in
    pick-case P (is_kind w 2) _ _ (λ _. refl)
    (λ _. pick-case P (is_kind w 3) _ _ (λ _. refl)
    (λ _. pick-case P (is_kind w 4) _ _ (λ _. refl)
    (λ _. pick-case P (is_kind w 5) _ _ (λ _. refl)
    (λ _. pick-case P (is_kind w 6) _ _ (λ _. refl)
    (λ _. pick-case P (is_kind w 7) _ _ (λ _. refl) (λ _. pick-case P (is_kind w 15) _ _ (λ _. refl) (λ _. refl)))))))

pub member_role_lem : (w : ℕ) (r : Role) → entry_of w ≡ Member r → r.0 ≡ member_role w
unfolding member_or
member_role_lem w r e = ap (λ (x : Entry). member_or x (member_role w)) (sym e) ∙ member_field w

-- ---- one word more in front
module _ (h : Head) (t : Scan) (w : ℕ) (ws : List ℕ) (spare : (decode w).spare ≡ 0) where
  -- a group of one word
  alone : (e : Entry) → entry_of w ≡ e → leads e ≡ true → due_behind e ≡ 0 → in_range h e ≡ true → repeats start e ≡ false
      → t.due ≡ 0 → Ahead h t ws → Ahead h t (w ∷ ws)
  unfolding spread
  alone e q l z r f d a =
      let n = nil_of a.due (a.size ∙ d) in
      record {
        due = [];
        groups = record { word = w; members = [] } ∷ a.groups;
        last = a.last;
        words = ap (λ (x : List ℕ). w ∷ x) (a.words ∙ ap (λ (x : List ℕ). x ++ (spread a.groups ++ (a.last ∷ []))) n);
        size = sym d;
        members = tt;
        distinct = tt;
        fresh = tt;
        right = (
          record {
            leading = ap leads q ∙ l;
            spare = spare;
            range = ap (in_range h) q ∙ r;
            apart = ap (repeats start) q ∙ f;
            whole = sym (ap due_behind q ∙ z);
            members = tt;
            distinct = tt;
          },
          a.right,
        );
        ends = a.ends;
      }

  ahead_more : (e : Entry) → entry_of w ≡ e → wrong_kind false t.due e ≡ false → in_range h e ≡ true → repeats t e ≡ false
      → Ahead h (next t e) ws → Ahead h t (w ∷ ws)
  unfolding wrong_kind in_range repeats next leads due_behind
  ahead_more (Assignment u r) q k g f a = alone (Assignment u r) q refl refl g f (turn-of false t.due (Assignment u r) k) a
  ahead_more (Grant r p) q k g f a = alone (Grant r p) q refl refl g f (turn-of false t.due (Grant r p) k) a
  ahead_more (Senior b c) q k g f a = alone (Senior b c) q refl refl g f (turn-of false t.due (Senior b c) k) a
  ahead_more (Exclude x m) q k g f a =
      record {
        due = [];
        groups = record { word = w; members = a.due } ∷ a.groups;
        last = a.last;
        words = unfold spread in ap (λ (l : List ℕ). w ∷ l) (a.words ∙ sym (append_assoc a.due (spread a.groups) (a.last ∷ [])));
        size = sym (turn-of false t.due (Exclude x m) k);
        members = tt;
        distinct = tt;
        fresh = tt;
        right = (
          record {
            leading = ap leads q;
            spare = spare;
            range = ap (in_range h) q ∙ g;
            apart = ap (repeats start) q;
            whole = a.size ∙ sym (ap due_behind q);
            members = a.members;
            distinct = a.distinct;
          },
          a.right,
        );
        ends = a.ends;
      }
  ahead_more (Member r) q k g f a =
      let i = member_role_lem w r q in
      record {
        due = w ∷ a.due;
        groups = a.groups;
        last = a.last;
        words = ap (λ (l : List ℕ). w ∷ l) a.words;
        size = let z = turn-of false t.due (Member r) k in more t.due z a.size;
        members = (
          record {
            says = q ∙ (λ j. Member (record { 0 = i j }));
            spare = spare;
            range = subst (λ (n : ℕ). n < h.roles) i (ltb-true r.0 h.roles g);
          },
          a.members,
        );
        distinct = (
          each_map (λ y. ¬ (member_role w ≡ y)) member_role a.due
              (each_by (λ v. has (with t.members r.0) (member_role v) ≡ false) (λ v. ¬ (member_role w ≡ member_role v))
              (λ v e s. eqb-false (member_role v) r.0
              (or_false_r (has t.members (member_role v)) _ (sym (has-with t.members r.0 (member_role v)) ∙ e)) (sym s ∙ sym i))
              a.due a.fresh),
          a.distinct,
        );
        fresh = (
          ap (has t.members) (sym i) ∙ f,
          each_by (λ v. has (with t.members r.0) (member_role v) ≡ false) (λ v. has t.members (member_role v) ≡ false)
              (λ v e. or_false_l _ _ (sym (has-with t.members r.0 (member_role v)) ∙ e)) a.due a.fresh,
        );
        right = a.right;
        ends = a.ends;
      }
    where
      more : (d : ℕ) {n : ℕ} → (d ≡ 0 → ⊥) → n ≡ d - 1 → suc n ≡ d
      more zero z e = absurd (z refl)
      more (suc d) z e = omega arith
  ahead_more (Limit r n) q k g f a = alone (Limit r n) q refl refl g f (turn-of false t.due (Limit r n) k) a
  ahead_more End q k g f a = absurd (true≢false k)
  ahead_more Unknown q k g f a = absurd (true≢false k)

  -- the last word is an end word, and no member is due
  ahead_last : (e : Entry) → entry_of w ≡ e → wrong_kind true t.due e ≡ false → Ahead h t (w ∷ [])
  unfolding wrong_kind spread
  ahead_last (Assignment u r) q k = absurd (true≢false k)
  ahead_last (Grant r p) q k = absurd (true≢false k)
  ahead_last (Senior b c) q k = absurd (true≢false k)
  ahead_last (Exclude x m) q k = absurd (true≢false k)
  ahead_last (Member r) q k = absurd (true≢false k)
  ahead_last (Limit r n) q k = absurd (true≢false k)
  ahead_last End q k =
      record {
        due = [];
        groups = [];
        last = w;
        words = refl;
        size = sym (turn-of true t.due End k);
        members = tt;
        distinct = tt;
        fresh = tt;
        right = tt;
        ends = q;
      }
  ahead_last Unknown q k = absurd (true≢false k)

-- ---- by induction on the words
pub ahead : (h : Head) (w : ℕ) (ws : List ℕ) (rows : List ℕ) (t : Scan) → Scans h rows t (w ∷ ws) → Ahead h t (w ∷ ws)
ahead h w [] rows t c = ahead_last h t w [] c.0.spare (entry_of w) refl c.0.kind
ahead h w (v ∷ ws) rows t c =
    ahead_more h t w (v ∷ ws) c.0.spare (entry_of w) refl c.0.kind c.0.range c.0.fresh
    (ahead h v ws (assigning rows (entry_of w)) (next t (entry_of w)) c.1)
