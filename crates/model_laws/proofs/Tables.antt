-- The policy of an image is what its words say: a bit of a table is set exactly if some word names it, an exclusion is
-- there exactly if its words are.
-- Assumes nothing.
use mathlib.Core.Path.{◌≡◌, refl, sym, ap, ◌∙◌, subst}
use mathlib.Core.Logic.{◌⊎◌, inl, inr, ◌↔◌}
use mathlib.Core.Bool.{Bool, true, false}
use mathlib.Core.List.Memᴰ
use mathlib.Core.List.{List, [], ◌∷◌, ◌++◌, Memᴰ}
use Prim.Native.Nat.{ℕ, zero, suc, ◌+◌, ◌/◌, ◌^◌, ◌≤◌, ◌<◌}
use native.Mathlib.Nat.{mod-lt, le_refl}
use native.Mathlib.Decide.{dec_lt, ℕ_discrete}
use native.Mathlib.Omega.{arith}
use lib.Dec.{eqb, lit<}
use lib.Pow.{pow_pos}
use lib.ListN.{get_or, length, set, take, length-set, length-replicate, get_or-replicate, get_or-eq_default}
use lib.Seq.{get_or-set_same, get_or-set_other}
use borrow.Author.Tests.{eq-eqb}
use Rattle.model.specs.declared.Word.{Word}
use Rattle.model.specs.declared.Exclusion.{Exclusion}
use Rattle.model.specs.declared.Entry.{Entry}
use Rattle.model.specs.declared.Entry.TheVariants.{Assignment, Grant, Senior, Exclude, Member, Limit, End, Unknown}
use Rattle.model.specs.Sets.{has, with}
use Rattle.model.specs.Image.{user, role, permission, field, is_kind, kind_of, behind_head, word_at, decode, assigning, empty_rows}
use Rattle.model.specs.Policy.{entry_at, entries_from, entries_of, granting, ordering, limiting, fold, joining, with_members, exclusions_of, policy_of}
use Rattle.model.specs.Read.{Said, Excluded, ReadOff}
use Rattle.model_laws.proofs.Bools.{not_both, pick-case}
use Rattle.model_laws.proofs.SetLaws.{union_l, with_new, with_cases}
use Rattle.model_laws.proofs.UnionLaws.{has_none}
use Rattle.model_laws.proofs.Entries.{sort, row_of, item_of, assigning-case, granting-case, ordering-case, limiting-case, exclusion-case}

-- ---- entries told apart
-- the members that an exclusion word brings itself
abbrev own_members : Entry → ℕ
own_members (Assignment u r) = 0
own_members (Grant r p) = 0
own_members (Senior a b) = 0
own_members (Exclude x m) = x.members
own_members (Member r) = 0
own_members (Limit r t) = 0
own_members End = 0
own_members Unknown = 0

-- a fact that an entry of another sort than the named one leaves as it is
kept : {P : Type 0} {named e : Entry} → eqb (sort named) (sort e) ≡ false → P ↔ (P ⊎ (named ≡ e))
kept {P} {named} {e} q = (
  λ h. inl h,
  λ h. elim h [ inl p ↦ p | inr p ↦ not_both (eqb (sort named) (sort e)) (eq-eqb (sort named) (sort e) (ap sort p)) q ],
)

-- ---- the entries taken in one by one: where each step adds exactly the named entry's fact, the whole adds it if the
-- entry is among them
module _ {A : Type 0} (step : A → Entry → A) (good : A → Type 0) (keeps : (a : A) (e : Entry) → good a → good (step a e))
    (holds : A → Bool) (named : Entry)
    (one : (a : A) (e : Entry) → good a → (holds (step a e) ≡ true) ↔ ((holds a ≡ true) ⊎ (named ≡ e))) where
  fold-holds : (es : List Entry) (a : A) → good a → (holds (fold step a es) ≡ true) ↔ ((holds a ≡ true) ⊎ Memᴰ named es)
  unfolding fold
  fold-holds [] a g = (λ h. inl h, λ h. elim h [ inl e ↦ e | inr m ↦ absurd (Memᴰ.not-nil m) ])
  fold-holds (e ∷ es) a g =
      let f = one a e g in
      let k = fold-holds es (step a e) (keeps a e g) in (
        λ h. elim (k.0 h) [
          | inl p ↦ elim (f.0 p) [ inl q ↦ inl q | inr q ↦ inr (Memᴰ.head q) ]
          | inr p ↦ inr (Memᴰ.tail p)
        ],
        λ h. elim h [
          | inl p ↦ k.1 (inl (f.1 (inl p)))
          | inr p ↦ elim (Memᴰ.cases_cons p) [ inl q ↦ k.1 (inl (f.1 (inr q))) | inr q ↦ k.1 (inr q) ]
        ],
      )

-- ---- a bit put into a row of a table
module _ (rows : List ℕ) (u r v q : ℕ) (fits : u < length rows) where
  -- bit r of row u is set after bit q was put into row v exactly if it was, or it is the one put in
  stored : {E : Type 0} → E ↔ ((u ≡ v) × (r ≡ q))
      → (has (get_or (set rows v (with (get_or rows v 0) q)) u 0) r ≡ true) ↔ ((has (get_or rows u 0) r ≡ true) ⊎ E)
  stored f =
      elim (ℕ_discrete u v) [
        | yes e ↦
            let same : get_or (set rows v (with (get_or rows v 0) q)) u 0 ≡ with (get_or rows u 0) q = rw (← e) (get_or-set_same rows u _ 0 fits) in (
              λ h. elim (with_cases (get_or rows u 0) q r (rw same at h)) [ inl p ↦ inl p | inr p ↦ inr (f.1 (e, p)) ],
              λ h. rw same (elim h [ inl p ↦ union_l (get_or rows u 0) (2 ^ q) r p | inr p ↦ rw (f.0 p).1 (with_new (get_or rows u 0) q) ]),
            )
        | no n ↦
            let other = get_or-set_other rows v u (with (get_or rows v 0) q) 0 n in
            (λ h. inl (rw other at h), λ h. rw other (elim h [ inl p ↦ p | inr p ↦ absurd (n (f.0 p).0) ]))
      ]

-- ---- one entry taken into each table
-- the number of rows stays
pub assigning-length : (rows : List ℕ) (e : Entry) → length (assigning rows e) ≡ length rows
assigning-length rows = assigning-case (λ _ t. length t ≡ length rows) rows (λ u r. length-set rows u.0 _) (λ _ _. refl)

pub granting-length : (rows : List ℕ) (e : Entry) → length (granting rows e) ≡ length rows
granting-length rows = granting-case (λ _ t. length t ≡ length rows) rows (λ r p. length-set rows r.0 _) (λ _ _. refl)

pub ordering-length : (rows : List ℕ) (e : Entry) → length (ordering rows e) ≡ length rows
ordering-length rows = ordering-case (λ _ t. length t ≡ length rows) rows (λ a b. length-set rows a.0 _) (λ _ _. refl)

pub limiting-length : (rows : List ℕ) (e : Entry) → length (limiting rows e) ≡ length rows
limiting-length rows = limiting-case (λ _ t. length t ≡ length rows) rows (λ r t. length-set rows r.0 _) (λ _ _. refl)

-- ---- bit r of row u is set after an entry exactly if it was, or the entry names it
module _ (u r : ℕ) (rows : List ℕ) (e : Entry) (h : u < length rows) where
  abbrev Adds : Entry → Entry → List ℕ → Type 0
  Adds named e t = (has (get_or t u 0) r ≡ true) ↔ ((has (get_or rows u 0) r ≡ true) ⊎ (named ≡ e))

  assigning-one : Adds (Assignment (user u) (role r)) e (assigning rows e)
  assigning-one =
      assigning-case (Adds (Assignment (user u) (role r))) rows
      (λ v q. stored rows u r v.0 q.0 h
      (λ e. (ap row_of e, ap item_of e), λ e i. Assignment (record { 0 = e.0 i }) (record { 0 = e.1 i }))) (λ _ q. kept q) e

  granting-one : Adds (Grant (role u) (permission r)) e (granting rows e)
  granting-one =
      granting-case (Adds (Grant (role u) (permission r))) rows
      (λ v q. stored rows u r v.0 q.0 h
      (λ e. (ap row_of e, ap item_of e), λ e i. Grant (record { 0 = e.0 i }) (record { 0 = e.1 i }))) (λ _ q. kept q) e

  ordering-one : Adds (Senior (role u) (role r)) e (ordering rows e)
  ordering-one =
      ordering-case (Adds (Senior (role u) (role r))) rows
      (λ v q. stored rows u r v.0 q.0 h
      (λ e. (ap row_of e, ap item_of e), λ e i. Senior (record { 0 = e.0 i }) (record { 0 = e.1 i }))) (λ _ q. kept q) e

-- ---- empty rows: there are 64, and no bit is set
pub empty_length : length empty_rows ≡ 64
unfolding empty_rows
empty_length = length-replicate {A = ℕ} 64 0

empty_bit : (u r : ℕ) → u < 64 → has (get_or empty_rows u 0) r ≡ false
unfolding empty_rows
empty_bit u r h = ap (λ (x : ℕ). has x r) (get_or-replicate 64 u 0 0 h) ∙ has_none r

-- ---- a table of 64 rows, from empty rows on: a bit is set exactly if the entry that names it is among the entries
module _ (step : List ℕ → Entry → List ℕ) (size : (rows : List ℕ) (e : Entry) → length (step rows e) ≡ length rows)
    (u r : ℕ) (named : Entry)
    (one : (rows : List ℕ) (e : Entry) → u < length rows
    → (has (get_or (step rows e) u 0) r ≡ true) ↔ ((has (get_or rows u 0) r ≡ true) ⊎ (named ≡ e))) where
  -- the number of rows stays
  fold-length : (es : List Entry) (rows : List ℕ) → length (fold step rows es) ≡ length rows
  unfolding fold
  fold-length [] rows = refl
  fold-length (e ∷ es) rows = fold-length es (step rows e) ∙ size rows e

  -- beyond the rows there is no bit
  beyond : (es : List Entry) → 64 ≤ u → has (get_or (fold step empty_rows es) u 0) r ≡ false
  beyond es h =
      ap (λ (x : ℕ). has x r)
      (get_or-eq_default (fold step empty_rows es) 0 (omega (arith, fold-length es empty_rows, empty_length))) ∙ has_none r

  -- the bit of the named entry, where that entry, if it is there, names a row below 64
  table_holds : (es : List Entry) → (Memᴰ named es → u < 64)
      → (has (get_or (fold step empty_rows es) u 0) r ≡ true) ↔ Memᴰ named es
  table_holds es low =
      elim (dec_lt u 64) [
        | yes h ↦
            let whole =
            fold-holds step (λ rows. u < length rows) (λ rows e l. omega (arith, size rows e)) (λ rows. has (get_or rows u 0) r) named one es
            empty_rows (omega (arith, empty_length)) in
            (λ e. elim (whole.0 e) [ inl p ↦ not_both _ p (empty_bit u r h) | inr p ↦ p ], λ m. whole.1 (inr m))
        | no h ↦ (λ e. not_both _ e (beyond es (omega arith)), λ m. absurd (h (low m)))
      ]

-- ---- the entries of an image, by their places
-- one of n words from the place on says e
record Within (s : List ℕ) (n place : ℕ) (e : Entry) : Type 0 where
  at : ℕ
  from : place ≤ at
  to : at < place + n
  says : entry_at s at ≡ e

module _ (s : List ℕ) (e : Entry) where
  -- an entry of n words from the place on stands at one of them
  entries_within : (n place : ℕ) → Memᴰ e (entries_from s n place) → Within s n place e
  unfolding entries_from
  entries_within zero place m = absurd (Memᴰ.not-nil m)
  entries_within (suc n) place m =
      elim (Memᴰ.cases_cons m) [
        | inl q ↦ record { at = place; from = le_refl place; to = omega arith; says = sym q }
        | inr q ↦ let w = entries_within n (place + 1) q in record { at = w.at; from = omega arith; to = omega arith; says = w.says }
      ]

  -- what a word of them says is an entry
  within_entries : (n place : ℕ) → Within s n place e → Memᴰ e (entries_from s n place)
  unfolding entries_from
  within_entries zero place w = absurd (omega arith)
  within_entries (suc n) place w =
      elim (ℕ_discrete w.at place) [
        | yes q ↦ Memᴰ.head (sym w.says ∙ ap (entry_at s) q)
        | no q ↦ Memᴰ.tail (within_entries n (place + 1) (record { at = w.at; from = omega arith; to = omega arith; says = w.says }))
      ]

  -- an entry of the image is what some word behind the head says
  entries_said : Memᴰ e (entries_of s) ↔ Said s e
  unfolding entries_of
  entries_said = (
    λ m.
        let w = entries_within (behind_head s) 1 m in
        record { place = w.at; behind = w.from; within = omega arith; says = w.says },
    λ w.
        within_entries (behind_head s) 1 (record { at = w.place; from = w.behind; to = omega arith; says = w.says }),
  )

-- ---- what every decoded word has: a row below 64, no member of its own
module _ (P : Entry → Type 0)
    (by_kind : (w : ℕ)
    → P (Assignment (user (field w 22 6)) (role (field w 16 6))) × P (Grant (role (field w 22 6)) (permission (field w 14 8)))
    × P (Senior (role (field w 22 6)) (role (field w 16 6)))
    × P (Exclude (record { kind = kind_of (field w 26 2); n = field w 19 7; members = 0 }) (field w 12 7))
    × P (Member (role (field w 22 6))) × P (Limit (role (field w 22 6)) (field w 13 9)) × P End × P Unknown) where
  -- the fact of a word's entry
  of_word : Word → Type 0
  of_word d = P d.entry

  -- what holds of each kind of word holds of every word
  pub decoded : (w : ℕ) → P (decode w).entry
  unfolding decode of_word
  decoded w =
      pick-case of_word (is_kind w 2) _ _ (λ e. (by_kind w).0)
      (λ e. pick-case of_word (is_kind w 3) _ _ (λ e. (by_kind w).1)
      (λ e. pick-case of_word (is_kind w 4) _ _ (λ e. (by_kind w).2)
      (λ e. pick-case of_word (is_kind w 5) _ _ (λ e. (by_kind w).3)
      (λ e. pick-case of_word (is_kind w 6) _ _ (λ e. (by_kind w).4)
      (λ e. pick-case of_word (is_kind w 7) _ _ (λ e. (by_kind w).5)
      (λ e. pick-case of_word (is_kind w 15) _ _ (λ e. (by_kind w).6) (λ e. (by_kind w).7)))))))

  -- and of every entry of an image
  pub of_entry : (s : List ℕ) (e : Entry) → Memᴰ e (entries_of s) → P e
  unfolding entry_at
  of_entry s e m = let w = (entries_said s e).0 m in subst P w.says (decoded (word_at s w.place))

-- an entry of an image names a row below 64
pub entry_row : (s : List ℕ) (e : Entry) → Memᴰ e (entries_of s) → row_of e < 64
entry_row =
    of_entry (λ e. row_of e < 64)
    (λ w. let top = mod-lt (w / 2 ^ 22) (pow_pos 6) in (top, top, top, lit< tt, lit< tt, top, lit< tt, lit< tt))

-- an exclusion word brings no member itself
entry_bare : (s : List ℕ) (e : Entry) → Memᴰ e (entries_of s) → own_members e ≡ 0
entry_bare = of_entry (λ e. own_members e ≡ 0) (λ w. (refl, refl, refl, refl, refl, refl, refl, refl))

-- ---- members
-- one entry taken in: a role is put into an exclusion exactly if a member word names it
joining-one : (r : ℕ) (s : ℕ) (e : Entry) → Unit {0} → (has (joining s e) r ≡ true) ↔ ((has s r ≡ true) ⊎ (Member (role r) ≡ e))
unfolding joining
joining-one r s (Assignment u q) h = kept refl
joining-one r s (Grant q p) h = kept refl
joining-one r s (Senior a b) h = kept refl
joining-one r s (Exclude x m) h = kept refl
joining-one r s (Member q) h = (
  λ e. elim (with_cases s q.0 r e) [ inl p ↦ inl p | inr p ↦ inr (λ i. Member (record { 0 = p i })) ],
  λ e. elim e [ inl p ↦ union_l s (2 ^ q.0) r p | inr p ↦ rw (ap item_of p) (with_new s q.0) ],
)
joining-one r s (Limit q t) h = kept refl
joining-one r s End h = kept refl
joining-one r s Unknown h = kept refl

-- the members that entries bring
members-named : (y : Exclusion) (es : List Entry) (r : ℕ)
    → (has (with_members y es).members r ≡ true) ↔ ((has y.members r ≡ true) ⊎ Memᴰ (Member (role r)) es)
unfolding with_members
members-named y es r =
    fold-holds joining (λ s. Unit {0}) (λ s e h. tt) (λ s. has s r) (Member (role r)) (joining-one r) es y.members tt

-- ---- exclusions, each by its words
-- an exclusion stays one behind a further entry
excluded_behind : (e : Entry) (es : List Entry) {x : Exclusion} → Excluded es x → Excluded (e ∷ es) x
excluded_behind e es w =
    record {
      before = e ∷ w.before;
      word = w.word;
      size = w.size;
      after = w.after;
      parts = ap (λ (l : List Entry). e ∷ l) w.parts;
      whole = w.whole;
    }

-- and in the list of exclusions
exclusions_behind : (e : Entry) (es : List Entry) {x : Exclusion} → Memᴰ x (exclusions_of es) → Memᴰ x (exclusions_of (e ∷ es))
unfolding exclusions_of
exclusions_behind e es {x} m =
    exclusion-case (λ e. Memᴰ x (exclusions_of (e ∷ es))) (λ y k. Memᴰ.tail m) (λ _ q _. rw (q es) m) e

module _ (x : Exclusion) where
  -- an exclusion of the list has its words
  exclusions_excluded : (es : List Entry) → Memᴰ x (exclusions_of es) → Excluded es x
  unfolding exclusions_of
  exclusions_excluded [] m = absurd (Memᴰ.not-nil m)
  exclusions_excluded (e ∷ es) m =
      exclusion-case (λ e. Memᴰ x (exclusions_of (e ∷ es)) → Excluded (e ∷ es) x)
      (λ y k n. elim (Memᴰ.cases_cons n) [
        | inl q ↦ record { before = []; word = y; size = k; after = es; parts = refl; whole = q }
        | inr q ↦ excluded_behind (Exclude y k) es (exclusions_excluded es q)
      ]) (λ e q _ n. excluded_behind e es (exclusions_excluded es (rw (q es) at n))) e m

  -- words of an exclusion put it into the list
  exclusions_at_lem : (before : List Entry) (y : Exclusion) (k : ℕ) (after : List Entry) → x ≡ with_members y (take k after)
      → Memᴰ x (exclusions_of (before ++ (Exclude y k ∷ after)))
  unfolding exclusions_of
  exclusions_at_lem [] y k after q = Memᴰ.head q
  exclusions_at_lem (e ∷ es) y k after q = exclusions_behind e (es ++ (Exclude y k ∷ after)) (exclusions_at_lem es y k after q)

  -- the exclusions read off entries are those whose words are among them
  exclusions_by_words : (es : List Entry) → Memᴰ x (exclusions_of es) ↔ Excluded es x
  exclusions_by_words es = (
    exclusions_excluded es,
    λ w.
        rw w.parts (exclusions_at_lem w.before w.word w.size w.after w.whole),
  )

-- ---- the policy of every image is what its words say
pub read_off : (s : List ℕ) → ReadOff s
unfolding policy_of
read_off s =
    record {
      entries = entries_said s;
      assigned =
          λ u r.
          table_holds assigning assigning-length u r (Assignment (user u) (role r)) (assigning-one u r) (entries_of s)
          (entry_row s (Assignment (user u) (role r)));
      granted =
          λ r m.
          table_holds granting granting-length r m (Grant (role r) (permission m)) (granting-one r m) (entries_of s)
          (entry_row s (Grant (role r) (permission m)));
      juniors =
          λ a b.
          table_holds ordering ordering-length a b (Senior (role a) (role b)) (ordering-one a b) (entries_of s)
          (entry_row s (Senior (role a) (role b)));
      exclusions = λ x. exclusions_by_words x (entries_of s);
      bare = λ y m. entry_bare s (Exclude y m);
      members = members-named;
    }
